use Rattle.std.specs.Prelude.{slice_index, slice_index_or, slice_range}
use Rattle.std.proofs.Common.{rules, map, refl, ◌+◌, length, ◌<◌, ◌≡◌, ◌∙◌, ap, sym, subst, [], Some, None, slice_get}
use Rattle.std.specs.List.{All, zip}
use Rattle.division.proofs.Meeting.{read_place}
use Rattle.division.proofs.Ruling.{order_low, place_low, tails_low, entry_low, places_low, element_low, from_low, is_tail, ruled_some, ruled_none, at_set, apart_set, any_default, no_value}
use Rattle.division.specs.Ranks.{tail_at, IsRuledBy}
use Rattle.row_sweeps.specs.Rules.{Rules}
use Rattle.std.proofs.lemmas.Option.{slice_get_within}
use Rattle.division.proofs.rules.rule_position.Goals as goal
use Rattle.division.proofs.rules.rule_position.Goals.{After-index, After-positions_of, After-as_slice-in-Some}

pub bounds-order-at : goal.bounds-order-at
bounds-order-at c = order_low c.args.table.now.q c.args.coefs.now c.args.found.now c.args.ids.now c.args.tails.now c.args.order.now c.args.ranks.now c.requires.can c.args.at c.requires.low

pub bounds-ids-place : goal.bounds-ids-place
bounds-ids-place c = place_low c.args.table.now.q c.args.coefs.now c.args.found.now c.args.ids.now c.args.tails.now c.args.order.now c.args.ranks.now c.requires.can c.args.at c.requires.low

pub offset_bounds-ids-place : goal.offset_bounds-ids-place
offset_bounds-ids-place c =
    let low = place_low c.args.table.now.q c.args.coefs.now c.args.found.now c.args.ids.now c.args.tails.now c.args.order.now c.args.ranks.now c.requires.can c.args.at c.requires.low in search rules

-- which id is read
id_is : (c : After-index) → c.index.result ≡ slice_index c.args.ids.now (slice_index c.args.order.now c.args.at)
id_is c = c.index.ensures.index ∙ c.index-ids-place.is ∙ any_default c.args.ids.now (slice_index c.args.order.now c.args.at) c.index-ids-place.result 0 (place_low c.args.table.now.q c.args.coefs.now c.args.found.now c.args.ids.now c.args.tails.now c.args.order.now c.args.ranks.now c.requires.can c.args.at c.requires.low)

pub bounds : goal.bounds
bounds c = subst (λ i. i < length c.args.found.now) (sym (id_is c)) (entry_low c.args.table.now.q c.args.coefs.now c.args.found.now c.args.ids.now c.args.tails.now c.args.order.now c.args.ranks.now c.requires.can c.args.at c.requires.low)

pub offset_bounds-found-index : goal.offset_bounds-found-index
offset_bounds-found-index c = let low : c.index.result < length c.args.found.now = subst (λ i. i < length c.args.found.now) (sym (id_is c)) (entry_low c.args.table.now.q c.args.coefs.now c.args.found.now c.args.ids.now c.args.tails.now c.args.order.now c.args.ranks.now c.requires.can c.args.at c.requires.low) in search rules

pub bounds-tails-place : goal.bounds-tails-place
bounds-tails-place c = tails_low c.args.table.now.q c.args.coefs.now c.args.found.now c.args.ids.now c.args.tails.now c.args.order.now c.args.ranks.now c.requires.can c.args.at c.requires.low

pub offset_bounds-tails-place : goal.offset_bounds-tails-place
offset_bounds-tails-place c = let low = tails_low c.args.table.now.q c.args.coefs.now c.args.found.now c.args.ids.now c.args.tails.now c.args.order.now c.args.ranks.now c.requires.can c.args.at c.requires.low in search rules

pub positions_of-requires : goal.positions_of-requires
positions_of-requires c =
    let is = c.as_slice.ensures ∙ c.index-tails-place.is ∙ any_default c.args.tails.now (slice_index c.args.order.now c.args.at) c.index-tails-place.result [] (tails_low c.args.table.now.q c.args.coefs.now c.args.found.now c.args.ids.now c.args.tails.now c.args.order.now c.args.ranks.now c.requires.can c.args.at c.requires.low) in
    record { low = subst (All (λ j. j < length c.args.ranks.now)) (sym is) (places_low c.args.table.now.q c.args.coefs.now c.args.found.now c.args.ids.now c.args.tails.now c.args.order.now c.args.ranks.now c.requires.can c.args.at c.requires.low) }

-- what was read for an element
found_is : (c : After-positions_of) → slice_get c.args.found.now (slice_index c.args.ids.now (slice_index c.args.order.now c.args.at)) ≡ Some (Some c.in-Some.element)
found_is c = read_place c.args.found.now c.args.found.now c.index.result (slice_index c.args.ids.now (slice_index c.args.order.now c.args.at)) (Some c.in-Some.element) refl (c.index.ensures.index ∙ c.index-ids-place.is ∙ any_default c.args.ids.now (slice_index c.args.order.now c.args.at) c.index-ids-place.result 0 (place_low c.args.table.now.q c.args.coefs.now c.args.found.now c.args.ids.now c.args.tails.now c.args.order.now c.args.ranks.now c.requires.can c.args.at c.requires.low)) (entry_low c.args.table.now.q c.args.coefs.now c.args.found.now c.args.ids.now c.args.tails.now c.args.order.now c.args.ranks.now c.requires.can c.args.at c.requires.low) c.in-Some.is

tail_is : (c : After-as_slice-in-Some) → c.as_slice-in-Some.result.now ≡ tail_at c.args.tails.now c.args.ranks.now (slice_index c.args.order.now c.args.at)
tail_is c =
    let is = c.as_slice.ensures ∙ c.index-tails-place.is ∙ any_default c.args.tails.now (slice_index c.args.order.now c.args.at) c.index-tails-place.result [] (tails_low c.args.table.now.q c.args.coefs.now c.args.found.now c.args.ids.now c.args.tails.now c.args.order.now c.args.ranks.now c.requires.can c.args.at c.requires.low) in
    c.as_slice-in-Some.ensures.value ∙ c.in_ok-positions_of.ensures.positions ∙ ap (map (slice_index c.args.ranks.now)) is

pub bounds-froms-element : goal.bounds-froms-element
bounds-froms-element c = element_low c.args.table.now.q c.args.coefs.now c.args.found.now c.args.ids.now c.args.tails.now c.args.order.now c.args.ranks.now c.requires.can c.args.at c.requires.low c.args.table.now.coefs c.args.froms.now c.requires.stored c.in-Some.element (found_is (goal.at.bounds-froms-element c).After-positions_of)

pub add_rule-requires-clause-position : goal.add_rule-requires-clause-position
add_rule-requires-clause-position c = slice_get_within c.args.table.now.rules c.args.at None c.requires.none

pub add_rule-requires-clause-from : goal.add_rule-requires-clause-from
add_rule-requires-clause-from c = from_low c.args.table.now.q c.args.coefs.now c.args.found.now c.args.ids.now c.args.tails.now c.args.order.now c.args.ranks.now c.requires.can c.args.at c.requires.low c.args.table.now.coefs c.args.froms.now c.requires.stored c.in-Some.element (found_is (goal.at.add_rule-requires-clause-from c).After-positions_of) c.as_slice-in-Some.result.now (tail_is (goal.at.add_rule-requires-clause-from c).After-as_slice-in-Some)

pub add_rule-requires-clause-tail : goal.add_rule-requires-clause-tail
add_rule-requires-clause-tail c = is_tail c.args.table.now.q c.args.coefs.now c.args.found.now c.args.ids.now c.args.tails.now c.args.order.now c.args.ranks.now c.requires.can c.args.at c.requires.low c.args.table.now.coefs c.args.froms.now c.requires.stored c.in-Some.element (found_is (goal.at.add_rule-requires-clause-tail c).After-positions_of) c.as_slice-in-Some.result.now (tail_is (goal.at.add_rule-requires-clause-tail c).After-as_slice-in-Some)

pub returns-in_ok-add_rule-clause-ruled : goal.returns-in_ok-add_rule-clause-ruled
returns-in_ok-add_rule-clause-ruled c =
    let tail = c.as_slice-in-Some.result.now in
    let from = slice_index c.args.froms.now c.in-Some.element in
    let rule = Some (zip (slice_range c.args.table.now.coefs from (from + length tail)) tail) in
    let there = at_set c.args.table.now.rules c.add_rule.new.self.rules c.args.at rule (ap (λ (t : Rules). t.rules) c.in_ok-add_rule.ensures.added) c.requires.none in
    subst (IsRuledBy c.args.coefs.now c.args.found.now c.args.ids.now c.args.tails.now c.args.order.now c.args.ranks.now c.args.at) (sym there)
    (ruled_some c.args.table.now.q c.args.coefs.now c.args.found.now c.args.ids.now c.args.tails.now c.args.order.now c.args.ranks.now c.requires.can c.args.at c.requires.low c.args.table.now.coefs c.args.froms.now c.requires.stored c.in-Some.element (found_is (goal.at.returns-in_ok-add_rule-clause-ruled c).After-positions_of) tail (tail_is (goal.at.returns-in_ok-add_rule-clause-ruled c).After-as_slice-in-Some))

pub returns-in_ok-add_rule-clause-others : goal.returns-in_ok-add_rule-clause-others
returns-in_ok-add_rule-clause-others c =
    let tail = c.as_slice-in-Some.result.now in
    let from = slice_index c.args.froms.now c.in-Some.element in
    apart_set c.args.table.now.rules c.add_rule.new.self.rules c.args.at (Some (zip (slice_range c.args.table.now.coefs from (from + length tail)) tail)) (ap (λ (t : Rules). t.rules) c.in_ok-add_rule.ensures.added)

pub returns-in_default-clause-ruled : goal.returns-in_default-clause-ruled
returns-in_default-clause-ruled c =
    ruled_none c.args.table.now.q c.args.coefs.now c.args.found.now c.args.ids.now c.args.tails.now c.args.order.now c.args.ranks.now c.requires.can c.args.at c.requires.low c.args.table.now.rules c.requires.none
    (read_place c.args.found.now c.args.found.now c.index.result (slice_index c.args.ids.now (slice_index c.args.order.now c.args.at)) None refl (id_is (goal.at.returns-in_default-clause-ruled c).After-index) (entry_low c.args.table.now.q c.args.coefs.now c.args.found.now c.args.ids.now c.args.tails.now c.args.order.now c.args.ranks.now c.requires.can c.args.at c.requires.low) (no_value (slice_index_or c.args.found.now c.index.result None) c.in_default.not-Some))
