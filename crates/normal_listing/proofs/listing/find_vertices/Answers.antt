use Rattle.std.proofs.Common.{◌≡◌, ◌+◌, ℕ, suc, List, [], ◌∷◌, length, map, ap, sym, subst, refl, ◌∙◌, arith, append_assoc}
use mathlib.Core.List.{◌++◌}
use mathlib.Core.Path.{ap₂}
use Rattle.std.specs.List.{All, filter}
use Rattle.std.proofs.lemmas.List.{get_or-map}
use Rattle.modular_sums.specs.Lists.{Mem}
use Rattle.shuffle_insertions.specs.Listing.{joined_below}
use Rattle.tree_store.specs.Stores.{tree_at}
use Rattle.normal_listing.specs.Choices.{choices, entry}
use Rattle.normal_listing.specs.Vertices.{passes, spelling, vertex, word_of, IsShuffleLead, IsVertex}
use Rattle.normal_listing.specs.Walks.{words_with}
use Rattle.normal_listing.proofs.WordParts.{entry_any}
use Rattle.normal_listing.proofs.listing.find_vertices.Goals as goal
use Rattle.normal_listing.proofs.listing.find_vertices.Goals.{After-as_slice}

below_more : {X : Type 0} (b : ℕ) (f : ℕ → List X) → joined_below (b + 1) f ≡ joined_below b f ++ f b
below_more b f = let e : b + 1 ≡ suc b = omega arith in ap (λ n. joined_below n f) e

under_none : (ids : List ℕ) → ids ≡ [] → (ls : List (List ℕ)) → map (λ l. ids ++ l) ls ≡ ls
under_none ids e [] = refl
under_none ids e (l ∷ ls) = ap₂ (λ x xs. x ∷ xs) (ap (λ i. i ++ l) e) (under_none ids e ls)

module _ (c : After-as_slice) where
  order_is : c.as_slice-order.result.now ≡ word_of c.args.labels.now c.loop-label.label
  order_is = c.as_slice-order.ensures ∙ sym (get_or-map (λ x. x.order) c.args.labels.now c.loop-label.label c.index-labels-label.result [] c.loop-label-test.true)

  leads_are : c.as_slice.result.now ≡ entry c.args.leads.now c.loop-label.label
  leads_are =
      let same = c.requires.leads in
      let low = c.loop-label-test.true in
      c.as_slice.ensures ∙ c.index-leads-label.is ∙ entry_any c.args.leads.now c.loop-label.label c.index-leads-label.result [] (omega (arith, same, low))

pub choose-requires : goal.choose-requires
choose-requires c =
    let at = (goal.at.choose-requires c).After-as_slice in
    let store = c.args.store.now in
    let labels = c.args.labels.now in
    let tables = c.args.tables.now in
    let label = c.loop-label.label in
    let sizes = c.requires.generators label c.loop-label-test.true in
    let wide = sizes.0 in
    let many = ap length (order_is at) in
    let room = c.loop-label.invariant.room in
    let free = c.requires.room in
    record {
      tables = c.requires.tables;
      root = record { label = c.loop-label-test.true; generator = sizes.1; leads = subst (All (IsShuffleLead store)) (sym (leads_are at)) (c.requires.held label) };
      set = c.requires.set;
      last = λ e. absurd (omega (arith, e, many, wide));
      words = c.loop-label.invariant.no_words ∙ ap (map (λ id. spelling labels (tree_at store id))) (sym c.loop-label.invariant.no_ids);
      vertices = λ l m. subst (IsVertex store labels label) (ap (λ x. x ++ l) (sym c.loop-label.invariant.no_ids))
          (c.requires.vertices label l c.loop-label-test.true (subst (λ w. Mem l (choices tables.ids.now tables.parted.now (length w) c.args.set)) (order_is at) m));
      room = omega (arith, room, free);
    }

pub loop-label-preserved : goal.loop-label-preserved
loop-label-preserved c =
    let at = (goal.at.loop-label-preserved c).After-as_slice in
    let store = c.args.store.now in
    let labels = c.args.labels.now in
    let leads = c.args.leads.now in
    let tables = c.args.tables.now in
    let label = c.loop-label.label in
    let word : List ℕ → List ℕ = λ ids. spelling labels (vertex store label ids) in
    let all : ℕ → List (List ℕ) = λ k. choices tables.ids.now tables.parted.now k c.args.set in
    let order = c.as_slice-order.result.now in
    let found : map word (filter (passes store c.as_slice.result.now label) (map (λ l. c.loop-label.chosen.ids ++ l) (all (length order)))) ≡ words_with store labels leads tables c.args.set label
    = ap (λ ls. map word (filter (passes store c.as_slice.result.now label) ls)) (under_none c.loop-label.chosen.ids c.loop-label.invariant.no_ids (all (length order)))
    ∙ ap (λ ls. map word (filter (passes store ls label) (all (length order)))) (leads_are at)
    ∙ ap (λ w. map word (filter (passes store (entry leads label) label) (all (length w)))) (order_is at) in
    record {
      words =
          c.in_ok-choose.ensures.added.words ∙ ap₂ (λ a b. a ++ b) c.loop-label.invariant.words found
          ∙ append_assoc c.args.found.now.words (joined_below label (words_with store labels leads tables c.args.set)) (words_with store labels leads tables c.args.set label)
          ∙ ap (λ l. c.args.found.now.words ++ l) (sym (below_more label (words_with store labels leads tables c.args.set)));
      no_ids = ap (λ x. x.ids) c.in_ok-choose.ensures.same ∙ c.loop-label.invariant.no_ids;
      no_words = ap (λ x. x.words) c.in_ok-choose.ensures.same ∙ c.loop-label.invariant.no_words;
      room = c.choose.ensures.room ∙ c.loop-label.invariant.room;
    }
