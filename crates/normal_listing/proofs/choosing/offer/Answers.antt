use Rattle.std.proofs.Common.{◌≡◌, ◌+◌, ◌∷◌, [], length, get_or, ap, sym, ◌∙◌, arith}
use mathlib.Core.List.{◌++◌}
use mathlib.Core.Path.{ap₂}
use Rattle.std.specs.List.{flat_map}
use Rattle.std.proofs.lemmas.List.{get_or-map}
use Rattle.normal_listing.specs.Vertices.{generator_of, word_of, spelling, vertex, numbered, passes}
use Rattle.normal_listing.proofs.Adding.{adds_one}
use Rattle.normal_listing.proofs.Spelled.{vertex_spelled}
use Rattle.normal_listing.proofs.choosing.offer.Goals as goal
use Rattle.normal_listing.proofs.choosing.offer.Goals.{After-as_slice-then-is_undivided-3}

module _ (c : After-as_slice-then-is_undivided-3) where
  order_is : word_of c.args.root.now.labels.now c.args.root.now.label ≡ c.as_slice-then-is_undivided-2.result.now
  order_is = get_or-map (λ x. x.order) c.args.root.now.labels.now c.args.root.now.label c.index-root-root.result [] c.requires.root.label ∙ sym c.as_slice-then-is_undivided-2.ensures

  generator_is : generator_of c.args.root.now.labels.now c.args.root.now.label ≡ (get_or c.args.root.now.labels.now c.args.root.now.label c.index-root-root.result).generator
  generator_is = get_or-map (λ x. x.generator) c.args.root.now.labels.now c.args.root.now.label c.index-root-root.result 0 c.requires.root.label

  spelt : spelling c.args.root.now.labels.now (vertex c.args.root.now.store.now c.args.root.now.label c.args.chosen.now.ids) ≡ (10 + (get_or c.args.root.now.labels.now c.args.root.now.label c.index-root-root.result).generator) ∷ flat_map (numbered c.as_slice-then-is_undivided-3.result.now) c.as_slice-then-is_undivided-2.result.now
  spelt =
      vertex_spelled c.args.root.now.store.now c.args.root.now.labels.now c.args.root.now.label c.args.chosen.now.ids c.as_slice-then-is_undivided-3.result.now (c.as_slice-then-is_undivided-3.ensures ∙ c.requires.words) c.requires.vertex.numbers
      ∙ ap₂ (λ g w. (10 + g) ∷ flat_map (numbered c.as_slice-then-is_undivided-3.result.now) w) generator_is order_is

pub vertex_word-requires-clause-short : goal.vertex_word-requires-clause-short
vertex_word-requires-clause-short c = let e = ap length (spelt c) in let short = c.requires.vertex.short in omega (arith, e, short)

pub returns-in_ok-push-clause-added : goal.returns-in_ok-push-clause-added
returns-in_ok-push-clause-added c =
    let root = c.args.root.now in
    adds_one (passes root.store.now root.leads.now root.label) (λ ids. spelling root.labels.now (vertex root.store.now root.label ids)) c.args.chosen.now.ids c.args.found.now (record { inputs = c.push_all.new.out; words = c.push.new.self })
    (ap (passes root.store.now root.leads.now root.label) (sym c.as_slice.ensures) ∙ sym c.if-is_undivided.ensures.passes)
    (c.in_ok-push_all.ensures.pushed ∙ ap (λ l. c.args.found.now.inputs ++ l) c.as_slice-then-is_undivided.ensures)
    (c.in_ok-push.ensures.ok ∙ ap (λ w. c.args.found.now.words ++ (w ∷ [])) (c.vertex_word.ensures.word ∙ sym (spelt (goal.at.returns-in_ok-push-clause-added c).After-as_slice-then-is_undivided-3)))
