use Rattle.std.proofs.Common.{ap, ◌∙◌, sym, subst}
use Rattle.shuffle_insertions.specs.Frames.{Frame}
use Rattle.shuffle_places.specs.Places.{frame_at}
use Rattle.shuffle_trees.specs.LabelLists.{arity_in}
use Rattle.tree_store.specs.Stores.{tree_at}
use Rattle.shuffle_sums.specs.Settings.{compares, field_of, order_of}
use Rattle.shuffle_sums.specs.Inserting.{FitFrame}
use Rattle.shuffle_sums.proofs.InsertingTrees.{fit_frame, inserted_falls, inserted_trees}
use Rattle.shuffle_sums.proofs.sum.SSum.insert_at.Goals as goal

pub insert_trees-requires-clause-fit : goal.insert_trees-requires-clause-fit
insert_trees-requires-clause-fit g c =
    let old = c.args.shelf.now in
    let compare = compares g.O.TreeOrder.weights g.O.TreeOrder.by_keys c.args.setting.now in
    let frame_is = c.in_ok-frame.ensures.frame ∙ ap (frame_at c.args.place.now) (c.in_ok-tree.ensures.tree ∙ ap (λ ts. tree_at ts c.args.host) c.store.ensures.store) in
    let fit = fit_frame compare (field_of c.args.setting.now) old c.args.host c.args.place.now c.args.sum.now c.store.ensures.shelf c.requires.host c.requires.place c.requires.sum c.requires.fit in
    subst (FitFrame old c.in_ok-frame.frame) (sym c.terms.ensures.terms) (subst (λ (f : Frame). FitFrame old f c.args.sum.now) (sym frame_is) fit)

pub returns-clause-falls : goal.returns-clause-falls
returns-clause-falls g c =
    let order = g.met.O.TreeOrder.is_order (order_of c.args.setting.now) (arity_in c.args.shelf.now.labels) in
    let compare = compares g.O.TreeOrder.weights g.O.TreeOrder.by_keys c.args.setting.now in
    let frame_is = c.in_ok-frame.ensures.frame ∙ ap (frame_at c.args.place.now) (c.in_ok-tree.ensures.tree ∙ ap (λ ts. tree_at ts c.args.host) c.store.ensures.store) in
    inserted_falls compare (field_of c.args.setting.now) c.args.shelf.now c.args.host c.args.place.now c.args.sum.now c.store.ensures.shelf c.requires.host c.requires.place c.requires.sum c.requires.fit
    c.insert_trees.new.shelf c.in_ok-frame.frame c.terms.result.now c.in_ok-terms.terms c.from_terms.result frame_is c.terms.ensures.terms c.from_terms.ensures.terms c.in_ok-terms.ensures.keeps c.in_ok-terms.ensures.inserted order

pub returns-clause-trees : goal.returns-clause-trees
returns-clause-trees g c = λ n h.
    let compare = compares g.O.TreeOrder.weights g.O.TreeOrder.by_keys c.args.setting.now in
    let frame_is = c.in_ok-frame.ensures.frame ∙ ap (frame_at c.args.place.now) (c.in_ok-tree.ensures.tree ∙ ap (λ ts. tree_at ts c.args.host) c.store.ensures.store) in
    inserted_trees compare (field_of c.args.setting.now) c.args.shelf.now c.args.host c.args.place.now c.args.sum.now c.store.ensures.shelf c.requires.host c.requires.place c.requires.sum c.requires.fit
    c.insert_trees.new.shelf c.in_ok-frame.frame c.terms.result.now c.in_ok-terms.terms c.from_terms.result frame_is c.terms.ensures.terms c.from_terms.ensures.terms c.in_ok-terms.ensures.keeps c.in_ok-terms.ensures.inserted n h
