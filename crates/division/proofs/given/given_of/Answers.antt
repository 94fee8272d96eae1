use Rattle.std.proofs.Common.{◌≡◌, List, ℕ, ap, map, sym, subst, ◌∙◌}
use Rattle.std.proofs.lemmas.List.{take_all}
use Rattle.labelled_trees.specs.Trees.{Tree}
use Rattle.division.specs.Bases.{setting_over}
use Rattle.division.specs.Dividers.{AreReducers, HaveRoom}
use Rattle.division.specs.Given.{AreGiven, coefs_of, reducer_of}
use Rattle.division.proofs.FallingBases.{basis_given, basis_reducers, basis_room}
use Rattle.division.proofs.given.given_of.Given.{Over}
use Rattle.division.proofs.given.given_of.Goals as goal
use Rattle.division.proofs.given.given_of.Goals.{After-store-2}

reducers_are : (g : Over) (c : After-store-2 g) → c.loop-sum.reducers ≡ map (reducer_of c.args.shelf.now.trees) c.args.basis.now.elements
reducers_are g c = c.loop-sum.invariant.0 ∙ ap (map (reducer_of c.args.shelf.now.trees)) (take_all c.loop-sum.sum-index c.elements-sum-items.result.now c.loop-sum-test.false ∙ c.elements-sum-items.ensures.elements)

coefs_are : (g : Over) (c : After-store-2 g) → c.loop-sum.coefs ≡ map coefs_of c.args.basis.now.elements
coefs_are g c = c.loop-sum.invariant.1 ∙ ap (map coefs_of) (take_all c.loop-sum.sum-index c.elements-sum-items.result.now c.loop-sum-test.false ∙ c.elements-sum-items.ensures.elements)

are_reducers : (g : Over) (c : After-store-2 g) → AreReducers c.args.shelf.now.trees c.loop-sum.reducers
are_reducers g c =
    let f = c.requires.falls in
    subst (AreReducers c.args.shelf.now.trees) (sym (reducers_are g c)) (basis_reducers f.0 f.1.0 c.args.shelf.now c.store-2.ensures.shelf c.args.basis.now.elements f.1.1)

pub groups_of-requires-clause-reducers : goal.groups_of-requires-clause-reducers
groups_of-requires-clause-reducers g c =
    subst (λ (ts : List (Tree ℕ)). AreReducers ts c.as_slice.result.now) (sym c.store-2.ensures.store)
    (subst (AreReducers c.args.shelf.now.trees) (sym c.as_slice.ensures) (are_reducers g (goal.at.groups_of-requires-clause-reducers g c).After-store-2))

pub returns-clause-reducers : goal.returns-clause-reducers
returns-clause-reducers g c = are_reducers g (goal.at.returns-clause-reducers g c).After-store-2

pub returns-clause-room : goal.returns-clause-room
returns-clause-room g c =
    let f = c.requires.falls in
    subst (λ l. HaveRoom l 10) (sym (reducers_are g (goal.at.returns-clause-room g c).After-store-2)) (basis_room f.0 f.1.0 c.args.shelf.now c.store-2.ensures.shelf c.args.basis.now.elements f.1.1)

pub returns-clause-given : goal.returns-clause-given
returns-clause-given g c = λ compare p falls.
    let at = (goal.at.returns-clause-given g c).After-store-2 in
    subst (λ l. AreGiven c.args.shelf.now.trees l c.loop-sum.coefs (setting_over compare p c.args.shelf.now c.args.basis.now.elements)) (sym (reducers_are g at))
    (subst (λ l. AreGiven c.args.shelf.now.trees (map (reducer_of c.args.shelf.now.trees) c.args.basis.now.elements) l (setting_over compare p c.args.shelf.now c.args.basis.now.elements)) (sym (coefs_are g at))
    (basis_given compare p c.args.shelf.now c.store-2.ensures.shelf c.args.basis.now.elements falls))
