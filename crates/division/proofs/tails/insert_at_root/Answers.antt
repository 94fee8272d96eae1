use Rattle.std.proofs.Common.{◌<◌, ◌≤◌, ℕ, List, sym, subst, refl, length, arith, slice_index}
use Rattle.std.specs.List.{All}
use Rattle.std.proofs.lemmas.Result.{on_ok_weaker}
use Rattle.labelled_trees.specs.Trees.{Tree}
use Rattle.shuffle_places.specs.RootPlaces.{DividesRoot}
use Rattle.tree_store.specs.Stores.{tree_at}
use Rattle.division.specs.Parts.{built, part_at}
use Rattle.division.specs.Insertions.{CanBuild, AreMade}
use Rattle.division.proofs.MadeTrees.{tail_can, root_inserted}
use Rattle.division.proofs.tails.insert_at_root.Goals as goal
use Rattle.division.proofs.tails.insert_at_root.Goals.{Then-divides_root}

-- the lead divides the host, with these parts
divided : (c : Then-divides_root) → DividesRoot c.args.reducer.now.arity (tree_at c.args.shelf.now.trees c.args.reducer.now.lead) (tree_at c.args.shelf.now.trees c.args.host) (part_at c.args.shelf.now.trees c.divides_root.new.parts)
divided c = subst (λ (ts : List (Tree ℕ)). DividesRoot c.args.reducer.now.arity (tree_at ts c.args.reducer.now.lead) (tree_at ts c.args.host) (part_at ts c.divides_root.new.parts)) c.store.ensures.store (c.if-divides_root.ensures.divides refl)

pub build_all-requires-clause-can : goal.build_all-requires-clause-can
build_all-requires-clause-can c =
    let room : c.args.reducer.now.arity < length c.divides_root.new.parts = omega arith in
    let held : (i : ℕ) → 0 < i → i ≤ c.args.reducer.now.arity → slice_index c.divides_root.new.parts i < length c.args.shelf.now.trees
    = subst (λ (ts : List (Tree ℕ)). (i : ℕ) → 0 < i → i ≤ c.args.reducer.now.arity → slice_index c.divides_root.new.parts i < length ts) c.store.ensures.store (c.if-divides_root.ensures.held refl) in
    subst (All (CanBuild c.args.shelf.now c.divides_root.new.parts)) (sym c.as_slice.ensures)
    (tail_can c.args.shelf.now c.args.reducer.now c.args.host c.divides_root.new.parts c.store.ensures.shelf c.requires.reducer c.requires.host (divided (goal.at.build_all-requires-clause-can c).Then-divides_root) room held)

pub returns-clause-made : goal.returns-clause-made
returns-clause-made c =
    on_ok_weaker c.build_all.result
    (λ m. root_inserted c.args.shelf.now c.args.reducer.now c.args.host c.divides_root.new.parts c.store.ensures.shelf c.requires.reducer c.requires.host (divided (goal.at.returns-clause-made c).Then-divides_root)
    c.build_all.new.shelf.trees c.args.out.now c.build_all.new.out
    (subst (λ l. AreMade c.build_all.new.shelf.trees (built c.args.shelf.now.trees c.divides_root.new.parts) l c.args.out.now c.build_all.new.out) c.as_slice.ensures m))
    c.build_all.ensures.made
