use Rattle.std.proofs.Common.{◌∙◌, ◌++◌, ◌∷◌, [], ap, ap₂, map, sym, arith, ◌+◌, ◌≡◌, ℕ}
use Rattle.std.proofs.lemmas.List.FromFn.{map-range_with_len_more}
use Rattle.labelled_trees.specs.Meaning.{tree_of}
use Rattle.labelled_trees.specs.Trees.{Tree, leaf}
use Rattle.labelled_trees.proofs.ProgramTrees.{tree_of-leaf}
use Rattle.labelled_trees.specs.declared.Tree.TheVariants.{Leaf}
use Rattle.symmetric_sums.specs.Symmetries.{exchanged}
use Rattle.std.proofs.lemmas.List.{map_push}
use Rattle.symmetric_sums.proofs.symmetry.vertex.Goals as goal

pub loop-before-preserved : goal.loop-before-preserved
loop-before-preserved c =
    let n = c.loop-before.before in
    let f : ℕ → Tree ℕ = λ m. leaf (exchanged c.args.one c.args.other m) in
    let next : 1 + n ≡ n + 1 = omega arith in
    ap (map tree_of) c.in_ok-push.ensures.ok ∙ map_push tree_of c.loop-before.inputs (Leaf c.exchanged.result)
    ∙ ap₂ (λ xs y. xs ++ y ∷ []) c.loop-before.invariant (tree_of-leaf c.exchanged.result ∙ ap leaf c.exchanged.ensures)
    ∙ sym (map-range_with_len_more f 1 n (n + 1) next)
