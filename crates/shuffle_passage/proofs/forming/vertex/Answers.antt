use Rattle.std.proofs.Common.{◌≡◌, ◌∙◌, ⊎_elim, ℕ, arith, ◌<◌, ◌∷◌, [], List, map, sym, ap, map-id}
use Rattle.std.proofs.lemmas.Iterator.Consumers.{YieldsList-end}
use Rattle.std.proofs.lemmas.Iterator.Adapters.{YieldsList-from_vec}
use Rattle.labelled_trees.specs.Trees.{row, node}
use Rattle.labelled_trees.specs.Meaning.{tree_of}
use Rattle.labelled_trees.proofs.ProgramTrees.{tree_of-node, sum_leaves-node}
use native.Mathlib.Decide.{ℕ_discrete}
use Rattle.std.proofs.lemmas.List.Sums.{sum_by-cons}
use Rattle.operad_ideals.proofs.SortedLists.{tested}
use Rattle.labelled_trees.specs.declared.Tree as program
use Rattle.labelled_trees.specs.Leaves.{occurs, one_if}
use Rattle.std.specs.List.{sum_by}
use Rattle.shuffle_insertions.specs.ShuffleTrees.{least, least_row}
use Rattle.std.proofs.lemmas.Simd.{map-map}
use Rattle.shuffle_passage.specs.Branches.{forms_of}
use Rattle.shuffle_passage.specs.declared.branch.Branch.{Branch}
use Rattle.shuffle_passage.proofs.forming.vertex.Goals as goal

each_small : (k : ℕ) (bs : List Branch) → 0 < sum_by (λ (t : program.Tree). occurs k (tree_of t)) (map (λ (b : Branch). b.tree) bs) → k < 256
each_small k [] h = absurd (omega (arith, h))
each_small k (b ∷ bs) h = ⊎_elim
    (λ l. b.small k l)
    (λ l. each_small k bs (let e = sum_by-cons (λ (t : program.Tree). occurs k (tree_of t)) b.tree (map (λ (x : Branch). x.tree) bs) in omega (arith, e, h, l)))
    (tested 0 (occurs k (tree_of b.tree)))

pub returns : goal.returns
returns c =
    let made = c.into_iter-branch-iterator.ensures.into_iter_gives in
    let all = YieldsList-end (YieldsList-from_vec {s = c.into_iter-branch-iterator.result} c.args.branches.items made.0 (made.1 ∙ c.args.branches.ok.0)) c.loop-branch.yielded _ c.loop-branch.yielded_by _ c.next.new.self c.in-None.is c.next.ensures.steps in
    let same : c.loop-branch.yielded ≡ c.args.branches.items = sym (map-id c.loop-branch.yielded) ∙ all.0 in
    tree_of-node c.args.label c.loop-branch.inputs ∙ ap (λ ts. node c.args.label (row (map tree_of ts))) c.loop-branch.invariant
    ∙ ap (λ ts. node c.args.label (row ts)) (map-map tree_of (λ (b : Branch). b.tree) c.loop-branch.yielded ∙ ap forms_of same)

pub invariant_of-result : goal.invariant_of-result
invariant_of-result c =
    let made = c.into_iter-branch-iterator.ensures.into_iter_gives in
    let all = YieldsList-end (YieldsList-from_vec {s = c.into_iter-branch-iterator.result} c.args.branches.items made.0 (made.1 ∙ c.args.branches.ok.0)) c.loop-branch.yielded _ c.loop-branch.yielded_by _ c.next.new.self c.in-None.is c.next.ensures.steps in
    let same : c.loop-branch.yielded ≡ c.args.branches.items = sym (map-id c.loop-branch.yielded) ∙ all.0 in
    let tree_is : tree_of (Rattle.labelled_trees.specs.declared.Tree.TheVariants.Node c.args.label c.loop-branch.inputs) ≡ node c.args.label (row (forms_of c.args.branches.items)) =
    tree_of-node c.args.label c.loop-branch.inputs ∙ ap (λ ts. node c.args.label (row (map tree_of ts))) c.loop-branch.invariant
    ∙ ap (λ ts. node c.args.label (row ts)) (map-map tree_of (λ (b : Branch). b.tree) c.loop-branch.yielded ∙ ap forms_of same) in
    record {
      least_is = c.first_least-least.ensures ∙ ap (λ bs. least_row (row (forms_of bs))) c.as_slice.ensures.value ∙ ap least (sym tree_is);
      small = λ k o. each_small k c.loop-branch.yielded
          (let whole = sum_leaves-node c.args.label c.loop-branch.inputs (λ n. one_if (ℕ_discrete n k)) in
          let same = ap (sum_by (λ (t : program.Tree). occurs k (tree_of t))) c.loop-branch.invariant in omega (arith, whole, same, o));
    }
