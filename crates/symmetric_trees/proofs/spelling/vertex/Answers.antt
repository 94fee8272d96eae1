use Rattle.std.proofs.Common.{◌≡◌, ◌∙◌, ◌++◌, ◌∷◌, [], ◌<◌, List, length, map, sym, ap, arith, refl, min, map-id}
use Rattle.std.proofs.lemmas.List.{map-append, length-map}
use Rattle.std.proofs.lemmas.Iterator.Consumers.{YieldsList-end}
use Rattle.std.proofs.lemmas.Iterator.Adapters.{YieldsList-from_vec}
use Rattle.labelled_trees.specs.Trees.{row, node}
use Rattle.labelled_trees.specs.Meaning.{tree_of}
use Rattle.labelled_trees.proofs.ProgramTrees.{tree_of-node}
use Rattle.operad_ideals.specs.Spelling.{least_leaf}
use Rattle.symmetric_trees.specs.Spelling.{least_leaves, trees_of}
use Rattle.symmetric_trees.specs.declared.branch.Branch.{Branch}
use Rattle.symmetric_trees.proofs.Branches.{keys_are, keys_low}
use Rattle.symmetric_trees.proofs.LeastOf.{least_from, least_from-push, least_from-bound, least_from-low}
use Rattle.symmetric_trees.proofs.spelling.vertex.Goals as goal

trees_are : (bs : List Branch) → map tree_of (map (λ (b : Branch). b.tree) bs) ≡ trees_of bs
trees_are [] = refl
trees_are (b ∷ bs) = ap (λ ts. tree_of b.tree ∷ ts) (trees_are bs)

keys-push : (bs : List Branch) (b : Branch) → least_leaves (bs ++ b ∷ []) ≡ least_leaves bs ++ b.least ∷ []
keys-push bs b = map-append (λ (x : Branch). x.least) bs (b ∷ [])

pub loop-branch-preserved : goal.loop-branch-preserved
loop-branch-preserved c =
    let before = c.loop-branch.invariant in
    let b = c.in-Some.branch in
    record {
      least = c.min-least.ensures ∙ ap (λ m. min m b.least) before.least ∙ sym (least_from-push 255 (least_leaves c.loop-branch.yielded) b.least) ∙ ap (least_from 255) (sym (keys-push c.loop-branch.yielded b));
      inputs = c.in_ok-push.ensures.ok ∙ ap (λ ts. ts ++ b.tree ∷ []) before.inputs ∙ sym (map-append (λ (x : Branch). x.tree) c.loop-branch.yielded (b ∷ []));
    }

pub returns : goal.returns
returns c =
    let made = c.into_iter-branch-iterator.ensures.into_iter_gives in
    let all = YieldsList-end (YieldsList-from_vec {s = c.into_iter-branch-iterator.result} c.args.branches.items made.0 (made.1 ∙ c.args.branches.ok.0)) c.loop-branch.yielded _ c.loop-branch.yielded_by _ c.next.new.self c.in-None.is c.next.ensures.steps in
    let same : c.loop-branch.yielded ≡ c.args.branches.items = sym (map-id c.loop-branch.yielded) ∙ all.0 in
    tree_of-node c.args.generator c.loop-branch.inputs ∙ ap (λ ts. node c.args.generator (row (map tree_of ts))) c.loop-branch.invariant.inputs
    ∙ ap (λ ts. node c.args.generator (row ts)) (trees_are c.loop-branch.yielded ∙ ap trees_of same)

pub invariant_of-result : goal.invariant_of-result
invariant_of-result c =
    let made = c.into_iter-branch-iterator.ensures.into_iter_gives in
    let all = YieldsList-end (YieldsList-from_vec {s = c.into_iter-branch-iterator.result} c.args.branches.items made.0 (made.1 ∙ c.args.branches.ok.0)) c.loop-branch.yielded _ c.loop-branch.yielded_by _ c.next.new.self c.in-None.is c.next.ensures.steps in
    let some : 0 < length (trees_of c.loop-branch.yielded) = let same : c.loop-branch.yielded ≡ c.args.branches.items = sym (map-id c.loop-branch.yielded) ∙ all.0 in
    let n = length-map c.loop-branch.yielded (λ (x : Branch). tree_of x.tree) in omega (arith, n, ap length same, c.requires) in
    record {
      small = least_from-low 255 (least_leaves c.loop-branch.yielded) c.loop-branch.least c.loop-branch.invariant.least;
      least_is = c.loop-branch.invariant.least ∙ least_from-bound 255 (least_leaves c.loop-branch.yielded) (trees_of c.loop-branch.yielded) (keys_are c.loop-branch.yielded) (keys_low c.loop-branch.yielded) some
          ∙ ap least_leaf (sym (tree_of-node c.args.generator c.loop-branch.inputs ∙ ap (λ ts. node c.args.generator (row (map tree_of ts))) c.loop-branch.invariant.inputs
          ∙ ap (λ ts. node c.args.generator (row ts)) (trees_are c.loop-branch.yielded)));
    }
