use Rattle.std.proofs.Common.{◌≡◌, ◌∙◌, ◌-◌, ◌<◌, ◌∷◌, length, length-drop, drop, drop-cons, subst, sym, arith}
use mathlib.Core.Path.{ap₂}
use Rattle.std.specs.List.{All}
use Rattle.std.proofs.lemmas.List.{take_all}
use Rattle.shuffle_insertions.specs.ShuffleTrees.{IsShuffle}
use Rattle.tree_store.specs.Stores.{tree_at}
use Rattle.reduction_rows.proofs.LoneElement.{one_reducer}
use Rattle.reduction_rows.proofs.elements.element_of.Goals as goal

pub returns-clause-reducer : goal.returns-clause-reducer
returns-clause-reducer c =
    let trees = c.args.store.now in
    let ids = c.args.ids.now in
    let shorter = length-drop 1 ids in
    let rest = c.in_ok-tail.ensures ∙ take_all (length ids - 1) (drop 1 ids) (omega (arith, shorter)) in
    let parted : ids ≡ c.lead-item.result ∷ c.in_ok-tail.tail = drop-cons ids 0 c.lead-item.result c.in-len1-up.len_at_least ∙ ap₂ (λ x xs. x ∷ xs) (sym c.lead-item.is) (sym rest) in
    one_reducer trees (record { arity = c.leaves-arity.result; lead = c.lead-item.result; tail = c.in_ok-tail.tail }) c.in-Some.label (subst (All (λ i. i < length trees)) parted c.requires.held)
    (subst (All (λ i. IsShuffle c.leaves-arity.result (tree_at trees i))) parted c.in_ok-check_trees.ensures.shuffle) c.in-Some.ensures.label
