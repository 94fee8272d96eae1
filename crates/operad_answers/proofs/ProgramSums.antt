-- The residues of the multiples of an element.
use Rattle.std.proofs.Common.{◌≡◌, ℕ, suc, ◌-◌, ◌*◌, ◌%◌, ◌<◌, ◌≤◌, List, [], ◌∷◌, ap, sym, ◌∙◌, subst, arith}
use Rattle.std.specs.List.{AllByRecursion}
use Rattle.std.proofs.lemmas.Nat.{mod_below}
use native.Mathlib.Decide.{ℕ_discrete}
use Rattle.modular_sums.specs.Sums.{coef, scale, Same, AllTerms}
use Rattle.labelled_trees.specs.Trees.{Tree}
use Rattle.labelled_trees.specs.Equality.{tree_discrete}
use Rattle.labelled_trees.proofs.Counts.{leaf_count-labelled}
use Rattle.operad_ideals.specs.Laws.{arity}
use Rattle.symmetric_trees.specs.Generators.{parts_at}
use Rattle.symmetric_trees.specs.Trees.{IsLabelled}
use Rattle.symmetric_trees.specs.declared.generators.Generator.{Generator}
use Rattle.symmetric_sums.specs.Instances.{products, without_zeros}
use Rattle.symmetric_sums.proofs.Expansions.{without_zeros-zero, without_zeros-some}
use Rattle.symmetric_sums.proofs.PlainInstances.{without_zeros-same, products-same}
use Rattle.presentation_text.specs.Elements.{IsElementTree}
use Rattle.presentation_text.specs.PrintedElements.{IsWrittenTerm}
use Rattle.operad_answers.specs.Texts.{Sum}
use Rattle.presentation_text.proofs.NestedTrees.{nested_less}

pub multiple-same : (p c : ℕ) (e : Sum) → 0 < p → Same tree_discrete (p - 1) (without_zeros (products p c e)) (scale c e)
multiple-same p c e positive t =
    let q : suc (p - 1) ≡ p = omega (arith, positive) in
    ap (λ k. k % suc (p - 1)) (without_zeros-same (products p c e) t)
    ∙ ap (λ k. coef tree_discrete (products k c e) t % suc (p - 1)) (sym q)
    ∙ products-same (p - 1) c e t

-- a tree of small arity is writable
pub writable_tree : (generators : List Generator) (n : ℕ) (t : Tree ℕ) → n ≤ 9 → IsLabelled generators n t → IsElementTree generators n t
writable_tree generators n t few h =
    let deep = nested_less (arity (parts_at generators)) t h.fits in
    let size = leaf_count-labelled (arity (parts_at generators)) n t h in
    record { labelled = h; narrow = few; shallow = omega (arith, deep, size, few) }

-- a multiple of an element of small arity is writable
pub multiple_writable : (p c : ℕ) (generators : List Generator) (n : ℕ) (e : Sum) → 0 < p → n ≤ 9 → AllTerms e (IsLabelled generators n) → AllByRecursion (IsWrittenTerm p generators n) (without_zeros (products p c e))
multiple_writable p c generators n [] positive few h = tt
multiple_writable p c generators n (x ∷ e) positive few h = go (ℕ_discrete ((c * x.0) % p) 0) (multiple_writable p c generators n e positive few h.1)
  where
    is_writable : ((c * x.0) % p ≡ 0 → ⊥) → IsWrittenTerm p generators n ((c * x.0) % p, x.1)
    is_writable z =
        let small = mod_below (c * x.0) p positive in
        record { nonzero = omega (arith, z); residue = small; tree = writable_tree generators n x.1 few h.0 }

    go : Dec ((c * x.0) % p ≡ 0) → AllByRecursion (IsWrittenTerm p generators n) (without_zeros (products p c e)) → AllByRecursion (IsWrittenTerm p generators n) (without_zeros (products p c (x ∷ e)))
    go (yes z) rest = subst (AllByRecursion (IsWrittenTerm p generators n)) (sym (without_zeros-zero ((c * x.0) % p, x.1) (products p c e) z)) rest
    go (no z) rest = subst (AllByRecursion (IsWrittenTerm p generators n)) (sym (without_zeros-some ((c * x.0) % p, x.1) (products p c e) z)) (is_writable z, rest)
