-- The text of generators and their weights, one after the other.
use Rattle.std.proofs.Common.{◌≡◌, ℕ, suc, ◌+◌, ◌<◌, List, ◌∷◌, ◌++◌, length, drop, get_or, Some, ap, ap₂, sym, ◌∙◌, append_assoc, arith}
use Rattle.std.specs.Prelude.{slice_get}
use Rattle.std.proofs.lemmas.Option.{get_or_from_slice_get}
use Rattle.std.proofs.Math.Seq.{drop-cons}
use Rattle.symmetric_trees.specs.declared.generators.Generator.{Generator}
use Rattle.presentation_text.specs.DocumentText.{generator_text, weight_text, generators_text}

-- one generator and its weight
pub generators_text-one : (version : ℕ) (generators : List Generator) (weights : List ℕ) (i : ℕ) (generator : Generator) (old between new : List ℕ)
    → i < length generators → i < length weights → slice_get generators i ≡ Some generator
    → between ≡ old ++ generator_text version generator → new ≡ between ++ weight_text generator (get_or weights i 0)
    → new ++ generators_text version (drop (i + 1) generators) (drop (i + 1) weights) ≡ old ++ generators_text version (drop i generators) (drop i weights)
generators_text-one version generators weights i generator old between new l m found e f =
    let first = get_or_from_slice_get generators i generator generator found in
    let next : i + 1 ≡ suc i = omega arith in
    let here = drop-cons generators i generator l ∙ ap (λ x. x ∷ drop (suc i) generators) first in
    let weight = drop-cons weights i 0 m in
    let left = generators_text version (drop (suc i) generators) (drop (suc i) weights) in
    let own = generator_text version generator in
    let heavy = weight_text generator (get_or weights i 0) in
    ap (λ k. new ++ generators_text version (drop k generators) (drop k weights)) next
    ∙ ap (λ xs. xs ++ left) (f ∙ ap (λ xs. xs ++ heavy) e)
    ∙ ap (λ xs. xs ++ left) (append_assoc old own heavy)
    ∙ append_assoc old (own ++ heavy) left
    ∙ ap (λ xs. old ++ xs) (append_assoc own heavy left)
    ∙ ap₂ (λ gs ws. old ++ generators_text version gs ws) (sym here) (sym weight)
