-- Where S-elements reduce, finished chains from sums in the span end with 0.
use Rattle.std.proofs.Common.{ℕ, ◌*◌, List, [], ◌∷◌, sym, ◌∙◌, ◌⊎◌, inl, inr}
use mathlib.Core.List.{◌++◌}
use Rattle.modular_sums.specs.Sums.{scale, Same, expand}
use Rattle.labelled_trees.specs.Trees.{Tree}
use Rattle.labelled_trees.specs.Equality.{tree_discrete}
use Rattle.shuffle_bases.specs.Elements.{Setting, Insertion, value_of}
use Rattle.shuffle_bases.specs.Reductions.{IsLed}
use Rattle.shuffle_bases.proofs.Laws.{diamond}
use Rattle.shuffle_normal_forms.specs.NormalForms.{InSpan}
use Rattle.shuffle_normal_forms.proofs.Insertions.{span}
use Rattle.shuffle_reductions.specs.Chains.{IsChain}
use Rattle.shuffle_reductions.specs.Laws.{ChainsEndWithZero}

abbrev Sum : Type 0
Sum = List (ℕ × Tree ℕ)

chain_spans : (s : Setting) (n : ℕ) (uses : List (ℕ × Insertion s n)) (e f : Sum) → IsChain s n e uses f → InSpan s n e → InSpan s n f
chain_spans s n [] e f c m = (span s n).same f e (λ t. sym (c t)) m
chain_spans s n (x ∷ l) e f c m = chain_spans s n l (e ++ scale (s.q * x.0) (value_of x.1)) f c.1
    ((span s n).added e (scale (s.q * x.0) (value_of x.1)) m ((span s n).scaled (s.q * x.0) (value_of x.1) ((span s n).instances x.1)))

pub chains_end_with_zero : ChainsEndWithZero
chains_end_with_zero labels s are order monic N n reduce le e uses f c finished m = go (chain_spans s n uses e f c m)
  where
    zero_or_led : (k : InSpan s n f) → Same tree_discrete s.q (expand value_of k.uses) [] ⊎ IsLed s n (expand value_of k.uses) → Same tree_discrete s.q f []
    zero_or_led k (inl z) = λ t. k.adds_up t ∙ z t
    zero_or_led k (inr led) = absurd (finished led.by.tree (λ z. led.there (sym (k.adds_up led.by.tree) ∙ z)) led.by.of led.by.member led.by.set led.by.place)

    go : InSpan s n f → Same tree_discrete s.q f []
    go k = zero_or_led k (diamond labels s are order monic N n reduce le k.uses)
