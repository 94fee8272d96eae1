-- The span of the insertions, normal forms and leading trees.
use Rattle.std.specs.Prelude.{ℕ, ◌≡◌, List, ◌++◌}
use Rattle.std.proofs.Common.{◌⊎◌}
use Rattle.modular_sums.specs.Residues.{IsCongruent}
use Rattle.modular_sums.specs.Sums.{coef, scale, AllTerms, IsLinearCombination}
use Rattle.labelled_trees.specs.Trees.{Tree}
use Rattle.labelled_trees.specs.Equality.{tree_discrete}
use Rattle.shuffle_insertions.specs.ShuffleTrees.{IsShuffleTree}
use Rattle.shuffle_bases.specs.Elements.{Setting, IsLess, Insertion, value_of}
use Rattle.shuffle_normal_forms.specs.FreeTrees.{IsFreeTree}

-- The sum lies in the span of the insertions of arity n: it is a sum of numbers times insertions
-- (Bremner and Dotsenko 2016, the part of one arity of the ideal that the elements generate).
abbrev pub InSpan : Setting → ℕ → List (ℕ × Tree ℕ) → Type 0
InSpan s n e = IsLinearCombination {I = Insertion s n} tree_discrete value_of s.q e

-- A normal form of the sum e: a sum f on free trees of arity n such that e minus f lies in the span
-- (Dotsenko and Khoroshkin 2010, normal forms modulo an ideal).
pub record IsShuffleNormalForm (s : Setting) (n : ℕ) (e f : List (ℕ × Tree ℕ)) : Type 0 where
  pub on_free : AllTerms f (IsFreeTree s n)
  pub rest : InSpan s n (e ++ scale s.q f)

-- The leading tree of the sum is t: its coefficient isn't 0, and that of each greater shuffle tree is
-- (Bremner and Dotsenko 2016, leading monomials).
pub record IsLeadingTree (s : Setting) (n : ℕ) (e : List (ℕ × Tree ℕ)) (t : Tree ℕ) : Type 0 where
  pub there : IsCongruent s.q (coef tree_discrete e t) 0 → ⊥
  pub above : (u : Tree ℕ) → IsShuffleTree s.arity n u → IsLess s t u → IsCongruent s.q (coef tree_discrete e u) 0

-- t leads no sum on shuffle trees in the span
abbrev pub LeadsNone : Setting → ℕ → Tree ℕ → Type 0
LeadsNone s n t = (e : List (ℕ × Tree ℕ)) → AllTerms e (IsShuffleTree s.arity n) → InSpan s n e → IsLeadingTree s n e t → ⊥

-- x is y or less than y
abbrev pub IsAtMost : Setting → Tree ℕ → Tree ℕ → Type 0
IsAtMost s x y = (x ≡ y) ⊎ IsLess s x y
