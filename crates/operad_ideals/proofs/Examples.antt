-- Spellings of small trees, computed.
use Rattle.std.proofs.Common.{◌≡◌, ℕ, zero, suc, ◌<◌, ◌≤◌, List, [], ◌∷◌, refl, arith}
use native.Mathlib.Decide.{ℕ_discrete}
use Rattle.labelled_trees.specs.Trees.{Tree, leaf, node, row}
use Rattle.labelled_trees.specs.Leaves.{occurs, one_if}
use Rattle.labelled_trees.specs.Labelled.{IsLabelled}
use Rattle.operad_ideals.specs.Parts.{Part, symmetric, skew, free, plus, minus}
use Rattle.operad_ideals.specs.Spelling.{IsSpelling}
use Rattle.operad_ideals.specs.Sorting.{spelled, spelled_sign}
use Rattle.operad_ideals.specs.Laws.{arity}
use Rattle.operad_ideals.specs.SpelledSums.{spelled_sum}
use Rattle.operad_ideals.proofs.Spellings.{one_spelling}

-- one generator, a bracket: one skew part of two inputs
abbrev bracket : ℕ → List Part
bracket g = record { kind = skew; size = 2 } ∷ []

-- one generator of arity three: a symmetric part of two inputs, and a free one
abbrev mixed : ℕ → List Part
mixed g = record { kind = symmetric; size = 2 } ∷ (record { kind = free; size = 1 } ∷ [])

abbrev two : Tree ℕ → Tree ℕ → Tree ℕ
two t u = node 0 (row (t ∷ (u ∷ [])))

abbrev three : ℕ → ℕ → ℕ → Tree ℕ
three i j k = node 0 (row (leaf i ∷ (leaf j ∷ (leaf k ∷ []))))

pub bracket_turned : (spelled bracket (two (leaf 2) (leaf 1)) ≡ two (leaf 1) (leaf 2)) × (spelled_sign bracket (two (leaf 2) (leaf 1)) ≡ minus)
bracket_turned = (refl, refl)

pub bracket_left : (spelled bracket (two (two (leaf 2) (leaf 3)) (leaf 1)) ≡ two (leaf 1) (two (leaf 2) (leaf 3))) × (spelled_sign bracket (two (two (leaf 2) (leaf 3)) (leaf 1)) ≡ minus)
bracket_left = (refl, refl)

pub bracket_twice : (spelled bracket (two (leaf 3) (two (leaf 2) (leaf 1))) ≡ two (two (leaf 1) (leaf 2)) (leaf 3)) × (spelled_sign bracket (two (leaf 3) (two (leaf 2) (leaf 1))) ≡ plus)
bracket_twice = (refl, refl)

pub mixed_turned : (spelled mixed (three 2 1 3) ≡ three 1 2 3) × (spelled_sign mixed (three 2 1 3) ≡ plus)
mixed_turned = (refl, refl)

-- the free input stays
pub mixed_stays : (spelled mixed (three 3 1 2) ≡ three 1 3 2) × (spelled_sign mixed (three 3 1 2) ≡ plus)
mixed_stays = (refl, refl)

-- modulo 101: the two trees cancel, since the first is minus the second
pub bracket_collected : spelled_sum 100 bracket ((1, two (two (leaf 2) (leaf 3)) (leaf 1)) ∷ ((1, two (leaf 1) (two (leaf 2) (leaf 3))) ∷ []))
    ≡ (100, two (leaf 1) (two (leaf 2) (leaf 3))) ∷ ((1, two (leaf 1) (two (leaf 2) (leaf 3))) ∷ [])
bracket_collected = refl

-- ---- the law at a labelled tree

each_once : (i : ℕ) → 0 < i → i ≤ 3 → occurs i (two (two (leaf 2) (leaf 3)) (leaf 1)) ≡ 1
unfolding ℕ_discrete
each_once zero low high = absurd (omega (arith, low))
each_once (suc zero) low high = refl
each_once (suc (suc zero)) low high = refl
each_once (suc (suc (suc zero))) low high = refl
each_once (suc (suc (suc (suc i)))) low high = absurd (omega (arith, high))

absent : (n i : ℕ) (d : Dec (n ≡ i)) → n < i → one_if d ≡ 0
absent n i (yes e) l = absurd (omega (arith, e, l))
absent n i (no f) l = refl

no_other : (i : ℕ) → 0 < occurs i (two (two (leaf 2) (leaf 3)) (leaf 1)) → (0 < i) × (i ≤ 3)
unfolding ℕ_discrete
no_other zero h = absurd (omega (arith, h))
no_other (suc zero) h = (omega arith, omega arith)
no_other (suc (suc zero)) h = (omega arith, omega arith)
no_other (suc (suc (suc zero))) h = (omega arith, omega arith)
no_other (suc (suc (suc (suc i)))) h =
    let j : ℕ = suc (suc (suc (suc i))) in
    absurd (omega (arith, h, absent 1 j (ℕ_discrete 1 j) (omega arith), absent 2 j (ℕ_discrete 2 j) (omega arith), absent 3 j (ℕ_discrete 3 j) (omega arith)))

is_labelled : IsLabelled (arity bracket) 3 (two (two (leaf 2) (leaf 3)) (leaf 1))
is_labelled = record {
  fits = (omega arith, refl, ((omega arith, refl, (tt, (tt, tt))), (tt, tt)));
  each = each_once;
  only = no_other;
}

pub bracket_left-spelling : IsSpelling bracket (two (two (leaf 2) (leaf 3)) (leaf 1)) minus (two (leaf 1) (two (leaf 2) (leaf 3)))
bracket_left-spelling = (one_spelling bracket 3 (two (two (leaf 2) (leaf 3)) (leaf 1)) is_labelled).0
