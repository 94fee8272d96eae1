-- The laws of residues and formal sums.
use Rattle.std.specs.Prelude.{ℕ, ◌≡◌, ◌+◌, ◌*◌, ◌<◌, List, [], ◌∷◌, ◌++◌}
use Rattle.std.proofs.Common.{◌⊎◌, Bool, true}
use Rattle.modular_sums.specs.Lists.{Mem}
use Rattle.modular_sums.specs.Residues.{IsCongruent}
use Rattle.modular_sums.specs.Sums.{coef, scale, Same, expand, IsLinearCombination, moved}
use Rattle.modular_sums.specs.Ranks.{count_less}
use Rattle.modular_sums.specs.Diamond.{HaveLeadingTerms, Meet, Led}

-- Being alike modulo suc q is an equivalence that sums and products keep, q times a number is its negative,
-- and what is added may be cancelled.
pub record ResidueLaw (q : ℕ) : Type 0 where
  pub reflexive : (a : ℕ) → IsCongruent q a a
  pub symmetric : (a b : ℕ) → IsCongruent q a b → IsCongruent q b a
  pub transitive : (a b c : ℕ) → IsCongruent q a b → IsCongruent q b c → IsCongruent q a c
  pub sums : (a b c d : ℕ) → IsCongruent q a b → IsCongruent q c d → IsCongruent q (a + c) (b + d)
  pub products : (a b c d : ℕ) → IsCongruent q a b → IsCongruent q c d → IsCongruent q (a * c) (b * d)
  pub negative : (a : ℕ) → IsCongruent q (a + q * a) 0
  pub cancelled : (a b c : ℕ) → IsCongruent q (a + c) (b + c) → IsCongruent q a b

-- the same, for all of them
abbrev pub Residues : Type 0
Residues = (q : ℕ) → ResidueLaw q

-- The coefficient of a sum of sums is the sum of the coefficients, and that of a multiple is the multiple;
-- sameness is an equivalence that both keep.
pub record SumLaw (M : Type 0) (dec : Discrete M) (q : ℕ) : Type 0 where
  pub added : (e f : List (ℕ × M)) (t : M) → coef dec (e ++ f) t ≡ coef dec e t + coef dec f t
  pub scaled : (c : ℕ) (e : List (ℕ × M)) (t : M) → coef dec (scale c e) t ≡ c * coef dec e t
  pub reflexive : (e : List (ℕ × M)) → Same dec q e e
  pub symmetric : (e f : List (ℕ × M)) → Same dec q e f → Same dec q f e
  pub transitive : (e f g : List (ℕ × M)) → Same dec q e f → Same dec q f g → Same dec q e g
  pub same_added : (e f g h : List (ℕ × M)) → Same dec q e f → Same dec q g h → Same dec q (e ++ g) (f ++ h)
  pub same_scaled : (c : ℕ) (e f : List (ℕ × M)) → Same dec q e f → Same dec q (scale c e) (scale c f)

-- the same, for all of them
abbrev pub Sums : Type 0 → Type 0
Sums M = (dec : Discrete M) (q : ℕ) → SumLaw M dec q

-- The span of instances holds each instance and is closed under sums, multiples and sameness.
pub record SpanLaw (M I : Type 0) (dec : Discrete M) (value : I → List (ℕ × M)) (q : ℕ) : Type 0 where
  pub instances : (i : I) → IsLinearCombination dec value q (value i)
  pub none : IsLinearCombination dec value q []
  pub added : (e f : List (ℕ × M)) → IsLinearCombination dec value q e → IsLinearCombination dec value q f → IsLinearCombination dec value q (e ++ f)
  pub scaled : (c : ℕ) (e : List (ℕ × M)) → IsLinearCombination dec value q e → IsLinearCombination dec value q (scale c e)
  pub same : (e f : List (ℕ × M)) → Same dec q e f → IsLinearCombination dec value q f → IsLinearCombination dec value q e

-- the same, for all of them
abbrev pub Spans : Type 0 → Type 0 → Type 0
Spans M I = (dec : Discrete M) (value : I → List (ℕ × M)) (q : ℕ) → SpanLaw M I dec value q

-- The image of a sum depends on its coefficients alone, and the image of a sum of instances is the sum of their images.
abbrev pub Images : Type 0 → Type 0 → Type 0 → Type 0 → Type 0
Images M N I J = (decm : Discrete M) (decn : Discrete N) (q : ℕ) (f : M → N)
    → ((e g : List (ℕ × M)) → Same decm q e g → Same decn q (moved f e) (moved f g))
    × ((vi : I → List (ℕ × M)) (vj : J → List (ℕ × N)) (g : I → J) → ((i : I) → vj (g i) ≡ moved f (vi i))
    → (e : List (ℕ × M)) → IsLinearCombination decm vi q e → IsLinearCombination decn vj q (moved f e))

-- In a list whose things are compared by a strict total order, how many are less is a rank:
-- less for a lesser thing, and one for one thing alone.
abbrev pub Ranks : Type 0 → Type 0
Ranks X = (less : X → X → Bool)
    → ((x y z : X) → less x y ≡ true → less y z ≡ true → less x z ≡ true) → ((x : X) → less x x ≡ true → ⊥)
    → (l : List X) → ((x y : X) → Mem x l → Mem y l → (less x y ≡ true) ⊎ ((less y x ≡ true) ⊎ (x ≡ y)))
    → (x y : X) → Mem x l → Mem y l
    → (less x y ≡ true → count_less less l x < count_less less l y) × (count_less less l x ≡ count_less less l y → x ≡ y)

-- Monic instances of which any two with one leading monomial differ by a sum of instances with lower ones, where leading monomials of
-- one rank are one: each sum of instances is zero, or its greatest monomial is the leading one of an instance.
abbrev pub AbstractDiamondLemma : Type 0 → Type 0 → Type 0
AbstractDiamondLemma M I = (dec : Discrete M) (rank : M → ℕ) (q : ℕ) (value : I → List (ℕ × M)) (lead : I → M) → HaveLeadingTerms dec rank q value lead
    → ((i j : I) → lead i ≡ lead j → Meet dec rank q value lead i j) → ((i j : I) → rank (lead i) ≡ rank (lead j) → lead i ≡ lead j)
    → (uses : List (ℕ × I)) → Same dec q (expand value uses) [] ⊎ Led dec rank q lead (expand value uses)

-- Two independent replacements, of a by a + g and of b by b + h, in a monomial made of both:
-- their difference is the sum of the second at each monomial of g less the sum of the first at each monomial of h.
abbrev pub Replacements : Type 0 → Type 0 → Type 0 → Type 0
Replacements M X Y = (dec : Discrete M) (q : ℕ) (both : X → Y → M) (a : X) (g : List (ℕ × X)) (b : Y) (h : List (ℕ × Y))
    → Same dec q (moved (λ x. both x b) ((1, a) ∷ g) ++ scale q (moved (both a) ((1, b) ∷ h)))
    (expand (λ x. moved (both x) ((1, b) ∷ h)) g ++ scale q (expand (λ y. moved (λ x. both x y) ((1, a) ∷ g)) h))
