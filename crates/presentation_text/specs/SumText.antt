-- The text of a sum.
use Rattle.std.specs.Prelude.{ℕ, ◌<◌, ◌-◌, ◌/◌, ◌^◌, ◌==◌, Bool, nat_lt, if◌then◌else◌, List, [], ◌∷◌, ◌++◌}
use Rattle.std.specs.List.{All}
use Rattle.std.specs.Fmt.{decimal}
use Rattle.labelled_trees.specs.Trees.{Tree}
use Rattle.labelled_trees.specs.Leaves.{AllLeaves}
use Rattle.symmetric_trees.specs.Trees.{Fits}
use Rattle.symmetric_trees.specs.declared.generators.Generator.{Generator}
use Rattle.presentation_text.specs.TreeText.{tree_text}

-- A residue modulo p up to (p - 1) / 2 is printed as itself, one above as the negative number that is p less.
abbrev pub is_negative : ℕ → ℕ → Bool
is_negative p c = nat_lt ((p - 1) / 2) c

-- the absolute value of the number as which a residue is printed
abbrev pub magnitude : ℕ → ℕ → ℕ
magnitude p c = if is_negative p c then p - c else c

-- a number and '*', which are left out for 1
abbrev pub factor_text : ℕ → List ℕ
factor_text c = if c == 1 then [] else decimal c ++ 42 ∷ []

abbrev pub term_text : ℕ → List Generator → ℕ × Tree ℕ → List ℕ
term_text p generators x = factor_text (magnitude p x.0) ++ tree_text generators x.1

-- " - " or " + "
abbrev pub sign_text : ℕ → ℕ → List ℕ
sign_text p c = 32 ∷ ((if is_negative p c then 45 else 43) ∷ (32 ∷ []))

-- terms with " + " or " - " before each
abbrev pub further_text : ℕ → List Generator → List (ℕ × Tree ℕ) → List ℕ
further_text p generators [] = []
further_text p generators (x ∷ e) = sign_text p x.0 ++ (term_text p generators x ++ further_text p generators e)

-- a term with '-' before it where its number is negative
abbrev pub first_text : ℕ → List Generator → ℕ × Tree ℕ → List ℕ
first_text p generators x = (if is_negative p x.0 then 45 ∷ [] else []) ++ term_text p generators x

-- A sum without terms is printed as 0; else '-' or nothing, a term, and further terms with " + " or " - " before each.
abbrev pub sum_text : ℕ → List Generator → List (ℕ × Tree ℕ) → List ℕ
sum_text p generators [] = 48 ∷ []
sum_text p generators (x ∷ e) = first_text p generators x ++ further_text p generators e

-- A sum whose text may be read back: residues modulo p other than 0, beside trees over the table whose leaf numbers
-- are 1 or more and have at most 18 digits.
abbrev pub IsPrintable : ℕ → List Generator → List (ℕ × Tree ℕ) → Type 0
IsPrintable p generators = All (λ x. (0 < x.0) × (x.0 < p) × Fits generators x.1 × AllLeaves x.1 (λ n. (0 < n) × (n < 10 ^ 18)))
