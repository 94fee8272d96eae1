-- What single tokens are, where they were read.
use Rattle.std.proofs.Common.{◌≡◌, ℕ, suc, Bool, true, false, if◌then◌else◌, List, [], ◌∷◌, ◌++◌, codes, length, Some, None, Ok, ap, refl, subst, ◌∙◌}
use Rattle.symmetric_sums.specs.declared.instance.Rule.{Rule}
use Rattle.presentation_text.specs.ElementReadings.{behind_one}
use Rattle.presentation_text.specs.TreeReadings.{begins_with}
use Rattle.presentation_text.specs.LineReadings.{is, known}
use Rattle.presentation_text.specs.Readings.{is_mark, number_in, word_in}
use Rattle.presentation_text.specs.declared.kinds.DocKind.TheVariants.{Syntax}
use Rattle.presentation_text.specs.declared.lexing.Token.{Token}
use Rattle.presentation_text.specs.declared.lexing.Token.TheVariants.{Word, Number, Byte}
use Rattle.certificate_text.specs.BlockReadings.{cited_in, cites_step, coefficient_in}
use Rattle.certificate_text.specs.UseText.{cited_rule}
use Rattle.presentation_text.proofs.LineReadingsRead.{both_read, number_read, was_known, word_read}
use Rattle.presentation_text.proofs.ContentsLines.{is_word}
use Rattle.presentation_text.proofs.TreesAcceptedTrees.{marked}

-- ---- a coefficient

-- '-' or nothing
abbrev pub minus : Bool → List Token
minus negative = if negative then Byte 45 ∷ [] else []

minus_split : (ts : List Token) → ts ≡ minus (begins_with 45 ts) ++ (if begins_with 45 ts then behind_one ts else ts)
minus_split [] = refl
minus_split (token ∷ rest) = by_test (is_mark 45 token) (λ m. marked 45 token m) where
  by_test : (b : Bool) → (b ≡ true → token ≡ Byte 45) → token ∷ rest ≡ minus b ++ (if b then rest else token ∷ rest)
  by_test true m = ap (λ t. t ∷ rest) (m refl)
  by_test false m = refl

pub coefficient_read : (ts : List Token) (x : (Bool × ℕ) × List Token) → coefficient_in ts ≡ Ok x → ts ≡ minus (x.0).0 ++ (Number (x.0).1 ∷ x.1)
unfolding coefficient_in
coefficient_read ts x e =
    let behind = if begins_with 45 ts then behind_one ts else ts in
    let number = both_read (number_in behind) _ x e in
    let spelled : behind ≡ Number (number.0).0 ∷ (number.0).1 = number_read behind number.0 number.1 in
    let is_x : ((begins_with 45 ts, (number.0).0), (number.0).1) ≡ x = cc (number.2) in
    subst (λ (y : (Bool × ℕ) × List Token). ts ≡ minus (y.0).0 ++ (Number (y.0).1 ∷ y.1)) is_x (minus_split ts ∙ ap (λ rest. minus (begins_with 45 ts) ++ rest) spelled)

pub coefficient_there : (negative : Bool) (n : ℕ) (rest : List Token) → coefficient_in (minus negative ++ (Number n ∷ rest)) ≡ Ok ((negative, n), rest)
unfolding coefficient_in
coefficient_there true n rest = refl
coefficient_there false n rest = refl

-- ---- what is cited

cited_word : (w : List ℕ) (step : Bool) → cites_step w ≡ Some step → w ≡ (if step then codes "step" else codes "rel")
cited_word w step e = by_tests (is w (codes "step")) (is w (codes "rel")) (λ h. is_word w (codes "step") h) (λ h. is_word w (codes "rel") h) e where
  by_tests : (a b : Bool) → (a ≡ true → w ≡ codes "step") → (b ≡ true → w ≡ codes "rel") → (if a then Some true else (if b then Some false else None)) ≡ Some step
      → w ≡ (if step then codes "step" else codes "rel")
  by_tests true b h g f = let same : true ≡ step = cc in subst (λ s. w ≡ (if s then codes "step" else codes "rel")) same (h refl)
  by_tests false true h g f = let same : false ≡ step = cc in subst (λ s. w ≡ (if s then codes "step" else codes "rel")) same (g refl)
  by_tests false false h g f = absurd cc

-- what was cited, in two tokens
pub record IsCitedBy (ts : List Token) (x : Rule × List Token) : Type 0 where
  pub step : Bool
  pub number : ℕ
  pub spelled : ts ≡ Word (if step then codes "step" else codes "rel") ∷ (Number number ∷ x.1)
  pub rule_is : x.0 ≡ cited_rule step number

pub cited_read : (ts : List Token) (x : Rule × List Token) → cited_in ts ≡ Ok x → IsCitedBy ts x
unfolding cited_in
cited_read ts x e =
    let word = both_read (word_in ts) _ x e in
    let w = (word.0).0 in
    let rest = (word.0).1 in
    let step = both_read (known (suc (length rest)) Syntax (cites_step w)) _ x word.2 in
    let number = both_read (number_in rest) _ x step.2 in
    let is_x : (cited_rule step.0 (number.0).0, (number.0).1) ≡ x = cc (number.2) in
    let spelled : ts ≡ Word w ∷ rest = word_read ts word.0 word.1 in
    let first : w ≡ (if step.0 then codes "step" else codes "rel") = cited_word w step.0 (was_known (suc (length rest)) Syntax (cites_step w) step.0 step.1) in
    let second : rest ≡ Number (number.0).0 ∷ (number.0).1 = number_read rest number.0 number.1 in
    subst (IsCitedBy ts) is_x (record {
      step = step.0;
      number = (number.0).0;
      spelled = spelled ∙ ap (λ y. Word y ∷ rest) first ∙ ap (λ y. Word (if step.0 then codes "step" else codes "rel") ∷ y) second;
      rule_is = refl;
    })

pub cited_there : (step : Bool) (n : ℕ) (rest : List Token) → cited_in (Word (if step then codes "step" else codes "rel") ∷ (Number n ∷ rest)) ≡ Ok (cited_rule step n, rest)
unfolding cited_in
cited_there true n rest = refl
cited_there false n rest = refl
