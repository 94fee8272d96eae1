-- What was read, told by what reading gave.
use Rattle.std.proofs.Common.{◌≡◌, ℕ, Bool, true, false, List, [], ◌∷◌, Option, Some, None, Result, Ok, Err, ap, refl}
use Rattle.presentation_text.specs.LineReadings.{known}
use Rattle.presentation_text.specs.Readings.{Fault, ◌>>=◌, first_row, number_in, refused, word_in}
use Rattle.presentation_text.specs.declared.kinds.DocKind.{DocKind}
use Rattle.presentation_text.specs.declared.lexing.Token.{Token}
use Rattle.presentation_text.specs.declared.lexing.Token.TheVariants.{Word, Number, Long, Byte, Bad}

pub one_value : {A : Type 0} (reading : Result A Fault) (x y : A) → reading ≡ Ok x → reading ≡ Ok y → x ≡ y
one_value reading x y e f = cc

-- where something is read after another thing, both were read
pub both_read : {A B : Type 0} (reading : Result A Fault) (more : A → Result B Fault) (y : B) → (reading >>= more) ≡ Ok y → (x : A) × (reading ≡ Ok x) × (more x ≡ Ok y)
both_read (Ok x) more y e = (x, refl, e)
both_read (Err fault) more y e = absurd cc

-- what was not refused
pub not_refused : {A : Type 0} (left : ℕ) (holds : Bool) (kind : DocKind) (reading : Result A Fault) (y : A) → refused left (first_row ((holds, kind) ∷ [])) reading ≡ Ok y
    → (holds ≡ false) × (reading ≡ Ok y)
not_refused left true kind reading y e = absurd cc
not_refused left false kind reading y e = (refl, e)

pub neither_refused : {A : Type 0} (left : ℕ) (holds other : Bool) (kind next : DocKind) (reading : Result A Fault) (y : A)
    → refused left (first_row ((holds, kind) ∷ (other, next) ∷ [])) reading ≡ Ok y → (holds ≡ false) × (other ≡ false) × (reading ≡ Ok y)
neither_refused left true other kind next reading y e = absurd cc
neither_refused left false true kind next reading y e = absurd cc
neither_refused left false false kind next reading y e = (refl, refl, e)

pub was_known : {X : Type 0} (left : ℕ) (kind : DocKind) (found : Option X) (x : X) → known left kind found ≡ Ok x → found ≡ Some x
was_known left kind None x e = absurd cc
was_known left kind (Some y) x e = let same : y ≡ x = cc in ap Some same

pub word_read : (ts : List Token) (x : List ℕ × List Token) → word_in ts ≡ Ok x → ts ≡ Word x.0 ∷ x.1
word_read [] x e = absurd cc
word_read (Word w ∷ rest) x e = cc
word_read (Number n ∷ rest) x e = absurd cc
word_read (Long ∷ rest) x e = absurd cc
word_read (Byte c ∷ rest) x e = absurd cc
word_read (Bad ∷ rest) x e = absurd cc

pub number_read : (ts : List Token) (x : ℕ × List Token) → number_in ts ≡ Ok x → ts ≡ Number x.0 ∷ x.1
number_read [] x e = absurd cc
number_read (Word w ∷ rest) x e = absurd cc
number_read (Number n ∷ rest) x e = cc
number_read (Long ∷ rest) x e = absurd cc
number_read (Byte c ∷ rest) x e = absurd cc
number_read (Bad ∷ rest) x e = absurd cc
