-- How a term and an element begin: their coefficients and signs, as they are read and as they are written.
use Rattle.std.proofs.Common.{◌≡◌, ◌≢◌, ℕ, ◌<◌, Bool, true, false, List, [], ◌∷◌, ◌++◌, Option, Some, None, refl, ap, sym, ◌∙◌, arith}
use Rattle.std.specs.Prelude.{if◌then◌else◌, ◌==◌, not, ◌&&◌}
use Rattle.std.proofs.lemmas.Bool.{eqb-true}
use Rattle.std.proofs.lemmas.Bool.Decides.{nat_tests}
use Rattle.labelled_trees.specs.Trees.{Tree, leaf, node}
use Rattle.labelled_trees.specs.Leaves.{AllLeaves}
use Rattle.symmetric_trees.specs.declared.generators.Generator.{Generator}
use Rattle.presentation_text.specs.declared.lexing.Token.{Token}
use Rattle.presentation_text.specs.declared.lexing.Token.TheVariants.{Word, Number, Long, Byte, Bad}
use Rattle.presentation_text.specs.Readings.{is_mark}
use Rattle.presentation_text.specs.TreeReadings.{begins_with}
use Rattle.presentation_text.specs.TreeText.{tree_tokens}
use Rattle.presentation_text.specs.Elements.{coefficient_tokens, mark}
use Rattle.presentation_text.specs.ElementReadings.{behind_one, is_zero, is_nothing, coefficient_of, coefficient, behind_coefficient, sign_of, sign}
use Rattle.presentation_text.specs.Accepted.{NotMarked, EndsTree}
use Rattle.presentation_text.proofs.LineReadingsNumbers.{both_true}

-- ---- single bytes

begins-marked : (c : ℕ) (ts : List Token) → begins_with c ts ≡ true → ts ≡ Byte c ∷ behind_one ts
begins-marked c [] e = absurd cc
begins-marked c (token ∷ ts) e = by token e
  where
    by : (x : Token) → is_mark c x ≡ true → x ∷ ts ≡ Byte c ∷ ts
    by (Byte d) h = ap (λ k. Byte k ∷ ts) (eqb-true d c h)
    by (Word w) h = absurd cc
    by (Number n) h = absurd cc
    by Long h = absurd cc
    by Bad h = absurd cc

pub not-marked : (c : ℕ) (ts : List Token) → begins_with c ts ≡ false → NotMarked c ts
not-marked c [] e = tt
not-marked c (token ∷ ts) e = by token e
  where
    by : (x : Token) → is_mark c x ≡ false → x ≢ Byte c
    by (Byte d) h same = let number : d ≡ c = cc in grind (arith, nat_tests)
    by (Word w) h same = cc
    by (Number n) h same = cc
    by Long h same = cc
    by Bad h same = cc

other-byte : (b : Bool) (c d : ℕ) → (d == c) ≡ b → Byte d ≢ Byte c → b ≡ false
other-byte false c d e h = refl
other-byte true c d e h = absurd (h (ap Byte (eqb-true d c e)))

pub unmarked : (c : ℕ) (ts : List Token) → NotMarked c ts → begins_with c ts ≡ false
unmarked c [] none = refl
unmarked c (token ∷ ts) none = by token none
  where
    by : (x : Token) → x ≢ Byte c → is_mark c x ≡ false
    by (Byte d) h = other-byte (d == c) c d refl h
    by (Word w) h = refl
    by (Number n) h = refl
    by Long h = refl
    by Bad h = refl

-- ---- coefficients

starred : (b : Bool) (n : ℕ) (ts : List Token) → begins_with 42 ts ≡ b
    → Number n ∷ ts ≡ coefficient_tokens (if b then Some n else None) ++ behind_coefficient (if b then Some n else None) (Number n ∷ ts)
starred true n ts e = ap (λ r. Number n ∷ r) (begins-marked 42 ts e)
starred false n ts e = refl

-- the tokens of a coefficient stand before what is read behind it
pub coefficient-spelled : (ts : List Token) → ts ≡ coefficient_tokens (coefficient ts) ++ behind_coefficient (coefficient ts) ts
coefficient-spelled [] = refl
coefficient-spelled (token ∷ ts) = by token
  where
    by : (x : Token) → x ∷ ts ≡ coefficient_tokens (coefficient_of x ts) ++ behind_coefficient (coefficient_of x ts) (x ∷ ts)
    by (Number n) = starred (begins_with 42 ts) n ts refl
    by (Byte d) = refl
    by (Word w) = refl
    by Long = refl
    by Bad = refl

-- the coefficient of a term is the one that is read
pub coefficient-is : (generators : List Generator) (c : Option ℕ) (t : Tree ℕ) (rest : List Token) → EndsTree t rest
    → coefficient ((coefficient_tokens c ++ tree_tokens generators t) ++ rest) ≡ c
coefficient-is generators (Some c) t rest ends = refl
coefficient-is generators None (node g r) rest ends = refl
coefficient-is generators None (leaf n) rest ends = ap (λ b. if b then Some n else None) (unmarked 42 rest (ends refl))

pub behind-is : (generators : List Generator) (c : Option ℕ) (t : Tree ℕ) (rest : List Token)
    → behind_coefficient c ((coefficient_tokens c ++ tree_tokens generators t) ++ rest) ≡ tree_tokens generators t ++ rest
behind-is generators (Some c) t rest = refl
behind-is generators None t rest = refl

-- ---- signs

pub sign-spelled : (ts : List Token) (negative : Bool) → sign ts ≡ Some negative → ts ≡ mark negative ∷ behind_one ts
sign-spelled [] negative e = absurd cc
sign-spelled (token ∷ ts) negative e = by token e
  where
    by_byte : (p m : Bool) (d : ℕ) → (d == 43) ≡ p → (d == 45) ≡ m → (if p then Some false else (if m then Some true else None)) ≡ Some negative → Byte d ≡ mark negative
    by_byte true m d a b h = let plus : negative ≡ false = cc in ap Byte (eqb-true d 43 a) ∙ ap mark (sym plus)
    by_byte false true d a b h = let minus : negative ≡ true = cc in ap Byte (eqb-true d 45 b) ∙ ap mark (sym minus)
    by_byte false false d a b h = absurd cc

    by : (x : Token) → sign_of x ≡ Some negative → x ∷ ts ≡ mark negative ∷ ts
    by (Byte d) h = ap (λ x. x ∷ ts) (by_byte (d == 43) (d == 45) d refl refl h)
    by (Number n) h = absurd cc
    by (Word w) h = absurd cc
    by Long h = absurd cc
    by Bad h = absurd cc

pub sign-is : (negative : Bool) (ts : List Token) → sign (mark negative ∷ ts) ≡ Some negative
sign-is true ts = refl
sign-is false ts = refl

pub no-sign : (ts : List Token) → NotMarked 43 ts → NotMarked 45 ts → sign ts ≡ None
no-sign [] plus minus = refl
no-sign (token ∷ ts) plus minus = by token plus minus
  where
    by : (x : Token) → x ≢ Byte 43 → x ≢ Byte 45 → sign_of x ≡ None
    by (Byte d) p m = rw (other-byte (d == 43) 43 d refl p, other-byte (d == 45) 45 d refl m) refl
    by (Number n) p m = refl
    by (Word w) p m = refl
    by Long p m = refl
    by Bad p m = refl

pub unsigned-ends : (ts : List Token) → sign ts ≡ None → NotMarked 43 ts × NotMarked 45 ts
unsigned-ends [] e = (tt, tt)
unsigned-ends (token ∷ ts) e = (λ p. let none : sign_of (Byte 43) ≡ None = ap sign_of (sym p) ∙ e in absurd cc, λ m. let none : sign_of (Byte 45) ≡ None = ap sign_of (sym m) ∙ e in absurd cc)

byte-is : (c d : ℕ) → Byte c ≡ Byte d → c ≡ d
byte-is c d e = cc

pub sign-no-star : (negative : Bool) (ts : List Token) → NotMarked 42 (mark negative ∷ ts)
sign-no-star true ts e = absurd (omega (arith, byte-is 45 42 e))
sign-no-star false ts e = absurd (omega (arith, byte-is 43 42 e))

-- ---- how an element begins

zero-spelled : (token : Token) → is_zero token ≡ true → token ≡ Number 0
zero-spelled (Number n) e = ap Number (eqb-true n 0 e)
zero-spelled (Byte d) e = absurd cc
zero-spelled (Word w) e = absurd cc
zero-spelled Long e = absurd cc
zero-spelled Bad e = absurd cc

not-true : (b : Bool) → not b ≡ true → b ≡ false
not-true false e = refl
not-true true e = absurd cc

pub nothing-spelled : (ts : List Token) → is_nothing ts ≡ true → (ts ≡ Number 0 ∷ behind_one ts) × NotMarked 42 (behind_one ts)
nothing-spelled [] e = absurd cc
nothing-spelled (token ∷ ts) e =
    let tests = both_true (is_zero token) (not (begins_with 42 ts)) e in
    (ap (λ x. x ∷ ts) (zero-spelled token tests.0), not-marked 42 ts (not-true (begins_with 42 ts) tests.1))

pub nothing-there : (rest : List Token) → NotMarked 42 rest → is_nothing (Number 0 ∷ rest) ≡ true
nothing-there rest none = rw (unmarked 42 rest none) refl

and-false : (b : Bool) → (b && false) ≡ false
and-false true = refl
and-false false = refl

above-zero : (n : ℕ) → 0 < n → (n == 0) ≡ false
above-zero n l = above (n == 0) refl
  where
    above : (b : Bool) → (n == 0) ≡ b → b ≡ false
    above false e = refl
    above true e = absurd (omega (arith, l, eqb-true n 0 e))

-- an element that begins with a term isn't the number 0
pub something-there : (generators : List Generator) (negative : Bool) (c : Option ℕ) (t : Tree ℕ) (rest : List Token) → AllLeaves t (λ n. 0 < n)
    → is_nothing ((if negative then Byte 45 ∷ [] else []) ++ ((coefficient_tokens c ++ tree_tokens generators t) ++ rest)) ≡ false
something-there generators true c t rest positive = refl
something-there generators false (Some c) t rest positive = and-false (c == 0)
something-there generators false None (node g r) rest positive = refl
something-there generators false None (leaf n) rest positive = rw (above-zero n positive) refl

pub minus-there : (generators : List Generator) (negative : Bool) (c : Option ℕ) (t : Tree ℕ) (rest : List Token)
    → negative ≡ begins_with 45 ((if negative then Byte 45 ∷ [] else []) ++ ((coefficient_tokens c ++ tree_tokens generators t) ++ rest))
minus-there generators true c t rest = refl
minus-there generators false (Some c) t rest = refl
minus-there generators false None (node g r) rest = refl
minus-there generators false None (leaf n) rest = refl

pub minus-behind : (negative : Bool) (front : List Token) → front ≡ (if negative then behind_one ((if negative then Byte 45 ∷ [] else []) ++ front) else ((if negative then Byte 45 ∷ [] else []) ++ front))
minus-behind true front = refl
minus-behind false front = refl

pub minus-spelled : (negative : Bool) (ts : List Token) → begins_with 45 ts ≡ negative → ts ≡ (if negative then Byte 45 ∷ [] else []) ++ (if negative then behind_one ts else ts)
minus-spelled true ts e = begins-marked 45 ts e
minus-spelled false ts e = refl
