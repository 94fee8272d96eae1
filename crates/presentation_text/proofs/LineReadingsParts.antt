-- Reading the parts of a generator one after the other.
use Rattle.std.proofs.Common.{◌≡◌, ◌<◌, ◌≤◌, ◌+◌, ℕ, zero, suc, Bool, true, false, nat_lt, List, [], ◌∷◌, ◌++◌, length, Result, Ok, Err, append_assoc, arith, sym, ap, ◌∙◌, ◌==◌, ◌||◌, refl, subst}
use Rattle.symmetric_trees.specs.declared.generators.Part.{Part}
use Rattle.symmetric_trees.specs.declared.generators.PartKind.{PartKind}
use Rattle.presentation_text.specs.LineReadings.{all_parts_in, known, part_in, part_named, parts_in}
use Rattle.presentation_text.specs.Readings.{Fault, ◌>>=◌, first_row, number_in, refused, word_in}
use Rattle.presentation_text.specs.declared.kinds.DocKind.TheVariants.{PartsOut, Syntax}
use Rattle.presentation_text.specs.declared.lexing.Token.{Token}
use Rattle.presentation_text.specs.declared.lexing.Token.TheVariants.{Word, Number}
use Rattle.presentation_text.proofs.LineReadingsNumbers.{below, not_below}
use Rattle.presentation_text.proofs.LineReadingsRead.{both_read, not_refused, number_read, one_value, word_read}

-- A part that was read: two tokens, and a size that fits.
pub record IsPartRead (arity sum : ℕ) (ts : List Token) (x : Part × List Token) : Type 0 where
  pub word : List ℕ
  pub tokens_are : ts ≡ Word word ∷ (Number (x.0).size ∷ x.1)
  pub fits : ((x.0).size == 0 || nat_lt arity (sum + (x.0).size)) ≡ false

sized : (arity sum : ℕ) (ts rest : List Token) (word : List ℕ) (kind : PartKind) (n : ℕ × List Token) (x : Part × List Token) → word_in ts ≡ Ok (word, rest) → number_in rest ≡ Ok n
    → refused (suc (length n.1)) (first_row ((n.0 == 0 || nat_lt arity (sum + n.0), PartsOut) ∷ [])) (Ok (record { kind = kind; size = n.0 }, n.1)) ≡ Ok x → IsPartRead arity sum ts x
sized arity sum ts rest word kind n x e f g =
    let out = not_refused (suc (length n.1)) (n.0 == 0 || nat_lt arity (sum + n.0)) PartsOut (Ok (record { kind = kind; size = n.0 }, n.1)) x g in
    subst (IsPartRead arity sum ts) (one_value (Ok (record { kind = kind; size = n.0 }, n.1)) (record { kind = kind; size = n.0 }, n.1) x refl out.1)
    (record { word = word; tokens_are = word_read ts (word, rest) e ∙ ap (λ r. Word word ∷ r) (number_read rest n f); fits = out.0 })

counted : (arity sum : ℕ) (ts : List Token) (w : List ℕ × List Token) (kind : PartKind) (x : Part × List Token) → word_in ts ≡ Ok w
    → (number_in w.1 >>= λ n. refused (suc (length n.1)) (first_row ((n.0 == 0 || nat_lt arity (sum + n.0), PartsOut) ∷ [])) (Ok (record { kind = kind; size = n.0 }, n.1))) ≡ Ok x
    → IsPartRead arity sum ts x
counted arity sum ts w kind x e f = let number = both_read (number_in w.1) _ x f in sized arity sum ts w.1 w.0 kind number.0 x e number.1 number.2

pub part_read : (arity sum : ℕ) (ts : List Token) (x : Part × List Token) → part_in arity sum ts ≡ Ok x → IsPartRead arity sum ts x
unfolding part_in
part_read arity sum ts x e =
    let word = both_read (word_in ts) _ x e in
    let kind = both_read (known (suc (length (word.0).1)) Syntax (part_named (word.0).0)) _ x word.2 in
    counted arity sum ts word.0 kind.0 x word.1 kind.2

pub part_shorter : (arity sum : ℕ) (ts : List Token) (x : Part × List Token) → part_in arity sum ts ≡ Ok x → length x.1 < length ts
part_shorter arity sum ts x e = let lengths = ap length (part_read arity sum ts x e).tokens_are in omega arith

-- parts are read in the same way whatever number of them is allowed, if it is enough
on_alike : {A B : Type 0} (reading : Result A Fault) (one other : A → Result B Fault) → ((x : A) → reading ≡ Ok x → one x ≡ other x) → (reading >>= one) ≡ (reading >>= other)
on_alike (Ok x) one other h = h x refl
on_alike (Err fault) one other h = refl

pub parts_enough : (m n arity sum : ℕ) (ts : List Token) → length ts ≤ m → length ts ≤ n → parts_in m arity sum ts ≡ parts_in n arity sum ts
unfolding parts_in
parts_enough zero zero arity sum ts l k = refl
parts_enough zero (suc n) arity sum [] l k = refl
parts_enough zero (suc n) arity sum (token ∷ rest) l k = absurd (omega arith)
parts_enough (suc m) zero arity sum [] l k = refl
parts_enough (suc m) zero arity sum (token ∷ rest) l k = absurd (omega arith)
parts_enough (suc m) (suc n) arity sum [] l k = refl
parts_enough (suc m) (suc n) arity sum (token ∷ rest) l k =
    on_alike (part_in arity sum (token ∷ rest)) _ _ (λ part e.
    let shorter = part_shorter arity sum (token ∷ rest) part e in
    ap (λ others. others >>= λ ps. Ok (part.0 ∷ ps)) (parts_enough m n arity (sum + (part.0).size) part.1 (omega arith) (omega arith)))

-- where tokens are left, further parts are read as one at least
pub further_parts : (arity sum : ℕ) (ts : List Token) → 0 < length ts → parts_in (length ts) arity sum ts ≡ all_parts_in arity sum ts
unfolding parts_in all_parts_in
further_parts arity sum [] l = absurd (omega arith)
further_parts arity sum (token ∷ rest) l =
    on_alike (part_in arity sum (token ∷ rest)) _ _ (λ part e.
    let shorter = part_shorter arity sum (token ∷ rest) part e in
    ap (λ others. others >>= λ ps. Ok (part.0 ∷ ps)) (parts_enough (length rest) (length part.1) arity (sum + (part.0).size) part.1 (omega arith) (omega arith)))

-- a part, and further ones
pub parts_step : (arity sum : ℕ) (ts rest : List Token) (part : Part) → part_in arity sum ts ≡ Ok (part, rest) → 0 < length rest
    → all_parts_in arity sum ts ≡ (all_parts_in arity (sum + part.size) rest >>= λ others. Ok (part ∷ others))
unfolding all_parts_in
parts_step arity sum ts rest part e l = rw (e, further_parts arity (sum + part.size) rest l) refl

no_others : (short : Bool) (part : Part) → (refused 0 (first_row ((short, PartsOut) ∷ [])) (Ok []) >>= λ others. Ok (part ∷ others)) ≡ refused 0 (first_row ((short, PartsOut) ∷ [])) (Ok (part ∷ []))
no_others true part = refl
no_others false part = refl

-- the last part
pub parts_last : (arity sum : ℕ) (ts rest : List Token) (part : Part) → part_in arity sum ts ≡ Ok (part, rest) → length rest ≡ 0
    → all_parts_in arity sum ts ≡ refused 0 (first_row ((nat_lt (sum + part.size) arity, PartsOut) ∷ [])) (Ok (part ∷ []))
unfolding all_parts_in parts_in
parts_last arity sum ts [] part e l = rw e (no_others (nat_lt (sum + part.size) arity) part)
parts_last arity sum ts (token ∷ rest) part e l = absurd (omega arith)

-- ---- parts so far, and those behind them

abbrev pub Behind : Result (List Part) Fault → List Part → Result (List Part) Fault → Type 0
Behind whole parts others = whole ≡ (others >>= λ more. Ok (parts ++ more))

pub behind_none : (whole : Result (List Part) Fault) (parts : List Part) → parts ≡ [] → Behind whole parts whole
behind_none (Ok others) parts e = rw e refl
behind_none (Err fault) parts e = refl

one_more : (reading : Result (List Part) Fault) (parts : List Part) (part : Part) → ((reading >>= λ others. Ok (part ∷ others)) >>= λ others. Ok (parts ++ others)) ≡ (reading >>= λ others. Ok ((parts ++ part ∷ []) ++ others))
one_more (Ok others) parts part = ap Ok (sym (append_assoc parts (part ∷ []) others))
one_more (Err fault) parts part = refl

pub behind_part : (arity sum : ℕ) (ts rest : List Token) (whole : Result (List Part) Fault) (parts new : List Part) (part : Part) → Behind whole parts (all_parts_in arity sum ts)
    → part_in arity sum ts ≡ Ok (part, rest) → 0 < length rest → new ≡ parts ++ part ∷ [] → Behind whole new (all_parts_in arity (sum + part.size) rest)
behind_part arity sum ts rest whole parts new part h e l n =
    h ∙ ap (λ reading. reading >>= λ others. Ok (parts ++ others)) (parts_step arity sum ts rest part e l) ∙ one_more (all_parts_in arity (sum + part.size) rest) parts part
    ∙ ap (λ ps. all_parts_in arity (sum + part.size) rest >>= λ others. Ok (ps ++ others)) (sym n)

-- at the end of the line the sizes are too small, or add up to the arity
pub parts_short : (arity sum : ℕ) (ts rest : List Token) (whole : Result (List Part) Fault) (parts : List Part) (part : Part) → Behind whole parts (all_parts_in arity sum ts)
    → part_in arity sum ts ≡ Ok (part, rest) → length rest ≡ 0 → sum + part.size < arity → whole ≡ Err (0, PartsOut)
parts_short arity sum ts rest whole parts part h e l short =
    let low : nat_lt (sum + part.size) arity ≡ true = below (sum + part.size) arity short in
    h ∙ ap (λ reading. reading >>= λ others. Ok (parts ++ others)) (parts_last arity sum ts rest part e l) ∙ rw low refl

pub parts_whole : (arity sum : ℕ) (ts rest : List Token) (whole : Result (List Part) Fault) (parts new : List Part) (part : Part) → Behind whole parts (all_parts_in arity sum ts)
    → part_in arity sum ts ≡ Ok (part, rest) → length rest ≡ 0 → arity ≤ sum + part.size → new ≡ parts ++ part ∷ [] → whole ≡ Ok new
parts_whole arity sum ts rest whole parts new part h e l enough n =
    let full : nat_lt (sum + part.size) arity ≡ false = not_below (sum + part.size) arity enough in
    h ∙ ap (λ reading. reading >>= λ others. Ok (parts ++ others)) (parts_last arity sum ts rest part e l) ∙ rw full (ap Ok (sym n))
