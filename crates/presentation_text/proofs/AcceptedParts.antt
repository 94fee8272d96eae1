-- The generator of a line is read exactly where the tokens are those of the grammar.
use Rattle.std.proofs.Common.{◌≡◌, ◌<◌, ◌≤◌, ◌+◌, ◌==◌, ◌||◌, ◌⊎◌, inl, inr, ℕ, zero, suc, Bool, true, false, cond, nat_lt, List, [], ◌∷◌, length, Some, None, Ok, arith, sym, ap, ◌∙◌, refl, subst}
use Rattle.std.specs.List.{sum_by}
use Rattle.std.proofs.lemmas.Bool.Decides.{Decides-eqb}
use Rattle.std.proofs.lemmas.List.Sums.{sum_by-cons}
use Rattle.symmetric_trees.specs.Generators.{IsArity}
use Rattle.symmetric_trees.specs.declared.generators.Generator.{Generator}
use Rattle.symmetric_trees.specs.declared.generators.Part.{Part}
use Rattle.symmetric_trees.specs.declared.generators.PartKind.{PartKind}
use Rattle.presentation_text.specs.Grammar.{ArePartTokens, no_parts, one_part, IsSymmetry, ArePartsOf, IsGeneratorLine}
use Rattle.presentation_text.specs.LineReadings.{Contents, all_parts_in, generator_in, inputs_in, known, named_arity_in, part_in, part_named, parts_in, symmetry_in, symmetry_named}
use Rattle.presentation_text.specs.Readings.{end_in, first_row, number_in, refused, word_in}
use Rattle.presentation_text.specs.TreeReadings.{index_of}
use Rattle.presentation_text.specs.declared.kinds.DocKind.TheVariants.{PartsOut, Syntax}
use Rattle.presentation_text.specs.declared.lexing.Token.{Token}
use Rattle.presentation_text.specs.declared.lexing.Token.TheVariants.{Word, Number}
use Rattle.presentation_text.proofs.LineReadingsGenerators.{generator_read}
use Rattle.presentation_text.proofs.LineReadingsNumbers.{arity_is, not_at_most, not_below, not_below_told, not_equal, not_equal_told, size_fits, size_told}
use Rattle.presentation_text.proofs.LineReadingsParts.{further_parts}
use Rattle.presentation_text.proofs.LineReadingsRead.{both_read, not_refused, number_read, one_value, was_known, word_read}
use Rattle.presentation_text.proofs.TreeReadingsSteps.{index-none}

pub end_read : (ts : List Token) (x : Unit {0}) → end_in ts ≡ Ok x → ts ≡ []
end_read [] x e = refl
end_read (token ∷ rest) x e = absurd cc

-- ---- parts

-- A part that was read: its word names its kind, and its size fits.
record IsPart (arity sum : ℕ) (ts : List Token) (x : Part × List Token) : Type 0 where
  word : List ℕ
  named : part_named word ≡ Some (x.0).kind
  tokens_are : ts ≡ Word word ∷ (Number (x.0).size ∷ x.1)
  fits : ((x.0).size == 0 || nat_lt arity (sum + (x.0).size)) ≡ false

part_told : (arity sum : ℕ) (ts : List Token) (x : Part × List Token) → part_in arity sum ts ≡ Ok x → IsPart arity sum ts x
unfolding part_in
part_told arity sum ts x e =
    let word = both_read (word_in ts) _ x e in
    let kind = both_read (known (suc (length (word.0).1)) Syntax (part_named (word.0).0)) _ x word.2 in
    let number = both_read (number_in (word.0).1) _ x kind.2 in
    let n = (number.0).0 in
    let left = (number.0).1 in
    let part : Part = record { kind = kind.0; size = n } in
    let out = not_refused (suc (length left)) (n == 0 || nat_lt arity (sum + n)) PartsOut (Ok (part, left)) x number.2 in
    subst (IsPart arity sum ts) (one_value (Ok (part, left)) (part, left) x refl out.1) (record {
      word = (word.0).0;
      named = was_known (suc (length (word.0).1)) Syntax (part_named (word.0).0) kind.0 kind.1;
      tokens_are = word_read ts word.0 word.1 ∙ ap (λ r. Word (word.0).0 ∷ r) (number_read (word.0).1 number.0 number.1);
      fits = out.0;
    })

-- tokens of parts whose sizes add up to what is left of the arity
abbrev ArePartsFrom : ℕ → ℕ → List Token → List Part → Type 0
ArePartsFrom arity sum ts parts = ArePartTokens ts parts × (sum + sum_by (λ part. part.size) parts ≡ arity)

one_more : (arity sum : ℕ) (ts rest : List Token) (part : Part) (parts : List Part) → IsPart arity sum ts (part, rest) → ArePartsFrom arity (sum + part.size) rest parts → ArePartsFrom arity sum ts (part ∷ parts)
one_more arity sum ts rest part parts one more =
    let size = size_told arity sum part.size one.fits in (
      subst (λ us. ArePartTokens us (part ∷ parts)) (sym one.tokens_are) (one_part one.word part.kind part.size rest parts one.named size.0 more.0),
      omega (arith, more.1, sum_by-cons (λ (p : Part). p.size) part parts),
    )

no_more : (arity sum : ℕ) (parts : List Part) → sum ≤ arity → refused 0 (first_row ((nat_lt sum arity, PartsOut) ∷ [])) (Ok []) ≡ Ok parts → ArePartsFrom arity sum [] parts
no_more arity sum parts l e =
    let out = not_refused 0 (nat_lt sum arity) PartsOut (Ok []) parts e in
    let whole : arity ≤ sum = not_below_told sum arity out.0 in
    subst (ArePartsFrom arity sum []) (one_value (Ok []) [] parts refl out.1) (no_parts, omega arith)

parts_told : (most arity sum : ℕ) (ts : List Token) (parts : List Part) → sum ≤ arity → parts_in most arity sum ts ≡ Ok parts → ArePartsFrom arity sum ts parts
unfolding parts_in
parts_told zero arity sum [] parts l e = no_more arity sum parts l e
parts_told (suc most) arity sum [] parts l e = no_more arity sum parts l e
parts_told zero arity sum (token ∷ rest) parts l e = absurd cc
parts_told (suc most) arity sum (token ∷ rest) parts l e =
    let x = both_read (part_in arity sum (token ∷ rest)) _ parts e in
    let part = (x.0).0 in
    let one = part_told arity sum (token ∷ rest) x.0 x.1 in
    let size = size_told arity sum part.size one.fits in
    let more = both_read (parts_in most arity (sum + part.size) (x.0).1) (λ ps. Ok (part ∷ ps)) parts x.2 in
    subst (ArePartsFrom arity sum (token ∷ rest)) (one_value (Ok (part ∷ more.0)) (part ∷ more.0) parts refl more.2)
    (one_more arity sum (token ∷ rest) (x.0).1 part more.0 one (parts_told most arity (sum + part.size) (x.0).1 more.0 size.1 more.1))

named_part : (arity sum : ℕ) (word : List ℕ) (kind : PartKind) (size : ℕ) (rest : List Token) → part_named word ≡ Some kind → (size == 0 || nat_lt arity (sum + size)) ≡ false
    → part_in arity sum (Word word ∷ (Number size ∷ rest)) ≡ Ok (record { kind = kind; size = size }, rest)
unfolding part_in
named_part arity sum word kind size rest named fits = rw (named, fits) refl

parts_accepted : (most arity sum : ℕ) (ts : List Token) (parts : List Part) → length ts ≤ most → sum + sum_by (λ part. part.size) parts ≡ arity → ArePartTokens ts parts → parts_in most arity sum ts ≡ Ok parts
unfolding parts_in
parts_accepted zero arity sum ts parts room e no_parts = let whole = not_below sum arity (omega (arith, e)) in rw whole refl
parts_accepted (suc most) arity sum ts parts room e no_parts = let whole = not_below sum arity (omega (arith, e)) in rw whole refl
parts_accepted zero arity sum ts parts room e (one_part word kind size rest others named some h) = absurd (omega (arith, room))
parts_accepted (suc most) arity sum ts parts room e (one_part word kind size rest others named some h) =
    let part : Part = record { kind = kind; size = size } in
    let left : sum + size + sum_by (λ (p : Part). p.size) others ≡ arity = omega (arith, e, sum_by-cons (λ (p : Part). p.size) part others) in
    let fits = size_fits arity sum size (λ z. omega (arith, some, z)) (omega (arith, left)) in
    rw (named_part arity sum word kind size rest named fits) (rw (parts_accepted most arity (sum + size) rest others (omega (arith, room)) left h) refl)

-- ---- the inputs of a generator

parts_of_told : (arity : ℕ) (ts : List Token) (parts : List Part) → all_parts_in arity 0 ts ≡ Ok parts → ArePartsOf arity ts parts
unfolding all_parts_in part_in
parts_of_told arity [] parts e = absurd cc
parts_of_told arity (token ∷ rest) parts e =
    let h = parts_told (length (token ∷ rest)) arity 0 (token ∷ rest) parts (omega arith) (further_parts arity 0 (token ∷ rest) (omega arith) ∙ e) in
    record { tokens_are = h.0; sizes = omega (arith, h.1) }

no_tokens : (parts : List Part) → ArePartTokens [] parts → parts ≡ []
no_tokens parts no_parts = refl

parts_of_accepted : (arity : ℕ) (ts : List Token) (parts : List Part) → 0 < arity → ArePartsOf arity ts parts → all_parts_in arity 0 ts ≡ Ok parts
parts_of_accepted arity [] parts some h =
    let none : sum_by (λ (p : Part). p.size) parts ≡ 0 = ap (sum_by (λ (p : Part). p.size)) (no_tokens parts h.tokens_are) in
    absurd (omega (arith, some, none, h.sizes))
parts_of_accepted arity (token ∷ rest) parts some h =
    sym (further_parts arity 0 (token ∷ rest) (omega arith)) ∙ parts_accepted (length (token ∷ rest)) arity 0 (token ∷ rest) parts (omega arith) (omega (arith, h.sizes)) h.tokens_are

symmetry_told : (arity : ℕ) (ts : List Token) (parts : List Part) → symmetry_in arity ts ≡ Ok parts → IsSymmetry arity ts parts
unfolding symmetry_in
symmetry_told arity ts parts e =
    let word = both_read (word_in ts) _ parts e in
    let w = (word.0).0 in
    let left = (word.0).1 in
    let kind = both_read (known (suc (length left)) Syntax (symmetry_named w)) _ parts word.2 in
    let end = both_read (end_in left) _ parts kind.2 in
    let whole : List Part = record { kind = kind.0; size = arity } ∷ [] in
    record {
      word = w;
      kind = kind.0;
      named = was_known (suc (length left)) Syntax (symmetry_named w) kind.0 kind.1;
      tokens_are = word_read ts word.0 word.1 ∙ ap (λ r. Word w ∷ r) (end_read left end.0 end.1);
      parts_are = sym (one_value (Ok whole) whole parts refl end.2);
    }

symmetry_accepted : (arity : ℕ) (ts : List Token) (parts : List Part) → IsSymmetry arity ts parts → symmetry_in arity ts ≡ Ok parts
unfolding symmetry_in
symmetry_accepted arity ts parts h =
    let named : symmetry_named h.word ≡ Some h.kind = h.named in
    let read : symmetry_in arity (Word h.word ∷ []) ≡ Ok (record { kind = h.kind; size = arity } ∷ []) = rw named refl in
    ap (symmetry_in arity) h.tokens_are ∙ read ∙ ap Ok (sym h.parts_are)

-- in version 2 parts, and else a symmetry
abbrev AreInputs : ℕ → ℕ → List Token → List Part → Type 0
AreInputs version arity ts parts = ((version ≡ 2) × ArePartsOf arity ts parts) ⊎ ((version ≡ 2 → ⊥) × IsSymmetry arity ts parts)

inputs_told : (two : Bool) (version arity : ℕ) (ts : List Token) (parts : List Part) → (version == 2) ≡ two → cond two (all_parts_in arity 0 ts) (symmetry_in arity ts) ≡ Ok parts → AreInputs version arity ts parts
inputs_told true version arity ts parts is e = inl ((Decides-eqb version 2).0 is, parts_of_told arity ts parts e)
inputs_told false version arity ts parts is e = inr (not_equal_told version 2 is, symmetry_told arity ts parts e)

inputs_accepted : (version arity : ℕ) (ts : List Token) (parts : List Part) → 0 < arity → AreInputs version arity ts parts → inputs_in version arity ts ≡ Ok parts
inputs_accepted version arity ts parts some (inl (two, h)) = ap (λ v. inputs_in v arity ts) two ∙ parts_of_accepted arity ts parts some h
inputs_accepted version arity ts parts some (inr (other, h)) = let one = not_equal version 2 other in rw one (symmetry_accepted arity ts parts h)

-- ---- the generator

pub generator_told : (contents : Contents) (ts : List Token) (generator : Generator) → generator_in contents.version contents.generators ts ≡ Ok generator → IsGeneratorLine contents ts generator
generator_told contents ts generator e =
    let read = generator_read contents.version contents.generators ts generator e in
    record {
      behind = read.rest;
      few = read.named.room;
      short = read.named.short;
      new_name = index-none contents.generators generator.name read.named.new_name;
      arity = read.named.arity;
      tokens_are = read.named.tokens_are;
      parts_are = inputs_told (contents.version == 2) contents.version generator.arity read.rest generator.parts refl read.parts;
    }

named_accepted : (generators : List Generator) (name : List ℕ) (arity : ℕ) (rest : List Token) → length generators < 12 → length name ≤ 16 → index_of name generators ≡ None → IsArity arity
    → named_arity_in generators (Word name ∷ (Number arity ∷ rest)) ≡ Ok ((name, arity), rest)
unfolding named_arity_in
named_accepted generators name arity rest few short new is = rw (not_at_most 12 (length generators) few, not_below 16 (length name) short, new, arity_is arity is.0 is.1) refl

pub generator_accepted : (contents : Contents) (ts : List Token) (generator : Generator) → IsGeneratorLine contents ts generator → generator_in contents.version contents.generators ts ≡ Ok generator
unfolding generator_in
generator_accepted contents ts generator h =
    let named = named_accepted contents.generators generator.name generator.arity h.behind h.few h.short h.new_name h.arity in
    let some : 0 < generator.arity = omega (arith, h.arity.0) in
    let inputs = inputs_accepted contents.version generator.arity h.behind generator.parts some h.parts_are in
    rw (ap (named_arity_in contents.generators) h.tokens_are ∙ named) (rw inputs refl)
