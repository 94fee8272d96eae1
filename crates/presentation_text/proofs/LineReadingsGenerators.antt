-- A generator that was read may join the table.
use Rattle.std.proofs.Common.{◌≡◌, ◌<◌, ◌≤◌, ◌+◌, ℕ, zero, suc, ◌==◌, Bool, true, false, cond, nat_le, nat_lt, not, List, [], ◌∷◌, length, Result, Ok, arith, sym, ap, ◌∙◌, refl, subst}
use Rattle.std.specs.List.{All, sum_by}
use Rattle.std.proofs.lemmas.List.Elements.{All-cons, All-nil}
use Rattle.std.proofs.lemmas.List.Sums.{sum_by-cons}
use Rattle.symmetric_trees.specs.Generators.{IsArity, IsTaken, MayBeAdded, Refuses}
use Rattle.symmetric_trees.specs.declared.generators.Generator.{Generator}
use Rattle.symmetric_trees.specs.declared.generators.Part.{Part}
use Rattle.symmetric_trees.specs.declared.generators.PartKind.{PartKind}
use Rattle.presentation_text.specs.LineReadings.{all_parts_in, generator_in, inputs_in, is_arity, is_known, known, named_arity_in, part_in, parts_in, symmetry_in, symmetry_named}
use Rattle.presentation_text.specs.Readings.{Fault, ◌>>=◌, end_in, first_row, number_in, refused, word_in}
use Rattle.symmetric_trees.specs.declared.generators.GenFail.{GenFail}
use Rattle.symmetric_trees.specs.declared.generators.GenFail.TheVariants.{NameTaken, ArityOut, TooManyGens, PartsOut, NoMemory}
use Rattle.presentation_text.specs.declared.kinds.DocKind.TheVariants as kind
use Rattle.presentation_text.specs.declared.lexing.Token.{Token}
use Rattle.presentation_text.specs.declared.lexing.Token.TheVariants.{Word, Number}
use Rattle.presentation_text.proofs.LineReadingsNumbers.{arity_told, not_at_most_told, not_below_told, not_false_told, size_told}
use Rattle.presentation_text.proofs.LineReadingsParts.{part_read}
use Rattle.presentation_text.proofs.LineReadingsRead.{both_read, neither_refused, not_refused, number_read, one_value, word_read}
use Rattle.presentation_text.proofs.Names.{unknown_free}

-- ---- parts

-- sizes of one or more that add up to what is left of the arity
abbrev AddUp : ℕ → ℕ → List Part → Type 0
AddUp arity sum parts = All (λ part. 0 < part.size) parts × (sum + sum_by (λ part. part.size) parts ≡ arity)

add_up-cons : (arity sum : ℕ) (part : Part) (parts : List Part) → 0 < part.size → AddUp arity (sum + part.size) parts → AddUp arity sum (part ∷ parts)
add_up-cons arity sum part parts some h = (All-cons (λ (p : Part). 0 < p.size) part parts some h.0, omega (arith, h.1, sum_by-cons (λ (p : Part). p.size) part parts))

parts_joined : (arity sum : ℕ) (x : Part × List Token) (others : Result (List Part) Fault) (parts : List Part) → 0 < (x.0).size
    → ((more : List Part) → others ≡ Ok more → AddUp arity (sum + (x.0).size) more) → (others >>= λ more. Ok (x.0 ∷ more)) ≡ Ok parts → AddUp arity sum parts
parts_joined arity sum x others parts some up e =
    let more = both_read others (λ ps. Ok (x.0 ∷ ps)) parts e in
    subst (AddUp arity sum) (one_value (Ok (x.0 ∷ more.0)) (x.0 ∷ more.0) parts refl more.2) (add_up-cons arity sum x.0 more.0 some (up more.0 more.1))

none_left : (arity sum : ℕ) (parts : List Part) → sum ≤ arity → refused 0 (first_row ((nat_lt sum arity, kind.PartsOut) ∷ [])) (Ok []) ≡ Ok parts → AddUp arity sum parts
none_left arity sum parts l e =
    let out = not_refused 0 (nat_lt sum arity) kind.PartsOut (Ok []) parts e in
    let whole : arity ≤ sum = not_below_told sum arity out.0 in
    subst (AddUp arity sum) (one_value (Ok []) [] parts refl out.1) (All-nil (λ (p : Part). 0 < p.size), omega arith)

parts_add_up : (most arity sum : ℕ) (ts : List Token) (parts : List Part) → sum ≤ arity → parts_in most arity sum ts ≡ Ok parts → AddUp arity sum parts
unfolding parts_in
parts_add_up zero arity sum [] parts l e = none_left arity sum parts l e
parts_add_up (suc most) arity sum [] parts l e = none_left arity sum parts l e
parts_add_up zero arity sum (token ∷ rest) parts l e = absurd cc
parts_add_up (suc most) arity sum (token ∷ rest) parts l e =
    let x = both_read (part_in arity sum (token ∷ rest)) _ parts e in
    let size = size_told arity sum ((x.0).0).size (part_read arity sum (token ∷ rest) x.0 x.1).fits in
    parts_joined arity sum x.0 _ parts size.0 (λ more h. parts_add_up most arity (sum + ((x.0).0).size) (x.0).1 more size.1 h) x.2

all_parts_add_up : (arity : ℕ) (ts : List Token) (parts : List Part) → all_parts_in arity 0 ts ≡ Ok parts → AddUp arity 0 parts
unfolding all_parts_in
all_parts_add_up arity ts parts e =
    let x = both_read (part_in arity 0 ts) _ parts e in
    let size = size_told arity 0 ((x.0).0).size (part_read arity 0 ts x.0 x.1).fits in
    parts_joined arity 0 x.0 _ parts size.0 (λ more h. parts_add_up (length (x.0).1) arity (0 + ((x.0).0).size) (x.0).1 more size.1 h) x.2

-- the part of a symmetry
pub symmetry_read : (arity : ℕ) (ts : List Token) (parts : List Part) → symmetry_in arity ts ≡ Ok parts → (kind : PartKind) × (parts ≡ record { kind = kind; size = arity } ∷ [])
unfolding symmetry_in
symmetry_read arity ts parts e =
    let word = both_read (word_in ts) _ parts e in
    let kind = both_read (known (suc (length (word.0).1)) kind.Syntax (symmetry_named (word.0).0)) _ parts word.2 in
    let end = both_read (end_in (word.0).1) _ parts kind.2 in
    (kind.0, sym (one_value (Ok (record { kind = kind.0; size = arity } ∷ [])) (record { kind = kind.0; size = arity } ∷ []) parts refl end.2))

symmetry_adds_up : (arity : ℕ) (ts : List Token) (parts : List Part) → 0 < arity → symmetry_in arity ts ≡ Ok parts → AddUp arity 0 parts
symmetry_adds_up arity ts parts some e =
    let one = symmetry_read arity ts parts e in
    let part : Part = record { kind = one.0; size = arity } in
    subst (AddUp arity 0) (sym one.1) (add_up-cons arity 0 part [] some (All-nil (λ (p : Part). 0 < p.size), omega arith))

inputs_add_up : (two : Bool) (arity : ℕ) (ts : List Token) (parts : List Part) → 0 < arity → cond two (all_parts_in arity 0 ts) (symmetry_in arity ts) ≡ Ok parts → AddUp arity 0 parts
inputs_add_up true arity ts parts some e = all_parts_add_up arity ts parts e
inputs_add_up false arity ts parts some e = symmetry_adds_up arity ts parts some e

-- ---- the name and the arity

-- A name and an arity that were read: two tokens, and what doesn't stand against them.
pub record IsNamedRead (generators : List Generator) (ts : List Token) (x : (List ℕ × ℕ) × List Token) : Type 0 where
  pub room : length generators < 12
  pub short : length (x.0).0 ≤ 16
  pub new_name : IsTaken (x.0).0 generators → ⊥
  pub arity : IsArity (x.0).1
  pub tokens_are : ts ≡ Word (x.0).0 ∷ (Number (x.0).1 ∷ x.1)

named : (generators : List Generator) (ts : List Token) (w : List ℕ × List Token) (n : ℕ × List Token) (x : (List ℕ × ℕ) × List Token) → length generators < 12 → word_in ts ≡ Ok w
    → nat_lt 16 (length w.0) ≡ false → is_known w.0 generators ≡ false → number_in w.1 ≡ Ok n → refused (suc (length n.1)) (first_row ((not (is_arity n.0), kind.ArityOut) ∷ [])) (Ok ((w.0, n.0), n.1)) ≡ Ok x
    → IsNamedRead generators ts x
named generators ts w n x room e short unknown f g =
    let out = not_refused (suc (length n.1)) (not (is_arity n.0)) kind.ArityOut (Ok ((w.0, n.0), n.1)) x g in
    subst (IsNamedRead generators ts) (one_value (Ok ((w.0, n.0), n.1)) ((w.0, n.0), n.1) x refl out.1) (record {
      room = room;
      short = not_below_told 16 (length w.0) short;
      new_name = unknown_free generators w.0 unknown;
      arity = arity_told n.0 (not_false_told (is_arity n.0) out.0);
      tokens_are = word_read ts w e ∙ ap (λ r. Word w.0 ∷ r) (number_read w.1 n f);
    })

numbered : (generators : List Generator) (ts : List Token) (w : List ℕ × List Token) (x : (List ℕ × ℕ) × List Token) → length generators < 12 → word_in ts ≡ Ok w
    → (refused (suc (length w.1)) (first_row ((nat_lt 16 (length w.0), kind.NameBad) ∷ (is_known w.0 generators, kind.NameTaken) ∷ [])) (number_in w.1)
    >>= λ n. refused (suc (length n.1)) (first_row ((not (is_arity n.0), kind.ArityOut) ∷ [])) (Ok ((w.0, n.0), n.1))) ≡ Ok x
    → IsNamedRead generators ts x
numbered generators ts w x room e f =
    let number = both_read (refused (suc (length w.1)) (first_row ((nat_lt 16 (length w.0), kind.NameBad) ∷ (is_known w.0 generators, kind.NameTaken) ∷ [])) (number_in w.1)) _ x f in
    let out = neither_refused (suc (length w.1)) (nat_lt 16 (length w.0)) (is_known w.0 generators) kind.NameBad kind.NameTaken (number_in w.1) number.0 number.1 in
    named generators ts w number.0 x room e out.0 out.1 out.2 number.2

pub named_read : (generators : List Generator) (ts : List Token) (x : (List ℕ × ℕ) × List Token) → named_arity_in generators ts ≡ Ok x → IsNamedRead generators ts x
unfolding named_arity_in
named_read generators ts x e =
    let out = not_refused (suc (length ts)) (nat_le 12 (length generators)) kind.TooManyGens _ x e in
    let word = both_read (word_in ts) _ x out.1 in
    numbered generators ts word.0 x (not_at_most_told 12 (length generators) out.0) word.1 word.2

-- ---- the generator

-- a generator that was read: its name and arity, and its parts
pub record IsGeneratorRead (version : ℕ) (generators : List Generator) (ts : List Token) (generator : Generator) : Type 0 where
  pub rest : List Token
  pub named : IsNamedRead generators ts ((generator.name, generator.arity), rest)
  pub parts : inputs_in version generator.arity rest ≡ Ok generator.parts

made : (version : ℕ) (generators : List Generator) (ts : List Token) (x : (List ℕ × ℕ) × List Token) (generator : Generator) → IsNamedRead generators ts x
    → (inputs_in version (x.0).1 x.1 >>= λ parts. Ok (record { name = (x.0).0; arity = (x.0).1; parts = parts })) ≡ Ok generator → IsGeneratorRead version generators ts generator
made version generators ts x generator read e =
    let parts = both_read (inputs_in version (x.0).1 x.1) (λ ps. Ok (record { name = (x.0).0; arity = (x.0).1; parts = ps })) generator e in
    let whole : Generator = record { name = (x.0).0; arity = (x.0).1; parts = parts.0 } in
    subst (IsGeneratorRead version generators ts) (one_value (Ok whole) whole generator refl parts.2) (record { rest = x.1; named = read; parts = parts.1 })

pub generator_read : (version : ℕ) (generators : List Generator) (ts : List Token) (generator : Generator) → generator_in version generators ts ≡ Ok generator
    → IsGeneratorRead version generators ts generator
unfolding generator_in
generator_read version generators ts generator e =
    let x = both_read (named_arity_in generators ts) _ generator e in
    made version generators ts x.0 generator (named_read generators ts x.0 x.1) x.2

pub generator_welcome : (version : ℕ) (generators : List Generator) (ts : List Token) (generator : Generator) → generator_in version generators ts ≡ Ok generator → MayBeAdded generators generator
generator_welcome version generators ts generator e =
    let read = generator_read version generators ts generator e in
    let some : 0 < generator.arity = omega (arith, read.named.arity.0) in
    let sizes = inputs_add_up (version == 2) generator.arity read.rest generator.parts some read.parts in
    record {
      room = read.named.room;
      new_name = read.named.new_name;
      arity = read.named.arity;
      sizes = (sizes.0, omega (arith, sizes.1));
    }

-- nothing stands against a generator that may join
pub no_refusal : (generators : List Generator) (generator : Generator) (fail : GenFail) → MayBeAdded generators generator → Refuses generators generator fail → fail ≡ NoMemory
no_refusal generators generator NameTaken welcome h = absurd (welcome.new_name h.1)
no_refusal generators generator ArityOut welcome h = absurd (h.2 welcome.arity)
no_refusal generators generator TooManyGens welcome h = absurd (omega (arith, h, welcome.room))
no_refusal generators generator PartsOut welcome h = absurd (h.3 welcome.sizes)
no_refusal generators generator NoMemory welcome h = refl
