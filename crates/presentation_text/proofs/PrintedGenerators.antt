-- The lines of generators and their weights in a printed document.
use Rattle.std.proofs.Common.{◌≡◌, ℕ, suc, ◌^◌, ◌<◌, ◌≤◌, ◌⊎◌, inl, inr, ⊎_elim, true, false, Bool, ◌==◌, if◌then◌else◌, List, [], ◌∷◌, ◌++◌, length, get_or, Some, refl, ap, ap₂, sym, ◌∙◌, subst, arith, append-nil, length-append}
use Rattle.std.specs.List.{All, AllPairs, AllByRecursion, flat_map, sum_by}
use Rattle.std.proofs.lemmas.List.{get_or_append_left}
use Rattle.std.proofs.lemmas.List.Sums.{sum_by-cons}
use Rattle.std.proofs.Math.Seq.{get_or-append_seam}
use Rattle.std.specs.Fmt.{decimal}
use Rattle.symmetric_trees.specs.Generators.{IsTable, SizesFit, IsArity, IsTaken}
use Rattle.symmetric_trees.specs.declared.generators.Generator.{Generator}
use Rattle.symmetric_trees.specs.declared.generators.Part.{Part}
use Rattle.symmetric_trees.specs.declared.generators.PartKind.{PartKind}
use Rattle.symmetric_trees.specs.declared.generators.PartKind.TheVariants.{Sym, Alt, Free}
use Rattle.presentation_text.specs.declared.lexing.Token.{Token}
use Rattle.presentation_text.specs.declared.lexing.Token.TheVariants.{Word, Number}
use Rattle.presentation_text.specs.DocumentText.{part_word, symmetry_word, part_words, symmetry_words}
use Rattle.presentation_text.specs.Grammar.{ArePartTokens, no_parts, one_part, IsSymmetry, ArePartsOf, IsGeneratorLine}
use Rattle.presentation_text.specs.LineReadings.{Contents, part_named, symmetry_named}
use Rattle.presentation_text.specs.Lines.{HasNoFeed}
use Rattle.presentation_text.specs.Tokens.{IsWord, tokens}
use Rattle.presentation_text.proofs.LineTexts.{no_feed-word, no_feed-decimal}
use Rattle.presentation_text.proofs.TreeReadingsSteps.{index-none}
use Rattle.presentation_text.proofs.PrintedTokens.{tokens-decimal}
use Rattle.presentation_text.proofs.TokenLaws.{tokens-word}

-- ---- words

pub tokens-name : (name : List ℕ) → IsWord name → tokens name ≡ Word name ∷ []
tokens-name [] h = absurd h
tokens-name (c ∷ cs) h = ap (λ xs. tokens (c ∷ xs)) (sym (append-nil cs)) ∙ tokens-word c cs [] h.0 h.1 tt

pub tokens-number : (n : ℕ) → n < 10 ^ 18 → tokens (decimal n) ≡ Number n ∷ []
tokens-number n small = ap tokens (sym (append-nil (decimal n))) ∙ tokens-decimal n [] small tt

-- ---- parts

part_is_named : (kind : PartKind) → part_named (part_word kind) ≡ Some kind
part_is_named Sym = refl
part_is_named Alt = refl
part_is_named Free = refl

tokens-part : (kind : PartKind) → tokens (part_word kind) ≡ Word (part_word kind) ∷ []
tokens-part Sym = refl
tokens-part Alt = refl
tokens-part Free = refl

symmetry_is_named : (kind : PartKind) → symmetry_named (symmetry_word kind) ≡ Some kind
symmetry_is_named Sym = refl
symmetry_is_named Alt = refl
symmetry_is_named Free = refl

tokens-symmetry : (kind : PartKind) → tokens (symmetry_word kind) ≡ Word (symmetry_word kind) ∷ []
tokens-symmetry Sym = refl
tokens-symmetry Alt = refl
tokens-symmetry Free = refl

no_feed-part : (kind : PartKind) → HasNoFeed (part_word kind)
no_feed-part Sym = no_feed-word (part_word Sym) (refl, refl)
no_feed-part Alt = no_feed-word (part_word Alt) (refl, refl)
no_feed-part Free = no_feed-word (part_word Free) (refl, refl)

no_feed-symmetry : (kind : PartKind) → HasNoFeed (symmetry_word kind)
no_feed-symmetry Sym = no_feed-word (symmetry_word Sym) (refl, refl)
no_feed-symmetry Alt = no_feed-word (symmetry_word Alt) (refl, refl)
no_feed-symmetry Free = no_feed-word (symmetry_word Free) (refl, refl)

abbrev sizes : List Part → ℕ
sizes = sum_by (λ part. part.size)

tail_sizes : (part : Part) (parts : List Part) → All (λ x. 0 < x.size) (part ∷ parts) → All (λ x. 0 < x.size) parts
tail_sizes part parts h k d l = h (suc k) d (omega (arith, l))

part_tokens : (parts : List Part) → All (λ part. 0 < part.size) parts → sizes parts ≤ 6 → ArePartTokens (flat_map tokens (part_words parts)) parts
part_tokens [] h few = no_parts
part_tokens (part ∷ parts) h few =
    let both = sum_by-cons (λ x. x.size) part parts in
    let own : part.size ≤ 6 = omega (arith, both, few) in
    subst (λ ts. ArePartTokens ts (part ∷ parts))
    (sym (ap₂ (λ xs ys. xs ++ (ys ++ flat_map tokens (part_words parts))) (tokens-part part.kind) (tokens-number part.size (omega (arith, own)))))
    (one_part (part_word part.kind) part.kind part.size (flat_map tokens (part_words parts)) parts (part_is_named part.kind) (h 0 part (omega arith)) (part_tokens parts (tail_sizes part parts h) (omega (arith, both, few))))

no_feed-parts : (parts : List Part) → sizes parts ≤ 6 → AllByRecursion HasNoFeed (part_words parts)
no_feed-parts [] few = tt
no_feed-parts (part ∷ parts) few =
    let both = sum_by-cons (λ x. x.size) part parts in
    let own : part.size ≤ 6 = omega (arith, both, few) in
    (no_feed-part part.kind, (no_feed-decimal part.size (omega (arith, own)), no_feed-parts parts (omega (arith, both, few))))

-- ---- the words of a generator's line

-- the words behind its name and its arity
abbrev pub kind_words : ℕ → List Part → List (List ℕ)
kind_words version parts = if version == 2 then part_words parts else symmetry_words parts

-- their tokens are those of its parts
abbrev pub AreKindTokens : ℕ → ℕ → List Part → Type 0
AreKindTokens version arity parts =
    ((version ≡ 2) × ArePartsOf arity (flat_map tokens (kind_words version parts)) parts)
    ⊎ ((version ≡ 2 → ⊥) × IsSymmetry arity (flat_map tokens (kind_words version parts)) parts)

-- a generator that may be printed in this version
pub record MayPrint (version : ℕ) (generator : Generator) : Type 0 where
  pub word : IsWord generator.name
  pub short : length generator.name ≤ 16
  pub arity : IsArity generator.arity
  pub sizes : SizesFit generator
  pub whole : (version ≡ 2) ⊎ ((version ≡ 1) × (length generator.parts ≡ 1))

kind_tokens-two : (arity : ℕ) (parts : List Part) → arity ≤ 6 → All (λ part. 0 < part.size) parts → sizes parts ≡ arity → ArePartsOf arity (flat_map tokens (part_words parts)) parts
kind_tokens-two arity parts few some sum = record { tokens_are = part_tokens parts some (omega (arith, few, sum)); sizes = sum }

kind_tokens-one : (arity : ℕ) (parts : List Part) → length parts ≡ 1 → sizes parts ≡ arity → IsSymmetry arity (flat_map tokens (symmetry_words parts)) parts
kind_tokens-one arity [] one sum = absurd (omega (arith, one))
kind_tokens-one arity (part ∷ part2 ∷ parts) one sum = absurd (omega (arith, one))
kind_tokens-one arity (part ∷ []) one sum =
    let both = sum_by-cons (λ x. x.size) part [] in
    let size : part.size ≡ arity = omega (arith, both, sum) in
    record {
      word = symmetry_word part.kind;
      kind = part.kind;
      named = symmetry_is_named part.kind;
      tokens_are = ap (λ ts. ts ++ []) (tokens-symmetry part.kind);
      parts_are = ap (λ n. record { kind = part.kind; size = n } ∷ []) size;
    }

pub kind_tokens : (version : ℕ) (generator : Generator) → MayPrint version generator → AreKindTokens version generator.arity generator.parts
kind_tokens version generator may = ⊎_elim
    (λ two. subst (λ v. ((v ≡ 2) × ArePartsOf generator.arity (flat_map tokens (kind_words v generator.parts)) generator.parts) ⊎ ((v ≡ 2 → ⊥) × IsSymmetry generator.arity (flat_map tokens (kind_words v generator.parts)) generator.parts)) (sym two)
    (inl (refl, kind_tokens-two generator.arity generator.parts may.arity.1 may.sizes.0 may.sizes.1)))
    (λ one. subst (λ v. ((v ≡ 2) × ArePartsOf generator.arity (flat_map tokens (kind_words v generator.parts)) generator.parts) ⊎ ((v ≡ 2 → ⊥) × IsSymmetry generator.arity (flat_map tokens (kind_words v generator.parts)) generator.parts)) (sym one.0)
    (inr (λ e. omega (arith, e), kind_tokens-one generator.arity generator.parts one.1 may.sizes.1)))
    may.whole

no_feed-symmetries : (parts : List Part) → AllByRecursion HasNoFeed (symmetry_words parts)
no_feed-symmetries [] = tt
no_feed-symmetries (part ∷ parts) = (no_feed-symmetry part.kind, tt)

pub no_feed-kinds : (version : ℕ) (generator : Generator) → MayPrint version generator → AllByRecursion HasNoFeed (kind_words version generator.parts)
no_feed-kinds version generator may = go (version == 2) where
  go : (b : Bool) → AllByRecursion HasNoFeed (if b then part_words generator.parts else symmetry_words generator.parts)
  go true = no_feed-parts generator.parts (let sum : sizes generator.parts ≡ generator.arity = may.sizes.1 in omega (arith, sum, may.arity.1))
  go false = no_feed-symmetries generator.parts

-- ---- the line of a generator

-- the tokens of the words behind `gen`
abbrev pub generator_tokens : ℕ → Generator → List Token
generator_tokens version generator = Word generator.name ∷ (Number generator.arity ∷ flat_map tokens (kind_words version generator.parts))

pub generator-words : (version : ℕ) (generator : Generator) → MayPrint version generator
    → flat_map tokens (generator.name ∷ (decimal generator.arity ∷ kind_words version generator.parts)) ≡ generator_tokens version generator
generator-words version generator may =
    ap₂ (λ xs ys. xs ++ (ys ++ flat_map tokens (kind_words version generator.parts))) (tokens-name generator.name may.word) (tokens-number generator.arity (omega (arith, may.arity.1)))

not_taken : (done rest : List Generator) (generator : Generator) → AllPairs (λ one other. one.name ≡ other.name → ⊥) (done ++ generator ∷ rest) → IsTaken generator.name done → ⊥
not_taken done rest generator apart taken =
    let all = done ++ generator ∷ rest in
    let len : length done < length all = let l = length-append done (generator ∷ rest) in omega (arith, l) in
    let one : get_or all taken.0 taken.1 ≡ taken.1 = get_or_append_left done (generator ∷ rest) taken.1 taken.0 taken.2 ∙ taken.3 in
    let own : get_or all (length done) taken.1 ≡ generator = get_or-append_seam done generator rest taken.1 in
    apart taken.0 (length done) taken.1 taken.2 len (ap (λ g. g.name) one ∙ taken.4 ∙ ap (λ g. g.name) (sym own))

pub generator_line : (contents : Contents) (rest : List Generator) (generator : Generator) → IsTable (contents.generators ++ generator ∷ rest) → MayPrint contents.version generator
    → IsGeneratorLine contents (generator_tokens contents.version generator) generator
generator_line contents rest generator table may = record {
  behind = flat_map tokens (kind_words contents.version generator.parts);
  few = let len = length-append contents.generators (generator ∷ rest) in omega (arith, len, table.few);
  short = may.short;
  new_name = index-none contents.generators generator.name (not_taken contents.generators rest generator table.apart);
  arity = may.arity;
  tokens_are = refl;
  parts_are = kind_tokens contents.version generator may;
}
