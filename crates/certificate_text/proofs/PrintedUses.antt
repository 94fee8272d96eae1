-- The printed line of a use has the tokens of a use that says the same.
use Rattle.std.proofs.Common.{◌≡◌, ℕ, ◌-◌, ◌%◌, ◌^◌, ◌<◌, ◌≤◌, Bool, true, false, if◌then◌else◌, List, [], ◌∷◌, ◌++◌, codes, refl, ap, sym, ◌∙◌, arith, append-nil, append_assoc, inl, inr}
use Rattle.std.specs.List.{All, AllByRecursion, flat_map}
use Rattle.std.specs.Fmt.{decimal}
use Rattle.std.proofs.Math.Nat.{min-eq_left, mod-eq_of_lt}
use Rattle.std.proofs.lemmas.Bool.Decides.{nat_tests}
use Rattle.std.proofs.lemmas.Grind.{flat_map-append}
use Rattle.std.proofs.lemmas.List.Elements.{All-head, All-tail}
use Rattle.labelled_trees.specs.Trees.{Tree}
use Rattle.labelled_trees.specs.Leaves.{AllLeaves}
use Rattle.labelled_trees.proofs.Leaves.{AllLeaves-imp}
use Rattle.prime_field.specs.Primes.{IsFieldPrime}
use Rattle.symmetric_trees.specs.declared.generators.Generator.{Generator}
use Rattle.symmetric_sums.specs.declared.instance.Rule.{Rule}
use Rattle.symmetric_sums.specs.declared.instance.Rule.TheVariants.{Rel, Swap, Step}
use Rattle.presentation_text.specs.Accepted.{IsDemanded}
use Rattle.presentation_text.specs.Lines.{HasNoFeed}
use Rattle.presentation_text.specs.SumText.{is_negative, magnitude}
use Rattle.presentation_text.specs.Tokens.{tokens}
use Rattle.presentation_text.specs.TreeReadings.{any_arity}
use Rattle.presentation_text.specs.TreeText.{HasWords, tree_text, tree_tokens}
use Rattle.presentation_text.specs.declared.lexing.Token.{Token}
use Rattle.presentation_text.specs.declared.lexing.Token.TheVariants.{Word, Number, Byte}
use Rattle.presentation_text.proofs.PrintedTokens.{read_back}
use Rattle.presentation_text.proofs.TokenLaws.{tokens-single}
use Rattle.certificate_text.specs.Plain.{PlainUse}
use Rattle.certificate_text.specs.PrintedBlocks.{coefficient_text, input_words, rule_words}
use Rattle.certificate_text.specs.UseText.{IsUse, cited_rule, inputs_tokens, signed_residue}
use Rattle.certificate_text.specs.Writable.{IsCited, IsWritableUse}
use Rattle.presentation_text.proofs.LineTexts.{no_feed-decimal, no_feed-word}
use Rattle.presentation_text.proofs.PrintedFeeds.{no_feed-tree}
use Rattle.certificate_text.proofs.TokensRead.{minus}
use Rattle.presentation_text.proofs.PrintedGenerators.{tokens-number}

-- ---- coefficients

-- what is said of the printed number is the residue
residue_back : (p c : ℕ) → c < p → signed_residue p (is_negative p c) (magnitude p c) ≡ c
residue_back p c small = by_sign (is_negative p c) refl where
  by_sign : (b : Bool) → is_negative p c ≡ b → (if b then (p - (if b then p - c else c) % p) % p else (if b then p - c else c) % p) ≡ c
  by_sign false e = mod-eq_of_lt small
  by_sign true e =
      let some : 0 < c = grind (arith, nat_tests) in
      let below : p - c < p = omega arith in
      let one : (p - c) % p ≡ p - c = mod-eq_of_lt below in
      let two : c % p ≡ c = mod-eq_of_lt small in
      let back : p - (p - c) ≡ c = omega arith in
      ap (λ k. (p - k) % p) one ∙ ap (λ k. k % p) back ∙ two

magnitude_small : (p c : ℕ) → c < p → magnitude p c ≤ p
magnitude_small p c small = by_sign (is_negative p c) where
  by_sign : (b : Bool) → (if b then p - c else c) ≤ p
  by_sign true = omega arith
  by_sign false = omega arith

prime_small : (p : ℕ) → IsFieldPrime p → p < 100000
prime_small p (inl e) = omega arith
prime_small p (inr (inl e)) = omega arith
prime_small p (inr (inr (inl e))) = omega arith
prime_small p (inr (inr (inr (inl e)))) = omega arith
prime_small p (inr (inr (inr (inr (inl e))))) = omega arith
prime_small p (inr (inr (inr (inr (inr (inl e)))))) = omega arith
prime_small p (inr (inr (inr (inr (inr (inr e)))))) = absurd e

coefficient_tokens : (p c : ℕ) → IsFieldPrime p → c < p → tokens (coefficient_text p c) ≡ minus (is_negative p c) ++ (Number (magnitude p c) ∷ [])
coefficient_tokens p c prime small = by_sign (is_negative p c) where
  number : tokens (decimal (magnitude p c)) ≡ Number (magnitude p c) ∷ []
  number = tokens-number (magnitude p c) (let big = prime_small p prime in let within = magnitude_small p c small in omega arith)

  by_sign : (b : Bool) → tokens ((if b then 45 ∷ [] else []) ++ decimal (magnitude p c)) ≡ minus b ++ (Number (magnitude p c) ∷ [])
  by_sign true = tokens-single 45 (decimal (magnitude p c)) refl ∙ ap (λ ts. Byte 45 ∷ ts) number
  by_sign false = number

no_feed-coefficient : (p c : ℕ) → IsFieldPrime p → c < p → HasNoFeed (coefficient_text p c)
no_feed-coefficient p c prime small = by_sign (is_negative p c) where
  number : HasNoFeed (decimal (magnitude p c))
  number = no_feed-decimal (magnitude p c) (let big = prime_small p prime in let within = magnitude_small p c small in omega arith)

  by_sign : (b : Bool) → HasNoFeed ((if b then 45 ∷ [] else []) ++ decimal (magnitude p c))
  by_sign true = (λ same. omega (arith, same), number)
  by_sign false = number

-- ---- what is cited

-- The words cite a step or a relation, which is the rule.
record IsCitedIn (rule : Rule) : Type 0 where
  pub step : Bool
  pub number : ℕ
  pub read : flat_map tokens (rule_words rule) ≡ Word (if step then codes "step" else codes "rel") ∷ (Number number ∷ [])
  pub says : rule ≡ cited_rule step number
  pub feeds : AllByRecursion HasNoFeed (rule_words rule)

rule_read : (rule : Rule) → IsCited rule → IsCitedIn rule
rule_read (Rel k) h = record {
  step = false;
  number = k;
  read = ap (λ ts. Word (codes "rel") ∷ ts) (append-nil (tokens (decimal k)) ∙ tokens-number k (omega arith));
  says = ap Rel (sym (min-eq_left h));
  feeds = (no_feed-word (codes "rel") (refl, refl), (no_feed-decimal k (omega arith), tt));
}
rule_read (Step k) h = record {
  step = true;
  number = k;
  read = ap (λ ts. Word (codes "step") ∷ ts) (append-nil (tokens (decimal k)) ∙ tokens-number k (omega arith));
  says = ap Step (sym (min-eq_left h));
  feeds = (no_feed-word (codes "step") (refl, refl), (no_feed-decimal k (omega arith), tt));
}
rule_read (Swap g at) h = absurd h

-- ---- inputs

abbrev pub IsInput : List Generator → Tree ℕ → Type 0
IsInput generators = IsDemanded generators (any_arity true)

no_feed-mark : HasNoFeed (codes ";")
no_feed-mark = (λ same. omega (arith, same), tt)

module _ (generators : List Generator) (words : HasWords generators) where
  short_leaves : (t : Tree ℕ) → IsInput generators t → AllLeaves t (λ n. n < 10 ^ 18)
  short_leaves t h = AllLeaves-imp t (λ n. n ≤ 99) (λ n. n < 10 ^ 18) (λ n l. omega arith) h.small

  tree_read : (t : Tree ℕ) → IsInput generators t → tokens (tree_text generators t) ≡ tree_tokens generators t
  tree_read t h = read_back generators words t h.fits (short_leaves t h)

  tree_feed : (t : Tree ℕ) → IsInput generators t → HasNoFeed (tree_text generators t)
  tree_feed t h = no_feed-tree generators words t h.fits (short_leaves t h)

  inputs_read : (inputs : List (Tree ℕ)) → All (IsInput generators) inputs → flat_map tokens (input_words generators inputs) ≡ inputs_tokens generators inputs
  inputs_read [] h = refl
  inputs_read (t ∷ ts) h =
      ap (λ x. Byte 59 ∷ x) (ap (λ x. x ++ flat_map tokens (input_words generators ts)) (tree_read t (All-head (IsInput generators) t ts h))
      ∙ ap (λ x. tree_tokens generators t ++ x) (inputs_read ts (All-tail (IsInput generators) t ts h)))

  inputs_feed : (inputs : List (Tree ℕ)) → All (IsInput generators) inputs → AllByRecursion HasNoFeed (input_words generators inputs)
  inputs_feed [] h = tt
  inputs_feed (t ∷ ts) h = (no_feed-mark, (tree_feed t (All-head (IsInput generators) t ts h), inputs_feed ts (All-tail (IsInput generators) t ts h)))

feeds-append : (xs ys : List (List ℕ)) → AllByRecursion HasNoFeed xs → AllByRecursion HasNoFeed ys → AllByRecursion HasNoFeed (xs ++ ys)
feeds-append [] ys h g = g
feeds-append (x ∷ xs) ys h g = (h.0, feeds-append xs ys h.1 g)

-- ---- uses

-- the words of a use behind `use`
abbrev pub use_words : ℕ → List Generator → PlainUse → List (List ℕ)
use_words p generators item =
    coefficient_text p item.coef ∷ (codes ";" ∷ (tree_text generators item.context ∷ (codes ";" ∷ (rule_words item.rule ++ input_words generators item.inputs))))

-- They are those of a use that says this, in one line.
pub record IsUseLine (p : ℕ) (generators : List Generator) (item : PlainUse) : Type 0 where
  pub line : List Token
  pub read : flat_map tokens (use_words p generators item) ≡ line
  pub says : IsUse p generators line item
  pub feeds : AllByRecursion HasNoFeed (use_words p generators item)

pub use_printed : (p : ℕ) (generators : List Generator) → IsFieldPrime p → HasWords generators → (item : PlainUse) → IsWritableUse p generators item → IsUseLine p generators item
use_printed p generators prime words item h =
    let by = rule_read item.rule h.rule in
    let inputs = inputs_tokens generators item.inputs in
    let cited = Word (if by.step then codes "step" else codes "rel") ∷ (Number by.number ∷ inputs) in
    let rest : flat_map tokens (rule_words item.rule ++ input_words generators item.inputs) ≡ cited =
    flat_map-append tokens (rule_words item.rule) (input_words generators item.inputs) ∙ ap (λ x. x ++ flat_map tokens (input_words generators item.inputs)) by.read
    ∙ ap (λ x. Word (if by.step then codes "step" else codes "rel") ∷ (Number by.number ∷ x)) (inputs_read generators words item.inputs h.inputs) in
    let tree : tokens (tree_text generators item.context) ≡ tree_tokens generators item.context = tree_read generators words item.context h.context in
    let front : tokens (coefficient_text p item.coef) ≡ minus (is_negative p item.coef) ++ (Number (magnitude p item.coef) ∷ []) = coefficient_tokens p item.coef prime h.coef in
    let behind : List Token = Byte 59 ∷ (tree_tokens generators item.context ++ (Byte 59 ∷ cited)) in
    record {
      line = minus (is_negative p item.coef) ++ (Number (magnitude p item.coef) ∷ behind);
      read =
          ap (λ x. tokens (coefficient_text p item.coef) ++ (Byte 59 ∷ (x ++ (Byte 59 ∷ flat_map tokens (rule_words item.rule ++ input_words generators item.inputs))))) tree
          ∙ ap (λ x. tokens (coefficient_text p item.coef) ++ (Byte 59 ∷ (tree_tokens generators item.context ++ (Byte 59 ∷ x)))) rest ∙ ap (λ x. x ++ behind) front
          ∙ append_assoc (minus (is_negative p item.coef)) (Number (magnitude p item.coef) ∷ []) behind;
      says = record {
        written = record {
          negative = is_negative p item.coef;
          number = magnitude p item.coef;
          context = item.context;
          cites_step = by.step;
          cited = by.number;
          inputs = item.inputs;
        };
        spelled = refl;
        trees = record { context = h.context; inputs = h.inputs };
        item_is =
            ap (λ coef. record { coef = coef; context = item.context; rule = item.rule; inputs = item.inputs }) (sym (residue_back p item.coef h.coef))
            ∙ ap (λ rule. record { coef = signed_residue p (is_negative p item.coef) (magnitude p item.coef); context = item.context; rule = rule; inputs = item.inputs }) by.says;
      };
      feeds = (
        no_feed-coefficient p item.coef prime h.coef,
        (
          no_feed-mark,
          (
            tree_feed generators words item.context h.context,
            (no_feed-mark, feeds-append (rule_words item.rule) (input_words generators item.inputs) by.feeds (inputs_feed generators words item.inputs h.inputs)),
          ),
        ),
      );
    }
