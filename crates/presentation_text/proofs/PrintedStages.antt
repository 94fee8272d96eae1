-- The lines of a printed document, one after the other: what stands against none of their words, and what they add.
use Rattle.std.proofs.Common.{◌≡◌, ℕ, suc, ◌≤◌, ◌⊎◌, ⊎_elim, true, false, nat_lt, List, [], ◌∷◌, ◌++◌, codes, Option, Some, None, refl, ap, sym, ◌∙◌, subst, arith}
use Rattle.std.specs.List.{AllByRecursion, flat_map}
use Rattle.labelled_trees.specs.Trees.{Tree}
use Rattle.symmetric_trees.specs.declared.generators.Generator.{Generator}
use Rattle.presentation_text.specs.declared.document.OrderName.{OrderName}
use Rattle.presentation_text.specs.declared.lexing.Token.{Token}
use Rattle.presentation_text.specs.declared.lexing.Token.TheVariants.{Word}
use Rattle.presentation_text.specs.DocumentText.{blank_before, line_of}
use Rattle.presentation_text.specs.Grammar.{numbered_tokens, LineAdds, MayStand, Say, no_line, one_line}
use Rattle.presentation_text.specs.LineReadings.{Contents, Asked, contents_by_header, word_fault, is_unknown, is_missing, is_out_of_order, is_inside_tail}
use Rattle.presentation_text.specs.Lines.{HasNoFeed, counts, lines}
use Rattle.presentation_text.specs.Tokens.{IsWord, tokens}
use Rattle.presentation_text.proofs.LineTexts.{tokens-words, lines-line_of, counts-word}

-- ---- lines lead to an end of which something holds

pub record Reach (P : Contents → Type 0) (contents : Contents) (ls : List (ℕ × List Token)) : Type 0 where
  pub end : Contents
  pub say : Say contents ls end
  pub holds : P end

pub reach-end : (P : Contents → Type 0) (contents : Contents) → P contents → Reach P contents []
reach-end P contents h = record { end = contents; say = no_line contents; holds = h }

-- the first line of a text, its number and its tokens
pub numbered-first : (n : ℕ) (word : List ℕ) (words : List (List ℕ)) (rest : List ℕ) (ts : List Token) → IsWord word → HasNoFeed word → AllByRecursion HasNoFeed words → tokens word ++ flat_map tokens words ≡ ts
    → numbered_tokens n (lines (line_of word words ++ rest)) ≡ (n, ts) ∷ numbered_tokens (suc n) (lines rest)
numbered-first n word words rest ts is_word feed feeds are =
    let seen : counts (word ++ blank_before words) ≡ true = counts-word word (blank_before words) is_word in
    ap (numbered_tokens n) (lines-line_of word words rest feed feeds) ∙ rw seen (ap (λ xs. (n, xs) ∷ numbered_tokens (suc n) (lines rest)) (tokens-words word words ∙ are))

-- it stands, and what it adds leads on
pub reach-line : (P : Contents → Type 0) (contents now : Contents) (n : ℕ) (word : List ℕ) (words : List (List ℕ)) (rest : List ℕ) (ts : List Token) → IsWord word → HasNoFeed word → AllByRecursion HasNoFeed words
    → tokens word ++ flat_map tokens words ≡ ts → MayStand contents ts → LineAdds contents n ts now → Reach P now (numbered_tokens (suc n) (lines rest)) → Reach P contents (numbered_tokens n (lines (line_of word words ++ rest)))
reach-line P contents now n word words rest ts is_word feed feeds are stands adds further =
    subst (Reach P contents) (sym (numbered-first n word words rest ts is_word feed feeds are))
    (record { end = further.end; say = one_line contents now further.end n ts (numbered_tokens (suc n) (lines rest)) stands adds further.say; holds = further.holds })

-- ---- what stands against no word

nothing_against : (contents : Contents) (w : List ℕ) → is_unknown contents.version w ≡ false → is_missing contents w ≡ false → is_out_of_order contents w ≡ false → is_inside_tail w ≡ false → word_fault contents w ≡ None
unfolding word_fault
nothing_against contents w a b c d = rw a (rw b (rw c (rw d refl)))

-- what the lines say once a field and an order stand
abbrev pub stage : ℕ → ℕ → OrderName → List Generator → List (Option ℕ) → List (List (ℕ × Tree ℕ)) → List (ℕ × Asked) → ℕ → Contents
stage version p order generators weights relations asks section = record {
  version = version;
  field = Some p;
  order = Some order;
  generators = generators;
  weights = weights;
  relations = relations;
  asks = asks;
  section = section;
}

not_after : (k s : ℕ) → s ≤ k → nat_lt k s ≡ false
not_after k s h = grind arith

abbrev pub IsVersion : ℕ → Type 0
IsVersion version = (version ≡ 1) ⊎ (version ≡ 2)

by_version : (P : ℕ → Type 0) → P 1 → P 2 → (version : ℕ) → IsVersion version → P version
by_version P one two version h = ⊎_elim (λ e. subst P (sym e) one) (λ e. subst P (sym e) two) h

module _ (p : ℕ) (order : OrderName) (generators : List Generator) (weights : List (Option ℕ)) (relations : List (List (ℕ × Tree ℕ))) (asks : List (ℕ × Asked)) (s : ℕ) where
  abbrev at : ℕ → Contents
  at version = stage version p order generators weights relations asks s

  abbrev Stands : List ℕ → ℕ → Type 0
  Stands w version = (ts : List Token) → MayStand (at version) (Word w ∷ ts)

  pub stands-gen : (version : ℕ) → IsVersion version → s ≤ 4 → Stands (codes "gen") version
  stands-gen version v h = by_version (Stands (codes "gen"))
      (λ ts. let late = not_after 4 s h in (codes "gen", ts, refl, nothing_against (at 1) (codes "gen") refl refl (rw late refl) refl))
      (λ ts. let late = not_after 4 s h in (codes "gen", ts, refl, nothing_against (at 2) (codes "gen") refl refl (rw late refl) refl)) version v

  pub stands-weight : s ≤ 4 → Stands (codes "weight") 2
  stands-weight h ts = let late = not_after 4 s h in (codes "weight", ts, refl, nothing_against (at 2) (codes "weight") refl refl (rw late refl) refl)

  pub stands-rel : (version : ℕ) → IsVersion version → s ≤ 5 → Stands (codes "rel") version
  stands-rel version v h = by_version (Stands (codes "rel"))
      (λ ts. let late = not_after 5 s h in (codes "rel", ts, refl, nothing_against (at 1) (codes "rel") refl refl (rw late refl) refl))
      (λ ts. let late = not_after 5 s h in (codes "rel", ts, refl, nothing_against (at 2) (codes "rel") refl refl (rw late refl) refl)) version v

  pub stands-query : (version : ℕ) → IsVersion version → s ≤ 6 → Stands (codes "query") version
  stands-query version v h = by_version (Stands (codes "query"))
      (λ ts. let late = not_after 6 s h in (codes "query", ts, refl, nothing_against (at 1) (codes "query") refl refl (rw late refl) refl))
      (λ ts. let late = not_after 6 s h in (codes "query", ts, refl, nothing_against (at 2) (codes "query") refl refl (rw late refl) refl)) version v

  pub stands-same : (version : ℕ) → IsVersion version → s ≤ 6 → Stands (codes "same") version
  stands-same version v h = by_version (Stands (codes "same"))
      (λ ts. let late = not_after 6 s h in (codes "same", ts, refl, nothing_against (at 1) (codes "same") refl refl (rw late refl) refl))
      (λ ts. let late = not_after 6 s h in (codes "same", ts, refl, nothing_against (at 2) (codes "same") refl refl (rw late refl) refl)) version v

-- the field's line behind the header, and the order's behind the field's
pub stands-field : (version : ℕ) → IsVersion version → (ts : List Token) → MayStand (contents_by_header version) (Word (codes "field") ∷ ts)
stands-field version v = by_version (λ m. (ts : List Token) → MayStand (contents_by_header m) (Word (codes "field") ∷ ts))
    (λ ts. (codes "field", ts, refl, nothing_against (contents_by_header 1) (codes "field") refl refl refl refl))
    (λ ts. (codes "field", ts, refl, nothing_against (contents_by_header 2) (codes "field") refl refl refl refl)) version v

abbrev pub with_field : ℕ → ℕ → Contents
with_field version p = record { version = version; field = Some p; order = None; generators = []; weights = []; relations = []; asks = []; section = 2 }

pub stands-order : (version p : ℕ) → IsVersion version → (ts : List Token) → MayStand (with_field version p) (Word (codes "order") ∷ ts)
stands-order version p v = by_version (λ m. (ts : List Token) → MayStand (with_field m p) (Word (codes "order") ∷ ts))
    (λ ts. (codes "order", ts, refl, nothing_against (with_field 1 p) (codes "order") refl refl refl refl))
    (λ ts. (codes "order", ts, refl, nothing_against (with_field 2 p) (codes "order") refl refl refl refl)) version v
