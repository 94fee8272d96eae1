-- No line feed stands in the text of a tree or of a sum.
use Rattle.std.proofs.Common.{◌≢◌, ℕ, suc, ◌-◌, ◌^◌, ◌<◌, true, false, Bool, ◌==◌, if◌then◌else◌, List, [], ◌∷◌, ◌++◌, sym, subst, arith}
use Rattle.std.specs.List.{All, flat_map}
use Rattle.std.proofs.lemmas.Grind.{flat_map-append}
use Rattle.std.specs.Fmt.{decimal}
use Rattle.labelled_trees.specs.Trees.{Tree, Row, leaf, node, none, more}
use Rattle.labelled_trees.specs.Leaves.{AllLeaves, AllRow}
use Rattle.labelled_trees.specs.Labelled as labelled
use Rattle.labelled_trees.proofs.Leaves.{AllLeaves-imp}
use Rattle.operad_ideals.specs.Laws.{arity}
use Rattle.symmetric_trees.specs.Generators.{parts_at}
use Rattle.symmetric_trees.specs.Trees.{Fits}
use Rattle.symmetric_trees.specs.declared.generators.Generator.{Generator}
use Rattle.presentation_text.specs.declared.lexing.Token.{Token}
use Rattle.presentation_text.specs.Lines.{HasNoFeed}
use Rattle.presentation_text.specs.SumText.{is_negative, magnitude, factor_text, term_text, sign_text, further_text, first_text, sum_text, IsPrintable}
use Rattle.presentation_text.specs.TreeText.{HasWords, tree_tokens, row_tokens, more_tokens, token_text, tree_text}
use Rattle.presentation_text.proofs.LineTexts.{no_feed-append, no_feed-word, no_feed-decimal}
use Rattle.presentation_text.proofs.TreeTokens.{in_table}

no_feed-pieces : (xs ys : List Token) → HasNoFeed (flat_map token_text xs) → HasNoFeed (flat_map token_text ys) → HasNoFeed (flat_map token_text (xs ++ ys))
no_feed-pieces xs ys h g = subst HasNoFeed (sym (flat_map-append token_text xs ys)) (no_feed-append (flat_map token_text xs) (flat_map token_text ys) h g)

other : (c : ℕ) → 10 < c → c ≢ 10
other c l e = omega (arith, l, e)

mutual
  pub no_feed-tree : (generators : List Generator) → HasWords generators → (t : Tree ℕ) → Fits generators t → AllLeaves t (λ n. n < 10 ^ 18) → HasNoFeed (tree_text generators t)
  no_feed-tree generators words (leaf n) fits small = no_feed-append (decimal n) [] (no_feed-decimal n (omega (arith, small))) tt
  no_feed-tree generators words (node g r) fits small =
      let own = no_feed-word _ (words g (in_table generators g (omega (arith, fits.0)))) in
      no_feed-append _ _ own (other 40 (omega arith), no_feed-pieces (row_tokens generators r) _ (no_feed-row generators words r fits.2 small) (other 41 (omega arith), tt))

  no_feed-row : (generators : List Generator) → HasWords generators → (r : Row ℕ) → labelled.FitsRow (arity (parts_at generators)) r → AllRow r (λ n. n < 10 ^ 18) → HasNoFeed (flat_map token_text (row_tokens generators r))
  no_feed-row generators words none fits small = tt
  no_feed-row generators words (more t r) fits small =
      no_feed-pieces (tree_tokens generators t) (more_tokens generators r) (no_feed-tree generators words t fits.0 small.0) (no_feed-more generators words r fits.1 small.1)

  no_feed-more : (generators : List Generator) → HasWords generators → (r : Row ℕ) → labelled.FitsRow (arity (parts_at generators)) r → AllRow r (λ n. n < 10 ^ 18) → HasNoFeed (flat_map token_text (more_tokens generators r))
  no_feed-more generators words none fits small = tt
  no_feed-more generators words (more t r) fits small =
      (other 44 (omega arith), no_feed-pieces (tree_tokens generators t) (more_tokens generators r) (no_feed-tree generators words t fits.0 small.0) (no_feed-more generators words r fits.1 small.1))

-- ---- sums

no_feed-factor : (c : ℕ) → c < 2 ^ 64 → HasNoFeed (factor_text c)
no_feed-factor c small = go (c == 1) where
  go : (b : Bool) → HasNoFeed (if b then [] else decimal c ++ 42 ∷ [])
  go true = tt
  go false = no_feed-append (decimal c) (42 ∷ []) (no_feed-decimal c small) (other 42 (omega arith), tt)

below : (p c : ℕ) → c < p → p < 2 ^ 64 → magnitude p c < 2 ^ 64
below p c l small = go (is_negative p c) where
  go : (b : Bool) → (if b then p - c else c) < 2 ^ 64
  go true = omega (arith, small)
  go false = omega (arith, l, small)

abbrev sign_byte : Bool → ℕ
sign_byte b = if b then 45 else 43

no_feed-sign : (p c : ℕ) → HasNoFeed (sign_text p c)
no_feed-sign p c = (other 32 (omega arith), (go (is_negative p c), (other 32 (omega arith), tt))) where
  go : (b : Bool) → sign_byte b ≢ 10
  go true = other 45 (omega arith)
  go false = other 43 (omega arith)

-- a term that is printed
abbrev pub MayPrint : ℕ → List Generator → ℕ × Tree ℕ → Type 0
MayPrint p generators x = (0 < x.0) × (x.0 < p) × Fits generators x.1 × AllLeaves x.1 (λ n. (0 < n) × (n < 10 ^ 18))

module _ (p : ℕ) (generators : List Generator) (words : HasWords generators) (small : p < 2 ^ 64) where
  no_feed-term : (x : ℕ × Tree ℕ) → MayPrint p generators x → HasNoFeed (term_text p generators x)
  no_feed-term x may =
      no_feed-append (factor_text (magnitude p x.0)) (tree_text generators x.1) (no_feed-factor (magnitude p x.0) (below p x.0 may.1 small))
      (no_feed-tree generators words x.1 may.2 (AllLeaves-imp x.1 (λ n. (0 < n) × (n < 10 ^ 18)) (λ n. n < 10 ^ 18) (λ n k. k.1) may.3))

  no_feed-further : (e : List (ℕ × Tree ℕ)) → All (MayPrint p generators) e → HasNoFeed (further_text p generators e)
  no_feed-further [] h = tt
  no_feed-further (x ∷ e) h =
      no_feed-append (sign_text p x.0) (term_text p generators x ++ further_text p generators e) (no_feed-sign p x.0)
      (no_feed-append (term_text p generators x) (further_text p generators e) (no_feed-term x (h 0 x (omega arith))) (no_feed-further e (λ k d l. h (suc k) d (omega (arith, l)))))

  no_feed-begin : (x : ℕ × Tree ℕ) → HasNoFeed (if is_negative p x.0 then 45 ∷ [] else [])
  no_feed-begin x = go (is_negative p x.0) where
    go : (b : Bool) → HasNoFeed (if b then 45 ∷ [] else [])
    go true = (other 45 (omega arith), tt)
    go false = tt

  pub no_feed-sum : (e : List (ℕ × Tree ℕ)) → IsPrintable p generators e → HasNoFeed (sum_text p generators e)
  no_feed-sum [] h = (other 48 (omega arith), tt)
  no_feed-sum (x ∷ e) h =
      no_feed-append (first_text p generators x) (further_text p generators e)
      (no_feed-append (if is_negative p x.0 then 45 ∷ [] else []) (term_text p generators x) (no_feed-begin x) (no_feed-term x (h 0 x (omega arith))))
      (no_feed-further e (λ k d l. h (suc k) d (omega (arith, l))))
