-- The tokens of printed numbers and of printed trees: what is printed is read back.
use Rattle.std.proofs.Common.{◌≡◌, ℕ, ◌^◌, ◌<◌, ◌≤◌, true, false, List, [], ◌∷◌, ◌++◌, length, refl, ap, sym, ◌∙◌, arith, append_assoc, append-nil, nat_le}
use Rattle.std.specs.List.{list_all, flat_map}
use Rattle.std.specs.Fmt.{decimal}
use Rattle.std.proofs.lemmas.Bool.Decides.{nat_tests}
use Rattle.std.proofs.lemmas.Fmt.{digits_decimal, digits_value-decimal, length-decimal-le, decimal_nonempty}
use Rattle.std.proofs.lemmas.Grind.{flat_map-append}
use Rattle.labelled_trees.specs.Trees.{Tree, Row, leaf, node, none, more}
use Rattle.labelled_trees.specs.Leaves.{AllLeaves, AllRow}
use Rattle.labelled_trees.specs.Labelled as labelled
use Rattle.symmetric_trees.specs.declared.generators.Generator.{Generator}
use Rattle.symmetric_trees.specs.Trees.{Fits}
use Rattle.presentation_text.specs.declared.lexing.Token.{Token}
use Rattle.presentation_text.specs.declared.lexing.Token.TheVariants.{Word, Number, Byte}
use Rattle.presentation_text.specs.Tokens.{is_digit, is_word_byte, value_behind, StartsOtherwise, IsWord, tokens}
use Rattle.presentation_text.specs.TreeText.{name_of, tree_tokens, row_tokens, more_tokens, token_text, tree_text, HasWords}
use Rattle.presentation_text.specs.Laws.{PrintedTreesAreReadBack}
use Rattle.presentation_text.proofs.TokenLaws.{and_left, and_right, tokens-word, tokens-number, tokens-single}
use Rattle.presentation_text.proofs.TreeTokens.{arity_in, in_table}
use Rattle.presentation_text.proofs.LineTexts.{digits_model}

-- ---- numbers

digit_tested : (c : ℕ) → is_word_byte c ≡ false → is_digit c ≡ false
digit_tested c h = grind (arith, nat_tests)

no_digit : (rest : List ℕ) → StartsOtherwise is_word_byte rest → StartsOtherwise is_digit rest
no_digit [] h = tt
no_digit (c ∷ cs) h = digit_tested c h

tokens-digits : (ds rest : List ℕ) → 0 < length ds → length ds ≤ 18 → list_all is_digit ds ≡ true → StartsOtherwise is_digit rest → tokens (ds ++ rest) ≡ Number (value_behind 0 ds) ∷ tokens rest
tokens-digits [] rest some short all ends = absurd (omega arith)
tokens-digits (d ∷ ds) rest some short all ends =
    let few : nat_le (length (d ∷ ds)) 18 ≡ true = grind arith in
    tokens-number d ds rest (and_left (is_digit d) (list_all is_digit ds) all) (and_right (is_digit d) (list_all is_digit ds) all) ends ∙ rw few refl

-- a printed number of at most 18 digits is read back
pub tokens-decimal : (n : ℕ) (rest : List ℕ) → n < 10 ^ 18 → StartsOtherwise is_digit rest → tokens (decimal n ++ rest) ≡ Number n ∷ tokens rest
tokens-decimal n rest small ends =
    let wide : n < 2 ^ 64 = omega arith in
    let short : length (decimal n) ≤ 18 = length-decimal-le 18 n (omega arith) small wide in
    tokens-digits (decimal n) rest (decimal_nonempty n wide) short (digits_decimal digits_model n wide) ends
    ∙ ap (λ m. Number m ∷ tokens rest) (digits_value-decimal digits_model n wide)

-- ---- trees

tokens-name : (name rest : List ℕ) → IsWord name → StartsOtherwise is_word_byte rest → tokens (name ++ rest) ≡ Word name ∷ tokens rest
tokens-name [] rest h ends = absurd h
tokens-name (c ∷ cs) rest h ends = tokens-word c cs rest h.0 h.1 ends

ends_row : (generators : List Generator) (r : Row ℕ) (rest : List ℕ) → StartsOtherwise is_word_byte (flat_map token_text (more_tokens generators r) ++ 41 ∷ rest)
ends_row generators none rest = refl
ends_row generators (more t r) rest = refl

pieces : (xs ys : List Token) (rest : List ℕ) → flat_map token_text (xs ++ ys) ++ rest ≡ flat_map token_text xs ++ (flat_map token_text ys ++ rest)
pieces xs ys rest = ap (λ x. x ++ rest) (flat_map-append token_text xs ys) ∙ append_assoc (flat_map token_text xs) (flat_map token_text ys) rest

module _ (generators : List Generator) (words : HasWords generators) where
  mutual
    -- a printed tree over a table whose names are words is read back, unless a word goes on behind it
    pub tokens-tree_text : (t : Tree ℕ) (rest : List ℕ) → Fits generators t → AllLeaves t (λ n. n < 10 ^ 18) → StartsOtherwise is_word_byte rest
        → tokens (tree_text generators t ++ rest) ≡ tree_tokens generators t ++ tokens rest
    tokens-tree_text (leaf n) rest fits small ends = ap (λ x. tokens (x ++ rest)) (append-nil (decimal n)) ∙ tokens-decimal n rest small (no_digit rest ends)
    tokens-tree_text (node g r) rest fits small ends =
        let least : 2 ≤ arity_in generators g = fits.0 in
        let inside = flat_map token_text (row_tokens generators r ++ Byte 41 ∷ []) ++ rest in
        ap tokens (append_assoc (name_of generators g) (40 ∷ flat_map token_text (row_tokens generators r ++ Byte 41 ∷ [])) rest)
        ∙ tokens-name (name_of generators g) (40 ∷ inside) (words g (in_table generators g (omega arith))) refl
        ∙ ap (λ x. Word (name_of generators g) ∷ x) (tokens-single 40 inside refl
        ∙ ap (λ x. Byte 40 ∷ x) (ap tokens (pieces (row_tokens generators r) (Byte 41 ∷ []) rest) ∙ tokens-row r rest fits.2 small
        ∙ sym (append_assoc (row_tokens generators r) (Byte 41 ∷ []) (tokens rest))))

    tokens-row : (r : Row ℕ) (rest : List ℕ) → labelled.FitsRow (arity_in generators) r → AllRow r (λ n. n < 10 ^ 18)
        → tokens (flat_map token_text (row_tokens generators r) ++ 41 ∷ rest) ≡ row_tokens generators r ++ Byte 41 ∷ tokens rest
    tokens-row none rest fits small = tokens-single 41 rest refl
    tokens-row (more t r) rest fits small =
        ap tokens (pieces (tree_tokens generators t) (more_tokens generators r) (41 ∷ rest))
        ∙ tokens-tree_text t (flat_map token_text (more_tokens generators r) ++ 41 ∷ rest) fits.0 small.0 (ends_row generators r rest)
        ∙ ap (λ x. tree_tokens generators t ++ x) (tokens-more r rest fits.1 small.1)
        ∙ sym (append_assoc (tree_tokens generators t) (more_tokens generators r) (Byte 41 ∷ tokens rest))

    tokens-more : (r : Row ℕ) (rest : List ℕ) → labelled.FitsRow (arity_in generators) r → AllRow r (λ n. n < 10 ^ 18)
        → tokens (flat_map token_text (more_tokens generators r) ++ 41 ∷ rest) ≡ more_tokens generators r ++ Byte 41 ∷ tokens rest
    tokens-more none rest fits small = tokens-single 41 rest refl
    tokens-more (more t r) rest fits small =
        tokens-single 44 (flat_map token_text (tree_tokens generators t ++ more_tokens generators r) ++ 41 ∷ rest) refl
        ∙ ap (λ x. Byte 44 ∷ x) (ap tokens (pieces (tree_tokens generators t) (more_tokens generators r) (41 ∷ rest))
        ∙ tokens-tree_text t (flat_map token_text (more_tokens generators r) ++ 41 ∷ rest) fits.0 small.0 (ends_row generators r rest)
        ∙ ap (λ x. tree_tokens generators t ++ x) (tokens-more r rest fits.1 small.1)
        ∙ sym (append_assoc (tree_tokens generators t) (more_tokens generators r) (Byte 41 ∷ tokens rest)))

pub read_back : PrintedTreesAreReadBack
read_back generators words t fits small =
    ap tokens (sym (append-nil (tree_text generators t))) ∙ tokens-tree_text generators words t [] fits small tt ∙ append-nil (tree_tokens generators t)
