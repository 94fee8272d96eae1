-- The text of a tree, piece by piece.
use Rattle.std.proofs.Common.{◌≡◌, ℕ, ◌+◌, ◌/◌, ◌%◌, ◌^◌, ◌<◌, ◌≤◌, List, [], ◌∷◌, ◌++◌, length, refl, ap, sym, ◌∙◌, arith, append_assoc}
use Rattle.std.specs.List.{flat_map}
use Rattle.std.specs.Fmt.{decimal}
use Rattle.std.proofs.lemmas.Fmt.{decimal_digit, decimal_step}
use Rattle.std.proofs.lemmas.Grind.{flat_map-append}
use Rattle.labelled_trees.specs.Trees.{Tree, node, row}
use Rattle.symmetric_trees.specs.declared.generators.Generator.{Generator}
use Rattle.presentation_text.specs.declared.lexing.Token.TheVariants.{Byte}
use Rattle.presentation_text.specs.TreeText.{name_of, tree_tokens, row_tokens, more_tokens, token_text, tree_text}

-- ---- numbers

-- the last digit behind the others, and a single digit
pub number_long : (n : ℕ) (old front new : List ℕ) → n < 2 ^ 64 → 10 ≤ n → front ≡ old ++ decimal (n / 10) → new ≡ front ++ (48 + n % 10) ∷ [] → new ≡ old ++ decimal n
number_long n old front new small long f e =
    let steps : decimal n ≡ decimal (n / 10) ++ (48 + n % 10) ∷ [] = decimal_step n long small in
    e ∙ ap (λ x. x ++ (48 + n % 10) ∷ []) f ∙ append_assoc old (decimal (n / 10)) ((48 + n % 10) ∷ []) ∙ ap (λ x. old ++ x) (sym steps)

pub number_short : (n : ℕ) (old new : List ℕ) → n < 10 → new ≡ old ++ (48 + n % 10) ∷ [] → new ≡ old ++ decimal n
number_short n old new small e =
    let same : n % 10 ≡ n = omega arith in
    e ∙ ap (λ d. old ++ (48 + d) ∷ []) same ∙ ap (λ x. old ++ x) (sym (decimal_digit n small))

-- ---- trees

-- the texts of trees, with one byte before the first and a ',' before each other
abbrev pub marked_text : List Generator → ℕ → List (Tree ℕ) → List ℕ
marked_text generators mark [] = []
marked_text generators mark (t ∷ ts) = mark ∷ (tree_text generators t ++ marked_text generators 44 ts)

more_text : (generators : List Generator) (ts : List (Tree ℕ)) → flat_map token_text (more_tokens generators (row ts)) ≡ marked_text generators 44 ts
more_text generators [] = refl
more_text generators (t ∷ ts) =
    ap (λ x. 44 ∷ x) (flat_map-append token_text (tree_tokens generators t) (more_tokens generators (row ts)) ∙ ap (λ x. tree_text generators t ++ x) (more_text generators ts))

row_text : (generators : List Generator) (ts : List (Tree ℕ)) → 0 < length ts → 40 ∷ flat_map token_text (row_tokens generators (row ts)) ≡ marked_text generators 40 ts
row_text generators [] l = absurd (omega arith)
row_text generators (t ∷ ts) l =
    ap (λ x. 40 ∷ x) (flat_map-append token_text (tree_tokens generators t) (more_tokens generators (row ts)) ∙ ap (λ x. tree_text generators t ++ x) (more_text generators ts))

pub tree_text-node : (generators : List Generator) (g : ℕ) (ts : List (Tree ℕ)) → 0 < length ts
    → tree_text generators (node g (row ts)) ≡ name_of generators g ++ (marked_text generators 40 ts ++ 41 ∷ [])
tree_text-node generators g ts l =
    ap (λ x. name_of generators g ++ 40 ∷ x) (flat_map-append token_text (row_tokens generators (row ts)) (Byte 41 ∷ []))
    ∙ ap (λ x. name_of generators g ++ (x ++ 41 ∷ [])) (row_text generators ts l)

-- a step of printing: a mark, a tree, and what is left
pub marked_step : (generators : List Generator) (mark : ℕ) (t : Tree ℕ) (ts : List (Tree ℕ)) (old first new end : List ℕ) → first ≡ old ++ mark ∷ [] → new ≡ first ++ tree_text generators t
    → old ++ (marked_text generators mark (t ∷ ts) ++ 41 ∷ []) ≡ end → new ++ (marked_text generators 44 ts ++ 41 ∷ []) ≡ end
marked_step generators mark t ts old first new end f n e =
    rw (n, f) (regroup old mark (tree_text generators t) (marked_text generators 44 ts) ∙ e)
  where
    regroup : (old : List ℕ) (mark : ℕ) (text others : List ℕ) → ((old ++ mark ∷ []) ++ text) ++ (others ++ 41 ∷ []) ≡ old ++ ((mark ∷ (text ++ others)) ++ 41 ∷ [])
    regroup old mark text others = simp append_assoc

-- the name, and what is to be printed behind it
pub marked_begin : (generators : List Generator) (g : ℕ) (ts : List (Tree ℕ)) (name old new : List ℕ) → 0 < length ts → name_of generators g ≡ name → new ≡ old ++ name
    → new ++ (marked_text generators 40 ts ++ 41 ∷ []) ≡ old ++ tree_text generators (node g (row ts))
marked_begin generators g ts name old new some e n =
    rw (n, ← e) (append_assoc old (name_of generators g) (marked_text generators 40 ts ++ 41 ∷ []) ∙ ap (λ x. old ++ x) (sym (tree_text-node generators g ts some)))
