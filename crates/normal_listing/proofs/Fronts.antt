-- The tree with whose word a word begins, from its first symbol.
use Rattle.std.proofs.Common.{◌≡◌, ℕ, zero, suc, ◌+◌, ◌-◌, ◌<◌, ◌≤◌, List, [], ◌∷◌, length, drop, refl, ap, ap₂, sym, ◌∙◌, subst, arith}
use mathlib.Core.List.{◌++◌}
use Rattle.std.specs.List.{AllByRecursion}
use Rattle.std.specs.Fmt.{decimal}
use Rattle.std.proofs.lemmas.Fmt.{decimal_digit}
use Rattle.labelled_trees.specs.Trees.{Tree, Row, leaf, node, none, more, row, inputs, width}
use Rattle.labelled_trees.specs.Leaves.{AllLeaves, AllRow}
use Rattle.labelled_trees.specs.Labelled as labelled
use Rattle.symmetric_trees.specs.Trees.{Fits}
use Rattle.symmetric_trees.specs.declared.generators.Generator.{Generator}
use Rattle.presentation_text.specs.TreeText.{tree_text}
use Rattle.presentation_text.proofs.TreeTokens.{arity_in}
use Rattle.presentation_text.proofs.TreePrinting.{marked_text, marked_step}
use Rattle.normal_listing.specs.Words.{symbols, symbols_row, IsLeafDigit}
use Rattle.normal_listing.proofs.Combining.{nothing_behind}
use Rattle.normal_listing.specs.WordTexts.{IsSpelt, BeginsWithTree}

-- the symbol is the first of the word, where there is one
abbrev pub IsFirst : List ℕ → ℕ → Type 0
IsFirst word symbol = (s : ℕ) (l : List ℕ) → word ≡ s ∷ l → symbol ≡ s

-- ---- a leaf

pub record IsLeafFront (t : Tree ℕ) (word others : List ℕ) (symbol : ℕ) : Type 0 where
  pub is : t ≡ leaf symbol
  pub left : drop 1 word ≡ others

pub leaf_front : (generators : List Generator) (t : Tree ℕ) (word others : List ℕ) (symbol : ℕ) → IsSpelt generators t → word ≡ symbols t ++ others → IsFirst word symbol → symbol < 10 → IsLeafFront t word others symbol
leaf_front generators (leaf i) word others symbol h e first small = record { is = ap leaf (sym (first i others e)); left = ap (drop 1) e }
leaf_front generators (node g r) word others symbol h e first small = let is = first (10 + g) (symbols_row r ++ others) e in absurd (omega (arith, is, small))

pub leaf_text : (generators : List Generator) (n : ℕ) → n < 10 → tree_text generators (leaf n) ≡ (48 + n) ∷ []
leaf_text generators n h = nothing_behind (decimal n) ∙ decimal_digit n h

-- ---- a vertex

-- trees over the table, one after the other
abbrev pub AreSpelt : List Generator → List (Tree ℕ) → Type 0
AreSpelt generators = AllByRecursion (IsSpelt generators)

pub record IsVertexFront (generators : List Generator) (t : Tree ℕ) (word others : List ℕ) (symbol : ℕ) : Type 0 where
  pub trees : List (Tree ℕ)
  pub is : t ≡ node (symbol - 10) (row trees)
  pub spelt : AreSpelt generators trees
  pub least : 2 ≤ arity_in generators (symbol - 10)
  pub count : length trees ≡ arity_in generators (symbol - 10)
  pub left : drop 1 word ≡ symbols_row (row trees) ++ others

row_of_inputs : (r : Row ℕ) → row (inputs r) ≡ r
row_of_inputs none = refl
row_of_inputs (more t r) = ap (more t) (row_of_inputs r)

width_of_inputs : (r : Row ℕ) → length (inputs r) ≡ width r
width_of_inputs none = refl
width_of_inputs (more t r) = ap suc (width_of_inputs r)

spelt_inputs : (generators : List Generator) (r : Row ℕ) → labelled.FitsRow (arity_in generators) r → AllRow r IsLeafDigit → AreSpelt generators (inputs r)
spelt_inputs generators none f d = tt
spelt_inputs generators (more t r) f d = (record { fits = f.0; leaves = d.0 }, spelt_inputs generators r f.1 d.1)

pub vertex_front : (generators : List Generator) (t : Tree ℕ) (word others : List ℕ) (symbol : ℕ) → IsSpelt generators t → word ≡ symbols t ++ others → IsFirst word symbol → 10 ≤ symbol → IsVertexFront generators t word others symbol
vertex_front generators (leaf i) word others symbol h e first large = let is = first i others e in let small = h.leaves.1 in absurd (omega (arith, is, small, large))
vertex_front generators (node g r) word others symbol h e first large =
    let is = first (10 + g) (symbols_row r ++ others) e in
    let number : symbol - 10 ≡ g = omega (arith, is) in
    let same : row (inputs r) ≡ r = row_of_inputs r in
    record {
      trees = inputs r;
      is = ap₂ node (sym number) (sym same);
      spelt = spelt_inputs generators r h.fits.2 h.leaves;
      least = subst (λ n. 2 ≤ arity_in generators n) (sym number) h.fits.0;
      count = width_of_inputs r ∙ h.fits.1 ∙ ap (arity_in generators) (sym number);
      left = ap (drop 1) e ∙ ap (λ q. symbols_row q ++ others) (sym same);
    }

-- ---- the inputs of a vertex, one after the other

-- The inputs of the tree from number i on are left, and then come the others; what is written goes on to the tree's text.
pub record IsLeft (generators : List Generator) (t : Tree ℕ) (others left : List ℕ) (mark : ℕ) (i arity : ℕ) (out end : List ℕ) : Type 0 where
  pub trees : List (Tree ℕ)
  pub spelt : AreSpelt generators trees
  pub count : length trees + i ≡ arity
  pub left_is : left ≡ symbols_row (row trees) ++ others
  pub text : out ++ (marked_text generators mark trees ++ 41 ∷ []) ≡ end

-- this holds of each tree with whose word the word begins
pub record IsWriting (generators : List Generator) (word left : List ℕ) (mark i arity : ℕ) (out start : List ℕ) : Type 0 where
  pub each : (t : Tree ℕ) (others : List ℕ) → IsSpelt generators t → word ≡ symbols t ++ others → IsLeft generators t others left mark i arity out (start ++ tree_text generators t)
  pub shorter : length left < length word

-- the next input, and the trees behind it
pub record HasNext (generators : List Generator) (t : Tree ℕ) (others left : List ℕ) (mark : ℕ) (i arity : ℕ) (out end : List ℕ) : Type 0 where
  pub tree : Tree ℕ
  pub trees : List (Tree ℕ)
  pub spelt : IsSpelt generators tree
  pub are_spelt : AreSpelt generators trees
  pub count : length trees + (i + 1) ≡ arity
  pub left_is : left ≡ symbols tree ++ (symbols_row (row trees) ++ others)
  pub text : out ++ (marked_text generators mark (tree ∷ trees) ++ 41 ∷ []) ≡ end

assoc : (k l m : List ℕ) → (k ++ l) ++ m ≡ k ++ (l ++ m)
assoc [] l m = refl
assoc (x ∷ k) l m = ap (λ n. x ∷ n) (assoc k l m)

module _ (generators : List Generator) (t : Tree ℕ) (others left : List ℕ) (mark i arity : ℕ) (out end : List ℕ) where
  next_of : (trees : List (Tree ℕ)) → AreSpelt generators trees → length trees + i ≡ arity → left ≡ symbols_row (row trees) ++ others → out ++ (marked_text generators mark trees ++ 41 ∷ []) ≡ end → i < arity
      → HasNext generators t others left mark i arity out end
  next_of [] s c l x h = absurd (omega (arith, c, h))
  next_of (u ∷ us) s c l x h = record {
    tree = u;
    trees = us;
    spelt = s.0;
    are_spelt = s.1;
    count = omega (arith, c);
    left_is = l ∙ assoc (symbols u) (symbols_row (row us)) others;
    text = x;
  }

  pub has_next : IsLeft generators t others left mark i arity out end → i < arity → HasNext generators t others left mark i arity out end
  has_next w h = next_of w.trees w.spelt w.count w.left_is w.text h

  none_of : (trees : List (Tree ℕ)) → length trees + i ≡ arity → left ≡ symbols_row (row trees) ++ others → out ++ (marked_text generators mark trees ++ 41 ∷ []) ≡ end → arity ≤ i
      → (left ≡ others) × (out ++ 41 ∷ [] ≡ end)
  none_of [] c l x h = (l, x)
  none_of (u ∷ us) c l x h = absurd (omega (arith, c, h))

  pub nothing_left : IsLeft generators t others left mark i arity out end → arity ≤ i → (left ≡ others) × (out ++ 41 ∷ [] ≡ end)
  nothing_left w h = none_of w.trees w.count w.left_is w.text h

  -- the next input is written
  pub input_written : (n : HasNext generators t others left mark i arity out end) (pushed written after : List ℕ) → pushed ≡ out ++ mark ∷ [] → written ≡ pushed ++ tree_text generators n.tree
      → after ≡ symbols_row (row n.trees) ++ others → IsLeft generators t others after 44 (i + 1) arity written end
  input_written n pushed written after p w a = record {
    trees = n.trees;
    spelt = n.are_spelt;
    count = n.count;
    left_is = a;
    text = marked_step generators mark n.tree n.trees out pushed written end p w n.text;
  }

-- ---- the word gets shorter

pub first_taken : (generators : List Generator) (word : List ℕ) → BeginsWithTree generators word → length (drop 1 word) < length word
first_taken generators [] h = absurd (no_word h.tree h.others h.is)
  where
    no_word : (t : Tree ℕ) (others : List ℕ) → [] ≡ symbols t ++ others → ⊥
    no_word (leaf i) others e = cc
    no_word (node g r) others e = cc
first_taken generators (s ∷ l) h = omega arith
