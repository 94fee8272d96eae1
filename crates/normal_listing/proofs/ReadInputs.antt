-- Inputs of a vertex that are read, and inputs that are left.
use Rattle.std.proofs.Common.{◌≡◌, ℕ, zero, suc, ◌+◌, ◌-◌, ◌<◌, ◌≤◌, List, [], ◌∷◌, length, map, refl, ap, ap₂, sym, ◌∙◌, subst, arith}
use mathlib.Core.List.{◌++◌}
use Rattle.labelled_trees.specs.Trees.{Tree, leaf, node, row}
use Rattle.labelled_trees.specs.Meaning.{tree_of}
use Rattle.labelled_trees.specs.declared.Tree as program
use Rattle.symmetric_trees.specs.declared.generators.Generator.{Generator}
use Rattle.normal_listing.specs.Words.{symbols, symbols_row}
use Rattle.normal_listing.specs.WordTexts.{IsSpelt}
use Rattle.normal_listing.proofs.Fronts.{AreSpelt}

-- The tree is a vertex whose first inputs are read; the others are left, and then comes what is behind them.
pub record IsLeft (generators : List Generator) (t : Tree ℕ) (others left : List ℕ) (g i arity : ℕ) (read : List program.Tree) : Type 0 where
  pub trees : List (Tree ℕ)
  pub spelt : AreSpelt generators trees
  pub count : length trees + i ≡ arity
  pub left_is : left ≡ symbols_row (row trees) ++ others
  pub is : t ≡ node g (row (map tree_of read ++ trees))

-- this holds of each tree with whose word the word begins
pub record IsReading (generators : List Generator) (word left : List ℕ) (g i arity : ℕ) (read : List program.Tree) : Type 0 where
  pub each : (t : Tree ℕ) (others : List ℕ) → IsSpelt generators t → word ≡ symbols t ++ others → IsLeft generators t others left g i arity read
  pub shorter : length left < length word

-- the next input, and the trees behind it
pub record HasNext (generators : List Generator) (t : Tree ℕ) (others left : List ℕ) (g i arity : ℕ) (read : List program.Tree) : Type 0 where
  pub tree : Tree ℕ
  pub trees : List (Tree ℕ)
  pub spelt : IsSpelt generators tree
  pub are_spelt : AreSpelt generators trees
  pub count : length trees + (i + 1) ≡ arity
  pub left_is : left ≡ symbols tree ++ (symbols_row (row trees) ++ others)
  pub is : t ≡ node g (row (map tree_of read ++ tree ∷ trees))

assoc : {X : Type 0} (k l m : List X) → (k ++ l) ++ m ≡ k ++ (l ++ m)
assoc [] l m = refl
assoc (x ∷ k) l m = ap (λ n. x ∷ n) (assoc k l m)

nothing_behind : {X : Type 0} (l : List X) → l ++ [] ≡ l
nothing_behind [] = refl
nothing_behind (x ∷ l) = ap (λ m. x ∷ m) (nothing_behind l)

map-append : {X Y : Type 0} (f : X → Y) (k l : List X) → map f (k ++ l) ≡ map f k ++ map f l
map-append f [] l = refl
map-append f (x ∷ k) l = ap (λ m. f x ∷ m) (map-append f k l)

module _ (generators : List Generator) (t : Tree ℕ) (others left : List ℕ) (g i arity : ℕ) (read : List program.Tree) where
  next_of : (trees : List (Tree ℕ)) → AreSpelt generators trees → length trees + i ≡ arity → left ≡ symbols_row (row trees) ++ others → t ≡ node g (row (map tree_of read ++ trees)) → i < arity
      → HasNext generators t others left g i arity read
  next_of [] s c l x h = absurd (omega (arith, c, h))
  next_of (u ∷ us) s c l x h = record {
    tree = u;
    trees = us;
    spelt = s.0;
    are_spelt = s.1;
    count = omega (arith, c);
    left_is = l ∙ assoc (symbols u) (symbols_row (row us)) others;
    is = x;
  }

  pub has_next : IsLeft generators t others left g i arity read → i < arity → HasNext generators t others left g i arity read
  has_next w h = next_of w.trees w.spelt w.count w.left_is w.is h

  none_of : (trees : List (Tree ℕ)) → length trees + i ≡ arity → left ≡ symbols_row (row trees) ++ others → t ≡ node g (row (map tree_of read ++ trees)) → arity ≤ i
      → (left ≡ others) × (t ≡ node g (row (map tree_of read)))
  none_of [] c l x h = (l, x ∙ ap (λ us. node g (row us)) (nothing_behind (map tree_of read)))
  none_of (u ∷ us) c l x h = absurd (omega (arith, c, h))

  pub nothing_left : IsLeft generators t others left g i arity read → arity ≤ i → (left ≡ others) × (t ≡ node g (row (map tree_of read)))
  nothing_left w h = none_of w.trees w.count w.left_is w.is h

  -- the next input is read
  pub input_read : (n : HasNext generators t others left g i arity read) (tree : program.Tree) (after : List ℕ) (more_read : List program.Tree) → more_read ≡ read ++ tree ∷ [] → tree_of tree ≡ n.tree
      → after ≡ symbols_row (row n.trees) ++ others → IsLeft generators t others after g (i + 1) arity more_read
  input_read n tree after more_read m e a = record {
    trees = n.trees;
    spelt = n.are_spelt;
    count = n.count;
    left_is = a;
    is =
        n.is ∙ ap (λ us. node g (row us))
        (ap (λ u. map tree_of read ++ u ∷ n.trees) (sym e) ∙ sym (assoc (map tree_of read) (tree_of tree ∷ []) n.trees)
        ∙ ap (λ us. us ++ n.trees) (sym (ap (map tree_of) m ∙ map-append tree_of read (tree ∷ []))));
  }
