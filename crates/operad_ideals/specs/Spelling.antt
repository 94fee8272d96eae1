-- Agreement of trees up to symmetry, and the sorted spelling.
use Rattle.std.specs.Prelude.{ℕ, ◌<◌, List, ◌∷◌, ◌++◌, length, map, min, slice_index}
use Rattle.std.proofs.Common.{suc}
use Rattle.labelled_trees.specs.Trees.{Tree, Row, leaf, node, none, more, row, inputs}
use Rattle.operad_ideals.specs.Parts.{Part, Sign, plus, times, InOnePart}

-- the least number at a leaf (0 where there is no leaf)
abbrev mutual
  pub least_leaf : Tree ℕ → ℕ
  least_leaf (leaf n) = n
  least_leaf (node g r) = least_leaf_row r

  pub least_leaf_row : Row ℕ → ℕ
  least_leaf_row none = 0
  least_leaf_row (more t none) = least_leaf t
  least_leaf_row (more t (more u r)) = min (least_leaf t) (least_leaf_row (more u r))

-- `parts g` are the parts of generator g
module _ (parts : ℕ → List Part) where
  -- Two trees agree up to symmetry with a sign: one comes from the other by exchanges of neighbouring inputs
  -- of one symmetric or skew part, at any vertices; each exchange in a skew part turns the sign
  -- (Bremner and Dotsenko 2016, the action of the symmetric groups on tree monomials).
  pub data Agrees : Sign → Tree ℕ → Tree ℕ → Type 0 where
    same : (t : Tree ℕ) → Agrees plus t t
    exchanged : (g : ℕ) (s : Sign) (front : List (Tree ℕ)) (a b : Tree ℕ) (back : List (Tree ℕ)) → InOnePart (parts g) (length front) s
        → Agrees s (node g (row (front ++ a ∷ (b ∷ back)))) (node g (row (front ++ b ∷ (a ∷ back))))
    inside : (g : ℕ) (s : Sign) (front : List (Tree ℕ)) (a b : Tree ℕ) (back : List (Tree ℕ)) → Agrees s a b
        → Agrees s (node g (row (front ++ a ∷ back))) (node g (row (front ++ b ∷ back)))
    followed : (r s : Sign) (t u v : Tree ℕ) → Agrees r t u → Agrees s u v → Agrees (times r s) t v

  -- A tree is sorted: at each vertex neighbouring inputs of one symmetric or skew part stand in ascending order of least leaves.
  abbrev mutual
    pub IsSorted : Tree ℕ → Type 0
    IsSorted (leaf n) = Unit {0}
    IsSorted (node g r) =
        ((i : ℕ) (s : Sign) → InOnePart (parts g) i s → slice_index (map least_leaf (inputs r)) i < slice_index (map least_leaf (inputs r)) (suc i))
        × IsSortedRow r

    pub IsSortedRow : Row ℕ → Type 0
    IsSortedRow none = Unit {0}
    IsSortedRow (more t r) = IsSorted t × IsSortedRow r

  -- u is the sorted spelling of t, and s is its sign
  pub record IsSpelling (t : Tree ℕ) (s : Sign) (u : Tree ℕ) : Type 0 where
    pub agrees : Agrees s t u
    pub sorted : IsSorted u
