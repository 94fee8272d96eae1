-- The plain way to the sorted spelling and its sign: from the leaves up, the inputs of each part sorted.
use Rattle.std.specs.Prelude.{ℕ, List, [], ◌∷◌, ◌++◌, map, take, drop, nat_lt, count_by, if◌then◌else◌}
use Rattle.labelled_trees.specs.Trees.{Tree, Row, leaf, node, none, more, row}
use Rattle.operad_ideals.specs.Parts.{Kind, symmetric, skew, free, Part, Sign, plus, times, sign_of}
use Rattle.operad_ideals.specs.Spelling.{least_leaf}

-- x put before the first element whose key isn't smaller
abbrev pub put_by : {X : Type 0} → (X → ℕ) → X → List X → List X
put_by key x [] = x ∷ []
put_by key x (y ∷ ys) = if nat_lt (key y) (key x) then y ∷ put_by key x ys else x ∷ (y ∷ ys)

-- the elements in ascending order of their keys
abbrev pub sort_by : {X : Type 0} → (X → ℕ) → List X → List X
sort_by key [] = []
sort_by key (x ∷ xs) = put_by key x (sort_by key xs)

-- the sign of the permutation that sorts these numbers: minus where an odd number of pairs stand the wrong way round
abbrev pub order_sign : List ℕ → Sign
order_sign [] = plus
order_sign (k ∷ ks) = times (sign_of (count_by (λ m. nat_lt m k) ks)) (order_sign ks)

abbrev pub sort_part : {X : Type 0} → (X → ℕ) → Kind → List X → List X
sort_part key symmetric xs = sort_by key xs
sort_part key skew xs = sort_by key xs
sort_part key free xs = xs

abbrev pub part_sign : Kind → List ℕ → Sign
part_sign symmetric ks = plus
part_sign skew ks = order_sign ks
part_sign free ks = plus

-- the inputs of each symmetric and each skew part in ascending order of their keys, in the places of that part
abbrev pub sort_parts : {X : Type 0} → (X → ℕ) → List Part → List X → List X
sort_parts key [] xs = xs
sort_parts key (p ∷ parts) xs = sort_part key p.kind (take p.size xs) ++ sort_parts key parts (drop p.size xs)

-- the product of the signs of the permutations that sort the skew parts
abbrev pub parts_sign : List Part → List ℕ → Sign
parts_sign [] ks = plus
parts_sign (p ∷ parts) ks = times (part_sign p.kind (take p.size ks)) (parts_sign parts (drop p.size ks))

module _ (parts : ℕ → List Part) where
  -- the sorted spelling, from the leaves up
  abbrev mutual
    pub spelled : Tree ℕ → Tree ℕ
    spelled (leaf n) = leaf n
    spelled (node g r) = node g (row (sort_parts least_leaf (parts g) (spelled_row r)))

    pub spelled_row : Row ℕ → List (Tree ℕ)
    spelled_row none = []
    spelled_row (more t r) = spelled t ∷ spelled_row r

  -- its sign
  abbrev mutual
    pub spelled_sign : Tree ℕ → Sign
    spelled_sign (leaf n) = plus
    spelled_sign (node g r) = times (spelled_sign_row r) (parts_sign (parts g) (map least_leaf (spelled_row r)))

    pub spelled_sign_row : Row ℕ → Sign
    spelled_sign_row none = plus
    spelled_sign_row (more t r) = times (spelled_sign t) (spelled_sign_row r)
