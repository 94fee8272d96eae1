-- The list of all small common multiples of two trees.
use Rattle.std.specs.Prelude.{ℕ, List, [], ◌∷◌, flat_map}
use Rattle.std.proofs.Common.{Bool, true, false, cond}
use Rattle.std.specs.Ordering.{nat_cmp, is_lt}
use Rattle.std.specs.Cmp.Lexicographic.{slice_cmp}
use Rattle.labelled_trees.specs.Trees.{Tree, vertices}
use Rattle.labelled_trees.specs.Equality.{tree_discrete}
use Rattle.shuffle_insertions.specs.Listing.{upto}
use Rattle.shuffle_places.specs.Overlays.{shape_discrete, shapes_of}
use Rattle.shuffle_places.specs.Numberings.{numberings}
use Rattle.shuffle_places.specs.AllPlaces.{places}
use Rattle.modular_sums.specs.Lists.{has, has_by, choose}

-- a member of the first stands in the second
abbrev pub meet : List ℕ → List ℕ → Bool
meet [] l = false
meet (v ∷ k) l = cond (has l v) true (meet k l)

-- each of the list stands in one of the two
abbrev pub cover : List ℕ → List ℕ → List ℕ → Bool
cover [] k l = true
cover (v ∷ m) k l = cond (has k v) (cover m k l) (cond (has l v) (cover m k l) false)

-- where a and b are one tree, the first set is less
abbrev pub in_order : Tree ℕ → Tree ℕ → List ℕ → List ℕ → Bool
in_order a b k l = choose (tree_discrete a b) (is_lt (slice_cmp nat_cmp k l)) true

-- the two places share a vertex, hold all vertices, and stand in order
abbrev pub test : Tree ℕ → Tree ℕ → Tree ℕ → List ℕ → List ℕ → Bool
test a b tree k l = cond (meet k l) (cond (cover (upto (vertices tree)) k l) (in_order a b k l) false) false

-- for each item, what f gives
abbrev pub joined : {X Y : Type 0} → List X → (X → List Y) → List Y
joined l f = flat_map f l

-- the last of equal shapes alone
abbrev pub different : List (Tree (Unit {0})) → List (Tree (Unit {0}))
different [] = []
different (x ∷ l) = cond (has_by shape_discrete l x) (different l) (x ∷ different l)

-- The small common multiples of a and b of arity n, each with its two places: of each candidate for a shape the shuffle trees,
-- and of each of these the places with divisors a and b that pass the test.
abbrev pub multiples : Tree ℕ → Tree ℕ → ℕ → List (Tree ℕ × List ℕ × List ℕ)
multiples a b n =
    joined (different (shapes_of a b)) (λ form. joined (numberings form (upto n)) (λ tree. joined (places a 1 tree) (λ k. joined (places b 1 tree) (λ l.
    cond (test a b tree k l) ((tree, k, l) ∷ []) []))))
