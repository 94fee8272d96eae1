-- What the steps answer that list small common multiples.
use Rattle.std.specs.Prelude.{ℕ, ◌+◌, ◌≡◌, ◌<◌, ◌≤◌, List, [], ◌∷◌, map, Option, None, Some, slice_index}
use Rattle.std.proofs.Common.{Bool, cond}
use Rattle.modular_sums.specs.Lists.{Mem, Distinct}
use Rattle.labelled_trees.specs.Trees.{Tree, IsNode, vertices}
use Rattle.labelled_trees.specs.Leaves.{leaf_count}
use Rattle.labelled_trees.specs.Meaning.{tree_of}
use Rattle.shuffle_places.specs.Multiples.{IsOverlap, IsMultiple}
use Rattle.shuffle_places.specs.Overlays.{shape}
use Rattle.common_multiples.specs.Merging as spec
use Rattle.common_multiples.specs.Overlaying.{Agree, Begins, StandsAt}
use Rattle.shuffle_places.specs.AllPlaces.{lay}
use Rattle.tree_divisors.specs.Laying.{IsLaid, numbers_at}
use Rattle.common_multiples.specs.declared.families.Laid as laid
use Rattle.common_multiples.specs.Building.{numbered, over_at}
use Rattle.common_multiples.specs.declared.chains.Chains as program
use Rattle.common_multiples.specs.declared.merging.Site as site
use Rattle.common_multiples.specs.declared.families.Multiple as found
use Rattle.common_multiples.specs.declared.families.Pattern as pattern
use Rattle.shuffle_insertions.specs.ShuffleTrees.{IsShuffle}
use Rattle.shuffle_trees.specs.ValidTrees.{IsValid}

-- the tree has a vertex, and its leaves are 1 to the arity
abbrev pub IsPattern : pattern.Pattern → Type 0
IsPattern p = IsShuffle p.arity p.tree.now × IsNode p.tree.now

-- b can be laid over the vertex v of a, and there are n leaves then
pub record FitsAt (n : ℕ) (a b : Tree ℕ) (v : ℕ) : Type 0 where
  pub part : Tree ℕ
  pub stands : StandsAt 1 v a part
  pub agree : Agree part b
  pub arity : leaf_count (over_at 1 v (shape a) (shape b)) ≡ n

-- two trees with leaves 1 to their arities, of which the second can be laid over the vertex v of the first with at most 255 leaves
pub record IsLayable (a b : Tree ℕ) (v : ℕ) : Type 0 where
  pub n : ℕ
  pub small : n < 256
  pub fits : FitsAt n a b v
  pub host : (m : ℕ) × IsShuffle m a
  pub guest : (k : ℕ) × IsShuffle k b
  pub is_node : IsNode b

-- the places of both trees in the one laid over the other, and the first leaves of their parts
pub record AreLaid (a b : Tree ℕ) (v : ℕ) (laid : laid.Laid) : Type 0 where
  pub host_valid : IsValid a
  pub guest_valid : IsValid b
  pub tree : Tree ℕ
  pub plain : tree ≡ numbered (λ i. i) 0 (over_at 1 v (shape a) (shape b))
  pub inner : Tree ℕ
  pub at : StandsAt 1 v tree inner
  pub before : List ℕ
  pub first : IsLaid before laid.first a tree
  pub second : IsLaid before laid.second b inner
  pub host_place : laid.host_place ≡ numbers_at 1 (lay a tree)
  pub guest_place : laid.guest_place ≡ numbers_at v (lay b inner)

-- no two of the numbers at the places 1 to m are one
abbrev pub IsOneToOne : ℕ → (ℕ → ℕ) → Type 0
IsOneToOne m f = (i j : ℕ) → 0 < i → i ≤ m → 0 < j → j ≤ m → f i ≡ f j → i ≡ j

-- back gives for each number its place among those at 1 to m, and 0 where it has none
pub record IsInverse (m : ℕ) (f back : ℕ → ℕ) : Type 0 where
  pub each : (i : ℕ) → 0 < i → i ≤ m → back (f i) ≡ i
  pub only : (z : ℕ) → 0 < back z → (back z ≤ m) × (f (back z) ≡ z)

-- two chains of the program, as functions
abbrev pub chains_of : program.Chains → spec.Chains
chains_of c = record {
  first = slice_index c.first;
  second = slice_index c.second;
  on_first = slice_index c.on_first;
  on_second = slice_index c.on_second;
  m = c.first_length;
  k = c.second_length;
}

-- what comes next in merging: nothing, or a leaf before all that comes behind it
abbrev pub IsNextStep : ((ℕ → ℕ → List (List ℕ)) → List (List ℕ)) → Option (ℕ × ℕ × ℕ) → Type 0
IsNextStep next None = (rest : ℕ → ℕ → List (List ℕ)) → next rest ≡ []
IsNextStep next (Some step) = (rest : ℕ → ℕ → List (List ℕ)) → next rest ≡ map (λ s. step.0 ∷ s) (rest step.1 step.2)

-- the shape where the guest is laid over the host
abbrev pub shape_at : site.Site → Tree (Unit {0})
shape_at s = over_at 1 s.at (shape (tree_of s.host.now)) (shape (tree_of s.guest.now))

-- that shape with these numbers at its leaves, from left to right
abbrev pub numbered_at : site.Site → List ℕ → Tree ℕ
numbered_at s numbers = numbered (slice_index numbers) 0 (shape_at s)

-- there is room for the numbers of its vertices and leaves
abbrev pub IsRoom : site.Site → Type 0
IsRoom s = (1 + vertices (tree_of s.host.now) < 256) × (leaf_count (shape_at s) < 256)

-- the multiple with these places in the tree, the host's first or second
abbrev pub multiple_with : Bool → Tree ℕ → List ℕ → List ℕ → found.Multiple
multiple_with turned tree host guest = record { tree = tree; first = cond turned guest host; second = cond turned host guest }

-- the multiple at the site with these numbers at its leaves
abbrev pub multiple_at : site.Site → List ℕ → found.Multiple
multiple_at s numbers = multiple_with s.is_turned (numbered_at s numbers) s.host_place s.guest_place

-- The list has exactly the overlaps of arity n, each once, in which the place of a has the root and the first vertex of the place
-- of b is one of those that P tells; a has the first place of each, or the second where they are turned.
pub record AreOverlapsWhere (P : ℕ → Type 0) (n : ℕ) (a b : Tree ℕ) (turned : Bool) (list : List found.Multiple) : Type 0 where
  pub only : (x : found.Multiple) → Mem x list → (host guest : List ℕ) × (x ≡ multiple_with turned x.tree host guest)
      × IsOverlap n a b x.tree host guest × Begins 1 host × ((v : ℕ) × P v × Begins v guest)
  pub each : (tree : Tree ℕ) (host guest : List ℕ) (v : ℕ) → IsOverlap n a b tree host guest → Begins 1 host → P v → Begins v guest → Mem (multiple_with turned tree host guest) list
  pub once : Distinct list

-- at one vertex
abbrev pub AreOverlapsAt : ℕ → Tree ℕ → Tree ℕ → ℕ → Bool → List found.Multiple → Type 0
AreOverlapsAt n a b at = AreOverlapsWhere (λ v. v ≡ at) n a b

-- at the vertices from one on
abbrev pub AreOverlapsFrom : ℕ → Tree ℕ → Tree ℕ → ℕ → Bool → List found.Multiple → Type 0
AreOverlapsFrom n a b from = AreOverlapsWhere (λ v. from ≤ v) n a b

-- The list has exactly the small common multiples of a and b of arity n, each once.
pub record AreAllMultiples (n : ℕ) (a b : Tree ℕ) (list : List found.Multiple) : Type 0 where
  pub only : (x : found.Multiple) → Mem x list → IsMultiple n a b x.tree x.first x.second
  pub each : (tree : Tree ℕ) (first second : List ℕ) → IsMultiple n a b tree first second → Mem (record { tree = tree; first = first; second = second }) list
  pub once : Distinct list
