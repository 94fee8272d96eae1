-- What is listed where two trees are laid, in the terms of the program.
use Rattle.std.proofs.Common.{◌≡◌, ℕ, ◌<◌, List, map, replicate, refl, sym, ◌∙◌, arith, subst, Bool}
use Rattle.std.specs.Prelude.{slice_index}
use mathlib.Core.Path.{ap₂}
use Rattle.modular_sums.specs.Lists.{Mem}
use Rattle.labelled_trees.specs.Trees.{Tree, IsNode}
use Rattle.labelled_trees.specs.Leaves.{leaf_count}
use Rattle.shuffle_insertions.specs.ShuffleTrees.{IsShuffle}
use Rattle.shuffle_places.specs.AllPlaces.{lay}
use Rattle.shuffle_places.specs.Overlays.{shape}
use Rattle.shuffle_trees.specs.ValidTrees.{IsValid}
use Rattle.tree_divisors.specs.Laying.{numbers_at}
use Rattle.common_multiples.specs.Building.{numbered, over_at}
use Rattle.common_multiples.specs.Listing.{AreLaid, AreOverlapsAt, FitsAt, IsInverse, IsLayable, IsOneToOne, chains_of, multiple_with}
use Rattle.common_multiples.specs.Merging.{Chains, merges, assigned}
use Rattle.common_multiples.specs.declared.chains.Chains as program
use Rattle.common_multiples.specs.declared.families.Laid as laid
use Rattle.common_multiples.specs.declared.families.Multiple.{Multiple}
use Rattle.common_multiples.proofs.SiteOverlaps.{first_once, second_once, valid_tree, all_overlaps}

-- two chains with what tells the places on them
abbrev chains_with : (List ℕ → List ℕ → ℕ → ℕ → List ℕ → List ℕ → Chains)
chains_with first second m k on_first on_second = record { first = slice_index first; second = slice_index second; on_first = slice_index on_first; on_second = slice_index on_second; m = m; k = k }

pub layable : (n m k v : ℕ) (a b : Tree ℕ) → n < 256 → IsShuffle m a → IsShuffle k b → IsNode b → FitsAt n a b v → IsLayable a b v
layable n m k v a b small va vb node fits = record { n = n; small = small; fits = fits; host = (m, va); guest = (k, vb); is_node = node }

module _ (n m k v : ℕ) (a b : Tree ℕ) (turned : Bool) (small : n < 256) (valid_a : IsShuffle m a) (valid_b : IsShuffle k b) (node_b : IsNode b) (fits : FitsAt n a b v) (l : laid.Laid) (h : AreLaid a b v l) where
  pub host_once : IsOneToOne m (slice_index l.first)
  host_once = first_once n m k v a b turned valid_a valid_b node_b h.host_valid h.guest_valid small fits.part fits.stands fits.agree fits.arity h.tree h.plain h.inner h.at h.before l.first h.before l.second h.first h.second

  pub guest_once : IsOneToOne k (slice_index l.second)
  guest_once = second_once n m k v a b turned valid_a valid_b node_b h.host_valid h.guest_valid small fits.part fits.stands fits.agree fits.arity h.tree h.plain h.inner h.at h.before l.first h.before l.second h.first h.second

  pub room_at : (s t : Tree ℕ) → s ≡ a → t ≡ b → leaf_count (over_at 1 v (shape s) (shape t)) < 256
  room_at s t es et = let e : leaf_count (over_at 1 v (shape s) (shape t)) ≡ n = ap₂ (λ x y. leaf_count (over_at 1 v (shape x) (shape y))) es et ∙ fits.arity in omega (arith, e, small)

  module _ (c : program.Chains) (first : (c.first ≡ l.first) × (c.first_length ≡ m)) (second : (c.second ≡ l.second) × (c.second_length ≡ k))
      (on_first : IsInverse m (slice_index l.first) (slice_index c.on_first)) (on_second : IsInverse k (slice_index l.second) (slice_index c.on_second)) where
    chains_are : chains_with c.first c.second c.first_length c.second_length c.on_first c.on_second ≡ chains_with l.first l.second m k c.on_first c.on_second
    chains_are =
        ap₂ (λ x y. chains_with x y c.first_length c.second_length c.on_first c.on_second) first.0 second.0
        ∙ ap₂ (λ x y. chains_with l.first l.second x y c.on_first c.on_second) first.1 second.1

    pub valid_there : (s t : Tree ℕ) → s ≡ a → t ≡ b → (q : List ℕ) → Mem q (merges (chains_of c) n 1 1) → IsValid (numbered (slice_index (assigned q 1 (replicate 256 0))) 0 (over_at 1 v (shape s) (shape t)))
    valid_there s t es et q m_ =
        subst (λ y. IsValid (numbered (slice_index (assigned q 1 (replicate 256 0))) 0 (over_at 1 v (shape s) (shape y)))) (sym et)
        (subst (λ x. IsValid (numbered (slice_index (assigned q 1 (replicate 256 0))) 0 (over_at 1 v (shape x) (shape b)))) (sym es)
        (valid_tree n m k v a b turned valid_a valid_b node_b h.host_valid h.guest_valid small fits.part fits.stands fits.agree fits.arity h.tree h.plain h.inner h.at h.before l.first h.before l.second h.first h.second
        (slice_index c.on_first) (slice_index c.on_second) on_first on_second (replicate 256 0) refl q (subst (λ x. Mem q (merges x n 1 1)) chains_are m_)))

    abbrev found_at : Tree ℕ → Tree ℕ → List ℕ → List ℕ → Chains → List Multiple
    found_at s t host guest x = map (λ q. multiple_with turned (numbered (slice_index (assigned q 1 (replicate 256 0))) 0 (over_at 1 v (shape s) (shape t))) host guest) (merges x n 1 1)

    pub overlaps_there : (s t : Tree ℕ) → s ≡ a → t ≡ b
        → AreOverlapsAt n a b v turned (map (λ q. multiple_with turned (numbered (slice_index (assigned q 1 (replicate 256 0))) 0 (over_at 1 v (shape s) (shape t))) l.host_place l.guest_place) (merges (chains_of c) n 1 1))
    overlaps_there s t es et =
        subst (λ x. AreOverlapsAt n a b v turned (found_at s t l.host_place l.guest_place x)) (sym chains_are)
        (subst (λ g. AreOverlapsAt n a b v turned (found_at s t l.host_place g (chains_with l.first l.second m k c.on_first c.on_second))) (sym h.guest_place)
        (subst (λ g. AreOverlapsAt n a b v turned (found_at s t g (numbers_at v (lay b h.inner)) (chains_with l.first l.second m k c.on_first c.on_second))) (sym h.host_place)
        (subst (λ y. AreOverlapsAt n a b v turned (found_at s y (numbers_at 1 (lay a h.tree)) (numbers_at v (lay b h.inner)) (chains_with l.first l.second m k c.on_first c.on_second))) (sym et)
        (subst (λ x. AreOverlapsAt n a b v turned (found_at x b (numbers_at 1 (lay a h.tree)) (numbers_at v (lay b h.inner)) (chains_with l.first l.second m k c.on_first c.on_second))) (sym es)
        (all_overlaps n m k v a b turned valid_a valid_b node_b h.host_valid h.guest_valid small fits.part fits.stands fits.agree fits.arity h.tree h.plain h.inner h.at h.before l.first h.before l.second h.first h.second
        (slice_index c.on_first) (slice_index c.on_second) on_first on_second (replicate 256 0) refl)))))
