-- What the functions of families need of the trees that are laid.
use Rattle.std.proofs.Common.{◌≡◌, ℕ, ◌+◌, ◌<◌, ◌≤◌, List, [], ◌∷◌, refl, sym, ◌∙◌, ap, arith, subst, Bool, true, false}
use mathlib.Core.Path.{ap₂}
use Rattle.labelled_trees.specs.Trees.{Tree, vertices}
use Rattle.labelled_trees.specs.Leaves.{leaf_count}
use Rattle.labelled_trees.specs.Contexts.{fill}
use Rattle.labelled_trees.specs.Unions.{union}
use Rattle.labelled_trees.proofs.ContextLeaves.{sum_of_fill}
use Rattle.shuffle_insertions.specs.ShuffleTrees.{IsShuffle}
use Rattle.shuffle_places.specs.Overlays.{shape}
use Rattle.shuffle_places.proofs.PatternSets.{start_in}
use Rattle.shuffle_trees.specs.ValidTrees.{IsValid}
use Rattle.shuffle_trees.proofs.Counts.{few_leaves, few_vertices, count_of_shuffle}
use Rattle.shuffle_places.specs.AllPlaces.{lay}
use Rattle.tree_divisors.specs.Laying.{Covers, IsLaid}
use Rattle.common_multiples.specs.Building.{numbered, over_at}
use Rattle.common_multiples.specs.Listing.{FitsAt, IsLayable}
use Rattle.common_multiples.specs.Overlaying.{Agree, StandsAt}
use Rattle.common_multiples.proofs.LaidOver.{over_at_laid, laid_leaves}
use Rattle.common_multiples.proofs.SiteOverlaps.{numbered_agree, few_vertices as few_laid, host_lies, has_vertex, guest_lies, few_inside}

-- ---- room

pub room_for : (t h : Tree ℕ) → IsValid t → h ≡ t → 1 + vertices h < 256
room_for t h v e = let f = few_vertices t v in let s : vertices h ≡ vertices t = ap vertices e in omega (arith, f, s)

pub few_of : (t h : Tree ℕ) → IsValid t → h ≡ t → leaf_count h < 256
few_of t h v e = let f = few_leaves t v in let s : leaf_count h ≡ leaf_count t = ap leaf_count e in omega (arith, f, s)

pub few_of_part : (k v : ℕ) (t h x : Tree ℕ) → IsValid t → h ≡ t → StandsAt k v h x → leaf_count x < 256
few_of_part k v t h x w e s =
    let f = few_of t h w e in
    let p = sum_of_fill s.context x (λ i. 1) in
    let q : leaf_count h ≡ leaf_count (fill s.context x) = ap leaf_count s.is in
    omega (arith, f, p, q)

-- ---- whether the arity fits

pub fits_of : (n m v : ℕ) (a b h g x : Tree ℕ) (count parts : ℕ) → IsShuffle m a → h ≡ a → g ≡ b → StandsAt 1 v h x → Agree x g → count ≡ leaf_count (union (shape x) (shape g)) → parts ≡ leaf_count x → m + count ≡ n + parts
    → FitsAt n a b v
fits_of n m v a b h g x count parts valid eh eg s agree is whole e =
    subst (λ t. FitsAt n a t v) eg (subst (λ t. FitsAt n t g v) eh record {
      part = x;
      stands = s;
      agree = agree;
      arity =
          let laid = ap leaf_count (over_at_laid 1 v h g s.context x s.is s.is_node s.number) in
          let sum = laid_leaves s.context x g in
          let all : leaf_count (fill s.context x) ≡ m = ap leaf_count (sym s.is ∙ eh) ∙ count_of_shuffle m a valid in
          omega (arith, laid, sum, all, is, whole, e);
    })

-- ---- the tree that is laid

pub plain_made : (f : ℕ → ℕ) (a b h g : Tree ℕ) (v : ℕ) (tree : Tree ℕ) → IsLayable a b v → h ≡ a → g ≡ b → ((i : ℕ) → i < 256 → f i ≡ i) → tree ≡ numbered f 0 (over_at 1 v (shape h) (shape g))
    → tree ≡ numbered (λ i. i) 0 (over_at 1 v (shape a) (shape b))
plain_made f a b h g v tree l eh eg same e =
    e ∙ ap₂ (λ s t. numbered f 0 (over_at 1 v (shape s) (shape t))) eh eg
    ∙ numbered_agree f (λ i. i) l.n (over_at 1 v (shape a) (shape b)) l.fits.arity (λ z p le. same z (let s = l.small in omega (arith, le, s)))

module _ (a b : Tree ℕ) (v : ℕ) (l : IsLayable a b v) (well_a : IsValid a) (well_b : IsValid b) (tree : Tree ℕ) (plain : tree ≡ numbered (λ i. i) 0 (over_at 1 v (shape a) (shape b))) where
  pub room_laid : 1 + vertices tree < 256
  room_laid = few_laid l.n l.host.0 l.guest.0 v a b true l.host.1 l.guest.1 l.is_node well_a well_b l.small l.fits.part l.fits.stands l.fits.agree l.fits.arity tree plain

  pub host_covers : Covers a tree
  host_covers = host_lies l.n l.host.0 l.guest.0 v a b true l.host.1 l.guest.1 l.is_node well_a well_b l.small l.fits.part l.fits.stands l.fits.agree l.fits.arity tree plain

  pub vertex_there : v < 1 + vertices tree
  vertex_there = has_vertex l.n l.host.0 l.guest.0 v a b true l.host.1 l.guest.1 l.is_node well_a well_b l.small l.fits.part l.fits.stands l.fits.agree l.fits.arity tree plain

  pub guest_covers : (inner : Tree ℕ) → StandsAt 1 v tree inner → Covers b inner
  guest_covers = guest_lies l.n l.host.0 l.guest.0 v a b true l.host.1 l.guest.1 l.is_node well_a well_b l.small l.fits.part l.fits.stands l.fits.agree l.fits.arity tree plain

  pub room_inside : (inner : Tree ℕ) → StandsAt 1 v tree inner → v + vertices inner < 256
  room_inside = few_inside l.n l.host.0 l.guest.0 v a b true l.host.1 l.guest.1 l.is_node well_a well_b l.small l.fits.part l.fits.stands l.fits.agree l.fits.arity tree plain

  pub starts_at_root : 1 ≤ v
  starts_at_root = let s = start_in 1 l.fits.stands.context l.fits.part in let e = l.fits.stands.number in omega (arith, s.0, e)

-- the pattern lies there, so the table has the first leaves
pub laid_down : (before after : List ℕ) (a p tree : Tree ℕ) (lies : Bool) → p ≡ a → Covers a tree → (lies ≡ true → IsLaid before after p tree) → (lies ≡ false → lay p tree ≡ []) → IsLaid before after a tree
laid_down before after a p tree true e c yes_ no_ = subst (λ t. IsLaid before after t tree) e (yes_ refl)
laid_down before after a p tree false e c yes_ no_ = absurd (let l : [] ≡ c.pattern_at ∷ [] = sym (no_ refl) ∙ ap (λ t. lay t tree) e ∙ c.laid in cc)
