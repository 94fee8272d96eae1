-- Places are listed in their order, and so are the multiples of each tree.
use Rattle.std.proofs.Common.{◌≡◌, ℕ, ◌<◌, List, [], ◌∷◌, refl, sym, ap, ◌∙◌, subst, inl, inr, ⊎_elim}
use mathlib.Core.List.{◌++◌}
use Rattle.std.specs.declared.cmp.Ordering.{Ordering}
use Rattle.std.specs.declared.cmp.Ordering.TheVariants.{Equal}
use Rattle.std.specs.Ordering.{nat_cmp, ordering_then}
use Rattle.std.specs.Cmp.Lexicographic.{slice_cmp}
use Rattle.std.proofs.lemmas.Cmp.{nat_list_cmp_total, tied_itself}
use Rattle.modular_sums.specs.Lists.{Mem, Distinct, Rises}
use Rattle.modular_sums.proofs.Lists.{mem_either, mem_of_flat}
use Rattle.shuffle_insertions.proofs.Comparing.{less_nat}
use Rattle.shuffle_places.specs.AllPlaces.{places}
use Rattle.shuffle_places.specs.AllMultiples.{joined}
use Rattle.shuffle_places.specs.PlaceOrder.{IsInOrder, Precedes, AreRising, PlacesRise}
use Rattle.shuffle_places.proofs.AllPlaces.{head_of, tops, among_tops, places_rise, listed_place}
use Rattle.shuffle_places.proofs.Places.{place_of_cut}

-- ---- lists in order

pub in_order-append : {X : Type 0} (R : X → X → Type 0) (k l : List X) → IsInOrder R k → IsInOrder R l → ((x y : X) → Mem x k → Mem y l → R x y) → IsInOrder R (k ++ l)
in_order-append R [] l a b h = b
in_order-append R (x ∷ k) l a b h = (
  λ y m. ⊎_elim (λ i. a.0 y i) (λ i. h x y (inl refl) i) (mem_either y k l m),
  in_order-append R k l a.1 b (λ y z i j. h y z (inr i) j),
)

-- what items give, joined, where the items are in order
pub in_order-joined : {X Y : Type 0} (R : Y → Y → Type 0) (S : X → X → Type 0) (l : List X) (f : X → List Y) → IsInOrder S l → ((x : X) → Mem x l → IsInOrder R (f x))
    → ((x z : X) (y w : Y) → S x z → Mem y (f x) → Mem w (f z) → R y w) → IsInOrder R (joined l f)
in_order-joined R S [] f o e h = tt
in_order-joined R S (x ∷ l) f o e h = in_order-append R (f x) (joined l f) (e x (inl refl)) (in_order-joined R S l f o.1 (λ z m. e z (inr m)) h)
    (λ y w m k. let r = mem_of_flat f w l k in h x r.0 y w (o.0 r.0 r.1) m r.2)

pub distinct_in_order : {X : Type 0} (l : List X) → Distinct l → IsInOrder (λ x y. x ≡ y → ⊥) l
distinct_in_order [] h = tt
distinct_in_order (x ∷ l) h = (λ y m e. h.0 (subst (λ z. Mem z l) (sym e) m), distinct_in_order l h.1)

-- where nothing comes before itself, nothing stands twice
pub in_order_distinct : {X : Type 0} (R : X → X → Type 0) → ((x : X) → R x x → ⊥) → (l : List X) → IsInOrder R l → Distinct l
in_order_distinct R f [] h = tt
in_order_distinct R f (x ∷ l) h = (λ m. f x (h.0 x m), in_order_distinct R f l h.1)

pub not_before_itself : (v : List ℕ) → Precedes v v → ⊥
not_before_itself v h = let e : slice_cmp nat_cmp v v ≡ Equal = tied_itself nat_list_cmp_total v in cc (h, e)

-- ---- places

abbrev HasTop : List ℕ → Type 0
HasTop s = (v : ℕ) × (l : List ℕ) × (s ≡ v ∷ l)

less_tops : (s u : List ℕ) → HasTop s → HasTop u → head_of s < head_of u → Precedes s u
unfolding head_of
less_tops s u (v, l, e) (w, m, f) lt =
    let top : v < w = subst (λ x. v < head_of x) f (subst (λ x. head_of x < head_of u) e lt) in
    ap (λ x. slice_cmp nat_cmp x u) e ∙ ap (slice_cmp nat_cmp (v ∷ l)) f ∙ ap (λ (o : Ordering). ordering_then o (slice_cmp nat_cmp l m)) (less_nat v w top)

rising_by_tops : (l : List (List ℕ)) → ((s : List ℕ) → Mem s l → HasTop s) → Rises (tops l) → AreRising l
unfolding tops
rising_by_tops [] h r = tt
rising_by_tops (s ∷ l) h r = (λ u m. less_tops s u (h s (inl refl)) (h u (inr m)) (r.0 (head_of u) (among_tops u l m)), rising_by_tops l (λ u m. h u (inr m)) r.1)

pub places_in_order : PlacesRise
places_in_order a t n = rising_by_tops (places a 1 t) (λ s m. let c = (place_of_cut t s a (listed_place a n t s m)).connected in (c.top, c.rest, c.is)) (places_rise a n 1 t).0
