-- Examples: places, divisors, frames and small common multiples over one binary label.
use Rattle.std.proofs.Common.{sym, subst, arith, inl, inr, ◌≡◌, ℕ, List, [], ◌∷◌, refl}
use native.Mathlib.Decide.{ℕ_discrete}
use Rattle.labelled_trees.specs.Trees.{Tree, leaf}
use Rattle.labelled_trees.specs.Equality.{same_leaf, same_node, same_more, tree_discrete_by, row_discrete_by, tree_discrete}
use Rattle.shuffle_insertions.specs.Frames.{insert}
use Rattle.shuffle_insertions.proofs.Examples.{l, t1, t2, comb, comb_valid, t1_valid, one_binary}
use Rattle.modular_sums.specs.Lists.{Mem}
use Rattle.labelled_trees.specs.Labelled.{Fits}
use Rattle.shuffle_insertions.specs.ShuffleTrees.{IsShuffle, IsShuffleTree}
use Rattle.shuffle_insertions.specs.Frames.{IsFrame}
use Rattle.shuffle_insertions.proofs.Examples.{valid_at}
use Rattle.shuffle_places.specs.Connected.{IsConnected}
use Rattle.shuffle_places.specs.Cuts.{IsCut}
use Rattle.shuffle_places.specs.Multiples.{IsMultiple}
use Rattle.shuffle_places.specs.Independent.{Commute}
use Rattle.shuffle_places.proofs.Laws.{place_sets, place_frames, places_listed, multiples_listed, multiples_fit}
use Rattle.shuffle_places.proofs.AllMultiples.{multiples_rise}
use Rattle.shuffle_places.proofs.Commuting.{insertions_commute}
use Rattle.shuffle_places.specs.Places.{IsPlace, divisor_at, frame_at}
use Rattle.shuffle_places.specs.AllPlaces.{places}
use Rattle.shuffle_places.specs.PlaceOrder.{IsInOrder, AreRising, ComesFirst}
use Rattle.shuffle_places.proofs.PlaceOrder.{places_in_order}
use Rattle.shuffle_places.specs.Overlays.{shape_discrete, one_unit}
use Rattle.shuffle_places.specs.AllMultiples.{multiples}

-- the left comb on 1, 4, 2, 3
abbrev pub other_comb : Tree ℕ
other_comb = l (l (l (leaf 1) (leaf 4)) (leaf 2)) (leaf 3)

abbrev pub top_two : List ℕ
top_two = 1 ∷ (2 ∷ [])

abbrev pub lower_two : List ℕ
lower_two = 2 ∷ (3 ∷ [])

places_in_comb : places t1 1 comb ≡ top_two ∷ (lower_two ∷ [])
unfolding ℕ_discrete tree_discrete tree_discrete_by row_discrete_by same_leaf same_node same_more
places_in_comb = refl

places_in_other : places t1 1 other_comb ≡ top_two ∷ []
unfolding ℕ_discrete tree_discrete tree_discrete_by row_discrete_by same_leaf same_node same_more
places_in_other = refl

divisor_below : divisor_at lower_two other_comb ≡ t2
unfolding ℕ_discrete
divisor_below = refl

divisor_above : divisor_at top_two other_comb ≡ t1
unfolding ℕ_discrete
divisor_above = refl

frame_below : frame_at lower_two comb ≡ record { hole = l (leaf 0) (leaf 4); inputs = leaf 1 ∷ (leaf 2 ∷ (leaf 3 ∷ [])) }
unfolding ℕ_discrete
frame_below = refl

insertion_below : insert (frame_at lower_two comb) t2 ≡ l (l (l (leaf 1) (leaf 3)) (leaf 2)) (leaf 4)
unfolding ℕ_discrete
insertion_below = refl

-- t1 has one small common multiple of arity 4 with itself
pub multiples_of_t1 : multiples t1 t1 4 ≡ (comb, top_two, lower_two) ∷ []
unfolding ℕ_discrete tree_discrete tree_discrete_by row_discrete_by same_leaf same_node same_more shape_discrete one_unit
multiples_of_t1 = refl

-- ---- the laws at these places

comb_places : (set : List ℕ) → Mem set (top_two ∷ (lower_two ∷ [])) → IsPlace comb set t1
comb_places set m = ((places_listed t1 comb tt).0 set).0 (subst (Mem set) (sym places_in_comb) m)

lower_place : IsPlace comb lower_two t1
lower_place = comb_places lower_two (inr (inl refl))

-- the two lower vertices are connected, and cut out one pattern
lower_connected : IsConnected comb lower_two
lower_connected = lower_place.connected

lower_cut : IsCut comb lower_two t1
lower_cut = (place_sets comb lower_two).as_pattern t1 lower_place

-- t1 inserted into the frame there gives the comb
lower_frame : (k : ℕ) × IsShuffle k t1 × IsFrame k (frame_at lower_two comb) × (insert (frame_at lower_two comb) t1 ≡ comb) × ((arity : ℕ → ℕ) → Fits arity comb → Fits arity t1)
lower_frame = place_frames.0 4 comb lower_two t1 comb_valid.shuffle lower_place

-- a small common multiple, which is over the label
pub comb_multiple : IsMultiple 4 t1 t1 comb top_two lower_two
comb_multiple = ((multiples_listed t1 t1 4 tt tt).0 comb top_two lower_two).0 (subst (Mem {X = Tree ℕ × List ℕ × List ℕ} (comb, top_two, lower_two)) (sym multiples_of_t1) (inl refl))

comb_fits : IsShuffleTree one_binary 4 comb
comb_fits = multiples_fit one_binary 3 3 4 t1 t1 comb top_two lower_two t1_valid t1_valid comb_multiple

-- ---- two places without a common vertex: the root and the lowest vertex of the comb

abbrev c2 : Tree ℕ
c2 = l (leaf 1) (leaf 2)

single_vertices : places c2 1 comb ≡ (1 ∷ []) ∷ ((2 ∷ []) ∷ ((3 ∷ []) ∷ []))
unfolding ℕ_discrete tree_discrete tree_discrete_by row_discrete_by same_leaf same_node same_more
single_vertices = refl

c2_valid : IsShuffleTree one_binary 2 c2
unfolding ℕ_discrete tree_discrete tree_discrete_by row_discrete_by same_leaf same_node same_more
c2_valid = valid_at 2 c2 refl

single : (set : List ℕ) → Mem set ((1 ∷ []) ∷ ((2 ∷ []) ∷ ((3 ∷ []) ∷ []))) → IsPlace comb set c2
single set m = ((places_listed c2 comb tt).0 set).0 (subst (Mem set) (sym single_vertices) m)

apart : (v : ℕ) → Mem v (1 ∷ []) → Mem v (3 ∷ []) → ⊥
apart v (inl e) (inl f) = omega (arith, e, f)
apart v (inl e) (inr n) = n
apart v (inr m) n = m

root_and_lowest : Commute 2 2 c2 c2 (frame_at (1 ∷ []) comb) (frame_at (3 ∷ []) comb)
root_and_lowest = insertions_commute 4 2 2 comb (1 ∷ []) (3 ∷ []) c2 c2 comb_valid.shuffle (single (1 ∷ []) (inl refl)) (single (3 ∷ []) (inr (inr (inl refl)))) apart
    c2_valid.shuffle c2_valid.shuffle

-- ---- lists in order

two_rise : AreRising (top_two ∷ (lower_two ∷ []))
two_rise = subst AreRising places_in_comb (places_in_order t1 comb tt)

-- t1 and the comb have two small common multiples in the comb
two_multiples : multiples t1 comb 4 ≡ (comb, top_two, 1 ∷ (2 ∷ (3 ∷ []))) ∷ ((comb, lower_two, 1 ∷ (2 ∷ (3 ∷ []))) ∷ [])
unfolding ℕ_discrete tree_discrete tree_discrete_by row_discrete_by same_leaf same_node same_more shape_discrete one_unit
two_multiples = refl

two_in_order : IsInOrder ComesFirst ((comb, top_two, 1 ∷ (2 ∷ (3 ∷ []))) ∷ ((comb, lower_two, 1 ∷ (2 ∷ (3 ∷ []))) ∷ []))
two_in_order = subst (IsInOrder ComesFirst) two_multiples (multiples_rise t1 comb tt tt 4)
