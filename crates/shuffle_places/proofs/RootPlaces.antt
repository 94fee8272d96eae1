-- Divisors at the root.
use Rattle.std.proofs.Common.{◌≡◌, ℕ, ◌<◌, ◌≤◌, List, refl, sym, ◌∙◌, ap, arith, subst}
use Rattle.modular_sums.specs.Lists.{Mem}
use Rattle.labelled_trees.specs.Trees.{Tree, graft, join, IsNode}
use Rattle.labelled_trees.specs.Contexts.{Ctx, hole, inside, fill}
use Rattle.labelled_trees.specs.Leaves.{occurs}
use Rattle.labelled_trees.specs.Insertions.{item, listed}
use Rattle.labelled_trees.proofs.Leaves.{at_leaf, by_leaf}
use Rattle.labelled_trees.proofs.GraftLeaves.{graft_ext, agree_graft}
use Rattle.labelled_trees.proofs.Insertions.{item-listed}
use Rattle.shuffle_insertions.specs.ShuffleTrees.{IsRising, IsShuffle}
use Rattle.shuffle_insertions.specs.Slots.{Slot, PartsRise}
use Rattle.shuffle_insertions.specs.Frames.{insert}
use Rattle.shuffle_insertions.proofs.Frames.{frame_of}
use Rattle.shuffle_insertions.proofs.Named.{parts_rise}
use Rattle.shuffle_places.specs.Cuts.{numbers, start, start_row}
use Rattle.shuffle_places.specs.Places.{frame_at, IsPlace}
use Rattle.shuffle_places.proofs.Covers.{root_mem}
use Rattle.shuffle_places.proofs.Frames.{cut_of_slot, frame_at-slot}
use Rattle.shuffle_places.proofs.Places.{place_of_cut, cut_of_place}
use Rattle.shuffle_places.proofs.PatternSets.{start_row_from}
use Rattle.shuffle_places.proofs.RankedParts.{Ranked, ranked}
use Rattle.shuffle_places.proofs.Sizes.{one_size}
use Rattle.shuffle_places.proofs.Vertices.{numbers_in}
use Rattle.shuffle_places.specs.RootPlaces.{IsShuffleAmong, DividesRoot}

-- each number of a shuffle tree stands in it
stands : (k : ℕ) (d : Tree ℕ) → IsShuffle k d → (i : ℕ) → 0 < i → i ≤ k → 0 < occurs i d
stands k d hd i p le = let e : occurs i d ≡ 1 = hd.each i p le in omega (arith, e)

module _ (k : ℕ) (host d : Tree ℕ) (rising : IsRising host) (hd : IsShuffle k d) (is_node : IsNode d) (parts : ℕ → Tree ℕ) (h : DividesRoot k d host parts) where
  abbrev at_root : Slot
  at_root = record { context = hole; parts = parts }

  rises : PartsRise k parts
  rises = record {
    each = λ i p le. at_leaf d (λ j. IsRising (parts j)) i (parts_rise d parts (subst IsRising (sym h.whole) rising)) (stands k d hd i p le);
    order = h.order;
  }

  abbrev root_set : List ℕ
  root_set = numbers parts 1 d

  pub root_place : IsPlace host (numbers parts 1 d) d
  root_place = subst (λ t. IsPlace t (numbers parts 1 d) d) h.whole (place_of_cut (graft d parts) (numbers parts 1 d) d (cut_of_slot k at_root d hd rises is_node))

  pub root_in : Mem 1 (numbers parts 1 d)
  root_in = root_mem parts 1 d is_node

  pub root_insert : (y : Tree ℕ) → IsShuffle k y → insert (frame_at (numbers parts 1 d) host) y ≡ graft y parts
  unfolding frame_of
  root_insert y hy =
      ap (λ t. insert (frame_at (numbers parts 1 d) t) y) (sym h.whole)
      ∙ ap (λ f. insert f y) (frame_at-slot k at_root d hd rises is_node)
      ∙ graft_ext y (item (listed parts 0 k)) parts (by_leaf y (λ i. item (listed parts 0 k) i ≡ parts i) (λ i o. let r = hy.only i o in item-listed parts k i r.0 r.1))

-- the context of a place to which the root belongs
at_top : (c : Ctx ℕ) (p : Tree (Tree ℕ)) → Mem 1 (numbers (λ v. v) (start 1 c) p) → c ≡ hole
at_top hole p m = refl
at_top (inside l c) p m = let a = numbers_in (λ v. v) (start_row 2 c) p 1 m in let b = start_row_from 2 c in absurd (omega (arith, a.0, b))

pub root_parts : (n k : ℕ) (host d : Tree ℕ) → IsShuffleAmong n host → IsShuffle k d → (set : List ℕ) → IsPlace host set d → Mem 1 set → (parts : ℕ → Tree ℕ) × DividesRoot k d host parts
root_parts n k host d h hd set place m =
    let p = cut_of_place host set d place in
    let top = at_top p.context p.pattern_at (subst (Mem 1) p.set_is m) in
    let is : host ≡ join p.pattern_at = p.host_is ∙ ap (λ c. fill c (join p.pattern_at)) top in
    let r : Ranked n p.pattern_at = ranked n p.pattern_at (subst IsRising is h.rising) (λ i. subst (λ x. occurs i x ≤ 1) is (h.once i)) (λ i o. h.only i (subst (λ x. 0 < occurs i x) (sym is) o)) in
    let size : r.size ≡ k = one_size r.size k d (subst (IsShuffle r.size) (sym p.divisor_is) r.valid) hd in (
      r.hung,
      record {
        whole = ap (λ x. graft x r.hung) p.divisor_is ∙ r.whole ∙ sym is;
        order = λ i j q lt le. r.rises.order i j q lt (omega (arith, le, size));
      },
    )

-- the parts are determined
pub one_parts : (k : ℕ) (host d : Tree ℕ) → IsShuffle k d → (parts others : ℕ → Tree ℕ) → graft d parts ≡ host → graft d others ≡ host → (i : ℕ) → 0 < i → i ≤ k → parts i ≡ others i
one_parts k host d hd parts others e f i p le = at_leaf d (λ j. parts j ≡ others j) i (agree_graft d parts others (e ∙ sym f)) (stands k d hd i p le)
