-- The laws of places and small common multiples, proved.
use Rattle.std.proofs.Common.{◌≡◌, sym, ◌∙◌, ap, subst}
use Rattle.labelled_trees.specs.Labelled.{Fits}
use Rattle.shuffle_insertions.specs.ShuffleTrees.{IsShuffle}
use Rattle.shuffle_insertions.specs.Frames.{insert, IsFrame}
use Rattle.shuffle_insertions.specs.Slots.{fill_slot}
use Rattle.shuffle_insertions.proofs.Insertions.{fits_of_slot}
use Rattle.shuffle_insertions.proofs.Frames.{slot_of, frame_of, frame_of-is_frame, insert-frame_of}
use Rattle.shuffle_places.specs.Cuts.{numbers, start}
use Rattle.shuffle_places.specs.Places.{frame_at, IsPlace}
use Rattle.shuffle_places.specs.Laws.{PlaceSets, PlaceFrames, PlacesListed, MultiplesListed, MultiplesFit}
use Rattle.shuffle_places.proofs.Cuts.{one_cut, cut_of_connected}
use Rattle.shuffle_places.proofs.Places.{place_of_cut, cut_of_place}
use Rattle.shuffle_places.proofs.Frames.{slot_at, cut_of_slot, frame_at-slot}
use Rattle.shuffle_places.proofs.AllPlaces.{listed_place, place_listed, places_distinct}
use Rattle.shuffle_places.proofs.AllMultiples.{listed_multiple, multiple_listed, multiples_once}
use Rattle.shuffle_places.proofs.Fitting.{multiple_fits}

pub place_sets : PlaceSets
place_sets t set = record {
  place = λ c. let k = cut_of_connected t set c in (k.0, place_of_cut t set k.0 k.1);
  one_divisor = λ d e p r. sym p.divisor_is ∙ r.divisor_is;
  as_pattern = cut_of_place t set;
  of_pattern = place_of_cut t set;
  one_pattern = λ d e p r. one_cut t set record { context = p.context; pattern_at = p.pattern_at; is_node = p.is_node; host_is = p.host_is; set_is = p.set_is }
      record { context = r.context; pattern_at = r.pattern_at; is_node = r.is_node; host_is = r.host_is; set_is = r.set_is };
}

pub place_frames : PlaceFrames
place_frames = (
  λ n t set d h p.
      let s = slot_at n t h set d (cut_of_place t set d p) in
      let valid : IsShuffle n (fill_slot s.at d) = subst (IsShuffle n) (sym s.host_is) h in
      let e : frame_at set t ≡ frame_of s.arity s.at
      = ap (λ l. frame_at l t) s.set_is ∙ ap (frame_at (numbers s.at.parts (start 1 s.at.context) d)) (sym s.host_is) ∙ frame_at-slot s.arity s.at d s.valid s.rises s.is_node in (
        s.arity,
        s.valid,
        subst (IsFrame s.arity) (sym e) (frame_of-is_frame s.arity n s.at s.rises d s.valid valid),
        ap (λ f. insert f d) e ∙ insert-frame_of s.arity n s.at s.rises d s.valid valid d s.valid ∙ s.host_is,
        λ arity b. fits_of_slot arity s.at d (subst (Fits arity) (sym s.host_is) b),
      ),
  λ k n f d h hd node v.
      let s = slot_of k f h in (
        numbers s.slot.parts (start 1 s.slot.context) d,
        subst (λ t. IsPlace t (numbers s.slot.parts (start 1 s.slot.context) d) d) (sym (s.inserts d))
            (place_of_cut (fill_slot s.slot d) (numbers s.slot.parts (start 1 s.slot.context) d) d (cut_of_slot k s.slot d hd s.rises node)),
        ap (frame_at (numbers s.slot.parts (start 1 s.slot.context) d)) (s.inserts d) ∙ frame_at-slot k s.slot d hd s.rises node ∙ s.back,
      ),
)

pub places_listed : PlacesListed
places_listed a t n =
    (λ set. (λ m. place_of_cut t set a (listed_place a n t set m), λ p. place_listed a n t set (cut_of_place t set a p)), places_distinct a n 1 t)

pub multiples_listed : MultiplesListed
multiples_listed a b n na nb = (λ tree k l. (listed_multiple a b na nb n tree k l, multiple_listed a b na nb n tree k l), multiples_once a b na nb n)

pub multiples_fit : MultiplesFit
multiples_fit arity k l n a b tree first second ha hb m =
    record { fits = multiple_fits arity n a b tree first second m ha.fits hb.fits; shuffle = m.overlap.valid }
