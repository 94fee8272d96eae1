-- Two insertions at places without a common vertex commute.
use Rattle.std.proofs.Common.{◌≡◌, ℕ, List, sym, ◌∙◌, ap, subst, inl, inr, ◌⊎◌}
use mathlib.Core.Path.{ap₂}
use Rattle.modular_sums.specs.Lists.{Mem}
use Rattle.labelled_trees.specs.Trees.{Tree, leaf, graft, IsNode}
use Rattle.labelled_trees.specs.Contexts.{hole, fill, compose, graft_ctx}
use Rattle.labelled_trees.proofs.Contexts.{compose-hole}
use Rattle.labelled_trees.proofs.Meetings.{Above, Apart, meeting}
use Rattle.labelled_trees.proofs.Unions.{Within, within}
use Rattle.shuffle_insertions.specs.ShuffleTrees.{IsShuffle}
use Rattle.shuffle_insertions.specs.Slots.{fill_slot}
use Rattle.shuffle_insertions.proofs.Insertions.{fill_slot-valid}
use Rattle.shuffle_insertions.proofs.Frames.{frame_of, frame_of-is_frame, insert-frame_of}
use Rattle.shuffle_places.specs.Cuts.{numbers, start}
use Rattle.shuffle_places.specs.Places.{frame_at}
use Rattle.shuffle_places.specs.Independent.{Commute}
use Rattle.shuffle_places.specs.Laws.{InsertionsCommute}
use Rattle.shuffle_places.proofs.Places.{cut_of_place}
use Rattle.shuffle_places.proofs.Frames.{SlotAt, slot_at, frame_at-slot}
use Rattle.shuffle_places.proofs.Sizes.{one_size}
use Rattle.shuffle_places.proofs.Covers.{numbers_fill, root_mem}
use Rattle.shuffle_places.proofs.Independent.{Laid, Separate, branches, nested}

-- the vertices at which a tree lies
abbrev set_of : Laid → List ℕ
set_of i = numbers i.at.parts (start 1 i.at.context) i.tree

-- the tree that it lies in
abbrev host_of : Laid → Tree ℕ
host_of i = fill_slot i.at i.tree

Misses : Laid → Laid → Type 0
Misses i j = (v : ℕ) → Mem v (set_of i) → Mem v (set_of j) → ⊥

-- the two places the other way round
turned : (i j : Laid) → Separate j i → Separate i j
turned i j s = record {
  both = λ x y. s.both y x;
  first_at = s.second_at;
  second_at = s.first_at;
  first_rise = s.second_rise;
  second_rise = s.first_rise;
  first_is = λ x y hx hy. s.second_is y x hy hx;
  second_is = λ x y hx hy. s.first_is y x hy hx;
  at_second_lead = s.at_first_lead;
  at_first_lead = s.at_second_lead;
}

-- the second place lies at or below the first
below_first : (i j : Laid) → IsNode j.tree → Misses i j → Above ℕ i.at.context j.at.context (graft i.tree i.at.parts) (graft j.tree j.at.parts) → Separate i j
unfolding Misses
below_first i j node miss a = go (within i.at.parts i.tree a.rest (graft j.tree j.at.parts) a.inner)
  where
    decide : (w : Within ℕ ℕ i.at.parts i.tree a.rest (graft j.tree j.at.parts)) → ((w.rest ≡ hole) × IsNode w.part) ⊎ ((x : ℕ) × (w.part ≡ leaf x)) → Separate i j
    decide w (inl h) = absurd (
        let at : j.at.context ≡ compose i.at.context (graft_ctx w.front i.at.parts)
        = a.is ∙ ap (compose i.at.context) (w.hole_is ∙ ap (compose (graft_ctx w.front i.at.parts)) h.0 ∙ compose-hole (graft_ctx w.front i.at.parts)) in
        let top : ℕ = start (start 1 i.at.context) (graft_ctx w.front i.at.parts) in
        let same : start 1 j.at.context ≡ top = ap (start 1) at ∙ Rattle.shuffle_places.proofs.PatternSets.start-compose 1 i.at.context (graft_ctx w.front i.at.parts) in
        miss top
        (subst (λ x. Mem top (numbers i.at.parts (start 1 i.at.context) x)) (sym w.is) (numbers_fill i.at.parts (start 1 i.at.context) w.front w.part top (root_mem i.at.parts top w.part h.1)))
        (subst (λ k. Mem k (numbers j.at.parts (start 1 j.at.context) j.tree)) same (root_mem j.at.parts (start 1 j.at.context) j.tree node)))
    decide w (inr h) = nested i j w.front w.rest h.0 (w.is ∙ ap (fill w.front) h.1)
        (a.is ∙ ap (compose i.at.context) w.hole_is) (ap (λ x. graft x i.at.parts) (sym h.1) ∙ w.inner)

    go : Within ℕ ℕ i.at.parts i.tree a.rest (graft j.tree j.at.parts) → Separate i j
    go w = decide w w.either

separate : (i j : Laid) → IsNode i.tree → IsNode j.tree → host_of i ≡ host_of j → Misses i j → Separate i j
unfolding Misses
separate i j ni nj one miss = go (meeting i.at.context j.at.context (graft i.tree i.at.parts) (graft j.tree j.at.parts) one)
  where
    go : Above ℕ i.at.context j.at.context (graft i.tree i.at.parts) (graft j.tree j.at.parts)
        ⊎ (Above ℕ j.at.context i.at.context (graft j.tree j.at.parts) (graft i.tree i.at.parts)
        ⊎ Apart ℕ i.at.context j.at.context (graft i.tree i.at.parts) (graft j.tree j.at.parts)) → Separate i j
    go (inl a) = below_first i j nj miss a
    go (inr (inl a)) = turned i j (below_first j i ni (λ v m n. miss v n m) a)
    go (inr (inr a)) = branches i j a

module _ (n : ℕ) (i j : Laid) (one : host_of i ≡ host_of j) (valid : IsShuffle n (host_of i)) (s : Separate i j) where
  first_valid : (y : Tree ℕ) → IsShuffle j.size y → IsShuffle n (fill_slot (s.first_at y) i.tree)
  first_valid y h = subst (IsShuffle n) (sym (s.first_is i.tree y i.valid h ∙ s.at_first_lead y h))
      (fill_slot-valid j.size n j.at j.tree y j.rises j.valid h (subst (IsShuffle n) one valid))

  second_valid : (x : Tree ℕ) → IsShuffle i.size x → IsShuffle n (fill_slot (s.second_at x) j.tree)
  second_valid x h = subst (IsShuffle n) (sym (s.second_is x j.tree h j.valid ∙ s.at_second_lead x h))
      (fill_slot-valid i.size n i.at i.tree x i.rises i.valid h valid)

  commute : Commute i.size j.size i.tree j.tree (frame_of i.size i.at) (frame_of j.size j.at)
  commute = record {
    both = s.both;
    first_frame = λ y h. (
      frame_of i.size (s.first_at y),
      frame_of-is_frame i.size n (s.first_at y) (s.first_rise y h) i.tree i.valid (first_valid y h),
      λ x hx. insert-frame_of i.size n (s.first_at y) (s.first_rise y h) i.tree i.valid (first_valid y h) x hx ∙ s.first_is x y hx h,
    );
    second_frame = λ x h. (
      frame_of j.size (s.second_at x),
      frame_of-is_frame j.size n (s.second_at x) (s.second_rise x h) j.tree j.valid (second_valid x h),
      λ y hy. insert-frame_of j.size n (s.second_at x) (s.second_rise x h) j.tree j.valid (second_valid x h) y hy ∙ s.second_is x y h hy,
    );
    first_alone = λ x h. insert-frame_of i.size n i.at i.rises i.tree i.valid valid x h ∙ sym (s.at_second_lead x h);
    second_alone = λ y h. insert-frame_of j.size n j.at j.rises j.tree j.valid (subst (IsShuffle n) one valid) y h ∙ sym (s.at_first_lead y h);
  }

laid_at : (n : ℕ) (t : Tree ℕ) (set : List ℕ) (d : Tree ℕ) (s : SlotAt t set d) → Laid
laid_at n t set d s = record { size = s.arity; tree = d; at = s.at; valid = s.valid; rises = s.rises }

-- the frame at the place is that of the slot
frame_there : (t : Tree ℕ) (set : List ℕ) (d : Tree ℕ) (s : SlotAt t set d) → frame_of s.arity s.at ≡ frame_at set t
frame_there t set d s = sym (ap₂ frame_at s.set_is (sym s.host_is) ∙ frame_at-slot s.arity s.at d s.valid s.rises s.is_node)

pub insertions_commute : InsertionsCommute
unfolding Misses laid_at
insertions_commute n k l t first second d e h p r miss hd he =
    let a = slot_at n t h first d (cut_of_place t first d p) in
    let b = slot_at n t h second e (cut_of_place t second e r) in
    let i = laid_at n t first d a in
    let j = laid_at n t second e b in
    let one : fill_slot a.at d ≡ fill_slot b.at e = a.host_is ∙ sym b.host_is in
    let s = separate i j a.is_node b.is_node one (λ v u w. miss v (subst (Mem v) (sym a.set_is) u) (subst (Mem v) (sym b.set_is) w)) in
    subst (λ f. Commute k l d e f (frame_at second t)) (frame_there t first d a)
    (subst (Commute k l d e (frame_of a.arity a.at)) (frame_there t second e b)
    (subst (λ m. Commute m l d e (frame_of a.arity a.at) (frame_of b.arity b.at)) (one_size a.arity k d a.valid hd)
    (subst (λ m. Commute a.arity m d e (frame_of a.arity a.at) (frame_of b.arity b.at)) (one_size b.arity l e b.valid he)
    (commute n i j one (subst (IsShuffle n) (sym a.host_is) h) s))))
