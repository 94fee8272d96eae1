-- The terms of an insertion: its tree, with coefficient 1, and smaller shuffle trees.
use Rattle.std.proofs.Common.{◌≡◌, ℕ, List, ◌∷◌, sym, ◌∙◌, ap, subst}
use Rattle.modular_sums.specs.Sums.{moved, AllTerms}
use Rattle.modular_sums.proofs.Sums.{AllTerms-moved}
use Rattle.modular_sums.proofs.Images.{AllTerms-imp}
use Rattle.modular_sums.proofs.Laws.{span_law}
use Rattle.modular_sums.specs.Laws.{SpanLaw}
use Rattle.labelled_trees.specs.Trees.{Tree}
use Rattle.labelled_trees.specs.Equality.{tree_discrete}
use Rattle.shuffle_insertions.specs.ShuffleTrees.{IsShuffleTree}
use Rattle.shuffle_insertions.specs.Frames.{Frame, insert, IsFrame}
use Rattle.shuffle_insertions.specs.Orders.{IsTreeOrder}
use Rattle.shuffle_insertions.proofs.Laws.{keeps}
use Rattle.shuffle_places.specs.Places.{frame_at}
use Rattle.shuffle_places.proofs.Laws.{place_frames}
use Rattle.shuffle_places.proofs.Sizes.{one_size}
use Rattle.shuffle_bases.specs.Elements.{Setting, IsLess, IsMonic, AreMonic, Insertion, value_of}

-- the laws of the span of insertions
abbrev pub span : (s : Setting) (n : ℕ) → SpanLaw (Tree ℕ) (Insertion s n) tree_discrete value_of s.q
span s n = span_law (Tree ℕ) (Insertion s n) tree_discrete value_of s.q

-- the frame of an insertion
abbrev pub frame_of : {s : Setting} {n : ℕ} → Insertion s n → Frame
frame_of i = frame_at i.set i.tree

-- the terms of an insertion but the first
abbrev pub rest_of : {s : Setting} {n : ℕ} → Insertion s n → List (ℕ × Tree ℕ)
rest_of i = moved (insert (frame_of i)) i.of.tail

module _ (s : Setting) (order : IsTreeOrder s.arity s.compare) (monic : AreMonic s) (n : ℕ) where
  element_monic : (i : Insertion s n) → IsMonic s i.of
  element_monic i = monic.each i.of i.member

  frame_fits : (i : Insertion s n) → IsFrame i.of.arity (frame_of i)
  frame_fits i =
      let p = place_frames.0 n i.tree i.set i.of.lead i.valid.shuffle i.place in
      subst (λ k. IsFrame k (frame_of i)) (one_size p.0 i.of.arity i.of.lead p.1 (element_monic i).lead_valid.shuffle) p.2

  lead_gives : (i : Insertion s n) → insert (frame_of i) i.of.lead ≡ i.tree
  lead_gives i = (place_frames.0 n i.tree i.set i.of.lead i.valid.shuffle i.place).3

  pub value_is : (i : Insertion s n) → value_of i ≡ (1, i.tree) ∷ rest_of i
  value_is i = ap (λ t. (1, t) ∷ rest_of i) (lead_gives i)

  -- a shuffle tree over the labels that is less than an insertion's
  abbrev pub IsLower : Insertion s n → Tree ℕ → Type 0
  IsLower i x = IsShuffleTree s.arity n x × IsLess s x i.tree

  term_lower : (i : Insertion s n) (x : Tree ℕ) → IsShuffleTree s.arity i.of.arity x × IsLess s x i.of.lead → IsLower i (insert (frame_of i) x)
  term_lower i x h =
      let lead = (element_monic i).lead_valid in
      let valid : IsShuffleTree s.arity n (insert (frame_of i) x)
      = (keeps i.of.arity n (frame_of i) i.of.lead x (frame_fits i)).1 s.arity lead h.0 (subst (IsShuffleTree s.arity n) (sym (lead_gives i)) i.valid) in (
        valid,
        subst (IsLess s (insert (frame_of i) x)) (lead_gives i)
            (order.kept i.of.arity n (frame_of i) x i.of.lead (frame_fits i) h.0.shuffle lead.shuffle valid.shuffle ∙ h.1),
      )

  pub rest_lower : (i : Insertion s n) → AllTerms (rest_of i) (IsLower i)
  rest_lower i = AllTerms-moved (insert (frame_of i)) i.of.tail (IsLower i)
      (AllTerms-imp (λ x. IsShuffleTree s.arity i.of.arity x × IsLess s x i.of.lead) (λ x. IsLower i (insert (frame_of i) x)) i.of.tail (term_lower i) (element_monic i).tail_valid)

  pub rest_valid : (i : Insertion s n) → AllTerms (rest_of i) (IsShuffleTree s.arity n)
  rest_valid i = AllTerms-imp (IsLower i) (IsShuffleTree s.arity n) (rest_of i) (λ x h. h.0) (rest_lower i)

  pub value_valid : (i : Insertion s n) → AllTerms (value_of i) (IsShuffleTree s.arity n)
  value_valid i = subst (λ e. AllTerms e (IsShuffleTree s.arity n)) (sym (value_is i)) (i.valid, rest_valid i)
