-- The shuffle form of an instance of a symmetry rule is zero.
use Rattle.std.proofs.Common.{◌≡◌, ⊎_elim, ℕ, zero, suc, ◌+◌, ◌*◌, ◌^◌, ◌%◌, List, [], ◌∷◌, map, length, refl, sym, ◌∙◌, ap, arith, subst}
use mathlib.Core.Path.{ap₂}
use Rattle.std.proofs.lemmas.Nat.{pow-add}
use Rattle.modular_sums.specs.Residues.{IsCongruent}
use Rattle.modular_sums.specs.Sums.{Same}
use Rattle.modular_sums.proofs.Residues.{congruent_add, congruent_mul}
use Rattle.labelled_trees.specs.Trees.{Tree, Row, node, none, more, row, graft_row}
use Rattle.labelled_trees.specs.Contexts.{Ctx, fill}
use Rattle.labelled_trees.specs.Equality.{tree_discrete}
use Rattle.labelled_trees.specs.Labelled.{Fits, IsLabelled}
use Rattle.labelled_trees.proofs.ContextLeaves.{once_inside}
use Rattle.labelled_trees.proofs.Fitting.{fits_of_fill}
use Rattle.shuffle_insertions.specs.ShuffleTrees.{least}
use Rattle.operad_ideals.specs.Parts.{Sign, plus, minus, times, InOnePart}
use Rattle.operad_ideals.specs.Sorting.{sort_by, parts_sign}
use Rattle.operad_ideals.specs.Presentations.{Presentation, residue_of, parts, arity_of}
use Rattle.operad_ideals.specs.Rules.{numbered, exchanged_at}
use Rattle.operad_ideals.proofs.Residues.{residue-times, residue_gone}
use Rattle.operad_ideals.proofs.Signs.{times_assoc}
use Rattle.modular_sums.proofs.Links.{two_gone}
use Rattle.operad_ideals.proofs.ArityOne.{part_below}
use Rattle.operad_ideals.proofs.Exchanged.{graft_row-exchanged}
use Rattle.operad_ideals.proofs.SortedLists.{exchange, exchange-map, sort_by-exchange, below, below_less, below_more, tested}
use Rattle.operad_ideals.proofs.SortedParts.{sort_parts-exchange, parts_sign-exchange}
use Rattle.shuffle_transfer.specs.Orderings.{IsOrdering}
use Rattle.shuffle_transfer.specs.ShuffleForms.{ranks, form, form_row}
use Rattle.shuffle_transfer.specs.Labels.{letters, place_of, label, shuffle_form}
use Rattle.shuffle_transfer.proofs.Ranks.{map_same, ordering_apart}
use Rattle.shuffle_transfer.proofs.FormGrafts.{turns, turns_row}
use Rattle.shuffle_transfer.proofs.FormContexts.{FormCtx, form_ctx}
use Rattle.shuffle_transfer.proofs.Forms.{forms_apart, forms_ordering}
use Rattle.shuffle_transfer.proofs.Signs.{twist, turn_of, residue-count}
use Rattle.shuffle_transfer.proofs.Turned.{turns_of, turned}

-- ---- ranks and forms of exchanged inputs

below-exchange : (k i : ℕ) (ks : List ℕ) → below k (exchange i ks) ≡ below k ks
below-exchange k zero [] = refl
below-exchange k zero (a ∷ []) = refl
below-exchange k zero (a ∷ (b ∷ ks)) = ⊎_elim
    (λ l. ⊎_elim
    (λ m. below_less k b (a ∷ ks) m ∙ ap suc (below_less k a ks l) ∙ sym (below_less k a (b ∷ ks) l ∙ ap suc (below_less k b ks m)))
    (λ m. below_more k b (a ∷ ks) m ∙ below_less k a ks l ∙ sym (below_less k a (b ∷ ks) l ∙ ap suc (below_more k b ks m))) (tested b k))
    (λ l. ⊎_elim
    (λ m. below_less k b (a ∷ ks) m ∙ ap suc (below_more k a ks l) ∙ sym (below_more k a (b ∷ ks) l ∙ below_less k b ks m))
    (λ m. below_more k b (a ∷ ks) m ∙ below_more k a ks l ∙ sym (below_more k a (b ∷ ks) l ∙ below_more k b ks m)) (tested b k))
    (tested a k)
below-exchange k (suc i) [] = refl
below-exchange k (suc i) (a ∷ ks) = ⊎_elim
    (λ l. below_less k a (exchange i ks) l ∙ ap suc (below-exchange k i ks) ∙ sym (below_less k a ks l))
    (λ l. below_more k a (exchange i ks) l ∙ below-exchange k i ks ∙ sym (below_more k a ks l)) (tested a k)

ranks-exchange : (i : ℕ) (ks : List ℕ) → ranks (exchange i ks) ≡ exchange i (ranks ks)
ranks-exchange i ks =
    map_same (λ k. suc (below k (exchange i ks))) (λ k. suc (below k ks)) (exchange i ks) (λ k m. ap suc (below-exchange k i ks))
    ∙ exchange-map (λ k. suc (below k ks)) i ks

form_row-exchanged : (label : ℕ → List ℕ → ℕ) (i : ℕ) (r : Row ℕ) → form_row label (exchanged_at i r) ≡ exchange i (form_row label r)
form_row-exchanged label zero none = refl
form_row-exchanged label zero (more t none) = refl
form_row-exchanged label zero (more t (more u r)) = refl
form_row-exchanged label (suc i) none = refl
form_row-exchanged label (suc i) (more t r) = ap (λ ts. form label t ∷ ts) (form_row-exchanged label i r)

turns_row-exchanged : (label twist : ℕ → List ℕ → ℕ) (i : ℕ) (r : Row ℕ) → turns_row label twist (exchanged_at i r) ≡ turns_row label twist r
turns_row-exchanged label twist zero none = refl
turns_row-exchanged label twist zero (more t none) = refl
turns_row-exchanged label twist zero (more t (more u r)) = omega arith
turns_row-exchanged label twist (suc i) none = refl
turns_row-exchanged label twist (suc i) (more t r) = ap (λ k. turns label twist t + k) (turns_row-exchanged label twist i r)

-- ---- the signs cancel

residue-turn : (q : ℕ) (s : Sign) → IsCongruent q (q ^ turn_of s) (residue_of q s)
residue-turn q plus = residue-count q 0
residue-turn q minus = residue-count q 1

signs_cancel : (q : ℕ) (s t u : Sign) → t ≡ times s u → IsCongruent q (q ^ turn_of t + residue_of q (times minus s) * q ^ turn_of u) 0
signs_cancel q s t u e =
    let a : IsCongruent q (residue_of q (times minus s) * q ^ turn_of u) (residue_of q (times minus s) * residue_of q u) = congruent_mul q (residue_of q (times minus s)) (residue_of q (times minus s)) (q ^ turn_of u) (residue_of q u) refl (residue-turn q u) in
    let b : IsCongruent q (residue_of q (times minus s) * q ^ turn_of u) (residue_of q (times minus t)) = a ∙ residue-times q (times minus s) u ∙ ap (λ r. residue_of q r % suc q) (times_assoc minus s u ∙ ap (times minus) (sym e)) in
    congruent_add q (q ^ turn_of t) (residue_of q t) (residue_of q (times minus s) * q ^ turn_of u) (residue_of q (times minus t)) (residue-turn q t) b ∙ residue_gone q t

module _ (p : Presentation) (n : ℕ) where
  -- with the turns of the context and of the inputs
  signs : (c r : ℕ) (s t u : Sign) → t ≡ times s u → IsCongruent p.q (1 * p.q ^ (c + (turn_of t + r)) + residue_of p.q (times minus s) * p.q ^ (c + (turn_of u + r))) 0
  signs c r s t u e =
      let k : IsCongruent p.q (p.q ^ c * p.q ^ r * (p.q ^ turn_of t + residue_of p.q (times minus s) * p.q ^ turn_of u)) (p.q ^ c * p.q ^ r * 0) = congruent_mul p.q (p.q ^ c * p.q ^ r) (p.q ^ c * p.q ^ r) _ _ refl (signs_cancel p.q s t u e) in
      let l : 1 * (p.q ^ c * (p.q ^ turn_of t * p.q ^ r)) + residue_of p.q (times minus s) * (p.q ^ c * (p.q ^ turn_of u * p.q ^ r))
      ≡ p.q ^ c * p.q ^ r * (p.q ^ turn_of t + residue_of p.q (times minus s) * p.q ^ turn_of u) = omega arith in
      let z : p.q ^ c * p.q ^ r * 0 ≡ 0 = omega arith in
      rw (pow-add p.q c (turn_of t + r), pow-add p.q (turn_of t) r, pow-add p.q c (turn_of u + r), pow-add p.q (turn_of u) r, l) (rw z at k)

  vanish : (c : Ctx ℕ) (g i : ℕ) (s : Sign) (r : Row ℕ) → InOnePart (parts p g) i s → IsLabelled (arity_of p) n (fill c (node g r))
      → Same tree_discrete p.q (turned p ((1, fill c (node g r)) ∷ ((residue_of p.q (times minus s), fill c (node g (exchanged_at i r))) ∷ []))) []
  vanish c g i s r h l =
      two_gone tree_discrete p.q (1 * p.q ^ turns_of p (fill c (node g r))) (residue_of p.q (times minus s) * p.q ^ turns_of p (fill c (node g (exchanged_at i r))))
      (shuffle_form p.generators (fill c (node g r))) (shuffle_form p.generators (fill c (node g (exchanged_at i r))))
      (k.form_is (node g r) refl ∙ ap (fill k.context) (sym one_form) ∙ sym (k.form_is (node g (exchanged_at i r)) low))
      (rw (turns_first, turns_second) (signs k.count (turns_row (label p.generators) (twist (parts p) (label p.generators)) r) s (parts_sign (parts p g) w) (parts_sign (parts p g) (exchange i w)) sign_is))
    where
      xs : List (Tree ℕ)
      xs = form_row (label p.generators) r

      w : List ℕ
      w = ranks (map least (form_row (label p.generators) r))

      f : Fits (arity_of p) (node g r)
      f = fits_of_fill (arity_of p) c (node g r) l.fits

      o : IsOrdering (arity_of p g) (ranks (map least (form_row (label p.generators) r)))
      o = forms_ordering (label p.generators) (arity_of p) r (arity_of p g) (fits_of_fill (arity_of p) c (node g r) l.fits).1 (fits_of_fill (arity_of p) c (node g r) l.fits).2 (once_inside (arity_of p) n c (node g r) l)

      words : ranks (map least (form_row (label p.generators) (exchanged_at i r))) ≡ exchange i (ranks (map least (form_row (label p.generators) r)))
      words = ap (λ ts. ranks (map least ts)) (form_row-exchanged (label p.generators) i r) ∙ ap ranks (exchange-map least i (form_row (label p.generators) r)) ∙ ranks-exchange i (map least (form_row (label p.generators) r))

      sorted : sort_by least (form_row (label p.generators) (exchanged_at i r)) ≡ sort_by least (form_row (label p.generators) r)
      sorted = ap (sort_by least) (form_row-exchanged (label p.generators) i r)
          ∙ sort_by-exchange least i (form_row (label p.generators) r) (forms_apart (label p.generators) (arity_of p) r (fits_of_fill (arity_of p) c (node g r) l.fits).2 (once_inside (arity_of p) n c (node g r) l))

      one_label : label p.generators g (exchange i (ranks (map least (form_row (label p.generators) r)))) ≡ label p.generators g (ranks (map least (form_row (label p.generators) r)))
      one_label = ap (λ v. place_of (record { gen = g; word = v }) (letters 0 p.generators)) (sort_parts-exchange (λ m. m) (parts p g) i s (ranks (map least (form_row (label p.generators) r))) h (ordering_apart (ranks (map least (form_row (label p.generators) r))) o.distinct))

      one_form : shuffle_form p.generators (node g (exchanged_at i r)) ≡ shuffle_form p.generators (node g r)
      one_form = ap₂ (λ v ts. node (label p.generators g v) (row ts)) words sorted ∙ ap (λ m. node m (row (sort_by least (form_row (label p.generators) r)))) one_label

      low : least (shuffle_form p.generators (node g (exchanged_at i r))) ≡ least (shuffle_form p.generators (node g r))
      low = ap least one_form

      k : FormCtx (label p.generators) (twist (parts p) (label p.generators)) (least (shuffle_form p.generators (node g r))) c
      k = form_ctx (label p.generators) (twist (parts p) (label p.generators)) (least (shuffle_form p.generators (node g r))) c

      sign_is : parts_sign (parts p g) (ranks (map least (form_row (label p.generators) r))) ≡ times s (parts_sign (parts p g) (exchange i (ranks (map least (form_row (label p.generators) r)))))
      sign_is = parts_sign-exchange (parts p g) i s (ranks (map least (form_row (label p.generators) r))) h (ordering_apart (ranks (map least (form_row (label p.generators) r))) o.distinct)
          (let m : length (ranks (map least (form_row (label p.generators) r))) ≡ arity_of p g = o.length_is in omega (arith, m, part_below (parts p g) i s h))

      turns_first : turns_of p (fill c (node g r)) ≡ k.count + (turn_of (parts_sign (parts p g) w) + turns_row (label p.generators) (twist (parts p) (label p.generators)) r)
      turns_first = k.turns_is (node g r) refl

      turns_second : turns_of p (fill c (node g (exchanged_at i r))) ≡ k.count + (turn_of (parts_sign (parts p g) (exchange i w)) + turns_row (label p.generators) (twist (parts p) (label p.generators)) r)
      turns_second = k.turns_is (node g (exchanged_at i r)) low
          ∙ ap₂ (λ x y. k.count + (x + y)) (ap (λ v. turn_of (parts_sign (parts p g) v)) words) (turns_row-exchanged (label p.generators) (twist (parts p) (label p.generators)) i r)

  -- an instance of a symmetry rule
  pub symmetry_gone : (g i : ℕ) (s : Sign) → InOnePart (parts p g) i s → (c : Ctx ℕ) (u : ℕ → Tree ℕ) → IsLabelled (arity_of p) n (fill c (node g (graft_row (numbered 0 (arity_of p g)) u)))
      → Same tree_discrete p.q (turned p ((1, fill c (node g (graft_row (numbered 0 (arity_of p g)) u))) ∷ ((residue_of p.q (times minus s), fill c (node g (graft_row (exchanged_at i (numbered 0 (arity_of p g))) u))) ∷ []))) []
  symmetry_gone g i s h c u l =
      subst (λ x. Same tree_discrete p.q (turned p ((1, fill c (node g (graft_row (numbered 0 (arity_of p g)) u))) ∷ ((residue_of p.q (times minus s), fill c (node g x)) ∷ []))) [])
      (sym (graft_row-exchanged i (numbered 0 (arity_of p g)) u)) (vanish c g i s (graft_row (numbered 0 (arity_of p g)) u) h l)
