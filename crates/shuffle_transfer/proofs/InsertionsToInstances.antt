-- An element whose shuffle form is a sum of insertions is a sum of instances.
use Rattle.std.proofs.Common.{◌≡◌, ℕ, suc, ◌+◌, ◌*◌, ◌^◌, ◌%◌, ◌<◌, ◌≤◌, List, [], ◌∷◌, refl, sym, ◌∙◌, ap, arith, subst}
use mathlib.Core.Path.{ap₂}
use mathlib.Core.List.{◌++◌}
use native.Mathlib.Decide.{dec_lt, ℕ_discrete}
use Rattle.modular_sums.specs.Residues.{IsCongruent}
use Rattle.modular_sums.specs.Lists.{Mem, choose}
use Rattle.modular_sums.specs.Sums.{coef, scale, expand, IsLinearCombination, moved, AllTerms}
use Rattle.modular_sums.proofs.Residues.{congruent_drop, congruent_mul}
use Rattle.modular_sums.proofs.Sums.{combination-append, combination-scale, combination-same, coef-append, coef-scale}
use Rattle.modular_sums.proofs.Images.{moved-append, moved-scale, Same-moved}
use Rattle.labelled_trees.specs.Trees.{Tree, leaf, graft}
use Rattle.labelled_trees.specs.Contexts.{Ctx, fill}
use Rattle.labelled_trees.specs.Leaves.{one_if, sum_leaves, AllLeaves, occurs}
use Rattle.labelled_trees.specs.Equality.{tree_discrete}
use Rattle.labelled_trees.specs.Labelled.{Fits, IsLabelled}
use Rattle.labelled_trees.proofs.Grafts.{graft_assoc}
use Rattle.labelled_trees.proofs.Leaves.{by_leaf, at_leaf, AllLeaves-imp, occurs_self, sum_leaves-all_zero}
use Rattle.labelled_trees.proofs.ContextLeaves.{adds}
use Rattle.labelled_trees.proofs.Numbered.{numbered_of_labelled, labelled_once, numbered_sums}
use Rattle.labelled_trees.proofs.GraftLeaves.{graft_ext, AllLeaves-graft, AllLeaves_of_graft, sum_leaves-graft}
use Rattle.labelled_trees.proofs.Holes.{At, hole_at, one_context}
use Rattle.labelled_trees.proofs.Fitting.{fits_of_fill, fits-fill, fits_parts, fits-graft, fits-renamed}
use Rattle.shuffle_insertions.specs.ShuffleTrees.{least, IsRising, IsShuffleTree}
use Rattle.shuffle_insertions.specs.Slots.{Slot, fill_slot, PartsRise}
use Rattle.shuffle_insertions.proofs.Insertions.{InRange}
use Rattle.shuffle_insertions.proofs.Rising.{rising-fill, rising_of_fill, least-occurs, least_same}
use Rattle.operad_ideals.specs.Parts.{minus, times}
use Rattle.operad_ideals.specs.Sorting.{spelled_sign}
use Rattle.operad_ideals.specs.Presentations.{Relation, Presentation, residue_of, parts, arity_of, IsSound}
use Rattle.operad_ideals.specs.Rules.{relation}
use Rattle.operad_ideals.specs.HoleInstances.{hole_element}
use Rattle.modular_sums.proofs.Links.{member_one, member_zero, two_alike}
use Rattle.operad_ideals.proofs.Residues.{residue-times}
use Rattle.operad_ideals.proofs.AgreementLinks.{near_spelled}
use Rattle.shuffle_transfer.specs.Orderings.{entry}
use Rattle.shuffle_transfer.specs.Labels.{label, gen, word, inputs_of, shuffle_form, symmetric_tree}
use Rattle.shuffle_transfer.specs.Transfer.{relabelled}
use Rattle.shuffle_transfer.proofs.Orderings.{entry_within}
use Rattle.shuffle_transfer.proofs.FormGrafts.{form-graft, turns-graft}
use Rattle.shuffle_transfer.proofs.FormContexts.{form_ctx}
use Rattle.shuffle_transfer.proofs.Forms.{occurs-form, sum-form}
use Rattle.shuffle_transfer.proofs.TreesOfShuffleTrees.{Back}
use Rattle.shuffle_transfer.proofs.Signs.{twist}
use Rattle.shuffle_transfer.proofs.Spelling.{labelled, back_of, spelled_is}
use Rattle.shuffle_transfer.proofs.Turned.{turns_of, turned, sign_alike}
use Rattle.shuffle_transfer.proofs.SlotInsertions.{SlotInsertion, slot_inserted}

module _ (p : Presentation) (n : ℕ) where
  abbrev q : ℕ
  q = p.q

  abbrev arity : ℕ → ℕ
  arity = arity_of p

  abbrev lab : ℕ → List ℕ → ℕ
  lab = label p.generators

  abbrev turn : ℕ → List ℕ → ℕ
  turn = twist (parts p) (label p.generators)

  abbrev Shuffles : Tree ℕ → Type 0
  Shuffles = IsShuffleTree (inputs_of p.generators) n

  abbrev S : Tree ℕ → Tree ℕ
  S = symmetric_tree p.generators

  abbrev F : Tree ℕ → Tree ℕ
  F = shuffle_form p.generators

  abbrev Fits' : Tree ℕ → Type 0
  Fits' = Fits (inputs_of p.generators)

  abbrev Returned : Tree ℕ → Type 0
  Returned s = Back (arity_of p) (label p.generators) (twist (parts p) (label p.generators)) (gen p.generators) (word p.generators) (labelled p.generators) s

  abbrev InSpan : List (ℕ × Tree ℕ) → Type 0
  InSpan e = IsLinearCombination tree_discrete (hole_element p n) p.q e

  single : (t : Tree ℕ) → Shuffles t → (i : ℕ) → occurs i t ≤ 1
  single t h i = go (dec_lt 0 (occurs i t))
    where
      go : Dec (0 < occurs i t) → occurs i t ≤ 1
      go (yes o) = let r = h.shuffle.only i o in let e : occurs i t ≡ 1 = h.shuffle.each i r.0 r.1 in omega (arith, e)
      go (no z) = omega arith

  -- a context whose shuffle form is c, for what has least leaf m
  record Lifted (m : ℕ) (c : Ctx ℕ) : Type 0 where
    context : Ctx ℕ
    fits : Fits arity (fill context (leaf m))
    form_is : (z : Tree ℕ) → least (F z) ≡ m → F (fill context z) ≡ fill c (F z)
    turns_is : (z : Tree ℕ) → least (F z) ≡ m → turns_of p (fill context z) ≡ turns_of p z

  lift : (c : Ctx ℕ) (z : Tree ℕ) → Shuffles (fill c z) → Lifted (least z) c
  lift c z h = go (hole_at m (S a) (omega (arith, in_lift)))
    where
      m : ℕ
      m = least z

      a : Tree ℕ
      a = fill c (leaf m)

      rises_z : IsRising z
      rises_z = rising_of_fill c z h.shuffle.rising

      rises : IsRising a
      rises = rising-fill c z (leaf m) refl tt h.shuffle.rising

      fits_a : Fits' a
      fits_a = fits-fill (inputs_of p.generators) c z (leaf m) h.fits tt

      b : Returned a
      b = back_of p.generators a rises fits_a

      once_a : occurs m (fill c (leaf m)) ≡ 1
      once_a =
          let k = adds c (λ i. one_if (ℕ_discrete i m)) in
          let x : occurs m (fill c z) ≡ k.count + occurs m z = k.is z in
          let y : occurs m (fill c (leaf m)) ≡ k.count + occurs m (leaf m) = k.is (leaf m) in
          let o : 0 < occurs m z = least-occurs z rises_z in
          let s : occurs m (fill c z) ≤ 1 = single (fill c z) h m in
          omega (arith, x, y, o, s, occurs_self m)

      in_lift : occurs m (S a) ≡ 1
      in_lift = sym (occurs-form lab m (S a)) ∙ ap (occurs m) b.form_is ∙ once_a

      go : At m (S a) → Lifted m c
      go k0 =
          let k = form_ctx lab turn m k0.around in
          let e : fill k.context (leaf m) ≡ fill c (leaf m) = sym (k.form_is (leaf m) refl) ∙ ap F (sym k0.is) ∙ b.form_is in
          let one : c ≡ k.context = one_context m c k.context (sym e) (omega (arith, once_a)) in
          let t : turns_of p (fill k0.around (leaf m)) ≡ k.count + 0 = k.turns_is (leaf m) refl in
          let z0 : turns_of p (fill k0.around (leaf m)) ≡ 0 = ap (turns_of p) (sym k0.is) ∙ b.no_turns in
          record {
            context = k0.around;
            fits = subst (Fits arity) k0.is b.fits;
            form_is = λ y l. k.form_is y l ∙ ap (λ d. fill d (F y)) (sym one);
            turns_is = λ y l. let u : turns_of p (fill k0.around y) ≡ k.count + turns_of p y = k.turns_is y l in omega (arith, u, t, z0);
          }

  -- a relation of arity m, relabelled by a permutation and inserted into a slot, where its first tree gives a shuffle tree
  record Laid (m : ℕ) : Type 0 where
    order : List ℕ
    slot : Slot
    rises : PartsRise m slot.parts
    within : (i : ℕ) → InRange m i → InRange m (entry order i)
    first : Tree ℕ
    labelled : IsLabelled arity m first
    valid : Shuffles (fill_slot slot (F (graft first (λ i. leaf (entry order i)))))

  module _ (m : ℕ) (laid : Laid m) where
    abbrev w : ℕ → ℕ
    w = entry laid.order

    abbrev f : Slot
    f = laid.slot

    abbrev x0 : Tree ℕ
    x0 = laid.first

    abbrev named : Tree ℕ → Tree ℕ
    named y = graft y (λ i. leaf (w i))

    -- w i for an i among 1 to m
    abbrev Named : ℕ → Type 0
    Named j = (i : ℕ) × InRange m i × (w i ≡ j)

    all_named : (y : Tree ℕ) → IsLabelled arity m y → AllLeaves (named y) Named
    all_named y h = AllLeaves-graft y (λ i. leaf (w i)) Named (by_leaf y (λ i. Named (w i)) (λ i o. (i, h.only i o, refl)))

    among : (j : ℕ) → Named j → InRange m j
    among j k = subst (InRange m) k.2 (laid.within k.0 k.1)

    of_form : (t : Tree ℕ) (Q : ℕ → Type 0) → AllLeaves (F t) Q → AllLeaves t Q
    of_form t Q h = by_leaf t Q (λ i o. at_leaf (F t) Q i h (subst (λ k. 0 < k) (sym (occurs-form lab i t)) o))

    to_form : (t : Tree ℕ) (Q : ℕ → Type 0) → AllLeaves t Q → AllLeaves (F t) Q
    to_form t Q h = by_leaf (F t) Q (λ i o. at_leaf t Q i h (subst (λ k. 0 < k) (occurs-form lab i t) o))

    part_fits : (j : ℕ) → Named j → Fits' (f.parts j)
    part_fits j k = subst (λ i. Fits' (f.parts i)) k.2
        (at_leaf x0 (λ i. Fits' (f.parts (w i))) k.0
        (AllLeaves_of_graft x0 (λ i. leaf (w i)) (λ i. Fits' (f.parts i))
        (of_form (named x0) (λ i. Fits' (f.parts i)) (fits_parts (inputs_of p.generators) (F (named x0)) f.parts (fits_of_fill (inputs_of p.generators) f.context (graft (F (named x0)) f.parts) laid.valid.fits))))
        (let e : occurs k.0 x0 ≡ 1 = laid.labelled.each k.0 k.1.0 k.1.1 in omega (arith, e)))

    part_back : (j : ℕ) → Named j → Returned (f.parts j)
    part_back j k = let a = among j k in back_of p.generators (f.parts j) (laid.rises.each j a.0 a.1) (part_fits j k)

    abbrev lifts : ℕ → Tree ℕ
    lifts j = S (f.parts j)

    forth : (i j : ℕ) → Named i → Named j → i < j → least (F (lifts i)) < least (F (lifts j))
    forth i j a b lt =
        let u : least (F (lifts i)) ≡ least (f.parts i) = ap least (part_back i a).form_is in
        let v : least (F (lifts j)) ≡ least (f.parts j) = ap least (part_back j b).form_is in
        let k : least (f.parts i) < least (f.parts j) = laid.rises.order i j (among i a).0 lt (among j b).1 in
        omega (arith, u, v, k)

    back_again : (i j : ℕ) → Named i → Named j → least (F (lifts i)) < least (F (lifts j)) → i < j
    back_again i j a b lt = go (dec_lt i j) (ℕ_discrete i j)
      where
        go : Dec (i < j) → Dec (i ≡ j) → i < j
        go (yes h) e = h
        go (no h) (yes e) = let l : least (F (lifts i)) ≡ least (F (lifts j)) = ap (λ k. least (F (lifts k))) e in absurd (omega (arith, l, lt))
        go (no h) (no g) = let l : least (F (lifts j)) < least (F (lifts i)) = forth j i b a (omega (arith, h, g)) in absurd (omega (arith, l, lt))

    abbrev inputs : ℕ → Tree ℕ
    inputs i = lifts (w i)

    part_form : (y : Tree ℕ) → IsLabelled arity m y → F (graft y inputs) ≡ graft (F (named y)) f.parts
    part_form y h =
        ap F (sym (graft_assoc y (λ i. leaf (w i)) lifts))
        ∙ form-graft arity lab Named lifts forth back_again (named y) (fits-renamed arity y w h.fits) (all_named y h)
        ∙ graft_ext (F (named y)) (λ j. F (lifts j)) f.parts
        (AllLeaves-imp (F (named y)) Named (λ j. F (lifts j) ≡ f.parts j) (λ j k. (part_back j k).form_is) (to_form (named y) Named (all_named y h)))

    part_turns : (y : Tree ℕ) → IsLabelled arity m y → turns_of p (graft y inputs) ≡ turns_of p (named y)
    part_turns y h =
        let z : sum_leaves (named y) (λ j. turns_of p (lifts j)) ≡ 0
        = sum_leaves-all_zero (named y) (λ j. turns_of p (lifts j)) (AllLeaves-imp (named y) Named (λ j. turns_of p (lifts j) ≡ 0) (λ j k. (part_back j k).no_turns) (all_named y h)) in
        let e : turns_of p (graft (named y) lifts) ≡ turns_of p (named y) + sum_leaves (named y) (λ j. turns_of p (lifts j))
        = turns-graft arity lab Named lifts forth back_again turn (named y) (fits-renamed arity y w h.fits) (all_named y h) in
        ap (turns_of p) (sym (graft_assoc y (λ i. leaf (w i)) lifts)) ∙ (omega (arith, z, e))

    lifted : Lifted (least (graft (F (named x0)) f.parts)) f.context
    lifted = lift f.context (graft (F (named x0)) f.parts) laid.valid

    low_is : (y : Tree ℕ) → IsLabelled arity m y → Shuffles (fill_slot f (F (named y))) → least (F (graft y inputs)) ≡ least (graft (F (named x0)) f.parts)
    low_is y h v = ap least (part_form y h) ∙ least_same (graft (F (named y)) f.parts) (graft (F (named x0)) f.parts)
        (rising_of_fill f.context (graft (F (named y)) f.parts) v.shuffle.rising) (rising_of_fill f.context (graft (F (named x0)) f.parts) laid.valid.shuffle.rising)
        (λ i. counts y i ∙ numbered_sums (numbered_of_labelled h) (numbered_of_labelled laid.labelled) (λ a. occurs i (f.parts (w a))) ∙ sym (counts x0 i))
      where
        counts : (t : Tree ℕ) (i : ℕ) → occurs i (graft (F (named t)) f.parts) ≡ sum_leaves t (λ a. occurs i (f.parts (w a)))
        counts t i = sum_leaves-graft (F (named t)) f.parts (λ k. one_if (ℕ_discrete k i)) ∙ sum-form lab (named t) (λ a. occurs i (f.parts a)) ∙ sum_leaves-graft t (λ a. leaf (w a)) (λ a. occurs i (f.parts a))

    form_at : (y : Tree ℕ) → IsLabelled arity m y → Shuffles (fill_slot f (F (named y))) → F (fill lifted.context (graft y inputs)) ≡ fill_slot f (F (named y))
    form_at y h v = lifted.form_is (graft y inputs) (low_is y h v) ∙ ap (fill f.context) (part_form y h)

    turns_at : (y : Tree ℕ) → IsLabelled arity m y → Shuffles (fill_slot f (F (named y))) → turns_of p (fill lifted.context (graft y inputs)) ≡ turns_of p (named y)
    turns_at y h v = lifted.turns_is (graft y inputs) (low_is y h v) ∙ part_turns y h

    labelled_at : (y : Tree ℕ) → IsLabelled arity m y → Shuffles (fill_slot f (F (named y))) → IsLabelled arity n (fill lifted.context (graft y inputs))
    labelled_at y h v = record {
      fits = fits-fill arity lifted.context (leaf (least (graft (F (named x0)) f.parts))) (graft y inputs) lifted.fits
          (fits-graft arity y inputs h.fits (by_leaf y (λ i. Fits arity (inputs i)) (λ i o. (part_back (w i) (i, h.only i o, refl)).fits)));
      each = λ i a b. sym (counts i) ∙ v.shuffle.each i a b;
      only = λ i o. v.shuffle.only i (subst (λ k. 0 < k) (sym (counts i)) o);
    }
      where
        counts : (i : ℕ) → occurs i (fill_slot f (F (named y))) ≡ occurs i (fill lifted.context (graft y inputs))
        counts i = ap (occurs i) (sym (form_at y h v)) ∙ occurs-form lab i (fill lifted.context (graft y inputs))

    all_labelled : (l : List (ℕ × Tree ℕ)) → AllTerms l (IsLabelled arity m) → AllTerms (moved (fill_slot f) (turned p (relabelled laid.order l))) Shuffles → AllTerms (moved (λ x. fill lifted.context (graft x inputs)) l) (IsLabelled arity n)
    all_labelled [] h v = tt
    all_labelled (y ∷ l) h v = (labelled_at y.1 h.0 v.0, all_labelled l h.1 v.1)

    all_forms : (l : List (ℕ × Tree ℕ)) → AllTerms l (IsLabelled arity m) → AllTerms (moved (fill_slot f) (turned p (relabelled laid.order l))) Shuffles
        → turned p (moved (λ x. fill lifted.context (graft x inputs)) l) ≡ moved (fill_slot f) (turned p (relabelled laid.order l))
    all_forms [] h v = refl
    all_forms (y ∷ l) h v = ap₂ (λ x k. x ∷ k) (ap₂ (λ e t. (y.0 * q ^ e, t)) (turns_at y.1 h.0 v.0) (form_at y.1 h.0 v.0)) (all_forms l h.1 v.1)

  -- what stands at the trees of the shuffle forms
  abbrev back_sum : List (ℕ × Tree ℕ) → List (ℕ × Tree ℕ)
  back_sum e = moved S (turned p e)

  -- a labelled tree, less its sign times the tree of its shuffle form
  near_form : (t : Tree ℕ) → IsLabelled arity n t → InSpan ((1, t) ∷ ((q * q ^ turns_of p t, S (F t)) ∷ []))
  near_form t h = combination-same tree_discrete (hole_element p n) q {e = (1, t) ∷ ((q * q ^ turns_of p t, S (F t)) ∷ [])} {f = (1, t) ∷ ((residue_of q (times minus (spelled_sign (parts p) t)), S (F t)) ∷ [])}
      (two_alike tree_discrete q 1 (q * q ^ turns_of p t) 1 (residue_of q (times minus (spelled_sign (parts p) t))) t (S (F t)) refl
      (congruent_mul q q q (q ^ turns_of p t) (residue_of q (spelled_sign (parts p) t)) refl (sign_alike p n t h) ∙ residue-times q minus (spelled_sign (parts p) t)))
      (subst (λ u. InSpan ((1, t) ∷ ((residue_of q (times minus (spelled_sign (parts p) t)), u) ∷ []))) (sym (spelled_is p.generators t h.fits (labelled_once h))) (near_spelled p n t h))

  -- an element minus the trees of its shuffle form
  kernel : (e : List (ℕ × Tree ℕ)) → AllTerms e (IsLabelled arity n) → InSpan (e ++ scale q (back_sum e))
  unfolding scale coef
  kernel [] h = member_zero tree_discrete (hole_element p n) q
  kernel (x ∷ e) h =
      combination-same tree_discrete (hole_element p n) q
      {e = (x ∷ e) ++ scale q (back_sum (x ∷ e))}
      {f = scale x.0 ((1, x.1) ∷ ((q * q ^ turns_of p x.1, S (F x.1)) ∷ [])) ++ (e ++ scale q (back_sum e))}
      (λ t. adds_up t)
      (combination-append tree_discrete (hole_element p n) q
      {e = scale x.0 ((1, x.1) ∷ ((q * q ^ turns_of p x.1, S (F x.1)) ∷ []))} {f = e ++ scale q (back_sum e)}
      (combination-scale tree_discrete (hole_element p n) q x.0 {e = (1, x.1) ∷ ((q * q ^ turns_of p x.1, S (F x.1)) ∷ [])}
      (near_form x.1 h.0))
      (kernel e h.1))
    where
      adds_up : (t : Tree ℕ) → IsCongruent q (choose (tree_discrete x.1 t) x.0 0 + coef tree_discrete (e ++ ((q * (x.0 * q ^ turns_of p x.1), S (F x.1)) ∷ scale q (back_sum e))) t)
          (choose (tree_discrete x.1 t) (x.0 * 1) 0 + (choose (tree_discrete (S (F x.1)) t) (x.0 * (q * q ^ turns_of p x.1)) 0 + coef tree_discrete (e ++ scale q (back_sum e)) t))
      adds_up t =
          let one : x.0 * 1 ≡ x.0 = omega arith in
          let two : x.0 * (q * q ^ turns_of p x.1) ≡ q * (x.0 * q ^ turns_of p x.1) = omega arith in
          let a : coef tree_discrete (e ++ ((q * (x.0 * q ^ turns_of p x.1), S (F x.1)) ∷ scale q (back_sum e))) t
          ≡ coef tree_discrete e t + (choose (tree_discrete (S (F x.1)) t) (q * (x.0 * q ^ turns_of p x.1)) 0 + coef tree_discrete (scale q (back_sum e)) t)
          = coef-append tree_discrete e ((q * (x.0 * q ^ turns_of p x.1), S (F x.1)) ∷ scale q (back_sum e)) t in
          let b : coef tree_discrete (e ++ scale q (back_sum e)) t ≡ coef tree_discrete e t + coef tree_discrete (scale q (back_sum e)) t = coef-append tree_discrete e (scale q (back_sum e)) t in
          rw (one, two, a, b) (sums (choose (tree_discrete x.1 t) x.0 0) (coef tree_discrete e t) (choose (tree_discrete (S (F x.1)) t) (q * (x.0 * q ^ turns_of p x.1)) 0) (coef tree_discrete (scale q (back_sum e)) t))
        where
          sums : (u v w z : ℕ) → IsCongruent q (u + (v + (w + z))) (u + (w + (v + z)))
          sums u v w z = let k : u + (v + (w + z)) ≡ u + (w + (v + z)) = omega arith in ap (λ m. m % suc q) k

  -- minus 1 twice
  twice : (a b : ℕ) → IsCongruent q b (a + q * (a + q * b))
  twice a b =
      let k : a + q * (a + q * b) + (b + q * b) ≡ b + (a + q * b + q * (a + q * b)) = omega arith in
      sym (congruent_drop q b (a + q * b)) ∙ ap (λ m. m % suc q) (sym k) ∙ congruent_drop q (a + q * (a + q * b)) b

  -- the trees of the shuffle form of a sum of instances
  back_member : (e : List (ℕ × Tree ℕ)) → AllTerms e (IsLabelled arity n) → InSpan e → InSpan (back_sum e)
  back_member e h k = combination-same tree_discrete (hole_element p n) q {e = back_sum e} {f = e ++ scale q (e ++ scale q (back_sum e))}
      (λ t. rw (coef-append tree_discrete e (scale q (e ++ scale q (back_sum e))) t, coef-scale tree_discrete q (e ++ scale q (back_sum e)) t, coef-append tree_discrete e (scale q (back_sum e)) t, coef-scale tree_discrete q (back_sum e) t)
      (twice (coef tree_discrete e t) (coef tree_discrete (back_sum e) t)))
      (combination-append tree_discrete (hole_element p n) q {e = e} {f = scale q (e ++ scale q (back_sum e))} k
      (combination-scale tree_discrete (hole_element p n) q q {e = e ++ scale q (back_sum e)} (kernel e h)))

  lifts_at : (r : Relation) → Mem r p.relations → (order : List ℕ) (f : Slot) → PartsRise r.arity f.parts → ((i : ℕ) → InRange r.arity i → InRange r.arity (entry order i)) → (l : List (ℕ × Tree ℕ)) → r.terms ≡ l
      → AllTerms l (IsLabelled arity r.arity) → AllTerms (moved (fill_slot f) (turned p (relabelled order l))) Shuffles → InSpan (moved S (moved (fill_slot f) (turned p (relabelled order l))))
  lifts_at r there order f rises within [] e h v = member_zero tree_discrete (hole_element p n) q
  lifts_at r there order f rises within (x ∷ l) e h v =
      let laid : Laid r.arity = record { order = order; slot = f; rises = rises; within = within; first = x.1; labelled = h.0; valid = v.0 } in
      let c = lifted r.arity laid in
      let u = inputs r.arity laid in
      let ok = all_labelled r.arity laid (x ∷ l) h v in
      let same = all_forms r.arity laid (x ∷ l) h v in
      subst (λ k. InSpan (moved S k)) same
      (back_member (moved (λ y. fill c.context (graft y u)) (x ∷ l)) ok
      (subst (λ k. InSpan (moved (λ y. fill c.context (graft y u)) k)) e
      (member_one tree_discrete (hole_element p n) q record {
        rule = relation r there;
        context = c.context;
        inputs = u;
        labelled = subst (λ k. AllTerms (moved (λ y. fill c.context (graft y u)) k) (IsLabelled arity n)) (sym e) ok;
      })))

  module _ (sound : IsSound p) where
    lifts_one : (j : SlotInsertion p n) → InSpan (moved S (slot_inserted p n j))
    lifts_one j = lifts_at j.relation j.there j.permutation j.slot j.rises (λ i a. let r = entry_within j.relation.arity j.permutation j.permutes i a.0 a.1 in (r.0, r.1)) j.relation.terms refl (sound j.relation j.there) j.valid

    lifts_all : (l : List (ℕ × SlotInsertion p n)) → InSpan (moved S (expand (slot_inserted p n) l))
    unfolding expand
    lifts_all [] = member_zero tree_discrete (hole_element p n) q
    lifts_all (x ∷ l) =
        rw (moved-append S (scale x.0 (slot_inserted p n x.1)) (expand (slot_inserted p n) l), moved-scale S x.0 (slot_inserted p n x.1))
        (combination-append tree_discrete (hole_element p n) q {e = scale x.0 (moved S (slot_inserted p n x.1))} {f = moved S (expand (slot_inserted p n) l)}
        (combination-scale tree_discrete (hole_element p n) q x.0 {e = moved S (slot_inserted p n x.1)} (lifts_one x.1)) (lifts_all l))

    -- an element whose shuffle form is a sum of insertions is a sum of instances
    pub backward : (e : List (ℕ × Tree ℕ)) → AllTerms e (IsLabelled arity n) → IsLinearCombination tree_discrete (slot_inserted p n) q (turned p e) → InSpan e
    backward e h k =
        let b : InSpan (back_sum e) = combination-same tree_discrete (hole_element p n) q {e = back_sum e} {f = moved S (expand (slot_inserted p n) k.uses)}
        (Same-moved tree_discrete tree_discrete q S (turned p e) (expand (slot_inserted p n) k.uses) k.adds_up) (lifts_all k.uses) in
        combination-same tree_discrete (hole_element p n) q {e = e} {f = (e ++ scale q (back_sum e)) ++ back_sum e}
        (λ t. rw (coef-append tree_discrete (e ++ scale q (back_sum e)) (back_sum e) t, coef-append tree_discrete e (scale q (back_sum e)) t, coef-scale tree_discrete q (back_sum e) t)
        (gone (coef tree_discrete e t) (coef tree_discrete (back_sum e) t)))
        (combination-append tree_discrete (hole_element p n) q {e = e ++ scale q (back_sum e)} {f = back_sum e} (kernel e h) b)
      where
        gone : (a b : ℕ) → IsCongruent q a (a + q * b + b)
        gone a b = let k : a + q * b + b ≡ a + (b + q * b) = omega arith in rw k (sym (congruent_drop q a b))
