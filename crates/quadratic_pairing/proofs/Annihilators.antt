-- The annihilator of an ideal, and what the pairing doesn't see.
use Rattle.std.proofs.Common.{◌≡◌, ℕ, suc, ◌+◌, ◌*◌, ◌%◌, List, [], refl, sym, ◌∙◌, ap, arith, subst}
use Rattle.std.specs.List.{sum_by}
use Rattle.std.proofs.Math.Nat.{mod-mod, zero-mod}
use mathlib.Core.Path.{ap₂}
use mathlib.Core.List.{◌++◌}
use Rattle.modular_sums.specs.Residues.{IsCongruent}
use Rattle.modular_sums.specs.Sums.{coef, scale, Same, AllTerms}
use Rattle.modular_sums.proofs.Residues.{congruent_add, congruent_mul, congruent_of_gone}
use Rattle.modular_sums.proofs.Sums.{AllTerms-append, AllTerms-scale}
use Rattle.modular_sums.proofs.Coefficients.{coef_nothing}
use Rattle.labelled_trees.specs.Trees.{Tree}
use Rattle.labelled_trees.specs.Equality.{tree_discrete}
use Rattle.labelled_trees.specs.Labelled.{IsLabelled}
use Rattle.operad_ideals.specs.Sorting.{order_sign}
use Rattle.operad_ideals.specs.Presentations.{Presentation, residue_of, arity_of, IsSound, without_relations}
use Rattle.operad_ideals.specs.Ideals.{InIdeal}
use Rattle.shuffle_transfer.specs.Orderings.{IsOrdering}
use Rattle.shuffle_transfer.specs.Transfer.{relabelled, shuffled}
use Rattle.shuffle_transfer.proofs.TransferLaw.{labelled-relabelled, kernel}
use Rattle.quadratic_pairing.specs.Duals.{dual, IsBinary, IsTernaryElement}
use Rattle.quadratic_pairing.specs.Pairings.{pairing, Annihilates}
use Rattle.quadratic_pairing.specs.Laws.{AnnihilatorLaw, AnnihilatorsAreIdeals}
use Rattle.quadratic_pairing.proofs.LinearSums.{sum_by_same, sum_by-add, sum_by-mul, sum_by-none}
use Rattle.quadratic_pairing.proofs.Combs.{is_ordering, among_orderings}
use Rattle.quadratic_pairing.proofs.Relabelling.{Inverse, inverse}
use Rattle.quadratic_pairing.proofs.PairingSums.{congruent_rest, Same-shuffled, coef_shuffled-append, coef_shuffled-scale, given, opposite, weight, listing, pairing_alike}
use Rattle.quadratic_pairing.proofs.Relabelled.{pairing_relabelled_law}
use Rattle.shuffle_transfer.proofs.RelabelledIdeals.{ideal_is_relabelled}
use Rattle.quadratic_pairing.proofs.RelabelledBack.{relabelled_back}

-- elements whose difference is a sum of instances of symmetry rules have shuffle forms with alike coefficients
pub forms_alike : (c : Presentation) (n : ℕ) (d e : List (ℕ × Tree ℕ)) → AllTerms d (IsLabelled (arity_of c) n) → AllTerms e (IsLabelled (arity_of c) n)
    → InIdeal (without_relations c) n (d ++ scale c.q e) → (x : Tree ℕ) → IsCongruent c.q (coef tree_discrete (shuffled c d) x) (coef tree_discrete (shuffled c e) x)
forms_alike c n d e h k i x =
    let s = (kernel c n (d ++ scale c.q e) (AllTerms-append d (scale c.q e) (IsLabelled (arity_of c) n) h (AllTerms-scale c.q e (IsLabelled (arity_of c) n) k))).0 i x in
    congruent_of_gone c.q (coef tree_discrete (shuffled c d) x) (coef tree_discrete (shuffled c e) x)
    (ap (λ m. m % suc c.q) (sym (coef_shuffled-append c d (scale c.q e) x ∙ ap (λ m. coef tree_discrete (shuffled c d) x + m) (coef_shuffled-scale c c.q e x)))
    ∙ s ∙ ap (λ m. m % suc c.q) (coef_nothing tree_discrete x))

module _ (p : Presentation) where
  -- a pairing is a residue
  pub pairing_zero : (e f : List (ℕ × Tree ℕ)) → IsCongruent p.q (pairing p e f) 0 → pairing p e f ≡ 0
  pairing_zero e f h = sym (mod-mod (sum_by (λ x. weight p x * (given p e x * opposite p f x)) (listing p)) (suc p.q)) ∙ h ∙ zero-mod (suc p.q)

  pub pairing_none : (e : List (ℕ × Tree ℕ)) → pairing p e [] ≡ 0
  pairing_none e = pairing_zero e [] (congruent_rest p.q (sum_by (λ x. weight p x * (given p e x * opposite p [] x)) (listing p))
      ∙ ap (λ n. n % suc p.q) (sum_by-none (listing p) (λ x. weight p x * (given p e x * opposite p [] x)) (λ x m. ap (λ n. weight p x * (given p e x * n)) (coef_nothing tree_discrete x) ∙ omega arith)))

  pub pairing_added : (e f g : List (ℕ × Tree ℕ)) → IsCongruent p.q (pairing p e (f ++ g)) (pairing p e f + pairing p e g)
  pairing_added e f g =
      let term = λ (k : List (ℕ × Tree ℕ)) (x : Tree ℕ). weight p x * (given p e x * opposite p k x) in
      congruent_rest p.q (sum_by (term (f ++ g)) (listing p))
      ∙ ap (λ n. n % suc p.q) (sum_by_same (listing p) (term (f ++ g)) (λ x. term f x + term g x)
      (λ x m. ap (λ n. weight p x * (given p e x * n)) (coef_shuffled-append (dual p []) f g x) ∙ omega arith)
      ∙ sum_by-add (listing p) (term f) (term g))
      ∙ sym (congruent_add p.q (pairing p e f) (sum_by (term f) (listing p)) (pairing p e g) (sum_by (term g) (listing p)) (congruent_rest p.q (sum_by (term f) (listing p))) (congruent_rest p.q (sum_by (term g) (listing p))))

  pub pairing_scaled : (e : List (ℕ × Tree ℕ)) (c : ℕ) (f : List (ℕ × Tree ℕ)) → IsCongruent p.q (pairing p e (scale c f)) (c * pairing p e f)
  pairing_scaled e c f =
      let term = λ (k : List (ℕ × Tree ℕ)) (x : Tree ℕ). weight p x * (given p e x * opposite p k x) in
      congruent_rest p.q (sum_by (term (scale c f)) (listing p))
      ∙ ap (λ n. n % suc p.q) (sum_by_same (listing p) (term (scale c f)) (λ x. c * term f x)
      (λ x m. ap (λ n. weight p x * (given p e x * n)) (coef_shuffled-scale (dual p []) c f x) ∙ omega arith)
      ∙ sum_by-mul c (listing p) (term f))
      ∙ sym (congruent_mul p.q c c (pairing p e f) (sum_by (term f) (listing p)) refl (congruent_rest p.q (sum_by (term f) (listing p))))

  pub pairing_same : (e f g : List (ℕ × Tree ℕ)) → Same tree_discrete p.q f g → pairing p e f ≡ pairing p e g
  pairing_same e f g s = pairing_alike p e e f g (λ x. refl) (Same-shuffled (dual p []) f g s)

  module _ (b : IsBinary p) (sound : IsSound p) where
    annihilator_relabelled : (w : List ℕ) → IsOrdering 3 w → (f : List (ℕ × Tree ℕ)) → IsTernaryElement (dual p []) f → Annihilates p f → Annihilates p (relabelled w f)
    annihilator_relabelled w o f k h e l i =
        let inv : Inverse w = inverse w (among_orderings w o) in
        let c : ℕ = residue_of p.q (order_sign w) in
        let ov : IsOrdering 3 inv.by = is_ordering inv.by inv.among in
        let back : List (ℕ × Tree ℕ) = relabelled inv.by e in
        let lb : IsTernaryElement p back = labelled-relabelled (arity_of p) 3 inv.by ov e l in
        let zero : pairing p back f ≡ 0 = h back lb (ideal_is_relabelled p 3 inv.by ov e i) in
        let none : c * 0 ≡ 0 = omega arith in
        pairing_zero e (relabelled w f) (subst (λ x. IsCongruent p.q (pairing p x (relabelled w f)) 0) (relabelled_back (arity_of p) w inv.by inv.redoes e l)
        (pairing_relabelled_law p b w o back f lb k ∙ ap (λ n. n % suc p.q) (ap (λ n. c * n) zero ∙ none)))

    annihilator_law : AnnihilatorLaw p
    annihilator_law = record {
      none = λ e l i. pairing_none e;
      added = λ f g h k e l i. pairing_zero e (f ++ g) (pairing_added e f g ∙ ap (λ n. n % suc p.q) (ap₂ (λ m n. m + n) (h e l i) (k e l i)));
      scaled = λ c f h e l i. pairing_zero e (scale c f) (pairing_scaled e c f ∙ ap (λ n. n % suc p.q) (ap (λ n. c * n) (h e l i) ∙ omega arith));
      same = λ f g s h e l i. pairing_same e f g s ∙ h e l i;
      relabelled_too = annihilator_relabelled;
      first_changed = λ d e f h k i. pairing_alike p d e f f (forms_alike p 3 d e h k i) (λ x. refl);
      second_changed = λ e f g h k i. pairing_alike p e e f g (λ x. refl) (forms_alike (dual p []) 3 f g h k i);
    }

pub annihilators_law : AnnihilatorsAreIdeals
annihilators_law p sound b = annihilator_law p b sound
