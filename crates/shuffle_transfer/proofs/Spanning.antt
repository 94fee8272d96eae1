-- Normal trees span modulo the ideal.
use Rattle.std.proofs.Common.{◌≡◌, ℕ, ◌*◌, ◌≤◌, List, [], ◌∷◌, refl, sym, ◌∙◌, ap, arith, subst}
use mathlib.Core.Path.{ap₂}
use mathlib.Core.List.{◌++◌}
use Rattle.modular_sums.specs.Sums.{scale, moved, AllTerms}
use Rattle.modular_sums.proofs.Sums.{AllTerms-append, AllTerms-scale}
use Rattle.modular_sums.proofs.Images.{AllTerms-imp}
use Rattle.labelled_trees.specs.Trees.{Tree}
use Rattle.labelled_trees.specs.Labelled.{IsLabelled}
use Rattle.shuffle_insertions.specs.ShuffleTrees.{IsShuffleTree}
use Rattle.shuffle_normal_forms.specs.FreeTrees.{IsFree, IsFreeTree}
use Rattle.shuffle_normal_forms.specs.NormalForms.{InSpan}
use Rattle.shuffle_normal_forms.proofs.Laws.{spanning as free_spanning}
use Rattle.operad_ideals.specs.Sorting.{spelled_sign}
use Rattle.operad_ideals.specs.Presentations.{Presentation, residue_of, parts, arity_of}
use Rattle.operad_ideals.specs.Ideals.{InIdeal}
use Rattle.shuffle_transfer.specs.Labels.{labels, inputs_of, shuffle_form, symmetric_tree}
use Rattle.shuffle_transfer.specs.Transfer.{shuffled}
use Rattle.shuffle_transfer.proofs.Labels.{are_labels}
use Rattle.shuffle_transfer.proofs.ShuffleFormsFit.{forth, back_law, spelling}
use Rattle.shuffle_transfer.proofs.Given.{Given, setting_of, span_ideal}
use Rattle.shuffle_transfer.proofs.Independent.{Normal}

module _ (p : Presentation) where
  pub shuffled-append : (e f : List (ℕ × Tree ℕ)) → shuffled p (e ++ f) ≡ shuffled p e ++ shuffled p f
  shuffled-append [] f = refl
  shuffled-append (x ∷ e) f = ap (λ l. (x.0 * residue_of p.q (spelled_sign (parts p) x.1), shuffle_form p.generators x.1) ∷ l) (shuffled-append e f)

  pub shuffled-scale : (k : ℕ) (e : List (ℕ × Tree ℕ)) → shuffled p (scale k e) ≡ scale k (shuffled p e)
  unfolding scale
  shuffled-scale k [] = refl
  shuffled-scale k (x ∷ e) =
      let s : ℕ = residue_of p.q (spelled_sign (parts p) x.1) in
      let o : k * x.0 * s ≡ k * (x.0 * s) = omega arith in
      ap₂ (λ a l. (a, shuffle_form p.generators x.1) ∷ l) o (shuffled-scale k e)

  -- the shuffle form of an element is on shuffle trees
  pub all_shuffles : (n : ℕ) (e : List (ℕ × Tree ℕ)) → AllTerms e (IsLabelled (arity_of p) n) → AllTerms (shuffled p e) (IsShuffleTree (inputs_of p.generators) n)
  all_shuffles n [] h = tt
  all_shuffles n (x ∷ e) h = (forth p.generators n x.1 h.0, all_shuffles n e h.1)

  -- ---- sums of shuffle trees, passed back

  pub all_labelled : (n : ℕ) (l : List (ℕ × Tree ℕ)) → AllTerms l (IsShuffleTree (inputs_of p.generators) n) → AllTerms (moved (symmetric_tree p.generators) l) (IsLabelled (arity_of p) n)
  all_labelled n [] h = tt
  all_labelled n (x ∷ l) h = ((back_law p.generators n x.1 h.0).0, all_labelled n l h.1)

  pub all_forms : (n : ℕ) (l : List (ℕ × Tree ℕ)) → AllTerms l (IsShuffleTree (inputs_of p.generators) n) → shuffled p (moved (symmetric_tree p.generators) l) ≡ l
  all_forms n [] h = refl
  all_forms n (x ∷ l) h =
      let b = back_law p.generators n x.1 h.0 in
      let o : x.0 * 1 ≡ x.0 = omega arith in
      ap₂ (λ y k. y ∷ k) (ap₂ (λ a y. (a, y)) (ap (λ s. x.0 * residue_of p.q s) b.2 ∙ o) b.1) (all_forms n l h.1)

module _ (c : Given) (n : ℕ) (le : n ≤ c.most) where
  abbrev p : Presentation
  p = c.presentation

  abbrev S : Tree ℕ → Tree ℕ
  S = symmetric_tree c.presentation.generators

  -- up to the ideal the element is one on normal trees
  pub record Spans (e : List (ℕ × Tree ℕ)) : Type 0 where
    pub by : List (ℕ × Tree ℕ)
    pub normal : AllTerms by (Normal c n le)
    pub rest : InIdeal c.presentation n (e ++ scale c.presentation.q by)

  pub normal_tree : (s : Tree ℕ) → IsFreeTree (setting_of c) n s → Normal c n le (symmetric_tree c.presentation.generators s)
  normal_tree s h =
      let b = back_law p.generators n s h.valid in
      record {
        labelled = b.0;
        sorted = sym ((spelling p.generators n (S s) b.0).0) ∙ ap S b.1;
        free = subst (IsFree (setting_of c)) (sym b.1) h.free;
      }

  normal_trees : (l : List (ℕ × Tree ℕ)) → AllTerms l (IsFreeTree (setting_of c) n) → AllTerms (moved S l) (Normal c n le)
  normal_trees [] h = tt
  normal_trees (x ∷ l) h = (normal_tree x.1 h.0, normal_trees l h.1)

  -- each sum of labelled trees: the normal form of its shuffle form, passed back
  pub spans : (e : List (ℕ × Tree ℕ)) → AllTerms e (IsLabelled (arity_of c.presentation) n) → Spans e
  spans e h =
      let k = (free_spanning (labels p.generators) (setting_of c) (are_labels p c.wide) c.order c.certified.monic n).1 (shuffled p e) (all_shuffles p n e h) in
      let f : List (ℕ × Tree ℕ) = k.0 in
      let valid = AllTerms-imp (IsFreeTree (setting_of c) n) (IsShuffleTree (inputs_of p.generators) n) f (λ t g. g.valid) k.1.on_free in
      let back : shuffled p (e ++ scale p.q (moved S f)) ≡ shuffled p e ++ scale p.q f
      = shuffled-append p e (scale p.q (moved S f)) ∙ ap (λ l. shuffled p e ++ l) (shuffled-scale p p.q (moved S f) ∙ ap (scale p.q) (all_forms p n f valid)) in
      record {
        by = moved S f;
        normal = normal_trees f k.1.on_free;
        rest = span_ideal c n le (e ++ scale p.q (moved S f))
            (AllTerms-append e (scale p.q (moved S f)) (IsLabelled (arity_of p) n) h (AllTerms-scale p.q (moved S f) (IsLabelled (arity_of p) n) (all_labelled p n f valid)))
            (subst (InSpan (setting_of c) n) (sym back) k.1.rest);
      }
