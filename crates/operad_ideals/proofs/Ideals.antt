-- The ideal is closed under sums, multiples and sameness.
use Rattle.std.proofs.Common.{◌≡◌, ℕ, suc, ◌*◌, ◌%◌, List, [], ◌∷◌, map, refl, sym, ap, ◌∙◌, append-nil, append_assoc}
use Rattle.std.specs.Prelude.{flat_map}
use mathlib.Core.List.{◌++◌}
use mathlib.Core.Path.{ap₂}
use Rattle.modular_sums.specs.Sums.{coef, scale, Same, moved}
use Rattle.modular_sums.proofs.Residues.{congruent_add, congruent_mul}
use Rattle.modular_sums.proofs.Sums.{coef-append, coef-scale, scale-scale}
use Rattle.labelled_trees.specs.Trees.{Tree}
use Rattle.labelled_trees.specs.Equality.{tree_discrete}
use Rattle.operad_ideals.specs.Presentations.{Presentation}
use Rattle.operad_ideals.specs.Rules.{rule_terms}
use Rattle.operad_ideals.specs.Ideals.{placed, Instance, element, InIdeal}
use Rattle.operad_ideals.specs.IdealLaws.{IdealIsClosed}

scale-append : (c : ℕ) (e f : List (ℕ × Tree ℕ)) → scale c (e ++ f) ≡ scale c e ++ scale c f
unfolding scale
scale-append c [] f = refl
scale-append c (x ∷ e) f = ap (λ l. (c * x.0, x.1) ∷ l) (scale-append c e f)

module _ (p : Presentation) (n : ℕ) where
  elements-append : (k l : List (Instance p n)) → flat_map (element p n) (k ++ l) ≡ flat_map (element p n) k ++ flat_map (element p n) l
  elements-append [] l = refl
  elements-append (i ∷ k) l = ap (λ m. element p n i ++ m) (elements-append k l) ∙ sym (append_assoc (element p n i) (flat_map (element p n) k) (flat_map (element p n) l))

  -- the instance with another residue
  times_residue : ℕ → Instance p n → Instance p n
  times_residue c i = record {
    residue = c * i.residue;
    context = i.context;
    rule = i.rule;
    inputs = i.inputs;
    is_context = i.is_context;
    as_many = i.as_many;
    no_zero = i.no_zero;
    labelled = i.labelled;
  }

  elements-scale : (c : ℕ) (l : List (Instance p n)) → flat_map (element p n) (map (times_residue c) l) ≡ scale c (flat_map (element p n) l)
  unfolding scale times_residue
  elements-scale c [] = refl
  elements-scale c (i ∷ l) =
      ap₂ (λ a b. a ++ b) (scale-scale c i.residue (moved (placed i.context i.inputs) (rule_terms p i.rule))) (elements-scale c l)
      ∙ sym (scale-append c (element p n i) (flat_map (element p n) l))

  pub ideal_zero : InIdeal p n []
  ideal_zero = record { instances = []; adds_up = λ t. refl }

  pub ideal_one : (i : Instance p n) → InIdeal p n (element p n i)
  ideal_one i = record { instances = i ∷ []; adds_up = λ t. ap (λ l. coef tree_discrete l t % suc p.q) (sym (append-nil (element p n i))) }

  pub ideal-append : (e f : List (ℕ × Tree ℕ)) → InIdeal p n e → InIdeal p n f → InIdeal p n (e ++ f)
  ideal-append e f h k = record {
    instances = h.instances ++ k.instances;
    adds_up = λ t. rw (elements-append h.instances k.instances, coef-append tree_discrete e f t, coef-append tree_discrete (flat_map (element p n) h.instances) (flat_map (element p n) k.instances) t)
        (congruent_add p.q _ _ _ _ (h.adds_up t) (k.adds_up t));
  }

  pub ideal-scale : (c : ℕ) (e : List (ℕ × Tree ℕ)) → InIdeal p n e → InIdeal p n (scale c e)
  ideal-scale c e h = record {
    instances = map (times_residue c) h.instances;
    adds_up = λ t. rw (elements-scale c h.instances, coef-scale tree_discrete c e t, coef-scale tree_discrete c (flat_map (element p n) h.instances) t) (congruent_mul p.q c c _ _ refl (h.adds_up t));
  }

  pub ideal-same : (e f : List (ℕ × Tree ℕ)) → Same tree_discrete p.q e f → InIdeal p n f → InIdeal p n e
  ideal-same e f s h = record { instances = h.instances; adds_up = λ t. s t ∙ h.adds_up t }

pub ideal_law : IdealIsClosed
ideal_law p n = record { instances = ideal_one p n; none = ideal_zero p n; added = ideal-append p n; scaled = ideal-scale p n; same = ideal-same p n }
