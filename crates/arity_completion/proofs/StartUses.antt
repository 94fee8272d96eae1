-- Uses of starts.
use Rattle.std.proofs.Common.{◌≡◌, ℕ, suc, ◌%◌, ◌<◌, List, [], ◌∷◌, ◌++◌, length, map, refl, sym, ap, ap₂, ◌∙◌, subst}
use Rattle.std.specs.List.{AllByRecursion}
use Rattle.std.proofs.Math.ListN.{length-map}
use Rattle.modular_sums.specs.Sums.{coef, scale, moved, AllTerms}
use Rattle.labelled_trees.specs.Trees.{Tree, leaf}
use Rattle.labelled_trees.specs.Equality.{tree_discrete}
use Rattle.labelled_trees.specs.Meaning.{tree_of}
use native.Mathlib.Decide.{ℕ_discrete}
use Rattle.labelled_trees.specs.Insertions.{IsContext}
use Rattle.operad_ideals.specs.Ideals.{placed}
use Rattle.operad_ideals.specs.Presentations.{Presentation, arity_of}
use Rattle.shuffle_transfer.specs.Transfer.{relabelled, shuffled}
use Rattle.shuffle_transfer.proofs.TransferLaw.{labelled-relabelled}
use Rattle.symmetric_trees.specs.Trees.{IsLabelled}
use Rattle.symmetric_trees.specs.declared.generators.Generator.{Generator}
use Rattle.symmetric_sums.specs.Instances.{in_place, rule_element}
use Rattle.symmetric_sums.specs.Membership.{presentation_of}
use Rattle.symmetric_sums.specs.declared.term.Term.{Term}
use Rattle.symmetric_sums.specs.declared.instance.Rule.{Rule}
use Rattle.symmetric_sums.specs.declared.instance.Instance.{Instance}
use Rattle.symmetric_sums.specs.Uses.{IsGoodUse, CitesElement}
use Rattle.logged_steps.specs.Standing.{StandsFor}
use Rattle.logged_steps.proofs.Instances.{relabellings_law}
use Rattle.logged_steps.proofs.Valid.{valid_law}
use Rattle.arity_completion.specs.Trails.{IsStart, started, all_started}
use Rattle.arity_completion.specs.Uses.{AddUpTo, IsStartUse, AreUsesOf}
use Rattle.arity_completion.specs.declared.uses.Start.{Start}
use Rattle.arity_completion.proofs.Adding.{add_none, add_one, scale_both}

module _ (m : ℕ) (generators : List Generator) (rels earlier : List (List Term)) (n factor : ℕ) where
  abbrev p : Presentation
  p = presentation_of m generators rels

  abbrev element : Rule → List (ℕ × Tree ℕ)
  element = rule_element m generators rels earlier

  module _ (start : Start) (item : Instance) (h : IsStart m generators rels earlier n start) (u : IsStartUse factor start item) where
    same_element : element item.rule ≡ element start.rule
    same_element = ap element u.rule

    is_placed : moved (in_place item) (element item.rule) ≡ relabelled start.permutation (element start.rule)
    is_placed =
        ap₂ (λ (c : Tree ℕ) (inputs : List (Tree ℕ)). moved (placed c inputs) (element item.rule)) u.context u.inputs
        ∙ ap (moved (placed (leaf 0) (map leaf start.permutation))) same_element
        ∙ relabellings_law start.permutation (element start.rule)

    labelled : AllTerms (moved (in_place item) (element item.rule)) (IsLabelled generators n)
    labelled = subst (λ l. AllTerms l (IsLabelled generators n)) (sym is_placed)
        (labelled-relabelled (arity_of p) n start.permutation h.ordering (element start.rule) h.labelled)

    context : IsContext (leaf 0)
    unfolding ℕ_discrete
    context = refl

    pub start_good : IsGoodUse m generators rels earlier n item
    start_good = record {
      cites = subst CitesElement (sym u.rule) h.cites;
      valid = valid_law generators n n (element item.rule) item (λ e. h.has_terms (sym same_element ∙ e))
          (subst (λ l. AllTerms l (IsLabelled generators n)) (sym same_element) h.labelled)
          (subst IsContext (sym u.context) context)
          (sym (length-map item.inputs tree_of) ∙ ap length u.inputs ∙ length-map start.permutation leaf ∙ h.ordering.length_is)
          labelled;
    }

    pub start_stands : StandsFor p n (moved (in_place item) (element item.rule)) (started m generators rels earlier start)
    start_stands = record { labelled = labelled; same = λ t. ap (λ l. coef tree_discrete (shuffled p l) t % suc p.q) is_placed }

  pub starts_add : factor < m → (starts : List Start) (uses : List Instance) → AllByRecursion (IsStart m generators rels earlier n) starts → AreUsesOf (IsStartUse factor) starts uses
      → AddUpTo m generators rels earlier n uses (scale factor (all_started m generators rels earlier starts))
  unfolding scale
  starts_add small [] [] h u = add_none m generators rels earlier n
  starts_add small [] (item ∷ uses) h u = absurd u
  starts_add small (start ∷ starts) [] h u = absurd u
  starts_add small (start ∷ starts) (item ∷ uses) h u =
      let one = add_one m generators rels earlier n item uses (started m generators rels earlier start) (scale factor (all_started m generators rels earlier starts))
      (subst (λ c. c < m) (sym u.0.coef) small) (start_good start item h.0 u.0) (start_stands start item h.0 u.0) (starts_add small starts uses h.1 u.1) in
      subst (AddUpTo m generators rels earlier n (item ∷ uses))
      (ap (λ c. scale c (started m generators rels earlier start) ++ scale factor (all_started m generators rels earlier starts)) u.0.coef
      ∙ scale_both factor (started m generators rels earlier start) (all_started m generators rels earlier starts)) one
