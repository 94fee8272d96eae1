-- An element of the ideal is wanted by a block that holds and may be written: one step, whose uses are the instances of relations.
use Rattle.std.proofs.Common.{true, ◌≡◌, ℕ, suc, ◌+◌, ◌-◌, ◌*◌, ◌%◌, ◌<◌, ◌≤◌, List, [], ◌∷◌, length, map, refl, sym, ◌∙◌, ap, ap₂, subst, arith, inl, inr}
use mathlib.Core.List.{◌++◌}
use Rattle.std.specs.Prelude.{flat_map}
use Rattle.std.specs.List.{All, AllByRecursion}
use Rattle.std.proofs.Math.Nat.{mod-mod}
use Rattle.std.proofs.lemmas.Nat.{mod_below}
use Rattle.std.proofs.lemmas.List.{length-map}
use Rattle.std.proofs.lemmas.List.Elements.{All-from_recursion}
use Rattle.modular_sums.specs.Lists.{Mem}
use Rattle.modular_sums.specs.Sums.{coef, scale, Same, moved, AllTerms}
use Rattle.modular_sums.proofs.Residues.{congruent_add, congruent_mul, congruent_drop}
use Rattle.modular_sums.proofs.Sums.{coef-append, coef-scale, AllTerms-append}
use Rattle.labelled_trees.specs.Trees.{Tree}
use Rattle.labelled_trees.specs.Equality.{tree_discrete}
use Rattle.labelled_trees.specs.Insertions.{IsContext}
use Rattle.labelled_trees.specs.Leaves.{occurs}
use Rattle.labelled_trees.specs.Meaning.{tree_of}
use Rattle.operad_ideals.specs.Ideals.{placed, Instance, element, InIdeal}
use Rattle.operad_ideals.specs.Presentations.{Relation, Presentation, without_relations}
use Rattle.operad_ideals.specs.Rules.{Rule, relation, symmetry, rule_arity, rule_terms}
use Rattle.operad_ideals.proofs.Ideals.{ideal_zero, ideal_one, ideal-append}
use Rattle.symmetric_trees.specs.Trees.{IsLabelled}
use Rattle.symmetric_sums.specs.Instances.{sum_at, element_arity, in_place, IsValidInstance, instance_element}
use Rattle.symmetric_sums.specs.Membership.{relation_of}
use Rattle.symmetric_sums.specs.declared.instance.Instance.{Instance as Use}
use Rattle.symmetric_sums.specs.declared.instance.Rule.TheVariants.{Rel}
use Rattle.symmetric_sums.specs.declared.term.Term.{Term}
use Rattle.symmetric_sums.proofs.Expansions.{element-all}
use Rattle.presentation_text.specs.Accepted.{IsDemanded}
use Rattle.presentation_text.specs.ReadBack.{IsWritable}
use Rattle.presentation_text.specs.TreeReadings.{any_arity}
use Rattle.presentation_text.specs.declared.document.Document.{Document}
use Rattle.certificate_text.specs.Plain.{plain_use}
use Rattle.certificate_text.specs.Writable.{IsWritableUse}
use Rattle.certificate_text.proofs.ReadyBlocks.{prime_positive}
use Rattle.symmetric_sums.specs.Uses.{IsGoodUse, sum_of, cited}
use Rattle.operad_answers.specs.OrderedPresentations.{presentation, written}
use Rattle.operad_answers.specs.Texts.{Sum}
use Rattle.labelled_trees.proofs.MadeTrees.{program_tree, made_tree, made_trees}
use Rattle.operad_answers.proofs.ProgramSums.{multiple-same}
use Rattle.operad_answers.proofs.WellFormed.{writable_well_formed}
use Rattle.presentation_text.proofs.ShortTrees.{context_demanded, inputs_demanded}

-- ---- sums one after the other

module _ (q : ℕ) where
  same_joined : (a b c d : Sum) → Same tree_discrete q a b → Same tree_discrete q c d → Same tree_discrete q (a ++ c) (b ++ d)
  same_joined a b c d h g t =
      rw (coef-append tree_discrete a c t, coef-append tree_discrete b d t)
      (congruent_add q (coef tree_discrete a t) (coef tree_discrete b t) (coef tree_discrete c t) (coef tree_discrete d t) (h t) (g t))

  same_within : (a b c : Sum) → Same tree_discrete q (a ++ (b ++ c)) ((a ++ b) ++ c)
  same_within a b c t =
      ap (λ k. k % suc q) (coef-append tree_discrete a (b ++ c) t ∙ ap (λ k. coef tree_discrete a t + k) (coef-append tree_discrete b c t) ∙ omega arith
      ∙ sym (coef-append tree_discrete (a ++ b) c t ∙ ap (λ k. k + coef tree_discrete c t) (coef-append tree_discrete a b t)))

  same_passed : (a b c : Sum) → Same tree_discrete q (a ++ (b ++ c)) (b ++ (a ++ c))
  same_passed a b c t =
      ap (λ k. k % suc q) (coef-append tree_discrete a (b ++ c) t ∙ ap (λ k. coef tree_discrete a t + k) (coef-append tree_discrete b c t) ∙ omega arith
      ∙ sym (coef-append tree_discrete b (a ++ c) t ∙ ap (λ k. coef tree_discrete b t + k) (coef-append tree_discrete a c t)))

  same_scaled : (c : ℕ) (e : Sum) → Same tree_discrete q (scale (c % suc q) e) (scale c e)
  same_scaled c e t =
      rw (coef-scale tree_discrete (c % suc q) e t, coef-scale tree_discrete c e t)
      (congruent_mul q (c % suc q) c (coef tree_discrete e t) (coef tree_discrete e t) (mod-mod c (suc q)) refl)

  -- what a sum has beside another
  pub same_beside : (w z y : Sum) → Same tree_discrete q w (z ++ y) → Same tree_discrete q (w ++ scale q y) z
  same_beside w z y h t =
      ap (λ k. k % suc q) (coef-append tree_discrete w (scale q y) t ∙ ap (λ k. coef tree_discrete w t + k) (coef-scale tree_discrete q y t))
      ∙ congruent_add q (coef tree_discrete w t) (coef tree_discrete z t + coef tree_discrete y t) (q * coef tree_discrete y t) (q * coef tree_discrete y t)
      (h t ∙ ap (λ k. k % suc q) (coef-append tree_discrete z y t)) refl
      ∙ ap (λ k. k % suc q) (regrouped (coef tree_discrete z t) (coef tree_discrete y t) (q * coef tree_discrete y t))
      ∙ congruent_drop q (coef tree_discrete z t) (coef tree_discrete y t)
    where
      regrouped : (a b c : ℕ) → a + b + c ≡ a + (b + c)
      regrouped a b c = omega arith

-- ---- the number of a relation

record Numbered (rels : List (List Term)) (r : Relation) : Type 0 where
  at : ℕ
  within : at < length rels
  terms_are : sum_at rels (suc at) ≡ r.terms
  arity_is : element_arity r.terms ≡ r.arity

number_of : (rels : List (List Term)) (r : Relation) → Mem r (map relation_of rels) → Numbered rels r
number_of [] r m = absurd m
number_of (x ∷ rels) r (inl e) = record {
  at = 0;
  within = omega arith;
  terms_are = ap (λ (s : Relation). s.terms) (sym e);
  arity_is = subst (λ (s : Relation). element_arity s.terms ≡ s.arity) (sym e) refl;
}
number_of (x ∷ rels) r (inr m) = let k = number_of rels r m in let l = k.within in record { at = suc k.at; within = omega (arith, l); terms_are = k.terms_are; arity_is = k.arity_is }

none_in : (inputs : List (Tree ℕ)) → ((t : Tree ℕ) → Mem t inputs → occurs 0 t ≡ 0) → AllByRecursion (λ t. occurs 0 (tree_of t) ≡ 0) (map program_tree inputs)
none_in [] h = tt
none_in (t ∷ inputs) h = (ap (occurs 0) (made_tree t) ∙ h t (inl refl), none_in inputs (λ u m. h u (inr m)))

module _ (d : Document) (formed : IsWritable d) (n : ℕ) (few : n ≤ 9) where
  abbrev P : Presentation
  P = presentation (written d)

  abbrev q : ℕ
  q = d.field - 1

  abbrev uses_sum : List Use → Sum
  uses_sum uses = sum_of d.field d.gens d.rels [] uses

  -- A sum is one of instances of symmetry rules, and one of uses that are good and may be written.
  pub record Parted (e : Sum) : Type 0 where
    pub uses : List Use
    pub symmetric : Sum
    pub in_ideal : InIdeal (without_relations P) n symmetric
    pub same : Same tree_discrete q e (symmetric ++ uses_sum uses)
    pub good : AllByRecursion (IsGoodUse d.field d.gens d.rels [] n) uses
    pub writable : AllByRecursion (λ i. IsWritableUse d.field d.gens (plain_use i)) uses

  positive : 0 < d.field
  positive = prime_positive d.field formed.field

  whole : suc (d.field - 1) ≡ d.field
  whole = let above = positive in omega (arith, above)

  -- ---- an instance of a relation

  module _ (r : Relation) (m : Mem r (map relation_of d.rels)) (residue : ℕ) (context : Tree ℕ) (inputs : List (Tree ℕ)) (is_context : IsContext context)
      (as_many : length inputs ≡ r.arity) (no_zero : (t : Tree ℕ) → Mem t inputs → occurs 0 t ≡ 0) (labelled : AllTerms (moved (placed context inputs) r.terms) (IsLabelled d.gens n)) where
    number : Numbered d.rels r
    number = number_of d.rels r m

    abbrev used : Use
    used = record { coef = residue % d.field; context = program_tree context; rule = Rel (suc number.at); inputs = map program_tree inputs }

    placed_is : moved (in_place used) (sum_at d.rels (suc number.at)) ≡ moved (placed context inputs) r.terms
    placed_is = ap₂ (λ c i. moved (placed c i) (sum_at d.rels (suc number.at))) (made_tree context) (made_trees inputs) ∙ ap (moved (placed context inputs)) number.terms_are

    used_same : Same tree_discrete q (instance_element d.field (sum_at d.rels (suc number.at)) used) (scale residue (moved (placed context inputs) r.terms))
    used_same t =
        multiple-same d.field (residue % d.field) (moved (in_place used) (sum_at d.rels (suc number.at))) positive t
        ∙ ap (λ e. coef tree_discrete (scale (residue % d.field) e) t % suc q) placed_is
        ∙ ap (λ k. coef tree_discrete (scale (residue % k) (moved (placed context inputs) r.terms)) t % suc q) (sym whole)
        ∙ same_scaled q residue (moved (placed context inputs) r.terms) t

    used_valid : (r.terms ≡ [] → ⊥) → IsValidInstance d.gens (sum_at d.rels (suc number.at)) n used
    used_valid some = record {
      has_terms = λ e. some (sym number.terms_are ∙ e);
      as_many = length-map inputs program_tree ∙ as_many ∙ sym number.arity_is ∙ ap element_arity (sym number.terms_are);
      is_context = subst IsContext (sym (made_tree context)) is_context;
      no_zero = All-from_recursion (λ t. occurs 0 (tree_of t) ≡ 0) (map program_tree inputs) (none_in inputs no_zero);
      labelled = subst (λ e. AllTerms e (IsLabelled d.gens n)) (sym placed_is) labelled;
    }

    used_good : (r.terms ≡ [] → ⊥) → IsGoodUse d.field d.gens d.rels [] n used
    used_good some = record { cites = tt; valid = used_valid some }

    used_writable : (x : ℕ × Tree ℕ) (e : Sum) → r.terms ≡ x ∷ e → IsWritableUse d.field d.gens (plain_use used)
    used_writable x e is =
        let own : AllTerms (x ∷ e) (IsLabelled d.gens r.arity) = subst (λ f. AllTerms f (IsLabelled d.gens r.arity)) is ((writable_well_formed d formed).sound r m) in
        let large : AllTerms (moved (placed context inputs) (x ∷ e)) (IsLabelled d.gens n) = subst (λ f. AllTerms (moved (placed context inputs) f) (IsLabelled d.gens n)) is labelled in
        let within = number.within in
        let most = formed.few in
        record {
          coef = mod_below residue d.field positive;
          rule = omega (arith, within, most);
          context = subst (IsDemanded d.gens (any_arity true)) (sym (made_tree context)) (context_demanded d.gens r.arity n few context inputs x.1 is_context as_many own.0 large.0);
          inputs = subst (All (IsDemanded d.gens (any_arity true))) (sym (made_trees inputs)) (inputs_demanded d.gens r.arity n few context inputs x.1 is_context as_many own.0 large.0);
        }

    with_relation : (e : Sum) → Parted e → Parted (scale residue (moved (placed context inputs) r.terms) ++ e)
    unfolding scale
    with_relation e k = go r.terms refl
      where
        go : (terms : Sum) → r.terms ≡ terms → Parted (scale residue (moved (placed context inputs) r.terms) ++ e)
        go [] is = subst (λ f. Parted (scale residue (moved (placed context inputs) f) ++ e)) (sym is) k
        go (x ∷ terms) is =
            let more = instance_element d.field (sum_at d.rels (suc number.at)) used in
            record {
              uses = used ∷ k.uses;
              symmetric = k.symmetric;
              in_ideal = k.in_ideal;
              same = λ t.
                  same_joined q (scale residue (moved (placed context inputs) r.terms)) more e (k.symmetric ++ uses_sum k.uses) (λ u. sym (used_same u)) k.same t
                  ∙ same_passed q more k.symmetric (uses_sum k.uses) t;
              good = (used_good (λ z. absurd (cc (is, z))), k.good);
              writable = (used_writable x terms is, k.writable);
            }

  -- ---- instances

  with_instance : (rule : Rule P) (residue : ℕ) (context : Tree ℕ) (inputs : List (Tree ℕ)) → IsContext context → length inputs ≡ rule_arity P rule
      → ((t : Tree ℕ) → Mem t inputs → occurs 0 t ≡ 0) → AllTerms (moved (placed context inputs) (rule_terms P rule)) (IsLabelled d.gens n)
      → (e : Sum) → Parted e → Parted (scale residue (moved (placed context inputs) (rule_terms P rule)) ++ e)
  with_instance (relation r m) residue context inputs is_context as_many no_zero labelled e k = with_relation r m residue context inputs is_context as_many no_zero labelled e k
  with_instance (symmetry g i s h) residue context inputs is_context as_many no_zero labelled e k =
      let one : Instance (without_relations P) n = record { residue = residue; context = context; rule = symmetry g i s h; inputs = inputs; is_context = is_context; as_many = as_many; no_zero = no_zero; labelled = labelled } in
      let own = element (without_relations P) n one in
      record {
        uses = k.uses;
        symmetric = own ++ k.symmetric;
        in_ideal = ideal-append (without_relations P) n own k.symmetric (ideal_one (without_relations P) n one) k.in_ideal;
        same = λ t. same_joined q own own e (k.symmetric ++ uses_sum k.uses) (λ u. refl) k.same t ∙ same_within q own k.symmetric (uses_sum k.uses) t;
        good = k.good;
        writable = k.writable;
      }

  pub parted : (instances : List (Instance P n)) → Parted (flat_map (element P n) instances)
  parted [] = record { uses = []; symmetric = []; in_ideal = ideal_zero (without_relations P) n; same = λ t. refl; good = tt; writable = tt }
  parted (i ∷ instances) =
      with_instance i.rule i.residue i.context i.inputs i.is_context i.as_many i.no_zero i.labelled (flat_map (element P n) instances) (parted instances)

  pub uses_labelled : (uses : List Use) → AllByRecursion (IsGoodUse d.field d.gens d.rels [] n) uses → AllTerms (uses_sum uses) (IsLabelled d.gens n)
  uses_labelled [] h = tt
  uses_labelled (x ∷ uses) h =
      AllTerms-append (instance_element d.field (cited d.field d.gens d.rels [] x) x) (uses_sum uses) (IsLabelled d.gens n)
      (element-all d.field (cited d.field d.gens d.rels [] x) x (IsLabelled d.gens n) h.0.valid.labelled) (uses_labelled uses h.1)
