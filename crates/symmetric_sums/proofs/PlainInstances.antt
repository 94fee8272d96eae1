-- Valid instances of relations and symmetry rules are the instances of the definitions.
use Rattle.std.proofs.Common.{◌≡◌, ℕ, zero, suc, ◌+◌, ◌-◌, ◌*◌, ◌%◌, ◌<◌, List, [], ◌∷◌, length, map, Option, Some, None, refl, ap, ap₂, sym, ◌∙◌, subst, arith, inl, inr}
use Rattle.std.specs.Prelude.{Result, Ok, Err}
use Rattle.std.specs.List.{AllByRecursion}
use Rattle.std.proofs.Math.Nat.{mod-mod}
use Rattle.std.proofs.lemmas.List.{length-map}
use Rattle.std.proofs.lemmas.List.Elements.{recursion_from_All, All-from_recursion}
use native.Mathlib.Decide.{ℕ_discrete}
use Rattle.modular_sums.specs.Lists.{Mem, Nth, choose}
use Rattle.modular_sums.specs.Residues.{IsCongruent}
use Rattle.modular_sums.specs.Sums.{coef, scale, Same, moved, AllTerms}
use Rattle.modular_sums.proofs.Residues.{congruent_add}
use Rattle.labelled_trees.specs.Trees.{Tree, node}
use Rattle.labelled_trees.specs.Equality.{tree_discrete}
use Rattle.labelled_trees.specs.Insertions.{IsContext}
use Rattle.labelled_trees.specs.Leaves.{occurs}
use Rattle.labelled_trees.specs.Meaning.{tree_of}
use Rattle.labelled_trees.specs.declared.Tree as program
use Rattle.labelled_trees.proofs.Counts.{leaf_count-numbered}
use Rattle.operad_ideals.specs.Laws.{arity}
use Rattle.operad_ideals.specs.Parts.{Sign, InOnePart, minus, times}
use Rattle.operad_ideals.specs.Presentations.{Relation, Presentation, residue_of}
use Rattle.operad_ideals.specs.Rules.{numbered, exchanged_at, Rule, relation, symmetry, rule_arity, rule_terms}
use Rattle.operad_ideals.specs.Ideals.{Instance as PlainInstance, element, placed}
use Rattle.operad_ideals.proofs.Corollas.{numbered-numbered}
use Rattle.symmetric_trees.specs.Generators.{parts_at}
use Rattle.symmetric_trees.specs.Trees.{IsLabelled}
use Rattle.symmetric_trees.specs.declared.generators.Generator.{Generator}
use Rattle.symmetric_sums.specs.Instances.{sum_at, exchange_sign, symmetry_terms, symmetry_rule, rule_element, element_arity, in_place, IsValidInstance, products, without_zeros, instance_element, IsExpanded}
use Rattle.symmetric_sums.specs.Membership.{relation_of, presentation_of}
use Rattle.symmetric_sums.specs.PlainInstances.{IsNoStep, Names, AreOneInstance, InstanceLaw, AnswersInstance, ExpandAnswersInstances}
use Rattle.symmetric_sums.specs.declared.term.Term.{Term}
use Rattle.symmetric_sums.specs.declared.instance.Rule as program_rule
use Rattle.symmetric_sums.specs.declared.instance.Rule.TheVariants.{Rel, Swap, Step}
use Rattle.symmetric_sums.specs.declared.instance.Instance.{Instance}
use Rattle.symmetric_sums.specs.declared.expanding.ExpandFail.{ExpandFail}
use Rattle.symmetric_sums.specs.declared.expanding.ExpandFail.TheVariants.{Unfit, NoMemory}
use Rattle.symmetric_sums.proofs.Expansions.{without_zeros-zero, without_zeros-some}
use Rattle.symmetric_sums.proofs.SymmetryRules.{exchange-in_part, in_part-exchange}

-- ---- products modulo p, without zeros, as a multiple

congruent_mod : (q a : ℕ) → IsCongruent q (a % suc q) a
congruent_mod q a = mod-mod a (suc q)

choose_congruent : {A : Type 0} (q : ℕ) (d : Dec A) (a : ℕ) → IsCongruent q (choose d (a % suc q) 0) (choose d a 0)
choose_congruent q (yes _) a = congruent_mod q a
choose_congruent q (no _) a = refl

choose_zero : {A : Type 0} (d : Dec A) (a : ℕ) → a ≡ 0 → choose d a 0 ≡ 0
choose_zero (yes _) a z = z
choose_zero (no _) a z = refl

pub without_zeros-same : (e : List (ℕ × Tree ℕ)) (t : Tree ℕ) → coef tree_discrete (without_zeros e) t ≡ coef tree_discrete e t
unfolding coef
without_zeros-same [] t = refl
without_zeros-same (x ∷ e) t = go (ℕ_discrete x.0 0) (without_zeros-same e t)
  where
    go : Dec (x.0 ≡ 0) → coef tree_discrete (without_zeros e) t ≡ coef tree_discrete e t → coef tree_discrete (without_zeros (x ∷ e)) t ≡ choose (tree_discrete x.1 t) x.0 0 + coef tree_discrete e t
    go (yes z) rest = ap (λ l. coef tree_discrete l t) (without_zeros-zero x e z) ∙ rest ∙ omega (arith, choose_zero (tree_discrete x.1 t) x.0 z)
    go (no z) rest = ap (λ l. coef tree_discrete l t) (without_zeros-some x e z) ∙ ap (λ n. choose (tree_discrete x.1 t) x.0 0 + n) rest

pub products-same : (q c : ℕ) (e : List (ℕ × Tree ℕ)) → Same tree_discrete q (products (suc q) c e) (scale c e)
unfolding coef scale
products-same q c [] t = refl
products-same q c (x ∷ e) t = congruent_add q _ _ _ _ (choose_congruent q (tree_discrete x.1 t) (c * x.0)) (products-same q c e t)

pub element-same : (p : ℕ) → 0 < p → (e : List (ℕ × Tree ℕ)) (instance : Instance) → Same tree_discrete (p - 1) (instance_element p e instance) (scale instance.coef (moved (in_place instance) e))
element-same p positive e instance t =
    let q : suc (p - 1) ≡ p = omega (arith, positive) in
    ap (λ k. k % suc (p - 1)) (without_zeros-same (products p instance.coef (moved (in_place instance) e)) t)
    ∙ ap (λ k. coef tree_discrete (products k instance.coef (moved (in_place instance) e)) t % suc (p - 1)) (sym q)
    ∙ products-same (p - 1) instance.coef (moved (in_place instance) e) t

-- ---- inputs in which leaf 0 doesn't stand

no_zero_each : (ts : List program.Tree) → AllByRecursion (λ t. occurs 0 (tree_of t) ≡ 0) ts → (u : Tree ℕ) → Mem u (map tree_of ts) → occurs 0 u ≡ 0
no_zero_each [] h u m = absurd m
no_zero_each (t ∷ ts) h u (inl e) = ap (occurs 0) e ∙ h.0
no_zero_each (t ∷ ts) h u (inr m) = no_zero_each ts h.1 u m

each_no_zero : (ts : List program.Tree) → ((u : Tree ℕ) → Mem u (map tree_of ts) → occurs 0 u ≡ 0) → AllByRecursion (λ t. occurs 0 (tree_of t) ≡ 0) ts
each_no_zero [] h = tt
each_no_zero (t ∷ ts) h = (h (tree_of t) (inl refl), each_no_zero ts (λ u m. h u (inr m)))

module _ (p : ℕ) (generators : List Generator) (rels steps : List (List Term)) where
  abbrev whole : Presentation
  whole = presentation_of p generators rels

  -- ---- the rule that is named

  sum_named : (sums : List (List Term)) (k : ℕ) (r : Relation) → Nth k (map relation_of sums) r → (r.terms ≡ sum_at sums k) × (r.arity ≡ element_arity (sum_at sums k))
  sum_named [] k r h = absurd h
  sum_named (x ∷ xs) zero r h = absurd h
  sum_named (x ∷ xs) (suc zero) r h = (ap (λ z. z.terms) h, ap (λ z. z.arity) h)
  sum_named (x ∷ xs) (suc (suc k)) r h = sum_named xs (suc k) r h

  signed_terms : (g i at : ℕ) (s : Sign) → at ≡ suc i → InOnePart (parts_at generators g) i s
      → ((1, node g (numbered 0 (arity (parts_at generators) g))) ∷ ((residue_of (p - 1) (times minus s), node g (exchanged_at i (numbered 0 (arity (parts_at generators) g)))) ∷ [])) ≡ symmetry_rule p generators g at
  signed_terms g i at s e o =
      let k = arity (parts_at generators) g in
      let back : i ≡ suc i - 1 = omega arith in
      ap (λ j. (1, node g (numbered 0 k)) ∷ ((residue_of (p - 1) (times minus s), node g (exchanged_at j (numbered 0 k))) ∷ [])) back
      ∙ ap (symmetry_terms p generators g (suc i)) (sym (in_part-exchange (parts_at generators g) i s o))
      ∙ ap (symmetry_rule p generators g) (sym e)

  -- a rule that is named has the terms and the arity of the element
  named_terms : (rule : program_rule.Rule) (r : Rule whole) → Names p generators rels rule r → rule_terms whole r ≡ rule_element p generators rels steps rule
  named_terms (Rel k) (relation r m) h = (sum_named rels k r h).0
  named_terms (Rel k) (symmetry g i s o) h = absurd h
  named_terms (Swap g at) (relation r m) h = absurd h
  named_terms (Swap g at) (symmetry j i s o) h = signed_terms j i at s h.1 o ∙ ap (λ l. symmetry_rule p generators l at) (sym h.0)
  named_terms (Step k) r h = absurd h

  named_arity : (rule : program_rule.Rule) (r : Rule whole) → Names p generators rels rule r → rule_arity whole r ≡ element_arity (rule_terms whole r)
  named_arity (Rel k) (relation r m) h = let n = sum_named rels k r h in n.1 ∙ ap element_arity (sym n.0)
  named_arity (Rel k) (symmetry g i s o) h = absurd h
  named_arity (Swap g at) (relation r m) h = absurd h
  named_arity (Swap g at) (symmetry j i s o) h = let k = arity (parts_at generators) j in sym (leaf_count-numbered k (node j (numbered 0 k)) (numbered-numbered j k))
  named_arity (Step k) r h = absurd h

  -- ---- and the one that is found

  pub record Found (rule : program_rule.Rule) : Type 0 where
    pub named : Rule whole
    pub names : Names p generators rels rule named

  relation_at : (sums : List (List Term)) (k : ℕ) → (sum_at sums k ≡ [] → ⊥) → (sum : List Term) × Mem (relation_of sum) (map relation_of sums) × Nth k (map relation_of sums) (relation_of sum)
  relation_at [] k h = absurd (h refl)
  relation_at (x ∷ xs) zero h = absurd (h refl)
  relation_at (x ∷ xs) (suc zero) h = (x, inl refl, refl)
  relation_at (x ∷ xs) (suc (suc k)) h = let r = relation_at xs (suc k) h in (r.0, inr r.1, r.2)

  swap_found : (g at : ℕ) → (symmetry_rule p generators g at ≡ [] → ⊥) → Found (Swap g at)
  swap_found g zero h = absurd (h refl)
  swap_found g (suc i) h = go (exchange_sign (parts_at generators g) i) refl
    where
      go : (sign : Option Sign) → exchange_sign (parts_at generators g) i ≡ sign → Found (Swap g (suc i))
      go None e = absurd (h (ap (symmetry_terms p generators g (suc i)) e))
      go (Some s) e = record { named = symmetry g i s (exchange-in_part (parts_at generators g) i s e); names = (refl, refl) }

  rule_found : (rule : program_rule.Rule) → IsNoStep rule → (rule_element p generators rels steps rule ≡ [] → ⊥) → Found rule
  rule_found (Rel k) o h = let r = relation_at rels k h in record { named = relation (relation_of r.0) r.1; names = r.2 }
  rule_found (Swap g at) o h = swap_found g at h
  rule_found (Step k) o h = absurd o

  module _ (n : ℕ) (instance : Instance) where
    abbrev cited : List (ℕ × Tree ℕ)
    cited = rule_element p generators rels steps instance.rule

    -- the instance of the definitions around a rule that is named
    around : (rule : Rule whole) → Names p generators rels instance.rule rule → IsValidInstance generators cited n instance → (plain : PlainInstance whole n) × AreOneInstance p generators rels n plain instance
    around rule names v =
        let terms : rule_terms whole rule ≡ cited = named_terms instance.rule rule names in (
          record {
            residue = instance.coef;
            context = tree_of instance.context;
            rule = rule;
            inputs = map tree_of instance.inputs;
            is_context = v.is_context;
            as_many = length-map instance.inputs tree_of ∙ v.as_many ∙ ap element_arity (sym terms) ∙ sym (named_arity instance.rule rule names);
            no_zero = no_zero_each instance.inputs (recursion_from_All (λ t. occurs 0 (tree_of t) ≡ 0) instance.inputs v.no_zero);
            labelled = subst (λ e. AllTerms (moved (in_place instance) e) (IsLabelled generators n)) (sym terms) v.labelled;
          },
          record { residue = refl; context = refl; rule = names; inputs = refl },
        )

    valid_around : (plain : PlainInstance whole n) → AreOneInstance p generators rels n plain instance → (rule_terms whole plain.rule ≡ [] → ⊥) → IsValidInstance generators cited n instance
    valid_around plain one some =
        let terms : rule_terms whole plain.rule ≡ cited = named_terms instance.rule plain.rule one.rule in
        let inputs : map tree_of instance.inputs ≡ plain.inputs = sym one.inputs in
        let place : placed plain.context plain.inputs ≡ in_place instance = ap₂ placed one.context one.inputs in
        record {
          has_terms = λ e. some (terms ∙ e);
          as_many = sym (length-map instance.inputs tree_of) ∙ ap length inputs ∙ plain.as_many ∙ named_arity instance.rule plain.rule one.rule ∙ ap element_arity terms;
          is_context = subst IsContext one.context plain.is_context;
          no_zero = All-from_recursion (λ t. occurs 0 (tree_of t) ≡ 0) instance.inputs
              (each_no_zero instance.inputs (λ u m. plain.no_zero u (subst (Mem u) inputs m)));
          labelled = subst (λ e. AllTerms (moved (in_place instance) e) (IsLabelled generators n)) terms
              (subst (λ (f : Tree ℕ → Tree ℕ). AllTerms (moved f (rule_terms whole plain.rule)) (IsLabelled generators n)) place plain.labelled);
        }

    one_element : 0 < p → (plain : PlainInstance whole n) → AreOneInstance p generators rels n plain instance → Same tree_discrete (p - 1) (instance_element p cited instance) (element whole n plain)
    one_element positive plain one =
        let terms : cited ≡ rule_terms whole plain.rule = sym (named_terms instance.rule plain.rule one.rule) in
        let place : in_place instance ≡ placed plain.context plain.inputs = sym (ap₂ placed one.context one.inputs) in
        subst (Same tree_discrete (p - 1) (instance_element p cited instance))
        (ap₂ (λ (f : Tree ℕ → Tree ℕ) (e : List (ℕ × Tree ℕ)). scale instance.coef (moved f e)) place terms ∙ ap (λ c. scale c (moved (placed plain.context plain.inputs) (rule_terms whole plain.rule))) (sym one.residue))
        (element-same p positive cited instance)

    pub instance_law : 0 < p → IsNoStep instance.rule → InstanceLaw p generators rels steps n instance
    instance_law positive o = record {
      found = λ v. let r = rule_found instance.rule o v.has_terms in around r.named r.names v;
      valid = valid_around;
      same_element = one_element positive;
    }

  no_terms : (e : List (ℕ × Tree ℕ)) → ((e ≡ [] → ⊥) → ⊥) → e ≡ []
  no_terms [] h = refl
  no_terms (x ∷ e) h = absurd (h (λ k. cc k))

  answered : 0 < p → (instance : Instance) → IsNoStep instance.rule → (answer : Result (List Term) ExpandFail) → IsExpanded p generators (rule_element p generators rels steps instance.rule) instance answer
      → AnswersInstance p generators rels instance answer
  answered positive instance o (Ok sum) h =
      let n = h.0.0 in
      let law = instance_law n instance positive o in
      let plain = law.found h.0.1 in
      (n, plain.0, plain.1, subst (λ e. Same tree_discrete (p - 1) e (element whole n plain.0)) (sym h.1) (law.same_element plain.0 plain.1))
  answered positive instance o (Err Unfit) h = λ n plain one. no_terms (rule_terms whole plain.rule) (λ some. h n ((instance_law n instance positive o).valid plain one some))
  answered positive instance o (Err NoMemory) h = tt

pub expand_answers_instances : ExpandAnswersInstances
expand_answers_instances p generators rels steps instance positive o = (λ n. instance_law p generators rels steps n instance positive o, answered p generators rels steps positive instance o)
