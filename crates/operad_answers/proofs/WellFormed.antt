-- What a document that is read writes is a presentation over a field, with an order of trees.
use Rattle.std.proofs.Common.{◌≡◌, ℕ, zero, suc, ◌*◌, ◌-◌, ◌%◌, ◌<◌, ◌≤◌, ◌⊎◌, List, [], ◌∷◌, length, map, refl, sym, ◌∙◌, ap, subst, inl, inr, arith}
use Rattle.std.specs.List.{All}
use Rattle.std.proofs.Math.Nat.{mod-eq_of_lt, mod-mod}
use Rattle.std.proofs.lemmas.Nat.{mod_below}
use Rattle.modular_sums.specs.Lists.{Mem}
use Rattle.modular_sums.specs.Residues.{IsCongruent}
use Rattle.modular_sums.specs.Sums.{AllTerms}
use Rattle.modular_sums.proofs.Residues.{congruent_mul}
use Rattle.labelled_trees.specs.Trees.{Tree}
use Rattle.labelled_trees.proofs.Counts.{leaf_count-labelled}
use Rattle.prime_field.specs.Primes.{IsFieldPrime}
use Rattle.prime_field.proofs.Laws.{fields}
use Rattle.operad_ideals.specs.Laws.{arity}
use Rattle.operad_ideals.specs.Presentations.{Relation}
use Rattle.shuffle_insertions.specs.Orders.{IsTreeOrder}
use Rattle.shuffle_transfer.specs.Labels.{inputs_of}
use Rattle.shuffle_transfer.proofs.NormalTrees.{order_of}
use Rattle.shuffle_completion.specs.Existence.{IsOverField, HasInverses}
use Rattle.symmetric_trees.specs.Generators.{parts_at, generators_of, IsTable, SizesFit}
use Rattle.symmetric_trees.specs.Trees.{IsLabelled}
use Rattle.symmetric_trees.specs.declared.generators.Generator.{Generator}
use Rattle.symmetric_trees.proofs.Tables.{sizes-held}
use Rattle.symmetric_sums.specs.Terms.{terms_of}
use Rattle.symmetric_sums.specs.Instances.{element_arity}
use Rattle.symmetric_sums.specs.Membership.{relation_of, IsElement}
use Rattle.symmetric_sums.specs.declared.term.Term.{Term}
use Rattle.presentation_text.specs.PrintedElements.{IsWrittenOver}
use Rattle.presentation_text.specs.ReadBack.{IsWrittenRelation, IsWritable, ReadDocumentsAreWritable}
use Rattle.presentation_text.specs.declared.document.Document.{Document}
use Rattle.presentation_text.proofs.ElementsAccepted.{elements_accepted}
use Rattle.presentation_text.proofs.TreesAccepted.{all_accepted}
use Rattle.presentation_text.proofs.WritableDocuments.{read_writable}
use Rattle.operad_answers.specs.OrderedPresentations.{OrderedPresentation, presentation, comparison, written, IsWellFormed}
use Rattle.operad_answers.specs.Texts.{Sum}
use Rattle.operad_answers.specs.Laws.{DocumentsAreWellFormed}

-- ---- elements that are read

pub writable_labelled : (p : ℕ) (generators : List Generator) (n : ℕ) (e : Sum) → IsWrittenOver p generators n e → AllTerms e (IsLabelled generators n)
writable_labelled p generators n [] h = tt
writable_labelled p generators n (x ∷ e) h = ((h 0 x (omega arith)).tree.labelled, writable_labelled p generators n e (λ k d l. h (suc k) d (omega (arith, l))))

-- the arity of an element that has terms is that of its trees
pub arity_of_labelled : (generators : List Generator) (n : ℕ) (x : ℕ × Tree ℕ) (e : Sum) → AllTerms (x ∷ e) (IsLabelled generators n) → element_arity (x ∷ e) ≡ n
arity_of_labelled generators n x e h = leaf_count-labelled (arity (parts_at generators)) n x.1 h.0

pub labelled_element : (generators : List Generator) (n : ℕ) (e : Sum) → AllTerms e (IsLabelled generators n) → IsElement generators e
labelled_element generators n [] h = tt
labelled_element generators n (x ∷ e) h = subst (λ m. AllTerms (x ∷ e) (IsLabelled generators m)) (sym (arity_of_labelled generators n x e h)) h

-- ---- relations

module _ (p : ℕ) (generators : List Generator) where
  relation_sound : (rels : List (List Term)) → All (λ sum. IsWrittenRelation p generators (terms_of sum)) rels → (r : Relation) → Mem r (map relation_of rels) → AllTerms r.terms (IsLabelled generators r.arity)
  relation_sound [] h r m = absurd m
  relation_sound (x ∷ rels) h r (inl e) =
      let writable = h 0 x (omega arith) in
      subst (λ z. AllTerms z.terms (IsLabelled generators z.arity)) (sym e) (labelled_element generators writable.0 (terms_of x) (writable_labelled p generators writable.0 (terms_of x) writable.2))
  relation_sound (x ∷ rels) h r (inr m) = relation_sound rels (λ k d l. h (suc k) d (omega (arith, l))) r m

  two_or_none : (n : ℕ) (e : Sum) → 2 ≤ n → AllTerms e (IsLabelled generators n) → (e ≡ []) ⊎ (2 ≤ element_arity e)
  two_or_none n [] two h = inl refl
  two_or_none n (x ∷ e) two h = let a = arity_of_labelled generators n x e h in inr (omega (arith, two, a))

  relation_proper : (rels : List (List Term)) → All (λ sum. IsWrittenRelation p generators (terms_of sum)) rels → (r : Relation) → Mem r (map relation_of rels) → (r.terms ≡ []) ⊎ (2 ≤ r.arity)
  relation_proper [] h r m = absurd m
  relation_proper (x ∷ rels) h r (inl e) =
      let writable = h 0 x (omega arith) in
      subst (λ z. (z.terms ≡ []) ⊎ (2 ≤ z.arity)) (sym e) (two_or_none writable.0 (terms_of x) writable.1 (writable_labelled p generators writable.0 (terms_of x) writable.2))
  relation_proper (x ∷ rels) h r (inr m) = relation_proper rels (λ k d l. h (suc k) d (omega (arith, l))) r m

pub writable_well_formed : (d : Document) → IsWritable d → IsWellFormed (written d)
writable_well_formed d h = record {
  prime = h.field;
  table = h.table;
  words = h.words;
  sound = relation_sound d.field d.gens d.rels h.relations;
  proper = relation_proper d.field d.gens d.rels h.relations;
}

pub documents_writable : ReadDocumentsAreWritable
documents_writable = read_writable (elements_accepted all_accepted)

-- ---- a field

pub prime_above : (p : ℕ) → IsFieldPrime p → 2 < p
prime_above p (inl e) = omega (arith, e)
prime_above p (inr (inl e)) = omega (arith, e)
prime_above p (inr (inr (inl e))) = omega (arith, e)
prime_above p (inr (inr (inr (inl e)))) = omega (arith, e)
prime_above p (inr (inr (inr (inr (inl e))))) = omega (arith, e)
prime_above p (inr (inr (inr (inr (inr (inl e)))))) = omega (arith, e)
prime_above p (inr (inr (inr (inr (inr (inr none)))))) = absurd none

inverses : (p : ℕ) → IsFieldPrime p → HasInverses (p - 1)
inverses p prime c nonzero =
    let above = prime_above p prime in
    let whole : suc (p - 1) ≡ p = omega (arith, above) in
    let r : ℕ = c % suc (p - 1) in
    let small : r < suc (p - 1) = mod_below c (suc (p - 1)) (omega arith) in
    let positive : 0 < c % suc (p - 1) = some (c % suc (p - 1)) (λ z. nonzero (z ∙ sym (mod-eq_of_lt (omega arith)))) in
    let i = (fields p prime).inverse r positive (omega (arith, small, whole)) in
    let same : IsCongruent (p - 1) (r * i.0) (c * i.0) = congruent_mul (p - 1) r c i.0 i.0 (mod-mod c (suc (p - 1))) refl in
    let turned : c * i.0 ≡ i.0 * c = omega arith in
    (i.0, ap (λ n. n % suc (p - 1)) (sym turned) ∙ sym same ∙ i.3)
  where
    some : (n : ℕ) → (n ≡ 0 → ⊥) → 0 < n
    some zero h = absurd (h refl)
    some (suc n) h = omega arith

-- ---- generators

arities_wide : (generators : List Generator) → IsTable generators → (g : ℕ) → g < length (generators_of generators) → 2 ≤ arity (parts_at generators) g
arities_wide generators table g l = go generators table.arities table.sizes g l
  where
    go : (gs : List Generator) → All (λ x. (2 ≤ x.arity) × (x.arity ≤ 6)) gs → All SizesFit gs → (g : ℕ) → g < length (generators_of gs) → 2 ≤ arity (parts_at gs) g
    go [] a s g l = absurd (omega (arith, l))
    go (x ∷ gs) a s zero l =
        let fit = (s 0 x (omega arith)).1 in
        let two = (a 0 x (omega arith)).0 in
        let e = sizes-held (x ∷ gs) 0 x refl in
        omega (arith, fit, two, e)
    go (x ∷ gs) a s (suc g) l = go gs (λ k d i. a (suc k) d (omega (arith, i))) (λ k d i. s (suc k) d (omega (arith, i))) g (omega (arith, l))

pub well_formed_over_field : (o : OrderedPresentation) → IsWellFormed o → IsOverField (presentation o)
well_formed_over_field o well_formed = record {
  not_zero = let above = prime_above o.field well_formed.prime in omega (arith, above);
  inverses = inverses o.field well_formed.prime;
  wide = arities_wide o.generators well_formed.table;
  sound = well_formed.sound;
  proper = well_formed.proper;
}

pub order_in : (o : OrderedPresentation) → IsTreeOrder (inputs_of (presentation o).generators) (comparison o)
order_in o = order_of (presentation o).generators o.order

pub documents_well_formed : DocumentsAreWellFormed
documents_well_formed = (writable_well_formed, λ bytes d h. writable_well_formed d (documents_writable bytes d h), λ o well_formed. (well_formed_over_field o well_formed, order_in o))
