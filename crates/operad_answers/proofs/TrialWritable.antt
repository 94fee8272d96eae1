-- The document of a trial may be written and read back.
use Rattle.std.proofs.Common.{◌≡◌, ℕ, suc, ◌≤◌, List, [], ◌∷◌, codes, length, map, refl, sym, ap, subst, arith, inl, inr}
use Rattle.std.specs.List.{All, AllByRecursion}
use Rattle.std.proofs.lemmas.List.{length-map}
use Rattle.std.proofs.lemmas.List.Elements.{All-from_recursion}
use Rattle.modular_sums.specs.Lists.{Mem}
use Rattle.modular_sums.specs.Sums.{AllTerms}
use Rattle.prime_field.specs.Primes.{IsFieldPrime}
use Rattle.symmetric_trees.specs.Generators.{IsTable}
use Rattle.symmetric_trees.specs.Trees.{IsLabelled}
use Rattle.symmetric_trees.specs.declared.generators.Generator.{Generator}
use Rattle.symmetric_trees.specs.declared.generators.PartKind.TheVariants.{Free}
use Rattle.symmetric_sums.specs.Terms.{terms_of}
use Rattle.symmetric_sums.specs.declared.term.Term.{Term}
use Rattle.presentation_text.specs.DraftReadings.{asked}
use Rattle.presentation_text.specs.LineReadings.{Asked, query, same}
use Rattle.presentation_text.specs.PrintedElements.{IsWrittenTerm, IsWrittenOver}
use Rattle.presentation_text.specs.ReadBack.{IsWrittenRelation, IsWrittenAsk}
use Rattle.presentation_text.specs.TreeText.{HasWords}
use Rattle.presentation_text.specs.declared.document.Ask.{Ask}
use Rattle.presentation_text.specs.declared.document.AskKind.{AskKind}
use Rattle.presentation_text.specs.declared.document.AskKind.TheVariants.{Query, Same}
use Rattle.presentation_text.specs.declared.document.Document.{Document}
use Rattle.presentation_text.specs.declared.document.OrderName.TheVariants.{Path, WeightPath}
use Rattle.certificate_text.proofs.WrittenSums.{of_image}
use Rattle.trial_elements.specs.PreLie.{pre_lie_terms}
use Rattle.trial_elements.specs.Elements.{minus_one, trial_elements}
use Rattle.trial_elements.specs.Laws.{HasResidues}
use Rattle.trial_elements.proofs.Combs.{sound}
use Rattle.trial_elements.proofs.Trials.{labelled}
use Rattle.operad_answers.specs.Texts.{Sum}
use Rattle.operad_answers.specs.Verdicts.{numbered_from}
use Rattle.operad_answers.specs.TrialDocuments.{trial_generator, trial_questions, IsTrialDocument}
use Rattle.operad_answers.specs.TrialLaws.{TrialDocumentsAreWritable}
use Rattle.operad_answers.proofs.OneGenerator.{binary_table}
use Rattle.operad_answers.proofs.ProgramSums.{writable_tree}
use Rattle.operad_answers.proofs.TrialTexts.{words}

abbrev generators : List Generator
generators = trial_generator ∷ []

writable_terms : (n : ℕ) → n ≤ 9 → (e : Sum) → AllTerms e (IsLabelled generators n) → HasResidues minus_one e → AllByRecursion (IsWrittenTerm 32003 generators n) e
writable_terms n few [] h r = tt
writable_terms n few (x ∷ e) h r = (record { nonzero = r.0.0; residue = r.0.1; tree = writable_tree generators n x.1 few h.0 }, writable_terms n few e h.1 r.1)

writable_sum : (n : ℕ) → n ≤ 9 → (e : Sum) → AllTerms e (IsLabelled generators n) → HasResidues minus_one e → IsWrittenOver 32003 generators n e
writable_sum n few e h r = All-from_recursion (IsWrittenTerm 32003 generators n) e (writable_terms n few e h r)

relation : IsWrittenRelation 32003 generators (pre_lie_terms minus_one)
relation = (
  3,
  omega arith,
  writable_sum 3 (omega arith) (pre_lie_terms minus_one) (sound minus_one (record { arity = 3; terms = pre_lie_terms minus_one }) (inl refl))
      ((omega arith, omega arith), ((omega arith, omega arith), ((omega arith, omega arith), ((omega arith, omega arith), tt)))),
)

-- ---- questions

abbrev IsWritableKind : Asked → Type 0
IsWritableKind (query e) = (n : ℕ) × IsWrittenOver 32003 generators n e
IsWritableKind (same left right) = (n : ℕ) × IsWrittenOver 32003 generators n left × IsWrittenOver 32003 generators n right

abbrev IsWritableAsked : ℕ × Asked → Type 0
IsWritableAsked x = IsWritableKind x.1

by_kind : (ask : Ask) → IsWritableAsked (asked ask) → IsWrittenAsk 32003 generators ask.kind
by_kind ask = go ask.line ask.kind
  where
    go : (line : ℕ) (kind : AskKind) → IsWritableAsked (asked (record { line = line; kind = kind })) → IsWrittenAsk 32003 generators kind
    go line (Query sum) h = h
    go line (Same left right) h = h

each_question : (number : ℕ) (l : List Sum) → ((e : Sum) → Mem e l → IsWrittenOver 32003 generators 5 e) → AllByRecursion IsWritableAsked (numbered_from number (map (λ e. same e []) l))
each_question number [] h = tt
each_question number (e ∷ l) h = ((5, h e (inl refl), λ k x w. absurd (omega (arith, w))), each_question (suc number) l (λ f m. h f (inr m)))

questions : (seed : ℕ) → AllByRecursion IsWritableAsked (numbered_from 6 (trial_questions seed))
questions seed = each_question 6 (trial_elements seed) (λ e m. writable_sum 5 (omega arith) e ((labelled seed).labelled e m) ((labelled seed).residues e m))

-- ---- the document

module _ (seed : ℕ) (d : Document) (h : IsTrialDocument seed d) where
  over_generators : (P : List Generator → Type 0) → P generators → P d.gens
  over_generators P k = subst P (sym h.generators_are) k

  over : (P : ℕ → List Generator → Type 0) → P 32003 generators → P d.field d.gens
  over P k = subst (λ p. P p d.gens) (sym h.field_is) (over_generators (P 32003) k)

  one_relation : length d.rels ≤ 1000
  one_relation = let e = ap length h.relations_are in let m = length-map d.rels terms_of in omega (arith, e, m)

  relations : All (λ (sum : List Term). IsWrittenRelation 32003 generators (terms_of sum)) d.rels
  relations = of_image (IsWrittenRelation 32003 generators) (λ (sum : List Term). IsWrittenRelation 32003 generators (terms_of sum)) terms_of (λ sum k. k) d.rels
      (subst (All (IsWrittenRelation 32003 generators)) (sym h.relations_are) (All-from_recursion (IsWrittenRelation 32003 generators) (pre_lie_terms minus_one ∷ []) (relation, tt)))

  asks : All (λ (ask : Ask). IsWrittenAsk 32003 generators ask.kind) d.asks
  asks = of_image IsWritableAsked (λ (ask : Ask). IsWrittenAsk 32003 generators ask.kind) asked by_kind d.asks
      (subst (All IsWritableAsked) (sym h.asks_are) (All-from_recursion IsWritableAsked (numbered_from 6 (trial_questions seed)) (questions seed)))

pub documents_are_writable : TrialDocumentsAreWritable
documents_are_writable seed d h = record {
  version = inr (
    h.version_is,
    record {
      one_part = over_generators seed d h (All (λ g. length g.parts ≡ 1)) (All-from_recursion (λ g. length g.parts ≡ 1) generators (refl, tt));
      no_weights = subst (All (λ w. w ≡ 0)) (sym h.weights_are) (All-from_recursion (λ w. w ≡ 0) (0 ∷ []) (refl, tt));
      no_weight_order = λ e. let both : Path ≡ WeightPath = cc (e, h.order_is) in absurd (cc both);
    },
  );
  field = subst IsFieldPrime (sym h.field_is) (inr (inr (inr (inr (inl refl)))));
  table = over_generators seed d h IsTable (binary_table (codes "p") Free);
  words = over_generators seed d h HasWords words;
  short = over_generators seed d h (All (λ g. length g.name ≤ 16)) (All-from_recursion (λ g. length g.name ≤ 16) generators (omega arith, tt));
  weights = let a = ap length h.weights_are in let b = ap length h.generators_are in omega (arith, a, b);
  small = subst (All (λ w. w ≤ 1000000)) (sym h.weights_are) (All-from_recursion (λ w. w ≤ 1000000) (0 ∷ []) (omega arith, tt));
  few = one_relation seed d h;
  relations = over seed d h (λ p gens. All (λ sum. IsWrittenRelation p gens (terms_of sum)) d.rels) (relations seed d h);
  asks = over seed d h (λ p gens. All (λ ask. IsWrittenAsk p gens ask.kind) d.asks) (asks seed d h);
}
