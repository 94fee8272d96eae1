-- What a document that may be written asks are elements of their arities.
use Rattle.std.proofs.Common.{ℕ, suc, ◌-◌, List, [], ◌∷◌, map, sym, arith, subst, inl, inr}
use Rattle.std.specs.List.{All}
use Rattle.modular_sums.specs.Lists.{Mem}
use Rattle.modular_sums.specs.Sums.{AllTerms, scale}
use Rattle.modular_sums.proofs.Sums.{AllTerms-append, AllTerms-scale}
use Rattle.counted_runs.specs.Items.{Question, AsksElements}
use Rattle.symmetric_trees.specs.Trees.{IsLabelled}
use Rattle.symmetric_trees.specs.declared.generators.Generator.{Generator}
use Rattle.symmetric_sums.specs.Terms.{terms_of}
use Rattle.symmetric_sums.specs.Instances.{element_arity}
use Rattle.presentation_text.specs.DraftReadings.{asked_kind}
use Rattle.presentation_text.specs.ReadBack.{IsWritable, IsWrittenAsk}
use Rattle.presentation_text.specs.declared.document.Ask.{Ask}
use Rattle.presentation_text.specs.declared.document.AskKind.{AskKind}
use Rattle.presentation_text.specs.declared.document.AskKind.TheVariants.{Query, Same}
use Rattle.presentation_text.specs.declared.document.Document.{Document}
use Rattle.operad_answers.specs.Budgets.{asked_element, question_of, counted}
use Rattle.operad_answers.specs.Verdicts.{difference}
use Rattle.operad_answers.proofs.WellFormed.{writable_labelled, labelled_element}

module _ (p : ℕ) (generators : List Generator) where
  one_element : (kind : AskKind) → IsWrittenAsk p generators kind
      → AllTerms (asked_element p (asked_kind kind)) (IsLabelled generators (element_arity (asked_element p (asked_kind kind))))
  one_element (Query sum) s = labelled_element generators s.0 (terms_of sum) (writable_labelled p generators s.0 (terms_of sum) s.1)
  one_element (Same left right) s = labelled_element generators s.0 (difference p (record { left = terms_of left; right = terms_of right }))
      (AllTerms-append (terms_of left) (scale (p - 1) (terms_of right)) (IsLabelled generators s.0) (writable_labelled p generators s.0 (terms_of left) s.1)
      (AllTerms-scale (p - 1) (terms_of right) (IsLabelled generators s.0) (writable_labelled p generators s.0 (terms_of right) s.2)))

  each_element : (asks : List Ask) → All (λ ask. IsWrittenAsk p generators ask.kind) asks → (e : Question) → Mem e (map (question_of p) (map (λ ask. asked_kind ask.kind) asks))
      → AllTerms e.terms (IsLabelled generators e.arity)
  each_element [] h e m = absurd m
  each_element (x ∷ asks) h e (inl q) = subst (λ (z : Question). AllTerms z.terms (IsLabelled generators z.arity)) (sym q) (one_element x.kind (h 0 x (omega arith)))
  each_element (x ∷ asks) h e (inr m) = each_element asks (λ k d l. h (suc k) d (omega (arith, l))) e m

pub asks_elements : (d : Document) → IsWritable d → AsksElements (counted d)
asks_elements d h = each_element d.field d.gens d.asks h.asks
