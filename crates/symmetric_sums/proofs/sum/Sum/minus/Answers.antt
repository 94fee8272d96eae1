use Rattle.std.proofs.Common.{◌++◌, ◌∙◌, ap₂}
use Rattle.symmetric_sums.specs.Terms.{negated}
use Rattle.symmetric_sums.proofs.Numberings.{sum-joint, one_arity-joint, residues-joint}
use Rattle.symmetric_sums.proofs.sum.Sum.minus.Goals as goal

pub of_terms-requires : goal.of_terms-requires
of_terms-requires c = record {
  sum =
      sum-joint c.args.field c.args.self.now c.args.other.now c.in-Ok.terms c.in_ok-arity.arity c.terms.ensures.nonzero c.requires.residues c.in_ok-arity.ensures
      (c.in-Ok.ensures ∙ ap₂ (λ xs ys. xs ++ negated c.args.field ys) c.terms.ensures.terms c.terms-2.ensures.terms);
}

pub returns-in-Ok : goal.returns-in-Ok
returns-in-Ok c = record {
  answer = (
    c.of_terms.ensures.terms ∙ c.in-Ok.ensures ∙ ap₂ (λ xs ys. xs ++ negated c.args.field ys) c.terms.ensures.terms c.terms-2.ensures.terms,
    one_arity-joint c.args.self.now c.args.other.now c.in_ok-arity.arity c.in_ok-arity.ensures,
  );
  residues = λ h.
      residues-joint c.args.field c.args.self.now c.args.other.now c.of_terms.result c.terms-2.ensures.nonzero
      h c.requires.residues (c.of_terms.ensures.terms ∙ c.in-Ok.ensures ∙ ap₂ (λ xs ys. xs ++ negated c.args.field ys) c.terms.ensures.terms c.terms-2.ensures.terms);
}

pub returns-in-Err : goal.returns-in-Err
returns-in-Err c = record { answer = one_arity-joint c.args.self.now c.args.other.now c.in_ok-arity.arity c.in_ok-arity.ensures; residues = λ h. tt }
