use Rattle.std.proofs.Common.{◌<◌, ◌*◌, ◌%◌, ◌∙◌, ap, subst, map, arith}
use Rattle.std.proofs.lemmas.List.{take_all}
use Rattle.prime_field.specs.Primes.{IsFieldPrime}
use Rattle.symmetric_sums.specs.declared.term.Term.{Term}
use Rattle.symmetric_sums.proofs.Numberings.{sum-scaled, residues-scaled}
use Rattle.symmetric_sums.proofs.sum.Sum.scaled.Goals as goal

pub of_terms-requires : goal.of_terms-requires
of_terms-requires c = record {
  sum =
      let positive : 0 < c.args.coef = omega arith in
      sum-scaled c.args.field c.args.coef c.args.self.now c.loop-term.terms c.arity-arity.result (subst IsFieldPrime c.prime-prime.ensures.value c.prime-prime.ensures.listed) positive c.requires.residue
      c.terms-term-items.ensures.nonzero c.requires.residues c.arity-arity.ensures.arity
      (c.loop-term.invariant ∙ ap (map (λ (x : Term). record { coef = (c.args.coef * x.coef) % c.args.field; tree = x.tree }))
      (take_all c.loop-term.term-index c.terms-term-items.result.now c.loop-term-test.false ∙ c.terms-term-items.ensures.terms));
}

pub returns-clause-residues : goal.returns-clause-residues
returns-clause-residues c =
    residues-scaled c.args.field c.args.coef c.args.self.now c.of_terms.result (omega (arith, c.requires.residue))
    (c.of_terms.ensures.terms ∙ c.loop-term.invariant ∙ ap (map (λ (x : Term). record { coef = (c.args.coef * x.coef) % c.args.field; tree = x.tree }))
    (take_all c.loop-term.term-index c.terms-term-items.result.now c.loop-term-test.false ∙ c.terms-term-items.ensures.terms))
