use Rattle.std.proofs.Common.{◌<◌, ℕ, [], ◌∷◌, sym, subst, arith}
use Rattle.std.specs.List.{All}
use Rattle.std.proofs.lemmas.List.Elements.{All-push}
use Rattle.modular_sums.specs.Sums.{AllTerms}
use Rattle.modular_sums.proofs.Sums.{AllTerms-append}
use Rattle.labelled_trees.specs.Trees.{Tree}
use Rattle.shuffle_insertions.specs.ShuffleTrees.{IsShuffleTree}
use Rattle.shuffle_transfer.specs.Labels.{inputs_of}
use Rattle.symmetric_trees.specs.Generators.{generators_of}
use Rattle.rows.proofs.elements.shuffle_terms.Goals as goal

pub loop-term-preserved : goal.loop-term-preserved
loop-term-preserved c =
    let x = c.in_ok-shuffle_term.field-0 in
    let d = c.args.document.now in
    let e = sym c.in_ok-push.ensures.ok in
    record {
      residues = subst (All (λ (x : ℕ × Tree ℕ). (0 < x.0) × (x.0 < d.field))) e (All-push (λ (x : ℕ × Tree ℕ). (0 < x.0) × (x.0 < d.field)) c.loop-term.terms x c.loop-term.invariant.residues c.in_ok-shuffle_term.ensures.residue);
      trees = subst (λ ts. AllTerms ts (IsShuffleTree (inputs_of (generators_of d.gens)) c.unwrap_or-arity.result)) e
          (AllTerms-append c.loop-term.terms (x ∷ []) (IsShuffleTree (inputs_of (generators_of d.gens)) c.unwrap_or-arity.result) c.loop-term.invariant.trees (c.in_ok-shuffle_term.ensures.tree, tt));
    }

pub returns : goal.returns
returns c = record {
  residues = c.loop-term.invariant.residues;
  trees = (c.unwrap_or-arity.result, omega arith, c.loop-term.invariant.trees);
}
