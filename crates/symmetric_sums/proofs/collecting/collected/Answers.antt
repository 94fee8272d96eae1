use Rattle.std.proofs.Common.{◌≡◌, List, ◌∙◌, sym, subst, refl}
use Rattle.std.specs.List.{All}
use Rattle.labelled_trees.specs.Meaning.{tree_of}
use Rattle.symmetric_trees.specs.Generators.{parts_at}
use Rattle.symmetric_trees.specs.Trees.{IsLabelled}
use Rattle.symmetric_sums.specs.Terms.{HaveResidues, terms_of}
use Rattle.operad_ideals.specs.Collected.{IsCollected}
use Rattle.symmetric_sums.specs.declared.term.Term.{Term}
use Rattle.symmetric_sums.proofs.Numberings.{one_arity}
use Rattle.symmetric_sums.proofs.SpelledTerms.{written-residues, form-made, form-sum}
use Rattle.symmetric_sums.proofs.collecting.collected.Goals as goal

pub joined-requires-clause-residues : goal.joined-requires-clause-residues
joined-requires-clause-residues c =
    written-residues c.args.field c.args.table.now c.terms.result.now c.in_ok-spellings.spellings.items c.as_mut_slice.result.now c.sort_from_last.new.terms c.in_ok-spellings.spellings.len
    c.as_mut_slice.ensures.value c.in_ok-spellings.spellings.ok.0 c.in_ok-spellings.ensures c.sort_from_last.ensures.permutation

pub returns-then-is_empty-clause-collected : goal.returns-then-is_empty-clause-collected
returns-then-is_empty-clause-collected c =
    let form = form-made c.args.field c.in-Some.arity c.args.table.now c.terms.result.now c.in_ok-spellings.spellings.items c.as_mut_slice.result.now c.sort_from_last.new.terms c.in_ok-terms.terms c.args.sum.now c.in_ok-spellings.spellings.len
    c.as_mut_slice.ensures.value c.in_ok-spellings.spellings.ok.0 c.in_ok-spellings.ensures c.terms.ensures.terms c.sort_from_last.ensures.permutation
    c.requires.fit (c.in-Some.ensures.arity.numbered c.in-Some.arity refl).1 c.in_ok-terms.ensures in
    subst (λ (xs : List Term). IsCollected c.args.field (parts_at c.args.table.now) (terms_of c.args.sum.now) (terms_of xs)) (c.if-is_empty.ensures.0 refl ∙ sym c.new-then-is_empty.ensures.empty) form.collected

pub of_terms-requires : goal.of_terms-requires
of_terms-requires c =
    let form = form-made c.args.field c.in-Some.arity c.args.table.now c.terms.result.now c.in_ok-spellings.spellings.items c.as_mut_slice.result.now c.sort_from_last.new.terms c.in_ok-terms.terms c.args.sum.now c.in_ok-spellings.spellings.len
    c.as_mut_slice.ensures.value c.in_ok-spellings.spellings.ok.0 c.in_ok-spellings.ensures c.terms.ensures.terms c.sort_from_last.ensures.permutation
    c.requires.fit (c.in-Some.ensures.arity.numbered c.in-Some.arity refl).1 c.in_ok-terms.ensures in
    record { sum = form-sum c.args.field c.in-Some.arity c.args.table.now c.args.sum.now c.in_ok-terms.terms form (λ e. cc (c.if-is_empty.ensures.1 e)) }

pub returns-clause-collected : goal.returns-clause-collected
returns-clause-collected c =
    let form = form-made c.args.field c.in-Some.arity c.args.table.now c.terms.result.now c.in_ok-spellings.spellings.items c.as_mut_slice.result.now c.sort_from_last.new.terms c.in_ok-terms.terms c.args.sum.now c.in_ok-spellings.spellings.len
    c.as_mut_slice.ensures.value c.in_ok-spellings.spellings.ok.0 c.in_ok-spellings.ensures c.terms.ensures.terms c.sort_from_last.ensures.permutation
    c.requires.fit (c.in-Some.ensures.arity.numbered c.in-Some.arity refl).1 c.in_ok-terms.ensures in
    subst (λ (xs : List Term). IsCollected c.args.field (parts_at c.args.table.now) (terms_of c.args.sum.now) (terms_of xs)) (sym c.of_terms.ensures.terms) form.collected

pub returns-clause-labelled : goal.returns-clause-labelled
returns-clause-labelled c n have =
    let form = form-made c.args.field c.in-Some.arity c.args.table.now c.terms.result.now c.in_ok-spellings.spellings.items c.as_mut_slice.result.now c.sort_from_last.new.terms c.in_ok-terms.terms c.args.sum.now c.in_ok-spellings.spellings.len
    c.as_mut_slice.ensures.value c.in_ok-spellings.spellings.ok.0 c.in_ok-spellings.ensures c.terms.ensures.terms c.sort_from_last.ensures.permutation
    c.requires.fit (c.in-Some.ensures.arity.numbered c.in-Some.arity refl).1 c.in_ok-terms.ensures in
    let same : c.in-Some.arity ≡ n = one_arity c.args.sum.now c.in-Some.arity n c.in-Some.ensures.arity have in
    subst (λ (xs : List Term). All (λ (x : Term). IsLabelled c.args.table.now n (tree_of x.tree)) xs) (sym c.of_terms.ensures.terms)
    (subst (λ m. All (λ (x : Term). IsLabelled c.args.table.now m (tree_of x.tree)) c.in_ok-terms.terms) same form.labelled)

pub returns-clause-residues : goal.returns-clause-residues
returns-clause-residues c =
    let form = form-made c.args.field c.in-Some.arity c.args.table.now c.terms.result.now c.in_ok-spellings.spellings.items c.as_mut_slice.result.now c.sort_from_last.new.terms c.in_ok-terms.terms c.args.sum.now c.in_ok-spellings.spellings.len
    c.as_mut_slice.ensures.value c.in_ok-spellings.spellings.ok.0 c.in_ok-spellings.ensures c.terms.ensures.terms c.sort_from_last.ensures.permutation
    c.requires.fit (c.in-Some.ensures.arity.numbered c.in-Some.arity refl).1 c.in_ok-terms.ensures in
    subst (λ (xs : List Term). HaveResidues c.args.field xs) (sym c.of_terms.ensures.terms) form.residues
