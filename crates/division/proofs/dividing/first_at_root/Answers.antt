use Rattle.std.proofs.Common.{◌≡◌, ◌∙◌, ap, sym, subst, refl, get_or, slice_get, Some, arith}
use Rattle.std.proofs.lemmas.Option.{slice_get-get_or}
use Rattle.tree_store.specs.Stores.{tree_at}
use Rattle.shuffle_places.specs.RootPlaces.{DividesRoot}
use Rattle.division.specs.Parts.{part_at}
use Rattle.division.specs.Insertions.{IsReducer}
use Rattle.division.proofs.FirstDividers.{none_lower, one_more}
use Rattle.division.proofs.dividing.first_at_root.Goals as goal
use Rattle.division.proofs.dividing.first_at_root.Goals.{After-index-reducers-element}

-- the element that is tried stands in the list
standing : (c : After-index-reducers-element) → slice_get c.args.reducers.now (get_or c.args.candidates.now c.loop-candidate.candidate-index 0) ≡ Some c.index-reducers-element.result
standing c =
    let within = c.requires.candidates.within c.loop-candidate.candidate-index 0 c.loop-candidate-test.true in
    slice_get-get_or c.args.reducers.now (get_or c.args.candidates.now c.loop-candidate.candidate-index 0) c.index-reducers-element.result within ∙ ap Some (sym c.index-reducers-element.is)

tried : (c : After-index-reducers-element) → IsReducer c.args.store.now c.index-reducers-element.result
tried c = c.requires.reducers (get_or c.args.candidates.now c.loop-candidate.candidate-index 0) c.index-reducers-element.result (standing c)

pub returns-then-element-bound : goal.returns-then-element-bound
returns-then-element-bound c = record {
  first = none_lower c.args.store.now c.args.reducers.now (tree_at c.args.store.now c.args.id) c.args.candidates.now c.requires.candidates c.loop-candidate.candidate-index c.loop-candidate.invariant c.args.bound (λ _. c.if-element-bound.true);
}

pub divides_root-requires-clause-lead : goal.divides_root-requires-clause-lead
divides_root-requires-clause-lead c = (tried (goal.at.divides_root-requires-clause-lead c).After-index-reducers-element).lead_low

pub divides_root-requires-clause-valid : goal.divides_root-requires-clause-valid
divides_root-requires-clause-valid c = (tried (goal.at.divides_root-requires-clause-valid c).After-index-reducers-element).lead_valid

pub divides_root-requires-clause-room : goal.divides_root-requires-clause-room
divides_root-requires-clause-room c =
    let small = c.requires.room (get_or c.args.candidates.now c.loop-candidate.candidate-index 0) c.index-reducers-element.result (standing (goal.at.divides_root-requires-clause-room c).After-index-reducers-element) in
    omega arith

pub returns-then-divides_root : goal.returns-then-divides_root
returns-then-divides_root c =
    let element = get_or c.args.candidates.now c.loop-candidate.candidate-index 0 in
    record {
      first = (
        c.if-element-bound.false,
        (c.index-reducers-element.result, standing (goal.at.returns-then-divides_root c).After-index-reducers-element, (part_at c.args.store.now c.divides_root.new.parts, c.if-divides_root.ensures.divides refl)),
        none_lower c.args.store.now c.args.reducers.now (tree_at c.args.store.now c.args.id) c.args.candidates.now c.requires.candidates c.loop-candidate.candidate-index c.loop-candidate.invariant element (λ _. omega arith),
      );
    }

pub loop-candidate-preserved : goal.loop-candidate-preserved
loop-candidate-preserved c =
    let element = get_or c.args.candidates.now c.loop-candidate.candidate-index 0 in
    let stands = standing (goal.at.loop-candidate-preserved c).After-index-reducers-element in
    one_more c.args.store.now c.args.reducers.now (tree_at c.args.store.now c.args.id) c.args.candidates.now c.requires.candidates c.loop-candidate.candidate-index c.loop-candidate.invariant element refl
    (λ d. let same : d.0 ≡ c.index-reducers-element.result = cc (d.1, stands) in
    c.if-divides_root.ensures.not refl d.2.0 (subst (λ r. DividesRoot r.arity (tree_at c.args.store.now r.lead) (tree_at c.args.store.now c.args.id) d.2.0) same d.2.1))

pub returns : goal.returns
returns c = record {
  first = none_lower c.args.store.now c.args.reducers.now (tree_at c.args.store.now c.args.id) c.args.candidates.now c.requires.candidates c.loop-candidate.candidate-index c.loop-candidate.invariant c.args.bound (λ lt. absurd (omega arith));
}
