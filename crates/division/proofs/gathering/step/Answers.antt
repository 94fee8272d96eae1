use Rattle.std.proofs.Common.{ℕ, List, length, ◌≤◌, ◌≡◌, None, Some, slice_get, sym, subst, inl}
use Rattle.labelled_trees.specs.Trees.{Tree}
use Rattle.division.specs.Dividers.{AreDividers, AreReducers}
use Rattle.division.specs.Gathered.{IsWorking}
use Rattle.division.specs.KeptTails.{AreKept}
use Rattle.division.proofs.Meeting.{read_place, working_found, working_later}
use Rattle.division.proofs.gathering.step.Goals as goal
use Rattle.division.proofs.gathering.step.Goals.{After-extend_dividers}

-- what is known once more dividers were found
found_more : (c : After-extend_dividers) → IsWorking c.args.shelf.now.trees c.args.reducers.now c.args.groups.now c.extend_dividers.new.found c.args.kept.now
found_more c = working_found c.args.shelf.now.trees c.args.reducers.now c.args.groups.now c.args.found.now c.extend_dividers.new.found c.args.kept.now c.requires.working
    (subst (λ (ts : List (Tree ℕ)). AreDividers ts c.args.reducers.now c.extend_dividers.new.found) c.store.ensures.store c.extend_dividers.ensures.found)
    (subst (λ (ts : List (Tree ℕ)). length c.extend_dividers.new.found ≤ length ts) c.store.ensures.store c.extend_dividers.ensures.few) c.extend_dividers.ensures.grows

pub returns-in_err-extend_dividers-clause-working : goal.returns-in_err-extend_dividers-clause-working
returns-in_err-extend_dividers-clause-working c = found_more (goal.at.returns-in_err-extend_dividers-clause-working c).After-extend_dividers

pub make_tail-requires-clause-kept : goal.make_tail-requires-clause-kept
make_tail-requires-clause-kept c =
    subst (λ f. AreKept c.args.shelf.now.trees c.args.reducers.now f c.args.kept.now) (sym c.as_slice-in-Some.ensures) (found_more (goal.at.make_tail-requires-clause-kept c).After-extend_dividers).are_kept

pub make_tail-requires-clause-divided : goal.make_tail-requires-clause-divided
make_tail-requires-clause-divided c = (
  c.in-Some.field-0,
  subst (λ f. slice_get f c.args.id ≡ Some (Some c.in-Some.field-0)) (sym c.as_slice-in-Some.ensures)
      (read_place c.as_slice.result.now c.extend_dividers.new.found c.index.result c.args.id (Some c.in-Some.field-0) c.as_slice.ensures c.index.ensures.index c.in_ok-extend_dividers.ensures.there c.in-Some.is),
)

pub returns-in_err-make_tail-in-Some-clause-working : goal.returns-in_err-make_tail-in-Some-clause-working
returns-in_err-make_tail-in-Some-clause-working c =
    working_later c.args.shelf.now.trees c.make_tail.new.shelf.trees c.args.reducers.now c.args.groups.now c.extend_dividers.new.found c.args.kept.now c.make_tail.new.kept
    (found_more (goal.at.returns-in_err-make_tail-in-Some-clause-working c).After-extend_dividers) c.make_tail.ensures.keeps.trees c.make_tail.ensures.shelf.store
    (subst (λ f. AreKept c.make_tail.new.shelf.trees c.args.reducers.now f c.make_tail.new.kept) c.as_slice-in-Some.ensures c.make_tail.ensures.kept)

pub returns-in_ok-make_tail-in-Some-clause-working : goal.returns-in_ok-make_tail-in-Some-clause-working
returns-in_ok-make_tail-in-Some-clause-working c =
    working_later c.args.shelf.now.trees c.make_tail.new.shelf.trees c.args.reducers.now c.args.groups.now c.extend_dividers.new.found c.args.kept.now c.make_tail.new.kept
    (found_more (goal.at.returns-in_ok-make_tail-in-Some-clause-working c).After-extend_dividers) c.make_tail.ensures.keeps.trees c.make_tail.ensures.shelf.store
    (subst (λ f. AreKept c.make_tail.new.shelf.trees c.args.reducers.now f c.make_tail.new.kept) c.as_slice-in-Some.ensures c.make_tail.ensures.kept)

pub returns-in-None-clause-step : goal.returns-in-None-clause-step
returns-in-None-clause-step c =
    let there : slice_get c.extend_dividers.new.found c.args.id ≡ Some None =
    read_place c.as_slice.result.now c.extend_dividers.new.found c.index.result c.args.id None c.as_slice.ensures c.index.ensures.index c.in_ok-extend_dividers.ensures.there c.in-None.is in
    inl (record { found_is = there; none = (found_more (goal.at.returns-in-None-clause-step c).After-extend_dividers).are_dividers c.args.id None there }, c.new-tail.ensures)

pub returns-in-None-clause-working : goal.returns-in-None-clause-working
returns-in-None-clause-working c = found_more (goal.at.returns-in-None-clause-working c).After-extend_dividers

pub extend_dividers-requires-clause-reducers : goal.extend_dividers-requires-clause-reducers
extend_dividers-requires-clause-reducers c = subst (λ (ts : List (Tree ℕ)). AreReducers ts c.args.reducers.now) (sym c.store.ensures.store) c.requires.working.are_reducers
