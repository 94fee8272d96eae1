use Rattle.std.specs.Prelude.{slice_index}
use Rattle.std.proofs.Common.{refl, ◌<◌, ◌≡◌, ℕ, List, length, ap, arith, subst, ◌∙◌}
use native.Mathlib.Decide.{ℕ_discrete}
use Rattle.modular_sums.specs.Sums.{AllTerms, coef, moved}
use Rattle.shuffle_sums.specs.Sums.{pairs as ids_of}
use Rattle.modular_sums.specs.PositionRows.{dense}
use Rattle.row_sweeps.specs.Sweeps.{IsSpentAt, IsSweepRefusal as IsSweepRefusal, IsSweepCleared as IsSweepCleared}
use Rattle.row_sweeps.specs.declared.sweeping.SweepFail.{SweepFail}
use Rattle.std.specs.Prelude.{Err}
use Rattle.std.specs.Global.{Vec}
use Rattle.row_sweeps.specs.Terms.{pairs}
use Rattle.row_sweeps.specs.declared.row.Term.{Term}
use Rattle.division.specs.Rows.{id_at}
use Rattle.division.proofs.Rowing.{stands_length, leads, finished, stopped}
use Rattle.division.proofs.rows.sweep_row.Goals as goal

pub fill_row-requires-clause-few : goal.fill_row-requires-clause-few
fill_row-requires-clause-few c =
    let s = stands_length c.args.cone.now c.args.terms.now c.in_ok-placed.placed.items c.in_ok-placed.ensures.placed in
    let v = ap length c.as_slice.ensures.value in
    let f = c.requires.few in
    omega (arith, s, v, f)

pub returns-in-Ok-clause-rest : goal.returns-in-Ok-clause-rest
returns-in-Ok-clause-rest c =
    let filled = subst (λ (l : List Term). (t : ℕ) → slice_index c.fill_row.new.row t ≡ coef ℕ_discrete (pairs l) t) c.as_slice.ensures.value c.fill_row.ensures.filled in
    let w = c.in-Ok.ensures.swept in
    record {
      falls = w.reached.falls;
      within = subst (λ (k : ℕ). AllTerms (pairs c.in-Ok.rest.items) (λ p. p < k)) c.requires.cone.1.sized w.reached.within;
      leads = λ s n trees h. (leads c.requires.cone.0 c.args.cone.now c.requires.cone.1 s n trees h (ids_of c.args.terms.now) (pairs c.in_ok-placed.placed.items) c.in_ok-placed.ensures.placed c.fill_row.new.row filled (pairs c.in-Ok.rest.items) c.args.steps.now.count c.sweep.new.steps.count c.args.keep (pairs c.args.log.now.items) (pairs c.sweep.new.log.items) w.reached (moved (id_at c.args.cone.now) (pairs c.in-Ok.rest.items)) refl, finished c.requires.cone.0 c.args.cone.now c.requires.cone.1 s n trees h (ids_of c.args.terms.now) (pairs c.in_ok-placed.placed.items) c.in_ok-placed.ensures.placed c.fill_row.new.row filled (pairs c.in-Ok.rest.items) c.args.steps.now.count c.sweep.new.steps.count c.args.keep (pairs c.args.log.now.items) (pairs c.sweep.new.log.items) w.reached (moved (id_at c.args.cone.now) (pairs c.in-Ok.rest.items)) refl w.finished);
    }

pub returns-in-Err-Spent-clause-refused : goal.returns-in-Err-Spent-clause-refused
returns-in-Err-Spent-clause-refused c =
    let w : IsSpentAt c.args.cone.now.table.q c.args.cone.now.table.rules (dense c.fill_row.new.row) (pairs c.in-Err-Spent.row.items) c.args.steps.now c.sweep.new.steps c.args.keep (pairs c.args.log.now.items) (pairs c.sweep.new.log.items)
    = subst (IsSweepRefusal c.args.cone.now.table.q c.args.cone.now.table.rules (dense c.fill_row.new.row) c.args.steps.now c.sweep.new.steps c.args.keep (pairs c.args.log.now.items) (pairs c.sweep.new.log.items)) c.in-Err-Spent.field-0-is c.in-Err-Spent.ensures.refused in (
      w.full,
      λ s n trees h.
          let filled = subst (λ (l : List Term). (t : ℕ) → slice_index c.fill_row.new.row t ≡ coef ℕ_discrete (pairs l) t) c.as_slice.ensures.value c.fill_row.ensures.filled in
          let e : ids_of c.in_ok-lift_terms-in-Err-Spent.field-0 ≡ moved (id_at c.args.cone.now) (pairs c.in-Err-Spent.row.items)
          = c.in_ok-lift_terms-in-Err-Spent.ensures.lifted ∙ ap (λ (l : List Term). moved (id_at c.args.cone.now) (pairs l)) c.as_slice-in-Err-Spent.ensures.value in (
            leads c.requires.cone.0 c.args.cone.now c.requires.cone.1 s n trees h (ids_of c.args.terms.now) (pairs c.in_ok-placed.placed.items) c.in_ok-placed.ensures.placed c.fill_row.new.row filled (pairs c.in-Err-Spent.row.items)
                c.args.steps.now.count c.sweep.new.steps.count c.args.keep (pairs c.args.log.now.items) (pairs c.sweep.new.log.items) w.reached (ids_of c.in_ok-lift_terms-in-Err-Spent.field-0) e,
            stopped c.requires.cone.0 c.args.cone.now c.requires.cone.1 s n trees h (ids_of c.args.terms.now) (pairs c.in_ok-placed.placed.items) c.in_ok-placed.ensures.placed c.fill_row.new.row filled (pairs c.in-Err-Spent.row.items)
                c.args.steps.now.count c.sweep.new.steps.count c.args.keep (pairs c.args.log.now.items) (pairs c.sweep.new.log.items) w.reached (ids_of c.in_ok-lift_terms-in-Err-Spent.field-0) e w.stopped,
          ),
    )

pub returns-in-Ok-clause-cleared : goal.returns-in-Ok-clause-cleared
returns-in-Ok-clause-cleared c = c.in-Ok.ensures.cleared

pub returns-in-Err-Spent-clause-cleared : goal.returns-in-Err-Spent-clause-cleared
returns-in-Err-Spent-clause-cleared c = subst (λ (f : SweepFail). IsSweepCleared {T = Vec Term} (Err f) c.sweep.new.row) c.in-Err-Spent.field-0-is c.in-Err-Spent.ensures.cleared
