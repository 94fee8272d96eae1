use Rattle.std.proofs.Common.{◌≡◌, ℕ, List, ap, subst, sym, ◌∙◌}
use Rattle.modular_sums.specs.Sums.{moved}
use Rattle.tree_store.specs.Stores.{tree_at}
use Rattle.shuffle_reductions.specs.Chains.{IsFinished}
use Rattle.shuffle_sums.specs.Sums.{pairs as ids_of}
use Rattle.row_sweeps.specs.Terms.{pairs}
use Rattle.row_sweeps.specs.declared.row.Term.{Term}
use Rattle.division.specs.Rows.{id_at, LeadsTo}
use Rattle.division.proofs.rows.reduce_row.Goals as goal

pub returns-clause-rest : goal.returns-clause-rest
returns-clause-rest c = λ s n trees h.
    let e : ids_of c.in_ok-lift_terms.field-0 ≡ moved (id_at c.args.cone.now) (pairs c.in_ok-rest.rest.items)
    = c.in_ok-lift_terms.ensures.lifted ∙ ap (λ (l : List Term). moved (id_at c.args.cone.now) (pairs l)) c.as_slice.ensures.value in
    let w = c.in_ok-rest.ensures.rest.leads s n trees h in (
      subst (λ (l : List (ℕ × ℕ)). LeadsTo s n trees h.insertions (ids_of c.args.terms.now) l c.args.steps.now.count c.sweep_row.new.steps.count c.args.keep (pairs c.args.log.now.items) (pairs c.sweep_row.new.log.items)) (sym e) w.0,
      subst (λ (l : List (ℕ × ℕ)). IsFinished s (moved (tree_at trees) l)) (sym e) w.1,
    )
