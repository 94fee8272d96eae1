use Rattle.std.proofs.Common.{◌≡◌, ◌∙◌, ℕ, zero, suc, ◌+◌, ◌-◌, ◌<◌, List, [], ◌∷◌, ◌++◌, refl, sym, subst, ap, arith, length, get_or, map, take}
use Rattle.std.proofs.lemmas.List.{map-append, take_more}
use Rattle.symmetric_sums.specs.Terms.{HaveResidues}
use Rattle.cofactor_log.specs.Resting.{CiteEntry, uses_at}
use Rattle.cofactor_log.specs.declared.entry.Entry.{Entry}
use Rattle.cofactor_log.proofs.Citing.{uses-found}
use Rattle.identity_queries.specs.Renumbering.{entry_at, number_in, renumbered_step}
use Rattle.identity_queries.proofs.NewNumbers.{mem-get}
use Rattle.identity_queries.proofs.renumbering.new_steps.Goals as goal

-- which default is given doesn't matter
any_default : (entries : List Entry) (i : ℕ) (d e : Entry) → i < length entries → get_or entries i d ≡ get_or entries i e
any_default [] i d e l = absurd (omega (arith, l))
any_default (x ∷ entries) zero d e l = refl
any_default (x ∷ entries) (suc i) d e l = any_default entries i d e (omega (arith, l))

pub overflow_sub-entry : goal.overflow_sub-entry
overflow_sub-entry c =
    let within = c.requires.within (get_or c.args.found.now c.loop-number.number-index 0) (mem-get c.args.found.now c.loop-number.number-index c.loop-number-test.true) in
    omega (arith, within)

pub bounds-entries-number : goal.bounds-entries-number
bounds-entries-number c =
    let within = c.requires.within (get_or c.args.found.now c.loop-number.number-index 0) (mem-get c.args.found.now c.loop-number.number-index c.loop-number-test.true) in
    omega (arith, within)

pub new_step-requires-clause-residues : goal.new_step-requires-clause-residues
new_step-requires-clause-residues c =
    let n = get_or c.args.found.now c.loop-number.number-index 0 in
    let within = c.requires.within n (mem-get c.args.found.now c.loop-number.number-index c.loop-number-test.true) in
    let entry = c.index-entries-number.result in
    subst (λ (e : Entry). HaveResidues c.args.field e.element) (sym c.index-entries-number.is) (c.requires.residues (n - 1) entry (omega (arith, within)))

pub new_step-requires-clause-within : goal.new_step-requires-clause-within
new_step-requires-clause-within c =
    let n = get_or c.args.found.now c.loop-number.number-index 0 in
    let within = c.requires.within n (mem-get c.args.found.now c.loop-number.number-index c.loop-number-test.true) in
    let entry = c.index-entries-number.result in
    let number : suc (n - 1) ≡ n = omega (arith, within) in
    let own : uses_at c.args.entries.now n ≡ entry.uses =
    ap (uses_at c.args.entries.now) (sym number) ∙ uses-found c.args.entries.now (n - 1) entry (omega (arith, within)) ∙ ap (λ (e : Entry). e.uses) (sym c.index-entries-number.is) in
    λ k d.
    let below = c.requires.founded n k (subst (λ uses. CiteEntry uses k) (sym own) d) in
    (below.0, omega (arith, below, within, c.requires.long))

pub loop-number-preserved : goal.loop-number-preserved
loop-number-preserved c =
    let i = c.loop-number.number-index in
    let found = c.args.found.now in
    let n = get_or found i 0 in
    let entries = c.args.entries.now in
    let numbers = c.args.numbers.now in
    let nothing : Entry = record { element = []; uses = [] } in
    let within = c.requires.within n (mem-get found i c.loop-number-test.true) in
    let entry : c.index-entries-number.result ≡ entry_at entries n = c.index-entries-number.is ∙ any_default entries (n - 1) c.index-entries-number.result nothing (omega (arith, within)) in
    c.in_ok-push.ensures.ok ∙ ap (λ made. made ++ c.in_ok-new_step.field-0 ∷ []) c.loop-number.invariant
    ∙ ap (λ step. map (λ k. renumbered_step (number_in numbers) (entry_at entries k)) (take i found) ++ step ∷ []) (c.in_ok-new_step.ensures ∙ ap (renumbered_step (number_in numbers)) entry)
    ∙ sym (map-append (λ k. renumbered_step (number_in numbers) (entry_at entries k)) (take i found) (n ∷ []))
    ∙ ap (map (λ k. renumbered_step (number_in numbers) (entry_at entries k))) (sym (take_more found i 0 c.loop-number-test.true))
