use Rattle.std.proofs.Common.{◌≡◌, ◌∙◌, ℕ, ◌<◌, ◌≤◌, ◌++◌, ◌∷◌, [], List, sym, subst, ap, length, arith}
use mathlib.Core.Path.{ap₂}
use Rattle.std.specs.List.{All}
use Rattle.std.proofs.lemmas.List.{length-map}
use Rattle.modular_sums.specs.Lists.{Mem}
use Rattle.symmetric_sums.specs.Terms.{HaveResidues}
use Rattle.symmetric_sums.specs.declared.term.Term.{Term}
use Rattle.cofactor_log.specs.Entries.{KeepsRule, elements_of}
use Rattle.cofactor_log.specs.Logs.{IsLog, Logged}
use Rattle.cofactor_log.specs.Marks.{CitesWithin, IsFounded}
use Rattle.cofactor_log.specs.Resting.{CiteEntry, ListsReached, UsesRestOn}
use Rattle.cofactor_log.specs.declared.entry.Entry.{Entry}
use Rattle.cofactor_log.proofs.Founded.{good_within, kept-founded}
use Rattle.certificate_text.specs.declared.block.Step.{Step}
use Rattle.certificate_check.specs.Blocks.{BlockHolds}
use Rattle.identity_queries.specs.Renumbering.{AreNewPlaces, AreWithin, number_in, place_in, renumbered_step, steps_at}
use Rattle.identity_queries.proofs.HeldSteps.{block-holds}
use Rattle.identity_queries.proofs.NewNumbers.{few_within, reached-within, steps-are}
use Rattle.identity_queries.proofs.WritableBlocks.{block_writable, place_small}
use Rattle.identity_queries.proofs.blocks.block_of.Goals as goal

module _ (log : Logged) (is_log : IsLog log) (last : Entry) (kept : KeepsRule log.field log.gens log.rels (elements_of log.entries) last) where
  founded : IsFounded log.entries
  founded = kept-founded log.field log.gens log.rels log.entries is_log.kept

  cites : CitesWithin (length log.entries) last.uses
  cites = subst (λ n. CitesWithin n last.uses) (length-map log.entries (λ (x : Entry). x.element)) (good_within log.field log.gens log.rels (elements_of log.entries) last.uses kept.uses)

  within : (found : List ℕ) → ListsReached (UsesRestOn log.entries last.uses) found → AreWithin (length log.entries) found
  within found rest k m = reached-within log.entries (CiteEntry last.uses) founded cites k ((rest.exactly k).0 m)

  residues : All (λ (entry : Entry). HaveResidues log.field entry.element) log.entries
  residues k d l = (is_log.elements_are k d l).fits.residues

  holds : (found : List ℕ) → ListsReached (UsesRestOn log.entries last.uses) found → BlockHolds log.field log.gens log.rels last.element (steps_at (place_in found) log.entries found ++ renumbered_step (place_in found) last ∷ [])
  holds found rest = block-holds log.field log.gens log.rels log.entries is_log.kept founded last kept found rest (within found rest)

  -- what was pushed, with the places for the new numbers
  pushed : (new steps : List Step) (step : Step) (one other numbers : List ℕ) (entries : List Entry) (numbers_found found : List ℕ) → new ≡ steps ++ step ∷ []
      → steps ≡ steps_at (number_in one) entries numbers_found → step ≡ renumbered_step (number_in other) last → one ≡ numbers → other ≡ numbers → entries ≡ log.entries → numbers_found ≡ found
      → ListsReached (UsesRestOn log.entries last.uses) found → AreNewPlaces found numbers → new ≡ steps_at (place_in found) log.entries found ++ renumbered_step (place_in found) last ∷ []
  pushed new steps step one other numbers entries numbers_found found e steps_are step_is e1 e2 e3 e4 rest places =
      e
      ∙ ap₂ (λ (s : List Step) (t : Step). s ++ t ∷ [])
      (steps_are ∙ ap (λ n. steps_at (number_in n) entries numbers_found) e1 ∙ ap (λ l. steps_at (number_in numbers) l numbers_found) e3 ∙ ap (λ l. steps_at (number_in numbers) log.entries l) e4)
      (step_is ∙ ap (λ n. renumbered_step (number_in n) last) e2)
      ∙ steps-are log.entries last found numbers founded (within found rest) cites places

pub new_numbers-requires-clause-rises : goal.new_numbers-requires-clause-rises
new_numbers-requires-clause-rises c = rw c.as_slice-2.ensures.value c.in_ok-found.ensures.rest.rises

pub new_numbers-requires-clause-within : goal.new_numbers-requires-clause-within
new_numbers-requires-clause-within c =
    let log = c.args.log.now in
    let is_log = c.entries-entries.ensures.log in
    let rest = subst (λ uses. ListsReached (UsesRestOn log.entries uses) c.in_ok-found.found.items) c.as_slice.ensures c.in_ok-found.ensures.rest in
    subst (λ entries. AreWithin (length entries) c.as_slice-2.result.now) (sym c.entries-entries.ensures.entries)
    (subst (AreWithin (length log.entries)) (sym c.as_slice-2.ensures.value) (within log is_log c.args.last.now c.requires.kept c.in_ok-found.found.items rest))

pub new_steps-requires-clause-residues : goal.new_steps-requires-clause-residues
new_steps-requires-clause-residues c =
    let log = c.args.log.now in
    subst (λ p. All (λ (entry : Entry). HaveResidues p entry.element) c.entries-entries.result.now) (sym c.field-field.ensures.field)
    (subst (All (λ (entry : Entry). HaveResidues log.field entry.element)) (sym c.entries-entries.ensures.entries) (residues log c.entries-entries.ensures.log c.args.last.now c.requires.kept))

pub new_steps-requires-clause-founded : goal.new_steps-requires-clause-founded
new_steps-requires-clause-founded c =
    subst IsFounded (sym c.entries-entries.ensures.entries) (founded c.args.log.now c.entries-entries.ensures.log c.args.last.now c.requires.kept)

pub new_steps-requires-clause-within : goal.new_steps-requires-clause-within
new_steps-requires-clause-within c =
    let log = c.args.log.now in
    let is_log = c.entries-entries.ensures.log in
    let rest = subst (λ uses. ListsReached (UsesRestOn log.entries uses) c.in_ok-found.found.items) c.as_slice.ensures c.in_ok-found.ensures.rest in
    subst (λ entries. AreWithin (length entries) c.as_slice-4.result.now) (sym c.entries-entries.ensures.entries)
    (subst (AreWithin (length log.entries)) (sym c.as_slice-4.ensures.value) (within log is_log c.args.last.now c.requires.kept c.in_ok-found.found.items rest))

pub new_step-requires-clause-within : goal.new_step-requires-clause-within
new_step-requires-clause-within c =
    let log = c.args.log.now in
    let long : length c.as_slice-5.result.now ≡ length log.entries = ap length c.as_slice-5.ensures.value ∙ c.in_ok-numbers.ensures.length ∙ ap length c.entries-entries.ensures.entries in
    subst (λ n. CitesWithin n c.args.last.now.uses) (sym long) (cites log c.entries-entries.ensures.log c.args.last.now c.requires.kept)

pub returns-clause-block : goal.returns-clause-block
returns-clause-block c =
    let log = c.args.log.now in
    let last = c.args.last.now in
    let found = c.in_ok-found.found.items in
    let numbers = c.in_ok-numbers.numbers.items in
    let rest = subst (λ uses. ListsReached (UsesRestOn log.entries uses) found) c.as_slice.ensures c.in_ok-found.ensures.rest in
    let places = subst (λ l. AreNewPlaces l numbers) c.as_slice-2.ensures.value c.in_ok-numbers.ensures.places in
    record {
      found = found;
      rest = rest;
      want_is = c.in_ok-want.ensures;
      steps_are = pushed log c.entries-entries.ensures.log last c.requires.kept c.push.new.self c.in_ok-steps.steps c.in_ok-step.step c.as_slice-3.result.now c.as_slice-5.result.now numbers
          c.entries-entries.result.now c.as_slice-4.result.now found c.in_ok-push.ensures.ok c.in_ok-steps.ensures c.in_ok-step.ensures c.as_slice-3.ensures.value c.as_slice-5.ensures.value
          c.entries-entries.ensures.entries c.as_slice-4.ensures.value rest places;
    }

pub returns-clause-holds : goal.returns-clause-holds
returns-clause-holds c =
    let log = c.args.log.now in
    let last = c.args.last.now in
    let is_log = c.entries-entries.ensures.log in
    let found = c.in_ok-found.found.items in
    let numbers = c.in_ok-numbers.numbers.items in
    let rest = subst (λ uses. ListsReached (UsesRestOn log.entries uses) found) c.as_slice.ensures c.in_ok-found.ensures.rest in
    let places = subst (λ l. AreNewPlaces l numbers) c.as_slice-2.ensures.value c.in_ok-numbers.ensures.places in
    let steps = pushed log is_log last c.requires.kept c.push.new.self c.in_ok-steps.steps c.in_ok-step.step c.as_slice-3.result.now c.as_slice-5.result.now numbers
    c.entries-entries.result.now c.as_slice-4.result.now found c.in_ok-push.ensures.ok c.in_ok-steps.ensures c.in_ok-step.ensures c.as_slice-3.ensures.value c.as_slice-5.ensures.value
    c.entries-entries.ensures.entries c.as_slice-4.ensures.value rest places in
    subst (λ want. BlockHolds log.field log.gens log.rels want c.push.new.self) (sym c.in_ok-want.ensures)
    (subst (BlockHolds log.field log.gens log.rels last.element) (sym steps) (holds log is_log last c.requires.kept found rest))

pub returns-clause-writable : goal.returns-clause-writable
returns-clause-writable c all one =
    let log = c.args.log.now in
    let last = c.args.last.now in
    let is_log = c.entries-entries.ensures.log in
    let found = c.in_ok-found.found.items in
    let numbers = c.in_ok-numbers.numbers.items in
    let rest = subst (λ uses. ListsReached (UsesRestOn log.entries uses) found) c.as_slice.ensures c.in_ok-found.ensures.rest in
    let places = subst (λ l. AreNewPlaces l numbers) c.as_slice-2.ensures.value c.in_ok-numbers.ensures.places in
    let steps = pushed log is_log last c.requires.kept c.push.new.self c.in_ok-steps.steps c.in_ok-step.step c.as_slice-3.result.now c.as_slice-5.result.now numbers
    c.entries-entries.result.now c.as_slice-4.result.now found c.in_ok-push.ensures.ok c.in_ok-steps.ensures c.in_ok-step.ensures c.as_slice-3.ensures.value c.as_slice-5.ensures.value
    c.entries-entries.ensures.entries c.as_slice-4.ensures.value rest places in
    let held = within log is_log last c.requires.kept found rest in
    let few = few_within found (length log.entries) rest.rises held in
    let most = is_log.few in
    block_writable log.field log.gens (place_in found) (λ k. let s = place_small found k in omega (arith, s, few, most)) log.entries found last c.in_ok-want.want c.push.new.self c.in_ok-want.ensures steps all held one
