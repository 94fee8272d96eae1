use Rattle.std.proofs.Common.{rules, ◌≡◌, ◌∙◌, ◌++◌, ◌∷◌, [], List, ℕ, length, map, sym, ap, subst}
use Rattle.std.specs.List.{All, AllByRecursion}
use Rattle.itertools.specs.Pool.{permutation_left}
use Rattle.std.specs.Vec.{vec_len}
use Rattle.std.proofs.lemmas.List.Elements.{All-push}
use Rattle.shuffle_passage.specs.RelabelledSums.{IsRelabelledSum}
use Rattle.shuffle_insertions.specs.Listing.{upto}
use Rattle.shuffle_transfer.specs.Orderings.{orderings}
use Rattle.shuffle_passage.specs.Words.{chosen}
use Rattle.shuffle_passage.proofs.PermutedLists.{AreChoices, choices, orderings_chosen, all_choices, read_upto, order-more, next_ordering, no_more}
use Rattle.std.specs.Prelude.{MatchResult, ⊤}
use Rattle.std.proofs.Common.{Vec, Global}
use Rattle.itertools.specs.Odometer.{numbers}
use Rattle.itertools.specs.Pool.{ClonesAt, unranked}
use Rattle.shuffle_insertions.proofs.Counting.{length-upto}
use Rattle.shuffle_transfer.specs.Orderings.{IsOrdering}
use Rattle.symmetric_sums.proofs.Numberings.{one_arity}
use Rattle.shuffle_passage.specs.declared.permuting.Relabelled.{Relabelled}
use Rattle.shuffle_passage.proofs.permuting.relabellings.Goals as goal

pub loop-permutation-init : goal.loop-permutation-init
loop-permutation-init c =
    let same = c.into_iter-permutation-iterator.ensures.into_iter_gives in
    let whole = c.in_ok-permutation-items.ensures.pool in
    let source = c.copied-all.ensures in
    let slice = c.iter.ensures in
    let numbers = c.as_slice.ensures ∙ c.in_ok-numbers.ensures in
    let copied = source.runs whole.0 whole.0.seen whole.1 in
    let read = slice.runs copied.0 copied.0.seen in
    let pool : c.in_ok-permutation-items.permutation-items.pool.items ≡ upto c.in-Some.arity =
    whole.3 ∙ copied.2.2 ∙ read.4 (copied.2.0 ∙ whole.2) ∙ ap (λ s. s.rest.now) copied.1 ∙ slice.rest ∙ numbers in
    let size : vec_len c.in_ok-permutation-items.permutation-items.pool ≡ c.in-Some.arity = c.in_ok-permutation-items.permutation-items.pool.ok.0 ∙ ap length pool ∙ length-upto c.in-Some.arity in
    let left : permutation_left c.into_iter-permutation-iterator.result ≡ choices c.in-Some.arity c.in-Some.arity [] =
    ap permutation_left same ∙ c.in_ok-permutation-items.ensures.places ∙ ap (λ n. choices n c.in-Some.arity []) size in
    record {
      can = search rules;
      finite = search rules;
      pool = ap (λ it. it.pool.items) same ∙ pool;
      choices = subst (AllByRecursion (AreChoices c.in-Some.arity)) (sym left) (all_choices c.in-Some.arity);
      order = ap (λ found. map (λ answer. answer.permutation) found ++ map (chosen 0 (upto c.in-Some.arity)) (permutation_left c.into_iter-permutation-iterator.result)) c.new-found.ensures
          ∙ ap (map (chosen 0 (upto c.in-Some.arity))) left ∙ sym (orderings_chosen c.in-Some.arity);
      sums = search rules;
    }

-- what a step gives where a permutation came
abbrev Given : (pool : List ℕ) (left later : List (List ℕ)) → Vec ℕ Global → Type 0
Given pool left later v = (ds : List ℕ) × (left ≡ ds ∷ later) × ClonesAt (λ a b. b ≡ a) pool (unranked (numbers 0 (length pool)) ds) v.items

pub relabelled-requires-clause-permutation : goal.relabelled-requires-clause-permutation
relabelled-requires-clause-permutation c n some h =
    let m = c.in-Some.arity in
    let it = c.loop-permutation.permutation-iterator in
    let steps = c.in-Some-permutation.ensures.steps in
    let k : Given it.pool.items (permutation_left it) (permutation_left c.next.new.self) c.in_ok-permutation.permutation =
    subst (λ r. MatchResult r (Given it.pool.items (permutation_left it) (permutation_left c.next.new.self)) (λ _. ⊤)) c.in_ok-permutation.was steps.1 in
    let fit = subst (AllByRecursion (AreChoices m)) k.1 c.loop-permutation.invariant.choices in
    let read = read_upto m it.pool.items k.0 c.in_ok-permutation.permutation.items c.loop-permutation.invariant.pool fit.0 k.2 in
    let e : m ≡ n = one_arity c.args.rel.now m n c.in-Some.ensures.arity h in
    subst (λ j. IsOrdering j c.as_slice-in-loop-permutation.result.now) e
    (next_ordering m (map (λ answer. answer.permutation) c.loop-permutation.found) (permutation_left it) (permutation_left c.next.new.self) k.0 c.as_slice-in-loop-permutation.result.now k.1
    (c.as_slice-in-loop-permutation.ensures.value ∙ read) c.loop-permutation.invariant.order)

pub loop-permutation-preserved : goal.loop-permutation-preserved
loop-permutation-preserved c =
    let m = c.in-Some.arity in
    let it = c.loop-permutation.permutation-iterator in
    let steps = c.in-Some-permutation.ensures.steps in
    let k : Given it.pool.items (permutation_left it) (permutation_left c.next.new.self) c.in_ok-permutation.permutation =
    subst (λ r. MatchResult r (Given it.pool.items (permutation_left it) (permutation_left c.next.new.self)) (λ _. ⊤)) c.in_ok-permutation.was steps.1 in
    let fit = subst (AllByRecursion (AreChoices m)) k.1 c.loop-permutation.invariant.choices in
    let read = read_upto m it.pool.items k.0 c.in_ok-permutation.permutation.items c.loop-permutation.invariant.pool fit.0 k.2 in
    let answer : Relabelled = record { permutation = c.from_vec.result; sum = c.in_ok-sum.sum } in
    let slice : c.as_slice-in-loop-permutation.result.now ≡ c.from_vec.result = c.as_slice-in-loop-permutation.ensures.value ∙ sym c.from_vec.ensures in
    let sums = All-push (λ (x : Relabelled). IsRelabelledSum c.args.field c.args.table.now c.args.rel.now x.permutation x.sum) c.loop-permutation.found answer c.loop-permutation.invariant.sums
    (subst (λ v. IsRelabelledSum c.args.field c.args.table.now c.args.rel.now v c.in_ok-sum.sum) slice
    record { collected = c.in_ok-sum.ensures.collected; residues = c.in_ok-sum.ensures.residues; labelled = c.in_ok-sum.ensures.labelled }) in
    record {
      can = search rules;
      finite = search rules;
      pool = sym steps.0 ∙ c.loop-permutation.invariant.pool;
      choices = fit.1;
      order = order-more m (λ (x : Relabelled). x.permutation) c.loop-permutation.found c.push.new.self answer k.0 (permutation_left it) (permutation_left c.next.new.self) (orderings m) c.in_ok-push.ensures.ok k.1
          (c.from_vec.ensures ∙ read) c.loop-permutation.invariant.order;
      sums = subst (All (λ (x : Relabelled). IsRelabelledSum c.args.field c.args.table.now c.args.rel.now x.permutation x.sum)) (sym c.in_ok-push.ensures.ok) sums;
    }

pub returns-clause-permutations : goal.returns-clause-permutations
returns-clause-permutations c n some h =
    let m = c.in-Some.arity in
    let it = c.loop-permutation.permutation-iterator in
    let steps = c.in-None.ensures.steps in
    let e : m ≡ n = one_arity c.args.rel.now m n c.in-Some.ensures.arity h in
    no_more m (map (λ answer. answer.permutation) c.loop-permutation.found) (permutation_left it) steps.1 c.loop-permutation.invariant.order ∙ ap orderings e
