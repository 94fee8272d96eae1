use Rattle.std.proofs.Common.{◌+◌, ◌-◌, ◌∷◌, ◌∙◌, ℕ, List, [], ap, subst, sym, rules, refl}
use Rattle.modular_sums.specs.Lists.{Mem}
use Rattle.shuffle_trees.specs.ValidTrees.{IsValid}
use Rattle.common_multiples.specs.Merging.{merges, assigned, by_first, by_second}
use Rattle.common_multiples.specs.Listing.{chains_of, multiple_at, numbered_at}
use Rattle.common_multiples.proofs.MergeSteps.{at_end, first_listed, second_listed, goes_on, stays, both_ways, assigned_next}
use Rattle.common_multiples.proofs.merging.Site.+push_merged.Goals.{in-Some+in_ok-push_merged, in_default}
use Rattle.common_multiples.proofs.merging.Site.+push_merged.Goals as goal

pub multiple-requires-clause-valid : goal.multiple-requires-clause-valid
multiple-requires-clause-valid t c = c.requires.valid [] (at_end (chains_of c.args.chains.now) c.args.left c.args.next.0 c.args.next.1 c.if-left-eq0.true)

pub push_merged-requires : goal.push_merged-requires
push_merged-requires t c =
    let valid : (s : List ℕ) → Mem s (merges (chains_of c.args.chains.now) (c.args.left - 1) c.in-Some.i c.in-Some.j) → IsValid (numbered_at c.args.self.now (assigned s (c.args.given + 1 + 1) c.with_number-now.result))
    = λ s m. subst (λ n. IsValid (numbered_at c.args.self.now n)) (sym (assigned_next c.in-Some.leaf c.args.given c.args.numbers s c.with_number-now.result c.with_number-now.ensures.table))
    (c.requires.valid (c.in-Some.leaf ∷ s) (first_listed (chains_of c.args.chains.now) c.args.left c.args.next.0 c.args.next.1 c.if-left-eq0.false c.in-Some.leaf c.in-Some.i c.in-Some.j c.in-Some.ensures.step s m)) in
    search rules

pub push_merged-requires-in-Some-by_second : goal.push_merged-requires-in-Some-by_second
push_merged-requires-in-Some-by_second t c =
    let valid : (s : List ℕ) → Mem s (merges (chains_of c.args.chains.now) (c.args.left - 1) c.in-Some-by_second.i c.in-Some-by_second.j)
    → IsValid (numbered_at c.args.self.now (assigned s (c.args.given + 1 + 1) c.with_number-now-in-Some-by_second.result))
    = λ s m. subst (λ n. IsValid (numbered_at c.args.self.now n))
    (sym (assigned_next c.in-Some-by_second.leaf c.args.given c.args.numbers s c.with_number-now-in-Some-by_second.result c.with_number-now-in-Some-by_second.ensures.table))
    (c.requires.valid (c.in-Some-by_second.leaf ∷ s)
    (second_listed (chains_of c.args.chains.now) c.args.left c.args.next.0 c.args.next.1 c.if-left-eq0.false c.in-Some-by_second.leaf c.in-Some-by_second.i c.in-Some-by_second.j c.in-Some-by_second.ensures.step s m)) in
    search rules

pub returns-in_ok-push_merged-2 : goal.returns-in_ok-push_merged-2
returns-in_ok-push_merged-2 t c =
    let chains = chains_of c.args.chains.now in
    let f = λ (s : List ℕ). multiple_at c.args.self.now (assigned s (c.args.given + 1) c.args.numbers) in
    let rest = merges chains (c.args.left - 1) in
    record {
      found = both_ways f chains c.args.left c.args.next.0 c.args.next.1 c.args.found.now.items c.match-by_first.found.items c.push_merged-in-Some-by_second.new.found.items c.if-left-eq0.false
          (elim c.match-by_first.branch [
            | in-Some+in_ok-push_merged w ↦
                goes_on f (by_first chains c.args.next.0 c.args.next.1) rest c.args.found.now.items c.match-by_first.found.items w.in-Some.leaf w.in-Some.i w.in-Some.j
                (λ s. multiple_at c.args.self.now (assigned s (c.args.given + 1 + 1) w.with_number-now.result)) w.in-Some.ensures.step
                (λ s. ap (multiple_at c.args.self.now) (assigned_next w.in-Some.leaf c.args.given c.args.numbers s w.with_number-now.result w.with_number-now.ensures.table))
                (ap (λ v. v.items) w.found-is ∙ w.in_ok-push_merged.ensures.found)
            | in_default w ↦ stays f (by_first chains c.args.next.0 c.args.next.1) rest c.args.found.now.items c.match-by_first.found.items w.in_default.ensures.step (ap (λ v. v.items) w.found-is)
          ])
          (goes_on f (by_second chains c.args.next.0 c.args.next.1) rest c.match-by_first.found.items c.push_merged-in-Some-by_second.new.found.items
          c.in-Some-by_second.leaf c.in-Some-by_second.i c.in-Some-by_second.j (λ s. multiple_at c.args.self.now (assigned s (c.args.given + 1 + 1) c.with_number-now-in-Some-by_second.result))
          c.in-Some-by_second.ensures.step
          (λ s. ap (multiple_at c.args.self.now) (assigned_next c.in-Some-by_second.leaf c.args.given c.args.numbers s c.with_number-now-in-Some-by_second.result c.with_number-now-in-Some-by_second.ensures.table))
          c.in_ok-push_merged-2.ensures.found);
    }

pub returns-in_default-by_second : goal.returns-in_default-by_second
returns-in_default-by_second t c =
    let chains = chains_of c.args.chains.now in
    let f = λ (s : List ℕ). multiple_at c.args.self.now (assigned s (c.args.given + 1) c.args.numbers) in
    let rest = merges chains (c.args.left - 1) in
    record {
      found = both_ways f chains c.args.left c.args.next.0 c.args.next.1 c.args.found.now.items c.match-by_first.found.items c.match-by_first.found.items c.if-left-eq0.false
          (elim c.match-by_first.branch [
            | in-Some+in_ok-push_merged w ↦
                goes_on f (by_first chains c.args.next.0 c.args.next.1) rest c.args.found.now.items c.match-by_first.found.items w.in-Some.leaf w.in-Some.i w.in-Some.j
                (λ s. multiple_at c.args.self.now (assigned s (c.args.given + 1 + 1) w.with_number-now.result)) w.in-Some.ensures.step
                (λ s. ap (multiple_at c.args.self.now) (assigned_next w.in-Some.leaf c.args.given c.args.numbers s w.with_number-now.result w.with_number-now.ensures.table))
                (ap (λ v. v.items) w.found-is ∙ w.in_ok-push_merged.ensures.found)
            | in_default w ↦ stays f (by_first chains c.args.next.0 c.args.next.1) rest c.args.found.now.items c.match-by_first.found.items w.in_default.ensures.step (ap (λ v. v.items) w.found-is)
          ])
          (stays f (by_second chains c.args.next.0 c.args.next.1) rest c.match-by_first.found.items c.match-by_first.found.items c.in_default-by_second.ensures.step refl);
    }
