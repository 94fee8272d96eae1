use Rattle.std.proofs.Common.{◌≤◌, ap, arith, ◌∙◌, ◌-◌, sym, subst, length}
use Rattle.std.proofs.Common.{List, ℕ}
use Rattle.labelled_trees.specs.Trees.{Tree}
use Rattle.modular_sums.specs.Lists.{Distinct}
use Rattle.shuffle_insertions.specs.Counting.{most_trees}
use Rattle.shuffle_sums.specs.Sorting.{compare_by, trees_at, AreOfOneArity, Rise}
use Rattle.division.specs.Ranks.{AreRanks}
use Rattle.division.proofs.FewIds.{distinct_places, few_of_one_arity}
use Rattle.division.proofs.Coning.{HasGathered, gathered_arity, gathered_over, gathered_rules, gathered_table}
use Rattle.division.proofs.cones.cone_of.Given.{Over}
use Rattle.division.proofs.cones.cone_of.Goals as goal
use Rattle.division.proofs.cones.cone_of.Goals.{After-store}

-- the trees that were gathered have one arity
one_arity : (g : Over) (c : After-store g) → AreOfOneArity c.gather.new.shelf.trees c.gather.new.ids
one_arity g c =
    let f = c.requires.fit in
    let gathered : HasGathered c.args.shelf.now.trees c.gather.new.shelf.trees c.args.reducers.now c.gather.new.found c.args.given c.gather.new.ids c.in_ok-tails.tails
    = record { grows = c.gather.ensures.keeps.trees; before = c.requires.working.are_reducers; given_held = c.requires.held; dividers = c.gather.ensures.working.are_dividers; gathered = c.in_ok-tails.ensures.gathered } in
    gathered_arity c.args.shelf.now.trees c.gather.new.shelf.trees c.args.reducers.now c.gather.new.found c.args.given c.gather.new.ids c.in_ok-tails.tails gathered (compare_by g.O.TreeOrder.by_keys (g.O.TreeOrder.weights c.args.order.now))
    (c.args.prime - 1) c.args.coefs.now f.0 f.1 f.2

-- they are few
few_trees : (g : Over) (c : After-store g) → length c.gather.new.ids ≤ most_trees
few_trees g c = few_of_one_arity c.gather.new.shelf c.gather.new.ids c.store.ensures.shelf (distinct_places c.gather.new.places c.gather.new.ids c.gather.ensures.places) (one_arity g c)

pub sorted-requires-clause-trees : goal.sorted-requires-clause-trees
sorted-requires-clause-trees g c =
    subst (λ (ts : List (Tree ℕ)). AreOfOneArity ts c.as_slice.result.now) (sym c.store.ensures.store)
    (subst (AreOfOneArity c.gather.new.shelf.trees) (sym c.as_slice.ensures) (one_arity g (goal.at.sorted-requires-clause-trees g c).After-store))

pub sorted-requires-clause-distinct : goal.sorted-requires-clause-distinct
sorted-requires-clause-distinct g c = subst Distinct (sym c.as_slice.ensures) (distinct_places c.gather.new.places c.gather.new.ids c.gather.ensures.places)

pub table_of-requires-clause-can : goal.table_of-requires-clause-can
table_of-requires-clause-can g c =
    let f = c.requires.fit in
    let compare = compare_by g.O.TreeOrder.by_keys (g.O.TreeOrder.weights c.args.order.now) in
    let gathered : HasGathered c.args.shelf.now.trees c.gather.new.shelf.trees c.args.reducers.now c.gather.new.found c.args.given c.gather.new.ids c.in_ok-tails.tails
    = record { grows = c.gather.ensures.keeps.trees; before = c.requires.working.are_reducers; given_held = c.requires.held; dividers = c.gather.ensures.working.are_dividers; gathered = c.in_ok-tails.ensures.gathered } in
    let rise : Rise compare (trees_at c.gather.new.shelf.trees c.gather.new.ids c.in_ok-sorting.sorting.items)
    = subst (λ (l : List ℕ). Rise compare (trees_at c.gather.new.shelf.trees l c.in_ok-sorting.sorting.items)) c.as_slice.ensures
    (subst (λ (ts : List (Tree ℕ)). Rise compare (trees_at ts c.as_slice.result.now c.in_ok-sorting.sorting.items)) c.store.ensures.store c.in_ok-sorting.ensures.rising) in
    let ranks : AreRanks c.in_ok-sorting.sorting.items c.in_ok-ranks.ranks.items (length c.gather.new.ids)
    = subst (λ (n : ℕ). AreRanks c.in_ok-sorting.sorting.items c.in_ok-ranks.ranks.items n) c.len.ensures (subst (λ (l : List ℕ). AreRanks l c.in_ok-ranks.ranks.items c.len.result) c.as_slice-2.ensures.value c.in_ok-ranks.ensures.ranks) in
    rw (c.as_slice-3.ensures, c.as_slice-4.ensures, c.as_slice-5.ensures, c.as_slice-6.ensures.value, c.as_slice-7.ensures.value)
    (gathered_rules c.args.shelf.now.trees c.gather.new.shelf.trees c.args.reducers.now c.gather.new.found c.args.given c.gather.new.ids c.in_ok-tails.tails gathered compare (c.args.prime - 1) c.args.coefs.now f.0 f.1 f.2 c.in_ok-sorting.sorting.items c.in_ok-ranks.ranks.items rise ranks)

pub returns-clause-over : goal.returns-clause-over
returns-clause-over g c = λ s n f.
    let compare = compare_by g.O.TreeOrder.by_keys (g.O.TreeOrder.weights c.args.order.now) in
    let gathered : HasGathered c.args.shelf.now.trees c.gather.new.shelf.trees c.args.reducers.now c.gather.new.found c.args.given c.gather.new.ids c.in_ok-tails.tails
    = record { grows = c.gather.ensures.keeps.trees; before = c.requires.working.are_reducers; given_held = c.requires.held; dividers = c.gather.ensures.working.are_dividers; gathered = c.in_ok-tails.ensures.gathered } in
    let rise : Rise compare (trees_at c.gather.new.shelf.trees c.gather.new.ids c.in_ok-sorting.sorting.items)
    = subst (λ (l : List ℕ). Rise compare (trees_at c.gather.new.shelf.trees l c.in_ok-sorting.sorting.items)) c.as_slice.ensures
    (subst (λ (ts : List (Tree ℕ)). Rise compare (trees_at ts c.as_slice.result.now c.in_ok-sorting.sorting.items)) c.store.ensures.store c.in_ok-sorting.ensures.rising) in
    let ranks : AreRanks c.in_ok-sorting.sorting.items c.in_ok-ranks.ranks.items (length c.gather.new.ids)
    = subst (λ (n : ℕ). AreRanks c.in_ok-sorting.sorting.items c.in_ok-ranks.ranks.items n) c.len.ensures (subst (λ (l : List ℕ). AreRanks l c.in_ok-ranks.ranks.items c.len.result) c.as_slice-2.ensures.value c.in_ok-ranks.ensures.ranks) in
    let rules = rw (c.as_slice-3.ensures, c.as_slice-4.ensures, c.as_slice-5.ensures, c.as_slice-6.ensures.value, c.as_slice-7.ensures.value) at c.in_ok-table.ensures.rules in
    let table = gathered_table c.args.shelf.now.trees c.gather.new.shelf.trees c.args.reducers.now c.gather.new.found c.args.given c.gather.new.ids c.in_ok-tails.tails gathered compare (c.args.prime - 1) c.args.coefs.now s n f c.in_ok-sorting.sorting.items c.in_ok-ranks.ranks.items rise ranks c.in_ok-table.table.rules rules in
    record {
      order = f.fit.order;
      prime = c.in_ok-table.ensures.prime ∙ sym f.prime_is;
      over = gathered_over c.args.shelf.now.trees c.gather.new.shelf.trees c.args.reducers.now c.gather.new.found c.args.given c.gather.new.ids c.in_ok-tails.tails gathered compare (c.args.prime - 1) c.args.coefs.now s n f;
      insertions = table.0;
      table = table.1;
    }

pub ranks_of-requires-clause-few : goal.ranks_of-requires-clause-few
ranks_of-requires-clause-few g c = let few = few_trees g (goal.at.ranks_of-requires-clause-few g c).After-store in let l = c.len.ensures in omega (arith, few, l)

pub table_of-requires-clause-few : goal.table_of-requires-clause-few
table_of-requires-clause-few g c = let few = few_trees g (goal.at.table_of-requires-clause-few g c).After-store in let l = ap length c.as_slice-4.ensures in omega (arith, few, l)
