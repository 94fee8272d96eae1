use Rattle.std.proofs.Common.{◌≡◌, ◌∙◌, ◌+◌, ◌-◌, ap, arith, length, get_or}
use Rattle.std.proofs.lemmas.List.{length-set}
use Rattle.identity_queries.proofs.NewNumbers.{few_within, mem-get, place-step}
use Rattle.identity_queries.proofs.renumbering.new_numbers.Goals as goal

pub overflow_add-place : goal.overflow_add-place
overflow_add-place c =
    let few = few_within c.args.found.now c.args.count c.requires.rises c.requires.within in
    omega (arith, few, c.requires.few, c.loop-number-test.true, c.loop-number.invariant.place_is)

pub overflow_sub-number : goal.overflow_sub-number
overflow_sub-number c =
    let within = c.requires.within (get_or c.args.found.now c.loop-number.number-index 0) (mem-get c.args.found.now c.loop-number.number-index c.loop-number-test.true) in
    omega (arith, within)

pub index_mut-requires : goal.index_mut-requires
index_mut-requires c =
    let within = c.requires.within (get_or c.args.found.now c.loop-number.number-index 0) (mem-get c.args.found.now c.loop-number.number-index c.loop-number-test.true) in
    let long : length c.loop-number.numbers.items ≡ c.args.count = c.loop-number.invariant.long in
    omega (arith, within, long)

pub loop-number-preserved : goal.loop-number-preserved
loop-number-preserved c =
    let numbers = c.loop-number.numbers.items in
    record {
      place_is = ap (λ n. n + 1) c.loop-number.invariant.place_is;
      places = place-step c.args.found.now numbers c.loop-number.number-index c.loop-number.place c.args.count c.loop-number-test.true c.requires.rises c.requires.within c.loop-number.invariant.long
          c.loop-number.invariant.place_is c.loop-number.invariant.places;
      long = length-set numbers (get_or c.args.found.now c.loop-number.number-index 0 - 1) (c.loop-number.place + 1) ∙ c.loop-number.invariant.long;
    }
