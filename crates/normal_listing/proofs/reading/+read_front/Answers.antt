use Rattle.std.proofs.Common.{rules, arith, ◌≡◌, ◌+◌, ◌-◌, ◌<◌, ◌≤◌, ◌∷◌, [], ℕ, List, length, drop, map, ap, sym, subst, slice_get, ◌∙◌}
use mathlib.Core.List.{◌++◌}
use Rattle.labelled_trees.specs.Trees.{Tree, leaf, node, row}
use Rattle.labelled_trees.specs.Meaning.{tree_of}
use Rattle.labelled_trees.proofs.ProgramTrees.{tree_of-leaf, tree_of-node}
use Rattle.presentation_text.proofs.TreeTokens.{arity_in, in_table, arity_in-get}
use Rattle.normal_listing.specs.Words.{symbols, symbols_row}
use Rattle.normal_listing.specs.WordTexts.{BeginsWithTree, IsSpelt}
use Rattle.normal_listing.proofs.Fronts.{leaf_front, vertex_front, first_taken}
use Rattle.normal_listing.proofs.ReadInputs.{IsReading, IsLeft, HasNext, has_next, nothing_left, input_read}
use Rattle.normal_listing.proofs.reading.+read_front.Goals as goal

pub returns-then-symbol-lt10-clause-read : goal.returns-then-symbol-lt10-clause-read
returns-then-symbol-lt10-clause-read t c tree others spelt is =
    let front = leaf_front c.args.table.now tree c.args.word others c.first-symbol.result spelt is c.first-symbol.ensures.first c.if-symbol-lt10.true in
    (tree_of-leaf c.first-symbol.result ∙ sym front.is, c.rest-left.ensures.rest ∙ front.left)

pub returns-then-symbol-lt10-clause-shorter : goal.returns-then-symbol-lt10-clause-shorter
returns-then-symbol-lt10-clause-shorter t c =
    subst (λ l. length l < length c.args.word) (sym c.rest-left.ensures.rest) (first_taken c.args.table.now c.args.word c.requires.begins)

pub get-requires : goal.get-requires
get-requires t c =
    let b = c.requires.begins in
    let front = vertex_front c.args.table.now b.tree c.args.word b.others c.first-symbol.result b.spelt b.is c.first-symbol.ensures.first c.if-symbol-lt10.false in
    let least = front.least in
    record { held = subst (λ s. s - 10 < length c.args.table.now) (sym c.from-generator.ensures) (in_table c.args.table.now (c.first-symbol.result - 10) (omega (arith, least))) }

pub loop-at-init : goal.loop-at-init
loop-at-init t c =
    let table = c.args.table.now in
    let g = c.first-symbol.result - 10 in
    let generator = c.get.result.now in
    let same : c.from-generator.result - 10 ≡ g = ap (λ s. s - 10) c.from-generator.ensures in
    record {
      each = λ tree others spelt is.
          let front = vertex_front table tree c.args.word others c.first-symbol.result spelt is c.first-symbol.ensures.first c.if-symbol-lt10.false in
          let least = front.least in
          let count = front.count in
          let held = in_table table g (omega (arith, least)) in
          let found = ap (slice_get table) (sym same) ∙ c.get.ensures.found in
          let arity : arity_in table g ≡ generator.arity = arity_in-get table c.get.ensures.table g generator held found in
          record {
            trees = front.trees;
            spelt = front.spelt;
            count = omega (arith, count, arity);
            left_is = c.rest-left.ensures.rest ∙ front.left;
            is = front.is ∙ ap (λ n. node n (row front.trees)) (sym same) ∙ ap (λ l. node (c.from-generator.result - 10) (row (map tree_of l ++ front.trees))) (sym c.new-inputs.ensures);
          };
      shorter = subst (λ l. length l < length c.args.word) (sym c.rest-left.ensures.rest) (first_taken table c.args.word c.requires.begins);
    }

pub read_front-requires : goal.read_front-requires
read_front-requires t c =
    let table = c.args.table.now in
    let b = c.requires.begins in
    let next = has_next table b.tree b.others c.loop-at.left (c.from-generator.result - 10) c.loop-at._at c.get.result.now.arity c.loop-at.inputs
    (c.loop-at.invariant.each b.tree b.others b.spelt b.is) c.loop-at-test.true in
    let begins : BeginsWithTree table c.loop-at.left = record { tree = next.tree; others = symbols_row (row next.trees) ++ b.others; spelt = next.spelt; is = next.left_is } in
    let shorter : length c.loop-at.left < length c.args.word = c.loop-at.invariant.shorter in
    search rules

pub loop-at-preserved : goal.loop-at-preserved
loop-at-preserved t c =
    let table = c.args.table.now in
    let shorter = c.in_ok-front.ensures.shorter in
    let was = c.loop-at.invariant.shorter in
    record {
      each = λ tree others spelt is.
          let g = c.from-generator.result - 10 in
          let arity = c.get.result.now.arity in
          let next = has_next table tree others c.loop-at.left g c.loop-at._at arity c.loop-at.inputs (c.loop-at.invariant.each tree others spelt is) c.loop-at-test.true in
          let told = c.in_ok-front.ensures.read next.tree (symbols_row (row next.trees) ++ others) next.spelt next.left_is in
          input_read table tree others c.loop-at.left g c.loop-at._at arity c.loop-at.inputs next
          c.in_ok-front.front.tree c.in_ok-front.front.left c.push.new.self c.in_ok-push.ensures.ok told.0 told.1;
      shorter = omega (arith, shorter, was);
    }

pub returns-clause-read : goal.returns-clause-read
returns-clause-read t c tree others spelt is =
    let table = c.args.table.now in
    let g = c.from-generator.result - 10 in
    let end = nothing_left table tree others c.loop-at.left g c.loop-at._at c.get.result.now.arity c.loop-at.inputs
    (c.loop-at.invariant.each tree others spelt is) c.loop-at-test.false in
    (tree_of-node g c.loop-at.inputs ∙ sym end.1, end.0)

pub returns-clause-shorter : goal.returns-clause-shorter
returns-clause-shorter t c = c.loop-at.invariant.shorter
