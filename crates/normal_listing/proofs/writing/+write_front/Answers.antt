use Rattle.std.proofs.Common.{rules, arith, ◌≡◌, ◌+◌, ◌-◌, ◌<◌, ◌≤◌, ◌∷◌, [], ℕ, List, length, drop, ap, sym, subst, slice_get, ◌∙◌}
use mathlib.Core.List.{◌++◌}
use Rattle.labelled_trees.specs.Trees.{Tree, leaf, node, row}
use Rattle.presentation_text.specs.TreeText.{tree_text}
use Rattle.presentation_text.proofs.TreeTokens.{arity_in, in_table, name_of-get, arity_in-get}
use Rattle.presentation_text.proofs.TreePrinting.{marked_text, marked_begin}
use Rattle.normal_listing.specs.Words.{symbols, symbols_row}
use Rattle.normal_listing.specs.WordTexts.{BeginsWithTree, IsSpelt}
use Rattle.normal_listing.proofs.Fronts.{leaf_front, leaf_text, vertex_front, IsWriting, IsLeft, HasNext, has_next, nothing_left, input_written, first_taken}
use Rattle.normal_listing.proofs.writing.+write_front.Goals as goal

pub returns-then-symbol-lt10-clause-text : goal.returns-then-symbol-lt10-clause-text
returns-then-symbol-lt10-clause-text t c tree others spelt is =
    let front = leaf_front c.args.table.now tree c.args.word others c.first-symbol.result spelt is c.first-symbol.ensures.first c.if-symbol-lt10.true in (
      c.in_ok-push.ensures.items ∙ ap (λ l. c.args.out.now.items ++ l) (sym (ap (tree_text c.args.table.now) front.is ∙ leaf_text c.args.table.now c.first-symbol.result c.if-symbol-lt10.true)),
      c.rest-left.ensures.rest ∙ front.left,
    )

pub returns-then-symbol-lt10-clause-shorter : goal.returns-then-symbol-lt10-clause-shorter
returns-then-symbol-lt10-clause-shorter t c =
    subst (λ l. length l < length c.args.word) (sym c.rest-left.ensures.rest) (first_taken c.args.table.now c.args.word c.requires.begins)

pub get-generator-requires : goal.get-generator-requires
get-generator-requires t c =
    let b = c.requires.begins in
    let front = vertex_front c.args.table.now b.tree c.args.word b.others c.first-symbol.result b.spelt b.is c.first-symbol.ensures.first c.if-symbol-lt10.false in
    let least = front.least in
    record { held = subst (λ s. s - 10 < length c.args.table.now) (sym c.from.ensures) (in_table c.args.table.now (c.first-symbol.result - 10) (omega (arith, least))) }

pub loop-at-init : goal.loop-at-init
loop-at-init t c =
    let table = c.args.table.now in
    let g = c.first-symbol.result - 10 in
    let generator = c.get-generator.result.now in
    record {
      each = λ tree others spelt is.
          let front = vertex_front table tree c.args.word others c.first-symbol.result spelt is c.first-symbol.ensures.first c.if-symbol-lt10.false in
          let least = front.least in
          let count = front.count in
          let held = in_table table g (omega (arith, least)) in
          let found = ap (λ s. slice_get table (s - 10)) (sym c.from.ensures) ∙ c.get-generator.ensures.found in
          let arity : arity_in table g ≡ generator.arity = arity_in-get table c.get-generator.ensures.table g generator held found in
          record {
            trees = front.trees;
            spelt = front.spelt;
            count = omega (arith, count, arity);
            left_is = c.rest-left.ensures.rest ∙ front.left;
            text =
                marked_begin table g front.trees c.as_bytes.result.now c.args.out.now.items c.extend_from_slice.new.self.items (omega (arith, least, count))
                (name_of-get table g generator held found ∙ sym c.as_str.ensures.bytes ∙ sym c.as_bytes.ensures.value)
                c.in_ok-extend_from_slice.ensures.items
                ∙ ap (λ u. c.args.out.now.items ++ tree_text table u) (sym front.is);
          };
      shorter = subst (λ l. length l < length c.args.word) (sym c.rest-left.ensures.rest) (first_taken table c.args.word c.requires.begins);
    }

pub write_front-requires : goal.write_front-requires
write_front-requires t c =
    let table = c.args.table.now in
    let b = c.requires.begins in
    let next = has_next table b.tree b.others c.loop-at.left c.loop-at.mark c.loop-at._at c.get-generator.result.now.arity c.loop-at.out.items (c.args.out.now.items ++ tree_text table b.tree)
    (c.loop-at.invariant.each b.tree b.others b.spelt b.is) c.loop-at-test.true in
    let begins : BeginsWithTree table c.loop-at.left = record { tree = next.tree; others = symbols_row (row next.trees) ++ b.others; spelt = next.spelt; is = next.left_is } in
    let shorter : length c.loop-at.left < length c.args.word = c.loop-at.invariant.shorter in
    search rules

pub loop-at-preserved : goal.loop-at-preserved
loop-at-preserved t c =
    let table = c.args.table.now in
    let shorter = c.in_ok-left.ensures.shorter in
    let was = c.loop-at.invariant.shorter in
    record {
      each = λ tree others spelt is.
          let end = c.args.out.now.items ++ tree_text table tree in
          let arity = c.get-generator.result.now.arity in
          let next = has_next table tree others c.loop-at.left c.loop-at.mark c.loop-at._at arity c.loop-at.out.items end
          (c.loop-at.invariant.each tree others spelt is) c.loop-at-test.true in
          let told = c.in_ok-left.ensures.text next.tree (symbols_row (row next.trees) ++ others) next.spelt next.left_is in
          input_written table tree others c.loop-at.left c.loop-at.mark c.loop-at._at arity c.loop-at.out.items end next
          c.push-in-loop-at.new.self.items c.write_front.new.out.items c.in_ok-left.left c.in_ok-push-2.ensures.items told.0 told.1;
      shorter = omega (arith, shorter, was);
    }

pub returns-clause-text : goal.returns-clause-text
returns-clause-text t c tree others spelt is =
    let table = c.args.table.now in
    let end = nothing_left table tree others c.loop-at.left c.loop-at.mark c.loop-at._at c.get-generator.result.now.arity c.loop-at.out.items (c.args.out.now.items ++ tree_text table tree)
    (c.loop-at.invariant.each tree others spelt is) c.loop-at-test.false in
    (c.in_ok-push-3.ensures.items ∙ end.1, end.0)

pub returns-clause-shorter : goal.returns-clause-shorter
returns-clause-shorter t c = c.loop-at.invariant.shorter
