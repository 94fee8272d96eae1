use Rattle.std.proofs.Common.{◌≡◌, ◌≤◌, ◌<◌, ◌+◌, ◌++◌, ◌∷◌, [], Some, None, Ok, Err, length, drop, map, ap, sym, ◌∙◌, subst, arith, length-drop}
use Rattle.std.proofs.lemmas.List.{map-append}
use Rattle.labelled_trees.specs.Meaning.{tree_of}
use Rattle.labelled_trees.specs.Leaves.{leaf_count, leaf_count_row}
use Rattle.labelled_trees.specs.Trees.{node, row, width}
use Rattle.labelled_trees.proofs.Rows.{width-row}
use Rattle.labelled_trees.specs.declared.Tree.TheVariants.{Node}
use Rattle.labelled_trees.proofs.ProgramTrees.{tree_of-node}
use Rattle.symmetric_trees.specs.Trees.{Fits}
use Rattle.presentation_text.specs.declared.kinds.DocKind.TheVariants.{InputCount, NameUnknown, TooDeep}
use Rattle.presentation_text.specs.declared.lexing.Token.TheVariants.{Word, Number}
use Rattle.presentation_text.specs.declared.trees.TreeRead.{TreeRead}
use Rattle.presentation_text.specs.Readings.{misfit, StopsAs}
use Rattle.presentation_text.specs.TreeReadings.{input_in, node_in, tree_in, index_of, GivesInput}
use Rattle.presentation_text.proofs.TreeTokens.{arity_in, arity_in-get, arity_in-least}
use Rattle.presentation_text.proofs.LineReadingsStops.{part_stops}
use Rattle.presentation_text.proofs.TreeReadingsPlaces.{stops-misfit, stops-end, fault-at}
use Rattle.presentation_text.proofs.TreeReadingsSteps as steps
use Rattle.presentation_text.proofs.trees.+read.Goals as goal

pub input_within-returns-then-has_mark-clause-read :
    goal.input_within-returns-then-has_mark-clause-read
input_within-returns-then-has_mark-clause-read t c =
    let tokens = c.args.tokens.now in
    let ts = drop c.args.at tokens in
    let inside = tree_in c.args.table.now c.args.depth in
    fault-at tokens c.args.at InputCount _ (input_in inside c.args.inputs.now.seen ts) c.fail.result c.requires.within
    (steps.input_in-closed inside c.args.inputs.now.seen ts (sym c.has_mark.ensures.exact ∙ c.if-has_mark.true)) c.fail.ensures

pub tree_within-returns-in_default-clause-read : goal.tree_within-returns-in_default-clause-read
tree_within-returns-in_default-clause-read t c =
    stops-end c.args.tokens.now c.args.at (tree_in c.args.table.now c.args.depth c.args.inputs.now.seen) c.misfit.result c.requires.within c.in_default.ensures
    (steps.tree_in-end c.args.table.now c.args.depth c.args.inputs.now.seen) c.misfit.ensures

pub tree_within-returns-then-depth-eq0-clause-read :
    goal.tree_within-returns-then-depth-eq0-clause-read
tree_within-returns-then-depth-eq0-clause-read t c =
    let table = c.args.table.now in
    let tokens = c.args.tokens.now in
    let g = c.in-Some-generator_named.generator in
    let name = c.in-Word.name in
    let rest = drop (c.args.at + 1) tokens in
    let here : drop c.args.at tokens ≡ Word name ∷ rest = c.in-Some.ensures.0 ∙ ap (λ token. token ∷ rest) c.in-Word.is in
    let named : index_of name table ≡ Some g = sym c.generator_named.ensures.index ∙ c.in-Some-generator_named.is in
    fault-at tokens c.args.at TooDeep _ (tree_in table c.args.depth c.args.inputs.now.seen (drop c.args.at tokens)) c.fail.result c.requires.within
    (ap (tree_in table c.args.depth c.args.inputs.now.seen) here ∙ steps.tree_in-deep table c.args.depth c.args.inputs.now.seen name g rest named c.if-depth-eq0.true ∙ ap (λ ts. Err (length ts, TooDeep)) (sym here)) c.fail.ensures

pub tree_within-returns-in-Number-clause-read : goal.tree_within-returns-in-Number-clause-read
tree_within-returns-in-Number-clause-read t c =
    let table = c.args.table.now in
    let tokens = c.args.tokens.now in
    let n = c.in-Number.number in
    let rest = drop (c.args.at + 1) tokens in
    let here : drop c.args.at tokens ≡ Number n ∷ rest = c.in-Some.ensures.0 ∙ ap (λ token. token ∷ rest) c.in-Number.is in
    subst (λ reading. GivesInput table tokens reading c.args.inputs.now c.leaf.new.inputs c.leaf.result) (sym (ap (tree_in table c.args.depth c.args.inputs.now.seen) here ∙ steps.tree_in-number table c.args.depth c.args.inputs.now.seen n rest))
    (c.leaf.ensures.read table)

pub tree_within-returns-else-depth-eq0-clause-read :
    goal.tree_within-returns-else-depth-eq0-clause-read
tree_within-returns-else-depth-eq0-clause-read t c =
    let table = c.args.table.now in
    let tokens = c.args.tokens.now in
    let g = c.in-Some-generator_named.generator in
    let name = c.in-Word.name in
    let rest = drop (c.args.at + 1) tokens in
    let here : drop c.args.at tokens ≡ Word name ∷ rest = c.in-Some.ensures.0 ∙ ap (λ token. token ∷ rest) c.in-Word.is in
    let named : index_of name table ≡ Some g = sym c.generator_named.ensures.index ∙ c.in-Some-generator_named.is in
    subst (λ reading. GivesInput table tokens reading c.args.inputs.now c.vertex_within.new.above c.vertex_within.result) (sym (ap (tree_in table c.args.depth c.args.inputs.now.seen) here ∙ steps.tree_in-node table c.args.depth c.args.inputs.now.seen name g rest named c.if-depth-eq0.false))
    c.vertex_within.ensures.read

pub tree_within-returns-in-None-clause-read : goal.tree_within-returns-in-None-clause-read
tree_within-returns-in-None-clause-read t c =
    let table = c.args.table.now in
    let tokens = c.args.tokens.now in
    let name = c.in-Word.name in
    let rest = drop (c.args.at + 1) tokens in
    let here : drop c.args.at tokens ≡ Word name ∷ rest = c.in-Some.ensures.0 ∙ ap (λ token. token ∷ rest) c.in-Word.is in
    let unknown : index_of name table ≡ None = sym c.generator_named.ensures.index ∙ c.in-None.is in
    fault-at tokens c.args.at NameUnknown _ (tree_in table c.args.depth c.args.inputs.now.seen (drop c.args.at tokens)) c.fail-in-None.result c.requires.within
    (ap (tree_in table c.args.depth c.args.inputs.now.seen) here ∙ steps.tree_in-unknown table c.args.depth c.args.inputs.now.seen name rest unknown ∙ ap (λ ts. Err (length ts, NameUnknown)) (sym here)) c.fail-in-None.ensures

pub tree_within-returns-in_default-token : goal.tree_within-returns-in_default-token
tree_within-returns-in_default-token t c =
    let table = c.args.table.now in
    let tokens = c.args.tokens.now in
    let token = c.in-Some.token.now in
    let rest = drop (c.args.at + 1) tokens in
    let here : drop c.args.at tokens ≡ token ∷ rest = c.in-Some.ensures.0 in
    record {
      read =
          stops-misfit tokens c.args.at (tree_in table c.args.depth c.args.inputs.now.seen (drop c.args.at tokens)) c.misfit-in_default-token.result c.requires.within
          (ap (tree_in table c.args.depth c.args.inputs.now.seen) here ∙ steps.tree_in-other table c.args.depth c.args.inputs.now.seen token rest c.in_default-token.not-Number c.in_default-token.not-Word ∙ ap misfit (sym here))
          c.misfit-in_default-token.ensures;
      narrow = tt;
      further = tt;
    }

pub vertex_within-returns-in_err-next-clause-read :
    goal.vertex_within-returns-in_err-next-clause-read
vertex_within-returns-in_err-next-clause-read t c =
    let table = c.args.table.now in
    let tokens = c.args.tokens.now in
    let inside = tree_in table c.args.depth in
    let g = c.args.generator in
    let seen = c.args.above.now.seen in
    let is = arity_in-get table c.get.ensures.table g c.get.result.now c.requires.held c.get.ensures.found in
    let fewer : c.loop-index.index < arity_in table g = omega (arith, is, c.loop-index-test.true) in
    part_stops _ (StopsAs tokens (node_in table (Some inside) seen (Some g) (drop c.args.at tokens))) c.from_residual-in_err-next.result c.in_err-next.field-0.0
    c.from_residual-in_err-next.ensures.0 c.from_residual-in_err-next.ensures.1
    (steps.stops-no_mark table inside tokens c.args.at g seen (map tree_of c.loop-index.inputs.trees) c.loop-index.index c.loop-index.next c.loop-index.inputs.seen c.loop-index.invariant fewer c.in_err-next.field-0.0 c.in_err-next.ensures)

pub vertex_within-returns-in_err-next-2-clause-read :
    goal.vertex_within-returns-in_err-next-2-clause-read
vertex_within-returns-in_err-next-2-clause-read t c =
    let table = c.args.table.now in
    let tokens = c.args.tokens.now in
    let inside = tree_in table c.args.depth in
    let g = c.args.generator in
    let seen = c.args.above.now.seen in
    let is = arity_in-get table c.get.ensures.table g c.get.result.now c.requires.held c.get.ensures.found in
    let fewer : c.loop-index.index < arity_in table g = omega (arith, is, c.loop-index-test.true) in
    part_stops _ (StopsAs tokens (node_in table (Some inside) seen (Some g) (drop c.args.at tokens))) c.from_residual-in_err-next-2.result c.in_err-next-2.field-0.0
    c.from_residual-in_err-next-2.ensures.0 c.from_residual-in_err-next-2.ensures.1
    (steps.stops-no_input table inside tokens c.args.at g seen (map tree_of c.loop-index.inputs.trees) c.loop-index.index c.loop-index.next c.loop-index.inputs.seen c.loop-index.invariant fewer
    c.in_ok-next.next c.in_ok-next.ensures.0 c.in_err-next-2.field-0.0 c.in_err-next-2.ensures.read)

pub vertex_within-loop-index-preserved : goal.vertex_within-loop-index-preserved
vertex_within-loop-index-preserved t c =
    let table = c.args.table.now in
    let tokens = c.args.tokens.now in
    let inside = tree_in table c.args.depth in
    let g = c.args.generator in
    let seen = c.args.above.now.seen in
    let input = c.in_ok-next-2.ensures.read in
    let found : TreeRead = record { tree = input.tree; leaves = input.leaves; end = c.in_ok-next-2.next } in
    let us = map tree_of c.loop-index.inputs.trees in
    let is = arity_in-get table c.get.ensures.table g c.get.result.now c.requires.held c.get.ensures.found in
    let fewer : c.loop-index.index < arity_in table g = omega (arith, is, c.loop-index-test.true) in
    let put : map tree_of c.input_within.new.inputs.trees ≡ us ++ tree_of input.tree ∷ [] = ap (map tree_of) input.put ∙ map-append tree_of c.loop-index.inputs.trees (input.tree ∷ []) in
    let narrow : c.loop-index.inputs.seen + input.leaves ≤ 9 = omega (arith, input.seen, c.in_ok-next-2.ensures.narrow) in
    let further : c.in_ok-next.next < c.in_ok-next-2.next = c.in_ok-next-2.ensures.further in
    subst (λ trees. steps.IsReadSoFar table inside tokens c.args.at g seen trees (c.loop-index.index + 1) c.in_ok-next-2.next c.input_within.new.inputs.seen) (sym put)
    (subst (steps.IsReadSoFar table inside tokens c.args.at g seen (us ++ tree_of input.tree ∷ []) (c.loop-index.index + 1) c.in_ok-next-2.next) (sym input.seen)
    (steps.more-read table inside tokens c.args.at g seen us c.loop-index.index c.loop-index.next c.loop-index.inputs.seen c.loop-index.invariant fewer
    c.in_ok-next.next c.in_ok-next.ensures.1 c.in_ok-next.ensures.0 found input.read further narrow input.fits))

pub vertex_within-returns-in_err-end-clause-read :
    goal.vertex_within-returns-in_err-end-clause-read
vertex_within-returns-in_err-end-clause-read t c =
    let table = c.args.table.now in
    let tokens = c.args.tokens.now in
    let inside = tree_in table c.args.depth in
    let g = c.args.generator in
    let seen = c.args.above.now.seen in
    let is = arity_in-get table c.get.ensures.table g c.get.result.now c.requires.held c.get.ensures.found in
    let all : arity_in table g ≤ c.loop-index.index = omega (arith, is, c.loop-index-test.false) in
    part_stops _ (StopsAs tokens (node_in table (Some inside) seen (Some g) (drop c.args.at tokens))) c.from_residual-in_err-end.result c.in_err-end.field-0.0
    c.from_residual-in_err-end.ensures.0 c.from_residual-in_err-end.ensures.1
    (steps.stops-no_end table inside tokens c.args.at g seen (map tree_of c.loop-index.inputs.trees) c.loop-index.index c.loop-index.next c.loop-index.inputs.seen c.loop-index.invariant all c.in_err-end.field-0.0 c.in_err-end.ensures)

pub vertex_within-returns-clause-read : goal.vertex_within-returns-clause-read
vertex_within-returns-clause-read t c =
    let table = c.args.table.now in
    let tokens = c.args.tokens.now in
    let inside = tree_in table c.args.depth in
    let g = c.args.generator in
    let seen = c.args.above.now.seen in
    let us = map tree_of c.loop-index.inputs.trees in
    let is : arity_in table g ≡ c.get.result.now.arity = arity_in-get table c.get.ensures.table g c.get.result.now c.requires.held c.get.ensures.found in
    let least = arity_in-least table c.get.ensures.table g c.get.result.now c.requires.held in
    let all : arity_in table g ≤ c.loop-index.index = omega (arith, is, c.loop-index-test.false) in
    let wide : width (row us) ≡ arity_in table g = omega (arith, width-row us, c.loop-index.invariant.count, is, c.loop-index.auto.index-end, c.loop-index-test.false) in
    let tree : tree_of (Node g c.loop-index.inputs.trees) ≡ node g (row us) = tree_of-node g c.loop-index.inputs.trees in
    record {
      tree = Node g c.loop-index.inputs.trees;
      leaves = leaf_count_row (row us);
      read = record {
        reading_is =
            steps.all_read table inside tokens c.args.at g seen us c.loop-index.index c.loop-index.next c.loop-index.inputs.seen c.loop-index.invariant all c.in_ok-end.end c.in_ok-end.ensures.0
            ∙ ap (λ u. Ok (u, drop c.in_ok-end.end tokens)) (sym tree);
        within = c.in_ok-end.ensures.1;
        leaves_are = ap leaf_count (sym tree);
      };
      put = c.in_ok-push.ensures.ok;
      seen = c.loop-index.invariant.leaves_are;
      fits = subst (Fits table) (sym tree) (least, wide, c.loop-index.invariant.fit);
    }

pub vertex_within-returns-clause-further : goal.vertex_within-returns-clause-further
vertex_within-returns-clause-further t c =
    let tokens = c.args.tokens.now in
    let one_token = steps.close_in-shorter (drop c.loop-index.next tokens) (drop c.in_ok-end.end tokens) c.in_ok-end.ensures.0 in
    omega (arith, one_token, length-drop c.loop-index.next tokens, length-drop c.in_ok-end.end tokens, c.loop-index.invariant.begins, c.loop-index.invariant.within, c.in_ok-end.ensures.1)
