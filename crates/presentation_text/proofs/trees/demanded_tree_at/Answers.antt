use Rattle.std.proofs.Common.{◌≡◌, ◌≤◌, ◌-◌, suc, Err, Some, None, ap, sym, ◌∙◌, arith, length, drop, length-drop}
use Rattle.labelled_trees.specs.Meaning.{tree_of}
use Rattle.presentation_text.specs.Readings.{first_row}
use Rattle.presentation_text.specs.TreeReadings.{tree_in, whole_tree_in, against}
use Rattle.presentation_text.proofs.TreeReadingsPlaces.{stops-on, tree-fault, tree-handed_on}
use Rattle.presentation_text.proofs.TreeReadingsSteps.{whole-stops, whole-refused, whole-accepted}
use Rattle.presentation_text.proofs.trees.demanded_tree_at.Goals as goal

pub returns-in_err-found-clause-read : goal.returns-in_err-found-clause-read
returns-in_err-found-clause-read c =
    let table = c.args.table.now in
    let tokens = c.args.tokens.now in
    let ts = drop c.args.at tokens in
    tree-handed_on tokens (whole_tree_in table c.args.demands ts) c.from_residual.result c.in_err-found.field-0.0 c.from_residual.ensures.0 c.from_residual.ensures.1
    (stops-on tokens (tree_in table 8 0 ts) (whole_tree_in table c.args.demands ts) (λ fault e. whole-stops table c.args.demands ts fault e) c.in_err-found.field-0.0 c.in_err-found.ensures.read)

pub returns-in-Some-clause-read : goal.returns-in-Some-clause-read
returns-in-Some-clause-read c =
    let table = c.args.table.now in
    let tokens = c.args.tokens.now in
    let found = c.in_ok-found.found in
    let read = c.in_ok-found.ensures.read in
    let further = c.in_ok-found.ensures.further in
    let within = read.within in
    let kind = c.in-Some.kind in
    let row : first_row (against c.args.demands (tree_of found.tree)) ≡ Some kind = sym c.against.ensures ∙ c.in-Some.is in
    let before : found.end - 1 ≤ length tokens = omega arith in
    let left : suc (length (drop found.end tokens)) ≡ length (drop (found.end - 1) tokens) = omega (arith, length-drop found.end tokens, length-drop (found.end - 1) tokens) in
    tree-fault tokens (found.end - 1) kind (whole_tree_in table c.args.demands (drop c.args.at tokens)) c.fail.result before
    (whole-refused table c.args.demands (drop c.args.at tokens) (tree_of found.tree) (drop found.end tokens) kind read.reading_is row ∙ ap (λ n. Err (n, kind)) left) c.fail.ensures

pub returns-clause-read : goal.returns-clause-read
returns-clause-read c =
    let table = c.args.table.now in
    let tokens = c.args.tokens.now in
    let found = c.in_ok-found.found in
    let read = c.in_ok-found.ensures.read in
    let none : first_row (against c.args.demands (tree_of found.tree)) ≡ None = sym c.against.ensures ∙ c.in_default.is in
    record {
      reading_is = whole-accepted table c.args.demands (drop c.args.at tokens) (tree_of found.tree) (drop found.end tokens) read.reading_is none;
      within = read.within;
      leaves_are = read.leaves_are;
    }
