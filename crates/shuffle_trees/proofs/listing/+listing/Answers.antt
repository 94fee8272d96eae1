use Rattle.std.specs.Prelude.{◌≡◌, ◌∷◌, [], ◌++◌, map}
use Rattle.std.proofs.Common.{◌∙◌, suc, ◌-◌, length, get_or, take, drop, ap, sym, subst, arith}
use Rattle.labelled_trees.specs.Meaning.{tree_of}
use Rattle.shuffle_insertions.specs.Listing.{rows, shuffles}
use Rattle.shuffle_trees.specs.LabelLists.{arity_in}
use Rattle.shuffle_trees.specs.Rows.{row_of, RowsBySplits}
use Rattle.shuffle_trees.proofs.Arities.{arities_fit}
use Rattle.shuffle_trees.specs.declared.listing.Split.{Split}
use Rattle.shuffle_trees.proofs.ListedTrees.{on_ok, no_items, at_end, first_and_rest, few_rows, lone_alone, split_end, split_none, split_next, label_next}
use Rattle.shuffle_trees.proofs.Walking.{word_back}
use Rattle.shuffle_trees.proofs.listing.+listing.Goals as goal

pub list_rows-returns-then-leaves-inputs : goal.list_rows-returns-then-leaves-inputs
list_rows-returns-then-leaves-inputs t c =
    ap (map row_of) c.new-made.ensures.items ∙ sym (few_rows (shuffles (length c.args.labels.now) (arity_in c.args.labels.now) c.args.levels) c.args.inputs c.args.leaves.now c.if-leaves-inputs.true)

pub list_trees-returns-then-leaves-lt2-clause-trees : goal.list_trees-returns-then-leaves-lt2-clause-trees
list_trees-returns-then-leaves-lt2-clause-trees t c =
    let labels = c.args.labels.now in
    let back : suc (c.args.levels - 1) ≡ c.args.levels = omega (arith, c.if-levels-eq0.false) in
    c.in_ok-made.ensures ∙ lone_alone (length labels) (arity_in labels) (c.args.levels - 1) c.args.leaves.now (λ g lt. (arities_fit labels c.len-count.ensures.few g lt).0) c.if-leaves-lt2.true
    ∙ ap (λ n. shuffles (length labels) (arity_in labels) n c.args.leaves.now) back

pub list_trees-loop-label-preserved : goal.list_trees-loop-label-preserved
list_trees-loop-label-preserved t c =
    label_next (length c.args.labels.now) (arity_in c.args.labels.now) (c.args.levels - 1) c.loop-label.label c.args.leaves.now c.loop-label.made.items c.push_vertices.new.made.items c.in_ok-rows.rows.items c.arity.result
    c.arity.ensures.arity c.loop-label.invariant c.in_ok-rows.ensures c.in_ok-push_vertices.ensures

pub split_rows-returns-then-is_empty-clause-rows : goal.split_rows-returns-then-is_empty-clause-rows
split_rows-returns-then-is_empty-clause-rows t c =
    let trees = shuffles (length c.args.labels.now) (arity_in c.args.labels.now) c.args.levels in
    let s = c.args.split.now in
    let empty : c.in_ok-rows.rows.items ≡ [] = no_items c.in_ok-rows.rows.len c.in_ok-rows.rows.items (sym c.if-is_empty.ensures) c.in_ok-rows.rows.ok.0 in
    at_end trees c.args.inputs c.args.numbers.now s.first s.later c.args.made.now.items c.args.made.now.items (omega (arith, c.in_default.len_below))
    (split_none trees c.args.inputs s.first s.later c.args.made.now.items c.in_ok-rows.rows.items (c.in_ok-rows.ensures ∙ ap (rows trees c.args.inputs) c.as_slice.ensures) empty)

pub split_rows-returns-in_default-clause-rows : goal.split_rows-returns-in_default-clause-rows
split_rows-returns-in_default-clause-rows t c =
    let trees = shuffles (length c.args.labels.now) (arity_in c.args.labels.now) c.args.levels in
    let s = c.args.split.now in
    on_ok c.push_each.result _ _
    (λ put. at_end trees c.args.inputs c.args.numbers.now s.first s.later c.args.made.now.items c.push_each.new.made.items (omega (arith, c.in_default.len_below))
    (split_end trees c.args.inputs s.first s.later c.args.made.now.items c.as_slice-in_default-2.result.now c.as_slice-in_default-3.result.now c.push_each.new.made.items
    (ap (map tree_of) c.as_slice-in_default-2.ensures.value ∙ c.in_ok-trees.ensures.trees ∙ ap trees c.as_slice-in_default.ensures)
    (ap (map row_of) c.as_slice-in_default-3.ensures.value ∙ c.in_ok-rows.ensures ∙ ap (rows trees c.args.inputs) c.as_slice.ensures) put))
    c.push_each.ensures

pub split_rows-returns-clause-rows : goal.split_rows-returns-clause-rows
split_rows-returns-clause-rows t c =
    let trees = shuffles (length c.args.labels.now) (arity_in c.args.labels.now) c.args.levels in
    let s = c.args.split.now in
    let numbers = c.args.numbers.now in
    let x = get_or numbers 0 0 in
    let rest = take (length numbers - 1) (drop 1 numbers) in
    let middle = c.split_rows.new.made.items in
    let kept = c.in_ok-split_rows.ensures.split in
    let first_back : c.pop.new.self ≡ s.first =
    word_back s.first (c.split_rows.new.split).first c.pop.new.self x c.pop.result (ap (λ (p : Split). p.first) kept ∙ c.in_ok-push.ensures.ok) c.pop.ensures in
    let later_put : c.push-2.new.self ≡ s.later ++ x ∷ [] = c.in_ok-push-2.ensures.ok ∙ ap (λ l. l ++ x ∷ []) (ap (λ (p : Split). p.later) kept) in
    let one = subst (λ f. RowsBySplits trees c.args.inputs rest f s.later c.args.made.now.items middle) c.in_ok-push.ensures.ok c.in_ok-split_rows.ensures.rows in
    let two = subst (λ l. RowsBySplits trees c.args.inputs rest s.first l middle c.split_rows-2.new.made.items) later_put
    (subst (λ f. RowsBySplits trees c.args.inputs rest f c.push-2.new.self middle c.split_rows-2.new.made.items) first_back c.in_ok-split_rows-2.ensures.rows) in
    subst (λ l. RowsBySplits trees c.args.inputs l s.first s.later c.args.made.now.items c.split_rows-2.new.made.items) (sym (first_and_rest numbers (omega (arith, c.in-len1-up.len_at_least))))
    (split_next trees c.args.inputs s.first s.later x rest c.args.made.now.items middle c.split_rows-2.new.made.items one two)
