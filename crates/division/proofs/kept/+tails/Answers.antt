use Rattle.std.proofs.Common.{ℕ, List, ◌≡◌, ◌≤◌, ◌∙◌, ap, sym, subst, arith, length, slice_get, Some}
use Rattle.std.specs.List.{All}
use Rattle.std.proofs.lemmas.Option.{slice_get-get_or}
use Rattle.std.proofs.lemmas.Result.{on_ok_weaker}
use Rattle.division.specs.Insertions.{AreMade, CanReplace, with_other}
use Rattle.labelled_trees.specs.Trees.{Tree}
use Rattle.division.specs.KeptTails.{IsDividedInput, IsInsertionTail, NoDividedInput}
use Rattle.division.proofs.MadeTrees.{grows_length}
use Rattle.division.proofs.TailSteps.{found_host, element_low, at_root, root_tail, kept_later, reducers_later, input_can, input_tail}
use Rattle.division.proofs.kept.+tails.Goals as goal

pub make_tail-bounds-reducers-element : goal.make_tail-bounds-reducers-element
make_tail-bounds-reducers-element t c =
    let is : slice_get c.args.found.now c.args.host ≡ Some (Some c.in-Some.element) = found_host c.args.found.now c.args.host c.index.result c.in-Some.element c.requires.divided c.index.ensures.index c.in-Some.is in
    element_low c.args.shelf.now.trees c.args.reducers.now c.args.found.now c.requires.shelf.store c.requires.reducers c.requires.found c.requires.few c.args.host c.in-Some.element is

pub make_tail-insert_at_root-requires-clause-reducer : goal.make_tail-insert_at_root-requires-clause-reducer
make_tail-insert_at_root-requires-clause-reducer t c =
    let is : slice_get c.args.found.now c.args.host ≡ Some (Some c.in-Some.element) = found_host c.args.found.now c.args.host c.index.result c.in-Some.element c.requires.divided c.index.ensures.index c.in-Some.is in
    let low = element_low c.args.shelf.now.trees c.args.reducers.now c.args.found.now c.requires.shelf.store c.requires.reducers c.requires.found c.requires.few c.args.host c.in-Some.element is in
    let stands : slice_get c.args.reducers.now c.in-Some.element ≡ Some c.index-reducers-element.result = slice_get-get_or c.args.reducers.now c.in-Some.element c.index-reducers-element.result low ∙ ap Some (sym c.index-reducers-element.is) in
    c.requires.reducers c.in-Some.element c.index-reducers-element.result stands

pub make_tail-insert_at_root-requires-clause-room : goal.make_tail-insert_at_root-requires-clause-room
make_tail-insert_at_root-requires-clause-room t c =
    let is : slice_get c.args.found.now c.args.host ≡ Some (Some c.in-Some.element) = found_host c.args.found.now c.args.host c.index.result c.in-Some.element c.requires.divided c.index.ensures.index c.in-Some.is in
    let low = element_low c.args.shelf.now.trees c.args.reducers.now c.args.found.now c.requires.shelf.store c.requires.reducers c.requires.found c.requires.few c.args.host c.in-Some.element is in
    let stands : slice_get c.args.reducers.now c.in-Some.element ≡ Some c.index-reducers-element.result = slice_get-get_or c.args.reducers.now c.in-Some.element c.index-reducers-element.result low ∙ ap Some (sym c.index-reducers-element.is) in
    c.requires.room c.in-Some.element c.index-reducers-element.result stands

pub make_tail-insert_at_root-requires-clause-divides : goal.make_tail-insert_at_root-requires-clause-divides
make_tail-insert_at_root-requires-clause-divides t c =
    let is : slice_get c.args.found.now c.args.host ≡ Some (Some c.in-Some.element) = found_host c.args.found.now c.args.host c.index.result c.in-Some.element c.requires.divided c.index.ensures.index c.in-Some.is in
    let low = element_low c.args.shelf.now.trees c.args.reducers.now c.args.found.now c.requires.shelf.store c.requires.reducers c.requires.found c.requires.few c.args.host c.in-Some.element is in
    let stands : slice_get c.args.reducers.now c.in-Some.element ≡ Some c.index-reducers-element.result = slice_get-get_or c.args.reducers.now c.in-Some.element c.index-reducers-element.result low ∙ ap Some (sym c.index-reducers-element.is) in
    at_root c.args.shelf.now.trees c.args.reducers.now c.args.found.now c.requires.shelf.store c.requires.reducers c.requires.found c.requires.few c.args.host c.in-Some.element is c.index-reducers-element.result stands (subst (λ (ts : List (Tree ℕ)). NoDividedInput ts c.args.found.now c.args.host c.in-Some.element) c.store.ensures.store c.in-None-divided_input.ensures.input)

pub make_tail-returns-in-None-divided_input-clause-made : goal.make_tail-returns-in-None-divided_input-clause-made
make_tail-returns-in-None-divided_input-clause-made t c =
    let is : slice_get c.args.found.now c.args.host ≡ Some (Some c.in-Some.element) = found_host c.args.found.now c.args.host c.index.result c.in-Some.element c.requires.divided c.index.ensures.index c.in-Some.is in
    let low = element_low c.args.shelf.now.trees c.args.reducers.now c.args.found.now c.requires.shelf.store c.requires.reducers c.requires.found c.requires.few c.args.host c.in-Some.element is in
    let stands : slice_get c.args.reducers.now c.in-Some.element ≡ Some c.index-reducers-element.result = slice_get-get_or c.args.reducers.now c.in-Some.element c.index-reducers-element.result low ∙ ap Some (sym c.index-reducers-element.is) in
    on_ok_weaker c.insert_at_root.result (root_tail c.args.shelf.now.trees c.args.reducers.now c.args.found.now c.requires.shelf.store c.requires.reducers c.requires.found c.requires.few c.args.host c.in-Some.element is c.insert_at_root.new.shelf.trees c.insert_at_root.ensures.keeps.trees c.index-reducers-element.result stands c.args.out.now c.insert_at_root.new.out) c.insert_at_root.ensures.made

pub make_tail-returns-in-None-divided_input-clause-kept : goal.make_tail-returns-in-None-divided_input-clause-kept
make_tail-returns-in-None-divided_input-clause-kept t c =
    kept_later c.args.shelf.now.trees c.insert_at_root.new.shelf.trees c.args.reducers.now c.insert_at_root.ensures.keeps.trees c.requires.reducers c.args.found.now c.args.kept.now c.requires.few c.requires.kept

pub make_tail-replace_all-requires-clause-can : goal.make_tail-replace_all-requires-clause-can
make_tail-replace_all-requires-clause-can t c =
    let is : slice_get c.args.found.now c.args.host ≡ Some (Some c.in-Some.element) = found_host c.args.found.now c.args.host c.index.result c.in-Some.element c.requires.divided c.index.ensures.index c.in-Some.is in
    let hr = reducers_later c.args.shelf.now.trees c.keep_tail.new.shelf.trees c.args.reducers.now c.keep_tail.ensures.keeps.trees c.requires.reducers in
    let entry : slice_get c.keep_tail.new.kept c.in-Some-divided_input.input.1 ≡ Some (Some c.in-Some-Some.ids) = ap (slice_get c.keep_tail.new.kept) (sym c.index-in-Some-divided_input.ensures.index) ∙ sym c.in-Some-Some.ensures.value ∙ ap Some c.in-Some-Some.field-0-is in
    let tail : IsInsertionTail c.keep_tail.new.shelf.trees c.args.reducers.now c.args.found.now c.in-Some-divided_input.input.1 c.in-Some-Some.ids = c.keep_tail.ensures.kept c.in-Some-divided_input.input.1 c.in-Some-Some.ids entry in
    subst (All (CanReplace c.keep_tail.new.shelf c.args.host c.in-Some-divided_input.input.0)) (sym c.as_slice.ensures) (input_can c.args.shelf.now.trees c.keep_tail.new.shelf c.args.reducers.now c.args.found.now c.keep_tail.ensures.keeps.trees c.keep_tail.ensures.shelf hr c.requires.few c.args.host c.in-Some.element c.in-Some-divided_input.input.0 c.in-Some-divided_input.input.1 is (subst (λ (ts : List (Tree ℕ)). IsDividedInput ts c.args.found.now c.args.host c.in-Some.element c.in-Some-divided_input.input.0 c.in-Some-divided_input.input.1) c.store.ensures.store c.in-Some-divided_input.ensures.input) c.in-Some-Some.ids tail)

pub make_tail-returns-in-Some-Some-clause-made : goal.make_tail-returns-in-Some-Some-clause-made
make_tail-returns-in-Some-Some-clause-made t c =
    let is : slice_get c.args.found.now c.args.host ≡ Some (Some c.in-Some.element) = found_host c.args.found.now c.args.host c.index.result c.in-Some.element c.requires.divided c.index.ensures.index c.in-Some.is in
    let hr = reducers_later c.args.shelf.now.trees c.keep_tail.new.shelf.trees c.args.reducers.now c.keep_tail.ensures.keeps.trees c.requires.reducers in
    let entry : slice_get c.keep_tail.new.kept c.in-Some-divided_input.input.1 ≡ Some (Some c.in-Some-Some.ids) = ap (slice_get c.keep_tail.new.kept) (sym c.index-in-Some-divided_input.ensures.index) ∙ sym c.in-Some-Some.ensures.value ∙ ap Some c.in-Some-Some.field-0-is in
    let tail : IsInsertionTail c.keep_tail.new.shelf.trees c.args.reducers.now c.args.found.now c.in-Some-divided_input.input.1 c.in-Some-Some.ids = c.keep_tail.ensures.kept c.in-Some-divided_input.input.1 c.in-Some-Some.ids entry in
    on_ok_weaker c.replace_all.result
    (λ m. input_tail c.args.shelf.now.trees c.keep_tail.new.shelf c.args.reducers.now c.args.found.now c.keep_tail.ensures.keeps.trees c.keep_tail.ensures.shelf hr c.requires.few c.args.host c.in-Some.element c.in-Some-divided_input.input.0 c.in-Some-divided_input.input.1 is (subst (λ (ts : List (Tree ℕ)). IsDividedInput ts c.args.found.now c.args.host c.in-Some.element c.in-Some-divided_input.input.0 c.in-Some-divided_input.input.1) c.store.ensures.store c.in-Some-divided_input.ensures.input) c.in-Some-Some.ids tail c.replace_all.new.shelf.trees c.replace_all.ensures.keeps.trees c.args.out.now c.replace_all.new.out
    (subst (λ l. AreMade c.replace_all.new.shelf.trees (with_other c.keep_tail.new.shelf.trees c.args.host c.in-Some-divided_input.input.0) l c.args.out.now c.replace_all.new.out) c.as_slice.ensures m))
    c.replace_all.ensures.made

pub make_tail-returns-in-Some-Some-clause-kept : goal.make_tail-returns-in-Some-Some-clause-kept
make_tail-returns-in-Some-Some-clause-kept t c =
    let hr = reducers_later c.args.shelf.now.trees c.keep_tail.new.shelf.trees c.args.reducers.now c.keep_tail.ensures.keeps.trees c.requires.reducers in
    let few : length c.args.found.now ≤ length c.keep_tail.new.shelf.trees = (let g = grows_length c.args.shelf.now.trees c.keep_tail.new.shelf.trees c.keep_tail.ensures.keeps.trees in omega (arith, g, c.requires.few)) in
    kept_later c.keep_tail.new.shelf.trees c.replace_all.new.shelf.trees c.args.reducers.now c.replace_all.ensures.keeps.trees hr c.args.found.now c.keep_tail.new.kept few c.keep_tail.ensures.kept
