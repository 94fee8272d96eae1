use Rattle.std.proofs.Common.{rules, ◌≡◌, ◌+◌, ◌≤◌, ◌∷◌, [], length, drop, ap, sym, ◌∙◌, subst, arith}
use mathlib.Core.List.{◌++◌}
use Rattle.std.proofs.lemmas.List.{drop_more}
use Rattle.labelled_trees.specs.Meaning.{tree_of}
use Rattle.labelled_trees.specs.declared.Tree.TheViews.{the_lemmas}
use Rattle.normal_listing.specs.Places.{IsShortWord, IsSymbol}
use Rattle.normal_listing.specs.Words.{symbols}
use Rattle.normal_listing.proofs.Combining.{symbols_from, symbols-leaf, symbols-node, symbols_more, symbols_none, part_taken, part_word, first_symbol, nothing_behind}
use Rattle.normal_listing.proofs.trees.+word_of.Goals as goal

pub symbol-requires : goal.symbol-requires
symbol-requires t c =
    let is = first_symbol c.in-Leaf.number [] (symbols (tree_of c.args.tree.now)) (symbols-leaf c.args.tree.now c.in-Leaf.number c.in-Leaf.is) c.requires.word in
    record { some = is.some; small = is.small }

pub loop-input-init : goal.loop-input-init
loop-input-init t c =
    let items = c.as_slice-input-items.result.now in
    ap (λ l. l ++ symbols_from 0 items) c.symbol-word.ensures.symbol
    ∙ sym (symbols-node c.args.tree.now c.in-Node.generator c.in-Node.inputs items c.in-Node.is c.as_slice-input-items.ensures)

pub word_of-requires : goal.word_of-requires
word_of-requires t c =
    let items = c.as_slice-input-items.result.now in
    let i = c.loop-input.input-index in
    let x = c.input-item.result in
    let here : drop i items ≡ x ∷ drop (i + 1) items = drop_more items i x c.loop-input-test.true ∙ ap (λ y. y ∷ drop (i + 1) items) (sym c.input-item.is) in
    let input : IsShortWord (symbols (tree_of x)) =
    (part_word c.loop-input.word (symbols (tree_of x)) (symbols_from (i + 1) items) (symbols (tree_of c.args.tree.now))
    (ap (λ l. c.loop-input.word ++ l) (sym (symbols_more i items x c.loop-input-test.true here)) ∙ c.loop-input.invariant) c.requires.word).0 in
    search (rules, the_lemmas)

pub then-word-requires : goal.then-word-requires
then-word-requires t c =
    let items = c.as_slice-input-items.result.now in
    let i = c.loop-input.input-index in
    let x = c.input-item.result in
    let here : drop i items ≡ x ∷ drop (i + 1) items = drop_more items i x c.loop-input-test.true ∙ ap (λ y. y ∷ drop (i + 1) items) (sym c.input-item.is) in
    let room = (part_word c.loop-input.word (symbols (tree_of x)) (symbols_from (i + 1) items) (symbols (tree_of c.args.tree.now))
    (ap (λ l. c.loop-input.word ++ l) (sym (symbols_more i items x c.loop-input-test.true here)) ∙ c.loop-input.invariant) c.requires.word).1 in
    record { room = subst (λ l. length c.loop-input.word + length l ≤ 25) (sym c.word_of.ensures.word) room }

pub loop-input-preserved : goal.loop-input-preserved
loop-input-preserved t c =
    let items = c.as_slice-input-items.result.now in
    let i = c.loop-input.input-index in
    let x = c.input-item.result in
    let here : drop i items ≡ x ∷ drop (i + 1) items = drop_more items i x c.loop-input-test.true ∙ ap (λ y. y ∷ drop (i + 1) items) (sym c.input-item.is) in
    part_taken c.loop-input.word (symbols (tree_of x)) (symbols_from (i + 1) items) c.then-word.result (symbols (tree_of c.args.tree.now))
    (ap (λ l. c.loop-input.word ++ l) (sym (symbols_more i items x c.loop-input-test.true here)) ∙ c.loop-input.invariant)
    (c.then-word.ensures.joined ∙ ap (λ l. c.loop-input.word ++ l) c.word_of.ensures.word)

pub returns-after-loop-input : goal.returns-after-loop-input
returns-after-loop-input t c = record {
  word =
      sym (nothing_behind c.loop-input.word)
      ∙ ap (λ l. c.loop-input.word ++ l) (sym (symbols_none c.loop-input.input-index c.as_slice-input-items.result.now (omega arith)))
      ∙ c.loop-input.invariant;
}
