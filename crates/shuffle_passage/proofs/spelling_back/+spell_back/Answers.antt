use Rattle.std.proofs.Common.{◌≡◌, ◌∙◌, ℕ, List, ◌-◌, ◌≤◌, length, map, take, sym, ap, ap₂, arith, subst, rules}
use Rattle.std.proofs.lemmas.List.{take_all, length-map}
use Rattle.labelled_trees.specs.Labelled.{Fits}
use Rattle.labelled_trees.specs.Meaning.{tree_of}
use Rattle.labelled_trees.specs.declared.Tree.TheVariants.{Leaf, Node}
use Rattle.labelled_trees.specs.declared.Tree as program
use Rattle.labelled_trees.specs.declared.Tree.TheViews.{the_lemmas}
use Rattle.labelled_trees.proofs.ProgramTrees.{fits-inputs}
use Rattle.operad_ideals.specs.Parts.{Part}
use Rattle.operad_ideals.specs.Laws.{arity}
use Rattle.shuffle_transfer.specs.Labels.{inputs_of, symmetric_tree}
use Rattle.shuffle_transfer.proofs.Labels.{label_below}
use Rattle.symmetric_trees.specs.Generators.{parts_at, generators_of}
use Rattle.shuffle_passage.specs.Words as spec
use Rattle.shuffle_passage.proofs.WordBounds.{length-bounds}
use Rattle.shuffle_passage.proofs.WordTables.{length-words, read_words}
use Rattle.shuffle_passage.proofs.Vertices.{input_fits, back_vertex}
use Rattle.shuffle_passage.proofs.spelling_back.+spell_back.Goals as goal

all_made : (generators : List (List Part)) (items ts : List program.Tree) (i : ℕ) (made : List program.Tree) → length items ≤ i → items ≡ ts
    → map tree_of made ≡ map (λ t. symmetric_tree generators (tree_of t)) (take i items) → map tree_of made ≡ map (λ t. symmetric_tree generators (tree_of t)) ts
all_made generators items ts i made l e is = is ∙ ap (map (λ t. symmetric_tree generators (tree_of t))) (take_all i items l ∙ e)

pub spell_back-requires : goal.spell_back-requires
spell_back-requires t c =
    let ts = c.as_slice-input-items.result.now in
    let whole = subst (λ u. Fits (inputs_of (generators_of c.args.table.now)) (tree_of u)) (c.in-Node.is ∙ ap (Node c.in-Node.label) (sym c.as_slice-input-items.ensures)) c.requires.fits in
    let inside : Fits (inputs_of (generators_of c.args.table.now)) (tree_of c.input-item.result) =
    input_fits (inputs_of (generators_of c.args.table.now)) c.in-Node.label ts c.loop-input.input-index c.input-item.result c.loop-input-test.true c.input-item.is whole in
    search (rules, the_lemmas)

pub generator_of-generator-requires-clause-label : goal.generator_of-generator-requires-clause-label
generator_of-generator-requires-clause-label t c =
    let generators = generators_of c.args.table.now in
    let fits = fits-inputs (inputs_of generators) c.in-Node.label c.in-Node.inputs (subst (λ u. Fits (inputs_of generators) (tree_of u)) c.in-Node.is c.requires.fits) in
    label_below generators c.in-Node.label fits.0

pub bounds-words-generator : goal.bounds-words-generator
bounds-words-generator t c =
    let n = length-words 0 c.args.table.now in let e = ap length c.requires.words in omega (arith, n, e, c.generator_of-generator.ensures.held)

pub overflow_sub-label : goal.overflow_sub-label
overflow_sub-label t c =
    let g = c.generator_of-generator.result in
    let own = read_words c.args.table.now c.args.words.now g c.index-words-generator.result c.requires.words c.generator_of-generator.ensures.held c.index-words-generator.is in
    let first : c.index-words-generator.result.first ≡ spec.first_label (generators_of c.args.table.now) g = ap (λ w. w.first) own in
    omega (arith, first, c.generator_of-generator.ensures.first)

pub arranged-requires-clause-few : goal.arranged-requires-clause-few
arranged-requires-clause-few t c =
    let g = c.generator_of-generator.result in
    let own = read_words c.args.table.now c.args.words.now g c.index-words-generator.result c.requires.words c.generator_of-generator.ensures.held c.index-words-generator.is in
    let bounds : c.as_slice.result.now ≡ spec.bounds_of (parts_at c.args.table.now g) = c.as_slice.ensures ∙ ap (λ w. w.bounds) own in
    omega (arith, ap length bounds, c.generator_of-generator.ensures.few)

pub arranged-requires-clause-same : goal.arranged-requires-clause-same
arranged-requires-clause-same t c =
    let gens = c.args.table.now in
    let generators = generators_of gens in
    let g = c.generator_of-generator.result in
    let ts = c.in-Node.inputs in
    let own = read_words gens c.args.words.now g c.index-words-generator.result c.requires.words c.generator_of-generator.ensures.held c.index-words-generator.is in
    let bounds : c.as_slice.result.now ≡ spec.bounds_of (parts_at gens g) = c.as_slice.ensures ∙ ap (λ w. w.bounds) own in
    let fits = fits-inputs (inputs_of generators) c.in-Node.label ts (subst (λ u. Fits (inputs_of generators) (tree_of u)) c.in-Node.is c.requires.fits) in
    let made = all_made generators c.as_slice-input-items.result.now ts c.loop-input.input-index c.loop-input.made c.loop-input-test.false c.as_slice-input-items.ensures c.loop-input.invariant in
    sym (length-map c.loop-input.made tree_of) ∙ ap length made ∙ length-map ts (λ u. symmetric_tree generators (tree_of u)) ∙ fits.1 ∙ ap (arity (parts_at gens)) (sym c.generator_of-generator.ensures.generator)
    ∙ sym (length-bounds (parts_at gens g)) ∙ ap length (sym bounds)

pub arranged-requires-clause-held : goal.arranged-requires-clause-held
arranged-requires-clause-held t c =
    let gens = c.args.table.now in
    let g = c.generator_of-generator.result in
    let own = read_words gens c.args.words.now g c.index-words-generator.result c.requires.words c.generator_of-generator.ensures.held c.index-words-generator.is in
    let first : c.index-words-generator.result.first ≡ spec.first_label (generators_of gens) g = ap (λ w. w.first) own in
    let bounds : c.as_slice.result.now ≡ spec.bounds_of (parts_at gens g) = c.as_slice.ensures ∙ ap (λ w. w.bounds) own in
    omega (arith, first, ap (λ bs. spec.endings bs 0) bounds, c.generator_of-generator.ensures.first, c.generator_of-generator.ensures.end)

pub returns-in_ok-ordered-in-Node : goal.returns-in_ok-ordered-in-Node
returns-in_ok-ordered-in-Node t c =
    let gens = c.args.table.now in
    let generators = generators_of gens in
    let g = c.generator_of-generator.result in
    let ts = c.in-Node.inputs in
    let own = read_words gens c.args.words.now g c.index-words-generator.result c.requires.words c.generator_of-generator.ensures.held c.index-words-generator.is in
    let first : c.index-words-generator.result.first ≡ spec.first_label (generators_of gens) g = ap (λ w. w.first) own in
    let bounds : c.as_slice.result.now ≡ spec.bounds_of (parts_at gens g) = c.as_slice.ensures ∙ ap (λ w. w.bounds) own in
    let fits = fits-inputs (inputs_of generators) c.in-Node.label ts (subst (λ u. Fits (inputs_of generators) (tree_of u)) c.in-Node.is c.requires.fits) in
    let made = all_made generators c.as_slice-input-items.result.now ts c.loop-input.input-index c.loop-input.made c.loop-input-test.false c.as_slice-input-items.ensures c.loop-input.invariant in
    let ordered : c.in_ok-ordered-in-Node.ordered ≡ spec.chosen (Leaf 0) c.loop-input.made (spec.digits_of (spec.bounds_of (parts_at gens g)) 0 (c.in-Node.label - spec.first_label (generators_of gens) g)) =
    c.in_ok-ordered-in-Node.ensures ∙ ap₂ (λ bs n. spec.chosen (Leaf 0) c.loop-input.made (spec.digits_of bs 0 (c.in-Node.label - n))) bounds first in
    record {
      tree = back_vertex gens c.in-Node.label g ts c.loop-input.made c.in_ok-ordered-in-Node.ordered made fits.1 c.generator_of-generator.ensures.held c.generator_of-generator.ensures.generator
          c.generator_of-generator.ensures.first c.generator_of-generator.ensures.end ordered
          ∙ ap (λ u. symmetric_tree generators (tree_of u)) (sym c.in-Node.is);
    }
