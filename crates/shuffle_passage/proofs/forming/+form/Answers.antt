use Rattle.std.proofs.Common.{◌≡◌, ◌∙◌, ◌++◌, ◌+◌, ◌≤◌, ℕ, List, length, map, take, drop, sym, ap, ap₂, arith, subst, rules}
use Rattle.std.proofs.Math.Seq.{take-append_seam}
use Rattle.std.proofs.lemmas.List.{take_all, length-map, map-id}
use Rattle.std.specs.List.{sum_by}
use Rattle.labelled_trees.specs.Leaves.{occurs}
use Rattle.labelled_trees.specs.Trees.{row}
use Rattle.labelled_trees.specs.Meaning.{tree_of}
use Rattle.labelled_trees.specs.declared.Tree as program
use Rattle.labelled_trees.specs.declared.Tree.TheVariants.{Node}
use Rattle.labelled_trees.specs.declared.Tree.TheViews.{the_lemmas}
use Rattle.labelled_trees.proofs.ProgramTrees.{fits-inputs}
use Rattle.operad_ideals.specs.Laws.{arity}
use Rattle.operad_ideals.specs.Parts as math
use Rattle.operad_ideals.specs.Sorting as plain
use Rattle.operad_ideals.proofs.SortedLists.{Apart, apart-at, sorted-permutation_apart}
use Rattle.operad_ideals.proofs.SortedParts.{length-sort_parts}
use Rattle.std.proofs.lemmas.List.Sorted.{answers_always}
use Rattle.shuffle_passage.proofs.WordBounds.{length-bounds}
use Rattle.shuffle_passage.proofs.LabelNumbers.{few_before}
use Rattle.shuffle_transfer.specs.Labels.{shuffle_form}
use Rattle.symmetric_trees.specs.Generators.{parts_at, part_of, generators_of}
use Rattle.symmetric_trees.specs.Spelling.{meaning_of}
use Rattle.symmetric_trees.specs.Trees.{Fits}
use Rattle.symmetric_trees.specs.declared.generators.Part.{Part}
use Rattle.symmetric_trees.proofs.Branches.{no_inputs_left}
use Rattle.symmetric_trees.proofs.Tables.{parts_at-held, sizes-held, held_if_wide}
use Rattle.shuffle_passage.specs.Words as spec
use Rattle.shuffle_passage.specs.Branches.{forms_of, least_leaves}
use Rattle.shuffle_passage.specs.declared.branch.Branch.{Branch}
use Rattle.shuffle_passage.proofs.WordTables.{length-words, read_words, bounds_few, first_label-most}
use Rattle.shuffle_passage.proofs.Vertices.{input_fits, input_once}
use Rattle.shuffle_passage.proofs.FormVertices.{leaves_apart, branches_apart, count_branches, form_vertex, form_sign}
use Rattle.shuffle_passage.proofs.forming.+form.Goals as goal
use Rattle.symmetric_trees.specs.declared.generators.Generator.{Generator}

pub form-requires : goal.form-requires
form-requires t c =
    let ts = c.as_slice-input-items.result.now in
    let i = c.loop-input.input-index in
    let is = c.in-Node.is ∙ ap (Node c.in-Node.generator) (sym c.as_slice-input-items.ensures) in
    let input_fits : Fits c.args.table.now (tree_of c.input-item.result) =
    input_fits (arity (parts_at c.args.table.now)) c.in-Node.generator ts i c.input-item.result c.loop-input-test.true c.input-item.is (subst (λ u. Fits c.args.table.now (tree_of u)) is c.requires.fits) in
    let input_once : (k : ℕ) → occurs k (tree_of c.input-item.result) ≤ 1 =
    input_once c.in-Node.generator ts i c.input-item.result c.loop-input-test.true c.input-item.is (subst (λ u. (k : ℕ) → occurs k (tree_of u) ≤ 1) is c.requires.once) in
    search (rules, the_lemmas)

pub get-requires : goal.get-requires
get-requires t c =
    let fits = fits-inputs (arity (parts_at c.args.table.now)) c.in-Node.generator c.in-Node.inputs (subst (λ u. Fits c.args.table.now (tree_of u)) c.in-Node.is c.requires.fits) in
    record { held = held_if_wide c.args.table.now c.in-Node.generator fits.0 }

all_trees : (form : program.Tree → Rattle.labelled_trees.specs.Trees.Tree ℕ) (items ts : List program.Tree) (i : ℕ) (bs : List Branch) → length items ≤ i → items ≡ ts
    → forms_of bs ≡ map form (take i items) → forms_of bs ≡ map form ts
all_trees form items ts i bs l e is = is ∙ ap (map form) (take_all i items l ∙ e)

-- What is known of the vertex behind its inputs: it fits, its leaves stand once, and the branches are the forms of the inputs.
record AtVertex (gens : List Generator) (g : ℕ) (ts : List program.Tree) (bs : List Branch) : Type 0 where
  fits : Fits gens (tree_of (Node g ts))
  parts_fit : (2 ≤ arity (parts_at gens) g) × (length ts ≡ arity (parts_at gens) g)
  once : (k : ℕ) → occurs k (tree_of (Node g ts)) ≤ 1
  trees : forms_of bs ≡ map (λ u. shuffle_form (generators_of gens) (tree_of u)) ts
  count : length bs ≡ arity (parts_at gens) g

at_vertex : {t : program.Tree} (gens : List Generator) (g : ℕ) (ts items : List program.Tree) (i : ℕ) (bs : List Branch) → t ≡ Node g ts → Fits gens (tree_of t)
    → ((k : ℕ) → occurs k (tree_of t) ≤ 1) → length items ≤ i → items ≡ ts → forms_of bs ≡ map (λ u. shuffle_form (generators_of gens) (tree_of u)) (take i items) → AtVertex gens g ts bs
at_vertex gens g ts items i bs is h o l e forms =
    let fits = subst (λ u. Fits gens (tree_of u)) is h in
    let once = subst (λ u. (k : ℕ) → occurs k (tree_of u) ≤ 1) is o in
    let trees = all_trees (λ u. shuffle_form (generators_of gens) (tree_of u)) items ts i bs l e forms in
    let parts_fit = fits-inputs (arity (parts_at gens)) g ts fits in
    record { fits = fits; parts_fit = (parts_fit.0, parts_fit.1); once = once; trees = trees; count = count_branches gens g ts bs fits once trees ∙ parts_fit.1 }

-- what the list holds after the slice was sorted
written : (new items : List ℕ) (n : ℕ) → length new ≡ length items → n ≡ length items → take n (new ++ drop (length new) items) ≡ new
written new items n e f = ap (λ m. take m (new ++ drop (length new) items)) (f ∙ sym e) ∙ take-append_seam new (drop (length new) items)

sorted_is : (ks mid new : List ℕ) (parts : List math.Part) (n : ℕ) → mid ≡ ks → n ≡ length ks → new ≡ plain.sort_parts (λ n. n) parts mid
    → take n (new ++ drop (length new) ks) ≡ plain.sort_parts (λ n. n) parts ks
sorted_is ks mid new parts n m f is =
    let len : length new ≡ length ks = ap length is ∙ length-sort_parts (λ n. n) parts mid ∙ ap length m in
    written new ks n len f ∙ is ∙ ap (plain.sort_parts (λ n. n) parts) m

pub sort_parts-requires-clause-sizes : goal.sort_parts-requires-clause-sizes
sort_parts-requires-clause-sizes t c =
    let gens = c.args.table.now in
    let g = c.in-Node.generator in
    let ts = c.in-Node.inputs in
    let bs = c.loop-input.branches.items in
    let at = at_vertex gens g ts c.as_slice-input-items.result.now c.loop-input.input-index bs c.in-Node.is c.requires.fits c.requires.once c.loop-input-test.false c.as_slice-input-items.ensures c.loop-input.invariant.trees in
    let keys : length c.loop-input.word.items ≡ length bs = ap length c.loop-input.invariant.keys ∙ length-map bs (λ (b : Branch). b.least) in
    ap (sum_by (λ (part : Part). part.size)) c.as_slice-parts.ensures ∙ sym (sizes-held gens g c.get.result.now c.get.ensures.found) ∙ sym at.count ∙ sym keys ∙ ap length (sym c.as_mut_slice.ensures.value)

pub sort_parts-requires-clause-apart : goal.sort_parts-requires-clause-apart
sort_parts-requires-clause-apart t c =
    let gens = c.args.table.now in
    let g = c.in-Node.generator in
    let ts = c.in-Node.inputs in
    let bs = c.loop-input.branches.items in
    let at = at_vertex gens g ts c.as_slice-input-items.result.now c.loop-input.input-index bs c.in-Node.is c.requires.fits c.requires.once c.loop-input-test.false c.as_slice-input-items.ensures c.loop-input.invariant.trees in
    let keys : length c.loop-input.word.items ≡ length bs = ap length c.loop-input.invariant.keys ∙ length-map bs (λ (b : Branch). b.least) in
    apart-at (λ n. n) c.as_mut_slice.result.now (subst (Apart (λ n. n)) (sym (c.as_mut_slice.ensures.value ∙ c.loop-input.invariant.keys)) (leaves_apart gens g ts bs at.fits at.once at.trees))

pub bounds-words-generator : goal.bounds-words-generator
bounds-words-generator t c =
    let gens = c.args.table.now in
    let g = c.in-Node.generator in
    let ts = c.in-Node.inputs in
    let bs = c.loop-input.branches.items in
    let fits = subst (λ u. Fits gens (tree_of u)) c.in-Node.is c.requires.fits in
    let parts_fit = fits-inputs (arity (parts_at gens)) g ts fits in
    let n = length-words 0 gens in
    let e = ap length c.requires.words in omega (arith, n, e, held_if_wide gens g parts_fit.0)

pub word_number-requires-clause-few : goal.word_number-requires-clause-few
word_number-requires-clause-few t c =
    let gens = c.args.table.now in
    let g = c.in-Node.generator in
    let ts = c.in-Node.inputs in
    let bs = c.loop-input.branches.items in
    let fits = subst (λ u. Fits gens (tree_of u)) c.in-Node.is c.requires.fits in
    let parts_fit = fits-inputs (arity (parts_at gens)) g ts fits in
    let held = held_if_wide gens g parts_fit.0 in
    let own = read_words gens c.args.words.now g c.index-words-generator.result c.requires.words held c.index-words-generator.is in
    let bounds : c.as_slice.result.now ≡ spec.bounds_of (parts_at gens g) = c.as_slice.ensures ∙ ap (λ w. w.bounds) own in
    omega (arith, ap length bounds, bounds_few gens g c.get.ensures.table held)

pub word_number-requires-clause-same : goal.word_number-requires-clause-same
word_number-requires-clause-same t c =
    let gens = c.args.table.now in
    let g = c.in-Node.generator in
    let ts = c.in-Node.inputs in
    let bs = c.loop-input.branches.items in
    let at = at_vertex gens g ts c.as_slice-input-items.result.now c.loop-input.input-index bs c.in-Node.is c.requires.fits c.requires.once c.loop-input-test.false c.as_slice-input-items.ensures c.loop-input.invariant.trees in
    let keys : length c.loop-input.word.items ≡ length bs = ap length c.loop-input.invariant.keys ∙ length-map bs (λ (b : Branch). b.least) in
    let held = held_if_wide gens g at.parts_fit.0 in
    let own = read_words gens c.args.words.now g c.index-words-generator.result c.requires.words held c.index-words-generator.is in
    let bounds : c.as_slice.result.now ≡ spec.bounds_of (parts_at gens g) = c.as_slice.ensures ∙ ap (λ w. w.bounds) own in
    let parts : parts_at gens g ≡ map part_of c.as_slice-parts.result.now = parts_at-held gens g c.get.result.now c.get.ensures.found ∙ ap (map part_of) (sym c.as_slice-parts.ensures) in
    let sorted : c.as_slice-in-Node.result.now ≡ plain.sort_parts (λ n. n) (parts_at gens g) (least_leaves bs) =
    c.as_slice-in-Node.ensures.value ∙ sorted_is c.loop-input.word.items c.as_mut_slice.result.now c.sort_parts.new.items (map part_of c.as_slice-parts.result.now) c.loop-input.word.len c.as_mut_slice.ensures.value c.loop-input.word.ok.0 c.sort_parts.ensures.order
    ∙ ap₂ (λ ps ks. plain.sort_parts (λ n. n) ps ks) (sym parts) c.loop-input.invariant.keys in
    ap length sorted ∙ length-sort_parts (λ n. n) (parts_at gens g) (least_leaves bs) ∙ length-map bs (λ (b : Branch). b.least) ∙ at.count ∙ sym (length-bounds (parts_at gens g)) ∙ ap length (sym bounds)

pub overflow_add-label : goal.overflow_add-label
overflow_add-label t c =
    let gens = c.args.table.now in
    let g = c.in-Node.generator in
    let ts = c.in-Node.inputs in
    let bs = c.loop-input.branches.items in
    let at = at_vertex gens g ts c.as_slice-input-items.result.now c.loop-input.input-index bs c.in-Node.is c.requires.fits c.requires.once c.loop-input-test.false c.as_slice-input-items.ensures c.loop-input.invariant.trees in
    let keys : length c.loop-input.word.items ≡ length bs = ap length c.loop-input.invariant.keys ∙ length-map bs (λ (b : Branch). b.least) in
    let held = held_if_wide gens g at.parts_fit.0 in
    let own = read_words gens c.args.words.now g c.index-words-generator.result c.requires.words held c.index-words-generator.is in
    let bounds : c.as_slice.result.now ≡ spec.bounds_of (parts_at gens g) = c.as_slice.ensures ∙ ap (λ w. w.bounds) own in
    let parts : parts_at gens g ≡ map part_of c.as_slice-parts.result.now = parts_at-held gens g c.get.result.now c.get.ensures.found ∙ ap (map part_of) (sym c.as_slice-parts.ensures) in
    let sorted : c.as_slice-in-Node.result.now ≡ plain.sort_parts (λ n. n) (parts_at gens g) (least_leaves bs) =
    c.as_slice-in-Node.ensures.value ∙ sorted_is c.loop-input.word.items c.as_mut_slice.result.now c.sort_parts.new.items (map part_of c.as_slice-parts.result.now) c.loop-input.word.len c.as_mut_slice.ensures.value c.loop-input.word.ok.0 c.sort_parts.ensures.order
    ∙ ap₂ (λ ps ks. plain.sort_parts (λ n. n) ps ks) (sym parts) c.loop-input.invariant.keys in
    let few = bounds_few gens g c.get.ensures.table held in
    let size : length c.as_slice-in-Node.result.now ≡ length c.as_slice.result.now =
    ap length sorted ∙ length-sort_parts (λ n. n) (parts_at gens g) (least_leaves bs) ∙ length-map bs (λ (b : Branch). b.least) ∙ at.count ∙ sym (length-bounds (parts_at gens g)) ∙ ap length (sym bounds) in
    let before = few_before c.as_slice.result.now 0 c.as_slice-in-Node.result.now size (omega (arith, ap length bounds, few)) in
    let first : c.index-words-generator.result.first ≡ spec.first_label (generators_of gens) g = ap (λ w. w.first) own in
    let most = first_label-most gens g c.get.ensures.table (omega (arith, held)) in
    omega (arith, before, c.word_number.ensures, first, most, held, c.get.ensures.table.few)

pub returns-in_ok-vertex-in-Node-clause-sign : goal.returns-in_ok-vertex-in-Node-clause-sign
returns-in_ok-vertex-in-Node-clause-sign t c =
    let gens = c.args.table.now in
    let g = c.in-Node.generator in
    let ts = c.in-Node.inputs in
    let bs = c.loop-input.branches.items in
    let at = at_vertex gens g ts c.as_slice-input-items.result.now c.loop-input.input-index bs c.in-Node.is c.requires.fits c.requires.once c.loop-input-test.false c.as_slice-input-items.ensures c.loop-input.invariant.trees in
    let keys : length c.loop-input.word.items ≡ length bs = ap length c.loop-input.invariant.keys ∙ length-map bs (λ (b : Branch). b.least) in
    let parts : parts_at gens g ≡ map part_of c.as_slice-parts.result.now = parts_at-held gens g c.get.result.now c.get.ensures.found ∙ ap (map part_of) (sym c.as_slice-parts.ensures) in
    let before = no_inputs_left (parts_at gens) c.as_slice-input-items.result.now c.loop-input.input-index (meaning_of c.loop-input.sign) _ c.loop-input-test.false c.loop-input.invariant.sign
    ∙ ap (λ us. plain.spelled_sign_row (parts_at gens) (row (map tree_of us))) c.as_slice-input-items.ensures in
    form_sign gens g ts bs at.fits at.once at.trees (meaning_of c.loop-input.sign) (meaning_of c.sort_parts.result) (meaning_of c.times-sign-in-Node.result) before
    (c.sort_parts.ensures.sign ∙ ap₂ plain.parts_sign (sym parts) (map-id c.as_mut_slice.result.now ∙ c.as_mut_slice.ensures.value ∙ c.loop-input.invariant.keys))
    c.times-sign-in-Node.ensures.product
    ∙ ap (λ u. plain.spelled_sign (parts_at gens) (tree_of u)) (sym c.in-Node.is)

pub returns-in_ok-vertex-in-Node-clause-tree : goal.returns-in_ok-vertex-in-Node-clause-tree
returns-in_ok-vertex-in-Node-clause-tree t c =
    let gens = c.args.table.now in
    let g = c.in-Node.generator in
    let ts = c.in-Node.inputs in
    let bs = c.loop-input.branches.items in
    let at = at_vertex gens g ts c.as_slice-input-items.result.now c.loop-input.input-index bs c.in-Node.is c.requires.fits c.requires.once c.loop-input-test.false c.as_slice-input-items.ensures c.loop-input.invariant.trees in
    let keys : length c.loop-input.word.items ≡ length bs = ap length c.loop-input.invariant.keys ∙ length-map bs (λ (b : Branch). b.least) in
    let held = held_if_wide gens g at.parts_fit.0 in
    let own = read_words gens c.args.words.now g c.index-words-generator.result c.requires.words held c.index-words-generator.is in
    let bounds : c.as_slice.result.now ≡ spec.bounds_of (parts_at gens g) = c.as_slice.ensures ∙ ap (λ w. w.bounds) own in
    let parts : parts_at gens g ≡ map part_of c.as_slice-parts.result.now = parts_at-held gens g c.get.result.now c.get.ensures.found ∙ ap (map part_of) (sym c.as_slice-parts.ensures) in
    let sorted : c.as_slice-in-Node.result.now ≡ plain.sort_parts (λ n. n) (parts_at gens g) (least_leaves bs) =
    c.as_slice-in-Node.ensures.value ∙ sorted_is c.loop-input.word.items c.as_mut_slice.result.now c.sort_parts.new.items (map part_of c.as_slice-parts.result.now) c.loop-input.word.len c.as_mut_slice.ensures.value c.loop-input.word.ok.0 c.sort_parts.ensures.order
    ∙ ap₂ (λ ps ks. plain.sort_parts (λ n. n) ps ks) (sym parts) c.loop-input.invariant.keys in
    let first : c.index-words-generator.result.first ≡ spec.first_label (generators_of gens) g = ap (λ w. w.first) own in
    let label = ap₂ (λ m n. m + n) first (c.word_number.ensures ∙ ap₂ (λ ps ks. spec.word_number ps 0 (spec.digits ks)) bounds sorted) in
    let all = sorted-permutation_apart (λ (b : Branch). b.least) bs c.sort_unstable_by_key.new.self.items c.sort_unstable_by_key.ensures.permutation
    (c.sort_unstable_by_key.ensures.sorted (λ b. b.least) (answers_always _ _ _ (λ f a r g h. search rules))) (branches_apart gens g ts bs at.fits at.once at.trees) in
    c.in_ok-vertex-in-Node.ensures
    ∙ form_vertex gens g ts bs at.fits at.once at.trees _ c.sort_unstable_by_key.new.self.items held at.parts_fit.1 label all
    ∙ ap (λ u. shuffle_form (generators_of gens) (tree_of u)) (sym c.in-Node.is)
