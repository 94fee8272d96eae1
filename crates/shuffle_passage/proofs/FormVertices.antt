-- The vertices of shuffle forms.
use Rattle.std.proofs.Common.{◌≡◌, ℕ, ◌+◌, ◌<◌, ◌≤◌, List, [], ◌∷◌, length, map, refl, sym, ap, ap₂, ◌∙◌, subst, arith}
use Rattle.std.proofs.Math.ListN.{length-map}
use Rattle.std.proofs.lemmas.Simd.{map-map}
use Rattle.labelled_trees.specs.Trees.{node, row}
use Rattle.labelled_trees.specs.Leaves.{occurs}
use Rattle.labelled_trees.specs.Labelled.{Fits}
use Rattle.labelled_trees.specs.Meaning.{tree_of}
use Rattle.labelled_trees.specs.declared.Tree as program
use Rattle.labelled_trees.specs.declared.Tree.TheVariants.{Node}
use Rattle.labelled_trees.proofs.ProgramTrees.{tree_of-node}
use Rattle.operad_ideals.specs.Parts.{Sign, times}
use Rattle.operad_ideals.specs.Laws.{arity}
use Rattle.operad_ideals.specs.Sorting.{sort_by, sort_parts, parts_sign, spelled_sign, spelled_sign_row, spelled_row}
use Rattle.operad_ideals.specs.Spelling.{least_leaf}
use Rattle.operad_ideals.proofs.SortedLists.{Apart, apart-map, apart-unmap, map-sort_by}
use Rattle.operad_ideals.proofs.Spellings.{least_leaves-spelled_row}
use Rattle.shuffle_insertions.specs.ShuffleTrees.{least}
use Rattle.shuffle_transfer.specs.ShuffleForms.{ranks, form_row}
use Rattle.shuffle_transfer.specs.Labels.{label, shuffle_form}
use Rattle.shuffle_transfer.proofs.TreesOfShuffleTrees.{form_row-row}
use Rattle.shuffle_transfer.proofs.Forms.{forms_apart}
use Rattle.shuffle_transfer.proofs.Signs.{keys-form}
use Rattle.symmetric_trees.specs.Generators.{parts_at, generators_of}
use Rattle.symmetric_trees.specs.declared.generators.Generator.{Generator}
use Rattle.shuffle_passage.specs.Words.{bounds_of, first_label, word_number, digits}
use Rattle.shuffle_passage.specs.Branches.{forms_of, least_leaves}
use Rattle.shuffle_passage.specs.declared.branch.Branch.{Branch}
use Rattle.shuffle_passage.proofs.LabelNumbers.{label_of_keys}
use Rattle.shuffle_passage.proofs.WordTables.{length-generators}

pub keys_are : (bs : List Branch) → least_leaves bs ≡ map least (forms_of bs)
keys_are [] = refl
keys_are (b ∷ bs) = ap₂ (λ k ks. k ∷ ks) b.least_is (keys_are bs)

-- the branches bs are the shuffle forms of the inputs ts of a vertex
module _ (gens : List Generator) (g : ℕ) (ts : List program.Tree) (bs : List Branch) (fits : Fits (arity (parts_at gens)) (tree_of (Node g ts))) (once : (i : ℕ) → occurs i (tree_of (Node g ts)) ≤ 1)
    (trees : forms_of bs ≡ map (λ t. shuffle_form (generators_of gens) (tree_of t)) ts) where
  vertex_fits : Fits (arity (parts_at gens)) (node g (row (map tree_of ts)))
  vertex_fits = subst (Fits (arity (parts_at gens))) (tree_of-node g ts) fits

  vertex_once : (i : ℕ) → occurs i (node g (row (map tree_of ts))) ≤ 1
  vertex_once = subst (λ t. (i : ℕ) → occurs i t ≤ 1) (tree_of-node g ts) once

  forms_are : forms_of bs ≡ form_row (label (generators_of gens)) (row (map tree_of ts))
  forms_are = trees ∙ sym (form_row-row (label (generators_of gens)) (map tree_of ts) ∙ map-map (shuffle_form (generators_of gens)) tree_of ts)

  leaves_are : least_leaves bs ≡ map least (form_row (label (generators_of gens)) (row (map tree_of ts)))
  leaves_are = keys_are bs ∙ ap (map least) forms_are

  -- their least leaves differ
  pub leaves_apart : Apart (λ n. n) (least_leaves bs)
  leaves_apart = subst (Apart (λ n. n)) (sym leaves_are) (apart-map least (form_row (label (generators_of gens)) (row (map tree_of ts))) (forms_apart (label (generators_of gens)) (arity (parts_at gens)) (row (map tree_of ts)) vertex_fits.2 vertex_once))

  pub branches_apart : Apart (λ (b : Branch). b.least) bs
  branches_apart = apart-unmap (λ (b : Branch). b.least) bs leaves_apart

  pub count_branches : length bs ≡ length ts
  count_branches = sym (length-map bs (λ (b : Branch). tree_of b.tree)) ∙ ap length trees ∙ length-map ts (λ t. shuffle_form (generators_of gens) (tree_of t))

  -- sorted, they make the vertex of the shuffle form
  pub form_vertex : (l : ℕ) (sorted : List Branch) → g < length gens → length ts ≡ arity (parts_at gens) g
      → l ≡ first_label (generators_of gens) g + word_number (bounds_of (parts_at gens g)) 0 (digits (sort_parts (λ n. n) (parts_at gens g) (least_leaves bs)))
      → sorted ≡ sort_by (λ (b : Branch). b.least) bs → node l (row (forms_of sorted)) ≡ shuffle_form (generators_of gens) (tree_of (Node g ts))
  form_vertex l sorted held size l_is s =
      let n = length-generators gens in
      let many : length (least_leaves bs) ≡ arity (parts_at gens) g = length-map bs (λ (b : Branch). b.least) ∙ count_branches ∙ size in
      let own : l ≡ label (generators_of gens) g (ranks (map least (form_row (label (generators_of gens)) (row (map tree_of ts))))) =
      l_is ∙ sym (label_of_keys (generators_of gens) g (least_leaves bs) (omega (arith, n, held)) many leaves_apart) ∙ ap (λ ks. label (generators_of gens) g (ranks ks)) leaves_are in
      ap₂ (λ m us. node m (row us)) own
      (ap forms_of s ∙ map-sort_by (λ (b : Branch). tree_of b.tree) (λ (b : Branch). b.least) least (λ (b : Branch). b.least_is) bs ∙ ap (sort_by least) forms_are)
      ∙ ap (shuffle_form (generators_of gens)) (sym (tree_of-node g ts))

  -- the sign of the vertex
  pub form_sign : (before moved whole : Sign) → before ≡ spelled_sign_row (parts_at gens) (row (map tree_of ts)) → moved ≡ parts_sign (parts_at gens g) (least_leaves bs) → whole ≡ times before moved
      → whole ≡ spelled_sign (parts_at gens) (tree_of (Node g ts))
  form_sign before moved whole b m w =
      let r = row (map tree_of ts) in
      let keys : least_leaves bs ≡ map least_leaf (spelled_row (parts_at gens) r) = leaves_are ∙ keys-form (parts_at gens) (label (generators_of gens)) r vertex_fits.2 vertex_once ∙ sym (least_leaves-spelled_row (parts_at gens) r) in
      w ∙ ap₂ times b (m ∙ ap (parts_sign (parts_at gens g)) keys) ∙ ap (spelled_sign (parts_at gens)) (sym (tree_of-node g ts))
