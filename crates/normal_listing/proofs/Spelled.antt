-- The word of a vertex from those of its inputs.
use Rattle.std.proofs.Common.{◌≡◌, ℕ, ◌+◌, ◌-◌, ◌<◌, ◌≤◌, zero, suc, List, [], ◌∷◌, length, map, refl, sym, ◌∙◌, ap, arith, get_or}
use mathlib.Core.List.{◌++◌}
use mathlib.Core.Path.{ap₂}
use Rattle.std.specs.List.{All, flat_map}
use Rattle.labelled_trees.specs.Trees.{Tree, row}
use Rattle.labelled_trees.specs.Insertions.{item}
use Rattle.shuffle_transfer.specs.ShuffleForms.{to_symmetric_row}
use Rattle.normal_listing.specs.Words.{symbols}
use Rattle.normal_listing.specs.VertexWords.{joined}
use Rattle.normal_listing.proofs.VertexWords.{words_of_vertices}
use Rattle.tree_store.specs.Stores.{tree_at}
use Rattle.normal_listing.specs.declared.labels.Label.{Label}
use Rattle.normal_listing.specs.Vertices.{generator_of, word_of, spelling, vertex, numbered}

-- the same things, joined
same_joined : (f g : ℕ → List ℕ) (w : List ℕ) → ((k : ℕ) → k < length w → f (get_or w k 0) ≡ g (get_or w k 0)) → joined f w ≡ flat_map g w
same_joined f g [] h = refl
same_joined f g (i ∷ w) h = ap₂ (λ a b. a ++ b) (h 0 (omega arith)) (same_joined f g w (λ k lt. h (suc k) (omega (arith, lt))))

module _ (trees : List (Tree ℕ)) (labels : List Label) where
  input_spelled : (ids : List ℕ) (i : ℕ) → i < length ids
      → symbols (item (to_symmetric_row (generator_of labels) (word_of labels) (row (map (tree_at trees) ids))) (suc i)) ≡ get_or (map (λ id. spelling labels (tree_at trees id)) ids) i []
  input_spelled [] i h = absurd (omega arith)
  input_spelled (x ∷ ids) zero h = refl
  input_spelled (x ∷ ids) (suc i) h = input_spelled ids i (omega arith)

  number_spelled : (ids : List ℕ) (n : ℕ) → 0 < n → n ≤ length ids
      → symbols (item (to_symmetric_row (generator_of labels) (word_of labels) (row (map (tree_at trees) ids))) n) ≡ numbered (map (λ id. spelling labels (tree_at trees id)) ids) n
  number_spelled ids zero p h = absurd (omega arith)
  number_spelled ids (suc i) p h = let e : suc i - 1 ≡ i = omega arith in input_spelled ids i (omega arith) ∙ ap (λ j. get_or (map (λ id. spelling labels (tree_at trees id)) ids) j []) (sym e)

  pub vertex_spelled : (l : ℕ) (ids : List ℕ) (words : List (List ℕ)) → words ≡ map (λ id. spelling labels (tree_at trees id)) ids → All (λ i. (0 < i) × (i ≤ length ids)) (word_of labels l)
      → spelling labels (vertex trees l ids) ≡ (10 + generator_of labels l) ∷ flat_map (numbered words) (word_of labels l)
  vertex_spelled l ids words e h =
      words_of_vertices (generator_of labels) (word_of labels) l (row (map (tree_at trees) ids))
      ∙ ap (λ w. (10 + generator_of labels l) ∷ w)
      (same_joined (λ i. symbols (item (to_symmetric_row (generator_of labels) (word_of labels) (row (map (tree_at trees) ids))) i)) (numbered (map (λ id. spelling labels (tree_at trees id)) ids)) (word_of labels l)
      (λ k lt. number_spelled ids (get_or (word_of labels l) k 0) (h k 0 lt).0 (h k 0 lt).1)
      ∙ ap (λ ws. flat_map (numbered ws) (word_of labels l)) (sym e))
