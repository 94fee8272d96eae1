-- The keys of two trees are alike.
use Rattle.std.proofs.Common.{◌≡◌, ℕ, zero, suc, ◌+◌, ◌<◌, ◌≤◌, List, [], ◌∷◌, length, map, ap, sym, ◌∙◌, arith, length-append}
use mathlib.Core.List.{◌++◌}
use native.Mathlib.Decide.{ℕ_discrete}
use Rattle.std.specs.List.{AllByRecursion}
use Rattle.labelled_trees.specs.Trees.{Tree, Row, leaf, node, none, more, leaves, vertices, vertices_row}
use Rattle.labelled_trees.specs.Leaves.{occurs}
use Rattle.shuffle_insertions.specs.ShuffleTrees.{IsShuffle}
use Rattle.shuffle_insertions.specs.Keys.{words_at, words_at_row, words_below}
use Rattle.shuffle_insertions.proofs.Keys.{length-words_at}
use Rattle.shuffle_trees.specs.ValidTrees.{IsWide}
use Rattle.shuffle_trees.proofs.Counts.{fewer_vertices, count_of_shuffle}
use Rattle.path_orders.proofs.WordLists.{length-leaves}
use Rattle.shuffle_insertions.specs.KeyBlocks.{AreShort}
use Rattle.path_orders.specs.Laws.{KeysAreAlike}
use Rattle.modular_sums.specs.Lists.{choose}

-- each word has at most n letters
abbrev AreWithin : ℕ → List (List ℕ) → Type 0
AreWithin n = AllByRecursion (λ w. length w ≤ n)

within_append : (n : ℕ) (ks ls : List (List ℕ)) → AreWithin n ks → AreWithin n ls → AreWithin n (ks ++ ls)
within_append n [] ls h g = g
within_append n (k ∷ ks) ls h g = (h.0, within_append n ks ls h.1 g)

within_more : (m n : ℕ) (ks : List (List ℕ)) → m ≤ n → AreWithin m ks → AreWithin n ks
within_more m n [] le h = tt
within_more m n (k ∷ ks) le h = let one = h.0 in (omega (arith, le, one), within_more m n ks le h.1)

within_under : (n l : ℕ) (ks : List (List ℕ)) → AreWithin n ks → AreWithin (suc n) (map (λ w. l ∷ w) ks)
within_under n l [] h = tt
within_under n l (k ∷ ks) h = let one = h.0 in (omega (arith, one), within_under n l ks h.1)

within_only : (i j : ℕ) (d : Dec (i ≡ j)) → AreWithin 0 (choose {B = List (List ℕ)} d ([] ∷ []) [])
within_only i j (yes _) = (omega arith, tt)
within_only i j (no _) = tt

mutual
  words_within : (i : ℕ) (t : Tree ℕ) → AreWithin (vertices t) (words_at i t)
  words_within i (leaf n) = within_only n i (ℕ_discrete n i)
  words_within i (node l r) = within_under (vertices_row r) l (words_at_row i r) (words_within_row i r)

  words_within_row : (i : ℕ) (r : Row ℕ) → AreWithin (vertices_row r) (words_at_row i r)
  words_within_row i none = tt
  words_within_row i (more t r) =
      within_append (vertices t + vertices_row r) (words_at i t) (words_at_row i r)
      (within_more (vertices t) (vertices t + vertices_row r) (words_at i t) (omega arith) (words_within i t))
      (within_more (vertices_row r) (vertices t + vertices_row r) (words_at_row i r) (omega arith) (words_within_row i r))

below_within : (b : ℕ) (t : Tree ℕ) → AreWithin (vertices t) (words_below b t)
below_within zero t = tt
below_within (suc b) t = within_append (vertices t) (words_below b t) (words_at b t) (below_within b t) (words_within b t)

-- the words of a wide tree with few leaves are short
pub short_words : (n b : ℕ) (t : Tree ℕ) → n ≤ 65535 → IsShuffle n t → IsWide t → AreShort (words_below b t)
short_words n b t few h w =
    let count = count_of_shuffle n t h in
    let fewer = fewer_vertices t w in
    within_more (vertices t) 65535 (words_below b t) (omega (arith, few, count, fewer)) (below_within b t)

-- as many words as leaves
number_of_words : (n m : ℕ) (t : Tree ℕ) → IsShuffle n t → m ≤ n → length (words_below (suc m) t) ≡ m
number_of_words n zero t h le = length-words_at 0 t ∙ (let no : 0 < occurs 0 t → ⊥ = λ o. (let w = h.only 0 o in omega (arith, w.0)) in let z : occurs 0 t ≡ 0 = omega (arith, no) in z)
number_of_words n (suc m) t h le =
    let before = number_of_words n m t h (omega (arith, le)) in
    let one = h.each (suc m) (omega arith) le in
    let here = length-words_at (suc m) t in
    let both = length-append (words_below (suc m) t) (words_at (suc m) t) in
    omega (arith, before, one, here, both)

pub words_of_shuffle : (n : ℕ) (t : Tree ℕ) → IsShuffle n t → length (leaves t) ≡ n
words_of_shuffle n t h = length-leaves t ∙ count_of_shuffle n t h

number_of_key_words : (n : ℕ) (t : Tree ℕ) → IsShuffle n t → length (words_below (suc (length (leaves t))) t) ≡ n
number_of_key_words n t h = ap (λ m. length (words_below (suc m) t)) (words_of_shuffle n t h) ∙ number_of_words n n t h (omega arith)

pub keys_are_alike : KeysAreAlike
keys_are_alike weights n x y few hx hy wx wy = record {
  words = number_of_key_words n x hx ∙ sym (number_of_key_words n y hy);
  rows = words_of_shuffle n x hx ∙ sym (words_of_shuffle n y hy);
  short = short_words n (suc (length (leaves x))) x few hx wx;
  other_short = short_words n (suc (length (leaves y))) y few hy wy;
}
