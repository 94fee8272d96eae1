-- Where a leaf's word is put.
use Rattle.std.specs.Prelude.{slice_range}
use Rattle.std.proofs.Common.{◌≡◌, ℕ, zero, suc, ◌+◌, ◌-◌, ◌<◌, ◌≤◌, List, [], ◌∷◌, length, map, take, drop, get_or, set, refl, ap, sym, ◌∙◌, subst, arith}
use mathlib.Core.List.{◌++◌, append-nil}
use mathlib.Core.Path.{ap₂}
use native.Mathlib.Decide.{ℕ_discrete}
use Rattle.shuffle_insertions.proofs.Keys.{length-words_at}
use Rattle.std.proofs.lemmas.List.{nil_from_length, get_or-set_same, get_or-set_other, length-set, take_more, get_or-drop}
use Rattle.std.proofs.Common.{append_assoc}
use Rattle.labelled_trees.specs.Trees.{Tree, Row, leaf, node, none, more, leaves}
use Rattle.labelled_trees.specs.Leaves.{occurs}
use Rattle.shuffle_insertions.specs.ShuffleTrees.{IsShuffle}
use Rattle.shuffle_insertions.specs.Keys.{words_at, words_at_row, words_below}
use Rattle.path_orders.proofs.WordLists.{word_alone}
use Rattle.path_orders.proofs.WordLists.{length-leaves}
use Rattle.shuffle_trees.proofs.Counts.{count_of_shuffle}
use Rattle.shuffle_insertions.specs.KeyBlocks.{IsSmall}
use Rattle.shuffle_sums.specs.Spread.{spread, spread_row}
use Rattle.modular_sums.specs.Lists.{choose}

mutual
  pub length-spread : (t : Tree ℕ) (w : List ℕ) (ws : List (List ℕ)) → length (spread t w ws) ≡ length ws
  length-spread (leaf n) w ws = length-set ws n w
  length-spread (node l r) w ws = length-spread_row r (w ++ (l ∷ [])) ws

  length-spread_row : (r : Row ℕ) (w : List ℕ) (ws : List (List ℕ)) → length (spread_row r w ws) ≡ length ws
  length-spread_row none w ws = refl
  length-spread_row (more t r) w ws = length-spread_row r w (spread t w ws) ∙ length-spread t w ws

-- the last of some words, behind another word; else what was there
abbrev last_of : List (List ℕ) → List ℕ → List ℕ → List ℕ
last_of [] w old = old
last_of (v ∷ vs) w old = last_of vs w (w ++ v)

last_of-append : (vs us : List (List ℕ)) (w old : List ℕ) → last_of (vs ++ us) w old ≡ last_of us w (last_of vs w old)
last_of-append [] us w old = refl
last_of-append (v ∷ vs) us w old = last_of-append vs us w (w ++ v)

last_of-under : (l : ℕ) (vs : List (List ℕ)) (w old : List ℕ) → last_of (map (λ v. l ∷ v) vs) w old ≡ last_of vs (w ++ (l ∷ [])) old
last_of-under l [] w old = refl
last_of-under l (v ∷ vs) w old = ap (last_of (map (λ v. l ∷ v) vs) w) (sym (append_assoc w (l ∷ []) v)) ∙ last_of-under l vs w ((w ++ (l ∷ [])) ++ v)

put_there : (n j : ℕ) (w : List ℕ) (ws : List (List ℕ)) (d : Dec (n ≡ j)) → j < length ws → get_or (set ws n w) j [] ≡ last_of (choose d ([] ∷ []) []) w (get_or ws j [])
put_there n j w ws (yes e) h = subst (λ m. get_or (set ws m w) j [] ≡ w) (sym e) (get_or-set_same ws j w [] h) ∙ sym (append-nil w)
put_there n j w ws (no f) h = get_or-set_other ws n j w [] (λ e. f (sym e))

mutual
  -- at each number stands the word of the last leaf that has it
  at_number : (j : ℕ) (t : Tree ℕ) (w : List ℕ) (ws : List (List ℕ)) → j < length ws → get_or (spread t w ws) j [] ≡ last_of (words_at j t) w (get_or ws j [])
  at_number j (leaf n) w ws h = put_there n j w ws (ℕ_discrete n j) h
  at_number j (node l r) w ws h = at_number_row j r (w ++ (l ∷ [])) ws h ∙ sym (last_of-under l (words_at_row j r) w (get_or ws j []))

  at_number_row : (j : ℕ) (r : Row ℕ) (w : List ℕ) (ws : List (List ℕ)) → j < length ws → get_or (spread_row r w ws) j [] ≡ last_of (words_at_row j r) w (get_or ws j [])
  at_number_row j none w ws h = refl
  at_number_row j (more t r) w ws h =
      let long : j < length (spread t w ws) = omega (arith, length-spread t w ws, h) in
      at_number_row j r w (spread t w ws) long ∙ ap (last_of (words_at_row j r) w) (at_number j t w ws h)
      ∙ sym (last_of-append (words_at j t) (words_at_row j r) w (get_or ws j []))

no_words : (n : ℕ) (t : Tree ℕ) → IsShuffle n t → words_below 1 t ≡ []
no_words n t h = nil_from_length (words_at 0 t) (length-words_at 0 t ∙ (let none : 0 < occurs 0 t → ⊥ = λ o. (let w = h.only 0 o in omega (arith, w.0)) in let z : occurs 0 t ≡ 0 = omega (arith, none) in z))

-- the words of the leaves 1 to m stand there
words_there : (n m : ℕ) (t : Tree ℕ) (ws : List (List ℕ)) → IsShuffle n t → m ≤ n → n < length ws → take m (drop 1 (spread t [] ws)) ≡ words_below (suc m) t
words_there n zero t ws h le long = sym (no_words n t h)
words_there n (suc m) t ws h le long =
    let all = spread t [] ws in
    let size = length-spread t [] ws in
    let alone = word_alone (suc m) t (h.each (suc m) (omega arith) le) in
    let here : get_or all (suc m) [] ≡ alone.0 = at_number (suc m) t [] ws (omega (arith, le, long)) ∙ ap (λ vs. last_of vs [] (get_or ws (suc m) [])) alone.1 in
    let before = words_there n m t ws h (omega (arith, le)) long in
    let rest : length (drop 1 all) ≡ length all - 1 = Rattle.std.proofs.Common.length-drop 1 all in
    let next : take (m + 1) (drop 1 all) ≡ take m (drop 1 all) ++ (get_or (drop 1 all) m [] ∷ []) = take_more (drop 1 all) m [] (omega (arith, rest, size, le, long)) in
    let place : get_or (drop 1 all) m [] ≡ get_or all (suc m) [] = get_or-drop 1 all m [] ∙ ap (λ k. get_or all k []) (let k : 1 + m ≡ suc m = omega arith in k) in
    ap (λ k. take k (drop 1 all)) (let k : suc m ≡ m + 1 = omega arith in k) ∙ next
    ∙ ap₂ (λ k v. k ++ (v ∷ [])) before (place ∙ here) ∙ ap (λ l. words_below (suc m) t ++ l) (sym alone.1)

-- the words of all leaves, in ascending order of their numbers
pub spread_words : (n : ℕ) (t : Tree ℕ) (ws : List (List ℕ)) → IsShuffle n t → n < length ws → take n (drop 1 (spread t [] ws)) ≡ words_below (suc n) t
spread_words n t ws h long = words_there n n t ws h (omega arith) long

-- as many words behind the first as there are leaves
pub read_words : (words : List (List ℕ)) (row : List ℕ) (t : Tree ℕ) (w : List ℕ) (ws : List (List ℕ)) → IsSmall t → w ≡ [] → length ws ≡ 17
    → words ≡ spread t w ws → row ≡ leaves t → slice_range words 1 (length row + 1) ≡ words_below (suc (length (leaves t))) t
read_words words row t w ws small root long e same =
    let n = small.leaves in
    let few = small.few in
    let number : length (leaves t) ≡ n = length-leaves t ∙ count_of_shuffle n t small.shuffle in
    let size = ap length same in
    let part : length row + 1 - 1 ≡ n = omega (arith, size, number) in
    ap (λ k. take k (drop 1 words)) part ∙ ap (λ l. take n (drop 1 l)) (e ∙ ap (λ v. spread t v ws) root)
    ∙ spread_words n t ws small.shuffle (omega (arith, few, long)) ∙ ap (λ k. words_below (suc k) t) (sym number)
