-- Walks through the inputs of a vertex.
use Rattle.std.specs.Prelude.{List, [], ◌∷◌, ◌++◌, true, Option, Some, None, MatchOption}
use Rattle.std.proofs.Common.{◌≡◌, ℕ, zero, suc, ◌+◌, ◌-◌, ◌<◌, ◌≤◌, length, map, take, drop, get_or, ap, sym, ◌∙◌, subst, arith, drop-cons, length-drop, append_assoc, length-append}
use mathlib.Core.List.{append-nil}
use mathlib.Core.Path.{ap₂}
use Rattle.std.specs.List.{AllByRecursion}
use Rattle.std.proofs.lemmas.List.{nil_from_length}
use Rattle.labelled_trees.specs.Trees.{Tree, row, leaves, leaves_row}
use Rattle.labelled_trees.specs.Leaves.{AllLeaves, occurs}
use Rattle.labelled_trees.specs.Meaning.{tree_of}
use Rattle.labelled_trees.specs.declared.Tree as program
use Rattle.labelled_trees.specs.declared.Tree.TheVariants.{Node}
use Rattle.labelled_trees.proofs.ProgramTrees.{tree_of-node}
use Rattle.labelled_trees.proofs.Leaves.{AllLeaves-imp, at_leaf}
use Rattle.shuffle_insertions.specs.Keys.{words_at, words_at_row, words_below}
use Rattle.shuffle_insertions.proofs.Keys.{length-words_at, split_same}
use Rattle.shuffle_trees.specs.ValidTrees.{IsValid}
use Rattle.shuffle_trees.specs.Walks.{vertex_labels, vertex_labels_row, IsWalked, words}

-- ---- the inputs that are left

pub left_from : {X : Type 0} (ts : List X) (i : ℕ) (t : X) → i < length ts → t ≡ get_or ts i t → drop i ts ≡ t ∷ drop (i + 1) ts
left_from ts i t lt e = drop-cons ts i t lt ∙ ap (λ u. u ∷ drop (suc i) ts) (sym e) ∙ ap (λ n. t ∷ drop n ts) (let s : suc i ≡ i + 1 = omega arith in s)

pub none_left : {X : Type 0} (ts : List X) (i : ℕ) → length ts ≤ i → drop i ts ≡ []
none_left ts i le = nil_from_length (drop i ts) (let d = length-drop i ts in omega (arith, d, le))

-- what the inputs put behind the items, where each puts something there in turn
module _ {X Y : Type 0} (each : X → List Y) (all : List X → List Y) (first : (t : X) (ts : List X) → all (t ∷ ts) ≡ each t ++ all ts) (none : all [] ≡ []) where
  pub put_next : (ts : List X) (i : ℕ) (t : X) (items after whole : List Y) → i < length ts → t ≡ get_or ts i t → items ++ all (drop i ts) ≡ whole → after ≡ items ++ each t → after ++ all (drop (i + 1) ts) ≡ whole
  put_next ts i t items after whole lt e before is =
      ap (λ l. l ++ all (drop (i + 1) ts)) is ∙ append_assoc items (each t) (all (drop (i + 1) ts)) ∙ ap (λ l. items ++ l) (sym (first t (drop (i + 1) ts)) ∙ ap all (sym (left_from ts i t lt e))) ∙ before

  pub put_all : (ts : List X) (i : ℕ) (items whole : List Y) → length ts ≤ i → items ++ all (drop i ts) ≡ whole → items ≡ whole
  put_all ts i items whole le h = sym (append-nil items) ∙ ap (λ l. items ++ l) (sym (ap all (none_left ts i le) ∙ none)) ∙ h

-- ---- leaf rows and labels

abbrev pub leaves_of : List program.Tree → List ℕ
leaves_of ts = leaves_row (row (map tree_of ts))

abbrev pub labels_of : List program.Tree → List ℕ
labels_of ts = vertex_labels_row (row (map tree_of ts))

pub leaves-node : (g : ℕ) (ts : List program.Tree) → leaves (tree_of (Node g ts)) ≡ leaves_of ts
leaves-node g ts = ap leaves (tree_of-node g ts)

pub labels-node : (g : ℕ) (ts : List program.Tree) → vertex_labels (tree_of (Node g ts)) ≡ g ∷ labels_of ts
labels-node g ts = ap vertex_labels (tree_of-node g ts)

-- ---- bounds of leaf numbers

abbrev pub AreWithin : ℕ → List program.Tree → Type 0
AreWithin b ts = AllByRecursion (λ t. AllLeaves (tree_of t) (λ i. i ≤ b)) ts

pub within_more : (a b : ℕ) (ts : List program.Tree) → a ≤ b → AreWithin a ts → AreWithin b ts
within_more a b [] le h = tt
within_more a b (t ∷ ts) le h = (AllLeaves-imp (tree_of t) (λ i. i ≤ a) (λ i. i ≤ b) (λ i k. omega arith) h.0, within_more a b ts le h.1)

within_suc : (b : ℕ) (ts : List program.Tree) (i : ℕ) (t : program.Tree) → i < length ts → t ≡ get_or ts i t → AreWithin b (take i ts) → AllLeaves (tree_of t) (λ i. i ≤ b) → AreWithin b (take (suc i) ts)
within_suc b [] i t lt e h w = absurd (omega arith)
within_suc b (u ∷ ts) zero t lt e h w = (subst (λ v. AllLeaves (tree_of v) (λ i. i ≤ b)) e w, tt)
within_suc b (u ∷ ts) (suc i) t lt e h w = (h.0, within_suc b ts i t (omega arith) e h.1 w)

pub within_next : (a b c : ℕ) (ts : List program.Tree) (i : ℕ) (t : program.Tree) → i < length ts → t ≡ get_or ts i t → AreWithin a (take i ts) → AllLeaves (tree_of t) (λ i. i ≤ b) → a ≤ c → b ≤ c → AreWithin c (take (i + 1) ts)
within_next a b c ts i t lt e h w p q =
    subst (λ n. AreWithin c (take n ts)) (let s : suc i ≡ i + 1 = omega arith in s)
    (within_suc c ts i t lt e (within_more a c (take i ts) p h) (AllLeaves-imp (tree_of t) (λ i. i ≤ b) (λ i. i ≤ c) (λ i k. omega arith) w))

-- ---- the word of a leaf

abbrev pub words_in : ℕ → List program.Tree → List (List ℕ)
words_in j ts = words_at_row j (row (map tree_of ts))

pub words-node : (j g : ℕ) (ts : List program.Tree) → words_at j (tree_of (Node g ts)) ≡ map (λ w. g ∷ w) (words_in j ts)
words-node j g ts = ap (words_at j) (tree_of-node g ts)

-- the first word of an input, where the inputs before it have none, is the first of the vertex
pub walked_down : (j g : ℕ) (ts : List program.Tree) (i : ℕ) (t : program.Tree) (before word after : List ℕ) → i < length ts → t ≡ get_or ts i t → words_in j (drop i ts) ≡ words_in j ts
    → word ≡ before ++ g ∷ [] → IsWalked true word after (words_at j (tree_of t)) → IsWalked true before after (words_at j (tree_of (Node g ts)))
walked_down j g ts i t before word after lt e same put w =
    let here : words_in j ts ≡ w.0 ∷ (w.1 ++ words_in j (drop (i + 1) ts)) = sym same ∙ ap (words_in j) (left_from ts i t lt e) ∙ ap (λ l. l ++ words_in j (drop (i + 1) ts)) w.2 in
    (g ∷ w.0, map (λ v. g ∷ v) (w.1 ++ words_in j (drop (i + 1) ts)), words-node j g ts ∙ ap (map (λ v. g ∷ v)) here, w.3 ∙ ap (λ l. l ++ w.0) put ∙ append_assoc before (g ∷ []) w.0)

pub walked_past : (j : ℕ) (ts : List program.Tree) (i : ℕ) (t : program.Tree) → i < length ts → t ≡ get_or ts i t → words_in j (drop i ts) ≡ words_in j ts → words_at j (tree_of t) ≡ [] → words_in j (drop (i + 1) ts) ≡ words_in j ts
walked_past j ts i t lt e same z = sym (ap (λ l. l ++ words_in j (drop (i + 1) ts)) z) ∙ ap (words_in j) (sym (left_from ts i t lt e)) ∙ same

pub walked_through : (j g : ℕ) (ts : List program.Tree) (i : ℕ) → length ts ≤ i → words_in j (drop i ts) ≡ words_in j ts → words_at j (tree_of (Node g ts)) ≡ []
walked_through j g ts i le same = words-node j g ts ∙ ap (map (λ v. g ∷ v)) (sym same ∙ ap (words_in j) (none_left ts i le))

-- ---- the words of all leaves

no_word : (j : ℕ) (t : Tree ℕ) → occurs j t ≡ 0 → words_at j t ≡ []
no_word j t z = nil_from_length (words_at j t) (length-words_at j t ∙ z)

-- no words from 1 on yet
pub words_start : (t : Tree ℕ) → IsValid t → [] ≡ words_below 1 t
words_start t v = sym (no_word 0 t (let none : 0 < occurs 0 t → ⊥ = λ o. (let w = v.only 0 o in omega (arith, w.0)) in omega (arith, none)))

-- the word of a leaf that stands at most once
pub word_alone : (j : ℕ) (t : Tree ℕ) (word : List ℕ) → occurs j t ≤ 1 → IsWalked true [] word (words_at j t) → words_at j t ≡ word ∷ []
word_alone j t word one w =
    let n : suc (length w.1) ≡ occurs j t = sym (ap length w.2) ∙ length-words_at j t in
    let alone : w.1 ≡ [] = nil_from_length w.1 (omega (arith, n, one)) in
    w.2 ∙ ap₂ (λ a b. a ∷ b) (sym w.3) alone

pub word_put : (j : ℕ) (t : Tree ℕ) (words after : List (List ℕ)) (word : List ℕ) → occurs j t ≤ 1 → IsWalked true [] word (words_at j t) → after ≡ words ++ word ∷ [] → after ≡ words ++ words_at j t
word_put j t words after word one w is = is ∙ ap (λ l. words ++ l) (sym (word_alone j t word one w))

pub no_word_put : (words ws : List (List ℕ)) → ws ≡ [] → words ≡ words ++ ws
no_word_put words ws z = sym (append-nil words) ∙ ap (λ l. words ++ l) (sym z)

pub words_next : (j : ℕ) (t : Tree ℕ) (words after : List (List ℕ)) → words ≡ words_below j t → after ≡ words ++ words_at j t → after ≡ words_below (j + 1) t
words_next j t words after e is = is ∙ ap (λ l. l ++ words_at j t) e ∙ ap (λ m. words_below m t) (let s : suc j ≡ j + 1 = omega arith in s)

past_greatest : (b k : ℕ) (t : Tree ℕ) → AllLeaves t (λ i. i ≤ b) → words_below (suc b) t ≡ words_below (suc b + k) t
past_greatest b zero t h = ap (λ m. words_below m t) (let s : suc b ≡ suc b + 0 = omega arith in s)
past_greatest b (suc k) t h =
    let none : occurs (suc b + k) t ≡ 0 = (let no : 0 < occurs (suc b + k) t → ⊥ = λ o. (let le = at_leaf t (λ i. i ≤ b) (suc b + k) h o in omega (arith, le)) in omega (arith, no)) in
    past_greatest b k t h ∙ sym (append-nil (words_below (suc b + k) t)) ∙ ap (λ l. words_below (suc b + k) t ++ l) (sym (no_word (suc b + k) t none))
    ∙ ap (λ m. words_below m t) (let s : suc (suc b + k) ≡ suc b + suc k = omega arith in s)

-- no words above the greatest leaf
pub words_end : (b : ℕ) (t : Tree ℕ) → AllLeaves t (λ i. i ≤ b) → b < 256 → words_below (suc b) t ≡ words t
unfolding words
words_end b t h lt = past_greatest b (256 - suc b) t h ∙ ap (λ m. words_below m t) (let s : suc b + (256 - suc b) ≡ 256 = omega arith in s)

pub once_each : (t : Tree ℕ) → IsValid t → (j : ℕ) → occurs j t ≤ 1
once_each t v j = v.once j

snoc_front : (a b : List ℕ) (x y : ℕ) → a ++ x ∷ [] ≡ b ++ y ∷ [] → a ≡ b
snoc_front a b x y e =
    let n : length a ≡ length b = (let l = ap length e in omega (arith, l, length-append a (x ∷ []), length-append b (y ∷ []))) in
    (split_same a b (x ∷ []) (y ∷ []) n e).0

-- the last letter is taken off again
pub word_back : (before word after : List ℕ) (g : ℕ) (last : Option ℕ) → word ≡ before ++ g ∷ [] → MatchOption last ((word ≡ []) × (after ≡ [])) (λ l. word ≡ after ++ l ∷ []) → after ≡ before
word_back before word after g None e h = absurd (let n = ap length e in let m = ap length h.0 in omega (arith, n, m, length-append before (g ∷ [])))
word_back before word after g (Some l) e h = snoc_front after before l g (sym h ∙ e)
