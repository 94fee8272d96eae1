-- Words that rise within the parts of a generator.
use Rattle.std.proofs.Common.{◌≡◌, inl, inr, ⊎_elim, ℕ, ◌<◌, ◌≤◌, Bool, true, false, cond, List, [], ◌∷◌, ◌++◌, length, take, drop, refl, sym, ap, ap₂, ◌∙◌, subst, arith, lt-ltb, le-ltb, length-take, length-drop, take-append-drop}
use Rattle.std.proofs.Math.Seq.{take-append_seam, drop-append_seam}
use Rattle.modular_sums.specs.Lists.{Mem, Distinct}
use Rattle.modular_sums.proofs.Lists.{both_true, true_both, mem_left, mem_right, Distinct-append}
use Rattle.operad_ideals.specs.Parts.{Kind, symmetric, skew, free, Part, plus, times, total}
use Rattle.operad_ideals.specs.Sorting.{sort_by, sort_part, part_sign, sort_parts, parts_sign}
use Rattle.operad_ideals.proofs.SortedLists.{Apart, Ascends, every_weaker, tested, every_in, in_itself, sort_by-ascends, sort_by-same, order_sign-ascending, apart-take, apart-drop}
use Rattle.operad_ideals.proofs.SortedParts.{every_sort_parts, length-sort_part, length-sort_parts}
use Rattle.shuffle_places.specs.PlaceOrder.{AreRising}
use Rattle.shuffle_transfer.specs.Orderings.{IsOrdering, orderings}
use Rattle.shuffle_transfer.specs.Labels.{rises, part_rises, parts_rise, rising_words, words_of}
use Rattle.shuffle_transfer.proofs.Orderings.{all_orderings}
use Rattle.shuffle_transfer.proofs.Ranks.{sort_mem, ordering_apart}

-- ---- rising lists

rises_next : (x y : ℕ) (w : List ℕ) → rises (x ∷ (y ∷ w)) ≡ true → (x < y) × (rises (y ∷ w) ≡ true)
rises_next x y w h = ⊎_elim
    (λ l. (l, sym (ap (λ t. cond t (rises (y ∷ w)) false) (lt-ltb x y l)) ∙ h))
    (λ l. absurd (let e : false ≡ true = sym (ap (λ t. cond t (rises (y ∷ w)) false) (le-ltb x y l)) ∙ h in cc))
    (tested x y)

pub rises_ascends : (w : List ℕ) → rises w ≡ true → Ascends (λ n. n) w
rises_ascends [] h = tt
rises_ascends (x ∷ []) h = (tt, tt)
rises_ascends (x ∷ (y ∷ w)) h =
    let k = rises_next x y w h in
    let a : Ascends (λ n. n) (y ∷ w) = rises_ascends (y ∷ w) k.1 in
    ((k.0, every_weaker (λ z. y < z) (λ z. x < z) w (λ z l. omega (arith, k.0, l)) a.0), a)

pub ascends_rises : (w : List ℕ) → Ascends (λ n. n) w → rises w ≡ true
ascends_rises [] h = refl
ascends_rises (x ∷ []) h = refl
ascends_rises (x ∷ (y ∷ w)) h = ap (λ t. cond t (rises (y ∷ w)) false) (lt-ltb x y h.0.0) ∙ ascends_rises (y ∷ w) h.1

-- ---- part by part

part_same : (kind : Kind) (w : List ℕ) → part_rises kind w ≡ true → sort_part (λ n. n) kind w ≡ w
part_same symmetric w h = sort_by-same (λ n. n) w (rises_ascends w h)
part_same skew w h = sort_by-same (λ n. n) w (rises_ascends w h)
part_same free w h = refl

-- a word that rises within its parts stays where it is sorted
pub parts_same : (ps : List Part) (w : List ℕ) → parts_rise ps w ≡ true → sort_parts (λ n. n) ps w ≡ w
parts_same [] w h = refl
parts_same (p ∷ ps) w h =
    let k = both_true (part_rises p.kind (take p.size w)) (parts_rise ps (drop p.size w)) h in
    ap₂ (λ u v. u ++ v) (part_same p.kind (take p.size w) k.0) (parts_same ps (drop p.size w) k.1) ∙ take-append-drop p.size w

part_plus : (kind : Kind) (w : List ℕ) → part_rises kind w ≡ true → part_sign kind w ≡ plus
part_plus symmetric w h = refl
part_plus skew w h = order_sign-ascending w (rises_ascends w h)
part_plus free w h = refl

-- and its sign is plus
pub parts_plus : (ps : List Part) (w : List ℕ) → parts_rise ps w ≡ true → parts_sign ps w ≡ plus
parts_plus [] w h = refl
parts_plus (p ∷ ps) w h =
    let k = both_true (part_rises p.kind (take p.size w)) (parts_rise ps (drop p.size w)) h in
    ap₂ times (part_plus p.kind (take p.size w) k.0) (parts_plus ps (drop p.size w) k.1)

-- the first as many, and the others
take_whole : (z : ℕ) (l u : List ℕ) → length l ≡ z → take z (l ++ u) ≡ l
take_whole z l u h = subst (λ k. take k (l ++ u) ≡ l) h (take-append_seam l u)

drop_whole : (z : ℕ) (l u : List ℕ) → length l ≡ z → drop z (l ++ u) ≡ u
drop_whole z l u h = subst (λ k. drop k (l ++ u) ≡ u) h (drop-append_seam l u)

part_rises_sorted : (kind : Kind) (w : List ℕ) → Apart (λ n. n) w → part_rises kind (sort_part (λ n. n) kind w) ≡ true
part_rises_sorted symmetric w h = ascends_rises (sort_by (λ n. n) w) (sort_by-ascends (λ n. n) w h)
part_rises_sorted skew w h = ascends_rises (sort_by (λ n. n) w) (sort_by-ascends (λ n. n) w h)
part_rises_sorted free w h = refl

-- a sorted word rises within its parts
pub sorted_rises : (ps : List Part) (w : List ℕ) → total ps ≤ length w → Apart (λ n. n) w → parts_rise ps (sort_parts (λ n. n) ps w) ≡ true
sorted_rises [] w l h = refl
sorted_rises (p ∷ ps) w l h =
    let first : List ℕ = sort_part (λ n. n) p.kind (take p.size w) in
    let others : List ℕ = sort_parts (λ n. n) ps (drop p.size w) in
    let size : length first ≡ p.size = length-sort_part (λ n. n) p.kind (take p.size w) ∙ length-take p.size w ∙ omega (arith, l) in
    let enough : total ps ≤ length (drop p.size w) = rw (length-drop p.size w) (omega (arith, l)) in
    true_both (part_rises p.kind (take p.size (first ++ others))) (parts_rise ps (drop p.size (first ++ others)))
    (ap (part_rises p.kind) (take_whole p.size first others size) ∙ part_rises_sorted p.kind (take p.size w) (apart-take (λ n. n) p.size w h))
    (ap (parts_rise ps) (drop_whole p.size first others size) ∙ sorted_rises ps (drop p.size w) enough (apart-drop (λ n. n) p.size w h))

-- ---- a sorted word is a permutation of 1 to its length

distinct_first : {X : Type 0} (k l : List X) → Distinct (k ++ l) → Distinct k
distinct_first [] l h = tt
distinct_first (x ∷ k) l h = (λ m. h.0 (mem_left x k l m), distinct_first k l h.1)

distinct_second : {X : Type 0} (k l : List X) → Distinct (k ++ l) → Distinct l
distinct_second [] l h = h
distinct_second (x ∷ k) l h = distinct_second k l h.1

distinct_apart : {X : Type 0} (k l : List X) → Distinct (k ++ l) → (x : X) → Mem x k → Mem x l → ⊥
distinct_apart [] l h x i j = i
distinct_apart (y ∷ k) l h x (inl e) j = h.0 (mem_right y k l (subst (λ z. Mem z l) e j))
distinct_apart (y ∷ k) l h x (inr i) j = distinct_apart k l h.1 x i j

ascends_distinct : (w : List ℕ) → Ascends (λ n. n) w → Distinct w
ascends_distinct [] h = tt
ascends_distinct (x ∷ w) h = (λ m. let l : x < x = every_in (λ y. x < y) w x h.0 m in absurd (omega (arith, l)), ascends_distinct w h.1)

distinct_part : (kind : Kind) (w : List ℕ) → Distinct w → Distinct (sort_part (λ n. n) kind w)
distinct_part symmetric w h = ascends_distinct (sort_by (λ n. n) w) (sort_by-ascends (λ n. n) w (ordering_apart w h))
distinct_part skew w h = ascends_distinct (sort_by (λ n. n) w) (sort_by-ascends (λ n. n) w (ordering_apart w h))
distinct_part free w h = h

part_mem : (kind : Kind) (w : List ℕ) (x : ℕ) → Mem x (sort_part (λ n. n) kind w) → Mem x w
part_mem symmetric w x m = sort_mem (λ n. n) w x m
part_mem skew w x m = sort_mem (λ n. n) w x m
part_mem free w x m = m

parts_mem : (ps : List Part) (w : List ℕ) (x : ℕ) → Mem x (sort_parts (λ n. n) ps w) → Mem x w
parts_mem ps w x m = every_in (λ y. Mem y w) (sort_parts (λ n. n) ps w) x (every_sort_parts (λ n. n) (λ y. Mem y w) ps w (in_itself w)) m

distinct_parts : (ps : List Part) (w : List ℕ) → Distinct w → Distinct (sort_parts (λ n. n) ps w)
distinct_parts [] w h = h
distinct_parts (p ∷ ps) w h =
    let k : Distinct (take p.size w ++ drop p.size w) = subst Distinct (sym (take-append-drop p.size w)) h in
    Distinct-append (sort_part (λ n. n) p.kind (take p.size w)) (sort_parts (λ n. n) ps (drop p.size w))
    (distinct_part p.kind (take p.size w) (distinct_first (take p.size w) (drop p.size w) k))
    (distinct_parts ps (drop p.size w) (distinct_second (take p.size w) (drop p.size w) k))
    (λ x i j. distinct_apart (take p.size w) (drop p.size w) k x (part_mem p.kind (take p.size w) x i) (parts_mem ps (drop p.size w) x j))

pub sorted_ordering : (m : ℕ) (ps : List Part) (w : List ℕ) → IsOrdering m w → IsOrdering m (sort_parts (λ n. n) ps w)
sorted_ordering m ps w h = record {
  length_is = length-sort_parts (λ n. n) ps w ∙ h.length_is;
  within = λ u i. h.within u (parts_mem ps w u i);
  distinct = distinct_parts ps w h.distinct;
}

-- ---- the words of a generator

rising_mem : (ps : List Part) (ws : List (List ℕ)) (w : List ℕ) → Mem w (rising_words ps ws) → Mem w ws × (parts_rise ps w ≡ true)
rising_mem ps [] w m = absurd m
rising_mem ps (v ∷ ws) w m = go (parts_rise ps v) refl m (λ i. rising_mem ps ws w i)
  where
    go : (b : Bool) → parts_rise ps v ≡ b → Mem w (cond b (v ∷ rising_words ps ws) (rising_words ps ws)) → (Mem w (rising_words ps ws) → Mem w ws × (parts_rise ps w ≡ true))
        → Mem w (v ∷ ws) × (parts_rise ps w ≡ true)
    go true e (inl f) ih = (inl f, ap (parts_rise ps) f ∙ e)
    go true e (inr i) ih = let k = ih i in (inr k.0, k.1)
    go false e i ih = let k = ih i in (inr k.0, k.1)

mem_rising : (ps : List Part) (ws : List (List ℕ)) (w : List ℕ) → Mem w ws → parts_rise ps w ≡ true → Mem w (rising_words ps ws)
mem_rising ps [] w m h = absurd m
mem_rising ps (v ∷ ws) w m h = go (parts_rise ps v) refl m (λ i. mem_rising ps ws w i h)
  where
    go : (b : Bool) → parts_rise ps v ≡ b → Mem w (v ∷ ws) → (Mem w ws → Mem w (rising_words ps ws)) → Mem w (cond b (v ∷ rising_words ps ws) (rising_words ps ws))
    go true e (inl f) ih = inl f
    go true e (inr i) ih = inr (ih i)
    go false e (inl f) ih = absurd (let k : true ≡ false = sym h ∙ ap (parts_rise ps) f ∙ e in cc)
    go false e (inr i) ih = ih i

rising_ascending : (ps : List Part) (ws : List (List ℕ)) → AreRising ws → AreRising (rising_words ps ws)
rising_ascending ps [] h = tt
rising_ascending ps (v ∷ ws) h = go (parts_rise ps v) (rising_ascending ps ws h.1)
  where
    go : (b : Bool) → AreRising (rising_words ps ws) → AreRising (cond b (v ∷ rising_words ps ws) (rising_words ps ws))
    go true k = (λ w m. h.0 w (rising_mem ps ws w m).0, k)
    go false k = k

pub words_ascend : (ps : List Part) → AreRising (words_of ps)
words_ascend ps = rising_ascending ps (orderings (total ps)) (all_orderings (total ps)).0

pub mem_words : (ps : List Part) (w : List ℕ) → IsOrdering (total ps) w → parts_rise ps w ≡ true → Mem w (words_of ps)
mem_words ps w o h = mem_rising ps (orderings (total ps)) w (((all_orderings (total ps)).2 w).1 o) h

pub words_mem : (ps : List Part) (w : List ℕ) → Mem w (words_of ps) → IsOrdering (total ps) w × (parts_rise ps w ≡ true)
words_mem ps w m = let k = rising_mem ps (orderings (total ps)) w m in (((all_orderings (total ps)).2 w).0 k.0, k.1)
