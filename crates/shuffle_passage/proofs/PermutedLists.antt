-- The permutations that `itertools` walks through are the orderings, in their order.
use Rattle.std.proofs.Common.{◌≡◌, ℕ, zero, suc, ◌+◌, ◌-◌, ◌<◌, List, [], ◌∷◌, ◌++◌, length, map, get_or, refl, sym, ap, ap₂, ◌∙◌, subst, arith, length-append, append_assoc, inl}
use mathlib.Core.List.{append-nil}
use Rattle.modular_sums.specs.Lists.{Mem}
use Rattle.modular_sums.proofs.Lists.{mem_right}
use Rattle.std.specs.Prelude.{flat_map}
use Rattle.std.specs.List.{AllByRecursion}
use Rattle.std.proofs.lemmas.List.{map-append, get_or_default}
use Rattle.std.proofs.lemmas.List.Elements.{All-append, All-from_recursion, recursion_from_All}
use Rattle.std.proofs.lemmas.List.Folds.{flat_map-map}
use Rattle.std.proofs.lemmas.Simd.{map-map}
use Rattle.itertools.specs.Odometer.{numbers, ways}
use Rattle.itertools.specs.Pool.{ClonesAt, unranked}
use Rattle.itertools.proofs.PoolLemmas.{length-numbers, numbers-below}
use Rattle.operad_ideals.proofs.SortedLists.{every_map, every_weaker}
use Rattle.shuffle_insertions.specs.Listing.{upto}
use Rattle.shuffle_insertions.proofs.Counting.{length-upto}
use Rattle.shuffle_transfer.specs.Orderings.{IsOrdering, Pick, behind, picks, permutations, orderings}
use Rattle.shuffle_transfer.proofs.Orderings.{all_orderings}
use Rattle.shuffle_passage.specs.Words.{without, chosen}
use Rattle.shuffle_passage.proofs.LabelNumbers.{map-chosen}
use Rattle.shuffle_passage.proofs.WordLists.{length-without}
use Rattle.shuffle_passage.proofs.WordTables.{removed}

-- ---- picks by their places

abbrev pick_at : List ℕ → ℕ → Pick
pick_at l d = record { first = get_or l d 0; others = without l d }

numbers-next : (a n : ℕ) → numbers (a + 1) n ≡ map suc (numbers a n)
numbers-next a zero = refl
numbers-next a (suc n) = ap₂ (λ x xs. x ∷ xs) (let e : a + 1 ≡ suc a = omega arith in e) (numbers-next (a + 1) n)

behind-map : (x : ℕ) (l ds : List ℕ) → behind x (map (pick_at l) ds) ≡ map (pick_at (x ∷ l)) (map suc ds)
behind-map x l [] = refl
behind-map x l (d ∷ ds) = ap (λ ps. pick_at (x ∷ l) (suc d) ∷ ps) (behind-map x l ds)

picks-numbers : (l : List ℕ) → picks l ≡ map (pick_at l) (numbers 0 (length l))
picks-numbers [] = refl
picks-numbers (x ∷ l) = ap (λ ps. record { first = x; others = l } ∷ ps) (ap (behind x) (picks-numbers l) ∙ behind-map x l (numbers 0 (length l)) ∙ ap (map (pick_at (x ∷ l))) (sym (numbers-next 0 (length l))))

-- ---- the ways to choose

abbrev pub choices : ℕ → ℕ → List ℕ → List (List ℕ)
choices n = ways (λ _. 0) (λ q. n - length q)

map-of_flat : {X A B : Type 0} (g : A → B) (f : X → List A) (xs : List X) → map g (flat_map f xs) ≡ flat_map (λ x. map g (f x)) xs
map-of_flat g f [] = refl
map-of_flat g f (x ∷ xs) = map-append g (f x) (flat_map f xs) ∙ ap (λ ys. map g (f x) ++ ys) (map-of_flat g f xs)

flat-same : {X A : Type 0} (f g : X → List A) (P : X → Type 0) (xs : List X) → AllByRecursion P xs → ((x : X) → P x → f x ≡ g x) → flat_map f xs ≡ flat_map g xs
flat-same f g P [] h e = refl
flat-same f g P (x ∷ xs) h e = ap₂ (λ us vs. us ++ vs) (e x h.0) (flat-same f g P xs h.1 e)

one_choice : (n k : ℕ) (l p : List ℕ) → length l ≡ suc k → n - length p ≡ suc k
    → ((m q : List ℕ) → length m ≡ k → n - length q ≡ k → permutations k m ≡ map (chosen 0 m) (choices n k q))
    → (d : ℕ) → d < length l → map (λ w. get_or l d 0 ∷ w) (permutations k (without l d)) ≡ map (chosen 0 l) (map (λ ds. d ∷ ds) (choices n k (p ++ d ∷ [])))
one_choice n k l p e r ih d h =
    ap (map (λ w. get_or l d 0 ∷ w)) (ih (without l d) (p ++ d ∷ []) (let s = length-without l d h in omega (arith, s, e)) (let s = length-append p (d ∷ []) in omega (arith, s, r)))
    ∙ map-map (λ w. get_or l d 0 ∷ w) (chosen 0 (without l d)) (choices n k (p ++ d ∷ []))
    ∙ sym (map-map (chosen 0 l) (λ ds. d ∷ ds) (choices n k (p ++ d ∷ [])))

permutations-chosen : (n k : ℕ) (l p : List ℕ) → length l ≡ k → n - length p ≡ k → permutations k l ≡ map (chosen 0 l) (choices n k p)
permutations-chosen n zero l p e r = refl
permutations-chosen n (suc k) l p e r =
    let range : n - length p - 0 ≡ length l = omega (arith, e, r) in
    ap (flat_map (λ q. map (λ w. q.first ∷ w) (permutations k q.others))) (picks-numbers l)
    ∙ flat_map-map (λ q. map (λ w. q.first ∷ w) (permutations k q.others)) (pick_at l) (numbers 0 (length l))
    ∙ flat-same (λ d. map (λ w. get_or l d 0 ∷ w) (permutations k (without l d))) (λ d. map (chosen 0 l) (map (λ ds. d ∷ ds) (choices n k (p ++ d ∷ [])))) (λ d. d < length l) (numbers 0 (length l))
    (recursion_from_All (λ d. d < length l) (numbers 0 (length l)) (numbers-below 0 (length l) (length l) (omega arith))) (one_choice n k l p e r (λ m q a b. permutations-chosen n k m q a b))
    ∙ sym (map-of_flat (chosen 0 l) (λ d. map (λ ds. d ∷ ds) (choices n k (p ++ d ∷ []))) (numbers 0 (length l)))
    ∙ ap (λ m. map (chosen 0 l) (flat_map (λ d. map (λ ds. d ∷ ds) (choices n k (p ++ d ∷ []))) (numbers 0 m))) (sym range)

-- The orderings are what the ways to choose choose.
pub orderings_chosen : (n : ℕ) → orderings n ≡ map (chosen 0 (upto n)) (choices n n [])
orderings_chosen n = permutations-chosen n n (upto n) [] (length-upto n) (omega arith)

-- ---- each way chooses among what is left

abbrev pub AreChoices : ℕ → List ℕ → Type 0
AreChoices n [] = Unit {0}
AreChoices zero (d ∷ ds) = ⊥
AreChoices (suc n) (d ∷ ds) = (d < suc n) × AreChoices n ds

all_flat : {X A : Type 0} (f : X → List A) (P : A → Type 0) (Q : X → Type 0) (xs : List X) → AllByRecursion Q xs → ((x : X) → Q x → AllByRecursion P (f x)) → AllByRecursion P (flat_map f xs)
all_flat f P Q [] h k = tt
all_flat f P Q (x ∷ xs) h k =
    recursion_from_All P (f x ++ flat_map f xs)
    (All-append P (f x) (flat_map f xs) (All-from_recursion P (f x) (k x h.0)) (All-from_recursion P (flat_map f xs) (all_flat f P Q xs h.1 k)))

choices_fit : (n k : ℕ) (p : List ℕ) → n - length p ≡ k → AllByRecursion (AreChoices k) (choices n k p)
choices_fit n zero p r = (tt, tt)
choices_fit n (suc k) p r =
    all_flat (λ d. map (λ ds. d ∷ ds) (choices n k (p ++ d ∷ []))) (AreChoices (suc k)) (λ d. d < suc k) (numbers 0 (n - length p - 0))
    (recursion_from_All (λ d. d < suc k) (numbers 0 (n - length p - 0)) (numbers-below 0 (n - length p - 0) (suc k) (omega (arith, r))))
    (λ d h. every_map (λ ds. d ∷ ds) (AreChoices (suc k)) (choices n k (p ++ d ∷ []))
    (every_weaker (AreChoices k) (λ ds. AreChoices (suc k) (d ∷ ds)) (choices n k (p ++ d ∷ [])) (λ ds a. (h, a)) (choices_fit n k (p ++ d ∷ []) (let s = length-append p (d ∷ []) in omega (arith, s, r)))))

pub all_choices : (n : ℕ) → AllByRecursion (AreChoices n) (choices n n [])
all_choices n = choices_fit n n [] (omega arith)

-- ---- what is read

-- the entries of a list at places that are within it
read_places : (pool places v : List ℕ) → AllByRecursion (λ d. d < length pool) places → ClonesAt (λ a b. b ≡ a) pool places v → v ≡ map (λ d. get_or pool d 0) places
read_places pool [] [] h c = refl
read_places pool [] (x ∷ v) h c = absurd c
read_places pool (d ∷ ds) [] h c = absurd c
read_places pool (d ∷ ds) (x ∷ v) h c = ap₂ (λ y ys. y ∷ ys) (c.0 ∙ get_or_default pool d x 0 h.0) (read_places pool ds v h.1 c.1)

unranked-chosen : (free ds : List ℕ) → unranked free ds ≡ chosen 0 free ds
unranked-chosen free [] = refl
unranked-chosen free (d ∷ ds) = ap (λ l. get_or free d 0 ∷ l) (ap (λ l. unranked l ds) (removed free d) ∙ unranked-chosen (without free d) ds)

chosen_all : (P : ℕ → Type 0) (n : ℕ) (l ds : List ℕ) → length l ≡ n → AreChoices n ds → AllByRecursion P l → AllByRecursion P (chosen 0 l ds)
chosen_all P n l [] e h a = tt
chosen_all P zero l (d ∷ ds) e h a = absurd h
chosen_all P (suc n) l (d ∷ ds) e h a = (All-from_recursion P l a d 0 (omega (arith, e, h.0)), chosen_all P n (without l d) ds (let s = length-without l d (omega (arith, e, h.0)) in omega (arith, s, e)) h.1 (others l d a))
  where
    others : (l : List ℕ) (d : ℕ) → AllByRecursion P l → AllByRecursion P (without l d)
    others [] d a = tt
    others (x ∷ l) zero a = a.1
    others (x ∷ l) (suc d) a = (a.0, others l d a.1)

read_all : (pool : List ℕ) → map (λ d. get_or pool d 0) (numbers 0 (length pool)) ≡ pool
read_all [] = refl
read_all (x ∷ l) = ap (λ ys. x ∷ ys) (ap (map (λ d. get_or (x ∷ l) d 0)) (numbers-next 0 (length l)) ∙ map-map (λ d. get_or (x ∷ l) d 0) suc (numbers 0 (length l)) ∙ read_all l)

-- where the digits are within what is left, the entry that stands for a missing one doesn't matter
chosen_default : (e : ℕ) (n : ℕ) (l ds : List ℕ) → length l ≡ n → AreChoices n ds → chosen e l ds ≡ chosen 0 l ds
chosen_default e n l [] s h = refl
chosen_default e zero l (d ∷ ds) s h = absurd h
chosen_default e (suc n) l (d ∷ ds) s h = ap₂ (λ x xs. x ∷ xs) (get_or_default l d e 0 (omega (arith, s, h.0))) (chosen_default e n (without l d) ds (let k = length-without l d (omega (arith, s, h.0)) in omega (arith, k, s)) h.1)

-- The permutation that a list of choices reads.
pub read_choices : (pool ds v : List ℕ) → AreChoices (length pool) ds → ClonesAt (λ a b. b ≡ a) pool (unranked (numbers 0 (length pool)) ds) v → v ≡ chosen 0 pool ds
read_choices pool ds v h c =
    let n = length pool in
    let places : AllByRecursion (λ d. d < n) (unranked (numbers 0 n) ds) = subst (AllByRecursion (λ d. d < n)) (sym (unranked-chosen (numbers 0 n) ds)) (chosen_all (λ d. d < n) n (numbers 0 n) ds (length-numbers 0 n) h (recursion_from_All (λ d. d < n) (numbers 0 n) (numbers-below 0 n n (omega arith)))) in
    read_places pool (unranked (numbers 0 n) ds) v places c
    ∙ ap (map (λ d. get_or pool d 0)) (unranked-chosen (numbers 0 n) ds)
    ∙ map-chosen (λ d. get_or pool d 0) 0 (numbers 0 n) ds
    ∙ ap (λ l. chosen (get_or pool 0 0) l ds) (read_all pool)
    ∙ chosen_default (get_or pool 0 0) n pool ds refl h

pub read_upto : (n : ℕ) (pool ds v : List ℕ) → pool ≡ upto n → AreChoices n ds → ClonesAt (λ a b. b ≡ a) pool (unranked (numbers 0 (length pool)) ds) v → v ≡ chosen 0 (upto n) ds
read_upto n pool ds v e h c =
    let size : length pool ≡ n = ap length e ∙ length-upto n in
    read_choices pool ds v (subst (λ m. AreChoices m ds) (sym size) h) c ∙ ap (λ l. chosen 0 l ds) e

-- the permutations so far, with one more, and those that are left
pub order-more : {X : Type 0} (n : ℕ) (get : X → List ℕ) (found new : List X) (x : X) (ds : List ℕ) (left later : List (List ℕ)) (whole : List (List ℕ)) → new ≡ found ++ x ∷ [] → left ≡ ds ∷ later → get x ≡ chosen 0 (upto n) ds
    → map get found ++ map (chosen 0 (upto n)) left ≡ whole → map get new ++ map (chosen 0 (upto n)) later ≡ whole
order-more n get found new x ds left later whole is split read before =
    ap (λ xs. map get xs ++ map (chosen 0 (upto n)) later) is
    ∙ ap (λ ys. ys ++ map (chosen 0 (upto n)) later) (map-append get found (x ∷ []))
    ∙ append_assoc (map get found) (get x ∷ []) (map (chosen 0 (upto n)) later)
    ∙ ap (λ y. map get found ++ y ∷ map (chosen 0 (upto n)) later) read
    ∙ ap (λ l. map get found ++ map (chosen 0 (upto n)) l) (sym split) ∙ before

-- the next permutation is one of the orderings
pub next_ordering : (n : ℕ) (found left later : List (List ℕ)) (ds v : List ℕ) → left ≡ ds ∷ later → v ≡ chosen 0 (upto n) ds → found ++ map (chosen 0 (upto n)) left ≡ orderings n → IsOrdering n v
next_ordering n found left later ds v split read all =
    ((all_orderings n).2 v).0 (subst (Mem v) all (mem_right v found (map (chosen 0 (upto n)) left) (subst (λ l. Mem v (map (chosen 0 (upto n)) l)) (sym split) (inl read))))

-- where none is left, all orderings were found
pub no_more : (n : ℕ) (found left : List (List ℕ)) → left ≡ [] → found ++ map (chosen 0 (upto n)) left ≡ orderings n → found ≡ orderings n
no_more n found left e all = sym (append-nil found) ∙ ap (λ l. found ++ map (chosen 0 (upto n)) l) (sym e) ∙ all
