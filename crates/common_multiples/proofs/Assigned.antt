-- Tables with numbers at the leaves of a list, and lists that have all leaves.
use Rattle.std.proofs.Common.{◌≡◌, ℕ, suc, ◌+◌, ◌<◌, ◌≤◌, List, [], ◌∷◌, Bool, true, false, length, refl, sym, ◌∙◌, ap, arith, subst, inl, inr, ◌⊎◌}
use Rattle.std.specs.Prelude.{slice_index, slice_set}
use mathlib.Core.Path.{ap₂}
use native.Mathlib.Decide.{ℕ_discrete}
use Rattle.std.proofs.lemmas.List.{get_or-set_same, get_or-set_other, length-set}
use Rattle.modular_sums.specs.Lists.{Mem, Distinct, has}
use Rattle.modular_sums.proofs.Lists.{has_mem, mem_has}
use Rattle.shuffle_insertions.specs.Listing.{upto}
use Rattle.shuffle_insertions.proofs.Upto.{in_upto}
use Rattle.shuffle_insertions.proofs.Counting.{length-upto}
use Rattle.common_multiples.specs.Merging.{assigned}

-- A list of leaves from 1 to n, none twice.
pub record IsLeafList (n : ℕ) (s : List ℕ) : Type 0 where
  pub once : Distinct s
  pub inside : (z : ℕ) → Mem z s → (0 < z) × (z ≤ n)

pub rest_leaves : (n x : ℕ) (s : List ℕ) → IsLeafList n (x ∷ s) → IsLeafList n s
rest_leaves n x s h = record { once = h.once.1; inside = λ z m. h.inside z (inr m) }

-- ---- the numbers in the table

pub still_room : (n x a : ℕ) (t : List ℕ) → n < length t → n < length (slice_set t x a)
still_room n x a t lt = omega (arith, length-set t x a)

-- a leaf that isn't in the list keeps its entry
number_kept : (s : List ℕ) (a : ℕ) (t : List ℕ) (z : ℕ) → (Mem z s → ⊥) → slice_index (assigned s a t) z ≡ slice_index t z
number_kept [] a t z f = refl
number_kept (x ∷ s) a t z f = number_kept s (suc a) (slice_set t x a) z (λ m. f (inr m)) ∙ get_or-set_other t x z a 0 (λ e. f (inl e))

-- the first leaf has the first number
pub first_number : (n x : ℕ) (s : List ℕ) (a : ℕ) (t : List ℕ) (z : ℕ) → n < length t → x ≤ n → (Mem x s → ⊥) → z ≡ x → slice_index (assigned (x ∷ s) a t) z ≡ a
first_number n x s a t z lt le f e = ap (slice_index (assigned (x ∷ s) a t)) e ∙ number_kept s (suc a) (slice_set t x a) x f ∙ get_or-set_same t x a 0 (omega arith)

pub head_number : (n x : ℕ) (s : List ℕ) (a : ℕ) (t : List ℕ) (z : ℕ) → n < length t → IsLeafList n (x ∷ s) → z ≡ x → slice_index (assigned (x ∷ s) a t) z ≡ a
head_number n x s a t z lt h e = first_number n x s a t z lt (h.inside x (inl refl)).1 h.once.0 e

-- the leaves of the list have the numbers from the first one on
pub number_between : (n : ℕ) (s : List ℕ) (a : ℕ) (t : List ℕ) → n < length t → IsLeafList n s → (z : ℕ) → Mem z s → (a ≤ slice_index (assigned s a t) z) × (slice_index (assigned s a t) z < a + length s)
number_between n [] a t lt h z m = absurd m
number_between n (x ∷ s) a t lt h z (inl e) = let k = head_number n x s a t z lt h e in (omega (arith, k), omega (arith, k))
number_between n (x ∷ s) a t lt h z (inr m) = let k = number_between n s (suc a) (slice_set t x a) (still_room n x a t lt) (rest_leaves n x s h) z m in (omega (arith, k.0), omega (arith, k.1))

-- and each of these numbers has its leaf
pub number_taken : (n : ℕ) (s : List ℕ) (a : ℕ) (t : List ℕ) → n < length t → IsLeafList n s → (u : ℕ) → a ≤ u → u < a + length s → (z : ℕ) × Mem z s × (slice_index (assigned s a t) z ≡ u)
number_taken n [] a t lt h u le below = absurd (omega arith)
number_taken n (x ∷ s) a t lt h u le below = go (ℕ_discrete u a) (λ p q. number_taken n s (suc a) (slice_set t x a) (still_room n x a t lt) (rest_leaves n x s h) u p q)
  where
    go : Dec (u ≡ a) → (suc a ≤ u → u < suc a + length s → (z : ℕ) × Mem z s × (slice_index (assigned (x ∷ s) a t) z ≡ u)) → (z : ℕ) × Mem z (x ∷ s) × (slice_index (assigned (x ∷ s) a t) z ≡ u)
    go (yes e) f = (x, inl refl, head_number n x s a t x lt h refl ∙ sym e)
    go (no ne) f = let r = f (omega (arith, ne)) (omega arith) in (r.0, inr r.1, r.2)

-- two leaves with one number are one
pub numbers_apart : (n : ℕ) (s : List ℕ) (a : ℕ) (t : List ℕ) → n < length t → IsLeafList n s → (y z : ℕ) → Mem y s → Mem z s → slice_index (assigned s a t) y ≡ slice_index (assigned s a t) z → y ≡ z
numbers_apart n [] a t lt h y z p q same = absurd p
numbers_apart n (x ∷ s) a t lt h y z (inl e) (inl f) same = e ∙ sym f
numbers_apart n (x ∷ s) a t lt h y z (inl e) (inr q) same =
    let k = head_number n x s a t y lt h e in
    let b = number_between n s (suc a) (slice_set t x a) (still_room n x a t lt) (rest_leaves n x s h) z q in
    absurd (omega (arith, k, b.0, same))
numbers_apart n (x ∷ s) a t lt h y z (inr p) (inl f) same =
    let k = head_number n x s a t z lt h f in
    let b = number_between n s (suc a) (slice_set t x a) (still_room n x a t lt) (rest_leaves n x s h) y p in
    absurd (omega (arith, k, b.0, same))
numbers_apart n (x ∷ s) a t lt h y z (inr p) (inr q) same = numbers_apart n s (suc a) (slice_set t x a) (still_room n x a t lt) (rest_leaves n x s h) y z p q same

other_head : (x y : ℕ) (s r : List ℕ) → (Mem x s → ⊥) → x ≡ y → (z : ℕ) → Mem z s → (z ≡ y) ⊎ Mem z r → Mem z r
other_head x y s r f q z m (inl e) = absurd (f (subst (λ w. Mem w s) (e ∙ sym q) m))
other_head x y s r f q z m (inr k) = k

-- a list is read back from its numbers
pub read_back : (n : ℕ) (s r : List ℕ) (a : ℕ) (t : List ℕ) → n < length t → IsLeafList n s → IsLeafList n r → ((z : ℕ) → Mem z s → Mem z r) → ((z : ℕ) → Mem z r → Mem z s)
    → ((z : ℕ) → Mem z s → slice_index (assigned s a t) z ≡ slice_index (assigned r a t) z) → s ≡ r
read_back n [] [] a t lt h k f g same = refl
read_back n [] (y ∷ r) a t lt h k f g same = absurd (g y (inl refl))
read_back n (x ∷ s) [] a t lt h k f g same = absurd (f x (inl refl))
read_back n (x ∷ s) (y ∷ r) a t lt h k f g same = ap₂ (λ v l. v ∷ l) one
    (read_back n s r (suc a) (slice_set t x a) (still_room n x a t lt) (rest_leaves n x s h) (rest_leaves n y r k)
    (λ z m. other_head x y s r h.once.0 one z m (f z (inr m))) (λ z m. other_head y x r s k.once.0 (sym one) z m (g z (inr m)))
    (λ z m. same z (inr m) ∙ ap (λ v. slice_index (assigned r (suc a) (slice_set t v a)) z) (sym one)))
  where
    one_of : (x ≡ y) ⊎ Mem x r → x ≡ y
    one_of (inl e) = e
    one_of (inr m) =
        let own = head_number n x s a t x lt h refl in
        let b = number_between n r (suc a) (slice_set t y a) (still_room n y a t lt) (rest_leaves n y r k) x m in
        absurd (omega (arith, own, b.0, same x (inl refl)))

    one : x ≡ y
    one = one_of (f x (inl refl))

-- ---- lists with all leaves

-- the list without one of its members
without : (x : ℕ) (l : List ℕ) → Mem x l → (r : List ℕ) × (length l ≡ suc (length r)) × ((z : ℕ) → Mem z l → (z ≡ x → ⊥) → Mem z r)
without x [] m = absurd m
without x (y ∷ l) (inl e) = (l, refl, others)
  where
    others : (z : ℕ) → (z ≡ y) ⊎ Mem z l → (z ≡ x → ⊥) → Mem z l
    others z (inl q) f = absurd (f (q ∙ sym e))
    others z (inr k) f = k
without x (y ∷ l) (inr m) = go (without x l m)
  where
    go : (r : List ℕ) × (length l ≡ suc (length r)) × ((z : ℕ) → Mem z l → (z ≡ x → ⊥) → Mem z r) → (r : List ℕ) × (suc (length l) ≡ suc (length r)) × ((z : ℕ) → (z ≡ y) ⊎ Mem z l → (z ≡ x → ⊥) → Mem z r)
    go k = (y ∷ k.0, ap suc k.1, others)
      where
        others : (z : ℕ) → (z ≡ y) ⊎ Mem z l → (z ≡ x → ⊥) → (z ≡ y) ⊎ Mem z k.0
        others z (inl q) f = inl q
        others z (inr p) f = inr (k.2 z p f)

-- a list without repetition isn't longer than one that has its members
no_longer : (s l : List ℕ) → Distinct s → ((z : ℕ) → Mem z s → Mem z l) → length s ≤ length l
no_longer [] l d f = omega arith
no_longer (x ∷ s) l d f =
    let r = without x l (f x (inl refl)) in
    let k = no_longer s r.0 d.1 (λ z m. r.2 z (f z (inr m)) (λ e. d.0 (subst (λ w. Mem w s) e m))) in
    omega (arith, k, r.1)

-- n leaves, none twice, are all leaves from 1 to n
pub all_leaves : (n : ℕ) (s : List ℕ) → IsLeafList n s → length s ≡ n → (z : ℕ) → 0 < z → z ≤ n → Mem z s
all_leaves n s h size z p le = go (has s z) refl
  where
    go : (b : Bool) → has s z ≡ b → Mem z s
    go true e = has_mem s z e
    go false e = absurd (let k = no_longer (z ∷ s) (upto n) (λ m. let q = mem_has s z m in cc (e, q), h.once) inside in let u = length-upto n in omega (arith, k, u, size))
      where
        inside : (y : ℕ) → (y ≡ z) ⊎ Mem y s → Mem y (upto n)
        inside y (inl q) = in_upto n y (omega arith) (omega arith)
        inside y (inr m) = let b = h.inside y m in in_upto n y b.0 b.1
