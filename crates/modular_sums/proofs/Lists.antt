-- Membership in lists, and rising lists.
use Rattle.std.proofs.Common.{false, Bool, cond, ◌≡◌, ℕ, ◌<◌, List, [], ◌∷◌, true, map, refl, sym, ap, arith, subst, inl, inr, ◌⊎◌}
use Rattle.std.specs.Prelude.{flat_map}
use mathlib.Core.List.{◌++◌}
use mathlib.Core.Path.{ap₂}
use native.Mathlib.Decide.{ℕ_discrete}
use Rattle.modular_sums.specs.Lists.{Mem, Distinct, Rises, has_by, has, choose}

pub tail_same : {A : Type 0} (x y : A) (k l : List A) → x ∷ k ≡ y ∷ l → (x ≡ y) × (k ≡ l)
tail_same x y k l e = (cc, cc)

pub mem_left : {X : Type 0} (v : X) (k l : List X) → Mem v k → Mem v (k ++ l)
mem_left v [] l h = absurd h
mem_left v (x ∷ k) l (inl e) = inl e
mem_left v (x ∷ k) l (inr h) = inr (mem_left v k l h)

pub mem_right : {X : Type 0} (v : X) (k l : List X) → Mem v l → Mem v (k ++ l)
mem_right v [] l h = h
mem_right v (x ∷ k) l h = inr (mem_right v k l h)

pub mem_either : {X : Type 0} (v : X) (k l : List X) → Mem v (k ++ l) → Mem v k ⊎ Mem v l
mem_either v [] l h = inr h
mem_either v (x ∷ k) l (inl e) = inl (inl e)
mem_either v (x ∷ k) l (inr h) = widen (mem_either v k l h)
  where
    widen : Mem v k ⊎ Mem v l → Mem v (x ∷ k) ⊎ Mem v l
    widen (inl p) = inl (inr p)
    widen (inr p) = inr p

pub mem_map : {X Y : Type 0} (f : X → Y) (x : X) (k : List X) → Mem x k → Mem (f x) (map f k)
mem_map f x [] h = absurd h
mem_map f x (y ∷ k) (inl e) = inl (ap f e)
mem_map f x (y ∷ k) (inr h) = inr (mem_map f x k h)

pub mem_of_map : {X Y : Type 0} (f : X → Y) (y : Y) (l : List X) → Mem y (map f l) → (x : X) × Mem x l × (y ≡ f x)
mem_of_map f y [] h = absurd h
mem_of_map f y (x ∷ l) (inl e) = (x, inl refl, e)
mem_of_map f y (x ∷ l) (inr h) = let k = mem_of_map f y l h in (k.0, inr k.1, k.2)

-- what stands in a list for a member stands in the lists put together
pub mem_flat : {A B : Type 0} (f : A → List B) (x : A) (y : B) (l : List A) → Mem x l → Mem y (f x) → Mem y (flat_map f l)
mem_flat f x y [] h k = absurd h
mem_flat f x y (z ∷ l) (inl e) k = mem_left y (f z) (flat_map f l) (subst (λ w. Mem y (f w)) e k)
mem_flat f x y (z ∷ l) (inr h) k = mem_right y (f z) (flat_map f l) (mem_flat f x y l h k)

-- and what stands there stands in the list for some member
pub mem_of_flat : {A B : Type 0} (f : A → List B) (y : B) (l : List A) → Mem y (flat_map f l) → (x : A) × Mem x l × Mem y (f x)
mem_of_flat f y [] h = absurd h
mem_of_flat {A} f y (x ∷ l) h = go (mem_either y (f x) (flat_map f l) h) (λ b. mem_of_flat f y l b)
  where
    go : Mem y (f x) ⊎ Mem y (flat_map f l) → (Mem y (flat_map f l) → (z : A) × Mem z l × Mem y (f z)) → (z : A) × Mem z (x ∷ l) × Mem y (f z)
    go (inl a) ih = (x, inl refl, a)
    go (inr b) ih = let k = ih b in (k.0, inr k.1, k.2)

-- two lists without repetition and without a common member, one behind the other
pub Distinct-append : {X : Type 0} (k l : List X) → Distinct k → Distinct l → ((x : X) → Mem x k → Mem x l → ⊥) → Distinct (k ++ l)
Distinct-append [] l a b h = b
Distinct-append {X = X} (x ∷ k) l a b h = (λ m. go (mem_either x k l m), Distinct-append k l a.1 b (λ z m n. h z (inr m) n))
  where
    go : Mem x k ⊎ Mem x l → ⊥
    go (inl m) = a.0 m
    go (inr m) = h x (inl refl) m

pub has_by_mem : {X : Type 0} (dec : Discrete X) (l : List X) (v : X) → has_by dec l v ≡ true → Mem v l
has_by_mem dec [] v e = absurd (cc e)
has_by_mem dec (x ∷ l) v e = go (dec v x) (λ h. has_by_mem dec l v h) e
  where
    go : (d : Dec (v ≡ x)) → (has_by dec l v ≡ true → Mem v l) → choose d true (has_by dec l v) ≡ true → (v ≡ x) ⊎ Mem v l
    go (yes h) ih e = inl h
    go (no _) ih e = inr (ih e)

pub mem_has_by : {X : Type 0} (dec : Discrete X) (l : List X) (v : X) → Mem v l → has_by dec l v ≡ true
mem_has_by dec [] v h = absurd h
mem_has_by dec (x ∷ l) v h = go (dec v x) (λ m. mem_has_by dec l v m) h
  where
    go : (d : Dec (v ≡ x)) → (Mem v l → has_by dec l v ≡ true) → (v ≡ x) ⊎ Mem v l → choose d true (has_by dec l v) ≡ true
    go (yes _) ih h = refl
    go (no f) ih (inl e) = absurd (f e)
    go (no f) ih (inr m) = ih m

pub has_mem : (l : List ℕ) (v : ℕ) → has l v ≡ true → Mem v l
has_mem l v e = has_by_mem ℕ_discrete l v e

pub mem_has : (l : List ℕ) (v : ℕ) → Mem v l → has l v ≡ true
mem_has l v m = mem_has_by ℕ_discrete l v m

pub Rises-append : (k l : List ℕ) → Rises k → Rises l → ((u v : ℕ) → Mem u k → Mem v l → u < v) → Rises (k ++ l)
Rises-append [] l a b h = b
Rises-append (x ∷ k) l a b h =
    (λ u m. first (mem_either u k l m), Rises-append k l a.1 b (λ u v m n. h u v (inr m) n))
  where
    first : {u : ℕ} → Mem u k ⊎ Mem u l → x < u
    first {u} (inl m) = a.0 u m
    first {u} (inr m) = h x u (inl refl) m

-- rising lists with the same members
pub same_rising : (k l : List ℕ) → Rises k → Rises l → ((u : ℕ) → Mem u k → Mem u l) → ((u : ℕ) → Mem u l → Mem u k) → k ≡ l
same_rising [] [] a b f g = refl
same_rising [] (y ∷ l) a b f g = absurd (g y (inl refl))
same_rising (x ∷ k) [] a b f g = absurd (f x (inl refl))
same_rising (x ∷ k) (y ∷ l) a b f g = ap₂ (λ v m. v ∷ m) one (same_rising k l a.1 b.1 (λ u m. drop_first u m (f u (inr m))) (λ u m. drop_second u m (g u (inr m))))
  where
    one_of : (x ≡ y) ⊎ Mem x l → (y ≡ x) ⊎ Mem y k → x ≡ y
    one_of (inl e) q = e
    one_of (inr m) (inl e) = sym e
    one_of (inr m) (inr n) = absurd (omega (arith, b.0 x m, a.0 y n))

    one : x ≡ y
    one = one_of (f x (inl refl)) (g y (inl refl))

    drop_first : (u : ℕ) → Mem u k → (u ≡ y) ⊎ Mem u l → Mem u l
    drop_first u m (inl e) = absurd (omega (arith, a.0 u m, e, one))
    drop_first u m (inr n) = n

    drop_second : (u : ℕ) → Mem u l → (u ≡ x) ⊎ Mem u k → Mem u k
    drop_second u m (inl e) = absurd (omega (arith, b.0 u m, e, one))
    drop_second u m (inr n) = n

-- both of two tests hold
pub both_true : (b c : Bool) → cond b c false ≡ true → (b ≡ true) × (c ≡ true)
both_true true c e = (refl, e)
both_true false c e = absurd (cc e)

-- two tests that hold
pub true_both : (b c : Bool) → b ≡ true → c ≡ true → cond b c false ≡ true
true_both true c d e = e
true_both false c d e = absurd (cc d)
