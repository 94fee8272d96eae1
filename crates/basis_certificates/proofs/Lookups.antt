-- Things of a list by their numbers.
use Rattle.std.proofs.Common.{◌≡◌, ℕ, zero, suc, ◌<◌, ◌≤◌, List, [], ◌∷◌, map, length, refl, sym, ap, arith, inl, inr}
use Rattle.std.specs.Prelude.{Some}
use Rattle.modular_sums.specs.Lists.{Mem, nth}
use Rattle.shuffle_bases.specs.Elements.{Element, InOrder}

pub nth_mem : {X : Type 0} (l : List X) (k : ℕ) (x : X) → nth l k ≡ Some x → Mem x l
nth_mem [] k x e = absurd (cc e)
nth_mem (y ∷ l) zero x e = absurd (cc e)
nth_mem (y ∷ l) (suc zero) x e = inl (cc e)
nth_mem (y ∷ l) (suc (suc k)) x e = inr (nth_mem l (suc k) x e)

pub nth_suc : {X : Type 0} (y : X) (l : List X) (k : ℕ) (x : X) → nth l k ≡ Some x → nth (y ∷ l) (suc k) ≡ Some x
nth_suc y [] k x e = absurd (cc e)
nth_suc y (z ∷ l) zero x e = absurd (cc e)
nth_suc y (z ∷ l) (suc k) x e = e

-- the number of a member
pub mem_nth : {X : Type 0} (x : X) (l : List X) → Mem x l → (k : ℕ) × (nth l k ≡ Some x)
mem_nth x [] m = absurd m
mem_nth x (y ∷ l) (inl e) = (1, ap Some (sym e))
mem_nth x (y ∷ l) (inr m) = let k = mem_nth x l m in (suc k.0, nth_suc y l k.0 x k.1)

pub nth_map : {X Y : Type 0} (f : X → Y) (l : List X) (k : ℕ) (x : X) → nth l k ≡ Some x → nth (map f l) k ≡ Some (f x)
nth_map f [] k x e = absurd (cc e)
nth_map f (y ∷ l) zero x e = absurd (cc e)
nth_map f (y ∷ l) (suc zero) x e = let h : y ≡ x = cc e in ap (λ z. Some (f z)) h
nth_map f (y ∷ l) (suc (suc k)) x e = nth_map f l (suc k) x e

pub nth_of_map : {X Y : Type 0} (f : X → Y) (l : List X) (k : ℕ) (y : Y) → nth (map f l) k ≡ Some y → (x : X) × (nth l k ≡ Some x) × (y ≡ f x)
nth_of_map f [] k y e = absurd (cc e)
nth_of_map f (x ∷ l) zero y e = absurd (cc e)
nth_of_map f (x ∷ l) (suc zero) y e = (x, refl, cc e)
nth_of_map f (x ∷ l) (suc (suc k)) y e = nth_of_map f l (suc k) y e

-- the numbers of two elements that stand in this order
pub in_order_nth : (g h : Element) (l : List Element) → InOrder g h l → (i : ℕ) × (j : ℕ) × (nth l i ≡ Some g) × (nth l j ≡ Some h) × (0 < i) × (i ≤ j)
in_order_nth g h [] o = absurd o
in_order_nth g h (x ∷ l) (inl o) = let k = number o.1 in (1, k.0, ap Some (sym o.0), k.1, omega arith, k.2)
  where
    number : Mem h (x ∷ l) → (j : ℕ) × (nth (x ∷ l) j ≡ Some h) × (1 ≤ j)
    number (inl e) = (1, ap Some (sym e), omega arith)
    number (inr m) = let k = mem_nth h l m in (suc k.0, nth_suc x l k.0 h k.1, omega arith)
in_order_nth g h (x ∷ l) (inr o) =
    let k = in_order_nth g h l o in
    let le : k.0 ≤ k.1 = k.5 in
    (suc k.0, suc k.1, nth_suc x l k.0 g k.2, nth_suc x l k.1 h k.3, omega arith, omega (arith, le))

-- numbers go from 1 to the length of the list
pub nth_within : {X : Type 0} (l : List X) (k : ℕ) (x : X) → nth l k ≡ Some x → (0 < k) × (k ≤ length l)
nth_within [] k x e = absurd (cc e)
nth_within (y ∷ l) zero x e = absurd (cc e)
nth_within (y ∷ l) (suc zero) x e = (omega arith, omega arith)
nth_within (y ∷ l) (suc (suc k)) x e = let h : (0 < suc k) × (suc k ≤ length l) = nth_within l (suc k) x e in (omega arith, omega (arith, h.1))

-- elements with numbers in this order stand in it
pub nth_in_order : (g h : Element) (l : List Element) (i j : ℕ) → nth l i ≡ Some g → nth l j ≡ Some h → i ≤ j → InOrder g h l
nth_in_order g h [] i j a b le = absurd (cc a)
nth_in_order g h (x ∷ l) zero j a b le = absurd (cc a)
nth_in_order g h (x ∷ l) (suc zero) j a b le = inl (cc a, nth_mem (x ∷ l) j h b)
nth_in_order g h (x ∷ l) (suc (suc i)) zero a b le = absurd (cc b)
nth_in_order g h (x ∷ l) (suc (suc i)) (suc zero) a b le = absurd (omega (arith, le))
nth_in_order g h (x ∷ l) (suc (suc i)) (suc (suc j)) a b le = inr (nth_in_order g h l (suc i) (suc j) a b (omega (arith, le)))
