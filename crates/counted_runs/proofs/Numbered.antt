-- The things at the places of a list.
use Rattle.std.proofs.Common.{◌≡◌, ℕ, zero, suc, List, [], ◌∷◌, sym, ◌∙◌, inl, inr}
use Rattle.modular_sums.specs.Lists.{Mem, Nth}

-- one thing stands at a place
pub one_nth : {X : Type 0} (k : ℕ) (l : List X) (x y : X) → Nth k l x → Nth k l y → x ≡ y
one_nth k [] x y h g = absurd h
one_nth zero (z ∷ l) x y h g = absurd h
one_nth (suc zero) (z ∷ l) x y h g = h ∙ sym g
one_nth (suc (suc k)) (z ∷ l) x y h g = one_nth (suc k) l x y h g

-- what stands at a place of a list stands in it
pub nth_member : {X : Type 0} (k : ℕ) (l : List X) (x : X) → Nth k l x → Mem x l
nth_member k [] x h = absurd h
nth_member zero (y ∷ l) x h = absurd h
nth_member (suc zero) (y ∷ l) x h = inl h
nth_member (suc (suc k)) (y ∷ l) x h = inr (nth_member (suc k) l x h)

-- and what stands in it stands at some place
pub member_nth : {X : Type 0} (l : List X) (x : X) → Mem x l → (k : ℕ) × Nth (suc k) l x
member_nth [] x m = absurd m
member_nth (y ∷ l) x (inl e) = (0, e)
member_nth (y ∷ l) x (inr m) = let k = member_nth l x m in (suc k.0, k.1)
