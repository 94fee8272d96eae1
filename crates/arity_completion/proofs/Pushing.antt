-- One use more.
use Rattle.std.proofs.Common.{◌≡◌, ℕ, zero, suc, ◌+◌, ◌<◌, List, [], ◌∷◌, ◌++◌, length, take, get_or, subst, arith}
use Rattle.symmetric_sums.specs.declared.instance.Instance.{Instance}
use Rattle.arity_completion.specs.Uses.{AreUsesOf}

pub uses_push : {A : Type 0} (IsUse : A → Instance → Type 0) (l : List A) (i : ℕ) (x : A) (uses : List Instance) (item : Instance) → i < length l → x ≡ get_or l i x → AreUsesOf IsUse (take i l) uses → IsUse x item
    → AreUsesOf IsUse (take (i + 1) l) (uses ++ item ∷ [])
uses_push {A = A} IsUse l i x uses item less at h u = let e : suc i ≡ i + 1 = omega arith in subst (λ k. AreUsesOf IsUse (take k l) (uses ++ item ∷ [])) e (go l i uses less at h) where
  go : (l : List A) (i : ℕ) (uses : List Instance) → i < length l → x ≡ get_or l i x → AreUsesOf IsUse (take i l) uses → AreUsesOf IsUse (take (suc i) l) (uses ++ item ∷ [])
  go [] i uses less at h = absurd (omega (arith, less))
  go (y ∷ l) zero [] less at h = (subst (λ z. IsUse z item) at u, tt)
  go (y ∷ l) zero (z ∷ uses) less at h = absurd h
  go (y ∷ l) (suc i) [] less at h = absurd h
  go (y ∷ l) (suc i) (z ∷ uses) less at h = (h.0, go l i uses (omega (arith, less)) at h.1)
