-- Which of two values is chosen.
use Rattle.std.proofs.Common.{◌≡◌, refl}
use Rattle.modular_sums.specs.Lists.{choose}

pub choose-yes : {A B : Type 0} (d : Dec A) (v w : B) → A → choose d v w ≡ v
choose-yes (yes _) v w a = refl
choose-yes (no f) v w a = absurd (f a)

pub choose-no : {A B : Type 0} (d : Dec A) (v w : B) → (A → ⊥) → choose d v w ≡ w
choose-no (yes a) v w f = absurd (f a)
choose-no (no _) v w f = refl
