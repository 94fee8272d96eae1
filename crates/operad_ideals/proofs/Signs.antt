-- Signs: a group of two elements.
use Rattle.std.proofs.Common.{◌≡◌, ℕ, zero, suc, ◌+◌, refl, sym, ap, ◌∙◌, arith}
use Rattle.operad_ideals.specs.Parts.{Sign, plus, minus, times, sign_of}

pub times-plus : (s : Sign) → times s plus ≡ s
times-plus plus = refl
times-plus minus = refl

pub times-self : (s : Sign) → times s s ≡ plus
times-self plus = refl
times-self minus = refl

pub times_comm : (r s : Sign) → times r s ≡ times s r
times_comm plus plus = refl
times_comm plus minus = refl
times_comm minus plus = refl
times_comm minus minus = refl

pub times_assoc : (r s t : Sign) → times (times r s) t ≡ times r (times s t)
times_assoc plus s t = refl
times_assoc minus plus t = refl
times_assoc minus minus plus = refl
times_assoc minus minus minus = refl

pub times_left_comm : (r s t : Sign) → times r (times s t) ≡ times s (times r t)
times_left_comm r s t = sym (times_assoc r s t) ∙ ap (λ q. times q t) (times_comm r s) ∙ times_assoc s r t

-- each sign is its own inverse
pub times-inverse : (r s : Sign) → times r (times r s) ≡ s
times-inverse r s = sym (times_assoc r r s) ∙ ap (λ q. times q s) (times-self r)

-- m and n changes of sign, one after the other
pub sign_of-add : (m n : ℕ) → sign_of (m + n) ≡ times (sign_of m) (sign_of n)
sign_of-add zero n = let e : 0 + n ≡ n = omega arith in ap sign_of e
sign_of-add (suc m) n =
    let e : suc m + n ≡ suc (m + n) = omega arith in
    ap sign_of e ∙ ap (times minus) (sign_of-add m n) ∙ sym (times_assoc minus (sign_of m) (sign_of n))
