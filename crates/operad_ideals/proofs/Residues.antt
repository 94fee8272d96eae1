-- The residues that stand for signs.
use Rattle.std.proofs.Common.{◌≡◌, ℕ, suc, ◌+◌, ◌*◌, ◌%◌, refl, sym, ap, ◌∙◌, arith}
use Rattle.modular_sums.specs.Residues.{IsCongruent}
use Rattle.modular_sums.proofs.Residues.{congruent_drop}
use Rattle.operad_ideals.specs.Parts.{Sign, plus, minus, times}
use Rattle.operad_ideals.specs.Presentations.{residue_of}

-- minus 1 times minus 1 is 1
pub minus_twice : (q : ℕ) → IsCongruent q (q * q) 1
minus_twice q =
    let a : q * q + (1 + q * 1) ≡ 1 + (q + q * q) = omega arith in
    sym (congruent_drop q (q * q) 1) ∙ ap (λ m. m % suc q) a ∙ congruent_drop q 1 q

-- the residue of a product of signs is the product of the residues
pub residue-times : (q : ℕ) (r s : Sign) → IsCongruent q (residue_of q r * residue_of q s) (residue_of q (times r s))
residue-times q plus plus = refl
residue-times q plus minus = let e : 1 * q ≡ q = omega arith in rw e refl
residue-times q minus plus = let e : q * 1 ≡ q = omega arith in rw e refl
residue-times q minus minus = minus_twice q

-- a sign and its opposite cancel
pub residue_gone : (q : ℕ) (s : Sign) → IsCongruent q (residue_of q s + residue_of q (times minus s)) 0
residue_gone q plus = let z : 1 + q ≡ 0 + (1 + q * 1) = omega arith in rw z (congruent_drop q 0 1)
residue_gone q minus = let z : q + 1 ≡ 0 + (1 + q * 1) = omega arith in rw z (congruent_drop q 0 1)
