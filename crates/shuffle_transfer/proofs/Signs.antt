-- The turns of a tree count for the sign of its sorted spelling.
use Rattle.std.proofs.Common.{◌≡◌, ⊎_elim, ℕ, zero, suc, ◌^◌, ◌<◌, ◌≤◌, List, ◌∷◌, map, refl, sym, ◌∙◌, ap, arith, subst}
use mathlib.Core.Path.{ap₂}
use Rattle.std.proofs.lemmas.List.{map-id}
use Rattle.std.proofs.Math.Nat.{pow-zero, pow-succ'}
use Rattle.modular_sums.specs.Residues.{IsCongruent}
use Rattle.modular_sums.proofs.Residues.{congruent_mul}
use Rattle.labelled_trees.specs.Trees.{Tree, Row, leaf, node, none, more, inputs}
use Rattle.labelled_trees.specs.Leaves.{occurs, occurs_row}
use Rattle.labelled_trees.specs.Labelled.{Fits, FitsRow}
use Rattle.labelled_trees.proofs.Leaves.{at_leaf}
use Rattle.shuffle_insertions.specs.ShuffleTrees.{least, IsRising}
use Rattle.shuffle_insertions.proofs.Rising.{least-occurs, least-le}
use Rattle.operad_ideals.specs.Parts.{Part, Sign, plus, minus, times, sign_of}
use Rattle.operad_ideals.specs.Spelling.{least_leaf}
use Rattle.operad_ideals.specs.Sorting.{parts_sign, spelled_row, spelled_sign, spelled_sign_row}
use Rattle.operad_ideals.specs.Laws.{arity}
use Rattle.operad_ideals.specs.Presentations.{residue_of}
use Rattle.operad_ideals.proofs.Signs.{times_comm, sign_of-add}
use Rattle.operad_ideals.proofs.Residues.{residue-times}
use Rattle.operad_ideals.proofs.LeastLeaves.{occurs-least_leaf, least_leaf-le}
use Rattle.operad_ideals.proofs.SameOrder.{parts_sign-order}
use Rattle.operad_ideals.proofs.Spellings.{least_leaves-spelled_row}
use Rattle.operad_ideals.proofs.SortedLists.{tested, below, in_itself}
use Rattle.modular_sums.specs.Lists.{Mem}
use Rattle.shuffle_transfer.specs.ShuffleForms.{ranks, form, form_row}
use Rattle.shuffle_transfer.proofs.Ranks.{below_less_mem}
use Rattle.shuffle_transfer.proofs.FormGrafts.{turns, turns_row}
use Rattle.shuffle_transfer.proofs.Forms.{form_rises, occurs-form}

-- ---- residues and counts

-- minus 1 to the power of a count of changes is the residue of their sign
pub residue-count : (q n : ℕ) → IsCongruent q (q ^ n) (residue_of q (sign_of n))
residue-count q zero = rw pow-zero refl
residue-count q (suc n) = rw (pow-succ' q n) (congruent_mul q q q (q ^ n) (residue_of q (sign_of n)) refl (residue-count q n) ∙ residue-times q minus (sign_of n))

-- 1 where the sign is minus
abbrev pub turn_of : Sign → ℕ
turn_of plus = 0
turn_of minus = 1

sign-turn : (s : Sign) → sign_of (turn_of s) ≡ s
sign-turn plus = refl
sign-turn minus = refl

-- ---- least leaves

-- the least leaf of a tree is the first leaf of a rising tree with the same leaves
pub least_leaf-is : (arity : ℕ → ℕ) (t s : Tree ℕ) → Fits arity t → IsRising s → ((i : ℕ) → occurs i t ≡ occurs i s) → least_leaf t ≡ least s
least_leaf-is arity t s f h e =
    let a : 0 < occurs (least_leaf t) t = occurs-least_leaf arity t f in
    let b : least s ≤ least_leaf t = at_leaf s (λ i. least s ≤ i) (least_leaf t) (least-le s h) (subst (λ k. 0 < k) (e (least_leaf t)) a) in
    let c : least_leaf t ≤ least s = at_leaf t (λ i. least_leaf t ≤ i) (least s) (least_leaf-le t) (subst (λ k. 0 < k) (sym (e (least s))) (least-occurs s h)) in
    omega (arith, b, c)

module _ (ps : ℕ → List Part) (label : ℕ → List ℕ → ℕ) where
  -- the number of turns of a generator with a word
  abbrev pub twist : ℕ → List ℕ → ℕ
  twist g w = turn_of (parts_sign (ps g) w)

  pub least-form : (t : Tree ℕ) → Fits (arity ps) t → ((i : ℕ) → occurs i t ≤ 1) → least (form label t) ≡ least_leaf t
  least-form t f d = sym (least_leaf-is (arity ps) t (form label t) f (form_rises label (arity ps) t f d) (λ i. sym (occurs-form label i t)))

  pub keys-form : (r : Row ℕ) → FitsRow (arity ps) r → ((i : ℕ) → occurs_row i r ≤ 1) → map least (form_row label r) ≡ map least_leaf (inputs r)
  keys-form none f d = refl
  keys-form (more t r) f d = ap₂ (λ k ks. k ∷ ks) (least-form t f.0 (λ i. omega (arith, d i))) (keys-form r f.1 (λ i. omega (arith, d i)))

  -- the sign of keys is that of their ranks
  sign-ranks : (qs : List Part) (ks : List ℕ) → parts_sign qs (ranks ks) ≡ parts_sign qs ks
  sign-ranks qs ks =
      sym (parts_sign-order (λ k. Mem k ks) (λ k. k) (λ k. suc (below k ks)) (λ x y a b l. (let c = below_less_mem x y ks l a in omega (arith, c)))
      (λ x y a b l. ⊎_elim (λ m. m) (λ m. ⊎_elim
      (λ n. (let c = below_less_mem y x ks n b in absurd (omega (arith, c, l)))) (λ n. (let e : x ≡ y = omega (arith, m, n) in let c : below x ks ≡ below y ks = ap (λ k. below k ks) e in absurd (omega (arith, c, l)))) (tested y x)) (tested x y))
      qs ks (in_itself ks))
      ∙ ap (parts_sign qs) (map-id ks)

  mutual
    -- the sign of the sorted spelling
    pub sign-turns : (t : Tree ℕ) → Fits (arity ps) t → ((i : ℕ) → occurs i t ≤ 1) → sign_of (turns label twist t) ≡ spelled_sign ps t
    sign-turns (leaf n) f d = refl
    sign-turns (node g r) f d =
        sign_of-add (twist g (ranks (map least (form_row label r)))) (turns_row label twist r)
        ∙ ap₂ times (sign-turn (parts_sign (ps g) (ranks (map least (form_row label r)))) ∙ sign-ranks (ps g) (map least (form_row label r)) ∙ ap (parts_sign (ps g)) (keys-form r f.2 d ∙ sym (least_leaves-spelled_row ps r)))
        (sign-turns_row r f.2 d)
        ∙ times_comm (parts_sign (ps g) (map least_leaf (spelled_row ps r))) (spelled_sign_row ps r)

    sign-turns_row : (r : Row ℕ) → FitsRow (arity ps) r → ((i : ℕ) → occurs_row i r ≤ 1) → sign_of (turns_row label twist r) ≡ spelled_sign_row ps r
    sign-turns_row none f d = refl
    sign-turns_row (more t r) f d =
        sign_of-add (turns label twist t) (turns_row label twist r) ∙ ap₂ times (sign-turns t f.0 (λ i. omega (arith, d i))) (sign-turns_row r f.1 (λ i. omega (arith, d i)))
