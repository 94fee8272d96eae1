-- Chains, and what is kept of them.
use Rattle.std.proofs.Common.{◌≡◌, ℕ, suc, ◌+◌, ◌*◌, ◌-◌, ◌%◌, List, [], ◌∷◌, ◌++◌, refl, sym, ap, ◌∙◌, arith, append-nil, append_assoc}
use Rattle.std.proofs.lemmas.List.Elements.{All-nil}
use Rattle.modular_sums.specs.Residues.{IsCongruent}
use Rattle.modular_sums.specs.Sums.{coef, scale, Same}
use Rattle.modular_sums.proofs.Residues.{congruent_add, congruent_drop}
use Rattle.modular_sums.proofs.Sums.{coef-append, coef-scale}
use Rattle.labelled_trees.specs.Trees.{Tree}
use Rattle.labelled_trees.specs.Equality.{tree_discrete}
use Rattle.shuffle_bases.specs.Elements.{Setting, Insertion, value_of}
use Rattle.shuffle_reductions.specs.Chains.{IsChain}
use Rattle.symmetric_sums.specs.Membership.{presentation_of}
use Rattle.logged_steps.proofs.Kept.{kept_law}
use Rattle.logged_steps.proofs.Standing.{same-append, same-scale}
use Rattle.arity_completion.specs.Laws.{DifferencesAreKept, ReducedRowsAreKept}
use Rattle.arity_completion.specs.Trails.{IsStart, all_started, taken}

-- the last row of a chain is the first and what was subtracted
pub chain_taken : (s : Setting) (n : ℕ) (steps : List (ℕ × Insertion s n)) (row last : List (ℕ × Tree ℕ)) → IsChain s n row steps last → Same tree_discrete s.q last (row ++ taken steps)
chain_taken s n [] row last h t = sym (h t) ∙ ap (λ l. coef tree_discrete l t % suc s.q) (sym (append-nil row))
chain_taken s n (x ∷ steps) row last h t =
    chain_taken s n steps (row ++ scale (s.q * x.0) (value_of x.1)) last h.1 t
    ∙ ap (λ l. coef tree_discrete l t % suc s.q) (append_assoc row (scale (s.q * x.0) (value_of x.1)) (taken steps))

taken_both : (s : Setting) (n : ℕ) (a b : List (ℕ × Insertion s n)) → taken (a ++ b) ≡ taken a ++ taken b
taken_both s n [] b = refl
taken_both s n (x ∷ a) b = ap (λ l. scale (s.q * x.0) (value_of x.1) ++ l) (taken_both s n a b) ∙ sym (append_assoc (scale (s.q * x.0) (value_of x.1)) (taken a) (taken b))

-- what is left alone and the last row are the starts less what all steps subtract
row_taken : (s : Setting) (n : ℕ) (before steps : List (ℕ × Insertion s n)) (started alone row rest : List (ℕ × Tree ℕ)) → Same tree_discrete s.q (alone ++ row) (started ++ taken before) → IsChain s n row steps rest
    → Same tree_discrete s.q (alone ++ rest) (started ++ taken (before ++ steps))
row_taken s n before steps started alone row rest start chain t =
    same-append s.q alone rest alone (row ++ taken steps) (λ u. refl) (chain_taken s n steps row rest chain) t
    ∙ ap (λ l. coef tree_discrete l t % suc s.q) (sym (append_assoc alone row (taken steps)))
    ∙ same-append s.q (alone ++ row) (taken steps) (started ++ taken before) (taken steps) start (λ u. refl) t
    ∙ ap (λ l. coef tree_discrete l t % suc s.q) (append_assoc started (taken before) (taken steps) ∙ ap (λ l. started ++ l) (sym (taken_both s n before steps)))

pub rows_law : ReducedRowsAreKept
rows_law m generators rels earlier shelf numbers starts cofactors factor last entry h compare elements n order monic entries are before steps of alone row rest start chain valid same = (
  h.kept compare elements n order monic entries are (before ++ steps) of valid
      (λ t. sym (same t ∙ same-scale (m - 1) factor (alone ++ rest) (all_started m generators rels earlier starts ++ taken (before ++ steps))
      (row_taken (Rattle.shuffle_transfer.specs.GroebnerBases.setting (presentation_of m generators rels) compare elements) n before steps (all_started m generators rels earlier starts) alone row rest start chain) t)),
  h.element.stands n valid,
)

-- what a row to nothing takes, times -1, is the row
turned : (q : ℕ) (row more last : List (ℕ × Tree ℕ)) → Same tree_discrete q last (row ++ more) → Same tree_discrete q last [] → Same tree_discrete q (scale q more) row
unfolding coef
turned q row more last h z t =
    let r = coef tree_discrete row t in
    let k = coef tree_discrete more t in
    let both = coef-append tree_discrete row more t in
    let gone : IsCongruent q (coef tree_discrete row t + coef tree_discrete more t) 0 = ap (λ c. c % suc q) (sym both) ∙ sym (h t) ∙ z t in
    let zero_more : q * coef tree_discrete more t + 0 ≡ q * coef tree_discrete more t = omega arith in
    let turn : q * coef tree_discrete more t + (coef tree_discrete row t + coef tree_discrete more t) ≡ coef tree_discrete row t + (coef tree_discrete more t + q * coef tree_discrete more t) = omega arith in
    ap (λ c. c % suc q) (coef-scale tree_discrete q more t ∙ sym zero_more)
    ∙ congruent_add q (q * coef tree_discrete more t) (q * coef tree_discrete more t) 0 (coef tree_discrete row t + coef tree_discrete more t) refl (sym gone)
    ∙ ap (λ c. c % suc q) turn ∙ congruent_drop q (coef tree_discrete row t) (coef tree_discrete more t)

pub differences_law : DifferencesAreKept
differences_law m generators rels earlier shelf numbers cofactors entry positive uses fits reduced compare elements n order monic entries steps of row last stands chain none =
    let up = uses compare elements n order monic entries (All-nil (IsStart m generators rels earlier n)) steps of in
    let taken_is = chain_taken (Rattle.shuffle_transfer.specs.GroebnerBases.setting (presentation_of m generators rels) compare elements) n steps row last chain in
    kept_law m generators rels earlier n entry up.parts row positive fits up.coefs reduced up.stand stands
    (λ t. up.same t ∙ turned (m - 1) row (taken steps) last taken_is none t)
