-- Forms on independent lists, and traces.
use Rattle.std.proofs.Common.{◌≡◌, ℕ, suc, ◌+◌, ◌*◌, ◌%◌, List, [], ◌∷◌, refl, sym, ◌∙◌, ap, arith, subst}
use mathlib.Core.List.{◌++◌}
use mathlib.Core.Path.{ap₂}
use Rattle.std.specs.List.{sum_by}
use Rattle.modular_sums.specs.Residues.{IsCongruent}
use Rattle.modular_sums.specs.Lists.{Mem}
use Rattle.modular_sums.specs.Sums.{coef, scale, Same, expand, IsLinearCombination}
use Rattle.modular_sums.proofs.Sums.{AllTerms-append, AllTerms-scale}
use Rattle.modular_sums.proofs.Differences.{same_of_zero}
use Rattle.modular_sums.proofs.Links.{member_one}
use Rattle.action_characters.specs.ModularTraces.{KeepsSpans, AreIndependent, IsFormOn, IsLinearTrace}
use Rattle.action_characters.specs.ModularLaws.{FormsOnIndependentLists, LinearTracesExist, TracesCommute, BasesAgree}
use Rattle.action_characters.proofs.Totals.{total, sum_by-total, total_ext, total_alike, total_swap, sum_over-total}
use Rattle.action_characters.proofs.Choices.{chosen}
use Rattle.action_characters.proofs.Congruences.{coef-expand_sum, AllTerms-expand, congruent_both, congruent_same, congruent_then, congruent_images, congruent_kept}

pub forms_are_unique : (M I : Type 0) → FormsOnIndependentLists M I
forms_are_unique M I dec value q l free e f g a b =
    same_of_zero dec q f g (free.zero (f ++ scale q g) (AllTerms-append f (scale q g) (λ t. Mem t l) a.on_list (AllTerms-scale q g (λ t. Mem t l) b.on_list))
    (congruent_both dec value q e f g a.rest b.rest))

pub traces_exist : (M I : Type 0) → LinearTracesExist M I
traces_exist M I dec value q image l h =
    let c = chosen dec l [] (λ t f. IsFormOn dec value q l (image t) f) h in
    (sum_by (λ t. coef dec (c.0 t) t) l % suc q, record { forms = c.0; each = c.1; adds_up = refl })

-- a form of a sum that is the same
pub form_same : {M I : Type 0} (dec : Discrete M) (value : I → List (ℕ × M)) (q : ℕ) (l : List M) (d e f : List (ℕ × M)) → Same dec q d e → IsFormOn dec value q l e f → IsFormOn dec value q l d f
form_same dec value q l d e f s h = record { on_list = h.on_list; rest = congruent_same dec value q d e f f s (λ t. refl) h.rest }

pub trace_same : {M I : Type 0} (dec : Discrete M) (value : I → List (ℕ × M)) (q : ℕ) (first second : M → List (ℕ × M)) (l : List M) (r : ℕ)
    → ((t : M) → Mem t l → Same dec q (first t) (second t)) → IsLinearTrace dec value q second l r → IsLinearTrace dec value q first l r
trace_same dec value q first second l r s h =
    record { forms = h.forms; each = λ t m. form_same dec value q l (first t) (second t) (h.forms t) (s t m) (h.each t m); adds_up = h.adds_up }

-- ---- there and back

module _ {M N I J : Type 0} (decm : Discrete M) (decn : Discrete N) (q : ℕ) (value : I → List (ℕ × M)) (other : J → List (ℕ × N))
    (back : N → List (ℕ × M)) (keeps : KeepsSpans decm q other value back)
    (k : List M) (l : List N) (free : AreIndependent decm value q k) (free_l : AreIndependent decn other q l)
    (B : N → List (ℕ × M)) (B_is : (u : N) → Mem u l → IsFormOn decm value q k (back u) (B u)) where
  -- the form of an image, through the form of what is mapped
  pub form_through : (e f : List (ℕ × N)) → IsFormOn decn other q l e f → IsFormOn decm value q k (expand back e) (expand B f)
  form_through e f h = record {
    on_list = AllTerms-expand B (λ u. Mem u l) (λ t. Mem t k) f (λ u m. (B_is u m).on_list) h.on_list;
    rest = congruent_then decm value q (expand back e) (expand back f) (expand B f)
        (congruent_kept decn decm q other value back keeps e f h.rest)
        (congruent_images decm value q back B (λ u. Mem u l) (λ u m. (B_is u m).rest) f h.on_list);
  }

  -- the coefficient of a form, as a sum over the other list
  pub coefficient : (e f : List (ℕ × N)) (g : List (ℕ × M)) → IsFormOn decn other q l e f → IsFormOn decm value q k (expand back e) g
      → (t : M) → IsCongruent q (coef decm g t) (total (λ u. coef decn f u * coef decm (B u) t) l)
  coefficient e f g h i t =
      forms_are_unique M I decm value q k free (expand back e) g (expand B f) i (form_through e f h) t
      ∙ ap (λ n. n % suc q) (coef-expand_sum decm B f t ∙ sum_over-total decn f (λ u. coef decm (B u) t) l free_l.distinct h.on_list)

pub traces_commute : (M N I J : Type 0) → TracesCommute M N I J
traces_commute M N I J decm decn q value other there back keeps keeps_back k l free free_l there_is back_is r s tr ts =
    let a = chosen decm k [] (λ t f. IsFormOn decn other q l (there t) f) there_is in
    let b = chosen decn l [] (λ u f. IsFormOn decm value q k (back u) f) back_is in
    let A : M → List (ℕ × N) = a.0 in
    let B : N → List (ℕ × M) = b.0 in
    let first : IsCongruent q (total (λ t. coef decm (tr.forms t) t) k) (total (λ t. total (λ u. coef decn (A t) u * coef decm (B u) t) l) k)
    = total_alike q (λ t. coef decm (tr.forms t) t) (λ t. total (λ u. coef decn (A t) u * coef decm (B u) t) l) k
    (λ t m. coefficient decm decn q value other back keeps_back k l free free_l B b.1 (there t) (A t) (tr.forms t) (a.1 t m) (tr.each t m) t) in
    let second : IsCongruent q (total (λ u. coef decn (ts.forms u) u) l) (total (λ u. total (λ t. coef decm (B u) t * coef decn (A t) u) k) l)
    = total_alike q (λ u. coef decn (ts.forms u) u) (λ u. total (λ t. coef decm (B u) t * coef decn (A t) u) k) l
    (λ u m. coefficient decn decm q other value there keeps l k free_l free A a.1 (back u) (B u) (ts.forms u) (b.1 u m) (ts.each u m) u) in
    let turned : total (λ t. total (λ u. coef decn (A t) u * coef decm (B u) t) l) k ≡ total (λ u. total (λ t. coef decm (B u) t * coef decn (A t) u) k) l
    = total_swap (λ t u. coef decn (A t) u * coef decm (B u) t) k l
    ∙ total_ext (λ u. total (λ t. coef decn (A t) u * coef decm (B u) t) k) (λ u. total (λ t. coef decm (B u) t * coef decn (A t) u) k) l
    (λ u m. total_ext (λ t. coef decn (A t) u * coef decm (B u) t) (λ t. coef decm (B u) t * coef decn (A t) u) k (λ t n. omega arith)) in
    tr.adds_up ∙ ap (λ n. n % suc q) (sum_by-total (λ t. coef decm (tr.forms t) t) k) ∙ first ∙ ap (λ n. n % suc q) turned
    ∙ sym second ∙ ap (λ n. n % suc q) (sym (sum_by-total (λ u. coef decn (ts.forms u) u) l)) ∙ sym ts.adds_up

-- ---- two bases

-- the linear map that leaves each monomial
abbrev pub one : {M : Type 0} → M → List (ℕ × M)
one t = (1, t) ∷ []

pub one_expand : {M : Type 0} (e : List (ℕ × M)) → expand one e ≡ e
unfolding expand scale
one_expand [] = refl
one_expand (x ∷ e) = let k : x.0 * 1 ≡ x.0 = omega arith in ap₂ (λ n l. (n, x.1) ∷ l) k (one_expand e)

pub expand_one : {M N : Type 0} (dec : Discrete N) (q : ℕ) (image : M → List (ℕ × N)) (t : M) → Same dec q (expand image (one t)) (image t)
expand_one dec q image t u =
    let k : 1 * coef dec (image t) u + 0 ≡ coef dec (image t) u = omega arith in
    ap (λ n. n % suc q) (coef-expand_sum dec image (one t) u ∙ k)

pub bases_agree : (M I : Type 0) → BasesAgree M I
bases_agree M I dec value q image keeps k l free free_l to_l to_k r s tr ts =
    let c = chosen dec l [] (λ u f. IsFormOn dec value q k (one u) f) to_k in
    traces_commute M M I I dec dec q value value one image
    (λ i. subst (IsLinearCombination dec value q) (sym (one_expand (value i))) (member_one dec value q i)) keeps k l free free_l to_l
    (λ u m. (
      expand c.0 (ts.forms u),
      subst (λ e. IsFormOn dec value q k e (expand c.0 (ts.forms u))) (one_expand (image u))
          (form_through dec dec q value value one (λ i. subst (IsLinearCombination dec value q) (sym (one_expand (value i))) (member_one dec value q i)) k l free free_l c.0 c.1 (image u) (ts.forms u) (ts.each u m)),
    ))
    r s
    (trace_same dec value q (λ t. expand image (one t)) image k r (λ t m. expand_one dec q image t) tr)
    (trace_same dec value q (λ u. expand one (image u)) image l s (λ u m t. ap (λ e. coef dec e t % suc q) (one_expand (image u))) ts)
