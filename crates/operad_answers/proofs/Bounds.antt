-- Budgets that are paid, and limits.
use Rattle.std.proofs.Common.{◌≡◌, ℕ, zero, suc, ◌<◌, List, [], ◌∷◌, map, sym, ◌∙◌, ap, arith, subst}
use Rattle.std.specs.Prelude.{◌++◌}
use native.Mathlib.Decide.{dec_lt}
use Rattle.std.specs.List.{All}
use Rattle.modular_sums.specs.Lists.{Nth}
use Rattle.shuffle_completion.proofs.Laws.{complete_is_reduced}
use Rattle.presentation_text.specs.declared.document.Ask.{Ask}
use Rattle.presentation_text.specs.declared.document.Document.{Document}
use Rattle.operad_answers.specs.OrderedPresentations.{presentation, comparison, written, asks_of}
use Rattle.operad_answers.specs.Commands.{trees_fault, query_fault}
use Rattle.operad_answers.specs.Limits.{IsAskWithin, IsFirstWithTooManyTrees, IsFirstOfGreaterArity}
use Rattle.operad_answers.specs.Budgets.{question_of}
use Rattle.operad_answers.specs.Laws.{CountedRunsPay, LimitLaw, LimitsExclude}
use Rattle.operad_answers.proofs.WellFormed.{writable_well_formed, well_formed_over_field, order_in}

-- ---- budgets

pub nth_map : {X Y : Type 0} (f : X → Y) (k : ℕ) (l : List X) (x : X) → Nth k l x → Nth k (map f l) (f x)
nth_map f k [] x h = absurd h
nth_map f zero (y ∷ l) x h = absurd h
nth_map f (suc zero) (y ∷ l) x h = ap f h
nth_map f (suc (suc k)) (y ∷ l) x h = nth_map f (suc k) l x h

pub counted_runs_pay : CountedRunsPay
counted_runs_pay d formed N B elements complete calls count full few command items =
    let o = written d in
    let field = well_formed_over_field o (writable_well_formed d formed) in
    record {
      basis = elements;
      is_basis = complete_is_reduced (presentation o) field.sound field.wide field.not_zero (comparison o) (order_in o) elements N complete;
      run = full.run;
      full = full.full;
      answered = λ k ask at is two most. items k ask at is (nth_map (question_of d.field) k (asks_of d) ask at) two most;
      few = let c = full.counted in omega (arith, c, few);
    }

-- ---- the first of a list that fails

pub in_the_middle : {X : Type 0} (P : X → Type 0) (front others : List X) (x : X) → All P (front ++ x ∷ others) → P x
in_the_middle P [] others x h = h 0 x (omega arith)
in_the_middle P (y ∷ front) others x h = in_the_middle P front others x (λ k d l. h (suc k) d (omega (arith, l)))

pub first_alike : {X : Type 0} (P : X → Type 0) (front others before behind : List X) (x y : X) → front ++ x ∷ others ≡ before ++ y ∷ behind
    → All P front → All P before → (P x → ⊥) → (P y → ⊥) → x ≡ y
first_alike P [] others [] behind x y e a b f g = cc
first_alike P [] others (z ∷ before) behind x y e a b f g =
    let same : x ≡ z = cc in absurd (f (subst P (sym same) (b 0 z (omega arith))))
first_alike P (z ∷ front) others [] behind x y e a b f g =
    let same : z ≡ y = cc in absurd (g (subst P same (a 0 z (omega arith))))
first_alike P (z ∷ front) others (w ∷ before) behind x y e a b f g =
    let rest : front ++ x ∷ others ≡ before ++ y ∷ behind = cc in
    first_alike P front others before behind x y rest (λ k d l. a (suc k) d (omega (arith, l))) (λ k d l. b (suc k) d (omega (arith, l))) f g

-- ---- the first question of a greater arity

module _ (N : ℕ) (asks : List Ask) where
  pub one_number : (m n : ℕ) → IsFirstOfGreaterArity N asks m → IsFirstOfGreaterArity N asks n → m ≡ n
  one_number m n a b =
      a.number_is ∙ ap (λ ask. ask.line) (first_alike (λ ask. IsAskWithin N ask.kind) a.front a.others b.front b.others a.ask b.ask (sym a.asks_are ∙ b.asks_are) a.within b.within a.greater b.greater) ∙ sym b.number_is

  pub none_greater : (number : ℕ) → All (λ ask. IsAskWithin N ask.kind) asks → IsFirstOfGreaterArity N asks number → ⊥
  none_greater number all h = h.greater (in_the_middle (λ ask. IsAskWithin N ask.kind) h.front h.others h.ask (subst (All (λ ask. IsAskWithin N ask.kind)) h.asks_are all))

-- ---- limits

module _ (d : Document) (N : ℕ) where
  one_arity : (m n : ℕ) → IsFirstWithTooManyTrees d N m → IsFirstWithTooManyTrees d N n → m ≡ n
  one_arity m n a b = go (dec_lt m n) (dec_lt n m)
    where
      go : Dec (m < n) → Dec (n < m) → m ≡ n
      go (yes lt) e = let low = b.before m a.from_one lt in let high = a.too_many in absurd (omega (arith, low, high))
      go (no f) (yes lt) = let low = a.before n b.from_one lt in let high = b.too_many in absurd (omega (arith, low, high))
      go (no f) (no g) = omega (arith, f, g)

  pub limit_law : LimitLaw d N
  limit_law = record {
    one_too_many = λ text other a b. a.text_is ∙ ap trees_fault (one_arity a.arity b.arity a.first b.first) ∙ sym b.text_is;
    one_greater = λ text other a b. a.text_is ∙ ap query_fault (one_number N d.asks a.number b.number a.first b.first) ∙ sym b.text_is;
    not_too_many = λ text a u. let low = u a.arity a.first.from_one a.first.to_most in let high = a.first.too_many in omega (arith, low, high);
    not_greater = λ text a w. none_greater N d.asks a.number w.asks a.first;
  }

pub limits_exclude : LimitsExclude
limits_exclude = limit_law
