-- Three words.
use Rattle.std.proofs.Common.{◌≡◌, ℕ, ◌+◌, ◌<◌, ◌≤◌, List, [], ◌∷◌, length, map, get_or, Option, Some, None, ap, ◌∙◌, arith, codes}
use Rattle.std.specs.Option.{IfSome}
use Rattle.operad_run.specs.Commands.{IsBound, IsForms}

pub three : {X : Type 0} (f : X → List ℕ) (ws : List X) (a b c : X) → 3 ≤ length ws → length ws < 4 → a ≡ get_or ws 0 a → b ≡ get_or ws 1 b → c ≡ get_or ws 2 c → map f ws ≡ f a ∷ (f b ∷ (f c ∷ []))
three f [] a b c l h p q r = absurd (omega arith)
three f (x ∷ []) a b c l h p q r = absurd (omega arith)
three f (x ∷ (y ∷ [])) a b c l h p q r = absurd (omega arith)
three f (x ∷ (y ∷ (z ∷ []))) a b c l h p q r = cc
three f (x ∷ (y ∷ (z ∷ (w ∷ ws)))) a b c l h p q r = absurd (omega arith)

-- the words of the command, where the second is a digit
pub is_forms : (ws : List (List ℕ)) (arity bound : List ℕ) (found : Option ℕ) → ws ≡ codes "forms" ∷ (arity ∷ (bound ∷ [])) → IsBound bound
    → IfSome found (λ n. (1 ≤ n) × (n ≤ 9) × (arity ≡ (48 + n) ∷ [])) → IfSome found (IsForms ws)
is_forms ws arity bound None e h d = tt
is_forms ws arity bound (Some n) e h d = record {
  bound = bound;
  words_are = e ∙ ap (λ w. codes "forms" ∷ (w ∷ (bound ∷ []))) d.2;
  low = d.0;
  high = d.1;
  bound_is = h;
}

-- one word
pub one_word : {X : Type 0} (f : X → List ℕ) (ws : List X) (a : X) → 1 ≤ length ws → length ws < 2 → a ≡ get_or ws 0 a → map f ws ≡ f a ∷ []
one_word f [] a l h e = absurd (omega arith)
one_word f (x ∷ []) a l h e = cc
one_word f (x ∷ (y ∷ ws)) a l h e = absurd (omega arith)
