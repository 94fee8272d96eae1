-- The text of the line of a use.
use Rattle.std.proofs.Common.{◌≡◌, ℕ, List, [], ◌∷◌, ◌++◌, codes, append_assoc, ap, sym, ◌∙◌, refl}
use Rattle.presentation_text.specs.DocumentText.{blank_before, line_of}

pub blank_before-append : (words others : List (List ℕ)) → blank_before (words ++ others) ≡ blank_before words ++ blank_before others
blank_before-append [] others = refl
blank_before-append (word ∷ words) others = ap (λ text. 32 ∷ text) (ap (λ text. word ++ text) (blank_before-append words others) ∙ sym (append_assoc word (blank_before words) (blank_before others)))

-- the line grows by its pieces
pub use_grown : (old o1 o2 o3 o4 o5 o6 o7 new coef context : List ℕ) (rule inputs : List (List ℕ)) → o1 ≡ old ++ codes "use " → o2 ≡ o1 ++ coef → o3 ≡ o2 ++ codes " ; " → o4 ≡ o3 ++ context
    → o5 ≡ o4 ++ codes " ;" → o6 ≡ o5 ++ blank_before rule → o7 ≡ o6 ++ blank_before inputs → new ≡ o7 ++ 10 ∷ []
    → new ≡ old ++ line_of (codes "use") (coef ∷ (codes ";" ∷ (context ∷ (codes ";" ∷ (rule ++ inputs)))))
use_grown old o1 o2 o3 o4 o5 o6 o7 new coef context rule inputs e1 e2 e3 e4 e5 e6 e7 e8 =
    let front = blank_before rule in
    let back = blank_before inputs in
    let end : (context ++ 32 ∷ 59 ∷ (front ++ back)) ++ 10 ∷ [] ≡ context ++ 32 ∷ 59 ∷ (front ++ (back ++ 10 ∷ [])) =
    append_assoc context (32 ∷ 59 ∷ (front ++ back)) (10 ∷ []) ∙ ap (λ text. context ++ 32 ∷ 59 ∷ text) (append_assoc front back (10 ∷ [])) in
    let whole : (coef ++ 32 ∷ 59 ∷ 32 ∷ (context ++ 32 ∷ 59 ∷ (front ++ back))) ++ 10 ∷ [] ≡ coef ++ 32 ∷ 59 ∷ 32 ∷ (context ++ 32 ∷ 59 ∷ (front ++ (back ++ 10 ∷ []))) =
    append_assoc coef (32 ∷ 59 ∷ 32 ∷ (context ++ 32 ∷ 59 ∷ (front ++ back))) (10 ∷ []) ∙ ap (λ text. coef ++ 32 ∷ 59 ∷ 32 ∷ text) end in
    rw (e8, e7, e6, e5, e4, e3, e2, e1, blank_before-append rule inputs) (simp append_assoc (sym (ap (λ text. old ++ 117 ∷ 115 ∷ 101 ∷ 32 ∷ text) whole)))
