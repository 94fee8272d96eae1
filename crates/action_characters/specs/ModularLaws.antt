-- The laws of forms and traces modulo a span.
use Rattle.std.specs.Prelude.{ℕ, ◌≡◌, List}
use Rattle.modular_sums.specs.Lists.{Mem}
use Rattle.modular_sums.specs.Sums.{Same, expand}
use Rattle.action_characters.specs.ModularTraces.{KeepsSpans, AreIndependent, IsFormOn, IsSpannedBy, IsLinearTrace}

-- On an independent list two forms of one sum are the same.
abbrev pub FormsOnIndependentLists : Type 0 → Type 0 → Type 0
FormsOnIndependentLists M I = (dec : Discrete M) (value : I → List (ℕ × M)) (q : ℕ) (l : List M) → AreIndependent dec value q l
    → (e f g : List (ℕ × M)) → IsFormOn dec value q l e f → IsFormOn dec value q l e g → Same dec q f g

-- Where the images of the monomials of a list have forms on the list, the linear map has a trace on it.
abbrev pub LinearTracesExist : Type 0 → Type 0 → Type 0
LinearTracesExist M I = (dec : Discrete M) (value : I → List (ℕ × M)) (q : ℕ) (image : M → List (ℕ × M)) (l : List M)
    → ((t : M) → Mem t l → (f : List (ℕ × M)) × IsFormOn dec value q l (image t) f)
    → (r : ℕ) × IsLinearTrace dec value q image l r

-- Two linear maps that keep the spans, there from the first list to the second and back from the second to the first, where
-- both lists are independent: the trace of there and back is the trace of back and there.
abbrev pub TracesCommute : Type 0 → Type 0 → Type 0 → Type 0 → Type 0
TracesCommute M N I J = (decm : Discrete M) (decn : Discrete N) (q : ℕ) (value : I → List (ℕ × M)) (other : J → List (ℕ × N))
    (there : M → List (ℕ × N)) (back : N → List (ℕ × M)) → KeepsSpans decn q value other there → KeepsSpans decm q other value back
    → (k : List M) (l : List N) → AreIndependent decm value q k → AreIndependent decn other q l
    → ((t : M) → Mem t k → (f : List (ℕ × N)) × IsFormOn decn other q l (there t) f)
    → ((u : N) → Mem u l → (f : List (ℕ × M)) × IsFormOn decm value q k (back u) f)
    → (r s : ℕ) → IsLinearTrace decm value q (λ t. expand back (there t)) k r → IsLinearTrace decn other q (λ u. expand there (back u)) l s → r ≡ s

-- A linear map that keeps the span has one trace on any two independent lists of which each is spanned by the other:
-- the trace doesn't depend on the basis.
abbrev pub BasesAgree : Type 0 → Type 0 → Type 0
BasesAgree M I = (dec : Discrete M) (value : I → List (ℕ × M)) (q : ℕ) (image : M → List (ℕ × M)) → KeepsSpans dec q value value image
    → (k l : List M) → AreIndependent dec value q k → AreIndependent dec value q l → IsSpannedBy dec value q k l → IsSpannedBy dec value q l k
    → (r s : ℕ) → IsLinearTrace dec value q image k r → IsLinearTrace dec value q image l s → r ≡ s
