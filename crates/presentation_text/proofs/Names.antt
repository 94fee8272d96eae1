-- Names of generators, and their indices in a table.
use Rattle.std.proofs.Common.{◌≡◌, ◌<◌, ℕ, zero, suc, Bool, true, false, cond, List, [], ◌∷◌, length, get_or, Option, Some, None, sym, refl, ap, arith, ◌∙◌}
use Rattle.std.specs.Option.{IfNone, IfSome, is_some}
use Rattle.std.specs.List.{HoldsAt}
use Rattle.std.specs.Str.{bytes_eq}
use Rattle.std.proofs.lemmas.Slice.Eq.{bytes_eq-Decides}
use Rattle.symmetric_trees.specs.Generators.{IsNamed, IsTaken, IsTable}
use Rattle.symmetric_trees.specs.declared.generators.Generator.{Generator}
use Rattle.presentation_text.specs.LineReadings.{is_known}
use Rattle.presentation_text.specs.TreeReadings.{index_of, next_index}
use Rattle.presentation_text.proofs.TreeReadingsSteps.{index-none, index-some}

pub same_name : (a b : List ℕ) → a ≡ b → bytes_eq a b ≡ true
same_name a b e = (bytes_eq-Decides a b).1 e

pub not_true : (b : Bool) → (b ≡ true → ⊥) → b ≡ false
not_true true h = absurd (h refl)
not_true false h = refl

pub other_name : (a b : List ℕ) → (a ≡ b → ⊥) → bytes_eq a b ≡ false
other_name a b e = not_true (bytes_eq a b) (λ k. e ((bytes_eq-Decides a b).0 k))

-- the answer of a look-up by name
pub index_found : (generators : List Generator) (name : List ℕ) (found : Option ℕ) → IsTable generators
    → IfSome found (λ i. (i < length generators) × HoldsAt (IsNamed name) generators i) → IfNone found (IsTaken name generators → ⊥) → index_of name generators ≡ found
index_found generators name (Some i) table some none = index-some generators name i table some.0 some.1
index_found generators name None table some none = index-none generators name none

-- ---- names that are known

behind_known : (b : Bool) (found : Option ℕ) → is_some found ≡ true → is_some (cond b (Some 0) (next_index found)) ≡ true
behind_known true found h = refl
behind_known false None h = absurd cc
behind_known false (Some i) h = refl

known_at : (generators : List Generator) (name : List ℕ) (i : ℕ) (d : Generator) → i < length generators → (get_or generators i d).name ≡ name → is_known name generators ≡ true
known_at [] name i d l e = absurd (omega arith)
known_at (x ∷ xs) name zero d l e = let same : bytes_eq x.name name ≡ true = same_name x.name name e in rw same refl
known_at (x ∷ xs) name (suc i) d l e = behind_known (bytes_eq x.name name) (index_of name xs) (known_at xs name i d (omega arith) e)

-- a name that isn't known isn't taken
pub unknown_free : (generators : List Generator) (name : List ℕ) → is_known name generators ≡ false → IsTaken name generators → ⊥
unknown_free generators name unknown (i, x, l, e, named) =
    let known : is_known name generators ≡ true = known_at generators name i x l (ap (λ (g : Generator). g.name) e ∙ named) in
    let both : false ≡ true = sym unknown ∙ known in absurd cc
