-- What is found in one list of choices after the other.
use Rattle.std.proofs.Common.{◌≡◌, ℕ, List, [], ◌∷◌, Bool, true, false, cond, map, refl, sym, ◌∙◌, ap, append_assoc}
use mathlib.Core.List.{◌++◌}
use Rattle.std.specs.List.{concat, filter}
use Rattle.shuffle_normal_forms.proofs.Filters.{filter-append, nothing_behind}
use Rattle.normal_listing.specs.declared.found.Found.{Found}
use Rattle.normal_listing.specs.Found.{AddsChosen}

pub concat-append : (k l : List (List ℕ)) → concat (k ++ l) ≡ concat k ++ concat l
concat-append [] l = refl
concat-append (x ∷ k) l = ap (λ m. x ++ m) (concat-append k l) ∙ sym (append_assoc x (concat k) (concat l))

pub map_joined : {X Y : Type 0} (f : X → Y) (k l : List X) → map f (k ++ l) ≡ map f k ++ map f l
map_joined f [] l = refl
map_joined f (x ∷ k) l = ap (λ m. f x ∷ m) (map_joined f k l)

module _ (test : List ℕ → Bool) (word : List ℕ → List ℕ) where
  pub adds_none : (a : Found) → AddsChosen test word [] a a
  adds_none a = record { inputs = sym (nothing_behind a.inputs); words = sym (nothing_behind a.words) }

  pub adds_both : (k l : List (List ℕ)) (a b c : Found) → AddsChosen test word k a b → AddsChosen test word l b c → AddsChosen test word (k ++ l) a c
  adds_both k l a b c g h = record {
    inputs =
        h.inputs ∙ ap (λ m. m ++ concat (filter test l)) g.inputs ∙ append_assoc a.inputs (concat (filter test k)) (concat (filter test l))
        ∙ ap (λ m. a.inputs ++ m) (sym (concat-append (filter test k) (filter test l)) ∙ ap concat (sym (filter-append test k l)));
    words =
        h.words ∙ ap (λ m. m ++ map word (filter test l)) g.words ∙ append_assoc a.words (map word (filter test k)) (map word (filter test l))
        ∙ ap (λ m. a.words ++ m) (sym (map_joined word (filter test k) (filter test l)) ∙ ap (map word) (sym (filter-append test k l)));
  }

  pub adds_one : (ids : List ℕ) (a b : Found) → test ids ≡ true → b.inputs ≡ a.inputs ++ ids → b.words ≡ a.words ++ (word ids ∷ []) → AddsChosen test word (ids ∷ []) a b
  adds_one ids a b e i w = record {
    inputs = i ∙ ap (λ m. a.inputs ++ m) (sym (nothing_behind ids) ∙ ap (λ v. concat (cond v (ids ∷ []) [])) (sym e));
    words = w ∙ ap (λ m. a.words ++ m) (ap (λ v. map word (cond v (ids ∷ []) [])) (sym e));
  }

  pub adds_no : (ids : List ℕ) (a : Found) → test ids ≡ false → AddsChosen test word (ids ∷ []) a a
  adds_no ids a e = record {
    inputs = sym (nothing_behind a.inputs) ∙ ap (λ v. a.inputs ++ concat (cond v (ids ∷ []) [])) (sym e);
    words = sym (nothing_behind a.words) ∙ ap (λ v. a.words ++ map word (cond v (ids ∷ []) [])) (sym e);
  }
