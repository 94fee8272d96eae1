-- Choices, one after the other.
use Rattle.std.proofs.Common.{◌≡◌, ℕ, ◌+◌, ◌-◌, ◌<◌, ◌≤◌, zero, suc, List, [], ◌∷◌, Bool, length, map, take, refl, sym, ◌∙◌, ap, subst, arith, get_or, append_assoc, inl, inr}
use mathlib.Core.List.{◌++◌}
use mathlib.Core.Path.{ap₂}
use Rattle.std.specs.List.{flat_map}
use Rattle.std.proofs.lemmas.List.{take_more, take_all, get_or-map}
use Rattle.std.proofs.lemmas.Grind.{flat_map-append}
use Rattle.modular_sums.specs.Lists.{Mem}
use Rattle.modular_sums.proofs.Lists.{mem_left, mem_right}
use Rattle.normal_listing.specs.declared.found.Found.{Found}
use Rattle.normal_listing.specs.declared.parts.Part.{Part}
use Rattle.normal_listing.specs.Choices.{choices, each_before, entry}
use Rattle.normal_listing.specs.Found.{AddsChosen}
use Rattle.normal_listing.proofs.Adding.{adds_both, map_joined}
use Rattle.shuffle_normal_forms.proofs.Filters.{nothing_behind}

pub mem_entry : {X : Type 0} (xs : List X) (at : ℕ) (x : X) → at < length xs → x ≡ get_or xs at x → Mem x xs
mem_entry [] at x h e = absurd (omega arith)
mem_entry (y ∷ xs) zero x h e = inl e
mem_entry (y ∷ xs) (suc at) x h e = inr (mem_entry xs at x (omega arith) e)

pub mem_joined : {X Y : Type 0} (F : X → List Y) (xs : List X) (x : X) (y : Y) → Mem x xs → Mem y (F x) → Mem y (flat_map F xs)
mem_joined F [] x y n m = absurd n
mem_joined F (z ∷ xs) x y (inl e) m = mem_left y (F z) (flat_map F xs) (subst (λ w. Mem y (F w)) e m)
mem_joined F (z ∷ xs) x y (inr n) m = mem_right y (F z) (flat_map F xs) (mem_joined F xs x y n m)

pub mem_map : {X Y : Type 0} (f : X → Y) (xs : List X) (x : X) → Mem x xs → Mem (f x) (map f xs)
mem_map f [] x n = absurd n
mem_map f (z ∷ xs) x (inl e) = inl (ap f e)
mem_map f (z ∷ xs) x (inr n) = inr (mem_map f xs x n)

-- ---- the choices by their number

module _ {X : Type 0} (on : List (List X)) (parted : List (List Part)) where
  abbrev pub from_part : ℕ → Part → List (List X)
  from_part count p = each_before (entry on p.own) (choices on parted count p.others)

  pub choices_none : (count set : ℕ) → count ≡ 0 → choices on parted count set ≡ [] ∷ []
  choices_none zero set e = refl
  choices_none (suc count) set e = absurd (omega (arith, e))

  pub choices_one : (count set : ℕ) → count ≡ 1 → choices on parted count set ≡ from_part 0 (record { own = set; others = 0 })
  choices_one zero set e = absurd (omega (arith, e))
  choices_one (suc zero) set e = refl
  choices_one (suc (suc k)) set e = absurd (omega (arith, e))

  pub choices_more : (count set : ℕ) → 2 ≤ count → choices on parted count set ≡ flat_map (from_part (count - 1)) (entry parted set)
  choices_more zero set h = absurd (omega arith)
  choices_more (suc zero) set h = absurd (omega arith)
  choices_more (suc (suc k)) set h = let e : suc (suc k) - 1 ≡ suc k = omega arith in ap (λ m. flat_map (from_part m) (entry parted set)) (sym e)

-- ---- what was found among them

module _ (test : List ℕ → Bool) (word : List ℕ → List ℕ) where
  pub next_found : {X : Type 0} (f : List ℕ → List ℕ) (F : X → List (List ℕ)) (xs : List X) (at : ℕ) (x : X) (a b c : Found) → at < length xs → x ≡ get_or xs at x
      → AddsChosen test word (map f (flat_map F (take at xs))) a b → AddsChosen test word (map f (F x)) b c → AddsChosen test word (map f (flat_map F (take (at + 1) xs))) a c
  next_found f F xs at x a b c h e g k =
      subst (λ l. AddsChosen test word l a c)
      (sym (map_joined f (flat_map F (take at xs)) (F x))
      ∙ ap (map f) (ap (λ y. flat_map F (take at xs) ++ F y) e ∙ ap (λ l. flat_map F (take at xs) ++ l) (sym (nothing_behind (F (get_or xs at x))))
      ∙ sym (flat_map-append F (take at xs) (get_or xs at x ∷ [])) ∙ ap (flat_map F) (sym (take_more xs at x h))))
      (adds_both test word (map f (flat_map F (take at xs))) (map f (F x)) a b c g k)

  pub all_found : {X : Type 0} (f : List ℕ → List ℕ) (F : X → List (List ℕ)) (xs : List X) (at : ℕ) (l : List (List ℕ)) (a b : Found) → length xs ≤ at → l ≡ flat_map F xs
      → AddsChosen test word (map f (flat_map F (take at xs))) a b → AddsChosen test word (map f l) a b
  all_found f F xs at l a b h e g = subst (λ m. AddsChosen test word (map f m) a b) (ap (flat_map F) (take_all at xs h) ∙ sym e) g

-- ---- one more input

pub one_more : (ids : List ℕ) (id : ℕ) (rs : List (List ℕ)) → map (λ l. (ids ++ (id ∷ [])) ++ l) rs ≡ map (λ l. ids ++ l) (map (λ l. id ∷ l) rs)
one_more ids id [] = refl
one_more ids id (r ∷ rs) = ap₂ (λ x xs. x ∷ xs) (append_assoc ids (id ∷ []) r) (one_more ids id rs)

pub last_off : {X : Type 0} (xs ys : List X) (x y : X) → xs ++ (x ∷ []) ≡ ys ++ (y ∷ []) → ys ≡ xs
last_off [] [] x y e = refl
last_off [] (z ∷ []) x y e = absurd (cc e)
last_off [] (z ∷ (w ∷ ys)) x y e = absurd (cc e)
last_off (a ∷ []) [] x y e = absurd (cc e)
last_off (a ∷ (b ∷ xs)) [] x y e = absurd (cc e)
last_off (a ∷ xs) (b ∷ ys) x y e =
    let h : a ≡ b = cc e in
    let t : xs ++ (x ∷ []) ≡ ys ++ (y ∷ []) = cc e in
    ap₂ (λ p ps. p ∷ ps) (sym h) (last_off xs ys x y t)

-- the words stay those of the trees
pub words_more : (sp : ℕ → List ℕ) (ids : List ℕ) (words : List (List ℕ)) (at id : ℕ) (word : List ℕ) → words ≡ map sp ids → at < length ids → id ≡ get_or ids at id → word ≡ get_or words at word
    → (old : List ℕ) (olds : List (List ℕ)) (new : List ℕ) (news : List (List ℕ)) → olds ≡ map sp old → new ≡ old ++ (id ∷ []) → news ≡ olds ++ (word ∷ []) → news ≡ map sp new
words_more sp ids words at id word e h i w old olds new news o n m =
    m ∙ ap₂ (λ a b. a ++ (b ∷ [])) o (w ∙ ap (λ ws. get_or ws at word) e ∙ get_or-map sp ids at id word h ∙ ap sp (sym i))
    ∙ sym (map_joined sp old (id ∷ [])) ∙ ap (map sp) (sym n)
