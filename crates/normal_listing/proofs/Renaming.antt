-- Other symbols in place of those of a word, one after the other.
use Rattle.std.proofs.Common.{◌≡◌, ℕ, zero, suc, ◌+◌, ◌-◌, ◌*◌, ◌/◌, ◌^◌, ◌<◌, ◌≤◌, List, [], ◌∷◌, length, map, drop, refl, ap, ap₂, sym, ◌∙◌, subst, arith}
use Rattle.std.specs.List.{AllByRecursion}
use Rattle.std.proofs.Math.Nat.{pow-succ', mul-div_cancel_left}
use Rattle.std.proofs.lemmas.List.{length-map}
use Rattle.normal_listing.specs.Places.{IsSymbol, at_places, IsShortWord, number_of}
use Rattle.normal_listing.proofs.Places.{word_small, at_none}

abbrev KeepsSymbols : (ℕ → ℕ) → Type 0
KeepsSymbols f = (s : ℕ) → IsSymbol s → IsSymbol (f s)

are_symbols : (f : ℕ → ℕ) (l : List ℕ) → KeepsSymbols f → AllByRecursion IsSymbol l → AllByRecursion IsSymbol (map f l)
are_symbols f [] k h = tt
are_symbols f (s ∷ l) k h = (k s h.0, are_symbols f l k h.1)

length_map : (f : ℕ → ℕ) (l : List ℕ) → length (map f l) ≡ length l
length_map f [] = refl
length_map f (s ∷ l) = ap suc (length_map f l)

pub renamed_word : (f : ℕ → ℕ) (l : List ℕ) → KeepsSymbols f → IsShortWord l → IsShortWord (map f l)
renamed_word f l k h = let few = h.few in let e = length_map f l in record { few = omega (arith, few, e); symbols = are_symbols f l k h.symbols }

-- So many symbols are renamed, and stand in the bits; these symbols are left.
pub record IsRenaming (f : ℕ → ℕ) (whole : List ℕ) (at bits place : ℕ) (left : List ℕ) : Type 0 where
  pub power : at < 25 → place ≡ 32 ^ (24 - at)
  pub sum : bits + at_places (25 - at) (map f left) ≡ number_of (map f whole)
  pub count : length left + at ≡ length whole

pub begins : (f : ℕ → ℕ) (whole : List ℕ) → IsRenaming f whole 0 0 (2 ^ 120) whole
unfolding number_of
begins f whole = record { power = λ h. refl; sum = plus (at_places 25 (map f whole)); count = omega arith }
  where
    plus : (n : ℕ) → 0 + n ≡ n
    plus n = omega arith

-- the first symbol that is left
pub record IsFirst (left : List ℕ) (first : ℕ) : Type 0 where
  pub symbol : IsSymbol first
  pub left_is : left ≡ first ∷ drop 1 left

pub first_left : (left : List ℕ) (first : ℕ) → 0 < length left → IsShortWord left → ((s : ℕ) (l : List ℕ) → left ≡ s ∷ l → first ≡ s) → IsFirst left first
first_left [] first n h is = absurd (omega (arith, n))
first_left (s ∷ l) first n h is = let e : first ≡ s = is s l refl in record { symbol = subst IsSymbol (sym e) h.symbols.0; left_is = ap (λ x. x ∷ l) (sym e) }

module _ (f : ℕ → ℕ) (whole : List ℕ) (at bits place : ℕ) (left : List ℕ) (first : ℕ) where
  -- the sum with the next symbol apart
  next_sum : IsRenaming f whole at bits place left → IsFirst left first → at < 25 → bits + (f first * place + at_places (24 - at) (map f (drop 1 left))) ≡ number_of (map f whole)
  next_sum r i h =
      let more : 25 - at ≡ suc (24 - at) = omega (arith, h) in
      ap (λ p. bits + (f first * p + at_places (24 - at) (map f (drop 1 left)))) (r.power h)
      ∙ sym (ap₂ (λ k l. bits + at_places k (map f l)) more i.left_is) ∙ r.sum

  pub product_small : IsRenaming f whole at bits place left → IsFirst left first → at < 25 → IsShortWord (map f whole) → f first * place < 2 ^ 128
  product_small r i h w = let e = next_sum r i h in let small = word_small (map f whole) w in omega (arith, e, small)

  pub sum_small : IsRenaming f whole at bits place left → IsFirst left first → at < 25 → IsShortWord (map f whole) → bits + f first * place < 2 ^ 128
  sum_small r i h w = let e = next_sum r i h in let small = word_small (map f whole) w in omega (arith, e, small)

  pub goes_on : IsRenaming f whole at bits place left → IsFirst left first → at < 25 → IsRenaming f whole (at + 1) (bits + f first * place) (place / 32) (drop 1 left)
  goes_on r i h =
      let e = next_sum r i h in
      let fewer : 25 - (at + 1) ≡ 24 - at = omega arith in
      let count = r.count in
      let shorter = ap length i.left_is in
      record {
        power = λ g.
            let more : 24 - at ≡ suc (24 - (at + 1)) = omega (arith, g) in
            ap (λ p. p / 32) (r.power h ∙ ap (λ k. 32 ^ k) more ∙ pow-succ' 32 (24 - (at + 1))) ∙ mul-div_cancel_left (32 ^ (24 - (at + 1))) (omega arith);
        sum = ap (λ k. (bits + f first * place) + at_places k (map f (drop 1 left))) fewer ∙ regroup bits (f first * place) (at_places (24 - at) (map f (drop 1 left))) ∙ e;
        count = omega (arith, count, shorter);
      }
    where
      regroup : (a b c : ℕ) → (a + b) + c ≡ a + (b + c)
      regroup a b c = omega arith

pub ends : (f : ℕ → ℕ) (whole : List ℕ) (at bits place : ℕ) (left : List ℕ) → IsRenaming f whole at bits place left → length whole ≤ at → bits ≡ number_of (map f whole)
ends f whole at bits place [] r h = let e = at_none (25 - at) in let s = r.sum in sym (plus bits) ∙ ap (λ n. bits + n) (sym e) ∙ s
  where
    plus : (n : ℕ) → n + 0 ≡ n
    plus n = omega arith
ends f whole at bits place (s ∷ left) r h = let count = r.count in absurd (omega (arith, count, h))
