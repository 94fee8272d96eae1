-- The words of a generator stand in their list at the places that their digits give.
use Rattle.std.proofs.Common.{◌≡◌, ℕ, zero, suc, ◌+◌, ◌-◌, ◌<◌, ◌≤◌, Bool, List, [], ◌∷◌, ◌++◌, length, map, drop, get_or, refl, sym, ap, ap₂, ◌∙◌, subst, arith, length-append, length-drop}
use Rattle.std.specs.List.{AllByRecursion}
use Rattle.std.proofs.Math.ListN.{length-map, get_or-append}
use Rattle.std.proofs.lemmas.List.{get_or-append-add, get_or-drop}
use Rattle.std.proofs.lemmas.List as lists
use Rattle.operad_ideals.proofs.SortedLists.{every_drop}
use Rattle.shuffle_transfer.specs.Orderings.{Pick, behind, picks}
use Rattle.shuffle_passage.specs.Words.{first_place, sum_from, endings, word_number, without, chosen}

-- the digits of words with these bounds
abbrev pub AreDigits : List Bool → ℕ → List ℕ → Type 0
AreDigits [] below [] = Unit {0}
AreDigits [] below (d ∷ ds) = ⊥
AreDigits (b ∷ bs) below [] = ⊥
AreDigits (b ∷ bs) below (d ∷ ds) = (first_place b below ≤ d) × (d ≤ length bs) × AreDigits bs d ds

-- the words that begin with each pick in turn, where f has the rests by the pick's place and the numbers left
abbrev pub each_from : (ℕ → List ℕ → List (List ℕ)) → ℕ → List Pick → List (List ℕ)
each_from f i [] = []
each_from f i (p ∷ l) = map (λ w. p.first ∷ w) (f i p.others) ++ each_from f (suc i) l

-- the words over the numbers l with these bounds, where so many of l are below the last number
abbrev pub bounded_words : List Bool → ℕ → List ℕ → List (List ℕ)
bounded_words [] below l = [] ∷ []
bounded_words (b ∷ bs) below l = each_from (bounded_words bs) (first_place b below) (drop (first_place b below) (picks l))

-- ---- picks

abbrev pub Leave : ℕ → Pick → Type 0
Leave n p = length p.others ≡ n

behind_leave : (x n : ℕ) (l : List Pick) → AllByRecursion (Leave n) l → AllByRecursion (Leave (suc n)) (behind x l)
behind_leave x n [] h = tt
behind_leave x n (p ∷ l) h = (ap suc h.0, behind_leave x n l h.1)

pub picks_leave : (l : List ℕ) (n : ℕ) → length l ≡ suc n → AllByRecursion (Leave n) (picks l)
picks_leave [] n e = tt
picks_leave (x ∷ []) n e = (let k : 0 ≡ n = omega (arith, e) in k, tt)
picks_leave (x ∷ (y ∷ l)) zero e = absurd (omega (arith, e))
picks_leave (x ∷ (y ∷ l)) (suc n) e = (let k : length (y ∷ l) ≡ suc n = omega (arith, e) in k, behind_leave x n (picks (y ∷ l)) (picks_leave (y ∷ l) n (omega (arith, e))))

length-behind : (x : ℕ) (l : List Pick) → length (behind x l) ≡ length l
length-behind x [] = refl
length-behind x (p ∷ l) = ap suc (length-behind x l)

pub length-picks : (l : List ℕ) → length (picks l) ≡ length l
length-picks [] = refl
length-picks (x ∷ l) = ap suc (length-behind x (picks l) ∙ length-picks l)

get_or-behind : (x : ℕ) (l : List Pick) (d : ℕ) (e : Pick) → d < length l
    → get_or (behind x l) d e ≡ record { first = (get_or l d e).first; others = x ∷ (get_or l d e).others }
get_or-behind x [] d e h = absurd (omega (arith, h))
get_or-behind x (p ∷ l) zero e h = refl
get_or-behind x (p ∷ l) (suc d) e h = get_or-behind x l d e (omega (arith, h))

-- the pick at a place
pub get_or-picks : (l : List ℕ) (d : ℕ) (e : Pick) → d < length l → get_or (picks l) d e ≡ record { first = get_or l d 0; others = without l d }
get_or-picks [] d e h = absurd (omega (arith, h))
get_or-picks (x ∷ l) zero e h = refl
get_or-picks (x ∷ l) (suc d) e h =
    get_or-behind x (picks l) d e (let n = length-picks l in omega (arith, h, n)) ∙ ap (λ p. record { first = p.first; others = x ∷ p.others }) (get_or-picks l d e (omega (arith, h)))

-- ---- how many words there are

module _ (f : ℕ → List ℕ → List (List ℕ)) (g : ℕ → ℕ) (n : ℕ) (sized : (i : ℕ) (l : List ℕ) → length l ≡ n → length (f i l) ≡ g i) where
  length-each_from : (i : ℕ) (l : List Pick) → AllByRecursion (Leave n) l → length (each_from f i l) ≡ sum_from g i (length l)
  length-each_from i [] h = refl
  length-each_from i (p ∷ l) h =
      length-append (map (λ w. p.first ∷ w) (f i p.others)) (each_from f (suc i) l)
      ∙ ap₂ (λ a b. a + b) (length-map (f i p.others) (λ w. p.first ∷ w) ∙ sized i p.others h.0) (length-each_from (suc i) l h.1)

  -- the word at a place
  get_or-each_from : (i : ℕ) (l : List Pick) → AllByRecursion (Leave n) l → (m k : ℕ) (e : List ℕ) (d : Pick) → m < length l → k < g (i + m)
      → get_or (each_from f i l) (sum_from g i m + k) e ≡ (get_or l m d).first ∷ get_or (f (i + m) (get_or l m d).others) k e
  get_or-each_from i [] h m k e d lt below = absurd (omega (arith, lt))
  get_or-each_from i (p ∷ l) h zero k e d lt below =
      let here : i + 0 ≡ i = omega arith in
      let size : length (f i p.others) ≡ g i = sized i p.others h.0 in
      let in_first : k < length (f i p.others) = let b = subst (λ j. k < g j) here below in omega (arith, size, b) in
      let none : 0 + k ≡ k = omega arith in
      ap (λ q. get_or (each_from f i (p ∷ l)) q e) none
      ∙ get_or-append (map (λ w. p.first ∷ w) (f i p.others)) (each_from f (suc i) l) e k (let s = length-map (f i p.others) (λ w. p.first ∷ w) in omega (arith, s, in_first))
      ∙ lists.get_or-map (λ w. p.first ∷ w) (f i p.others) k e e in_first
      ∙ ap (λ j. p.first ∷ get_or (f j p.others) k e) (sym here)
  get_or-each_from i (p ∷ l) h (suc m) k e d lt below =
      let next : suc i + m ≡ i + suc m = omega arith in
      let size : length (map (λ w. p.first ∷ w) (f i p.others)) ≡ g i = length-map (f i p.others) (λ w. p.first ∷ w) ∙ sized i p.others h.0 in
      let past : g i + sum_from g (suc i) m + k ≡ length (map (λ w. p.first ∷ w) (f i p.others)) + (sum_from g (suc i) m + k) = omega (arith, size) in
      ap (λ q. get_or (map (λ w. p.first ∷ w) (f i p.others) ++ each_from f (suc i) l) q e) past
      ∙ get_or-append-add (map (λ w. p.first ∷ w) (f i p.others)) (each_from f (suc i) l) (sum_from g (suc i) m + k) e
      ∙ get_or-each_from (suc i) l h.1 m k e d (omega (arith, lt)) (subst (λ j. k < g j) (sym next) below)
      ∙ ap (λ j. (get_or l m d).first ∷ get_or (f j (get_or l m d).others) k e) next

pub length-bounded_words : (bs : List Bool) (below : ℕ) (l : List ℕ) → length l ≡ length bs → length (bounded_words bs below l) ≡ endings bs below
length-bounded_words [] below l e = refl
length-bounded_words (b ∷ bs) below l e =
    length-each_from (bounded_words bs) (endings bs) (length bs) (length-bounded_words bs) (first_place b below) (drop (first_place b below) (picks l))
    (every_drop (Leave (length bs)) (first_place b below) (picks l) (picks_leave l (length bs) e))
    ∙ ap (sum_from (endings bs) (first_place b below)) (length-drop (first_place b below) (picks l) ∙ ap (λ n. n - first_place b below) (length-picks l ∙ e))

-- ---- numbers of words

sum_from-split : (f : ℕ → ℕ) (a m n : ℕ) → m < n → sum_from f a m + f (a + m) ≤ sum_from f a n
sum_from-split f a zero zero h = absurd (omega (arith, h))
sum_from-split f a zero (suc n) h = let e : a + 0 ≡ a = omega arith in let k : f (a + 0) ≡ f a = ap f e in omega (arith, k)
sum_from-split f a (suc m) zero h = absurd (omega (arith, h))
sum_from-split f a (suc m) (suc n) h =
    let k = sum_from-split f (suc a) m n (omega (arith, h)) in
    let e : suc a + m ≡ a + suc m = omega arith in
    let q : f (suc a + m) ≡ f (a + suc m) = ap f e in omega (arith, k, q)

-- the number of a word is below the number of words
pub word_number-below : (bs : List Bool) (below : ℕ) (ds : List ℕ) → AreDigits bs below ds → word_number bs below ds < endings bs below
word_number-below [] below [] h = omega arith
word_number-below [] below (d ∷ ds) h = absurd h
word_number-below (b ∷ bs) below [] h = absurd h
word_number-below (b ∷ bs) below (d ∷ ds) h =
    let a = first_place b below in
    let inner = word_number-below bs d ds h.2 in
    let e : a + (d - a) ≡ d = omega (arith, h.0) in
    let q : endings bs (a + (d - a)) ≡ endings bs d = ap (endings bs) e in
    let k = sum_from-split (endings bs) a (d - a) (suc (length bs) - a) (omega (arith, h.0, h.1)) in
    omega (arith, inner, q, k)

pub length-without : {X : Type 0} (l : List X) (d : ℕ) → d < length l → suc (length (without l d)) ≡ length l
length-without [] d h = absurd (omega (arith, h))
length-without (x ∷ l) zero h = refl
length-without (x ∷ l) (suc d) h = ap suc (length-without l d (omega (arith, h)))

-- the word that the digits choose stands in the list at its number
pub word_at : (bs : List Bool) (below : ℕ) (l ds e : List ℕ) → length l ≡ length bs → AreDigits bs below ds → get_or (bounded_words bs below l) (word_number bs below ds) e ≡ chosen 0 l ds
word_at [] below l [] e s h = refl
word_at [] below l (d ∷ ds) e s h = absurd h
word_at (b ∷ bs) below l [] e s h = absurd h
word_at (b ∷ bs) below l (d ∷ ds) e s h =
    let a = first_place b below in
    let back : a + (d - a) ≡ d = omega (arith, h.0) in
    let in_range : d < length l = omega (arith, s, h.1) in
    let none : Pick = record { first = 0; others = [] } in
    let size : length (drop a (picks l)) ≡ suc (length bs) - a = length-drop a (picks l) ∙ ap (λ n. n - a) (length-picks l ∙ s) in
    let pick : get_or (drop a (picks l)) (d - a) none ≡ record { first = get_or l d 0; others = without l d } =
    get_or-drop a (picks l) (d - a) none ∙ ap (λ i. get_or (picks l) i none) back ∙ get_or-picks l d none in_range in
    get_or-each_from (bounded_words bs) (endings bs) (length bs) (length-bounded_words bs) a (drop a (picks l))
    (every_drop (Leave (length bs)) a (picks l) (picks_leave l (length bs) s)) (d - a) (word_number bs d ds) e none
    (omega (arith, size, h.0, h.1)) (subst (λ j. word_number bs d ds < endings bs j) (sym back) (word_number-below bs d ds h.2))
    ∙ ap₂ (λ (j : ℕ) (p : Pick). p.first ∷ get_or (bounded_words bs j p.others) (word_number bs d ds) e) back pick
    ∙ ap (λ w. get_or l d 0 ∷ w) (word_at bs d (without l d) ds e (let k = length-without l d in_range in omega (arith, k, s)) h.2)
