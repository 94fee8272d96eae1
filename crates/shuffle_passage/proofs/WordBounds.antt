-- The words of a generator are those with its bounds.
use Rattle.std.proofs.Common.{◌≡◌, inl, inr, ℕ, zero, suc, ◌+◌, ◌<◌, ◌≤◌, Bool, true, false, cond, List, [], ◌∷◌, ◌++◌, length, map, take, drop, refl, sym, ap, ap₂, ◌∙◌, subst, arith, lt-ltb, le-ltb, replicate, nat_lt, length-append}
use Rattle.std.specs.Prelude.{flat_map}
use Rattle.std.specs.List.{AllByRecursion}
use Rattle.std.proofs.lemmas.List.{length-replicate}
use Rattle.modular_sums.specs.Lists.{Mem, Rises}
use Rattle.operad_ideals.specs.Parts.{Kind, symmetric, skew, free, Part, total}
use Rattle.operad_ideals.proofs.SortedLists.{every_weaker, every_unmap}
use Rattle.shuffle_insertions.specs.Listing.{upto}
use Rattle.shuffle_insertions.proofs.Upto.{upto_rises, upto_mem}
use Rattle.shuffle_insertions.proofs.Counting.{length-upto}
use Rattle.shuffle_transfer.specs.Orderings.{Pick, behind, picks, permutations, orderings}
use Rattle.shuffle_transfer.specs.Labels.{rises, part_rises, parts_rise, rising_words, words_of}
use Rattle.shuffle_transfer.proofs.Permutes.{permutes_length, permutations_mem}
use Rattle.shuffle_transfer.proofs.Ranks.{every_mem}
use Rattle.shuffle_passage.specs.Words.{is_rising, part_bounds, bounds_of, endings}
use Rattle.shuffle_passage.proofs.WordLists.{each_from, bounded_words, length-bounded_words}

-- whether a word keeps the bounds, where x is the number before it
abbrev pub keeps : List Bool → ℕ → List ℕ → Bool
keeps [] x w = true
keeps (b ∷ bs) x [] = true
keeps (b ∷ bs) x (y ∷ w) = cond (cond b (nat_lt x y) true) (keeps bs y w) false

-- ---- a word rises within its parts where it keeps their bounds

cond_both : (a b c : Bool) → cond (cond a b false) c false ≡ cond a (cond b c false) false
cond_both true b c = refl
cond_both false b c = refl

rising_part : (n : ℕ) (ps : List Part) (x : ℕ) (w : List ℕ) → n ≤ length w → ((y : ℕ) (v : List ℕ) → length v + n ≡ length w → parts_rise ps v ≡ keeps (bounds_of ps) y v)
    → cond (rises (x ∷ take n w)) (parts_rise ps (drop n w)) false ≡ keeps (replicate n true ++ bounds_of ps) x w
rising_part zero ps x w l ih = ih x w (omega arith)
rising_part (suc n) ps x [] l ih = absurd (omega (arith, l))
rising_part (suc n) ps x (y ∷ w) l ih =
    cond_both (nat_lt x y) (rises (y ∷ take n w)) (parts_rise ps (drop n w))
    ∙ ap (λ c. cond (nat_lt x y) c false) (rising_part n ps y w (omega (arith, l)) (λ z v e. ih z v (omega (arith, e))))

free_part : (n : ℕ) (ps : List Part) (x : ℕ) (w : List ℕ) → n ≤ length w → ((y : ℕ) (v : List ℕ) → length v + n ≡ length w → parts_rise ps v ≡ keeps (bounds_of ps) y v)
    → parts_rise ps (drop n w) ≡ keeps (replicate n false ++ bounds_of ps) x w
free_part zero ps x w l ih = ih x w (omega arith)
free_part (suc n) ps x [] l ih = absurd (omega (arith, l))
free_part (suc n) ps x (y ∷ w) l ih = free_part n ps y w (omega (arith, l)) (λ z v e. ih z v (omega (arith, e)))

one_part : (kind : Kind) (n : ℕ) (ps : List Part) (x : ℕ) (w : List ℕ) → n ≤ length w → ((y : ℕ) (v : List ℕ) → length v + n ≡ length w → parts_rise ps v ≡ keeps (bounds_of ps) y v)
    → cond (part_rises kind (take n w)) (parts_rise ps (drop n w)) false ≡ keeps (part_bounds kind n ++ bounds_of ps) x w
one_part symmetric zero ps x w l ih = ih x w (omega arith)
one_part skew zero ps x w l ih = ih x w (omega arith)
one_part free zero ps x w l ih = ih x w (omega arith)
one_part kind (suc n) ps x [] l ih = absurd (omega (arith, l))
one_part symmetric (suc n) ps x (y ∷ w) l ih = rising_part n ps y w (omega (arith, l)) (λ z v e. ih z v (omega (arith, e)))
one_part skew (suc n) ps x (y ∷ w) l ih = rising_part n ps y w (omega (arith, l)) (λ z v e. ih z v (omega (arith, e)))
one_part free (suc n) ps x (y ∷ w) l ih = free_part n ps y w (omega (arith, l)) (λ z v e. ih z v (omega (arith, e)))

pub parts_keep : (ps : List Part) (x : ℕ) (w : List ℕ) → length w ≡ total ps → parts_rise ps w ≡ keeps (bounds_of ps) x w
parts_keep [] x w e = refl
parts_keep (p ∷ ps) x w e = one_part p.kind p.size ps x w (omega (arith, e)) (λ y v f. parts_keep ps y v (omega (arith, e, f)))

-- ---- those of a list of words

abbrev pub keeping : List Bool → ℕ → List (List ℕ) → List (List ℕ)
keeping bs x [] = []
keeping bs x (w ∷ ws) = cond (keeps bs x w) (w ∷ keeping bs x ws) (keeping bs x ws)

keeping-append : (bs : List Bool) (x : ℕ) (vs ws : List (List ℕ)) → keeping bs x (vs ++ ws) ≡ keeping bs x vs ++ keeping bs x ws
keeping-append bs x [] ws = refl
keeping-append bs x (v ∷ vs) ws = ap (λ us. cond (keeps bs x v) (v ∷ us) us) (keeping-append bs x vs ws) ∙ both (keeps bs x v) (keeping bs x vs) (keeping bs x ws)
  where
    both : (b : Bool) (us rs : List (List ℕ)) → cond b (v ∷ (us ++ rs)) (us ++ rs) ≡ cond b (v ∷ us) us ++ rs
    both true us rs = refl
    both false us rs = refl

-- words with a first number that keeps the bound
keeping-kept : (b : Bool) (bs : List Bool) (x y : ℕ) (ws : List (List ℕ)) → cond b (nat_lt x y) true ≡ true → keeping (b ∷ bs) x (map (λ w. y ∷ w) ws) ≡ map (λ w. y ∷ w) (keeping bs y ws)
keeping-kept b bs x y [] h = refl
keeping-kept b bs x y (w ∷ ws) h =
    ap (λ c. cond (cond c (keeps bs y w) false) ((y ∷ w) ∷ keeping (b ∷ bs) x (map (λ v. y ∷ v) ws)) (keeping (b ∷ bs) x (map (λ v. y ∷ v) ws))) h
    ∙ ap (λ us. cond (keeps bs y w) ((y ∷ w) ∷ us) us) (keeping-kept b bs x y ws h) ∙ both (keeps bs y w) (keeping bs y ws)
  where
    both : (c : Bool) (us : List (List ℕ)) → cond c ((y ∷ w) ∷ map (λ v. y ∷ v) us) (map (λ v. y ∷ v) us) ≡ map (λ v. y ∷ v) (cond c (w ∷ us) us)
    both true us = refl
    both false us = refl

-- words with a first number that breaks it
keeping-dropped : (b : Bool) (bs : List Bool) (x y : ℕ) (ws : List (List ℕ)) → cond b (nat_lt x y) true ≡ false → keeping (b ∷ bs) x (map (λ w. y ∷ w) ws) ≡ []
keeping-dropped b bs x y [] h = refl
keeping-dropped b bs x y (w ∷ ws) h =
    ap (λ c. cond (cond c (keeps bs y w) false) ((y ∷ w) ∷ keeping (b ∷ bs) x (map (λ v. y ∷ v) ws)) (keeping (b ∷ bs) x (map (λ v. y ∷ v) ws))) h
    ∙ keeping-dropped b bs x y ws h

-- ---- numbers in ascending order, cut at x

-- the first a numbers are below x, and the others above
abbrev Cut : ℕ → ℕ → List ℕ → Type 0
Cut x zero l = AllByRecursion (λ y. x < y) l
Cut x (suc a) [] = ⊥
Cut x (suc a) (y ∷ l) = (y < x) × Cut x a l

-- what is asked of each pick, by its place: the numbers left rise and are cut at the number picked
abbrev CutPicks : ℕ → ℕ → List Pick → Type 0
CutPicks n i [] = Unit {0}
CutPicks n i (p ∷ l) = Cut p.first i p.others × Rises p.others × (length p.others ≡ n) × CutPicks n (suc i) l

abbrev Above : ℕ → List Pick → Type 0
Above x l = AllByRecursion (λ (p : Pick). (x < p.first) × ((u : ℕ) → Mem u p.others → x < u)) l

above_picks : (x : ℕ) (l : List ℕ) → ((u : ℕ) → Mem u l → x < u) → Above x (picks l)
above_picks x [] h = tt
above_picks x (y ∷ l) h = ((h y (inl refl), λ u m. h u (inr m)), past (picks l) (above_picks x l (λ u m. h u (inr m))))
  where
    either : (p : Pick) → ((u : ℕ) → Mem u p.others → x < u) → (u : ℕ) → Mem u (y ∷ p.others) → x < u
    either p k u (inl e) = h u (inl e)
    either p k u (inr m) = k u m

    past : (ps : List Pick) → Above x ps → Above x (behind y ps)
    past [] k = tt
    past (p ∷ ps) k = ((k.0.0, either p k.0.1), past ps k.1)

cut_behind : (x n i : ℕ) (l : List Pick) → Above x l → CutPicks n i l → CutPicks (suc n) (suc i) (behind x l)
cut_behind x n i [] a h = tt
cut_behind x n i (p ∷ l) a h = ((a.0.0, h.0), (a.0.1, h.1), ap suc h.2, cut_behind x n (suc i) l a.1 h.3)

cut_picks : (l : List ℕ) (n : ℕ) → Rises l → length l ≡ suc n → CutPicks n 0 (picks l)
cut_picks [] n h e = tt
cut_picks (x ∷ []) zero h e = (tt, tt, refl, tt)
cut_picks (x ∷ []) (suc n) h e = absurd (omega (arith, e))
cut_picks (x ∷ (y ∷ l)) zero h e = absurd (omega (arith, e))
cut_picks (x ∷ (y ∷ l)) (suc n) h e =
    let k : length (y ∷ l) ≡ suc n = omega (arith, e) in
    (every_mem (λ u. x < u) (y ∷ l) h.0, h.1, k, cut_behind x n 0 (picks (y ∷ l)) (above_picks x (y ∷ l) h.0) (cut_picks (y ∷ l) n h.1 k))

-- ---- the words that keep the bounds, among all permutations

module _ (n : ℕ) (bs : List Bool) (ih : (x a : ℕ) (l : List ℕ) → Rises l → length l ≡ n → Cut x a l → keeping bs x (permutations n l) ≡ bounded_words bs a l) where
  abbrev beginning : Pick → List (List ℕ)
  beginning p = map (λ w. p.first ∷ w) (permutations n p.others)

  all_kept : (b : Bool) (x i : ℕ) (l : List Pick) → CutPicks n i l → AllByRecursion (λ (p : Pick). cond b (nat_lt x p.first) true ≡ true) l
      → keeping (b ∷ bs) x (flat_map beginning l) ≡ each_from (bounded_words bs) i l
  all_kept b x i [] c k = refl
  all_kept b x i (p ∷ l) c k =
      keeping-append (b ∷ bs) x (beginning p) (flat_map beginning l)
      ∙ ap₂ (λ us vs. us ++ vs)
      (keeping-kept b bs x p.first (permutations n p.others) k.0 ∙ ap (map (λ w. p.first ∷ w)) (ih p.first i p.others c.1 c.2 c.0))
      (all_kept b x (suc i) l c.3 k.1)

  from_cut : (x a i : ℕ) (l : List Pick) → CutPicks n i l → Cut x a (map (λ p. p.first) l)
      → keeping (true ∷ bs) x (flat_map beginning l) ≡ each_from (bounded_words bs) (i + a) (drop a l)
  from_cut x zero i l c k = all_kept true x i l c
      (every_weaker (λ (p : Pick). x < p.first) (λ (p : Pick). nat_lt x p.first ≡ true) l (λ p h. lt-ltb x p.first h) (every_unmap (λ (p : Pick). p.first) (λ y. x < y) l k)) ∙ (let e : i ≡ i + 0 = omega arith in ap (λ j. each_from (bounded_words bs) j l) e)
  from_cut x (suc a) i [] c k = absurd k
  from_cut x (suc a) i (p ∷ l) c k =
      keeping-append (true ∷ bs) x (beginning p) (flat_map beginning l)
      ∙ ap (λ us. us ++ keeping (true ∷ bs) x (flat_map beginning l)) (keeping-dropped true bs x p.first (permutations n p.others) (let l : p.first ≤ x = omega (arith, k.0) in le-ltb x p.first l))
      ∙ from_cut x a (suc i) l c.3 k.1
      ∙ (let e : suc i + a ≡ i + suc a = omega arith in ap (λ j. each_from (bounded_words bs) j (drop a l)) e)

firsts : (x : ℕ) (l : List Pick) → map (λ p. p.first) (behind x l) ≡ map (λ p. p.first) l
firsts x [] = refl
firsts x (p ∷ l) = ap (λ w. p.first ∷ w) (firsts x l)

firsts-picks : (l : List ℕ) → map (λ p. p.first) (picks l) ≡ l
firsts-picks [] = refl
firsts-picks (x ∷ l) = ap (λ w. x ∷ w) (firsts x (picks l) ∙ firsts-picks l)

bounded : (bs : List Bool) (x a : ℕ) (l : List ℕ) → Rises l → length l ≡ length bs → Cut x a l → keeping bs x (permutations (length bs) l) ≡ bounded_words bs a l
bounded [] x a l r e c = refl
bounded (true ∷ bs) x a l r e c =
    from_cut (length bs) bs (bounded bs) x a 0 (picks l) (cut_picks l (length bs) r e) (subst (Cut x a) (sym (firsts-picks l)) c)
    ∙ (let z : 0 + a ≡ a = omega arith in ap (λ j. each_from (bounded_words bs) j (drop a (picks l))) z)
bounded (false ∷ bs) x a l r e c = all_kept (length bs) bs (bounded bs) false x 0 (picks l) (cut_picks l (length bs) r e) (every_mem (λ (p : Pick). true ≡ true) (picks l) (λ p m. refl))

length-part : (kind : Kind) (n : ℕ) → length (part_bounds kind n) ≡ n
length-part kind zero = refl
length-part kind (suc n) = ap suc (length-replicate n (is_rising kind))

pub length-bounds : (ps : List Part) → length (bounds_of ps) ≡ total ps
length-bounds [] = refl
length-bounds (p ∷ ps) = length-append (part_bounds p.kind p.size) (bounds_of ps) ∙ ap₂ (λ m n. m + n) (length-part p.kind p.size) (length-bounds ps)

rising_keeping : (ps : List Part) (ws : List (List ℕ)) → ((w : List ℕ) → Mem w ws → length w ≡ total ps) → rising_words ps ws ≡ keeping (bounds_of ps) 0 ws
rising_keeping ps [] h = refl
rising_keeping ps (w ∷ ws) h =
    ap₂ (λ b us. cond b (w ∷ us) us) (parts_keep ps 0 w (h w (inl refl))) (rising_keeping ps ws (λ v m. h v (inr m)))

-- The words of a generator are listed by their bounds.
pub words_are : (ps : List Part) → words_of ps ≡ bounded_words (bounds_of ps) 0 (upto (total ps))
words_are ps =
    rising_keeping ps (orderings (total ps)) (λ w m. permutes_length (upto (total ps)) w (permutations_mem (total ps) (upto (total ps)) w (length-upto (total ps)) m) ∙ length-upto (total ps))
    ∙ ap (λ n. keeping (bounds_of ps) 0 (permutations n (upto (total ps)))) (sym (length-bounds ps))
    ∙ bounded (bounds_of ps) 0 0 (upto (total ps)) (upto_rises (total ps)) (length-upto (total ps) ∙ sym (length-bounds ps)) (every_mem (λ u. 0 < u) (upto (total ps)) (λ u m. (upto_mem (total ps) u m).0))

-- There are so many.
pub count_words : (ps : List Part) → length (words_of ps) ≡ endings (bounds_of ps) 0
count_words ps = ap length (words_are ps) ∙ length-bounded_words (bounds_of ps) 0 (upto (total ps)) (length-upto (total ps) ∙ sym (length-bounds ps))
