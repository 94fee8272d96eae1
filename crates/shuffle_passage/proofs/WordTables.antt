-- The words of the generators of a table.
use Rattle.std.proofs.Common.{◌≡◌, ℕ, zero, suc, ◌+◌, ◌*◌, ◌-◌, ◌<◌, ◌≤◌, List, [], ◌∷◌, ◌++◌, length, map, drop, get_or, slice_get, Some, refl, sym, ap, ap₂, ◌∙◌, subst, arith, length-append, append_assoc, take, Bool, false}
use Rattle.std.specs.List.{remove}
use Rattle.std.proofs.lemmas.List.{take_all}
use Rattle.std.proofs.Math.ListN.{length-map}
use Rattle.std.proofs.lemmas.Option.{get_or_from_slice_get}
use Rattle.operad_ideals.specs.Parts.{Part, parts_of}
use Rattle.shuffle_transfer.specs.Labels.{letters, gen, words_of}
use Rattle.symmetric_trees.specs.Generators.{part_of, parts_at, generators_of, IsTable}
use Rattle.symmetric_trees.specs.declared.generators.Generator.{Generator}
use Rattle.symmetric_trees.proofs.Tables.{arity-held, arity-bounds}
use Rattle.shuffle_passage.specs.Words.{bounds_of, endings, first_label, sum_from, first_place, find_place, digits_of, without, chosen}
use Rattle.shuffle_passage.specs.WordTables.{bounds_in, words_from}
use Rattle.shuffle_passage.specs.declared.words.Words.{Words}
use Rattle.shuffle_passage.proofs.WordBounds.{length-bounds, count_words}
use Rattle.shuffle_passage.proofs.LabelNumbers.{few_endings, letter_of_number, lettered, finds}

-- ---- sums

pub sum_from-constant : (f : ℕ → ℕ) (a n m : ℕ) → ((i : ℕ) → f i ≡ m) → sum_from f a n ≡ n * m
sum_from-constant f a zero m h = omega arith
sum_from-constant f a (suc n) m h = let k = sum_from-constant f (suc a) n m h in let q = h a in let e : suc n * m ≡ m + n * m = omega arith in omega (arith, k, q, e)

pub sum_from-next : (f : ℕ → ℕ) (a n : ℕ) → sum_from f a (suc n) ≡ sum_from f a n + f (a + n)
sum_from-next f a zero = let e : a + 0 ≡ a = omega arith in let q : f (a + 0) ≡ f a = ap f e in omega (arith, q)
sum_from-next f a (suc n) = let k = sum_from-next f (suc a) n in let e : suc a + n ≡ a + suc n = omega arith in let q : f (suc a + n) ≡ f (a + suc n) = ap f e in omega (arith, k, q)

-- ---- the generators of a table

pub length-generators : (gens : List Generator) → length (generators_of gens) ≡ length gens
length-generators gens = length-map gens (λ g. map part_of g.parts)

pub length-words : (first : ℕ) (gens : List Generator) → length (words_from first gens) ≡ length gens
length-words first [] = refl
length-words first (g ∷ gs) = ap suc (length-words (first + endings (bounds_in g) 0) gs)

-- the words of a generator, where the first label is this one
pub words_at : (first : ℕ) (gens : List Generator) (i : ℕ) (d : Words) → i < length gens
    → get_or (words_from first gens) i d ≡ record {
      first = first + first_label (generators_of gens) i;
      end = first + first_label (generators_of gens) i + endings (bounds_of (parts_at gens i)) 0;
      bounds = bounds_of (parts_at gens i);
    }
words_at first [] i d l = absurd (omega (arith, l))
words_at first (g ∷ gs) zero d l =
    let e : first ≡ first + 0 = omega arith in
    ap (λ n. record { first = n; end = n + endings (bounds_in g) 0; bounds = bounds_in g }) e
words_at first (g ∷ gs) (suc i) d l =
    let e : first + endings (bounds_in g) 0 + first_label (generators_of gs) i ≡ first + (endings (bounds_in g) 0 + first_label (generators_of gs) i) = omega arith in
    words_at (first + endings (bounds_in g) 0) gs i d (omega (arith, l))
    ∙ ap (λ n. record { first = n; end = n + endings (bounds_of (parts_at gs i)) 0; bounds = bounds_of (parts_at gs i) }) e

-- the words of the generator at an index, as they were read there
pub read_words : (gens : List Generator) (words : List Words) (i : ℕ) (own : Words) → words ≡ words_from 0 gens → i < length gens → own ≡ get_or words i own
    → own ≡ record { first = first_label (generators_of gens) i; end = first_label (generators_of gens) i + endings (bounds_of (parts_at gens i)) 0; bounds = bounds_of (parts_at gens i) }
read_words gens words i own e l is =
    let z : 0 + first_label (generators_of gens) i ≡ first_label (generators_of gens) i = omega arith in
    is ∙ ap (λ ws. get_or ws i own) e ∙ words_at 0 gens i own l
    ∙ ap (λ n. record { first = n; end = n + endings (bounds_of (parts_at gens i)) 0; bounds = bounds_of (parts_at gens i) }) z

pub first_label-zero : (gens : List (List Part)) → first_label gens 0 ≡ 0
first_label-zero [] = refl
first_label-zero (ps ∷ gens) = refl

pub first_label-next : (gens : List (List Part)) (i : ℕ) → i < length gens → first_label gens (suc i) ≡ first_label gens i + endings (bounds_of (parts_of gens i)) 0
first_label-next [] i l = absurd (omega (arith, l))
first_label-next (ps ∷ gens) zero l = ap (λ n. endings (bounds_of ps) 0 + n) (first_label-zero gens) ∙ omega arith
first_label-next (ps ∷ gens) (suc i) l = let k = first_label-next gens i (omega (arith, l)) in omega (arith, k)

-- behind the last label there are no more
pub first_label-all : (s : ℕ) (gens : List (List Part)) → first_label gens (length gens) ≡ length (letters s gens)
first_label-all s [] = refl
first_label-all s (ps ∷ gens) =
    let n = length-append (map (lettered s) (words_of ps)) (letters (suc s) gens) in
    let m = length-map (words_of ps) (lettered s) in
    let k = first_label-all (suc s) gens in omega (arith, n, m, k, count_words ps)

-- ---- there are few words

pub arity_few : (gens : List Generator) (i : ℕ) (g : Generator) → IsTable gens → i < length gens → slice_get gens i ≡ Some g → length (bounds_of (parts_at gens i)) ≤ 6
arity_few gens i g table l is =
    let a = arity-held gens i g table l is in
    let b = arity-bounds gens i g table l is in
    omega (arith, length-bounds (parts_at gens i), a, b.1)

pub slice_at : {X : Type 0} (xs : List X) (i : ℕ) → i < length xs → (x : X) × (slice_get xs i ≡ Some x)
slice_at [] i l = absurd (omega (arith, l))
slice_at (x ∷ xs) zero l = (x, refl)
slice_at (x ∷ xs) (suc i) l = slice_at xs i (omega (arith, l))

pub bounds_few : (gens : List Generator) (i : ℕ) → IsTable gens → i < length gens → length (bounds_of (parts_at gens i)) ≤ 6
bounds_few gens i table l = let k = slice_at gens i l in arity_few gens i k.0 table l k.1

pub words_few : (gens : List Generator) (i : ℕ) → IsTable gens → i < length gens → endings (bounds_of (parts_at gens i)) 0 ≤ 720
words_few gens i table l = few_endings (bounds_of (parts_at gens i)) 0 6 (bounds_few gens i table l)

pub first_label-most : (gens : List Generator) (i : ℕ) → IsTable gens → i ≤ length gens → first_label (generators_of gens) i ≤ i * 720
first_label-most gens zero table l = let z = first_label-zero (generators_of gens) in omega (arith, z)
first_label-most gens (suc i) table l =
    let k = first_label-most gens i table (omega (arith, l)) in
    let n = length-generators gens in
    let e = first_label-next (generators_of gens) i (omega (arith, l, n)) in
    let w = words_few gens i table (omega (arith, l)) in
    let q : suc i * 720 ≡ 720 + i * 720 = omega arith in
    omega (arith, k, e, w, q)

-- the generator of a label that lies among those of its words
pub gen_is : (gens : List Generator) (i l : ℕ) → i < length gens → first_label (generators_of gens) i ≤ l → l < first_label (generators_of gens) i + endings (bounds_of (parts_at gens i)) 0
    → i ≡ gen (generators_of gens) l
gen_is gens i l in_range low high =
    let first = first_label (generators_of gens) i in
    let back : first + (l - first) ≡ l = omega (arith, low) in
    let k = letter_of_number (generators_of gens) i (l - first) (let n = length-generators gens in omega (arith, n, in_range)) (omega (arith, low, high)) in
    sym k.0 ∙ ap (gen (generators_of gens)) back

-- the list of words so far, with those of one generator more
pub words-more : (words after whole : List Words) (first count : ℕ) (bounds : List Bool) (g : Generator) (gens rest : List Generator) → gens ≡ g ∷ rest → bounds ≡ bounds_in g → count ≡ endings bounds 0
    → words ++ words_from first gens ≡ whole → after ≡ words ++ record { first = first; end = first + count; bounds = bounds } ∷ []
    → after ++ words_from (first + count) rest ≡ whole
words-more words after whole first count bounds g gens rest split b k before is =
    let n : count ≡ endings (bounds_in g) 0 = k ∙ ap (λ bs. endings bs 0) b in
    ap (λ ws. ws ++ words_from (first + count) rest) is
    ∙ append_assoc words (record { first = first; end = first + count; bounds = bounds } ∷ []) (words_from (first + count) rest)
    ∙ ap₂ (λ c bs. words ++ record { first = first; end = first + c; bounds = bs } ∷ words_from (first + c) rest) n b
    ∙ ap (λ gs. words ++ words_from first gs) (sym split) ∙ before

-- ---- one number of a word after the other

-- what is left of a word when its first place is found
pub record Step (left later : List Bool) (below over at next : ℕ) : Type 0 where
  pub low : at ≤ length later
  pub size : suc (length later) ≡ length left
  pub digits_are : digits_of left below over ≡ at ∷ digits_of later at next
  pub held : next < endings later at

pub later_is : {X : Type 0} (x : X) (xs : List X) → take (length (x ∷ xs) - 1) (drop 1 (x ∷ xs)) ≡ xs
later_is x xs = take_all (length (x ∷ xs) - 1) xs (omega arith)

pub step : (left later : List Bool) (below over from at next : ℕ) → later ≡ take (length left - 1) (drop 1 left) → 1 ≤ length left → over < endings left below → from ≡ first_place (get_or left 0 false) below
    → at ≡ (find_place (endings later) from over (length later + 1 - from)).at → next ≡ (find_place (endings later) from over (length later + 1 - from)).over
    → Step left later below over at next
step [] later below over from at next is some h f a n = absurd (omega (arith, some))
step (b ∷ bs) later below over from at next is some h f a n = same (is ∙ later_is b bs) f a n
  where
    same : later ≡ bs → from ≡ first_place b below → at ≡ (find_place (endings later) from over (length later + 1 - from)).at → next ≡ (find_place (endings later) from over (length later + 1 - from)).over
        → Step (b ∷ bs) later below over at next
    same e f a n =
        let s = find_place (endings bs) (first_place b below) over (suc (length bs) - first_place b below) in
        let k = finds (endings bs) (first_place b below) over (suc (length bs) - first_place b below) h in
        let fuel : length later + 1 - from ≡ suc (length bs) - first_place b below = let l = ap length e in omega (arith, l, f) in
        let place : find_place (endings later) from over (length later + 1 - from) ≡ s =
        ap (λ m. find_place (endings later) from over m) fuel ∙ ap₂ (λ bs' a'. find_place (endings bs') a' over (suc (length bs) - first_place b below)) e f in
        let at_is : at ≡ s.at = a ∙ ap (λ p. p.at) place in
        let next_is : next ≡ s.over = n ∙ ap (λ p. p.over) place in
        subst (λ l. Step (b ∷ bs) l below over at next) (sym e)
        (subst (λ x. Step (b ∷ bs) bs below over x next) (sym at_is)
        (subst (λ y. Step (b ∷ bs) bs below over s.at y) (sym next_is) (record {
          low = let l = k.high in omega (arith, l);
          size = refl;
          digits_are = refl;
          held = k.rest;
        })))

pub removed : {X : Type 0} (xs : List X) (i : ℕ) → remove xs i ≡ without xs i
removed [] zero = refl
removed [] (suc i) = refl
removed (x ∷ xs) zero = refl
removed (x ∷ xs) (suc i) = ap (λ l. x ∷ l) (removed xs i)

-- the entries arranged so far, with one more
pub chosen-more : {X : Type 0} (e x : X) (made after rest left whole : List X) (ds es : List ℕ) (at : ℕ) → ds ≡ at ∷ es → slice_get rest at ≡ Some x → left ≡ remove rest at
    → made ++ chosen e rest ds ≡ whole → after ≡ made ++ x ∷ [] → after ++ chosen e left es ≡ whole
chosen-more e x made after rest left whole ds es at d got gone before is =
    ap₂ (λ l r. l ++ chosen e r es) is (gone ∙ removed rest at)
    ∙ append_assoc made (x ∷ []) (chosen e (without rest at) es)
    ∙ ap (λ y. made ++ y ∷ chosen e (without rest at) es) (sym (get_or_from_slice_get rest at x e got))
    ∙ ap (λ l. made ++ chosen e rest l) (sym d) ∙ before
