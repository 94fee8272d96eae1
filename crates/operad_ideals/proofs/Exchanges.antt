-- A tree comes to its spelling by exchanges of neighbours.
use Rattle.std.proofs.Common.{◌≡◌, inl, inr, ⊎_elim, ℕ, suc, ◌+◌, ◌<◌, List, [], ◌∷◌, ◌++◌, length, take, drop, refl, sym, ap, ◌∙◌, subst, arith, min, append_assoc, length-append, length-take, take-append-drop, drop_of_length-le}
use Rattle.labelled_trees.specs.Trees.{Tree, Row, leaf, node, none, more, row, inputs}
use Rattle.labelled_trees.proofs.Rows.{row-inputs}
use Rattle.operad_ideals.specs.Parts.{Kind, symmetric, skew, free, Part, Sign, plus, minus, times, Turns, InOnePart}
use Rattle.operad_ideals.specs.Spelling.{least_leaf, Agrees, same, exchanged, inside, followed}
use Rattle.operad_ideals.specs.Sorting.{put_by, sort_by, sort_part, sort_parts, spelled, spelled_row}
use Rattle.operad_ideals.proofs.SortedLists.{put_past, put_before, tested, length-sort_by}
use Rattle.operad_ideals.proofs.SortedParts.{length-sort_part, sort_parts-nil}

module _ (parts : ℕ → List Part) where
  -- u comes from t by exchanges
  abbrev pub Reaches : Tree ℕ → Tree ℕ → Type 0
  Reaches t u = (s : Sign) × Agrees parts s t u

  reaches_then : (t u v : Tree ℕ) → Reaches t u → Reaches u v → Reaches t v
  reaches_then t u v a b = (times a.0 b.0, followed a.0 b.0 t u v a.1 b.1)

  -- behind m inputs of a vertex g the inputs us come from the inputs ts by exchanges
  abbrev ReachesBehind : ℕ → ℕ → List (Tree ℕ) → List (Tree ℕ) → Type 0
  ReachesBehind g m ts us = (front : List (Tree ℕ)) → length front ≡ m → Reaches (node g (row (front ++ ts))) (node g (row (front ++ us)))

  behind_same : (g m : ℕ) (ts us : List (Tree ℕ)) → ts ≡ us → ReachesBehind g m ts us
  behind_same g m ts us e front l = (plus, subst (λ vs. Agrees parts plus (node g (row (front ++ ts))) (node g (row (front ++ vs)))) e (same (node g (row (front ++ ts)))))

  behind_then : (g m : ℕ) (ts us vs : List (Tree ℕ)) → ReachesBehind g m ts us → ReachesBehind g m us vs → ReachesBehind g m ts vs
  behind_then g m ts us vs a b front l = reaches_then (node g (row (front ++ ts))) (node g (row (front ++ us))) (node g (row (front ++ vs))) (a front l) (b front l)

  -- the inputs at m and m + 1 change places
  behind_exchange : (g m : ℕ) (s : Sign) (a b : Tree ℕ) (back : List (Tree ℕ)) → InOnePart (parts g) m s → ReachesBehind g m (a ∷ (b ∷ back)) (b ∷ (a ∷ back))
  behind_exchange g m s a b back h front l = (s, exchanged g s front a b back (subst (λ n. InOnePart (parts g) n s) (sym l) h))

  -- the input at m is replaced
  behind_inside : (g m : ℕ) (a b : Tree ℕ) (back : List (Tree ℕ)) → Reaches a b → ReachesBehind g m (a ∷ back) (b ∷ back)
  behind_inside g m a b back h front l = (h.0, inside g h.0 front a b back h.1)

  -- one input stays, and the others follow
  behind_one_more : (g m : ℕ) (t : Tree ℕ) (ts us : List (Tree ℕ)) → ReachesBehind g (suc m) ts us → ReachesBehind g m (t ∷ ts) (t ∷ us)
  behind_one_more g m t ts us h front l =
      let longer : length (front ++ t ∷ []) ≡ suc m = length-append front (t ∷ []) ∙ omega (arith, l) in
      let k : Reaches (node g (row ((front ++ t ∷ []) ++ ts))) (node g (row ((front ++ t ∷ []) ++ us))) = h (front ++ t ∷ []) longer in (
        k.0,
        subst (λ xs. Agrees parts k.0 (node g (row xs)) (node g (row (front ++ t ∷ us)))) (append_assoc front (t ∷ []) ts)
            (subst (λ xs. Agrees parts k.0 (node g (row ((front ++ t ∷ []) ++ ts))) (node g (row xs))) (append_assoc front (t ∷ []) us) k.1),
      )

  -- these inputs stay, and the others follow
  behind_more : (g m n : ℕ) (done ts us : List (Tree ℕ)) → n ≡ m + length done → ReachesBehind g n ts us → ReachesBehind g m (done ++ ts) (done ++ us)
  behind_more g m n [] ts us e h = let same : n ≡ m = omega (arith, e) in subst (λ k. ReachesBehind g k ts us) same h
  behind_more g m n (t ∷ done) ts us e h = behind_one_more g m t (done ++ ts) (done ++ us) (behind_more g (suc m) n done ts us (omega (arith, e)) h)

  -- of the n inputs from the m-th on neighbours can change places
  abbrev Movable : ℕ → ℕ → ℕ → Type 0
  Movable g m n = (i : ℕ) → suc i < n → (s : Sign) × InOnePart (parts g) (m + i) s

  movable_rest : (g m n : ℕ) → Movable g m (suc n) → Movable g (suc m) n
  movable_rest g m n h i l = let k : (s : Sign) × InOnePart (parts g) (m + suc i) s = h (suc i) (omega (arith, l)) in
      let e : m + suc i ≡ suc m + i = omega arith in (k.0, subst (λ j. InOnePart (parts g) j k.0) e k.1)

  movable_first : (g m n : ℕ) → Movable g m (suc (suc n)) → (s : Sign) × InOnePart (parts g) m s
  movable_first g m n h = let k : (s : Sign) × InOnePart (parts g) (m + 0) s = h 0 (omega arith) in
      let e : m + 0 ≡ m = omega arith in (k.0, subst (λ j. InOnePart (parts g) j k.0) e k.1)

  -- insertion moves x behind the smaller ones, one exchange each
  behind_put : (g m : ℕ) (x : Tree ℕ) (ys back : List (Tree ℕ)) → Movable g m (suc (length ys)) → ReachesBehind g m (x ∷ (ys ++ back)) (put_by least_leaf x ys ++ back)
  behind_put g m x [] back h = behind_same g m (x ∷ back) (x ∷ back) refl
  behind_put g m x (y ∷ ys) back h = ⊎_elim
      (λ l.
      let one : (s : Sign) × InOnePart (parts g) m s = movable_first g m (length ys) h in
      let others = behind_one_more g m y (x ∷ (ys ++ back)) (put_by least_leaf x ys ++ back) (behind_put g (suc m) x ys back (movable_rest g m (suc (length ys)) h)) in
      let all = behind_then g m (x ∷ (y ∷ (ys ++ back))) (y ∷ (x ∷ (ys ++ back))) (y ∷ (put_by least_leaf x ys ++ back)) (behind_exchange g m one.0 x y (ys ++ back) one.1) others in
      subst (λ zs. ReachesBehind g m (x ∷ (y ∷ (ys ++ back))) (zs ++ back)) (sym (put_past least_leaf x y ys l)) all)
      (λ l. behind_same g m (x ∷ (y ∷ (ys ++ back))) (put_by least_leaf x (y ∷ ys) ++ back) (ap (λ zs. zs ++ back) (sym (put_before least_leaf x y ys l))))
      (tested (least_leaf y) (least_leaf x))

  -- insertion sort: first the others, then the first one
  behind_sort : (g m : ℕ) (xs back : List (Tree ℕ)) → Movable g m (length xs) → ReachesBehind g m (xs ++ back) (sort_by least_leaf xs ++ back)
  behind_sort g m [] back h = behind_same g m back back refl
  behind_sort g m (x ∷ xs) back h =
      behind_then g m (x ∷ (xs ++ back)) (x ∷ (sort_by least_leaf xs ++ back)) (sort_by least_leaf (x ∷ xs) ++ back)
      (behind_one_more g m x (xs ++ back) (sort_by least_leaf xs ++ back) (behind_sort g (suc m) xs back (movable_rest g m (length xs) h)))
      (behind_put g m x (sort_by least_leaf xs) back (subst (λ n. Movable g m (suc n)) (sym (length-sort_by least_leaf xs)) h))

  behind_sort_part : (g m : ℕ) (kind : Kind) (xs back : List (Tree ℕ)) → ((i : ℕ) (s : Sign) → suc i < length xs → Turns kind s → InOnePart (parts g) (m + i) s)
      → ReachesBehind g m (xs ++ back) (sort_part least_leaf kind xs ++ back)
  behind_sort_part g m symmetric xs back h = behind_sort g m xs back (λ i l. (plus, h i plus l refl))
  behind_sort_part g m skew xs back h = behind_sort g m xs back (λ i l. (minus, h i minus l refl))
  behind_sort_part g m free xs back h = behind_same g m (xs ++ back) (xs ++ back) refl

  -- the parts, one after the other
  behind_sort_parts : (g m : ℕ) (ps : List Part) (xs : List (Tree ℕ)) → ((i : ℕ) (s : Sign) → InOnePart ps i s → InOnePart (parts g) (m + i) s) → ReachesBehind g m xs (sort_parts least_leaf ps xs)
  behind_sort_parts g m [] xs h = behind_same g m xs xs refl
  behind_sort_parts g m (p ∷ ps) xs h =
      let first : List (Tree ℕ) = take p.size xs in
      let others : List (Tree ℕ) = drop p.size xs in
      let done : List (Tree ℕ) = sort_part least_leaf p.kind first in
      let part : ReachesBehind g m (first ++ others) (done ++ others) = behind_sort_part g m p.kind first others
      (λ i s l t. h i s (inl ((let k : suc i < min p.size (length xs) = rw (length-take p.size xs) at l in omega (arith, k)), t))) in
      let rest : ReachesBehind g (m + length done) others (sort_parts least_leaf ps others) = ⊎_elim
      (λ l. behind_same g (m + length done) others (sort_parts least_leaf ps others)
      (let nothing : others ≡ [] = drop_of_length-le xs {i = p.size} (omega (arith, l)) in nothing ∙ sym (ap (sort_parts least_leaf ps) nothing ∙ sort_parts-nil least_leaf ps)))
      (λ l.
      let size : length done ≡ p.size = length-sort_part least_leaf p.kind first ∙ length-take p.size xs ∙ omega (arith, l) in
      behind_sort_parts g (m + length done) ps others (λ i s e.
      let place : m + (p.size + i) ≡ m + length done + i = omega (arith, size) in
      subst (λ n. InOnePart (parts g) n s) place (h (p.size + i) s (inr (i, refl, e)))))
      (tested (length xs) p.size) in
      subst (λ ys. ReachesBehind g m ys (sort_parts least_leaf (p ∷ ps) xs)) (take-append-drop p.size xs)
      (behind_then g m (first ++ others) (done ++ others) (done ++ sort_parts least_leaf ps others) part (behind_more g m (m + length done) done others (sort_parts least_leaf ps others) refl rest))

  -- from the leaves up: first the inputs, then their order
  mutual
    pub reaches_spelled : (t : Tree ℕ) → Reaches t (spelled parts t)
    reaches_spelled (leaf n) = (plus, same (leaf n))
    reaches_spelled (node g r) =
        let inner : Reaches (node g r) (node g (row (spelled_row parts r))) = subst (λ q. Reaches (node g q) (node g (row (spelled_row parts r)))) (row-inputs r) (reaches_row g 0 r [] refl) in
        let outer : Reaches (node g (row (spelled_row parts r))) (spelled parts (node g r)) = behind_sort_parts g 0 (parts g) (spelled_row parts r)
        (λ i s h. let e : i ≡ 0 + i = omega arith in subst (λ n. InOnePart (parts g) n s) e h) [] refl in
        reaches_then (node g r) (node g (row (spelled_row parts r))) (spelled parts (node g r)) inner outer

    reaches_row : (g m : ℕ) (r : Row ℕ) → ReachesBehind g m (inputs r) (spelled_row parts r)
    reaches_row g m none = behind_same g m [] [] refl
    reaches_row g m (more t r) =
        behind_then g m (t ∷ inputs r) (spelled parts t ∷ inputs r) (spelled parts t ∷ spelled_row parts r)
        (behind_inside g m t (spelled parts t) (inputs r) (reaches_spelled t)) (behind_one_more g m (spelled parts t) (inputs r) (spelled_row parts r) (reaches_row g (suc m) r))
