-- All items of an arity stand in one list, which is short.
use Rattle.std.proofs.Common.{Bool, true, false, cond, ◌≡◌, ℕ, zero, suc, ◌+◌, ◌*◌, ◌^◌, ◌≤◌, List, [], ◌∷◌, map, length, refl, sym, ap, ◌∙◌, arith, subst, inl, inr, length-append, pow-suc, mul-le-mul_left}
use Rattle.std.specs.Prelude.{flat_map, count_by}
use Rattle.std.proofs.lemmas.List.{length-map}
use Rattle.std.proofs.lemmas.List.Sums.{sum_by-cons}
use mathlib.Core.List.{◌++◌}
use native.Mathlib.Decide.{ℕ_discrete}
use Rattle.modular_sums.specs.Lists.{Mem, Nth, choose}
use Rattle.modular_sums.proofs.Lists.{mem_left, mem_right, mem_map, mem_flat}
use Rattle.labelled_trees.specs.Trees.{Tree}
use Rattle.shuffle_insertions.specs.ShuffleTrees.{IsShuffleTree}
use Rattle.shuffle_insertions.specs.Listing.{all_trees}
use Rattle.shuffle_insertions.proofs.Laws.{listed}
use Rattle.shuffle_places.specs.Connected.{IsConnected}
use Rattle.shuffle_normal_forms.specs.FreeTrees.{is_empty}
use Rattle.operad_ideals.specs.Presentations.{Relation, IsWide}
use Rattle.shuffle_transfer.specs.Orderings.{orderings}
use Rattle.shuffle_transfer.specs.Labels.{labels}
use Rattle.shuffle_transfer.proofs.Labels.{are_labels}
use Rattle.shuffle_transfer.proofs.Orderings.{all_orderings}
use Rattle.action_characters.specs.CycleTypes.{cycle_types}
use Rattle.counted_runs.specs.Items.{Question, Problem, item_arity, Purpose, completion, certificate, Item, relabelling, two_places, tail_of, question, traced, IsItem}
use Rattle.counted_runs.specs.Enough.{counts_relation, counts_question, tree_number, relation_number, question_number}
use Rattle.action_characters.proofs.CycleTypes.{cycle_types_listed}
use Rattle.counted_runs.proofs.VertexSets.{few_vertices, rising_lists, length_rising, connected_rising}
use Rattle.counted_runs.proofs.Permutations.{length_each, length_orderings}

-- ---- numbers of things that pass a test

-- the numbers, from a on, of the things of a list that pass the test
abbrev numbers_where : {X : Type 0} → (X → Bool) → ℕ → List X → List ℕ
numbers_where test a [] = []
numbers_where test a (x ∷ l) = cond (test x) (a ∷ numbers_where test (suc a) l) (numbers_where test (suc a) l)

module _ {X : Type 0} (test : X → Bool) where
  length_where : (a : ℕ) (l : List X) → length (numbers_where test a l) ≡ count_by test l
  length_where a [] = refl
  length_where a (x ∷ l) = go (test x) (length_where (suc a) l) ∙ sym (sum_by-cons (λ y. cond (test y) 1 0) x l)
    where
      go : (b : Bool) → length (numbers_where test (suc a) l) ≡ count_by test l
          → length (cond b (a ∷ numbers_where test (suc a) l) (numbers_where test (suc a) l)) ≡ cond b 1 0 + count_by test l
      go true e = omega (arith, e)
      go false e = omega (arith, e)

  pass : (b : Bool) (a : ℕ) (l : List ℕ) → b ≡ true → Mem a (cond b (a ∷ l) l)
  pass true a l e = inl refl
  pass false a l e = absurd (cc e)

  skip : (b : Bool) (a c : ℕ) (l : List ℕ) → Mem c l → Mem c (cond b (a ∷ l) l)
  skip true a c l m = inr m
  skip false a c l m = m

  mem_where : (i a : ℕ) (l : List X) (x : X) → Nth (suc i) l x → test x ≡ true → Mem (a + i) (numbers_where test a l)
  mem_where i a [] x h e = absurd h
  mem_where zero a (y ∷ l) x h e =
      let k : a ≡ a + 0 = omega arith in
      subst (λ c. Mem c (numbers_where test a (y ∷ l))) k (pass (test y) a (numbers_where test (suc a) l) (sym (ap test h) ∙ e))
  mem_where (suc i) a (y ∷ l) x h e =
      let k : suc a + i ≡ a + suc i = omega arith in
      skip (test y) a (a + suc i) (numbers_where test (suc a) l) (subst (λ c. Mem c (numbers_where test (suc a) l)) k (mem_where i (suc a) l x h e))

  none_at_zero : (l : List X) (x : X) → Nth zero l x → ⊥
  none_at_zero [] x h = h
  none_at_zero (y ∷ l) x h = h

  pub numbered : (k : ℕ) (l : List X) (x : X) → Nth k l x → test x ≡ true → Mem k (numbers_where test 1 l)
  numbered zero l x h e = absurd (none_at_zero l x h)
  numbered (suc i) l x h e = let k : 1 + i ≡ suc i = omega arith in subst (λ c. Mem c (numbers_where test 1 l)) k (mem_where i 1 l x h e)

passes_relation : (n : ℕ) (r : Relation) → r.arity ≡ n → is_empty r.terms ≡ false → counts_relation n r ≡ true
passes_relation n r e f = rw f (go (ℕ_discrete r.arity n))
  where
    go : (c : Dec (r.arity ≡ n)) → choose c true false ≡ true
    go (yes _) = refl
    go (no g) = absurd (g e)

passes_question : (n : ℕ) (e : Question) → e.arity ≡ n → counts_question n e ≡ true
passes_question n e f = go (ℕ_discrete e.arity n)
  where
    go : (c : Dec (e.arity ≡ n)) → choose c true false ≡ true
    go (yes _) = refl
    go (no g) = absurd (g f)

-- ---- powers

square : (m : ℕ) → 2 ^ m * 2 ^ m ≡ 4 ^ m
square zero = refl
square (suc m) = rw (pow-suc 2 m, pow-suc 4 m, ← square m) (omega arith)

power_positive : (m : ℕ) → 1 ≤ 4 ^ m
power_positive zero = omega arith
power_positive (suc m) = rw (pow-suc 4 m) (omega (arith, power_positive m))

-- ---- the list

both : List Purpose
both = completion ∷ (certificate ∷ [])

length_both : length both ≡ 2
unfolding both
length_both = refl

either : (z : Purpose) → Mem z both
unfolding both
either completion = inl refl
either certificate = inr (inl refl)

module _ (d : Problem) (n k : ℕ) where
  abbrev trees_of : List (Tree ℕ)
  trees_of = all_trees (labels d.presentation.generators) (item_arity d) n

  abbrev sets : List (List ℕ)
  sets = rising_lists 1 k

  relabellings_for : Purpose → List Item
  relabellings_for z = flat_map (λ r. map (λ w. relabelling z r w) (orderings n)) (numbers_where (counts_relation n) 1 d.presentation.relations)

  sets_of : Purpose → Tree ℕ → List ℕ → List Item
  sets_of z t a = map (λ b. two_places z t a b) sets

  pairs_of : Purpose → Tree ℕ → List Item
  pairs_of z t = flat_map (sets_of z t) sets

  pairs_for : Purpose → List Item
  pairs_for z = flat_map (pairs_of z) trees_of

  asked : List Item
  asked = map question (numbers_where (counts_question n) 1 d.questions)

  traced_by : List ℕ → List Item
  traced_by c = map (λ t. traced c t) trees_of

  -- the items of the first four kinds
  pub four_kinds : List Item
  four_kinds = flat_map relabellings_for both ++ (flat_map pairs_for both ++ (map tail_of trees_of ++ asked))

  pub fifth_kind : List Item
  fifth_kind = flat_map traced_by (cycle_types n)

  -- ---- their number

  tree_count : IsWide d.presentation → length trees_of ≡ tree_number d n
  tree_count wide = (listed (labels d.presentation.generators) (item_arity d) (are_labels d.presentation wide) n).1

  relabelling_count : (z : Purpose) → length (relabellings_for z) ≡ relation_number d n
  unfolding relabellings_for
  relabelling_count z =
      let numbers = numbers_where (counts_relation n) 1 d.presentation.relations in
      let e : length (flat_map (λ r. map (λ w. relabelling z r w) (orderings n)) numbers) ≡ length numbers * length (orderings n)
      = length_each numbers (λ r. map (λ w. relabelling z r w) (orderings n)) (length (orderings n)) (λ r m. length-map (orderings n) (λ w. relabelling z r w)) in
      rw (e, length_where (counts_relation n) 1 d.presentation.relations, length_orderings n) (omega arith)

  pair_count : (z : Purpose) (t : Tree ℕ) → length (pairs_of z t) ≡ 4 ^ k
  unfolding pairs_of sets_of
  pair_count z t =
      length_each sets (sets_of z t) (2 ^ k) (λ a m. length-map sets (λ b. two_places z t a b) ∙ length_rising 1 k)
      ∙ ap (λ c. c * 2 ^ k) (length_rising 1 k) ∙ square k

  pairs_count : (z : Purpose) → length (pairs_for z) ≡ length trees_of * 4 ^ k
  unfolding pairs_for
  pairs_count z = length_each trees_of (pairs_of z) (4 ^ k) (λ t m. pair_count z t)

  asked_count : length asked ≡ question_number d n
  unfolding asked
  asked_count = length-map (numbers_where (counts_question n) 1 d.questions) question ∙ length_where (counts_question n) 1 d.questions

  four_count : length four_kinds ≡ 2 * relation_number d n + (2 * (length trees_of * 4 ^ k) + (length trees_of + question_number d n))
  unfolding four_kinds
  four_count =
      rw (
        length-append (flat_map relabellings_for both) (flat_map pairs_for both ++ (map tail_of trees_of ++ asked)),
        length-append (flat_map pairs_for both) (map tail_of trees_of ++ asked),
        length-append (map tail_of trees_of) asked,
        length_each both relabellings_for (relation_number d n) (λ z m. relabelling_count z),
        length_each both pairs_for (length trees_of * 4 ^ k) (λ z m. pairs_count z),
        length-map trees_of tail_of,
        asked_count,
        length_both,
      ) refl

  pub four_few : IsWide d.presentation → n ≡ suc k → length four_kinds ≤ 2 * relation_number d n + question_number d n + tree_number d n * 4 ^ n
  four_few wide e = rw (four_count, tree_count wide)
      (go (relation_number d n) (question_number d n) (tree_number d n) (4 ^ k) (4 ^ n) (power_positive k) (ap (λ m. 4 ^ m) e ∙ pow-suc 4 k))
    where
      go : (r q t f g : ℕ) → 1 ≤ f → g ≡ f * 4 → 2 * r + (2 * (t * f) + (t + q)) ≤ 2 * r + q + t * g
      go r q t f g one e = let m : t * 1 ≤ t * f = mul-le-mul_left t one in rw e (omega (arith, m))

  pub fifth_few : IsWide d.presentation → length fifth_kind ≡ length (cycle_types n) * tree_number d n
  unfolding fifth_kind traced_by
  fifth_few wide = length_each (cycle_types n) traced_by (tree_number d n) (λ c m. length-map trees_of (λ t. traced c t) ∙ tree_count wide)

  -- ---- each item stands there

  module _ (wide : IsWide d.presentation) where
    listed_tree : (t : Tree ℕ) → IsShuffleTree (item_arity d) n t → Mem t trees_of
    listed_tree t h = (listed (labels d.presentation.generators) (item_arity d) (are_labels d.presentation wide) n).0.each t h

    listed_set : n ≡ suc k → (t : Tree ℕ) (a : List ℕ) → IsShuffleTree (item_arity d) n t → IsConnected t a → Mem a sets
    listed_set e t a h c = connected_rising k t a (let f = few_vertices (item_arity d) n t h in omega (arith, f, e)) c

    abbrev after_relabellings : List Item
    after_relabellings = flat_map pairs_for both ++ (map tail_of trees_of ++ asked)

    pub in_four : n ≡ suc k → (x : Item) → IsItem d n x → ((c : List ℕ) (t : Tree ℕ) → x ≡ traced c t → ⊥) → Mem x four_kinds
    unfolding four_kinds relabellings_for pairs_for pairs_of sets_of asked
    in_four e (relabelling z r w) h other =
        mem_left (relabelling z r w) (flat_map relabellings_for both) after_relabellings
        (mem_flat relabellings_for z (relabelling z r w) both (either z)
        (mem_flat (λ r. map (λ w. relabelling z r w) (orderings n)) r (relabelling z r w) (numbers_where (counts_relation n) 1 d.presentation.relations)
        (numbered (counts_relation n) r d.presentation.relations h.0 h.1 (passes_relation n h.0 h.2 h.3))
        (mem_map (λ w. relabelling z r w) w (orderings n) (((all_orderings n).2 w).1 h.4))))
    in_four e (two_places z t a b) h other =
        mem_right (two_places z t a b) (flat_map relabellings_for both) after_relabellings
        (mem_left (two_places z t a b) (flat_map pairs_for both) (map tail_of trees_of ++ asked)
        (mem_flat pairs_for z (two_places z t a b) both (either z)
        (mem_flat (pairs_of z) t (two_places z t a b) trees_of (listed_tree t h.0)
        (mem_flat (sets_of z t) a (two_places z t a b) sets (listed_set e t a h.0 h.1)
        (mem_map (λ b. two_places z t a b) b sets (listed_set e t b h.0 h.2))))))
    in_four e (tail_of t) h other =
        mem_right (tail_of t) (flat_map relabellings_for both) after_relabellings
        (mem_right (tail_of t) (flat_map pairs_for both) (map tail_of trees_of ++ asked)
        (mem_left (tail_of t) (map tail_of trees_of) asked (mem_map tail_of t trees_of (listed_tree t h))))
    in_four e (question j) h other =
        mem_right (question j) (flat_map relabellings_for both) after_relabellings
        (mem_right (question j) (flat_map pairs_for both) (map tail_of trees_of ++ asked)
        (mem_right (question j) (map tail_of trees_of) asked
        (mem_map question j (numbers_where (counts_question n) 1 d.questions) (numbered (counts_question n) j d.questions h.0 h.1 (passes_question n h.0 h.2)))))
    in_four e (traced c t) h other = absurd (other c t refl)

    pub in_fifth : (c : List ℕ) (t : Tree ℕ) → IsItem d n (traced c t) → Mem (traced c t) fifth_kind
    unfolding fifth_kind traced_by
    in_fifth c t h = mem_flat traced_by c (traced c t) (cycle_types n) (((cycle_types_listed n).2 c).1 h.1) (mem_map (λ t. traced c t) t trees_of (listed_tree t h.2))
