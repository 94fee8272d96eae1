-- What the listing asks of the tables of two leaves.
use Rattle.std.proofs.Common.{◌≡◌, ◌<◌, ◌≤◌, ◌∷◌, [], ℕ, zero, suc, List, length, refl, ap, sym, subst, ◌∙◌, arith, inl, inr}
use Rattle.std.specs.Prelude.{Option, Some, None, IfSome}
use Rattle.std.specs.List.{All}
use Rattle.std.proofs.lemmas.List.Elements.{All-from_recursion, All-head, All-tail}
use Rattle.labelled_trees.specs.Trees.{Tree, leaf, node, row, IsNode}
use Rattle.modular_sums.specs.Lists.{Mem}
use Rattle.shuffle_insertions.specs.ShuffleTrees.{IsShuffle}
use Rattle.shuffle_places.specs.RootPlaces.{IsShuffleAmong}
use Rattle.shuffle_trees.specs.ValidTrees.{IsValid}
use Rattle.tree_store.specs.Stores.{tree_at, IsStore}
use Rattle.tree_store.proofs.Counts.{held_valid}
use Rattle.division.proofs.WholeTrees.{among_of_valid}
use Rattle.normal_listing.specs.Choices.{choices, entry, ArePartsBelow}
use Rattle.normal_listing.specs.Vertices.{generator_of, spelling, vertex, word_of, IsShuffleLead, IsVertex}
use Rattle.normal_listing.specs.Walks.{AreTables, AreWordsOf}
use Rattle.normal_listing.specs.declared.choosing.Tables.{Tables}
use Rattle.normal_listing.specs.declared.labels.Label.{Label}
use Rattle.normal_listing.specs.declared.labels.Lead.{Lead}
use Rattle.normal_listing.specs.declared.parts.Part.{Part}
use Rattle.log_rows.specs.declared.vertices.Corolla.{Corolla}
use Rattle.log_rows.specs.TwoLeaves.{IsCorolla, both_labels, both_parts, each_of}

-- what holds of the lists holds of each entry
pub all_entries : {X : Type 0} (P : X → Type 0) (lists : List (List X)) → All (All P) lists → (l : ℕ) → All P (entry lists l)
all_entries P [] h l = λ k d b. absurd (omega (arith, b))
all_entries P (x ∷ lists) h zero = All-head (All P) x lists h
all_entries P (x ∷ lists) h (suc l) = all_entries P lists (All-tail (All P) x lists h) l

parts_below : (n : ℕ) (p : Part) → Mem p (entry both_parts n) → (p.own < 3) × (p.others < 3)
parts_below zero p m = absurd m
parts_below (suc zero) p m = absurd m
parts_below (suc (suc zero)) p m = absurd m
parts_below (suc (suc (suc zero))) p (inl e) = subst (λ (q : Part). (q.own < 3) × (q.others < 3)) (sym e) (omega arith, omega arith)
parts_below (suc (suc (suc zero))) p (inr m) = absurd m
parts_below (suc (suc (suc (suc n)))) p m = absurd m

-- a tree of the store with two leaves is a lead, where it is a shuffle tree
pub is_lead : (trees : List (Tree ℕ)) (id : ℕ) (corolla : Corolla) → IsCorolla trees id corolla → id < length trees → (lead : Option Lead)
    → IfSome lead (λ x. x.id ≡ id) → IfSome lead (λ x. IsShuffle x.arity (tree_at trees id)) → IfSome lead (IsShuffleLead trees)
is_lead trees id corolla is within None e h = tt
is_lead trees id corolla is within (Some x) e h = record {
  held = subst (λ i. i < length trees) (sym e) within;
  valid = subst (λ i. IsShuffle x.arity (tree_at trees i)) (sym e) h;
  vertex = subst (λ i. IsNode (tree_at trees i)) (sym e) (subst (λ (t : Tree ℕ). IsNode t) (sym is.is) tt);
}

pub sizes : (generator : ℕ) → generator < 22 → (l : ℕ) → l < 2 → (1 < length (word_of (both_labels generator) l)) × (generator_of (both_labels generator) l < 22)
sizes generator h zero b = (omega arith, h)
sizes generator h (suc zero) b = (omega arith, h)
sizes generator h (suc (suc l)) b = absurd (omega (arith, b))

module _ (trees : List (Tree ℕ)) (id : ℕ) (corolla : Corolla) (is : IsCorolla trees id corolla) where
  abbrev first : Tree ℕ
  first = leaf corolla.first_leaf

  abbrev second : Tree ℕ
  second = leaf corolla.second_leaf

  words_at : (labels : List Label) (n : ℕ) → AreWordsOf trees labels (entry (each_of corolla.first corolla.second) n) (entry (each_of (corolla.first_leaf ∷ []) (corolla.second_leaf ∷ [])) n)
  words_at labels zero = refl
  words_at labels (suc zero) = ap (λ t. spelling labels t ∷ []) (sym is.first)
  words_at labels (suc (suc zero)) = ap (λ t. spelling labels t ∷ []) (sym is.second)
  words_at labels (suc (suc (suc n))) = refl

  pub tables_of : (labels : List Label) (t : Tables) → t.ids.now ≡ each_of corolla.first corolla.second → t.words.now ≡ each_of (corolla.first_leaf ∷ []) (corolla.second_leaf ∷ [])
      → t.parted.now ≡ both_parts → AreTables trees labels t
  tables_of labels t x y z =
      let ids : length t.ids.now ≡ 3 = ap length x in
      let words : length t.words.now ≡ 3 = ap length y in
      let parted : length t.parted.now ≡ 4 = ap length z in
      record {
        same = words ∙ sym ids;
        more = omega (arith, ids, parted);
        some = omega (arith, ids);
        words = λ n. subst (λ (l : List (List ℕ)). AreWordsOf trees labels (entry l n) (entry t.words.now n)) (sym x)
            (subst (λ (l : List (List (List ℕ))). AreWordsOf trees labels (entry (each_of corolla.first corolla.second) n) (entry l n)) (sym y) (words_at labels n));
        parts = subst (λ (l : List (List Part)). ArePartsBelow (length t.ids.now) l) (sym z) (λ n p m. let below = parts_below n p m in (omega (arith, below.0, ids), omega (arith, below.1, ids)));
      }

  chosen : (generator l : ℕ) (ids : List ℕ) → l < 2 → Mem ids (choices (each_of corolla.first corolla.second) both_parts (length (word_of (both_labels generator) l)) 3) → ids ≡ corolla.first ∷ corolla.second ∷ []
  chosen generator zero ids h (inl e) = e
  chosen generator zero ids h (inr m) = absurd m
  chosen generator (suc zero) ids h (inl e) = e
  chosen generator (suc zero) ids h (inr m) = absurd m
  chosen generator (suc (suc l)) ids h m = absurd (omega (arith, h))

  -- what holds of a vertex with these leaves holds of one with their ids
  by_ids : (P : Tree ℕ → Type 0) (l : ℕ) → P (node l (row (first ∷ second ∷ []))) → P (vertex trees l (corolla.first ∷ corolla.second ∷ []))
  by_ids P l h = subst (λ t. P (node l (row (t ∷ tree_at trees corolla.second ∷ [])))) (sym is.first) (subst (λ t. P (node l (row (first ∷ t ∷ [])))) (sym is.second) h)

  short : (generator l : ℕ) → l < 2 → length (spelling (both_labels generator) (node l (row (first ∷ second ∷ [])))) ≤ 25
  short generator zero h = let three : length (spelling (both_labels generator) (node 0 (row (first ∷ second ∷ [])))) ≡ 3 = refl in omega (arith, three)
  short generator (suc zero) h = let three : length (spelling (both_labels generator) (node 1 (row (first ∷ second ∷ [])))) ≡ 3 = refl in omega (arith, three)
  short generator (suc (suc l)) h = absurd (omega (arith, h))

  numbers : (generator l : ℕ) → l < 2 → All (λ i. (0 < i) × (i ≤ 2)) (word_of (both_labels generator) l)
  numbers generator zero h = All-from_recursion (λ i. (0 < i) × (i ≤ 2)) (1 ∷ 2 ∷ []) ((omega arith, omega arith), ((omega arith, omega arith), tt))
  numbers generator (suc zero) h = All-from_recursion (λ i. (0 < i) × (i ≤ 2)) (2 ∷ 1 ∷ []) ((omega arith, omega arith), ((omega arith, omega arith), tt))
  numbers generator (suc (suc l)) h = absurd (omega (arith, h))

  module _ (store : IsStore trees) (within : id < length trees) where
    among : (l : ℕ) → IsShuffleAmong 255 (node l (row (first ∷ second ∷ [])))
    among l =
        let a = among_of_valid (node corolla.label (row (first ∷ second ∷ []))) (subst IsValid is.is (held_valid trees id store within)) in
        record { rising = a.rising; once = a.once; only = a.only }

    pub vertices_of : (generator l : ℕ) (ids : List ℕ) → l < 2 → Mem ids (choices (each_of corolla.first corolla.second) both_parts (length (word_of (both_labels generator) l)) 3)
        → IsVertex trees (both_labels generator) l ids
    vertices_of generator l ids h m = subst (IsVertex trees (both_labels generator) l) (sym (chosen generator l ids h m)) (record {
      held = All-from_recursion (λ id. id < length trees) (corolla.first ∷ corolla.second ∷ []) (is.held.0, (is.held.1, tt));
      among = by_ids (IsShuffleAmong 255) l (among l);
      short = by_ids (λ t. length (spelling (both_labels generator) t) ≤ 25) l (short generator l h);
      numbers = numbers generator l h;
    })
