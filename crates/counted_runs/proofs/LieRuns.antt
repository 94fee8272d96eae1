-- Runs over one skew bracket with the Jacobi relation: a stopped one, and why a full one has steps.
use Rattle.std.proofs.Common.{false, ◌≡◌, ℕ, ◌%◌, ◌<◌, ◌≤◌, List, [], ◌∷◌, length, refl, sym, ap, ◌∙◌, arith, subst, inl, inr, ◌⊎◌}
use Rattle.std.specs.List.{sum_by}
use Rattle.std.proofs.lemmas.List.Sums.{sum_by-cons}
use native.Mathlib.Decide.{ℕ_discrete}
use Rattle.modular_sums.specs.Lists.{Mem, Nth}
use Rattle.modular_sums.specs.Sums.{coef, AllTerms}
use Rattle.labelled_trees.specs.Trees.{leaf}
use Rattle.labelled_trees.specs.Labelled.{IsLabelled}
use Rattle.labelled_trees.specs.Equality.{same_leaf, same_node, same_more, tree_discrete_by, row_discrete_by, tree_discrete}
use Rattle.shuffle_insertions.specs.ShuffleTrees.{IsShuffleTree}
use Rattle.shuffle_insertions.proofs.Examples.{l, t1}
use Rattle.shuffle_places.specs.Places.{IsPlace}
use Rattle.shuffle_places.proofs.Examples.{top_two}
use Rattle.shuffle_bases.specs.Elements.{Element, Insertion}
use Rattle.shuffle_bases.proofs.Examples.{jacobi}
use Rattle.shuffle_reductions.specs.Chains.{IsChain, IsStopped}
use Rattle.shuffle_reductions.proofs.Steps.{divides_tree}
use Rattle.operad_ideals.specs.Presentations.{Relation, arity_of}
use Rattle.shuffle_transfer.specs.Orderings.{IsOrdering}
use Rattle.shuffle_transfer.specs.Labels.{inputs_of, word_discrete, same_cons, letter_discrete, same_letter}
use Rattle.shuffle_transfer.specs.Transfer.{relabelled, shuffled}
use Rattle.shuffle_transfer.specs.GroebnerBases.{setting}
use Rattle.shuffle_transfer.specs.NormalTrees.{by_path, compare}
use Rattle.shuffle_transfer.proofs.Orderings.{all_orderings}
use Rattle.shuffle_transfer.proofs.Jacobi.{lie, sound, certified, wide, valid_t1}
use Rattle.counted_runs.specs.Items.{Question, Problem, AsksElements, Purpose, relabelling, question, IsItem}
use Rattle.counted_runs.specs.Rows.{SameSum, AreIdealElements, IsRow}
use Rattle.counted_runs.specs.Runs.{Entry, HasFinished, HasStopped, IsEntry, IsStoppedRun, run_length}
use Rattle.counted_runs.specs.Enough.{enough}
use Rattle.counted_runs.specs.FullRuns.{InSequence, IsRelationOrPair, HasLeadingTree, IsLastLead, KeepsLead, IsFullRun}
use Rattle.counted_runs.proofs.StoppedRuns.{stopped_runs_short, stopped_chains_stop}
use Rattle.counted_runs.proofs.Lie.{bracket, one_question, ordered, none_above, place_t1}

abbrev pub BracketEntry : Type 0
BracketEntry = Entry lie (compare lie.generators by_path)

-- ---- a stopped run: the one question, of which nothing is reduced

pub lie_elements : AreIdealElements lie (compare lie.generators by_path) (jacobi ∷ [])
lie_elements = record { monic = certified.monic; in_ideal = certified.in_ideal }

unfoldable pub unreduced : BracketEntry
unreduced = record { arity = 3; item = question 1; elements = jacobi ∷ []; row = (1, t1) ∷ []; steps = []; last = (1, t1) ∷ [] }

-- l(l(1,2),3) is the leading tree of the Jacobi element
abbrev pub insertion_t1 : Insertion (setting lie (compare lie.generators by_path) (jacobi ∷ [])) 3
insertion_t1 = record { of = jacobi; member = inl refl; tree = t1; set = top_two; valid = valid_t1; place = place_t1 }

one_isnt_zero : 1 % 101 ≡ 0 % 101 → ⊥
one_isnt_zero e = absurd (omega (arith, e))

pub unreduced_stops : HasStopped unreduced
unfolding unreduced coef ℕ_discrete tree_discrete tree_discrete_by row_discrete_by same_leaf same_node same_more
unreduced_stops = (insertion_t1, one_isnt_zero)

unreduced_row : SameSum lie ((1, t1) ∷ []) (shuffled lie ((1, t1) ∷ []))
unfolding word_discrete same_cons letter_discrete same_letter ℕ_discrete
unreduced_row = λ t. refl

pub unreduced_entry : IsEntry (bracket one_question false) 3 unreduced
unfolding unreduced
unreduced_entry = record {
  from_two = omega arith;
  to_most = omega arith;
  is_item = (record { arity = 3; terms = (1, t1) ∷ [] }, refl, refl);
  row_is = (record { arity = 3; terms = (1, t1) ∷ [] }, refl, unreduced_row);
  ideal_elements = lie_elements;
  chain = λ t. refl;
  over_reduced = λ c t e. absurd (cc e);
}

unreduced_run : IsStoppedRun (bracket one_question false) 3 (unreduced ∷ [])
unfolding unreduced
unreduced_run = record {
  is_run = record { entries = λ x m. entry x m; once = (λ m. m, tt); finished = tt };
  stopped = unreduced_stops;
}
  where
    entry : (x : BracketEntry) → Mem x (unreduced ∷ []) → IsEntry (bracket one_question false) 3 x
    entry x (inl e) = subst (IsEntry (bracket one_question false) 3) (sym e) unreduced_entry
    entry x (inr m) = absurd m

-- l(l(1,2),3) + l(l(2,3),1) + l(l(3,1),2)
abbrev pub jacobi_relation : Relation
jacobi_relation = record { arity = 3; terms = (1, t1) ∷ ((1, l (l (leaf 2) (leaf 3)) (leaf 1)) ∷ ((1, l (l (leaf 3) (leaf 1)) (leaf 2)) ∷ [])) }

pub labelled_t1 : IsLabelled (arity_of lie) 3 t1
labelled_t1 = (sound jacobi_relation (inl refl)).0

-- what is asked is an element of arity 3
asks_one : AsksElements (bracket one_question false)
asks_one e (inl p) = subst (λ (x : Question). AllTerms x.terms (IsLabelled (arity_of lie) x.arity)) (sym p) (labelled_t1, tt)
asks_one e (inr m) = absurd m

-- the law at this run
pub unreduced_short : run_length (unreduced ∷ []) < enough (bracket one_question false) 3
unreduced_short = (stopped_runs_short (bracket one_question false) wide ordered 3 (unreduced ∷ []) unreduced_run).0 refl

-- its chain is stopped
chain_stops : IsStopped (setting lie (compare lie.generators by_path) (jacobi ∷ [])) ((1, t1) ∷ [])
unfolding coef ℕ_discrete tree_discrete tree_discrete_by row_discrete_by same_leaf same_node same_more
chain_stops = record { at = t1; there = one_isnt_zero; divided = divides_tree (setting lie (compare lie.generators by_path) (jacobi ∷ [])) 3 insertion_t1 }

-- so the entry has stopped
so_stopped : HasStopped unreduced
unfolding unreduced
so_stopped = stopped_chains_stop (bracket one_question false) sound asks_one ordered 3 unreduced unreduced_entry chain_stops

-- ---- a full run has steps: of two permutations of the relation, the leading tree of the first row divides the second

-- two members of a list, one before the other
in_turn : {X : Type 0} (R : X → X → Type 0) (l : List X) (x y : X) → InSequence R l → Mem x l → Mem y l → (x ≡ y) ⊎ (R x y ⊎ R y x)
in_turn R [] x y s m n = absurd m
in_turn R (z ∷ l) x y s (inl e) (inl f) = inl (e ∙ sym f)
in_turn R (z ∷ l) x y s (inl e) (inr n) = inr (inl (subst (λ w. R w y) (sym e) (s.0 y n)))
in_turn R (z ∷ l) x y s (inr m) (inl f) = inr (inr (subst (λ w. R w x) (sym f) (s.0 x m)))
in_turn R (z ∷ l) x y s (inr m) (inr n) = in_turn R l x y s.1 m n

-- a member counts no more than all
part_of_sum : {X : Type 0} (f : X → ℕ) (l : List X) (x : X) → Mem x l → f x ≤ sum_by f l
part_of_sum f [] x m = absurd m
part_of_sum f (y ∷ l) x (inl e) = let k : f x ≡ f y = ap f e in omega (arith, sum_by-cons f y l, k)
part_of_sum f (y ∷ l) x (inr m) = omega (arith, sum_by-cons f y l, part_of_sum f l x m)

no_steps : {X : Type 0} (l : List X) → length l ≡ 0 → l ≡ []
no_steps [] e = refl
no_steps (x ∷ l) e = absurd (omega (arith, e))

abbrev pub first_order : List ℕ
first_order = 1 ∷ (2 ∷ (3 ∷ []))

abbrev pub second_order : List ℕ
second_order = 1 ∷ (3 ∷ (2 ∷ []))

-- the coefficients at l(l(1,2),3) of the two relabelled relations: 1 and -1
pub coefs : (r : Relation) → Nth 1 lie.relations r → (coef tree_discrete (shuffled lie (relabelled first_order r.terms)) t1 % 101 ≡ 1) × (coef tree_discrete (shuffled lie (relabelled second_order r.terms)) t1 % 101 ≡ 100)
unfolding word_discrete same_cons letter_discrete same_letter coef ℕ_discrete tree_discrete tree_discrete_by row_discrete_by same_leaf same_node same_more
coefs r e = subst (λ x. (coef tree_discrete (shuffled lie (relabelled first_order x.terms)) t1 % 101 ≡ 1) × (coef tree_discrete (shuffled lie (relabelled second_order x.terms)) t1 % 101 ≡ 100)) (sym e) (refl, refl)

-- an entry of the relation with one of these two permutations
record IsOneOf (x : BracketEntry) : Type 0 where
  reduced : IsRelationOrPair x.item
  arity_is : x.arity ≡ 3
  there : coef tree_discrete x.row t1 % 101 ≡ 0 → ⊥

module _ (questions : List Question) (N : ℕ) where
  abbrev d : Problem
  d = bracket questions false

  one_of : (x : BracketEntry) → IsEntry d N x → (z : Purpose) (w : List ℕ) → x.item ≡ relabelling z 1 w
      → ((r : Relation) → Nth 1 lie.relations r → coef tree_discrete (shuffled lie (relabelled w r.terms)) t1 % 101 ≡ 0 → ⊥) → IsOneOf x
  one_of x h z w e nonzero =
      let i : IsItem d x.arity (relabelling z 1 w) = subst (IsItem d x.arity) e h.is_item in
      let r : IsRow d (relabelling z 1 w) x.row = subst (λ j. IsRow d j x.row) e h.row_is in
      record {
        reduced = subst IsRelationOrPair (sym e) tt;
        arity_is = sym i.2 ∙ ap (λ (k : Relation). k.arity) i.1;
        there = λ k. nonzero r.0 r.1 (sym (r.2 t1) ∙ k);
      }

  -- without steps the last row is the first
  unchanged : (x : BracketEntry) → IsEntry d N x → length x.steps ≡ 0 → SameSum lie x.row x.last
  unchanged x h e = subst (λ s. IsChain (setting lie (compare lie.generators by_path) x.elements) x.arity x.row s x.last) (no_steps x.steps e) h.chain

  -- its leading tree is l(l(1,2),3)
  leads : (x : BracketEntry) → IsEntry d N x → IsOneOf x → length x.steps ≡ 0 → IsLastLead x t1
  leads x h o e = record {
    valid = subst (λ n. IsShuffleTree (inputs_of lie.generators) n t1) (sym o.arity_is) valid_t1;
    leads = record {
      there = λ z. o.there (unchanged x h e t1 ∙ z);
      above = λ u v less. absurd (none_above u (subst (λ n. IsShuffleTree (inputs_of lie.generators) n u) o.arity_is v) less);
    };
  }

  -- which a leading tree may not be, where no step is left
  divided : (y : BracketEntry) → IsEntry d N y → HasFinished y → IsOneOf y → length y.steps ≡ 0 → HasLeadingTree y.elements t1 → ⊥
  divided y h f o e lead = f t1 (λ z. o.there (unchanged y h e t1 ∙ z)) lead.0 lead.1 top_two (subst (IsPlace t1 top_two) (sym lead.2) place_t1)

  -- an entry of the relation with a permutation, in a run without steps
  record Found (w : List ℕ) (run : List BracketEntry) : Type 0 where
    entry : BracketEntry
    member : Mem entry run
    purpose : Purpose
    item_is : entry.item ≡ relabelling purpose 1 w
    no_steps : length entry.steps ≡ 0

  found : 3 ≤ N → (basis : List Element) (run : List BracketEntry) → IsFullRun d N basis run → run_length run ≡ 0 → (w : List ℕ) → IsOrdering 3 w → Found w run
  found most basis run f none w o =
      let k = f.relations 1 jacobi_relation refl refl (omega arith) most w o in
      record {
        entry = k.1.0;
        member = k.1.1;
        purpose = k.0;
        item_is = k.1.2;
        no_steps = let part = part_of_sum (λ (x : BracketEntry). length x.steps) run k.1.0 k.1.1 in omega (arith, part, none);
      }

  one_found : 3 ≤ N → (basis : List Element) (run : List BracketEntry) → IsFullRun d N basis run → run_length run ≡ 0 → Found first_order run × Found second_order run
  one_found most basis run f none = (
    found most basis run f none first_order (((all_orderings 3).2 first_order).0 (inl refl)),
    found most basis run f none second_order (((all_orderings 3).2 second_order).0 (inr (inl refl))),
  )

  different : (y z : Purpose) → relabelling y 1 first_order ≡ relabelling z 1 second_order → ⊥
  different y z e = cc e

  pub no_empty_full_run : 3 ≤ N → (basis : List Element) (run : List BracketEntry) → IsFullRun d N basis run → run_length run ≡ 0 → ⊥
  no_empty_full_run most basis run f none = go (one_found most basis run f none)
    where
      go : Found first_order run × Found second_order run → ⊥
      go p = turn (in_turn KeepsLead run a.entry b.entry f.leads a.member b.member)
        where
          a : Found first_order run
          a = p.0

          b : Found second_order run
          b = p.1

          entry_a : IsEntry d N a.entry
          entry_a = f.finished.is_run.entries a.entry a.member

          entry_b : IsEntry d N b.entry
          entry_b = f.finished.is_run.entries b.entry b.member

          one_a : IsOneOf a.entry
          one_a = one_of a.entry entry_a a.purpose first_order a.item_is (λ r e z. let k = (coefs r e).0 in absurd (omega (arith, k, z)))

          one_b : IsOneOf b.entry
          one_b = one_of b.entry entry_b b.purpose second_order b.item_is (λ r e z. let k = (coefs r e).1 in absurd (omega (arith, k, z)))

          turn : (a.entry ≡ b.entry) ⊎ (KeepsLead a.entry b.entry ⊎ KeepsLead b.entry a.entry) → ⊥
          turn (inl e) = different a.purpose b.purpose (sym a.item_is ∙ ap (λ (x : BracketEntry). x.item) e ∙ b.item_is)
          turn (inr (inl keeps)) = divided b.entry entry_b (f.finished.all_finished b.entry b.member) one_b b.no_steps
              (keeps one_a.reduced one_b.reduced (one_a.arity_is ∙ sym one_b.arity_is) t1 (leads a.entry entry_a one_a a.no_steps))
          turn (inr (inr keeps)) = divided a.entry entry_a (f.finished.all_finished a.entry a.member) one_a a.no_steps
              (keeps one_b.reduced one_a.reduced (one_b.arity_is ∙ sym one_a.arity_is) t1 (leads b.entry entry_b one_b b.no_steps))

-- at arity 4, whatever is asked
pub four_needs_steps : (questions : List Question) (basis : List Element) (run : List BracketEntry) → IsFullRun (bracket questions false) 4 basis run → run_length run ≡ 0 → ⊥
four_needs_steps questions = no_empty_full_run questions 4 (omega arith)
