-- An example of the loops: two skew brackets a and b with the relations b - a and a, through arity 2.
use Rattle.std.proofs.Common.{true, false, ◌≡◌, ℕ, zero, suc, ◌*◌, ◌≤◌, List, [], ◌∷◌, refl, sym, ap, arith, subst, inl, inr, ◌⊎◌}
use Rattle.std.specs.declared.cmp.Ordering.{Ordering}
use Rattle.std.specs.declared.cmp.Ordering.TheVariants.{Less}
use mathlib.Core.List.{◌++◌}
use native.Mathlib.Decide.{ℕ_discrete}
use Rattle.modular_sums.specs.Lists.{Mem, has_by}
use Rattle.modular_sums.specs.Sums.{coef, scale, AllTerms}
use Rattle.modular_sums.proofs.Lists.{has_by_mem}
use Rattle.modular_sums.proofs.Sameness.{same_if_agree}
use Rattle.labelled_trees.specs.Trees.{Tree, leaf, node, none, more}
use Rattle.labelled_trees.specs.Labelled.{IsLabelled}
use Rattle.labelled_trees.specs.Equality.{same_leaf, same_node, same_more, tree_discrete_by, row_discrete_by, tree_discrete}
use Rattle.shuffle_insertions.specs.ShuffleTrees.{IsShuffleTree}
use Rattle.shuffle_insertions.specs.Orders.{IsTreeOrder}
use Rattle.shuffle_insertions.specs.Listing.{all_trees}
use Rattle.shuffle_insertions.proofs.Laws.{listed}
use Rattle.shuffle_places.specs.Places.{IsPlace}
use Rattle.shuffle_places.proofs.Laws.{places_listed}
use Rattle.shuffle_bases.specs.Elements.{Element, terms, IsMonic, Insertion, value_of}
use Rattle.shuffle_normal_forms.specs.FreeTrees.{IsFree}
use Rattle.shuffle_normal_forms.specs.NormalForms.{IsAtMost}
use Rattle.shuffle_reductions.specs.Chains.{StandsIn, IsFinished}
use Rattle.shuffle_reductions.proofs.Standing.{has_all}
use Rattle.operad_ideals.specs.Parts.{skew}
use Rattle.operad_ideals.specs.Presentations.{Relation, Presentation, arity_of, IsWide, IsSound, IsProper}
use Rattle.shuffle_transfer.specs.Labels.{labels, inputs_of, word_discrete, same_cons, letter_discrete, same_letter}
use Rattle.shuffle_transfer.specs.Transfer.{relabelled, shuffled}
use Rattle.shuffle_transfer.specs.GroebnerBases.{setting}
use Rattle.shuffle_transfer.specs.NormalTrees.{by_path, compare}
use Rattle.shuffle_transfer.proofs.ShuffleFormsFit.{back_labelled}
use Rattle.shuffle_transfer.proofs.Labels.{are_labels}
use Rattle.shuffle_transfer.proofs.NormalTrees.{order_of}
use Rattle.shuffle_completion.specs.Completion.{IsMultipleOf}
use Rattle.counted_runs.specs.Items.{Problem}
use Rattle.counted_runs.specs.Calls.{CountsStoppedCompletion, CountsFullRun}
use Rattle.counted_runs.specs.Jobs.{Job, relabel, AreJobs}
use Rattle.counted_runs.specs.Reductions.{ReducesTo}
use Rattle.counted_runs.specs.Stages.{IsGiven, IsThrough, IsAtRows, IsAtTails}
use Rattle.counted_runs.proofs.Arities.{loop_begins, arity_is_done, loop_ends}
use Rattle.counted_runs.proofs.RelationJobs.{are_jobs}
use Rattle.counted_runs.proofs.Rows.{rows_begin, row_ends_in_zero, row_ends_in_element, row_stops}
use Rattle.counted_runs.proofs.Tails.{tails_begin, tail_is_reduced, tail_stops}

abbrev Sum : Type 0
Sum = List (ℕ × Tree ℕ)

abbrev a : Tree ℕ
a = node 0 (more (leaf 1) (more (leaf 2) none))

abbrev b : Tree ℕ
b = node 1 (more (leaf 1) (more (leaf 2) none))

abbrev difference : Relation
difference = record { arity = 2; terms = (1, b) ∷ ((100, a) ∷ []) }

abbrev one_alone : Relation
one_alone = record { arity = 2; terms = (1, a) ∷ [] }

abbrev two : Presentation
two = record { q = 100; generators = (record { kind = skew; size = 2 } ∷ []) ∷ ((record { kind = skew; size = 2 } ∷ []) ∷ []); relations = difference ∷ (one_alone ∷ []) }

abbrev cmp : Tree ℕ → Tree ℕ → Ordering
cmp = compare two.generators by_path

abbrev d : Problem
d = record { presentation = two; compare = cmp; questions = []; traces = false }

-- ---- what is given

wide : IsWide two
wide zero h = omega arith
wide (suc zero) h = omega arith
wide (suc (suc g)) h = absurd (omega (arith, h))

order : IsTreeOrder (inputs_of two.generators) cmp
order = order_of two.generators by_path

valid_at : (t : Tree ℕ) → has_by tree_discrete (all_trees (labels two.generators) (inputs_of two.generators) 2) t ≡ true → IsShuffleTree (inputs_of two.generators) 2 t
valid_at t h = (listed (labels two.generators) (inputs_of two.generators) (are_labels two wide) 2).0.only t (has_by_mem tree_discrete (all_trees (labels two.generators) (inputs_of two.generators) 2) t h)

valid_a : IsShuffleTree (inputs_of two.generators) 2 a
unfolding ℕ_discrete tree_discrete tree_discrete_by row_discrete_by same_leaf same_node same_more
valid_a = valid_at a refl

valid_b : IsShuffleTree (inputs_of two.generators) 2 b
unfolding ℕ_discrete tree_discrete tree_discrete_by row_discrete_by same_leaf same_node same_more
valid_b = valid_at b refl

a_less : cmp a b ≡ Less
unfolding ℕ_discrete
a_less = refl

sound : IsSound two
sound r (inl e) = subst (λ (x : Relation). AllTerms x.terms (IsLabelled (arity_of two) x.arity)) (sym e) (back_labelled two.generators 2 b valid_b, (back_labelled two.generators 2 a valid_a, tt))
sound r (inr (inl e)) = subst (λ (x : Relation). AllTerms x.terms (IsLabelled (arity_of two) x.arity)) (sym e) (back_labelled two.generators 2 a valid_a, tt)
sound r (inr (inr m)) = absurd m

proper : IsProper two
proper r (inl e) = subst (λ (x : Relation). (x.terms ≡ []) ⊎ (2 ≤ x.arity)) (sym e) (inr (omega arith))
proper r (inr (inl e)) = subst (λ (x : Relation). (x.terms ≡ []) ⊎ (2 ≤ x.arity)) (sym e) (inr (omega arith))
proper r (inr (inr m)) = absurd m

pub given : IsGiven d
given = record { sound = sound; wide = wide; proper = proper; positive = omega arith; order = order }

place_a : IsPlace a (1 ∷ []) a
unfolding ℕ_discrete tree_discrete tree_discrete_by row_discrete_by same_leaf same_node same_more
place_a = ((places_listed a a tt).0 (1 ∷ [])).0 (inl refl)

place_b : IsPlace b (1 ∷ []) b
unfolding ℕ_discrete tree_discrete tree_discrete_by row_discrete_by same_leaf same_node same_more
place_b = ((places_listed b b tt).0 (1 ∷ [])).0 (inl refl)

-- ---- the elements

abbrev first : Element
first = record { arity = 2; lead = b; tail = (100, a) ∷ [] }

abbrev second : Element
second = record { arity = 2; lead = a; tail = [] }

abbrev bare : Element
bare = record { arity = 2; lead = b; tail = [] }

first_monic : (l : List Element) → IsMonic (setting two cmp l) first
first_monic l = record { lead_valid = valid_b; lead_node = tt; tail_valid = ((valid_a, a_less), tt) }

second_monic : (l : List Element) → IsMonic (setting two cmp l) second
second_monic l = record { lead_valid = valid_a; lead_node = tt; tail_valid = tt }

whole_b : Insertion (setting two cmp (first ∷ [])) 2
whole_b = record { of = first; member = inl refl; tree = b; set = 1 ∷ []; valid = valid_b; place = place_b }

whole_a : Insertion (setting two cmp (first ∷ (second ∷ []))) 2
whole_a = record { of = second; member = inr (inl refl); tree = a; set = 1 ∷ []; valid = valid_a; place = place_a }

-- b isn't a divisor of a
no_b_in_a : (set : List ℕ) → IsPlace a set b → ⊥
unfolding ℕ_discrete tree_discrete tree_discrete_by row_discrete_by same_leaf same_node same_more
no_b_in_a set p = ((places_listed b a tt).0 set).1 p

a_free : IsFree (setting two cmp (first ∷ [])) a
a_free g (inl e) set p = no_b_in_a set (subst (λ (x : Element). IsPlace a set x.lead) e p)
a_free g (inr m) set p = absurd m

-- ---- the rows

abbrev forth : List ℕ
forth = 1 ∷ (2 ∷ [])

abbrev back : List ℕ
back = 2 ∷ (1 ∷ [])

abbrev row : Relation → List ℕ → Sum
row r v = shuffled two (relabelled v r.terms)

abbrev j1 : Job
j1 = relabel 1 difference forth

abbrev j2 : Job
j2 = relabel 1 difference back

abbrev j3 : Job
j3 = relabel 2 one_alone forth

abbrev j4 : Job
j4 = relabel 2 one_alone back

all_jobs : AreJobs two [] 2 (j1 ∷ (j2 ∷ (j3 ∷ (j4 ∷ []))))
unfolding ℕ_discrete
all_jobs = are_jobs two [] (λ g h m. absurd m) 2 [] (λ j m. absurd m) tt (λ g h o. absurd o)

start : IsThrough d 2 1 [] 0
start = loop_begins d 2 given

at_rows : IsAtRows d 2 1 [] [] [] (j1 ∷ (j2 ∷ (j3 ∷ (j4 ∷ [])))) 0
at_rows = rows_begin d 2 1 [] 0 start (omega arith) (omega arith) (j1 ∷ (j2 ∷ (j3 ∷ (j4 ∷ [])))) all_jobs

-- the first is b - a, a new element
multiple_first : IsMultipleOf 100 (row difference forth) first
unfolding word_discrete same_cons letter_discrete same_letter ℕ_discrete tree_discrete tree_discrete_by row_discrete_by same_leaf same_node same_more coef scale
multiple_first = record { factor = 1; inverse = 1; inverts = refl; is = same_if_agree tree_discrete 100 (row difference forth) (scale 1 (terms first)) refl }

after_one : IsAtRows d 2 1 [] (first ∷ []) (j1 ∷ []) (j2 ∷ (j3 ∷ (j4 ∷ []))) 0
after_one = row_ends_in_element d 2 1 given [] [] [] j1 (j2 ∷ (j3 ∷ (j4 ∷ []))) 0 at_rows (row difference forth) 0
    record { uses = []; chain = λ t. refl; finished = λ t h g m. absurd m; count_is = refl } first refl (first_monic []) multiple_first

-- with no steps left the second stops
stands_b : StandsIn 100 (row difference back) b
unfolding word_discrete same_cons letter_discrete same_letter ℕ_discrete tree_discrete tree_discrete_by row_discrete_by same_leaf same_node same_more coef
stands_b z = absurd (omega (arith, z))

row_stopped : CountsStoppedCompletion d 2 0 0 (row difference back)
unfolding whole_b
row_stopped = row_stops d 2 1 [] (first ∷ []) (j1 ∷ []) j2 (j3 ∷ (j4 ∷ [])) 0 after_one (row difference back) 0
    record { uses = []; chain = λ t. refl; stopped = (whole_b, stands_b); count_is = refl } 0

-- it is less the first, so one step leads to 0
nothing_stands : (t : Tree ℕ) → StandsIn 100 [] t → ⊥
unfolding coef
nothing_stands t h = h refl

minus_first : ReducesTo (setting two cmp (first ∷ [])) 2 (row difference back) [] 1
unfolding whole_b word_discrete same_cons letter_discrete same_letter ℕ_discrete tree_discrete tree_discrete_by row_discrete_by same_leaf same_node same_more coef scale
minus_first = record {
  uses = (100, whole_b) ∷ [];
  chain = (
    record {
      there = λ z. absurd (omega (arith, z));
      greatest = λ t m g. has_all tree_discrete 100 (λ u. IsAtMost (setting two cmp (first ∷ [])) u b) (row difference back) (inl refl, (inr refl, tt)) t m;
      coefficient = refl;
    },
    same_if_agree tree_discrete 100 (row difference back ++ scale (100 * 100) (value_of whole_b)) [] refl,
  );
  finished = λ t h. absurd (nothing_stands t h);
  count_is = refl;
}

after_two : IsAtRows d 2 1 [] (first ∷ []) (j1 ∷ (j2 ∷ [])) (j3 ∷ (j4 ∷ [])) 1
after_two = row_ends_in_zero d 2 1 given [] (first ∷ []) (j1 ∷ []) j2 (j3 ∷ (j4 ∷ [])) 0 after_one 1 minus_first

-- the third is a, another element
multiple_second : IsMultipleOf 100 (row one_alone forth) second
unfolding word_discrete same_cons letter_discrete same_letter ℕ_discrete tree_discrete tree_discrete_by row_discrete_by same_leaf same_node same_more coef scale
multiple_second = record { factor = 1; inverse = 1; inverts = refl; is = same_if_agree tree_discrete 100 (row one_alone forth) (scale 1 (terms second)) refl }

row_free : IsFinished (setting two cmp (first ∷ [])) (row one_alone forth)
unfolding word_discrete same_cons letter_discrete same_letter ℕ_discrete
row_free = has_all tree_discrete 100 (IsFree (setting two cmp (first ∷ []))) (row one_alone forth) (a_free, tt)

after_three : IsAtRows d 2 1 [] (first ∷ (second ∷ [])) (j1 ∷ (j2 ∷ (j3 ∷ []))) (j4 ∷ []) 1
after_three = row_ends_in_element d 2 1 given [] (first ∷ []) (j1 ∷ (j2 ∷ [])) j3 (j4 ∷ []) 1 after_two (row one_alone forth) 0
    record { uses = []; chain = λ t. refl; finished = row_free; count_is = refl } second refl (second_monic (first ∷ [])) multiple_second

-- the fourth is less it
minus_second : ReducesTo (setting two cmp (first ∷ (second ∷ []))) 2 (row one_alone back) [] 1
unfolding whole_a word_discrete same_cons letter_discrete same_letter ℕ_discrete tree_discrete tree_discrete_by row_discrete_by same_leaf same_node same_more coef scale
minus_second = record {
  uses = (100, whole_a) ∷ [];
  chain = (
    record {
      there = λ z. absurd (omega (arith, z));
      greatest = λ t m g. has_all tree_discrete 100 (λ u. IsAtMost (setting two cmp (first ∷ (second ∷ []))) u a) (row one_alone back) (inl refl, tt) t m;
      coefficient = refl;
    },
    same_if_agree tree_discrete 100 (row one_alone back ++ scale (100 * 100) (value_of whole_a)) [] refl,
  );
  finished = λ t h. absurd (nothing_stands t h);
  count_is = refl;
}

after_four : IsAtRows d 2 1 [] (first ∷ (second ∷ [])) (j1 ∷ (j2 ∷ (j3 ∷ (j4 ∷ [])))) [] 2
after_four = row_ends_in_zero d 2 1 given [] (first ∷ (second ∷ [])) (j1 ∷ (j2 ∷ (j3 ∷ []))) j4 [] 1 after_three 1 minus_second

-- ---- the tails

at_tails : IsAtTails d 2 1 (first ∷ (second ∷ [])) (first ∷ (second ∷ [])) (b ∷ (a ∷ [])) 2
at_tails = tails_begin d 2 1 given [] (first ∷ (second ∷ [])) (j1 ∷ (j2 ∷ (j3 ∷ (j4 ∷ [])))) 2 after_four (b ∷ (a ∷ [])) (apart, ((λ m. m), tt)) leads from
  where
    apart : Mem b (a ∷ []) → ⊥
    apart (inl e) = cc e
    apart (inr m) = m

    leads : (g : Element) → Mem g (first ∷ (second ∷ [])) → Mem g.lead (b ∷ (a ∷ []))
    leads g (inl e) = inl (ap (λ (x : Element). x.lead) e)
    leads g (inr (inl e)) = inr (inl (ap (λ (x : Element). x.lead) e))
    leads g (inr (inr m)) = absurd m

    from : (t : Tree ℕ) → Mem t (b ∷ (a ∷ [])) → (g : Element) × Mem g (first ∷ (second ∷ [])) × (g.lead ≡ t)
    from t (inl e) = (first, inl refl, sym e)
    from t (inr (inl e)) = (second, inr (inl refl), sym e)
    from t (inr (inr m)) = absurd m

stands_a : StandsIn 100 first.tail a
unfolding ℕ_discrete tree_discrete tree_discrete_by row_discrete_by same_leaf same_node same_more coef
stands_a z = absurd (omega (arith, z))

-- with no steps left the tail of the first stops
tail_stopped : CountsStoppedCompletion d 2 0 2 first.tail
unfolding whole_a
tail_stopped = tail_stops d 2 1 given (first ∷ (second ∷ [])) [] first (second ∷ []) (a ∷ []) 2 at_tails first.tail 0
    record { uses = []; chain = λ t. refl; stopped = (whole_a, stands_a); count_is = refl } 0

-- one step leads to 0
tail_to_zero : ReducesTo (setting two cmp (first ∷ (second ∷ []))) 2 first.tail [] 1
unfolding whole_a ℕ_discrete tree_discrete tree_discrete_by row_discrete_by same_leaf same_node same_more coef scale
tail_to_zero = record {
  uses = (100, whole_a) ∷ [];
  chain = (
    record {
      there = λ z. absurd (omega (arith, z));
      greatest = λ t m g. has_all tree_discrete 100 (λ u. IsAtMost (setting two cmp (first ∷ (second ∷ []))) u a) first.tail (inl refl, tt) t m;
      coefficient = refl;
    },
    same_if_agree tree_discrete 100 (first.tail ++ scale (100 * 100) (value_of whole_a)) [] refl,
  );
  finished = λ t h. absurd (nothing_stands t h);
  count_is = refl;
}

after_tail : IsAtTails d 2 1 (first ∷ (second ∷ [])) (bare ∷ (second ∷ [])) (a ∷ []) 3
after_tail = tail_is_reduced d 2 1 given (first ∷ (second ∷ [])) [] first (second ∷ []) (a ∷ []) 2 at_tails [] 1 tail_to_zero tt

after_tails : IsAtTails d 2 1 (first ∷ (second ∷ [])) (bare ∷ (second ∷ [])) [] 3
after_tails = tail_is_reduced d 2 1 given (first ∷ (second ∷ [])) (bare ∷ []) second [] [] 3 after_tail [] 0
    record { uses = []; chain = λ t. refl; finished = λ t h. absurd (nothing_stands t h); count_is = refl } tt

-- ---- the end: a full run of three steps over b and a

through_two : IsThrough d 2 2 (bare ∷ (second ∷ [])) 3
through_two = arity_is_done d 2 1 given (first ∷ (second ∷ [])) (bare ∷ (second ∷ [])) 3 after_tails

pub three_steps : CountsFullRun d 2 (bare ∷ (second ∷ [])) 0 3
three_steps = loop_ends d 2 given (bare ∷ (second ∷ [])) 3 through_two 0
