-- An example: the Jacobi element over one binary label as the rule of the greatest of the three trees of arity 3.
use Rattle.std.proofs.Common.{◌≡◌, ℕ, zero, suc, ◌*◌, ◌<◌, ◌≤◌, List, [], ◌∷◌, Option, Some, None, refl, sym, ap, ◌∙◌, subst, arith, inl, inr, ◌⊎◌}
use mathlib.Core.List.{◌++◌}
use native.Mathlib.Decide.{ℕ_discrete}
use Rattle.std.specs.List.{slice_get}
use Rattle.modular_sums.specs.Sums.{coef, scale, AllTerms}
use Rattle.modular_sums.proofs.Sameness.{same_if_agree}
use Rattle.labelled_trees.specs.Trees.{Tree}
use Rattle.labelled_trees.specs.Equality.{same_leaf, same_node, same_more, tree_discrete_by, row_discrete_by, tree_discrete}
use Rattle.shuffle_insertions.proofs.Examples.{valid_at, by_path, t1, t2, t3}
use Rattle.shuffle_places.proofs.Laws.{places_listed}
use Rattle.shuffle_places.proofs.Examples.{top_two}
use Rattle.shuffle_bases.specs.Elements.{Element, IsMonic, AreMonic, Insertion, value_of}
use Rattle.shuffle_bases.proofs.Examples.{jacobi, setting, monic}
use Rattle.modular_sums.specs.Lists.{Mem}
use Rattle.shuffle_reductions.specs.Extensions.{with_elements as with_elements}
use Rattle.shuffle_reductions.proofs.Laws.{lists_grow, elements_extend_themselves}
use Rattle.shuffle_reductions.specs.TableGrowth.{IsChanged, AreValid}
use Rattle.shuffle_reductions.proofs.GrownTables.{tables_change_lem, tables_grow_lem}
use Rattle.shuffle_normal_forms.specs.FreeTrees.{IsFree}
use Rattle.shuffle_normal_forms.proofs.Leading.{one_not_zero}
use Rattle.shuffle_normal_forms.proofs.Examples.{free_at}
use Rattle.shuffle_reductions.specs.Chains.{IsChain, IsFinished}
use Rattle.shuffle_reductions.proofs.Standing.{has_all}
use Rattle.modular_sums.specs.RuleTables.{Table, HasRule, IsRuled, IsUnruled, rule_at}
use Rattle.modular_sums.specs.PositionChains.{IsPositionChain as IsChainThere, HasNoRuledPosition as IsFinishedThere}
use Rattle.shuffle_reductions.specs.Swept.{tree_in, on_trees, RisesBy, IsRuleOf, IsTableOver, AreUses}
use Rattle.shuffle_reductions.proofs.SweptThrough.{swept}

abbrev sorted : List (Tree ℕ)
sorted = t3 ∷ (t2 ∷ (t1 ∷ []))

abbrev tail : List (ℕ × ℕ)
tail = (100, 1) ∷ ((100, 0) ∷ [])

abbrev table : Table
table = None ∷ (None ∷ (Some tail ∷ []))

whole : Insertion setting 3
unfolding ℕ_discrete tree_discrete tree_discrete_by row_discrete_by same_leaf same_node same_more
whole = record { of = jacobi; member = inl refl; tree = t1; set = top_two; valid = valid_at 3 t1 refl; place = ((places_listed t1 t1 tt).0 top_two).0 (inl refl) }

abbrev insertions : List (Option (Insertion setting 3))
insertions = None ∷ (None ∷ (Some whole ∷ []))

rising : RisesBy setting sorted
unfolding ℕ_discrete
rising zero zero h k = absurd (omega arith)
rising zero (suc zero) h k = refl
rising zero (suc (suc zero)) h k = refl
rising zero (suc (suc (suc j))) h k = absurd (omega arith)
rising (suc zero) zero h k = absurd (omega arith)
rising (suc zero) (suc zero) h k = absurd (omega arith)
rising (suc zero) (suc (suc zero)) h k = refl
rising (suc zero) (suc (suc (suc j))) h k = absurd (omega arith)
rising (suc (suc i)) zero h k = absurd (omega arith)
rising (suc (suc i)) (suc zero) h k = absurd (omega arith)
rising (suc (suc i)) (suc (suc zero)) h k = absurd (omega arith)
rising (suc (suc i)) (suc (suc (suc j))) h k = absurd (omega arith)

the_rule : IsRuleOf setting 3 sorted 2 tail whole
unfolding whole coef ℕ_discrete tree_discrete tree_discrete_by row_discrete_by same_leaf same_node same_more
the_rule = record { tree = refl; value = same_if_agree tree_discrete 100 (value_of whole) (on_trees sorted ((1, 2) ∷ tail)) refl }

one_tail : (other : List (ℕ × ℕ)) → Some (Some tail) ≡ Some (Some other) → tail ≡ other
one_tail other h = cc

lower : (at : ℕ) (other : List (ℕ × ℕ)) → HasRule table at other → AllTerms other (λ t. t < at)
lower zero other h = absurd (cc h)
lower (suc zero) other h = absurd (cc h)
lower (suc (suc zero)) other h = subst (λ l. AllTerms l (λ t. t < 2)) (one_tail other h) (omega arith, (omega arith, tt))
lower (suc (suc (suc at))) other h = absurd (cc h)

ruled : (at : ℕ) (other : List (ℕ × ℕ)) → HasRule table at other → (i : Insertion setting 3) × (slice_get insertions at ≡ Some (Some i)) × IsRuleOf setting 3 sorted at other i
ruled zero other h = absurd (cc h)
ruled (suc zero) other h = absurd (cc h)
ruled (suc (suc zero)) other h = (whole, refl, subst (λ l. IsRuleOf setting 3 sorted 2 l whole) (one_tail other h) the_rule)
ruled (suc (suc (suc at))) other h = absurd (cc h)

free : (at : ℕ) → IsUnruled table at → IsFree setting (tree_in sorted at)
free zero h = (free_at t3 (inr (inl refl))).free
free (suc zero) h = (free_at t2 (inl refl)).free
free (suc (suc zero)) h = absurd (cc h)
free (suc (suc (suc at))) h = absurd (cc h)

the_table : IsTableOver setting 3 sorted insertions table
the_table = record { rises = rising; sized = refl; aligned = refl; lower = lower; ruled = ruled; free = free }

-- ---- a chain of one step: from position 2 to positions 1 and 0

abbrev first : List (ℕ × ℕ)
first = (1, 2) ∷ []

abbrev last : List (ℕ × ℕ)
last = (1, 1) ∷ ((1, 0) ∷ [])

there : IsChainThere 100 table first ((1, 2) ∷ []) last
unfolding coef scale ℕ_discrete
there = (
  record {
    there = one_not_zero 100 (omega arith);
    ruled = (tail, refl);
    greatest = λ t m r. has_all ℕ_discrete 100 (λ u. u ≤ 2) first (omega arith, tt) t m;
    coefficient = refl;
  },
  same_if_agree ℕ_discrete 100 (first ++ scale (100 * 1) (rule_at table 2)) last refl,
)

finished_there : IsFinishedThere 100 table last
finished_there t m r = has_all ℕ_discrete 100 (λ u. IsRuled table u → ⊥) last ((λ k. cc (k.1)), ((λ k. cc (k.1)), tt)) t m r

-- is one of the insertion
through : (uses : List (ℕ × Insertion setting 3)) × AreUses insertions ((1, 2) ∷ []) uses × IsChain setting 3 (on_trees sorted first) uses (on_trees sorted last)
through = (swept setting by_path 3 sorted insertions table the_table).chain first ((1, 2) ∷ []) last (omega arith, tt) there

finished : IsFinished setting (on_trees sorted last)
finished = (swept setting by_path 3 sorted insertions table the_table).finished last (omega arith, (omega arith, tt)) finished_there

-- ---- t2 alone is found as an element, and becomes the rule of position 1

abbrev second : Element
second = record { arity = 3; lead = t2; tail = [] }

second_monic : IsMonic setting second
unfolding ℕ_discrete tree_discrete tree_discrete_by row_discrete_by same_leaf same_node same_more
second_monic = record { lead_valid = valid_at 3 t2 refl; lead_node = tt; tail_valid = tt }

two_monic : AreMonic (with_elements setting (jacobi ∷ (second ∷ [])))
two_monic = (lists_grow setting monic (jacobi ∷ []) (elements_extend_themselves setting monic) second second_monic differ).monic
  where
    differ : (h : Element) → Mem h (jacobi ∷ []) → h.lead ≡ t2 → ⊥
    differ h (inl e) c = let k : t1 ≡ t2 = ap (λ (x : Element). x.lead) (sym e) ∙ c in absurd (cc k)
    differ h (inr m) c = absurd m

all_valid : AreValid setting 3 sorted
unfolding ℕ_discrete tree_discrete tree_discrete_by row_discrete_by same_leaf same_node same_more
all_valid zero h = valid_at 3 t3 refl
all_valid (suc zero) h = valid_at 3 t2 refl
all_valid (suc (suc zero)) h = valid_at 3 t1 refl
all_valid (suc (suc (suc k))) h = absurd (omega arith)

grown : IsChanged setting (jacobi ∷ (second ∷ [])) 3 sorted insertions table second 1 []
grown = tables_grow_lem setting by_path monic 3 sorted insertions table the_table all_valid second two_monic 1 (omega arith) [] (record { arity = refl; lead = refl; tail_there = λ t. refl; lower = tt })

-- ---- t1 alone takes the place of the Jacobi element, and the rule of position 2 has no tail

abbrev bare : Element
bare = record { arity = 3; lead = t1; tail = [] }

bare_alone : AreMonic (with_elements setting (bare ∷ []))
unfolding ℕ_discrete tree_discrete tree_discrete_by row_discrete_by same_leaf same_node same_more
bare_alone = record {
  each = λ h m. subst (IsMonic (with_elements setting (bare ∷ []))) (sym (one h m)) (record { lead_valid = valid_at 3 t1 refl; lead_node = tt; tail_valid = tt });
  apart = λ g h m o e. one g m ∙ sym (one h o);
}
  where
    one : (h : Element) → Mem h (bare ∷ []) → h ≡ bare
    one h (inl e) = e
    one h (inr m) = absurd m

changed : IsChanged setting (bare ∷ []) 3 sorted insertions table bare 2 []
changed = tables_change_lem setting by_path monic 3 sorted insertions table the_table all_valid (bare ∷ []) bare_alone 2 (omega arith) bare (inl refl) []
    (record { arity = refl; lead = refl; tail_there = λ t. refl; lower = tt }) old new
  where
    old : (h : Element) → Mem h (jacobi ∷ []) → Mem h (bare ∷ []) ⊎ ((h.arity ≡ 3) × (h.lead ≡ tree_in sorted 2))
    old h (inl e) = inr (ap (λ (x : Element). x.arity) e, ap (λ (x : Element). x.lead) e)
    old h (inr m) = absurd m

    new : (h : Element) → Mem h (bare ∷ []) → Mem h (jacobi ∷ []) ⊎ (h ≡ bare)
    new h (inl e) = inr e
    new h (inr m) = absurd m
