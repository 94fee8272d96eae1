-- What was gathered, before it is sorted and ruled.
use Rattle.std.proofs.Common.{◌≡◌, ℕ, ◌<◌, List, length, sym, ◌∙◌, subst, Option, Some, slice_get, get_or}
use Rattle.std.specs.List.{All}
use Rattle.std.specs.declared.cmp.Ordering.{Ordering}
use Rattle.std.proofs.lemmas.Option.{slice_get-get_or, slice_get_within, get_or_from_slice_get}
use Rattle.labelled_trees.specs.Trees.{Tree}
use Rattle.shuffle_insertions.specs.ShuffleTrees.{IsShuffleTree}
use Rattle.shuffle_bases.specs.Elements.{Element, Setting, Insertion}
use Rattle.division.specs.declared.reducer.Reducer.{Reducer}
use Rattle.shuffle_sums.specs.Putting.{Keeps}
use Rattle.division.specs.Dividers.{AreReducers, AreDividers}
use Rattle.division.specs.Gathered.{AreGathered, AllOver}
use Rattle.division.specs.Laws.{IsReducerOf}
use Rattle.division.proofs.MadeTrees.{grown_tree, grown_ids}
use Rattle.division.proofs.TailSteps.{reducers_later}
use Rattle.shuffle_sums.specs.Sorting.{trees_at, AreOfOneArity, Rise}
use Rattle.shuffle_reductions.specs.Swept.{IsTableOver}
use Rattle.division.specs.Given.{AreGiven}
use Rattle.division.specs.Ranks.{AreRanks, AreRules, CanRule}
use Rattle.division.specs.Cones.{CanGather}
use Rattle.division.proofs.OverTrees.{elements_over, can_rule, table_over}

-- what is known once trees were gathered
pub record HasGathered (old new : List (Tree ℕ)) (reducers : List Reducer) (found : List (Option ℕ)) (given ids : List ℕ) (tails : List (List ℕ)) : Type 0 where
  pub grows : Keeps old new
  pub before : AreReducers old reducers
  pub given_held : All (λ i. i < length old) given
  pub dividers : AreDividers new reducers found
  pub gathered : AreGathered new reducers found given ids tails

module _ (old new : List (Tree ℕ)) (reducers : List Reducer) (found : List (Option ℕ)) (given ids : List ℕ) (tails : List (List ℕ)) (r : HasGathered old new reducers found given ids tails)
    (compare : Tree ℕ → Tree ℕ → Ordering) (q : ℕ) (coefs : List (List ℕ)) (s : Setting) (n : ℕ) (g : CanGather compare q old reducers coefs given s n) where
  element_later : (e : ℕ) (d : Reducer) (h : Element) → slice_get reducers e ≡ Some d → IsReducerOf old d h → IsReducerOf new d h
  element_later e d h f i = record {
    lead_is = i.lead_is ∙ sym (grown_tree old new r.grows d.lead (r.before e d f).lead_low);
    tail_is = i.tail_is ∙ sym (grown_ids old new r.grows d.tail (r.before e d f).tail_low);
  }

  given_later : AreGiven new reducers coefs s
  given_later = record {
    each = λ h m. let k = g.are.each h m in (k.0, k.1, k.2, element_later k.0 k.1 h k.2 k.3);
    only = λ e d f. let k = g.are.only e d f in (k.0, k.1, element_later e d k.0 f k.2, k.3, k.4);
  }

  over_later : AllOver s.arity n new given
  over_later p i e =
      subst (IsShuffleTree s.arity n) (sym (grown_tree old new r.grows i (subst (λ j. j < length old) (get_or_from_slice_get given p i i e) (r.given_held p i (slice_get_within given p i e))))) (g.over p i e)

  hr : AreReducers new reducers
  hr = reducers_later old new reducers r.grows r.before

  pub gathered_over : AllOver s.arity n new ids
  gathered_over = r.gathered.over s.arity n (elements_over new reducers coefs s g.fit given_later) over_later

  pub gathered_arity : AreOfOneArity new ids
  gathered_arity = record {
    arity = s.arity;
    leaves = n;
    few = g.few;
    held = r.gathered.held;
    are = λ k d lt. gathered_over k (get_or ids k d) (slice_get-get_or ids k d lt);
  }

  module _ (order ranks : List ℕ) (rise : Rise compare (trees_at new ids order)) (are : AreRanks order ranks (length ids)) where
    rise_now : Rise s.compare (trees_at new ids order)
    rise_now = subst (λ (c : Tree ℕ → Tree ℕ → Ordering). Rise c (trees_at new ids order)) (sym g.compare_is) rise

    pub gathered_rules : CanRule q coefs found ids tails order ranks
    gathered_rules = subst (λ p. CanRule p coefs found ids tails order ranks) g.prime_is (can_rule new reducers coefs found given ids tails order ranks s n g.fit given_later hr r.dividers r.gathered over_later rise_now are)

    pub gathered_table : (rules : List (Option (List (ℕ × ℕ)))) → AreRules coefs found ids tails order ranks rules → (insertions : List (Option (Insertion s n))) × IsTableOver s n (trees_at new ids order) insertions rules
    gathered_table rules h = table_over new reducers coefs found given ids tails order ranks s n g.fit given_later hr r.dividers r.gathered over_later rise_now are rules h
