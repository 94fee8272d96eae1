-- The diamond lemma for insertions, proved.
use Rattle.std.proofs.Common.{ℕ, ◌≤◌, List, [], refl, ap, arith, subst, inl, inr, ◌⊎◌}
use Rattle.modular_sums.specs.Sums.{Same, expand, moved}
use Rattle.modular_sums.specs.Diamond.{Led}
use Rattle.modular_sums.proofs.Sums.{expand-moved}
use Rattle.labelled_trees.specs.Trees.{Tree}
use Rattle.labelled_trees.specs.Equality.{tree_discrete}
use Rattle.shuffle_insertions.specs.ShuffleTrees.{IsShuffleTree}
use Rattle.shuffle_insertions.specs.Labels.{AreLabels}
use Rattle.shuffle_insertions.specs.Orders.{IsTreeOrder}
use Rattle.shuffle_places.proofs.Fitting.{multiple_fits}
use Rattle.shuffle_bases.specs.Elements.{Setting, AreMonic, Insertion, value_of}
use Rattle.shuffle_bases.specs.Reductions.{SElementsReduce, IsLed}
use Rattle.shuffle_bases.specs.Laws.{DiamondLemma, SElementsStand}
use Rattle.shuffle_bases.proofs.Placed.{Placed, host, value, insertion, placed, placed_value}
use Rattle.shuffle_bases.proofs.Multiples.{small_meet}
use Rattle.shuffle_bases.proofs.Ranking.{rank, rank_less, one_rank}
use Rattle.shuffle_bases.proofs.DiamondBySlots.{diamond_lemma as by_rank}

module _ (labels : ℕ) (s : Setting) (are : AreLabels labels s.arity) (order : IsTreeOrder s.arity s.compare) (monic : AreMonic s)
    (N n : ℕ) (rows : SElementsReduce s N) (le : n ≤ N) where
  abbrev rank_of : Tree ℕ → ℕ
  rank_of = rank labels s are order n

  led : (e : List (ℕ × Tree ℕ)) → Led {I = Placed s n} tree_discrete rank_of s.q host e → IsLed s n e
  unfolding insertion
  led e d = record {
    by = insertion s monic n d.by_instance;
    there = d.there;
    above = λ t h l.
        let lt = rank_less labels s are order n (host d.by_instance) t record { fits = d.by_instance.fits; shuffle = d.by_instance.valid } l in
        d.above t (λ e. let same = ap rank_of e in absurd (omega (arith, same, lt))) (omega (arith, lt));
  }

  placed_sum : (l : List (ℕ × Placed s n)) → Same tree_discrete s.q (expand value l) [] ⊎ IsLed s n (expand value l)
  placed_sum l = go (by_rank s monic order N (small_meet s monic order N rows) n le rank_of
      (λ x y hx hy fx fy e. rank_less labels s are order n x y record { fits = fx; shuffle = hx } e)
      (λ x y hx hy fx fy e. one_rank labels s are order n x y record { fits = fx; shuffle = hx } record { fits = fy; shuffle = hy } e) l)
    where
      go : Same tree_discrete s.q (expand value l) [] ⊎ Led {I = Placed s n} tree_discrete rank_of s.q host (expand value l) → Same tree_discrete s.q (expand value l) [] ⊎ IsLed s n (expand value l)
      go (inl z) = inl z
      go (inr d) = inr (led (expand value l) d)

  pub sum_of_insertions : (uses : List (ℕ × Insertion s n)) → Same tree_discrete s.q (expand value_of uses) [] ⊎ IsLed s n (expand value_of uses)
  sum_of_insertions uses = subst (λ e. Same tree_discrete s.q e [] ⊎ IsLed s n e)
      (expand-moved value_of value (placed s monic n) (placed_value s monic n) uses) (placed_sum (moved (placed s monic n) uses))

pub diamond : DiamondLemma
diamond labels s are order monic N n rows le uses = sum_of_insertions labels s are order monic N n rows le uses

pub stand : SElementsStand
stand s monic n g h mg mh t first second m =
    let valid : IsShuffleTree s.arity n t
    = record { fits = multiple_fits s.arity n g.lead h.lead t first second m (monic.each g mg).lead_valid.fits (monic.each h mh).lead_valid.fits; shuffle = m.overlap.valid } in (
      record { of = g; member = mg; tree = t; set = first; valid = valid; place = m.overlap.first_at },
      record { of = h; member = mh; tree = t; set = second; valid = valid; place = m.overlap.second_at },
      refl,
      refl,
      refl,
    )
