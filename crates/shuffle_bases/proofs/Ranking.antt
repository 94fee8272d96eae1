-- The rank of a shuffle tree over finitely many labels: how many trees of its arity are less.
use Rattle.std.proofs.Common.{◌≡◌, ℕ, ◌<◌, Bool, true, refl, ap, inl, inr, ◌⊎◌}
use Rattle.std.specs.declared.cmp.Ordering.{Ordering}
use Rattle.std.specs.declared.cmp.Ordering.TheVariants.{Less, Equal, Greater}
use Rattle.std.specs.Ordering.{ordering_reverse, is_lt}
use Rattle.modular_sums.specs.Lists.{Mem}
use Rattle.modular_sums.specs.Ranks.{count_less}
use Rattle.modular_sums.proofs.Ranks.{rank_lt, rank_one}
use Rattle.labelled_trees.specs.Trees.{Tree}
use Rattle.labelled_trees.specs.Equality.{tree_discrete, row_discrete}
use Rattle.shuffle_insertions.specs.ShuffleTrees.{IsShuffleTree}
use Rattle.shuffle_insertions.specs.Labels.{AreLabels}
use Rattle.shuffle_insertions.specs.Orders.{IsTreeOrder}
use Rattle.shuffle_insertions.specs.Listing.{all_trees}
use Rattle.shuffle_insertions.proofs.Comparing.{is_less, turn_greater}
use Rattle.shuffle_insertions.proofs.Listing.{all_listed}
use Rattle.shuffle_bases.specs.Elements.{Setting, IsLess}

not_itself : (o : Ordering) → o ≡ ordering_reverse o → o ≡ Less → ⊥
not_itself Less e h = absurd (cc e)
not_itself Equal e h = absurd (cc h)
not_itself Greater e h = absurd (cc h)

module _ (labels : ℕ) (s : Setting) (are : AreLabels labels s.arity) (order : IsTreeOrder s.arity s.compare) (n : ℕ) where
  less : Tree ℕ → Tree ℕ → Bool
  less x y = is_lt (s.compare x y)

  of_less : (x y : Tree ℕ) → IsLess s x y → less x y ≡ true
  unfolding less
  of_less x y e = ap is_lt e

  less_of : (x y : Tree ℕ) → less x y ≡ true → IsLess s x y
  unfolding less
  less_of x y e = is_less (s.compare x y) e

  transitive : (x y z : Tree ℕ) → less x y ≡ true → less y z ≡ true → less x z ≡ true
  transitive x y z e f = of_less x z (order.transitive x y z (less_of x y e) (less_of y z f))

  irreflexive : (x : Tree ℕ) → less x x ≡ true → ⊥
  irreflexive x e = not_itself (s.compare x x) (order.turned x x) (less_of x x e)

  member : (x : Tree ℕ) → IsShuffleTree s.arity n x → Mem x (all_trees labels s.arity n)
  member x h = (all_listed labels s.arity are tree_discrete row_discrete n).each x h

  pub rank : Tree ℕ → ℕ
  rank x = count_less less (all_trees labels s.arity n) x

  pub rank_less : (x y : Tree ℕ) → IsShuffleTree s.arity n x → IsLess s x y → rank x < rank y
  unfolding rank
  rank_less x y h e = rank_lt (Tree ℕ) less transitive irreflexive (all_trees labels s.arity n) x y (member x h) (of_less x y e)

  pub one_rank : (x y : Tree ℕ) → IsShuffleTree s.arity n x → IsShuffleTree s.arity n y → rank x ≡ rank y → x ≡ y
  unfolding rank
  one_rank x y hx hy e = rank_one (Tree ℕ) less transitive irreflexive (all_trees labels s.arity n) x y (member x hx) (member y hy) (compared (s.compare x y) refl) e
    where
      compared : (o : Ordering) → s.compare x y ≡ o → (less x y ≡ true) ⊎ ((less y x ≡ true) ⊎ (x ≡ y))
      compared Less h = inl (of_less x y h)
      compared Equal h = inr (inr (order.equal_only n x y hx hy h))
      compared Greater h = inr (inl (of_less y x (turn_greater (s.compare x y) (s.compare y x) (order.turned x y) h)))
