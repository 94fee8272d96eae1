-- The words of leaves and of labelled trees over a table.
use Rattle.std.proofs.Common.{◌≡◌, ◌<◌, ◌≤◌, ◌∷◌, [], ℕ, List, arith}
use Rattle.labelled_trees.specs.Trees.{Tree, leaf}
use Rattle.labelled_trees.specs.Leaves.{AllLeaves}
use Rattle.labelled_trees.proofs.Counts.{leaf_count-labelled}
use Rattle.labelled_trees.proofs.Leaves.{by_leaf}
use Rattle.operad_ideals.specs.Laws.{arity}
use Rattle.symmetric_trees.specs.Generators.{parts_at, IsTable}
use Rattle.symmetric_trees.specs.Trees.{IsLabelled}
use Rattle.symmetric_trees.specs.declared.generators.Generator.{Generator}
use Rattle.symmetric_trees.proofs.Tables.{held_if_wide}
use Rattle.normal_listing.specs.Places.{IsShortWord}
use Rattle.normal_listing.specs.Words.{symbols, IsLeafDigit}
use Rattle.normal_listing.specs.WordTexts.{SpellsTree}
use Rattle.normal_listing.proofs.TreeWords.{tree_word}

pub leaf_spells : (generators : List Generator) (i : ℕ) (word : List ℕ) → 0 < i → i < 10 → word ≡ i ∷ [] → SpellsTree generators word
leaf_spells generators i word some small is = record { tree = leaf i; spelt = record { fits = tt; leaves = (some, small) }; is = is }

module _ (generators : List Generator) (n : ℕ) (t : Tree ℕ) (h : IsLabelled generators n t) (few : n ≤ 9) where
  digits : AllLeaves t IsLeafDigit
  digits = by_leaf t IsLeafDigit (λ i o. let w = h.only i o in (w.0, omega (arith, w.1, few)))

  pub labelled_word : IsTable generators → IsShortWord (symbols t)
  labelled_word table =
      let size = leaf_count-labelled (arity (parts_at generators)) n t h in
      let most = table.few in
      tree_word (arity (parts_at generators)) t (λ g wide. let low = held_if_wide generators g wide in omega (arith, low, most))
      (record { fits = h.fits; leaves = digits; few = omega (arith, size, few) })

  pub labelled_spells : (word : List ℕ) → word ≡ symbols t → SpellsTree generators word
  labelled_spells word is = record { tree = t; spelt = record { fits = h.fits; leaves = digits }; is = is }
