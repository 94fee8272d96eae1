-- Choices of ids, and rows of trees.
use Rattle.std.specs.Prelude.{ℕ, ◌+◌, ◌<◌, ◌≡◌, List, [], ◌∷◌, ◌++◌, length, map}
use Rattle.std.proofs.Common.{Bool, true, false, suc}
use Rattle.std.specs.List.{filter, flat_map}
use Rattle.labelled_trees.specs.Trees.{Tree, row}
use Rattle.shuffle_insertions.specs.Listing.{rows}
use Rattle.normal_listing.specs.declared.parts.Part.{Part}
use Rattle.normal_listing.specs.Choices.{choices, entry, ArePartsBelow}

-- a list divided in two
pub record Split : Type 0 where
  pub own : List ℕ
  pub others : List ℕ

-- the ways to divide a list in two, those with the first number in the first list first
abbrev pub splits : List ℕ → List Split
splits [] = record { own = []; others = [] } ∷ []
splits (x ∷ l) = map (λ q. record { own = x ∷ q.own; others = q.others }) (splits l) ++ map (λ q. record { own = q.own; others = x ∷ q.others }) (splits l)

-- whether there is something in the list
abbrev pub is_some : List ℕ → Bool
is_some [] = false
is_some (x ∷ l) = true

-- the ways to part a list so that its first number stands in the first part, and something is left
abbrev pub proper_parts : List ℕ → List Split
proper_parts [] = []
proper_parts (a ∷ l) = map (λ q. record { own = a ∷ q.own; others = q.others }) (filter (λ q. is_some q.others) (splits l))

-- Tables of sets, where `members n` are the leaves of the set with number n, and t lists the trees on given leaves: each set below
-- has its trees, and each set is parted in all ways.
pub record AreSets (tree : ℕ → Tree ℕ) (members : ℕ → List ℕ) (t : List ℕ → List (Tree ℕ)) (on : List (List ℕ)) (parted : List (List Part)) : Type 0 where
  pub trees : (n : ℕ) → n < length on → map tree (entry on n) ≡ t (members n)
  pub below : ArePartsBelow (length on) parted
  pub parts : (n : ℕ) → n < length parted → map (λ p. record { own = members p.own; others = members p.others }) (entry parted n) ≡ proper_parts (members n)

-- The choices of inputs are the rows of trees over the leaves of the set.
abbrev pub ChoicesAreRows : Type 0
ChoicesAreRows = (tree : ℕ → Tree ℕ) (members : ℕ → List ℕ) (t : List ℕ → List (Tree ℕ)) (on : List (List ℕ)) (parted : List (List Part)) → AreSets tree members t on parted → t [] ≡ [] → length on < length parted + 1
    → (k n : ℕ) → n < length parted → (k ≡ 0 → n < length on) → map (λ ids. row (map tree ids)) (choices on parted (suc k) n) ≡ rows t (suc k) (members n)

-- a number more in the first list, or in the second
abbrev pub either_way : ℕ → Split → List Split
either_way y q = record { own = q.own ++ (y ∷ []); others = q.others } ∷ record { own = q.own; others = q.others ++ (y ∷ []) } ∷ []

-- The parts of a list with one more number behind it: that number alone is the rest, or it is added to a part of the list.
abbrev pub PartsWithLast : Type 0
PartsWithLast = (a : ℕ) (l : List ℕ) (y : ℕ) → proper_parts ((a ∷ l) ++ (y ∷ [])) ≡ record { own = a ∷ l; others = y ∷ [] } ∷ flat_map (either_way y) (proper_parts (a ∷ l))
