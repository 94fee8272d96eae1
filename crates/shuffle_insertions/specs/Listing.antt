-- The list of all shuffle trees over labels.
use Rattle.std.specs.Prelude.{ℕ, List, [], ◌∷◌, ◌++◌, map}
use Rattle.std.proofs.Common.{zero, suc}
use Rattle.labelled_trees.specs.Trees.{Tree, Row, leaf, node, none, more}
use Rattle.modular_sums.specs.Lists.{Mem, Distinct}
use Rattle.shuffle_insertions.specs.ShuffleTrees.{IsShuffleTree}

-- f 0, f 1 and so on below b, joined
abbrev pub joined_below : {X : Type 0} → ℕ → (ℕ → List X) → List X
joined_below zero f = []
joined_below (suc b) f = joined_below b f ++ f b

-- for each way to divide the list in two, what f gives, joined
abbrev pub joined_splits : {X : Type 0} → List ℕ → (List ℕ → List ℕ → List X) → List X
joined_splits [] f = f [] []
joined_splits (x ∷ l) f = joined_splits l (λ b c. f (x ∷ b) c) ++ joined_splits l (λ b c. f b (x ∷ c))

-- each row of the second list with each tree of the first before it
abbrev pub each_with_each : {X : Type 0} → List (Tree X) → List (Row X) → List (Row X)
each_with_each [] rs = []
each_with_each (t ∷ ts) rs = map (λ r. more t r) rs ++ each_with_each ts rs

-- rows of k inputs over the leaf numbers, which rise, where t lists the trees over given numbers: the least number stands in the first input
abbrev pub rows : (List ℕ → List (Tree ℕ)) → ℕ → List ℕ → List (Row ℕ)
rows t zero [] = none ∷ []
rows t zero (a ∷ l) = []
rows t (suc k) [] = []
rows t (suc k) (a ∷ l) = joined_splits l (λ b c. each_with_each (t (a ∷ b)) (rows t k c))

-- the leaf alone, where there is one number
abbrev pub lone : List ℕ → List (Tree ℕ)
lone [] = []
lone (a ∷ []) = leaf a ∷ []
lone (a ∷ (b ∷ l)) = []

-- the shuffle trees of at most so many levels over the leaf numbers, which rise
abbrev pub shuffles : ℕ → (ℕ → ℕ) → ℕ → List ℕ → List (Tree ℕ)
shuffles labels arity zero l = []
shuffles labels arity (suc levels) l = lone l ++ joined_below labels (λ g. map (λ r. node g r) (rows (shuffles labels arity levels) (arity g) l))

-- 1 to n
abbrev pub upto : ℕ → List ℕ
upto zero = []
upto (suc n) = upto n ++ (suc n ∷ [])

-- all shuffle trees of arity n over so many labels
abbrev pub all_trees : ℕ → (ℕ → ℕ) → ℕ → List (Tree ℕ)
all_trees labels arity n = shuffles labels arity n (upto n)

-- The list has each shuffle tree of arity n over the labels once, and nothing else.
pub record IsListing (arity : ℕ → ℕ) (n : ℕ) (l : List (Tree ℕ)) : Type 0 where
  pub distinct : Distinct l
  pub only : (t : Tree ℕ) → Mem t l → IsShuffleTree arity n t
  pub each : (t : Tree ℕ) → IsShuffleTree arity n t → Mem t l
