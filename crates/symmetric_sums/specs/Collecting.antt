-- The steps on the way to the collected form.
use Rattle.std.specs.Prelude.{ℕ, ◌≡◌, ◌≢◌, ◌+◌, ◌*◌, ◌-◌, ◌<◌, List, [], ◌∷◌, ◌++◌, map}
use Rattle.std.specs.List.{AllByRecursion}
use Rattle.std.specs.declared.cmp.Ordering.TheVariants.{Less}
use Rattle.std.specs.Ordering.{is_lt}
use Rattle.std.proofs.Common.{false}
use Rattle.modular_sums.specs.Lists.{Mem}
use Rattle.modular_sums.specs.Residues.{IsCongruent}
use Rattle.modular_sums.specs.Sums.{Same}
use Rattle.labelled_trees.specs.Equality.{tree_discrete}
use Rattle.labelled_trees.specs.Meaning.{tree_of}
use Rattle.operad_ideals.specs.Sorting.{spelled, spelled_sign}
use Rattle.operad_ideals.specs.Presentations.{residue_of}
use Rattle.operad_ideals.specs.Pairs.{Pairs}
use Rattle.symmetric_trees.specs.Generators.{parts_at}
use Rattle.operad_ideals.specs.SpellingOrder.{order}
use Rattle.symmetric_trees.specs.declared.generators.Generator.{Generator}
use Rattle.symmetric_sums.specs.Terms.{terms_of}
use Rattle.symmetric_sums.specs.declared.term.Term.{Term}

-- the tree of the one term isn't before that of the other
abbrev pub NotBefore : Term → Term → Type 0
NotBefore one other = is_lt (order (tree_of one.tree) (tree_of other.tree)) ≡ false

-- the tree of the one term is before that of the other
abbrev pub Before : Term → Term → Type 0
Before one other = order (tree_of one.tree) (tree_of other.tree) ≡ Less

-- the number is a residue modulo p other than 0
abbrev pub IsResidue : ℕ → Term → Type 0
IsResidue p term = (0 < term.coef) × (term.coef < p)

-- the second term is the first one's sorted spelling, with its number times the sign
pub record IsSpellingOf (p : ℕ) (generators : List Generator) (term spelling : Term) : Type 0 where
  pub coef : IsCongruent (p - 1) spelling.coef (residue_of (p - 1) (spelled_sign (parts_at generators) (tree_of term.tree)) * term.coef)
  pub residue : IsResidue p spelling
  pub tree : tree_of spelling.tree ≡ spelled (parts_at generators) (tree_of term.tree)

-- each of the second list is the spelling of its like in the first
abbrev pub AreSpellings : ℕ → List Generator → List Term → List Term → Type 0
AreSpellings p generators [] [] = Unit {0}
AreSpellings p generators [] (u ∷ us) = ⊥
AreSpellings p generators (t ∷ ts) [] = ⊥
AreSpellings p generators (t ∷ ts) (u ∷ us) = IsSpellingOf p generators t u × AreSpellings p generators ts us

-- a term put behind the others, or added to the last one, which has the same tree, and dropped if it becomes 0
pub data JoinedTo (p : ℕ) (old : List Term) (term : Term) (new : List Term) : Type 0 where
  apart : ((front : List Term) (last : Term) → old ≡ front ++ last ∷ [] → tree_of last.tree ≢ tree_of term.tree) → new ≡ old ++ term ∷ [] → JoinedTo p old term new
  added : (front : List Term) (last : Term) (coef : ℕ) → old ≡ front ++ last ∷ [] → tree_of last.tree ≡ tree_of term.tree → (0 < coef) × (coef < p)
      → IsCongruent (p - 1) coef (last.coef + term.coef) → new ≡ front ++ record { coef = coef; tree = term.tree } ∷ [] → JoinedTo p old term new
  cancelled : (front : List Term) (last : Term) → old ≡ front ++ last ∷ [] → tree_of last.tree ≡ tree_of term.tree
      → IsCongruent (p - 1) 0 (last.coef + term.coef) → new ≡ front → JoinedTo p old term new

-- the second list is the first one with equal trees put together, in the spelling order, without zeros
pub record AreJoined (p : ℕ) (whole terms : List Term) : Type 0 where
  pub same : Same tree_discrete (p - 1) (terms_of terms) (terms_of whole)
  pub ascending : Pairs Before terms
  pub residues : AllByRecursion (IsResidue p) terms
  pub trees : AllByRecursion (λ term. Mem (tree_of term.tree) (map (λ other. tree_of other.tree) whole)) terms
