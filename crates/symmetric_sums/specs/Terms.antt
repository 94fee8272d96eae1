-- What lists of terms mean.
use Rattle.std.specs.Prelude.{ℕ, ◌≡◌, ◌*◌, ◌-◌, ◌%◌, ◌<◌, ◌==◌, List, [], length, map, Option, Some, None, if◌then◌else◌}
use Rattle.std.specs.List.{All}
use Rattle.labelled_trees.specs.Trees.{Tree}
use Rattle.labelled_trees.specs.Labelled.{IsNumbered}
use Rattle.labelled_trees.specs.Meaning.{tree_of}
use Rattle.symmetric_trees.specs.Trees.{Fits}
use Rattle.symmetric_trees.specs.declared.generators.Generator.{Generator}
use Rattle.symmetric_sums.specs.declared.term.Term.{Term}

-- each term as a pair of a number and a tree
abbrev pub terms_of : List Term → List (ℕ × Tree ℕ)
terms_of = map (λ term. (term.coef, tree_of term.tree))

-- all trees are numbered by 1 to n
abbrev pub HaveArity : ℕ → List Term → Type 0
HaveArity n = All (λ term. IsNumbered n (tree_of term.tree))

-- the arity that all trees have, or none where there are no terms
pub record ArityIs (terms : List Term) (arity : Option ℕ) : Type 0 where
  pub empty : arity ≡ None → length terms ≡ 0
  pub numbered : (n : ℕ) → arity ≡ Some n → (0 < length terms) × HaveArity n terms

-- no number is 0, and the arity is that of all trees
pub record IsSum (terms : List Term) (arity : Option ℕ) : Type 0 where
  pub nonzero : All (λ term. 0 < term.coef) terms
  pub arity_is : ArityIs terms arity

-- each number is a residue modulo p
abbrev pub HaveResidues : ℕ → List Term → Type 0
HaveResidues p = All (λ term. term.coef < p)

-- A sum fits a field and a table: its residues are of the field, and each vertex of its trees names a generator of the table
-- and has as many inputs as its arity.
pub record FitsOver (p : ℕ) (generators : List Generator) (terms : List Term) : Type 0 where
  pub residues : HaveResidues p terms
  pub trees : All (λ term. Fits generators (tree_of term.tree)) terms

-- one arity is that of all trees of both lists
abbrev pub HaveOneArity : List Term → List Term → Type 0
HaveOneArity one other = (n : ℕ) × HaveArity n one × HaveArity n other

-- each residue modulo p is replaced by its negative
abbrev pub negated : ℕ → List Term → List Term
negated p = map (λ term. record { coef = p - term.coef; tree = term.tree })

-- each residue modulo p times c; nothing where c is 0
abbrev pub multiples : ℕ → ℕ → List Term → List Term
multiples p c terms = if c == 0 then [] else map (λ term. record { coef = (c * term.coef) % p; tree = term.tree }) terms
