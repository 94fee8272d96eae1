-- Terms of the program for each sum.
use Rattle.std.proofs.Common.{◌≡◌, ℕ, List, [], ◌∷◌, map, refl, ap₂}
use Rattle.labelled_trees.specs.Trees.{Tree}
use Rattle.labelled_trees.proofs.MadeTrees.{program_tree, made_tree}
use Rattle.symmetric_sums.specs.Terms.{terms_of}
use Rattle.symmetric_sums.specs.declared.term.Term.{Term}

abbrev pub program_terms : List (ℕ × Tree ℕ) → List Term
program_terms e = map (λ x. record { coef = x.0; tree = program_tree x.1 }) e

pub made_terms : (e : List (ℕ × Tree ℕ)) → terms_of (program_terms e) ≡ e
made_terms [] = refl
made_terms (x ∷ e) = ap₂ (λ t r. (x.0, t) ∷ r) (made_tree x.1) (made_terms e)
