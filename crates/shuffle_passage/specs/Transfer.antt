-- The transfer theorem for what is answered.
use Rattle.std.specs.Prelude.{ℕ, ◌-◌, ◌↔◌, List}
use Rattle.std.specs.List.{All}
use Rattle.modular_sums.specs.Lists.{Mem}
use Rattle.modular_sums.specs.Sums.{IsLinearCombination, moved, AllTerms}
use Rattle.labelled_trees.specs.Trees.{Tree}
use Rattle.labelled_trees.specs.Equality.{tree_discrete}
use Rattle.shuffle_insertions.specs.Frames.{insert}
use Rattle.operad_ideals.specs.Presentations.{Relation, Presentation}
use Rattle.operad_ideals.specs.Ideals.{InIdeal}
use Rattle.shuffle_transfer.specs.Orderings.{IsOrdering}
use Rattle.shuffle_transfer.specs.Transfer.{relabelled, shuffled, RelationInsertion}
use Rattle.symmetric_trees.specs.Generators.{parts_at}
use Rattle.symmetric_trees.specs.Trees.{IsLabelled}
use Rattle.symmetric_trees.specs.declared.generators.Generator.{Generator}
use Rattle.operad_ideals.specs.Collected.{IsCollected}
use Rattle.symmetric_sums.specs.Membership.{relation_of, presentation_of, IsElement}
use Rattle.symmetric_sums.specs.Terms.{terms_of}
use Rattle.symmetric_sums.specs.declared.term.Term.{Term}

-- what is answered for the relation, relabelled by each permutation, is its collected form
abbrev pub AreRelabellings : ℕ → List Generator → Relation → (List ℕ → List (ℕ × Tree ℕ)) → Type 0
AreRelabellings q generators r answer = (v : List ℕ) → IsOrdering r.arity v → IsCollected q (parts_at generators) (relabelled v r.terms) (answer v)

-- the shuffle form of what is answered for a relabelled relation, inserted into a frame
abbrev pub inserted_answer : (p : Presentation) (n : ℕ) (answer : Relation → List ℕ → List (ℕ × Tree ℕ)) → RelationInsertion p n → List (ℕ × Tree ℕ)
inserted_answer p n answer i = moved (insert i.frame) (shuffled p (answer i.relation i.permutation))

-- An element of arity n is in the ideal of the relations exactly where the shuffle form of its collected form is a sum of
-- insertions of shuffle forms of the collected relabelled relations.
abbrev pub TransferOfAnswers : Type 0
TransferOfAnswers = (q : ℕ) (generators : List Generator) (rels : List (List Term)) (n : ℕ) (e f : List (ℕ × Tree ℕ)) (answer : Relation → List ℕ → List (ℕ × Tree ℕ))
    → All (λ rel. IsElement generators (terms_of rel)) rels → AllTerms e (IsLabelled generators n) → IsCollected q (parts_at generators) e f
    → ((rel : List Term) → Mem rel rels → AreRelabellings q generators (relation_of rel) (answer (relation_of rel)))
    → InIdeal (presentation_of q generators rels) n e
    ↔ IsLinearCombination tree_discrete (inserted_answer (presentation_of q generators rels) n answer) (q - 1) (shuffled (presentation_of q generators rels) f)
