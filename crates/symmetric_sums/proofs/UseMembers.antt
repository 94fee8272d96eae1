-- The elements of uses, one after the other: labelled, and in the ideal where what they cite is.
use Rattle.std.proofs.Common.{ℕ, ◌<◌, List, [], ◌∷◌}
use Rattle.std.specs.List.{All, AllByRecursion}
use Rattle.modular_sums.specs.Sums.{AllTerms}
use Rattle.modular_sums.proofs.Sums.{AllTerms-append}
use Rattle.operad_ideals.specs.Presentations.{Presentation}
use Rattle.operad_ideals.specs.Ideals.{InIdeal}
use Rattle.operad_ideals.proofs.Ideals.{ideal_zero, ideal-append}
use Rattle.symmetric_trees.specs.Trees.{IsLabelled}
use Rattle.symmetric_trees.specs.declared.generators.Generator.{Generator}
use Rattle.symmetric_sums.specs.Terms.{terms_of}
use Rattle.symmetric_sums.specs.Instances.{instance_element}
use Rattle.symmetric_sums.specs.Membership.{presentation_of, IsElement, IsMember}
use Rattle.symmetric_sums.specs.Uses.{cited, IsGoodUse, sum_of}
use Rattle.symmetric_sums.specs.declared.term.Term.{Term}
use Rattle.symmetric_sums.specs.declared.instance.Instance.{Instance}
use Rattle.symmetric_sums.proofs.Expansions.{element-all}
use Rattle.symmetric_sums.proofs.Members.{instances_in_ideal}

module _ (p : ℕ) (generators : List Generator) (rels : List (List Term)) (positive : 0 < p) (relations : All (λ rel. IsElement generators (terms_of rel)) rels) where
  abbrev whole : Presentation
  whole = presentation_of p generators rels

  pub uses_labelled : (earlier : List (List Term)) (n : ℕ) (uses : List Instance) → AllByRecursion (IsGoodUse p generators rels earlier n) uses → AllTerms (sum_of p generators rels earlier uses) (IsLabelled generators n)
  uses_labelled earlier n [] h = tt
  uses_labelled earlier n (x ∷ xs) h =
      AllTerms-append (instance_element p (cited p generators rels earlier x) x) (sum_of p generators rels earlier xs) (IsLabelled generators n)
      (element-all p (cited p generators rels earlier x) x (IsLabelled generators n) h.0.valid.labelled) (uses_labelled earlier n xs h.1)

  pub uses_members : (earlier : List (List Term)) (n : ℕ) (uses : List Instance) → All (λ step. IsMember p generators rels (terms_of step)) earlier → AllByRecursion (IsGoodUse p generators rels earlier n) uses
      → InIdeal whole n (sum_of p generators rels earlier uses)
  uses_members earlier n [] members h = ideal_zero whole n
  uses_members earlier n (x ∷ xs) members h =
      ideal-append whole n (instance_element p (cited p generators rels earlier x) x) (sum_of p generators rels earlier xs)
      (instances_in_ideal p generators rels earlier n x positive relations members h.0.valid) (uses_members earlier n xs members h.1)
