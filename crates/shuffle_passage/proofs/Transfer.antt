-- The transfer theorem for what is answered.
use Rattle.std.proofs.Common.{◌-◌, List, refl, sym, subst}
use Rattle.std.proofs.lemmas.List.Elements.{recursion_from_All}
use Rattle.modular_sums.proofs.Lists.{mem_of_map}
use Rattle.modular_sums.specs.Sums.{Same, AllTerms}
use Rattle.modular_sums.proofs.Sums.{combination-same}
use Rattle.modular_sums.proofs.Images.{Same-moved}
use Rattle.modular_sums.proofs.Links.{member_one, member_through}
use Rattle.labelled_trees.specs.Equality.{tree_discrete}
use Rattle.operad_ideals.specs.Presentations.{Relation, Presentation, arity_of, IsSound}
use Rattle.operad_ideals.proofs.SortedLists.{every_in}
use Rattle.shuffle_insertions.specs.Frames.{insert}
use Rattle.shuffle_transfer.specs.Transfer.{relabelled, shuffled, RelationInsertion, inserted_relation}
use Rattle.shuffle_transfer.proofs.TransferLaw.{transfer_law, labelled-relabelled}
use Rattle.symmetric_sums.specs.Membership.{relation_of, presentation_of, IsElement}
use Rattle.symmetric_sums.specs.Terms.{terms_of}
use Rattle.symmetric_sums.specs.declared.term.Term.{Term}
use Rattle.shuffle_passage.specs.Transfer.{AreRelabellings, inserted_answer, TransferOfAnswers}
use Rattle.shuffle_transfer.proofs.SortedForms.{collected_same}

pub transfer_of_answers : TransferOfAnswers
transfer_of_answers q gens rels n e f answer sound h c answers = (
  λ m. combination-same tree_discrete (inserted_answer p n answer) p.q {e = shuffled p f} {f = shuffled p e} (collected_same p q n e f refl h c)
      (member_through tree_discrete p.q (inserted_relation p n) (inserted_answer p n answer)
      (λ i. combination-same tree_discrete (inserted_answer p n answer) p.q {e = inserted_relation p n i} {f = inserted_answer p n answer i} (λ t. sym (values i t)) (member_one tree_discrete (inserted_answer p n answer) p.q i))
      (shuffled p e) ((transfer_law p n e is_sound h).0 m)),
  λ m. (transfer_law p n e is_sound h).1 (combination-same tree_discrete (inserted_relation p n) p.q {e = shuffled p e} {f = shuffled p f} (λ t. sym (collected_same p q n e f refl h c t))
      (member_through tree_discrete p.q (inserted_answer p n answer) (inserted_relation p n)
      (λ i. combination-same tree_discrete (inserted_relation p n) p.q {e = inserted_answer p n answer i} {f = inserted_relation p n i} (values i) (member_one tree_discrete (inserted_relation p n) p.q i))
      (shuffled p f) m)),
)
  where
    p : Presentation
    p = presentation_of q gens rels

    is_sound : IsSound (presentation_of q gens rels)
    is_sound r m =
        let k = mem_of_map relation_of r rels m in
        subst (λ (s : Relation). AllTerms s.terms (Rattle.labelled_trees.specs.Labelled.IsLabelled (arity_of (presentation_of q gens rels)) s.arity)) (sym k.2)
        (every_in (λ (rel : List Term). IsElement gens (terms_of rel)) rels k.0 (recursion_from_All (λ (rel : List Term). IsElement gens (terms_of rel)) rels sound) k.1)

    values : (i : RelationInsertion (presentation_of q gens rels) n) → Same tree_discrete (q - 1) (inserted_answer (presentation_of q gens rels) n answer i) (inserted_relation (presentation_of q gens rels) n i)
    values i =
        let k = mem_of_map relation_of i.relation rels i.there in
        let own : AreRelabellings q gens i.relation (answer i.relation) = subst (λ (s : Relation). AreRelabellings q gens s (answer s)) (sym k.2) (answers k.0 k.1) in
        Same-moved tree_discrete tree_discrete (q - 1) (insert i.frame) (shuffled p (answer i.relation i.permutation)) (shuffled p (relabelled i.permutation i.relation.terms))
        (collected_same p q i.relation.arity (relabelled i.permutation i.relation.terms) (answer i.relation i.permutation) refl
        (labelled-relabelled (arity_of p) i.relation.arity i.permutation i.permutes i.relation.terms (is_sound i.relation i.there))
        (own i.permutation i.permutes))
