-- An example: over the Lie presentation a comparison that gets a yes, with its block.
use Rattle.std.proofs.Common.{true, ◌≡◌, ℕ, ◌<◌, ◌≤◌, List, [], ◌∷◌, codes, map, refl, sym, ◌∙◌, ap, ap₂, subst, inl, inr, arith}
use Rattle.std.specs.Prelude.{◌++◌}
use Rattle.std.specs.Fmt.{digits, decimal}
use Rattle.std.specs.List.{All}
use Rattle.std.specs.declared.cmp.Ordering.TheVariants.{Less}
use Rattle.std.proofs.lemmas.List.Elements.{All-from_recursion}
use native.Mathlib.Decide.{ℕ_discrete}
use Rattle.modular_sums.specs.Sums.{coef, scale, moved, AllTerms}
use Rattle.modular_sums.specs.Sums as sums
use Rattle.modular_sums.proofs.Sameness.{same_if_agree}
use Rattle.labelled_trees.specs.Trees.{Tree, leaf}
use Rattle.labelled_trees.specs.Leaves.{occurs}
use Rattle.labelled_trees.specs.Equality.{same_leaf, same_node, same_more, tree_discrete_by, row_discrete_by, tree_discrete}
use Rattle.labelled_trees.specs.Meaning.{tree_of}
use Rattle.labelled_trees.specs.declared.Tree.{Tree as ProgramTree}
use Rattle.labelled_trees.specs.declared.Tree.TheVariants.{Leaf}
use Rattle.labelled_trees.proofs.ProgramTrees.{tree_of-leaf, tree_of-node}
use Rattle.operad_ideals.specs.Ideals.{placed}
use Rattle.operad_ideals.specs.Presentations.{parts}
use Rattle.operad_ideals.specs.SpelledSums.{spelled_sum}
use Rattle.operad_ideals.specs.Spelling.{IsSorted}
use Rattle.shuffle_insertions.proofs.Examples.{l, t1, t2, t3}
use Rattle.shuffle_transfer.proofs.Jacobi.{jacobi_relation, lie, sound}
use Rattle.symmetric_trees.specs.Generators.{parts_at}
use Rattle.operad_ideals.specs.SpellingOrder.{order as tree_order}
use Rattle.symmetric_trees.specs.Trees.{IsLabelled}
use Rattle.operad_ideals.specs.Collected.{IsReduced, IsCollected}
use Rattle.symmetric_sums.specs.Instances.{element_arity, in_place, IsValidInstance, products, without_zeros}
use Rattle.symmetric_sums.specs.Terms.{terms_of}
use Rattle.symmetric_sums.specs.declared.instance.Instance.{Instance}
use Rattle.symmetric_sums.specs.declared.instance.Rule.TheVariants.{Rel}
use Rattle.symmetric_sums.specs.declared.term.Term.{Term}
use Rattle.operad_ideals.proofs.LastOnes.{AllPairs-from_pairs}
use Rattle.presentation_text.specs.Accepted.{IsDemanded}
use Rattle.presentation_text.specs.PrintedElements.{IsWrittenTerm}
use Rattle.presentation_text.specs.TreeReadings.{any_arity}
use Rattle.presentation_text.specs.declared.document.Ask.{Ask}
use Rattle.certificate_text.specs.Plain.{PlainUse, PlainStep, PlainBlock, plain_block}
use Rattle.certificate_text.specs.Writable.{IsWritableUse, IsWritableStep, IsWritableBlock}
use Rattle.certificate_text.specs.PrintedBlocks.{block_text}
use Rattle.certificate_text.specs.declared.block.Block.{Block}
use Rattle.certificate_text.specs.declared.block.Step.{Step}
use Rattle.certificate_check.specs.Blocks.{BlockHolds}
use Rattle.symmetric_sums.specs.Uses.{IsGoodUse, sum_of}
use Rattle.operad_answers.specs.Texts.{Sum}
use Rattle.operad_answers.specs.Verdicts.{Sides, difference, IsYes}
use Rattle.operad_answers.proofs.LieTexts.{generators, rules_three, three_are}
use Rattle.operad_answers.proofs.LieDocument.{lie_with, bracket, comb, jacobi_terms, comb_is, terms_are}

-- ---- the block

abbrev pub right_comb : ProgramTree
right_comb = bracket (Leaf 1) (bracket (Leaf 2) (Leaf 3))

pub right_is : tree_of right_comb ≡ t3
right_is = tree_of-node 0 (Leaf 1 ∷ (bracket (Leaf 2) (Leaf 3) ∷ [])) ∙ ap₂ l (tree_of-leaf 1) (tree_of-node 0 (Leaf 2 ∷ (Leaf 3 ∷ [])) ∙ ap₂ l (tree_of-leaf 2) (tree_of-leaf 3))

abbrev pub at : ℕ → ProgramTree → Term
at c t = record { coef = c; tree = t }

abbrev want : List Term
want = at 1 (comb 1 2 3) ∷ (at 100 right_comb ∷ (at 100 (comb 1 3 2) ∷ []))

abbrev element : List Term
element = at 100 right_comb ∷ (at 1 (comb 1 2 3) ∷ (at 100 (comb 1 3 2) ∷ []))

abbrev use_one : Instance
use_one = record { coef = 1; context = Leaf 0; rule = Rel 1; inputs = Leaf 1 ∷ (Leaf 2 ∷ (Leaf 3 ∷ [])) }

abbrev pub step_one : Step
step_one = record { element = element; uses = use_one ∷ [] }

abbrev the_block : Block
the_block = record { want = want; steps = step_one ∷ [] }

-- ---- what it means

abbrev wanted_sum : Sum
wanted_sum = (1, t1) ∷ ((100, t3) ∷ ((100, t2) ∷ []))

abbrev pub step_sum : Sum
step_sum = (100, t3) ∷ ((1, t1) ∷ ((100, t2) ∷ []))

three_terms : (i j k : ℕ) (a b c : ProgramTree) (x y z : Tree ℕ) → tree_of a ≡ x → tree_of b ≡ y → tree_of c ≡ z
    → terms_of (at i a ∷ (at j b ∷ (at k c ∷ []))) ≡ (i, x) ∷ ((j, y) ∷ ((k, z) ∷ []))
three_terms i j k a b c x y z e f g =
    ap (λ t. (i, t) ∷ ((j, tree_of b) ∷ ((k, tree_of c) ∷ []))) e ∙ ap (λ t. (i, x) ∷ ((j, t) ∷ ((k, tree_of c) ∷ []))) f ∙ ap (λ t. (i, x) ∷ ((j, y) ∷ ((k, t) ∷ []))) g

want_is : terms_of want ≡ wanted_sum
want_is = three_terms 1 100 100 (comb 1 2 3) right_comb (comb 1 3 2) t1 t3 t2 (comb_is 1 2 3) right_is (comb_is 1 3 2)

pub element_is : terms_of element ≡ step_sum
element_is = three_terms 100 1 100 right_comb (comb 1 2 3) (comb 1 3 2) t3 t1 t2 right_is (comb_is 1 2 3) (comb_is 1 3 2)

abbrev leaves_three : List (Tree ℕ)
leaves_three = leaf 1 ∷ (leaf 2 ∷ (leaf 3 ∷ []))

inputs_are : map tree_of (Leaf 1 ∷ (Leaf 2 ∷ (Leaf 3 ∷ []))) ≡ leaves_three
inputs_are = ap₂ (λ x y. x ∷ y) (tree_of-leaf 1) (ap₂ (λ x y. x ∷ y) (tree_of-leaf 2) (ap (λ x. x ∷ []) (tree_of-leaf 3)))

abbrev plain_step_one : PlainStep
plain_step_one = record { element = step_sum; uses = record { coef = 1; context = leaf 0; rule = Rel 1; inputs = leaves_three } ∷ [] }

abbrev plain_use_one : PlainUse
plain_use_one = record { coef = 1; context = leaf 0; rule = Rel 1; inputs = leaves_three }

abbrev made : Sum → Sum → Tree ℕ → List (Tree ℕ) → PlainBlock
made w e c i = record { want = w; steps = record { element = e; uses = record { coef = 1; context = c; rule = Rel 1; inputs = i } ∷ [] } ∷ [] }

plain_is : plain_block the_block ≡ made wanted_sum step_sum (leaf 0) leaves_three
plain_is = ap (λ w. made w (terms_of element) (tree_of (Leaf 0)) (map tree_of (Leaf 1 ∷ (Leaf 2 ∷ (Leaf 3 ∷ []))))) want_is
    ∙ ap (λ e. made wanted_sum e (tree_of (Leaf 0)) (map tree_of (Leaf 1 ∷ (Leaf 2 ∷ (Leaf 3 ∷ []))))) element_is
    ∙ ap (λ c. made wanted_sum step_sum c (map tree_of (Leaf 1 ∷ (Leaf 2 ∷ (Leaf 3 ∷ []))))) (tree_of-leaf 0)
    ∙ ap (λ i. made wanted_sum step_sum (leaf 0) i) inputs_are

-- ---- it may be written

pub label_one : IsLabelled generators 3 t1
label_one = (((rules_three.0).all t1).0 (inl refl)).leads.leads.labelled

pub label_two : IsLabelled generators 3 t2
label_two = ((three_are.all t2).0 (inr (inl refl))).labelled

pub label_three : IsLabelled generators 3 t3
label_three = ((three_are.all t3).0 (inl refl)).labelled

writable_one : (c : ℕ) → 0 < c → c < 101 → IsWrittenTerm 101 generators 3 (c, t1)
writable_one c some small = record { nonzero = some; residue = small; tree = record { labelled = label_one; narrow = omega arith; shallow = omega arith } }

writable_two : (c : ℕ) → 0 < c → c < 101 → IsWrittenTerm 101 generators 3 (c, t2)
writable_two c some small = record { nonzero = some; residue = small; tree = record { labelled = label_two; narrow = omega arith; shallow = omega arith } }

writable_three : (c : ℕ) → 0 < c → c < 101 → IsWrittenTerm 101 generators 3 (c, t3)
writable_three c some small = record { nonzero = some; residue = small; tree = record { labelled = label_three; narrow = omega arith; shallow = omega arith } }

demanded : (i : ℕ) → i ≤ 99 → IsDemanded generators (any_arity true) (leaf i)
demanded i small = record { fits = tt; shallow = omega arith; narrow = omega arith; small = small; numbered = λ e. cc; least = omega arith; arity = λ n e. cc }

writable : IsWritableBlock 101 generators (made wanted_sum step_sum (leaf 0) leaves_three)
writable = record {
  want = (3, All-from_recursion (IsWrittenTerm 101 generators 3) wanted_sum (writable_one 1 (omega arith) (omega arith), (writable_three 100 (omega arith) (omega arith), (writable_two 100 (omega arith) (omega arith), tt))));
  steps = All-from_recursion (IsWritableStep 101 generators) (plain_step_one ∷ []) (
    record {
      element = (3, All-from_recursion (IsWrittenTerm 101 generators 3) step_sum (writable_three 100 (omega arith) (omega arith), (writable_one 1 (omega arith) (omega arith), (writable_two 100 (omega arith) (omega arith), tt))));
      uses = All-from_recursion (IsWritableUse 101 generators) (plain_use_one ∷ []) (
        record {
          coef = omega arith;
          rule = omega arith;
          context = demanded 0 (omega arith);
          inputs = All-from_recursion (IsDemanded generators (any_arity true)) leaves_three (demanded 1 (omega arith), (demanded 2 (omega arith), (demanded 3 (omega arith), tt)));
        },
        tt,
      );
    },
    tt,
  );
}

-- ---- it holds

used_is : moved (in_place use_one) (terms_of jacobi_terms) ≡ jacobi_relation.terms
used_is = ap (λ c. moved (placed c (map tree_of (Leaf 1 ∷ (Leaf 2 ∷ (Leaf 3 ∷ []))))) (terms_of jacobi_terms)) (tree_of-leaf 0)
    ∙ ap (λ i. moved (placed (leaf 0) i) (terms_of jacobi_terms)) inputs_are ∙ ap (moved (placed (leaf 0) leaves_three)) terms_are

abbrev pub rels : List (List Term)
rels = jacobi_terms ∷ []

sum_is : sum_of 101 generators rels [] (use_one ∷ []) ≡ jacobi_relation.terms
sum_is = ap (λ e. without_zeros (products 101 1 e) ++ []) used_is

context_once : occurs 0 (tree_of (Leaf 0)) ≡ 1
unfolding ℕ_discrete
context_once = ap (occurs 0) (tree_of-leaf 0)

no_zero : (i : ℕ) → occurs 0 (leaf i) ≡ 0 → occurs 0 (tree_of (Leaf i)) ≡ 0
no_zero i e = ap (occurs 0) (tree_of-leaf i) ∙ e

no_zeros : All (λ t. occurs 0 (tree_of t) ≡ 0) (Leaf 1 ∷ (Leaf 2 ∷ (Leaf 3 ∷ [])))
unfolding ℕ_discrete
no_zeros = All-from_recursion (λ t. occurs 0 (tree_of t) ≡ 0) (Leaf 1 ∷ (Leaf 2 ∷ (Leaf 3 ∷ []))) (no_zero 1 refl, (no_zero 2 refl, (no_zero 3 refl, tt)))

three_inputs : 3 ≡ element_arity (terms_of jacobi_terms)
three_inputs = subst (λ e. 3 ≡ element_arity e) (sym terms_are) refl

valid : IsValidInstance generators (terms_of jacobi_terms) 3 use_one
valid = record {
  has_terms = λ e. cc;
  as_many = three_inputs;
  is_context = context_once;
  no_zero = no_zeros;
  labelled = subst (λ e. AllTerms e (IsLabelled generators 3)) (sym used_is) (sound jacobi_relation (inl refl));
}

pub step_reduced : IsReduced 101 (parts_at generators) step_sum
step_reduced = record {
  sorted = All-from_recursion (λ x. IsSorted (parts lie) x.1) step_sum (((three_are.all t3).0 (inl refl)).sorted, ((((rules_three.0).all t1).0 (inl refl)).leads.leads.sorted, (((three_are.all t2).0 (inr (inl refl))).sorted, tt)));
  ascending = AllPairs-from_pairs (λ x y. tree_order x.1 y.1 ≡ Less) step_sum ((refl, (refl, tt)), ((refl, tt), (tt, tt)));
  residues = All-from_recursion (λ x. (0 < x.0) × (x.0 < 101)) step_sum ((omega arith, omega arith), ((omega arith, omega arith), ((omega arith, omega arith), tt)));
}

pub collected_step : IsCollected 101 (parts_at generators) step_sum step_sum × IsCollected 101 (parts_at generators) jacobi_relation.terms step_sum × IsCollected 101 (parts_at generators) wanted_sum step_sum
unfolding ℕ_discrete tree_discrete tree_discrete_by row_discrete_by same_leaf same_node same_more coef
collected_step = (
  record { reduced = step_reduced; same = same_if_agree tree_discrete 100 step_sum (spelled_sum 100 (parts lie) step_sum) refl },
  record { reduced = step_reduced; same = same_if_agree tree_discrete 100 step_sum (spelled_sum 100 (parts lie) jacobi_relation.terms) refl },
  record { reduced = step_reduced; same = same_if_agree tree_discrete 100 step_sum (spelled_sum 100 (parts lie) wanted_sum) refl },
)

abbrev pub Collects : Sum → Type 0
Collects e = IsCollected 101 (parts_at generators) e step_sum

pub holds : BlockHolds 101 generators rels want (step_one ∷ [])
holds = record {
  steps_hold = (
    record {
      uses = (3, All-from_recursion (IsGoodUse 101 generators rels [] 3) (use_one ∷ []) (record { cites = tt; valid = valid }, tt));
      same = (step_sum, subst Collects (sym element_is) collected_step.0, subst Collects (sym sum_is) collected_step.1);
    },
    tt,
  );
  wanted = (step_sum, subst Collects (sym want_is) collected_step.2, subst Collects (sym element_is) collected_step.0);
}

-- ---- the verdict

abbrev pub sides : Sides
sides = record { left = (1, t1) ∷ []; right = (1, t3) ∷ ((1, t2) ∷ []) }

wanted_same : sums.Same tree_discrete 100 wanted_sum (difference 101 sides)
unfolding scale
wanted_same t = refl

printed : block_text 101 generators (made wanted_sum step_sum (leaf 0) leaves_three)
    ≡ codes "want l(l(1,2),3) - l(1,l(2,3)) - l(l(1,3),2)\nstep -l(1,l(2,3)) + l(l(1,2),3) - l(l(1,3),2)\nuse 1 ; 0 ; rel 1 ; 1 ; 2 ; 3\nend\n"
unfolding digits
printed = refl

first_line : codes "# 1 yes\n" ≡ codes "# " ++ (decimal 1 ++ codes " yes") ++ 10 ∷ []
unfolding digits
first_line = refl

-- `same l(l(1,2),3) = l(1,l(2,3)) + l(l(1,3),2)` gets a yes
pub lie_yes : (asks : List Ask) → IsYes (lie_with asks) 1 sides
    (codes "# 1 yes\nwant l(l(1,2),3) - l(1,l(2,3)) - l(l(1,3),2)\nstep -l(1,l(2,3)) + l(l(1,2),3) - l(l(1,3),2)\nuse 1 ; 0 ; rel 1 ; 1 ; 2 ; 3\nend\n")
lie_yes asks = record {
  shown = record {
    block = the_block;
    writable = subst (IsWritableBlock 101 generators) (sym plain_is) writable;
    wanted = subst (λ e. sums.Same tree_discrete 100 e (difference 101 sides)) (sym want_is) wanted_same;
    holds = holds;
  };
  text_is = ap₂ (λ a b. a ++ b) first_line (sym printed ∙ ap (block_text 101 generators) (sym plain_is));
}
