-- The arities and the weights of the labels of a table, generator by generator.
use Rattle.std.proofs.Common.{◌≡◌, ℕ, ◌+◌, ◌*◌, ◌/◌, ◌<◌, ◌≤◌, List, [], ◌∷◌, ◌++◌, length, map, replicate, drop, get_or, slice_index, refl, sym, ap, ap₂, ◌∙◌, arith, append_assoc}
use Rattle.std.specs.List.{AllByRecursion}
use Rattle.std.proofs.Math.ListN.{length-map}
use Rattle.std.proofs.Math.Nat.{mul-div_cancel}
use Rattle.std.proofs.lemmas.List.{drop_more, drop_all, append-nil}
use Rattle.std.proofs.lemmas.List.Elements.{recursion_from_All}
use Rattle.operad_ideals.specs.Parts.{total}
use Rattle.shuffle_trees.specs.LabelLists.{labels_of_kinds, AreFew}
use Rattle.shuffle_transfer.specs.Labels.{words_of, gen}
use Rattle.shuffle_transfer.specs.LabelCounts.{kind_orders, part_orders}
use Rattle.shuffle_transfer.proofs.LabelLists.{copies_are_labels, copy_of_label, arity_of_label, each_copy, kind_orders_least, labels_most}
use Rattle.symmetric_trees.specs.Generators.{kind_of, part_of, generators_of, IsTable, IsArity, SizesFit}
use Rattle.symmetric_trees.specs.declared.generators.Generator.{Generator}
use Rattle.symmetric_trees.specs.declared.generators.Part.{Part}
use Rattle.symmetric_trees.proofs.Tables.{inputs_held, few_inputs}
use Rattle.shuffle_sums.specs.LabelArities.{AreLabelArities, AreLabelWeights, arity_and_count}

-- a product is divided by one of its factors
pub divided : (count words orders rest : ℕ) → 1 ≤ orders → count ≡ words * (orders * rest) → count / orders ≡ words * rest
divided count words orders rest some e =
    let turned : words * (orders * rest) ≡ words * rest * orders = omega arith in
    ap (λ n. n / orders) (e ∙ turned) ∙ mul-div_cancel (words * rest) some

-- the orders of the parts that are left are those of the next one, times those of the others
pub orders_next : (parts whole : List Part) (i orders : ℕ) (d : Part) → parts ≡ whole → i < length parts → orders ≡ kind_orders (kind_of (get_or parts i d).kind) (get_or parts i d).size
    → (1 ≤ orders) × (part_orders (map part_of (drop i whole)) ≡ orders * part_orders (map part_of (drop (i + 1) whole)))
orders_next parts whole i orders d same lt is = (
  let k = kind_orders_least (kind_of (get_or parts i d).kind) (get_or parts i d).size in omega (arith, is, k),
  ap (λ ps. part_orders (map part_of (drop i ps))) (sym same)
      ∙ ap (λ ps. part_orders (map part_of ps)) (drop_more parts i d lt)
      ∙ ap (λ n. n * part_orders (map part_of (drop (i + 1) parts))) (sym is)
      ∙ ap (λ ps. orders * part_orders (map part_of (drop (i + 1) ps))) same,
)

counts_are : (gens : List Generator) → map (λ kind. kind.1) (map arity_and_count gens) ≡ map (λ ps. length (words_of ps)) (generators_of gens)
counts_are [] = refl
counts_are (g ∷ gs) = ap (λ ns. length (words_of (map part_of g.parts)) ∷ ns) (counts_are gs)

arities_are : (gens : List Generator) → AllByRecursion SizesFit gens → map (λ kind. kind.0) (map arity_and_count gens) ≡ map total (generators_of gens)
arities_are [] h = refl
arities_are (g ∷ gs) h = ap₂ (λ n ns. n ∷ ns) (sym (inputs_held g h.0)) (arities_are gs h.1)

-- the arities, kind by kind, are those of the labels
pub label_arities : (gens : List Generator) → IsTable gens → AreLabelArities gens (labels_of_kinds (map arity_and_count gens))
label_arities gens table = record {
  count = copies_are_labels labels_of_kinds refl (λ kind rest. refl) (generators_of gens) (map arity_and_count gens) (counts_are gens);
  arities_are = arity_of_label labels_of_kinds refl (λ kind rest. refl) (generators_of gens) (map arity_and_count gens) (counts_are gens)
      (arities_are gens (recursion_from_All SizesFit gens table.sizes));
}

all_arities : (gens : List Generator) → AllByRecursion (λ (g : Generator). IsArity g.arity) gens → AllByRecursion IsArity (map (λ kind. kind.0) (map arity_and_count gens))
all_arities [] h = tt
all_arities (g ∷ gs) h = (h.0, all_arities gs h.1)

-- there are few of them
pub few_arities : (gens : List Generator) → IsTable gens → AreFew (labels_of_kinds (map arity_and_count gens))
few_arities gens table =
    let arities = recursion_from_All (λ (g : Generator). IsArity g.arity) gens table.arities in
    let sizes = recursion_from_All SizesFit gens table.sizes in
    let n = length-map gens (λ g. map part_of g.parts) in
    let count = (label_arities gens table).count in
    let most = labels_most (generators_of gens) (few_inputs gens arities sizes) in
    record {
      count = omega (arith, count, most, n, table.few);
      arities = each_copy labels_of_kinds refl (λ kind rest. refl) IsArity (map arity_and_count gens) (all_arities gens arities);
    }

-- the weight of each generator, and how many labels it has
abbrev pub weights_and_counts : List Generator → List ℕ → List (ℕ × ℕ)
weights_and_counts [] weights = []
weights_and_counts (g ∷ gs) [] = []
weights_and_counts (g ∷ gs) (w ∷ ws) = (w, length (words_of (map part_of g.parts))) ∷ weights_and_counts gs ws

weighed_counts : (gens : List Generator) (weights : List ℕ) → length weights ≡ length gens → map (λ kind. kind.1) (weights_and_counts gens weights) ≡ map (λ ps. length (words_of ps)) (generators_of gens)
weighed_counts [] ws e = refl
weighed_counts (g ∷ gs) [] e = absurd (omega (arith, e))
weighed_counts (g ∷ gs) (w ∷ ws) e = ap (λ ns. length (words_of (map part_of g.parts)) ∷ ns) (weighed_counts gs ws (omega (arith, e)))

weights_kept : (gens : List Generator) (weights : List ℕ) → length weights ≡ length gens → map (λ kind. kind.0) (weights_and_counts gens weights) ≡ weights
weights_kept [] [] e = refl
weights_kept [] (w ∷ ws) e = absurd (omega (arith, e))
weights_kept (g ∷ gs) [] e = absurd (omega (arith, e))
weights_kept (g ∷ gs) (w ∷ ws) e = ap (λ ns. w ∷ ns) (weights_kept gs ws (omega (arith, e)))

-- the weights, generator by generator, are those of the labels
pub label_weights : (gens : List Generator) (weights : List ℕ) → length weights ≡ length gens → AreLabelWeights gens weights (labels_of_kinds (weights_and_counts gens weights))
label_weights gens weights e =
    let kinds = weights_and_counts gens weights in
    record {
      count = copies_are_labels labels_of_kinds refl (λ kind rest. refl) (generators_of gens) kinds (weighed_counts gens weights e);
      weights_are = λ l.
          copy_of_label labels_of_kinds refl (λ kind rest. refl) (generators_of gens) kinds (weighed_counts gens weights e) l
          ∙ ap (λ ws. slice_index ws (gen (generators_of gens) l)) (weights_kept gens weights e);
    }

-- the weights so far, with those of one generator more
pub weights-more : (made after : List ℕ) (whole : List ℕ) (g : Generator) (gens rest : List Generator) (w n : ℕ) (weights others : List ℕ) → gens ≡ g ∷ rest → weights ≡ w ∷ others → n ≡ length (words_of (map part_of g.parts))
    → made ++ labels_of_kinds (weights_and_counts gens weights) ≡ whole → after ≡ made ++ replicate n w → after ++ labels_of_kinds (weights_and_counts rest others) ≡ whole
weights-more made after whole g gens rest w n weights others split apart count before is =
    ap (λ ws. ws ++ labels_of_kinds (weights_and_counts rest others)) (is ∙ ap (λ m. made ++ replicate m w) count)
    ∙ append_assoc made (replicate (length (words_of (map part_of g.parts))) w) (labels_of_kinds (weights_and_counts rest others))
    ∙ ap₂ (λ gs ws. made ++ labels_of_kinds (weights_and_counts gs ws)) (sym split) (sym apart) ∙ before

-- and behind the last generator there are no more
pub no_weights-more : (made whole : List ℕ) (gens : List Generator) (weights : List ℕ) (i : ℕ) → length gens ≤ i
    → made ++ labels_of_kinds (weights_and_counts (drop i gens) (drop i weights)) ≡ whole → made ≡ whole
no_weights-more made whole gens weights i over e =
    sym (append-nil made) ∙ ap (λ gs. made ++ labels_of_kinds (weights_and_counts gs (drop i weights))) (sym (drop_all i gens over)) ∙ e
