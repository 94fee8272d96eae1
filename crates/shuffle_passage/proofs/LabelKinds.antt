-- The arities of the labels of a table.
use Rattle.std.proofs.Common.{◌≡◌, ◌≤◌, List, [], ◌∷◌, length, map, refl, sym, ap₂, ◌∙◌, arith}
use Rattle.std.specs.List.{AllByRecursion}
use Rattle.std.proofs.lemmas.List.Elements.{recursion_from_All}
use Rattle.operad_ideals.specs.Parts.{total}
use Rattle.shuffle_trees.specs.LabelLists as kinds
use Rattle.shuffle_trees.specs.LabelLists.{AreFew}
use Rattle.shuffle_transfer.specs.Labels.{words_of}
use Rattle.shuffle_transfer.proofs.LabelLists.{copies_are_labels, arity_of_label, each_copy, labels_most}
use Rattle.symmetric_trees.specs.Generators.{part_of, generators_of, IsTable, IsArity, SizesFit}
use Rattle.symmetric_trees.specs.declared.generators.Generator.{Generator}
use Rattle.symmetric_trees.proofs.Tables.{inputs_held, few_inputs}
use Rattle.shuffle_passage.specs.LabelKinds.{kind_in}
use Rattle.shuffle_passage.specs.Passage.{AreLabelsOf}
use Rattle.shuffle_passage.proofs.WordBounds.{count_words}
use Rattle.shuffle_passage.proofs.WordTables.{length-generators}

kinds_count : (gens : List Generator) → map (λ kind. kind.1) (map kind_in gens) ≡ map (λ ps. length (words_of ps)) (generators_of gens)
kinds_count [] = refl
kinds_count (g ∷ gs) = ap₂ (λ n ns. n ∷ ns) (sym (count_words (map part_of g.parts))) (kinds_count gs)

kinds_arities : (gens : List Generator) → AllByRecursion SizesFit gens → map (λ kind. kind.0) (map kind_in gens) ≡ map total (generators_of gens)
kinds_arities [] h = refl
kinds_arities (g ∷ gs) h = ap₂ (λ n ns. n ∷ ns) (sym (inputs_held g h.0)) (kinds_arities gs h.1)

-- the arities, kind by kind, are those of the labels
pub are_labels : (gens : List Generator) → IsTable gens → AreLabelsOf gens (kinds.labels_of_kinds (map kind_in gens))
are_labels gens table = record {
  count = copies_are_labels kinds.labels_of_kinds refl (λ kind rest. refl) (generators_of gens) (map kind_in gens) (kinds_count gens);
  arities_are = arity_of_label kinds.labels_of_kinds refl (λ kind rest. refl) (generators_of gens) (map kind_in gens) (kinds_count gens)
      (kinds_arities gens (recursion_from_All SizesFit gens table.sizes));
}

all_arities : (gens : List Generator) → AllByRecursion (λ (g : Generator). IsArity g.arity) gens → AllByRecursion IsArity (map (λ kind. kind.0) (map kind_in gens))
all_arities [] h = tt
all_arities (g ∷ gs) h = (h.0, all_arities gs h.1)

pub few_labels : (gens : List Generator) → IsTable gens → AreFew (kinds.labels_of_kinds (map kind_in gens))
few_labels gens table =
    let arities = recursion_from_All (λ (g : Generator). IsArity g.arity) gens table.arities in
    let sizes = recursion_from_All SizesFit gens table.sizes in
    let n = length-generators gens in
    let count = (are_labels gens table).count in
    let most = labels_most (generators_of gens) (few_inputs gens arities sizes) in
    record {
      count = omega (arith, count, most, n, table.few);
      arities = each_copy kinds.labels_of_kinds refl (λ kind rest. refl) IsArity (map kind_in gens) (all_arities gens arities);
    }
