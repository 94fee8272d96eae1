use Rattle.std.specs.Prelude.{◌≡◌, map, length}
use Rattle.std.proofs.Common.{◌∙◌, ap, sym, subst, arith}
use Rattle.std.specs.List.{AllByRecursion}
use Rattle.labelled_trees.specs.Meaning.{tree_of}
use Rattle.shuffle_insertions.specs.Listing.{all_trees, shuffles, IsListing}
use Rattle.shuffle_insertions.specs.Counting.{trees}
use Rattle.shuffle_insertions.proofs.Laws.{listed}
use Rattle.shuffle_trees.specs.LabelLists.{arity_in}
use Rattle.shuffle_trees.specs.ValidTrees.{IsValid}
use Rattle.shuffle_trees.proofs.Arities.{are_labels}
use Rattle.shuffle_trees.proofs.ListedTrees.{if_ok, all_valid}
use Rattle.shuffle_trees.proofs.listing.all_trees.Goals as goal

pub as_trees-requires : goal.as_trees-requires
as_trees-requires c =
    let labels = c.args.labels.now in
    let law = listed (length labels) (arity_in labels) (are_labels labels c.list_trees.ensures.few) c.args.n in
    let is = c.in_ok-shapes.ensures.trees ∙ ap (shuffles (length labels) (arity_in labels) c.args.n) (c.as_slice.ensures ∙ c.in_ok-leaves.ensures) in
    subst (AllByRecursion IsValid) (sym is) (all_valid (arity_in labels) c.args.n (all_trees (length labels) (arity_in labels) c.args.n) (omega (arith, c.ranges.n)) law.0.only)

pub returns-clause-listing : goal.returns-clause-listing
returns-clause-listing c =
    let labels = c.args.labels.now in
    let law = listed (length labels) (arity_in labels) (are_labels labels c.list_trees.ensures.few) c.args.n in
    let is = c.in_ok-shapes.ensures.trees ∙ ap (shuffles (length labels) (arity_in labels) c.args.n) (c.as_slice.ensures ∙ c.in_ok-leaves.ensures) in
    if_ok c.as_trees.result (λ trees. trees ≡ map tree_of c.in_ok-shapes.shapes.items) (λ made. IsListing (arity_in labels) c.args.n made) (λ made e. subst (IsListing (arity_in labels) c.args.n) (sym (e ∙ is)) law.0) c.as_trees.ensures

pub returns-clause-count : goal.returns-clause-count
returns-clause-count c =
    let labels = c.args.labels.now in
    let law = listed (length labels) (arity_in labels) (are_labels labels c.list_trees.ensures.few) c.args.n in
    let is = c.in_ok-shapes.ensures.trees ∙ ap (shuffles (length labels) (arity_in labels) c.args.n) (c.as_slice.ensures ∙ c.in_ok-leaves.ensures) in
    if_ok c.as_trees.result (λ trees. trees ≡ map tree_of c.in_ok-shapes.shapes.items) (λ made. length made ≡ trees (length labels) (arity_in labels) c.args.n) (λ made e. ap length (e ∙ is) ∙ law.1) c.as_trees.ensures
