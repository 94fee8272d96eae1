use Rattle.std.proofs.Common.{◌≡◌, ◌<◌, ℕ, List, ◌∙◌, arith, refl, subst, sym}
use Rattle.std.specs.List.{All}
use Rattle.modular_sums.specs.Sums.{AllTerms}
use Rattle.labelled_trees.specs.Trees.{Tree}
use Rattle.shuffle_insertions.specs.ShuffleTrees.{IsShuffleTree}
use Rattle.shuffle_sums.specs.Settings.{field_of}
use Rattle.shuffle_sums.specs.Sums.{AreTerms}
use Rattle.shuffle_trees.specs.LabelLists.{arity_in}
use Rattle.reduction_rows.proofs.TermLists.{all_trees, shelf_terms}
use Rattle.reduction_rows.proofs.sums.sum_of.Goals as goal

pub from_sum-requires-clause-terms : goal.from_sum-requires-clause-terms
from_sum-requires-clause-terms g c =
    let terms = c.args.terms.now in
    let n = c.args.arity in
    let shelf = c.args.shelf.now in
    let prime : c.prime.result ≡ field_of c.args.setting.now = c.prime.ensures.value ∙ c.field.ensures.field in
    let labels : c.labels.result.now ≡ shelf.labels = c.labels.ensures.labels ∙ sym c.requires.own in
    let over : All (λ x. (x.0 < c.prime.result) × IsShuffleTree (arity_in shelf.labels) n x.1) terms =
    subst (λ (ls : List ℕ). All (λ (x : ℕ × Tree ℕ). (x.0 < c.prime.result) × IsShuffleTree (arity_in ls) n x.1) terms) labels (c.if-not-are_over.ensures refl) in
    let most = c.most.ensures.most in
    subst (λ p. AreTerms shelf p terms) prime (shelf_terms shelf c.prime.result n terms (omega (arith, most)) over)

pub returns-clause-trees : goal.returns-clause-trees
returns-clause-trees g c =
    let terms = c.args.terms.now in
    let n = c.args.arity in
    let labels : c.labels.result.now ≡ c.from_sum.new.shelf.labels = c.labels.ensures.labels ∙ sym c.requires.own ∙ sym c.in_ok-from_sum.ensures.keeps.labels in
    c.in_ok-from_sum.ensures.sum.trees n
    (subst (λ (ls : List ℕ). AllTerms terms (IsShuffleTree (arity_in ls) n)) labels (all_trees c.prime.result (IsShuffleTree (arity_in c.labels.result.now) n) terms (c.if-not-are_over.ensures refl)))
