use Rattle.std.proofs.Common.{◌≡◌, ◌∙◌, ◌+◌, ◌<◌, true, false, nat_eq, arith, rules, subst, sym, ap}
use Rattle.std.proofs.lemmas.Bool.Decides.{nat_tests}
use Rattle.labelled_trees.specs.Meaning.{tree_of}
use Rattle.labelled_trees.specs.Leaves.{leaf_count}
use Rattle.labelled_trees.specs.Unions.{union}
use Rattle.shuffle_places.specs.Overlays.{shape}
use Rattle.common_multiples.specs.Overlaying.{Agree, StandsAt}
use Rattle.common_multiples.proofs.FamilySteps.{room_for, few_of, few_of_part, fits_of}
use Rattle.common_multiples.proofs.LeafCounts.{few_over}
use Rattle.common_multiples.proofs.SiteOverlaps.{none_where_apart, none_of_arity}
use Rattle.common_multiples.proofs.families.fits_at.Goals as goal

pub vertex_at-requires : goal.vertex_at-requires
vertex_at-requires c = record { few = room_for c.args.host.now.tree.now (tree_of c.shape.result.now) c.shape.ensures.valid c.shape.ensures.shape }

pub leaves_over-requires : goal.leaves_over-requires
leaves_over-requires c = record {
  few = (
    few_of_part 1 c.args.at c.args.host.now.tree.now (tree_of c.shape.result.now) (tree_of c.in-At.part.now) c.shape.ensures.valid c.shape.ensures.shape c.in-At.ensures.vertex,
    few_of c.args.guest.now.tree.now (tree_of c.shape-in-At.result.now) c.shape-in-At.ensures.valid c.shape-in-At.ensures.shape,
  );
}

pub overflow_add-result : goal.overflow_add-result
overflow_add-result c =
    let part = few_of_part 1 c.args.at c.args.host.now.tree.now (tree_of c.shape.result.now) (tree_of c.in-At.part.now) c.shape.ensures.valid c.shape.ensures.shape c.in-At.ensures.vertex in
    let guest = few_of c.args.guest.now.tree.now (tree_of c.shape-in-At.result.now) c.shape-in-At.ensures.valid c.shape-in-At.ensures.shape in
    let both = few_over c.in-At.part.now c.shape-in-At.result.now in
    let count : c.in-Some.count < 512 = omega (arith, c.in-Some.ensures.count.1, both, part, guest) in
    search rules

pub count_leaves-requires : goal.count_leaves-requires
count_leaves-requires c = record { few = few_of_part 1 c.args.at c.args.host.now.tree.now (tree_of c.shape.result.now) (tree_of c.in-At.part.now) c.shape.ensures.valid c.shape.ensures.shape c.in-At.ensures.vertex }

pub overflow_add-result-in-Some : goal.overflow_add-result-in-Some
overflow_add-result-in-Some c =
    let part = few_of_part 1 c.args.at c.args.host.now.tree.now (tree_of c.shape.result.now) (tree_of c.in-At.part.now) c.shape.ensures.valid c.shape.ensures.shape c.in-At.ensures.vertex in
    let count : c.count_leaves.result < 256 = omega (arith, c.count_leaves.ensures.count, part) in
    search rules

pub returns-in-Some-clause-fits : goal.returns-in-Some-clause-fits
returns-in-Some-clause-fits c e =
    let whole : c.args.host.now.arity + c.in-Some.count ≡ c.args.n + c.count_leaves.result = grind (arith, nat_tests) in
    fits_of c.args.n c.args.host.now.arity c.args.at c.args.host.now.tree.now c.args.guest.now.tree.now (tree_of c.shape.result.now) (tree_of c.shape-in-At.result.now) (tree_of c.in-At.part.now)
    c.in-Some.count c.count_leaves.result c.requires.patterns.0.0 c.shape.ensures.shape c.shape-in-At.ensures.shape c.in-At.ensures.vertex c.in-Some.ensures.count.0 c.in-Some.ensures.count.1 c.count_leaves.ensures.count whole

pub returns-in-Some-clause-none : goal.returns-in-Some-clause-none
returns-in-Some-clause-none c e is_turned =
    none_of_arity c.args.n c.args.host.now.arity c.args.guest.now.arity c.args.at c.args.host.now.tree.now c.args.guest.now.tree.now is_turned c.requires.patterns.0.0 c.requires.patterns.1.0 c.requires.patterns.1.1 (tree_of c.in-At.part.now)
    (subst (λ t. StandsAt 1 c.args.at t (tree_of c.in-At.part.now)) c.shape.ensures.shape c.in-At.ensures.vertex)
    c.in-Some.count (c.in-Some.ensures.count.1 ∙ ap (λ t. leaf_count (union (shape (tree_of c.in-At.part.now)) (shape t))) c.shape-in-At.ensures.shape)
    (λ whole. let same : c.args.host.now.arity + c.in-Some.count ≡ c.args.n + c.count_leaves.result = whole ∙ ap (λ k. c.args.n + k) (sym c.count_leaves.ensures.count) in
    let yes_ : nat_eq (c.args.host.now.arity + c.in-Some.count) (c.args.n + c.count_leaves.result) ≡ true = grind (arith, nat_tests) in
    let wrong : true ≡ false = sym yes_ ∙ e in cc)

pub returns-in-None-clause-none : goal.returns-in-None-clause-none
returns-in-None-clause-none c e is_turned =
    none_where_apart c.args.n c.args.host.now.arity c.args.guest.now.arity c.args.at c.args.host.now.tree.now c.args.guest.now.tree.now is_turned c.requires.patterns.0.0 c.requires.patterns.1.0 c.requires.patterns.1.1 (tree_of c.in-At.part.now)
    (subst (λ t. StandsAt 1 c.args.at t (tree_of c.in-At.part.now)) c.shape.ensures.shape c.in-At.ensures.vertex)
    (subst (λ t. Agree (tree_of c.in-At.part.now) t → ⊥) c.shape-in-At.ensures.shape c.in-None.ensures.count)
