use Rattle.std.proofs.Common.{◌≡◌, ◌++◌, ◌∙◌, ap, sym, subst}
use mathlib.Core.Path.{ap₂}
use Rattle.std.specs.declared.cmp.Ordering.TheVariants.{Equal}
use Rattle.operad_ideals.specs.SpellingOrder.{order}
use Rattle.common_multiples.specs.Listing.{AreAllMultiples}
use Rattle.common_multiples.proofs.OverlapLists.{none_of_first, none_of_second, of_one_tree, of_two_trees, same_tree, other_tree}
use Rattle.common_multiples.proofs.families.multiples.Goals as goal

pub returns-then-vertex_count-eq0 : goal.returns-then-vertex_count-eq0
returns-then-vertex_count-eq0 c = record {
  multiples = subst (AreAllMultiples c.args.n c.args.one.now c.args.other.now) (sym c.new-found.ensures.items)
      (none_of_first c.args.n c.args.one.now c.args.other.now (sym c.vertex_count.ensures.count ∙ c.if-vertex_count-eq0.true));
}

pub returns-then-vertex_count-eq0-2 : goal.returns-then-vertex_count-eq0-2
returns-then-vertex_count-eq0-2 c = record {
  multiples = subst (AreAllMultiples c.args.n c.args.one.now c.args.other.now) (sym c.new-found.ensures.items)
      (none_of_second c.args.n c.args.one.now c.args.other.now (sym c.vertex_count-2.ensures.count ∙ c.if-vertex_count-eq0-2.true));
}

pub returns-in_ok-push_family-in-Equal : goal.returns-in_ok-push_family-in-Equal
returns-in_ok-push_family-in-Equal c =
    let all = c.in_ok-push_family-in-Equal.ensures.overlaps in
    let e : order c.args.one.now c.args.other.now ≡ Equal = ap₂ order (sym c.shape.ensures.shape) (sym c.shape-2.ensures.shape) ∙ sym c.spelling_order.ensures.compared ∙ c.in-Equal.is in
    record {
      multiples = subst (AreAllMultiples c.args.n c.args.one.now c.args.other.now) (sym (all.1 ∙ ap (λ l. l ++ all.0) c.new-found.ensures.items))
          (of_one_tree c.args.n c.args.one.now c.args.other.now all.0 (same_tree c.args.one.now c.args.other.now e) all.2);
    }

pub returns-in_ok-push_family-in_default-2 : goal.returns-in_ok-push_family-in_default-2
returns-in_ok-push_family-in_default-2 c =
    let first = c.in_ok-push_family-in_default.ensures.overlaps in
    let second = c.in_ok-push_family-in_default-2.ensures.overlaps in
    record {
      multiples = subst (AreAllMultiples c.args.n c.args.one.now c.args.other.now) (sym (second.1 ∙ ap (λ l. l ++ second.0) (first.1 ∙ ap (λ l. l ++ first.0) c.new-found.ensures.items)))
          (of_two_trees c.args.n c.args.one.now c.args.other.now first.0 second.0
          (other_tree c.args.one.now c.args.other.now (λ e. c.in_default.not-Equal (c.spelling_order.ensures.compared ∙ ap₂ order c.shape.ensures.shape c.shape-2.ensures.shape ∙ e))) first.2 second.2);
    }
