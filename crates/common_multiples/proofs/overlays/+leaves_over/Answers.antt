use Rattle.std.specs.Prelude.{Option, None, MatchOption}
use Rattle.std.proofs.Common.{◌≡◌, ℕ, ◌+◌, ◌<◌, ◌∙◌, length, get_or, arith, rules, sym, ap, subst, refl}
use Rattle.labelled_trees.specs.Leaves.{leaf_count}
use Rattle.labelled_trees.specs.Meaning.{tree_of}
use Rattle.labelled_trees.specs.Unions.{union}
use Rattle.labelled_trees.specs.declared.Tree.TheViews.{the_lemmas}
use Rattle.shuffle_places.specs.Overlays.{shape}
use Rattle.common_multiples.specs.Overlaying.{Agree}
use Rattle.common_multiples.proofs.Numbering.{count_first, count_second, union_nodes}
use Rattle.common_multiples.proofs.LeafCounts.{agree_first, agree_second, agree_inputs, inputs_agree, other_length, few_inside, few_over, over_apart, over_fits, over_all}
use Rattle.common_multiples.proofs.overlays.+leaves_over.Goals as goal

none_answered : (r : Option ℕ) (P : Type 0) (Q : ℕ → Type 0) → r ≡ None → P → MatchOption r P Q
none_answered r P Q e p = let at_none : MatchOption None P Q = p in subst (λ o. MatchOption o P Q) (sym e) at_none

pub returns-then-len : goal.returns-then-len
returns-then-len t c = record {
  count = other_length c.args.host.now c.args.guest.now c.in-Node-Node.label c.in-Node-Node.other c.in-Node-Node.inputs c.in-Node-Node.parts c.in-Node-Node.is-0 c.in-Node-Node.is-1 (λ e. c.if-len.true (c.len.ensures ∙ e ∙ sym c.len-in-Node-Node.ensures));
}

pub leaves_over-requires : goal.leaves_over-requires
leaves_over-requires t c =
    let items = c.as_slice-input-items.result.now in
    let parts = c.in-Node-Node.parts in
    let i = c.loop-at.at in
    let short : i < length parts = omega (arith, c.loop-at-test.true, ap length c.as_slice-input-items.ensures, c.len.ensures, c.len-in-Node-Node.ensures, c.if-len.false) in
    let there = subst (λ us. c.index-as_slice-at.result ≡ get_or us i c.index-as_slice-at.result) c.as_slice.ensures c.index-as_slice-at.is in
    let first = few_inside c.args.host.now c.in-Node-Node.label c.in-Node-Node.inputs items i c.input-item.result c.in-Node-Node.is-0 c.as_slice-input-items.ensures c.loop-at-test.true c.input-item.is in
    let second = few_inside c.args.guest.now c.in-Node-Node.other parts parts i c.index-as_slice-at.result c.in-Node-Node.is-1 refl short there in
    let few_first : leaf_count (tree_of c.input-item.result) < 256 = omega (arith, first, c.requires.few.0) in
    let few_second : leaf_count (tree_of c.index-as_slice-at.result) < 256 = omega (arith, second, c.requires.few.1) in
    search (rules, the_lemmas)

pub returns-in_err-count-in-Node-Node : goal.returns-in_err-count-in-Node-Node
returns-in_err-count-in-Node-Node t c =
    let items = c.as_slice-input-items.result.now in
    let parts = c.in-Node-Node.parts in
    let i = c.loop-at.at in
    let short : i < length parts = omega (arith, c.loop-at-test.true, ap length c.as_slice-input-items.ensures, c.len.ensures, c.len-in-Node-Node.ensures, c.if-len.false) in
    let there = subst (λ us. c.index-as_slice-at.result ≡ get_or us i c.index-as_slice-at.result) c.as_slice.ensures c.index-as_slice-at.is in
    record {
      count = none_answered c.from_residual.result (Agree (tree_of c.args.host.now) (tree_of c.args.guest.now) → ⊥)
          (λ count. Agree (tree_of c.args.host.now) (tree_of c.args.guest.now) × (count ≡ leaf_count (union (shape (tree_of c.args.host.now)) (shape (tree_of c.args.guest.now))))) c.from_residual.ensures
          (λ a. over_apart items parts c.loop-at.count i c.input-item.result c.index-as_slice-at.result c.loop-at-test.true c.input-item.is short there c.loop-at.invariant c.in_err-count-in-Node-Node.ensures.count
          (agree_inputs c.args.host.now c.args.guest.now c.in-Node-Node.label c.in-Node-Node.other c.in-Node-Node.inputs items parts c.in-Node-Node.is-0 c.as_slice-input-items.ensures c.in-Node-Node.is-1 a).1);
    }

pub overflow_add-count : goal.overflow_add-count
overflow_add-count t c =
    let items = c.as_slice-input-items.result.now in
    let parts = c.in-Node-Node.parts in
    let i = c.loop-at.at in
    let short : i < length parts = omega (arith, c.loop-at-test.true, ap length c.as_slice-input-items.ensures, c.len.ensures, c.len-in-Node-Node.ensures, c.if-len.false) in
    let there = subst (λ us. c.index-as_slice-at.result ≡ get_or us i c.index-as_slice-at.result) c.as_slice.ensures c.index-as_slice-at.is in
    let fit = over_fits items parts c.loop-at.count i c.input-item.result c.index-as_slice-at.result c.loop-at-test.true c.input-item.is short there c.loop-at.invariant in
    let whole = ap leaf_count (union_nodes c.args.host.now c.args.guest.now c.in-Node-Node.label c.in-Node-Node.other c.in-Node-Node.inputs items parts c.in-Node-Node.is-0 c.as_slice-input-items.ensures c.in-Node-Node.is-1) in
    let small : c.loop-at.count + c.in_ok-count-in-Node-Node.field-0 < 512 = omega (arith, fit, whole, c.in_ok-count-in-Node-Node.ensures.count.1, few_over c.args.host.now c.args.guest.now, c.requires.few.0, c.requires.few.1) in
    search rules

pub returns-in-Leaf-default : goal.returns-in-Leaf-default
returns-in-Leaf-default t c = record {
  count = (agree_first c.args.host.now c.args.guest.now c.in-Leaf-default.field-0-0 c.in-Leaf-default.is-0, c.count_leaves.ensures.count ∙ count_first c.args.host.now c.args.guest.now c.in-Leaf-default.field-0-0 c.in-Leaf-default.is-0);
}

pub returns-in_default-Leaf : goal.returns-in_default-Leaf
returns-in_default-Leaf t c = record {
  count = (
    agree_second c.args.host.now c.args.guest.now c.in_default-Leaf.field-0-1 c.in_default-Leaf.is-1,
    c.count_leaves-in_default-Leaf.ensures.count ∙ count_second c.args.host.now c.args.guest.now c.in_default-Leaf.field-0-1 c.in_default-Leaf.is-1,
  );
}

pub returns-after-loop-at : goal.returns-after-loop-at
returns-after-loop-at t c =
    let items = c.as_slice-input-items.result.now in
    let parts = c.in-Node-Node.parts in
    let same : length items ≡ length parts = omega (arith, ap length c.as_slice-input-items.ensures, c.len.ensures, c.len-in-Node-Node.ensures, c.if-len.false) in
    let all = over_all items parts c.loop-at.count c.loop-at.at same c.loop-at-test.false c.loop-at.invariant in
    record {
      count = (
        inputs_agree c.args.host.now c.args.guest.now c.in-Node-Node.label c.in-Node-Node.other c.in-Node-Node.inputs items parts c.in-Node-Node.is-0 c.as_slice-input-items.ensures c.in-Node-Node.is-1 (c.if-label-other.false, all.0),
        all.1 ∙ sym (ap leaf_count (union_nodes c.args.host.now c.args.guest.now c.in-Node-Node.label c.in-Node-Node.other c.in-Node-Node.inputs items parts c.in-Node-Node.is-0 c.as_slice-input-items.ensures c.in-Node-Node.is-1)),
      );
    }
