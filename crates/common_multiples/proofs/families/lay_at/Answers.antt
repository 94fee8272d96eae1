use Rattle.std.proofs.Common.{◌∙◌, ap, subst, sym, replicate}
use Rattle.std.specs.Prelude.{slice_index}
use Rattle.labelled_trees.specs.Meaning.{tree_of}
use Rattle.shuffle_places.specs.AllPlaces.{lay}
use Rattle.tree_divisors.specs.Laying.{Covers, numbers_at}
use Rattle.common_multiples.proofs.FamilySteps.{room_for, plain_made, room_laid, host_covers, vertex_there, guest_covers, room_inside, starts_at_root, laid_down}
use Rattle.common_multiples.proofs.families.lay_at.Goals as goal

pub overlay-requires-clause-vertices : goal.overlay-requires-clause-vertices
overlay-requires-clause-vertices c = room_for c.args.host.now (tree_of c.shape.result.now) c.shape.ensures.valid c.shape.ensures.shape

pub vertex_at-requires : goal.vertex_at-requires
vertex_at-requires c = record {
  few = room_laid c.args.host.now c.args.guest.now c.args.at c.requires.laid c.shape.ensures.valid c.shape-2.ensures.valid (tree_of c.in_ok-made.made.tree)
      (plain_made (slice_index c.same_numbers.result) c.args.host.now c.args.guest.now (tree_of c.shape.result.now) (tree_of c.shape-2.result.now) c.args.at (tree_of c.in_ok-made.made.tree) c.requires.laid
      c.shape.ensures.shape c.shape-2.ensures.shape c.same_numbers.ensures.same c.in_ok-made.ensures.tree);
}

pub numbers-requires-clause-laid : goal.numbers-requires-clause-laid
numbers-requires-clause-laid c =
    subst (λ t. Covers t (tree_of c.in_ok-made.made.tree)) (sym c.shape-in-At-3.ensures.shape)
    (host_covers c.args.host.now c.args.guest.now c.args.at c.requires.laid c.shape.ensures.valid c.shape-2.ensures.valid (tree_of c.in_ok-made.made.tree)
    (plain_made (slice_index c.same_numbers.result) c.args.host.now c.args.guest.now (tree_of c.shape.result.now) (tree_of c.shape-2.result.now) c.args.at (tree_of c.in_ok-made.made.tree) c.requires.laid
    c.shape.ensures.shape c.shape-2.ensures.shape c.same_numbers.ensures.same c.in_ok-made.ensures.tree))

pub numbers-requires-clause-few : goal.numbers-requires-clause-few
numbers-requires-clause-few c =
    room_laid c.args.host.now c.args.guest.now c.args.at c.requires.laid c.shape.ensures.valid c.shape-2.ensures.valid (tree_of c.in_ok-made.made.tree)
    (plain_made (slice_index c.same_numbers.result) c.args.host.now c.args.guest.now (tree_of c.shape.result.now) (tree_of c.shape-2.result.now) c.args.at (tree_of c.in_ok-made.made.tree) c.requires.laid
    c.shape.ensures.shape c.shape-2.ensures.shape c.same_numbers.ensures.same c.in_ok-made.ensures.tree)

pub numbers-requires-in-At-clause-laid : goal.numbers-requires-in-At-clause-laid
numbers-requires-in-At-clause-laid c =
    subst (λ t. Covers t (tree_of c.in-At.inner.now)) (sym c.shape-in-At-4.ensures.shape)
    (guest_covers c.args.host.now c.args.guest.now c.args.at c.requires.laid c.shape.ensures.valid c.shape-2.ensures.valid (tree_of c.in_ok-made.made.tree)
    (plain_made (slice_index c.same_numbers.result) c.args.host.now c.args.guest.now (tree_of c.shape.result.now) (tree_of c.shape-2.result.now) c.args.at (tree_of c.in_ok-made.made.tree) c.requires.laid
    c.shape.ensures.shape c.shape-2.ensures.shape c.same_numbers.ensures.same c.in_ok-made.ensures.tree) (tree_of c.in-At.inner.now) c.in-At.ensures.vertex)

pub numbers-requires-in-At-clause-few : goal.numbers-requires-in-At-clause-few
numbers-requires-in-At-clause-few c =
    room_inside c.args.host.now c.args.guest.now c.args.at c.requires.laid c.shape.ensures.valid c.shape-2.ensures.valid (tree_of c.in_ok-made.made.tree)
    (plain_made (slice_index c.same_numbers.result) c.args.host.now c.args.guest.now (tree_of c.shape.result.now) (tree_of c.shape-2.result.now) c.args.at (tree_of c.in_ok-made.made.tree) c.requires.laid
    c.shape.ensures.shape c.shape-2.ensures.shape c.same_numbers.ensures.same c.in_ok-made.ensures.tree) (tree_of c.in-At.inner.now) c.in-At.ensures.vertex

pub unreachable-requires : goal.unreachable-requires
unreachable-requires c =
    let plain = plain_made (slice_index c.same_numbers.result) c.args.host.now c.args.guest.now (tree_of c.shape.result.now) (tree_of c.shape-2.result.now) c.args.at (tree_of c.in_ok-made.made.tree) c.requires.laid
    c.shape.ensures.shape c.shape-2.ensures.shape c.same_numbers.ensures.same c.in_ok-made.ensures.tree in
    absurd (c.in-Past.ensures.vertex.1
    (starts_at_root c.args.host.now c.args.guest.now c.args.at c.requires.laid c.shape.ensures.valid c.shape-2.ensures.valid (tree_of c.in_ok-made.made.tree) plain)
    (vertex_there c.args.host.now c.args.guest.now c.args.at c.requires.laid c.shape.ensures.valid c.shape-2.ensures.valid (tree_of c.in_ok-made.made.tree) plain))

pub returns : goal.returns
returns c =
    let plain = plain_made (slice_index c.same_numbers.result) c.args.host.now c.args.guest.now (tree_of c.shape.result.now) (tree_of c.shape-2.result.now) c.args.at (tree_of c.in_ok-made.made.tree) c.requires.laid
    c.shape.ensures.shape c.shape-2.ensures.shape c.same_numbers.ensures.same c.in_ok-made.ensures.tree in
    record {
      laid = record {
        host_valid = c.shape.ensures.valid;
        guest_valid = c.shape-2.ensures.valid;
        tree = tree_of c.in_ok-made.made.tree;
        plain = plain;
        inner = tree_of c.in-At.inner.now;
        at = c.in-At.ensures.vertex;
        before = replicate 256 0;
        first = laid_down (replicate 256 0) c.lies.new.leasts c.args.host.now (tree_of c.shape-in-At.result.now) (tree_of c.in_ok-made.made.tree) c.lies.result c.shape-in-At.ensures.shape
            (host_covers c.args.host.now c.args.guest.now c.args.at c.requires.laid c.shape.ensures.valid c.shape-2.ensures.valid (tree_of c.in_ok-made.made.tree) plain) c.lies.ensures.laid c.lies.ensures.none;
        second = laid_down (replicate 256 0) c.lies-in-At.new.leasts c.args.guest.now (tree_of c.shape-in-At-2.result.now) (tree_of c.in-At.inner.now) c.lies-in-At.result c.shape-in-At-2.ensures.shape
            (guest_covers c.args.host.now c.args.guest.now c.args.at c.requires.laid c.shape.ensures.valid c.shape-2.ensures.valid (tree_of c.in_ok-made.made.tree) plain (tree_of c.in-At.inner.now) c.in-At.ensures.vertex)
            c.lies-in-At.ensures.laid c.lies-in-At.ensures.none;
        host_place = c.from_vertices-host_place.ensures.place ∙ c.in_ok-numbers-in-At.ensures.numbers ∙ ap (λ t. numbers_at 1 (lay t (tree_of c.in_ok-made.made.tree))) c.shape-in-At-3.ensures.shape;
        guest_place = c.from_vertices-guest_place.ensures.place ∙ c.in_ok-numbers-in-At-2.ensures.numbers ∙ ap (λ t. numbers_at c.args.at (lay t (tree_of c.in-At.inner.now))) c.shape-in-At-4.ensures.shape;
      };
    }
