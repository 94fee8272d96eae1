use Rattle.std.proofs.Common.{◌<◌, refl, sym, rules, [], append-nil}
use Rattle.labelled_trees.specs.Meaning.{tree_of}
use Rattle.common_multiples.proofs.FamilySites.{host_once, guest_once, room_at, valid_there, overlaps_there}
use Rattle.common_multiples.proofs.FamilySteps.{room_for}
use Rattle.common_multiples.proofs.families.push_overlaps.Goals as goal

pub returns-then-not-fits_at : goal.returns-then-not-fits_at
returns-then-not-fits_at c = record { overlaps = ([], sym (append-nil c.args.found.now.items), c.if-not-fits_at.ensures.none refl c.args.is_turned) }

pub of-chains-requires-clause-first : goal.of-chains-requires-clause-first
of-chains-requires-clause-first c =
    let small : c.args.n < 256 = search rules in
    host_once c.args.n c.args.host.now.arity c.args.guest.now.arity c.args.at c.args.host.now.tree.now c.args.guest.now.tree.now c.args.is_turned small c.requires.patterns.0.0 c.requires.patterns.1.0 c.requires.patterns.1.1
    (c.if-not-fits_at.ensures.fits refl) c.in_ok-laid.laid c.in_ok-laid.ensures.laid

pub of-chains-requires-clause-second : goal.of-chains-requires-clause-second
of-chains-requires-clause-second c =
    let small : c.args.n < 256 = search rules in
    guest_once c.args.n c.args.host.now.arity c.args.guest.now.arity c.args.at c.args.host.now.tree.now c.args.guest.now.tree.now c.args.is_turned small c.requires.patterns.0.0 c.requires.patterns.1.0 c.requires.patterns.1.1
    (c.if-not-fits_at.ensures.fits refl) c.in_ok-laid.laid c.in_ok-laid.ensures.laid

pub push_merged-requires-clause-room : goal.push_merged-requires-clause-room
push_merged-requires-clause-room c =
    let small : c.args.n < 256 = search rules in (
      room_for c.args.host.now.tree.now (tree_of c.shape.result.now) c.shape.ensures.valid c.shape.ensures.shape,
      room_at c.args.n c.args.host.now.arity c.args.guest.now.arity c.args.at c.args.host.now.tree.now c.args.guest.now.tree.now c.args.is_turned small c.requires.patterns.0.0 c.requires.patterns.1.0 c.requires.patterns.1.1
          (c.if-not-fits_at.ensures.fits refl) c.in_ok-laid.laid c.in_ok-laid.ensures.laid (tree_of c.shape.result.now) (tree_of c.shape-2.result.now) c.shape.ensures.shape c.shape-2.ensures.shape,
    )

pub push_merged-requires-clause-valid : goal.push_merged-requires-clause-valid
push_merged-requires-clause-valid c =
    let small : c.args.n < 256 = search rules in
    valid_there c.args.n c.args.host.now.arity c.args.guest.now.arity c.args.at c.args.host.now.tree.now c.args.guest.now.tree.now c.args.is_turned small c.requires.patterns.0.0 c.requires.patterns.1.0 c.requires.patterns.1.1
    (c.if-not-fits_at.ensures.fits refl) c.in_ok-laid.laid c.in_ok-laid.ensures.laid
    c.of-chains.result c.of-chains.ensures.first c.of-chains.ensures.second c.of-chains.ensures.on_first c.of-chains.ensures.on_second
    (tree_of c.shape.result.now) (tree_of c.shape-2.result.now) c.shape.ensures.shape c.shape-2.ensures.shape

pub returns : goal.returns
returns c =
    let small : c.args.n < 256 = search rules in
    let there = overlaps_there c.args.n c.args.host.now.arity c.args.guest.now.arity c.args.at c.args.host.now.tree.now c.args.guest.now.tree.now c.args.is_turned small c.requires.patterns.0.0 c.requires.patterns.1.0 c.requires.patterns.1.1
    (c.if-not-fits_at.ensures.fits refl) c.in_ok-laid.laid c.in_ok-laid.ensures.laid
    c.of-chains.result c.of-chains.ensures.first c.of-chains.ensures.second c.of-chains.ensures.on_first c.of-chains.ensures.on_second
    (tree_of c.shape.result.now) (tree_of c.shape-2.result.now) c.shape.ensures.shape c.shape-2.ensures.shape in
    record { overlaps = (_, c.in_ok-push_merged.ensures.found, there) }
