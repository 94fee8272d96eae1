use Rattle.std.proofs.Common.{◌∙◌, ◌*◌, ◌-◌, ◌<◌, ap, refl, sym, subst, map}
use Rattle.std.specs.List.{All}
use Rattle.modular_sums.specs.Residues.{IsCongruent}
use Rattle.labelled_trees.specs.Labelled.{Fits}
use Rattle.shuffle_insertions.specs.Frames.{Frame}
use Rattle.shuffle_transfer.specs.Labels.{inputs_of, symmetric_tree}
use Rattle.shuffle_places.specs.Places.{frame_at}
use Rattle.tree_store.specs.Stores.{tree_at}
use Rattle.arity_completion.proofs.FrameFits.{frames_fit}
use Rattle.arity_completion.proofs.Hosts.{host_tree, step_number}
use Rattle.arity_completion.proofs.uses.step_use.Goals as goal
use Rattle.symmetric_trees.specs.Generators.{generators_of}

pub frame_to_context-requires-clause-context : goal.frame_to_context-requires-clause-context
frame_to_context-requires-clause-context c =
    let trees = c.args.shelf.now.trees in
    let host = c.args.cofactor.now.host in
    let place = c.args.cofactor.now.place in
    let arity = inputs_of (generators_of c.args.log.now.gens) in
    let frame_is = c.in_ok-frame.ensures.frame ∙ ap (frame_at place) (c.in_ok-host.ensures.tree ∙ ap (λ ts. tree_at ts host) c.store.ensures.store) in
    let valid = host_tree c.args.shelf.now arity c.store.ensures.shelf c.requires.labels host c.requires.placed.key in
    let fit = frames_fit arity valid.0 (tree_at trees host) place valid.1 c.requires.placed.connected in
    subst (λ gens. Fits (inputs_of (generators_of gens)) c.in_ok-frame.frame.hole) (sym c.table.ensures.table) (subst (λ (f : Frame). Fits arity f.hole) (sym frame_is) fit.0)

pub frame_to_context-requires-clause-inputs : goal.frame_to_context-requires-clause-inputs
frame_to_context-requires-clause-inputs c =
    let trees = c.args.shelf.now.trees in
    let host = c.args.cofactor.now.host in
    let place = c.args.cofactor.now.place in
    let arity = inputs_of (generators_of c.args.log.now.gens) in
    let frame_is = c.in_ok-frame.ensures.frame ∙ ap (frame_at place) (c.in_ok-host.ensures.tree ∙ ap (λ ts. tree_at ts host) c.store.ensures.store) in
    let valid = host_tree c.args.shelf.now arity c.store.ensures.shelf c.requires.labels host c.requires.placed.key in
    let fit = frames_fit arity valid.0 (tree_at trees host) place valid.1 c.requires.placed.connected in
    subst (λ gens. All (Fits (inputs_of (generators_of gens))) c.in_ok-frame.frame.inputs) (sym c.table.ensures.table) (subst (λ (f : Frame). All (Fits arity) f.inputs) (sym frame_is) fit.1)

pub returns : goal.returns
returns c =
    let host = c.args.cofactor.now.host in
    let place = c.args.cofactor.now.place in
    let m = c.args.log.now.field in
    let frame_is = c.in_ok-frame.ensures.frame ∙ ap (frame_at place) (c.in_ok-host.ensures.tree ∙ ap (λ ts. tree_at ts host) c.store.ensures.store) in
    let field_is = c.field-field.ensures.field in
    let table_is = c.table.ensures.table in
    record {
      residue = subst (λ p. c.mul.result < p) field_is c.mul.ensures.residue;
      coef = subst (λ p. IsCongruent (p - 1) c.mul.result (c.args.factor * ((p - 1) * c.args.cofactor.now.coef))) field_is
          (step_number (c.field-field.result - 1) c.of_number.result c.args.cofactor.now.coef c.neg-number.result c.args.factor c.mul.result c.mul.ensures.product c.neg-number.ensures.negative
          (subst (λ k. IsCongruent (c.field-field.result - 1) c.of_number.result k) c.from.ensures c.of_number.ensures.same));
      rule = refl;
      hole = c.in_ok-context.ensures.hole;
      context = c.in_ok-context.ensures.context ∙ ap (λ gens. symmetric_tree (generators_of gens) c.in_ok-frame.frame.hole) table_is ∙ ap (λ (f : Frame). symmetric_tree (generators_of c.args.log.now.gens) f.hole) frame_is;
      inputs = c.in_ok-context.ensures.inputs ∙ ap (λ gens. map (symmetric_tree (generators_of gens)) c.in_ok-frame.frame.inputs) table_is
          ∙ ap (λ (f : Frame). map (symmetric_tree (generators_of c.args.log.now.gens)) f.inputs) frame_is;
    }
