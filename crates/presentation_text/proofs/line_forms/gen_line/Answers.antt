use Rattle.std.proofs.Common.{◌≡◌, ◌+◌, ◌∙◌, ◌∷◌, ◌++◌, [], None, Ok, ap, drop, length, length-append, subst, sym}
use Rattle.symmetric_trees.proofs.Tables.{table-push}
use Rattle.symmetric_trees.specs.Generators.{IsTable}
use Rattle.presentation_text.specs.DraftReadings.{contents_of}
use Rattle.presentation_text.specs.LineReadings.{gen_line, generator_in, prime_of}
use Rattle.presentation_text.proofs.FitsLonger.{asks_fit-longer, sums_fit-longer}
use Rattle.presentation_text.proofs.LineReadingsGenerators.{generator_welcome, no_refusal}
use Rattle.presentation_text.proofs.LineReadingsStops.{draft_stops, stops_on}
use Rattle.presentation_text.proofs.line_forms.gen_line.Goals as goal

pub returns-in_err-generator : goal.returns-in_err-generator
unfolding gen_line
returns-in_err-generator c =
    draft_stops c.args.tokens.now _ c.from_residual.result c.in_err-generator.field-0.0 c.from_residual.ensures.0 c.from_residual.ensures.1
    (stops_on c.args.tokens.now (generator_in c.args.draft.version c.args.draft.gens (drop 1 c.args.tokens.now)) _ _ c.in_err-generator.ensures)

pub out_of_memory-requires : goal.out_of_memory-requires
out_of_memory-requires c =
    no_refusal c.args.draft.gens c.in_ok-generator.generator c.in-Err.fail
    (generator_welcome c.args.draft.version c.args.draft.gens (drop 1 c.args.tokens.now) c.in_ok-generator.generator c.in_ok-generator.ensures) c.in-Err.ensures.answer.1

pub returns : goal.returns
unfolding gen_line
returns c =
    let old = c.args.draft.gens in
    let generator = c.in_ok-generator.generator in
    let longer : c.add.new.self ≡ old ++ generator ∷ [] = c.in-Ok.ensures.answer.0 in
    let p = prime_of c.args.draft.field in (
      rw c.in_ok-generator.ensures (
          ap (λ generators. Ok (record (contents_of c.args.draft) { generators = generators; weights = c.args.draft.weights ++ None ∷ []; section = 4 })) (sym longer)
          ∙ ap (λ weights. Ok (record (contents_of c.args.draft) { generators = c.add.new.self; weights = weights; section = 4 })) (sym c.in_ok-push.ensures.ok)
          ),
      record {
        table = subst IsTable (sym longer) (table-push old generator c.requires.sound.table c.in-Ok.ensures.answer.1);
        no_sums = c.requires.sound.no_sums;
        relations = sums_fit-longer p old c.add.new.self (generator ∷ []) longer c.args.draft.rels c.requires.sound.relations;
        asks = asks_fit-longer p old c.add.new.self (generator ∷ []) longer c.args.draft.asks c.requires.sound.asks;
        weights = ap length c.in_ok-push.ensures.ok ∙ length-append c.args.draft.weights (None ∷ []) ∙ ap (λ n. n + 1) c.requires.sound.weights ∙ sym (ap length longer ∙ length-append old (generator ∷ []));
      },
    )
