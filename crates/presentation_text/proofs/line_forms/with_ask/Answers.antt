use Rattle.std.proofs.Common.{◌≡◌, ◌∙◌, ◌∷◌, [], false, true, ap, map, subst, sym}
use Rattle.std.specs.List.{All}
use Rattle.std.specs.Option.{is_some}
use Rattle.std.proofs.lemmas.List.{map-append}
use Rattle.std.proofs.lemmas.List.Elements.{All-push}
use Rattle.presentation_text.specs.DraftReadings.{AskFits, asked, contents_of}
use Rattle.presentation_text.specs.LineReadings.{prime_of}
use Rattle.presentation_text.specs.declared.document.Ask.{Ask}
use Rattle.presentation_text.proofs.line_forms.with_ask.Goals as goal

pub returns : goal.returns
returns c =
    let fits = λ (ask : Ask). AskFits (prime_of c.args.draft.field) c.args.draft.gens ask.kind in
    let ask : Ask = record { line = c.args.number; kind = c.args.kind } in (
      ap (λ asks. record (contents_of c.args.draft) { asks = asks; section = 6 }) (ap (map asked) c.in_ok-push.ensures.ok ∙ map-append asked c.args.draft.asks (ask ∷ [])),
      record {
        table = c.requires.sound.table;
        no_sums = λ e. let both : false ≡ true = subst (λ field. is_some field ≡ true) e c.requires.field in absurd cc;
        relations = c.requires.sound.relations;
        asks = subst (All fits) (sym c.in_ok-push.ensures.ok) (All-push fits c.args.draft.asks ask c.requires.sound.asks c.requires.fits);
        weights = c.requires.sound.weights;
      },
    )
