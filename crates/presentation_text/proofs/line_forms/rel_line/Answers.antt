use Rattle.std.proofs.Common.{◌≡◌, ◌∙◌, ◌++◌, ◌∷◌, [], None, Ok, ap, arith, drop, false, length, map, nat_le, refl, subst, sym, true}
use Rattle.std.specs.List.{All}
use Rattle.std.specs.Option.{is_some}
use Rattle.std.proofs.lemmas.List.Elements.{All-push}
use Rattle.std.proofs.lemmas.List.{length-map, map-append}
use Rattle.symmetric_sums.specs.Terms.{FitsOver, terms_of}
use Rattle.presentation_text.specs.DraftReadings.{contents_of}
use Rattle.presentation_text.specs.Elements.{written_sum}
use Rattle.presentation_text.specs.ElementReadings.{element_in}
use Rattle.presentation_text.specs.LineReadings.{prime_of, rel_line}
use Rattle.presentation_text.specs.Readings.{end_in}
use Rattle.presentation_text.specs.TreeReadings.{demands_of}
use Rattle.presentation_text.specs.declared.kinds.DocKind.TheVariants.{TooManyRelations}
use Rattle.presentation_text.proofs.LineReadingsNumbers.{at_most, not_at_most}
use Rattle.presentation_text.proofs.LineReadingsStops.{draft_fails, draft_stops, stops_on}
use Rattle.presentation_text.proofs.line_forms.rel_line.Goals as goal

pub returns-then-len-ge-MOST_RELATIONS : goal.returns-then-len-ge-MOST_RELATIONS
unfolding rel_line
returns-then-len-ge-MOST_RELATIONS c =
    let full : nat_le 1000 (length (map terms_of c.args.draft.rels)) ≡ true = at_most 1000 _ (omega (arith, length-map c.args.draft.rels terms_of, c.len.ensures, c.if-len-ge-MOST_RELATIONS.true)) in
    draft_fails c.args.tokens.now 0 TooManyRelations _ c.fail.result (omega arith) (rw full refl) c.fail.ensures

pub returns-in_err-element : goal.returns-in_err-element
unfolding rel_line
returns-in_err-element c =
    let room : nat_le 1000 (length (map terms_of c.args.draft.rels)) ≡ false = not_at_most 1000 _ (omega (arith, length-map c.args.draft.rels terms_of, c.len.ensures, c.if-len-ge-MOST_RELATIONS.false)) in
    draft_stops c.args.tokens.now _ c.from_residual.result c.in_err-element.field-0.0 c.from_residual.ensures.0 c.from_residual.ensures.1
    (rw room (stops_on c.args.tokens.now (element_in c.args.draft.gens (demands_of 2 None) (drop 1 c.args.tokens.now)) _ _ c.in_err-element.ensures.read))

pub returns-in_err-end_at : goal.returns-in_err-end_at
unfolding rel_line
returns-in_err-end_at c =
    let room : nat_le 1000 (length (map terms_of c.args.draft.rels)) ≡ false = not_at_most 1000 _ (omega (arith, length-map c.args.draft.rels terms_of, c.len.ensures, c.if-len-ge-MOST_RELATIONS.false)) in
    draft_stops c.args.tokens.now _ c.from_residual-in_err-end_at.result c.in_err-end_at.field-0.0 c.from_residual-in_err-end_at.ensures.0 c.from_residual-in_err-end_at.ensures.1
    (rw (room, c.in_ok-element.ensures.read.reading_is) (stops_on c.args.tokens.now (end_in (drop c.in_ok-element.element.next c.args.tokens.now)) _ _ c.in_err-end_at.ensures))

pub returns : goal.returns
unfolding rel_line
returns c =
    let fits = FitsOver (prime_of c.args.draft.field) c.args.draft.gens in
    let room : nat_le 1000 (length (map terms_of c.args.draft.rels)) ≡ false = not_at_most 1000 _ (omega (arith, length-map c.args.draft.rels terms_of, c.len.ensures, c.if-len-ge-MOST_RELATIONS.false)) in (
      rw (room, c.in_ok-element.ensures.read.reading_is, c.in_ok-end_at.ensures)
          (ap (λ relations. Ok (record (contents_of c.args.draft) { relations = relations; section = 5 }))
          (ap (λ relation. map terms_of c.args.draft.rels ++ relation ∷ []) (ap (λ field. written_sum (prime_of field) c.in_ok-element.ensures.read.terms) c.in-Some.is ∙ sym c.in_ok-element.ensures.read.sum_is)
          ∙ sym (ap (map terms_of) c.in_ok-push.ensures.ok ∙ map-append terms_of c.args.draft.rels (c.in_ok-element.element.sum ∷ [])))),
      record {
        table = c.requires.sound.table;
        no_sums = λ e. let both : false ≡ true = subst (λ field. is_some field ≡ true) e c.requires.field in absurd cc;
        relations = subst (All fits) (sym c.in_ok-push.ensures.ok) (All-push fits c.args.draft.rels c.in_ok-element.element.sum c.requires.sound.relations
            (subst (λ field. FitsOver (prime_of field) c.args.draft.gens c.in_ok-element.element.sum) (sym c.in-Some.is) c.in_ok-element.ensures.fits));
        asks = c.requires.sound.asks;
        weights = c.requires.sound.weights;
      },
    )
