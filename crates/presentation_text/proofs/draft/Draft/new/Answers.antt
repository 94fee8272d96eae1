use Rattle.std.proofs.Common.{◌∙◌, ap, length, subst, sym}
use Rattle.symmetric_sums.specs.Terms.{FitsOver}
use Rattle.symmetric_trees.specs.Generators.{IsTable}
use Rattle.presentation_text.specs.DraftReadings.{AskFits}
use Rattle.presentation_text.specs.declared.document.Ask.{Ask}
use Rattle.presentation_text.proofs.LineReadingsStops.{none_hold}
use Rattle.presentation_text.proofs.LineReadingsTables.{table-empty}
use Rattle.presentation_text.proofs.draft.Draft.new.Goals as goal

pub returns-clause-sound : goal.returns-clause-sound
returns-clause-sound c = record {
  table = subst IsTable (sym c.new.ensures.empty) table-empty;
  no_sums = λ e. (c.new-3.ensures, c.new-4.ensures);
  relations = none_hold (FitsOver 3 c.new.result) c.new-3.result c.new-3.ensures;
  asks = none_hold (λ (ask : Ask). AskFits 3 c.new.result ask.kind) c.new-4.result c.new-4.ensures;
  weights = ap length c.new-2.ensures ∙ sym (ap length c.new.ensures.empty);
}
