use Rattle.normal_listing.proofs.RowChoices as rows
use Rattle.normal_listing.proofs.laws.choices_are_rows.Goals as goal

pub returns : goal.returns
returns c = record { law = rows.choices_are_rows }
