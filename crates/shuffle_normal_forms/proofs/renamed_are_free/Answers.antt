use Rattle.shuffle_normal_forms.proofs.Numbers as numbers
use Rattle.shuffle_normal_forms.proofs.renamed_are_free.Goals as goal

pub returns : goal.returns
returns c = record { law = numbers.renamed_are_free }
