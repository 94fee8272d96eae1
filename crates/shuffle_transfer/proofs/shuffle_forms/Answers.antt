use Rattle.shuffle_transfer.proofs.ShuffleFormsFit.{forth, back_law, spelling}
use Rattle.shuffle_transfer.proofs.TransferLaw.{kernel}
use Rattle.shuffle_transfer.proofs.shuffle_forms.Goals as goal

pub returns : goal.returns
returns c = record { forth = forth; back = back_law; spelling = spelling; kernel = kernel }
