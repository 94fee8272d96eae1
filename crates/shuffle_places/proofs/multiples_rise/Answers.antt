use Rattle.shuffle_places.proofs.AllMultiples.{multiples_rise as the_law}
use Rattle.shuffle_places.proofs.multiples_rise.Goals as goal

pub returns : goal.returns
returns c = record { law = λ a b n na nb. the_law a b na nb n }
