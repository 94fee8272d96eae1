use Rattle.std.proofs.Common.{◌≡◌, ◌+◌, ◌∷◌, take}
use Rattle.std.specs.List.{flat_map}
use Rattle.normal_listing.specs.Vertices.{numbered}
use Rattle.normal_listing.proofs.vertex_words.vertex_word.Given as goal

abbrev pub invariant-loop-number : goal.invariant-loop-number
invariant-loop-number l = l.word ≡ (10 + l.generator) ∷ flat_map (numbered l.words) (take l.number-index l.order)
