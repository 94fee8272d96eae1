use Rattle.std.proofs.Common.{◌≡◌, drop}
use Rattle.std.specs.Cmp.Lexicographic.{slice_cmp}
use Rattle.path_orders.specs.Comparing.{words_by}
use Rattle.path_orders.proofs.words.compare_lists.Given as goal

-- what is left of the lists decides
abbrev pub invariant-loop-at : goal.invariant-loop-at
invariant-loop-at l = slice_cmp (words_by l.short) (drop l.at l.ones) (drop l.at l.others) ≡ slice_cmp (words_by l.short) l.ones l.others
