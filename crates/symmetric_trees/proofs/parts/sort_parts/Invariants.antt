use Rattle.std.proofs.Common.{◌≡◌, ◌++◌, take, drop, map}
use Rattle.std.specs.List.{sum_by}
use Rattle.operad_ideals.specs.Parts.{times}
use Rattle.operad_ideals.specs.Sorting as plain
use Rattle.symmetric_trees.specs.Generators.{part_of}
use Rattle.symmetric_trees.specs.Spelling.{meaning_of}
use Rattle.symmetric_trees.proofs.parts.sort_parts.Given as goal

abbrev pub invariant-loop-part : goal.invariant-loop-part
invariant-loop-part g l = record {
  place : l.from ≡ sum_by (λ part. part.size) (take l.part-index l.parts);
  rest : drop l.from l.items ≡ drop l.from l.fn.items;
  order : take l.from l.items ++ plain.sort_parts g.T.Keyed.key_of (map part_of (drop l.part-index l.parts)) (drop l.from l.fn.items)
      ≡ plain.sort_parts g.T.Keyed.key_of (map part_of l.parts) l.fn.items;
  sign : times (meaning_of l.sign) (plain.parts_sign (map part_of (drop l.part-index l.parts)) (map g.T.Keyed.key_of (drop l.from l.fn.items)))
      ≡ plain.parts_sign (map part_of l.parts) (map g.T.Keyed.key_of l.fn.items);
}
