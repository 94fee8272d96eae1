-- Entries of small arity.
use Rattle.std.specs.Prelude.{ℕ, ◌<◌, ◌≤◌, List, length}
use Rattle.std.specs.List.{All}
use Rattle.labelled_trees.specs.Meaning.{tree_of}
use Rattle.symmetric_trees.specs.Trees.{IsLabelled}
use Rattle.symmetric_trees.specs.declared.generators.Generator.{Generator}
use Rattle.symmetric_sums.specs.declared.term.Term.{Term}
use Rattle.certificate_text.specs.UseText.{greatest_cited}
use Rattle.cofactor_log.specs.Logs.{IsElementOver}
use Rattle.symmetric_sums.specs.Uses.{IsGoodUse}
use Rattle.cofactor_log.specs.declared.entry.Entry.{Entry}
use Rattle.identity_queries.specs.Blocks.{IsWritableEntry}

-- The entry's element and its uses have one arity, of at most 9.
pub record IsShort (p : ℕ) (generators : List Generator) (rels earlier : List (List Term)) (entry : Entry) : Type 0 where
  pub arity : ℕ
  pub at_most : arity ≤ 9
  pub element : All (λ term. IsLabelled generators arity (tree_of term.tree)) entry.element
  pub uses : All (IsGoodUse p generators rels earlier arity) entry.uses

-- Such an entry over relations and earlier elements, no more than can be cited, may be written: its trees have at most 9 leaves, so at
-- most 8 vertices stand one inside the other.
abbrev pub ShortEntriesAreWritable : Type 0
ShortEntriesAreWritable = (p : ℕ) (generators : List Generator) (rels earlier : List (List Term)) (entry : Entry)
    → length rels ≤ greatest_cited → length earlier ≤ greatest_cited → All (IsElementOver p generators) rels → All (IsElementOver p generators) earlier
    → IsElementOver p generators entry.element → All (λ item. item.coef < p) entry.uses
    → IsShort p generators rels earlier entry → IsWritableEntry p generators entry
