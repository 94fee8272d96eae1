-- Which whole trees are read.
use Rattle.std.specs.Prelude.{nat_lt, ◌==◌}
use Rattle.std.proofs.Common.{◌≡◌, ℕ, suc, ◌≤◌, Bool, true, false, not, ◌&&◌, List, ◌++◌, length, Option, Some, None, Ok, refl, ap, ◌∙◌, subst, arith}
use Rattle.std.proofs.lemmas.Bool.Decides.{Decides-eqb, nat_tests}
use Rattle.labelled_trees.specs.Trees.{Tree}
use Rattle.labelled_trees.specs.Leaves.{leaf_count}
use Rattle.labelled_trees.specs.Labelled.{IsNumbered}
use Rattle.symmetric_trees.specs.Generators.{IsTable}
use Rattle.symmetric_trees.specs.declared.generators.Generator.{Generator}
use Rattle.presentation_text.specs.Accepted.{IsDemanded, EndsTree, TreesAreAccepted}
use Rattle.presentation_text.specs.declared.kinds.DocKind.TheVariants.{Labels, ArityOut, MixedArity}
use Rattle.presentation_text.specs.declared.lexing.Token.{Token}
use Rattle.presentation_text.specs.declared.trees.Demands.{Demands}
use Rattle.presentation_text.specs.TreeReadings.{tree_in, has_each, differs, whole_tree_in}
use Rattle.presentation_text.specs.TreeText.{tree_tokens}
use Rattle.presentation_text.proofs.TreeReadingsLeaves.{has-each, numbered-had}
use Rattle.presentation_text.proofs.TreeReadingsSteps.{judged, whole-accepted}
use Rattle.presentation_text.proofs.ElementFronts.{not-marked, unmarked}
use Rattle.presentation_text.proofs.TreesAcceptedTrees.{bound, none_held, no_rows, IsReadInside, tree_sound, tree_back}

-- ---- the tests against a tree

pub unlike_leaves : (loose each : Bool) → (not loose && not each) ≡ false → loose ≡ false → each ≡ true
unlike_leaves true each e f = absurd cc
unlike_leaves false true e f = refl
unlike_leaves false false e f = absurd cc

like_leaves : (loose each : Bool) → (loose ≡ false → each ≡ true) → (not loose && not each) ≡ false
like_leaves true each f = refl
like_leaves false true f = refl
like_leaves false false f = let e = f refl in absurd cc

large_enough : (n least : ℕ) → nat_lt n least ≡ false → least ≤ n
large_enough n least e = grind (arith, nat_tests)

is_large_enough : (n least : ℕ) → least ≤ n → nat_lt n least ≡ false
is_large_enough n least l = grind (arith, nat_tests)

equal_if : (b : Bool) (P : Type 0) → (b ≡ true → P) → not b ≡ false → P
equal_if true P f e = f refl
equal_if false P f e = absurd cc

pub same_arity : (asked : Option ℕ) (n : ℕ) → differs asked n ≡ false → (m : ℕ) → asked ≡ Some m → n ≡ m
same_arity None n e m f = absurd cc
same_arity (Some k) n e m f = let is : k ≡ m = cc in equal_if (n == k) (n ≡ k) ((Decides-eqb n k).0) e ∙ is

is_same_arity : (asked : Option ℕ) (n : ℕ) → ((m : ℕ) → asked ≡ Some m → n ≡ m) → differs asked n ≡ false
is_same_arity None n f = refl
is_same_arity (Some k) n f = ap not ((Decides-eqb n k).1 (f k refl))

-- ---- the law

module _ (generators : List Generator) (table : IsTable generators) (demands : Demands) where
  read_demanded : (ts rest : List Token) (t u : Tree ℕ) (others : List Token) → IsReadInside generators 8 0 ts u others
      → judged demands (u, others) ≡ Ok (t, rest) → (ts ≡ tree_tokens generators t ++ rest) × IsDemanded generators demands t × EndsTree t rest
  read_demanded ts rest t u others read e =
      let tests = none_held (not demands.loose && not (has_each (leaf_count u) u)) (nat_lt (leaf_count u) demands.least) (differs demands.arity (leaf_count u)) Labels ArityOut MixedArity (suc (length others)) (u, others) (t, rest) e in
      let narrow = read.narrow in
      subst (λ (found : Tree ℕ × List Token). (ts ≡ tree_tokens generators found.0 ++ found.1) × IsDemanded generators demands found.0 × EndsTree found.0 found.1) tests.1 (
        read.spelled,
        record {
          fits = read.fits;
          shallow = read.shallow;
          narrow = omega arith;
          small = read.small;
          numbered = λ strict. numbered-had u (unlike_leaves demands.loose (has_each (leaf_count u) u) tests.0.first strict);
          least = large_enough (leaf_count u) demands.least tests.0.second;
          arity = same_arity demands.arity (leaf_count u) tests.0.third;
        },
        λ is. not-marked 42 others (read.ends is),
      )

  accepted_only : (ts rest : List Token) (t : Tree ℕ) → whole_tree_in generators demands ts ≡ Ok (t, rest) → (ts ≡ tree_tokens generators t ++ rest) × IsDemanded generators demands t × EndsTree t rest
  unfolding whole_tree_in
  accepted_only ts rest t e =
      let found = bound (tree_in generators 8 0 ts) (judged demands) (t, rest) e in
      read_demanded ts rest t found.value.0 found.value.1 (tree_sound generators table 8 0 ts found.value.0 found.value.1 (omega arith) found.first) found.further

  accepted : (ts rest : List Token) (t : Tree ℕ) → (ts ≡ tree_tokens generators t ++ rest) × IsDemanded generators demands t × EndsTree t rest → whole_tree_in generators demands ts ≡ Ok (t, rest)
  accepted ts rest t h =
      let demanded : IsDemanded generators demands t = h.1 in
      let narrow = demanded.narrow in
      let inside = ap (tree_in generators 8 0) h.0 ∙ tree_back generators table t 8 0 rest demanded.fits demanded.shallow (omega arith) demanded.small (λ is. unmarked 42 rest (h.2 is)) in
      let nothing = no_rows (not demands.loose && not (has_each (leaf_count t) t)) (nat_lt (leaf_count t) demands.least) (differs demands.arity (leaf_count t)) Labels ArityOut MixedArity
      (record {
        first = like_leaves demands.loose (has_each (leaf_count t) t) (λ strict. let numbered : IsNumbered (leaf_count t) t = demanded.numbered strict in has-each (leaf_count t) t numbered.each);
        second = is_large_enough (leaf_count t) demands.least demanded.least;
        third = is_same_arity demands.arity (leaf_count t) demanded.arity;
      }) in
      whole-accepted generators demands ts t rest inside nothing

pub all_accepted : TreesAreAccepted
all_accepted generators table demands ts rest t = (accepted_only generators table demands ts rest t, accepted generators table demands ts rest t)
