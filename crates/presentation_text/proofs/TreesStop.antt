-- Trees are refused rightly.
use Rattle.std.specs.Prelude.{nat_lt}
use Rattle.std.proofs.Common.{not, ◌&&◌, ◌≡◌, ◌⊎◌, inl, inr, ⊎_elim, ℕ, suc, ◌+◌, Bool, true, false, List, [], ◌∷◌, ◌++◌, length, Option, Some, None, Ok, Err, refl, ap, sym, ◌∙◌, subst, arith, append_assoc, append-nil, length-append}
use Rattle.labelled_trees.specs.Trees.{Tree}
use Rattle.labelled_trees.specs.Leaves.{leaf_count}
use Rattle.symmetric_trees.specs.Generators.{IsTable}
use Rattle.symmetric_trees.specs.Trees.{Fits}
use Rattle.symmetric_trees.specs.declared.generators.Generator.{Generator}
use Rattle.presentation_text.specs.Accepted.{IsDemanded, GoOnAs, IsRuledOut, TreesAreRefusedRightly, RefusedTreesBegin}
use Rattle.presentation_text.specs.declared.kinds.DocKind.{DocKind}
use Rattle.presentation_text.specs.declared.kinds.DocKind.TheVariants.{Syntax, NumberLong, NameUnknown, InputCount, TooDeep, TooWide, Labels, ArityOut, MixedArity}
use Rattle.presentation_text.specs.declared.lexing.Token.{Token}
use Rattle.presentation_text.specs.declared.trees.Demands.{Demands}
use Rattle.presentation_text.specs.Readings.{Fault, Reading, ◌>>=◌, first_row, refused}
use Rattle.presentation_text.specs.TreeReadings.{has_each, differs, against, tree_in, whole_tree_in}
use Rattle.presentation_text.specs.TreeText.{nested, tree_tokens}
use Rattle.presentation_text.proofs.TreeTokens.{read_once}
use Rattle.presentation_text.proofs.TreeReadingsSteps.{judged}
use Rattle.presentation_text.proofs.TreesAcceptedTrees.{IsReadInside, tree_sound, tree_back}
use Rattle.presentation_text.proofs.ElementFronts.{not-marked}
use Rattle.presentation_text.proofs.TreesAccepted.{all_accepted}
use Rattle.presentation_text.proofs.TreesGoOn.{Begins, tree_goes}
use Rattle.presentation_text.proofs.TreesStopTrees.{local_tree}
use Rattle.presentation_text.proofs.TreesStopLimits.{Breaks, IsReadOrBreaks, tree_or_breaks}

-- ---- which trees are ruled out

pub fits_ruled : (generators : List Generator) (demands : Demands) (kind : DocKind) (t : Tree ℕ) → IsRuledOut generators demands kind t → Fits generators t
fits_ruled generators demands Syntax t h = h
fits_ruled generators demands NumberLong t h = h
fits_ruled generators demands NameUnknown t h = h
fits_ruled generators demands InputCount t h = h
fits_ruled generators demands TooDeep t h = h.0
fits_ruled generators demands TooWide t h = h.0
fits_ruled generators demands kind t h = h.fits

pub breaks_ruled : (generators : List Generator) (demands : Demands) (kind : DocKind) (t : Tree ℕ) → IsRuledOut generators demands kind t → (IsDemanded generators demands t → ⊥)
    → Breaks kind 8 (nested t) (0 + leaf_count t) → ⊥
breaks_ruled generators demands TooDeep t h other b = omega (arith, h.1, b)
breaks_ruled generators demands TooWide t h other b = omega (arith, h.1, b)
breaks_ruled generators demands Labels t h other b = other h
breaks_ruled generators demands kind t h other b = b

-- what stands against a whole tree
pub first_of_three : (a b c : Bool) (kind : DocKind) → first_row ((a, Labels) ∷ (b, ArityOut) ∷ (c, MixedArity) ∷ []) ≡ Some kind → (P : DocKind → Type 0) → (P Labels → ⊥) → (P ArityOut → ⊥) → (P MixedArity → ⊥) → P kind → ⊥
first_of_three true b c kind e P f g h p = let same : kind ≡ Labels = cc in f (subst P same p)
first_of_three false true c kind e P f g h p = let same : kind ≡ ArityOut = cc in g (subst P same p)
first_of_three false false true kind e P f g h p = let same : kind ≡ MixedArity = cc in h (subst P same p)
first_of_three false false false kind e P f g h p = absurd cc

-- ---- how reading stops

pub record IsJudged (generators : List Generator) (demands : Demands) (ts : List Token) (left : ℕ) (kind : DocKind) : Type 0 where
  pub tree : Tree ℕ
  pub others : List Token
  pub read : tree_in generators 8 0 ts ≡ Ok (tree, others)
  pub left_is : left ≡ suc (length others)
  pub row : first_row (against demands tree) ≡ Some kind

by_row : (generators : List Generator) (demands : Demands) (ts : List Token) (left : ℕ) (kind : DocKind) (found : Tree ℕ × List Token) (row : Option DocKind) → tree_in generators 8 0 ts ≡ Ok found
    → first_row (against demands found.0) ≡ row → refused (suc (length found.1)) row (Ok found) ≡ Err (left, kind) → IsJudged generators demands ts left kind
by_row generators demands ts left kind found None read is e = absurd cc
by_row generators demands ts left kind found (Some other) read is e =
    let both : ◌≡◌ {A = Fault} (suc (length found.1), other) (left, kind) = cc in
    record { tree = found.0; others = found.1; read = read; left_is = sym (ap (λ (f : Fault). f.0) both); row = is ∙ ap Some (ap (λ (f : Fault). f.1) both) }

by_reading : (generators : List Generator) (demands : Demands) (ts : List Token) (left : ℕ) (kind : DocKind) (m : Reading (Tree ℕ)) → tree_in generators 8 0 ts ≡ m → (m >>= judged demands) ≡ Err (left, kind)
    → (tree_in generators 8 0 ts ≡ Err (left, kind)) ⊎ IsJudged generators demands ts left kind
by_reading generators demands ts left kind (Err fault) is e = inl (is ∙ e)
by_reading generators demands ts left kind (Ok found) is e = inr (by_row generators demands ts left kind found (first_row (against demands found.0)) is refl e)

pub stopped : (generators : List Generator) (demands : Demands) (ts : List Token) (left : ℕ) (kind : DocKind) → whole_tree_in generators demands ts ≡ Err (left, kind)
    → (tree_in generators 8 0 ts ≡ Err (left, kind)) ⊎ IsJudged generators demands ts left kind
unfolding whole_tree_in
stopped generators demands ts left kind e = by_reading generators demands ts left kind (tree_in generators 8 0 ts) refl e

-- ---- inside a tree

module _ (generators : List Generator) (table : IsTable generators) (demands : Demands) where
  -- the tokens of a tree alone are refused for a limit that the tree breaks
  no_tree : (kind : DocKind) (left : ℕ) (t : Tree ℕ) → IsRuledOut generators demands kind t → tree_in generators 8 0 (tree_tokens generators t) ≡ Err (left, kind) → ⊥
  no_tree kind left t h e =
      let whole : tree_in generators 8 0 (tree_tokens generators t ++ []) ≡ Err (left, kind) = ap (tree_in generators 8 0) (append-nil (tree_tokens generators t)) ∙ e in
      let other : IsDemanded generators demands t → ⊥ = λ demanded. no_demanded demanded whole in
      breaks_ruled generators demands kind t h other
      (subst (λ m. IsReadOrBreaks 8 (nested t) (0 + leaf_count t) m t []) whole (tree_or_breaks generators table t 8 0 [] (fits_ruled generators demands kind t h) (λ _. refl)))
    where
      no_demanded : IsDemanded generators demands t → tree_in generators 8 0 (tree_tokens generators t ++ []) ≡ Err (left, kind) → ⊥
      no_demanded demanded whole =
          let narrow = demanded.narrow in
          let read = tree_back generators table t 8 0 [] demanded.fits demanded.shallow (omega arith) demanded.small (λ _. refl) in
          let both : ◌≡◌ {A = Reading (Tree ℕ)} (Ok (t, [])) (Err (left, kind)) = sym read ∙ whole in absurd cc

  stopped_inside : (front back : List Token) (kind : DocKind) → tree_in generators 8 0 (front ++ back) ≡ Err (length back, kind) → (t : Tree ℕ) → IsRuledOut generators demands kind t
      → GoOnAs front back (tree_tokens generators t) → ⊥
  stopped_inside front [] kind e t h g = no_tree kind 0 t h (ap (tree_in generators 8 0) (g ∙ sym (append-nil front)) ∙ e)
  stopped_inside front (token ∷ back) kind e t h g =
      no_tree kind (suc (length g.0)) t h (ap (tree_in generators 8 0) g.1 ∙ (local_tree generators 8 0).stops front token back g.0 kind g.2 e)

-- ---- at the last token of a tree

pub same_front : (p q r s : List Token) → p ++ q ≡ r ++ s → length q ≡ length s → p ≡ r
same_front [] q [] s e l = refl
same_front [] q (x ∷ r) s e l = absurd (omega (arith, ap length e, length-append (x ∷ r) s, l))
same_front (x ∷ p) q [] s e l = absurd (omega (arith, ap length e, length-append (x ∷ p) q, l))
same_front (x ∷ p) q (y ∷ r) s e l =
    let first : x ≡ y = cc in
    let others : p ++ q ≡ r ++ s = cc in
    ap (λ z. z ∷ p) first ∙ ap (λ ts. y ∷ ts) (same_front p q r s others l)

pub same_back : (p q r s : List Token) → p ++ q ≡ r ++ s → length q ≡ length s → q ≡ s
same_back [] q [] s e l = e
same_back [] q (x ∷ r) s e l = absurd (omega (arith, ap length e, length-append (x ∷ r) s, l))
same_back (x ∷ p) q [] s e l = absurd (omega (arith, ap length e, length-append (x ∷ p) q, l))
same_back (x ∷ p) q (y ∷ r) s e l = let others : p ++ q ≡ r ++ s = cc in same_back p q r s others l

-- the tree that was read ends with the refused token
as_far : (generators : List Generator) (table : IsTable generators) (demands : Demands) (front : List Token) (token : Token) (back : List Token) (kind : DocKind)
    → (j : IsJudged generators demands (front ++ token ∷ back) (suc (length back)) kind)
    → (front ++ token ∷ [] ≡ tree_tokens generators j.tree) × IsReadInside generators 8 0 (front ++ token ∷ back) j.tree j.others
as_far generators table demands front token back kind j =
    let read : IsReadInside generators 8 0 (front ++ token ∷ back) j.tree j.others = tree_sound generators table 8 0 (front ++ token ∷ back) j.tree j.others (omega arith) j.read in
    let left = j.left_is in
    (same_front (front ++ token ∷ []) back (tree_tokens generators j.tree) j.others (append_assoc front (token ∷ []) back ∙ read.spelled) (omega (arith, left)), read)

module _ (generators : List Generator) (table : IsTable generators) (demands : Demands) where
  only_read : (front back : List Token) (kind : DocKind) (t : Tree ℕ) → whole_tree_in generators demands (front ++ back) ≡ Err (length back, kind) → (j : IsJudged generators demands (front ++ back) (length back) kind)
      → IsDemanded generators demands t → GoOnAs front back (tree_tokens generators t) → ⊥
  only_read front [] kind t e j demanded g = let is = j.left_is in absurd (omega (arith, is))
  only_read front (token ∷ back) kind t e j demanded g =
      let ends = as_far generators table demands front token back kind j in
      let read : IsReadInside generators 8 0 (front ++ token ∷ back) j.tree j.others = ends.1 in
      let behind_it : tree_tokens generators t ++ [] ≡ tree_tokens generators j.tree ++ g.0 = append-nil (tree_tokens generators t) ∙ g.1 ∙ sym (append_assoc front (token ∷ []) g.0) ∙ ap (λ ts. ts ++ g.0) ends.0 in
      let same : t ≡ j.tree = (read_once generators table t j.tree [] g.0 demanded.fits read.fits behind_it).0 in
      let accepted : whole_tree_in generators demands (front ++ token ∷ back) ≡ Ok (j.tree, j.others) = (all_accepted generators table demands (front ++ token ∷ back) j.others j.tree).1 (read.spelled, subst (IsDemanded generators demands) same demanded, λ is. not-marked 42 j.others (read.ends is)) in
      let both : ◌≡◌ {A = Reading (Tree ℕ)} (Ok (j.tree, j.others)) (Err (suc (length back), kind)) = sym accepted ∙ e in
      absurd cc

  refused_rightly : (front back : List Token) (kind : DocKind) → whole_tree_in generators demands (front ++ back) ≡ Err (length back, kind) → (t : Tree ℕ) → IsRuledOut generators demands kind t
      → GoOnAs front back (tree_tokens generators t) → ⊥
  refused_rightly front back kind e t h g = ⊎_elim
      (λ inside. stopped_inside generators table demands front back kind inside t h g)
      (λ j. at_end j (λ demanded. only_read front back kind t e j demanded g))
      (stopped generators demands (front ++ back) (length back) kind e)
    where
      at_end : IsJudged generators demands (front ++ back) (length back) kind → (IsDemanded generators demands t → ⊥) → ⊥
      at_end j other =
          let u = j.tree in
          first_of_three (not demands.loose && not (has_each (leaf_count u) u)) (nat_lt (leaf_count u) demands.least) (differs demands.arity (leaf_count u)) kind j.row
          (λ k. IsRuledOut generators demands k t) other other other h

pub all_refused_rightly : TreesAreRefusedRightly
all_refused_rightly generators table demands front back kind e t h g = refused_rightly generators table demands front back kind e t h g

-- ---- the tokens before

begins_before : (generators : List Generator) (table : IsTable generators) (demands : Demands) (front back : List Token) (kind : DocKind) → IsJudged generators demands (front ++ back) (length back) kind → Begins generators front
begins_before generators table demands front [] kind j = let is = j.left_is in absurd (omega (arith, is))
begins_before generators table demands front (token ∷ back) kind j =
    let ends = as_far generators table demands front token back kind j in
    record { tree = j.tree; others = token ∷ []; fits = ends.1.fits; spelled = sym ends.0 }

pub all_begin : RefusedTreesBegin
all_begin generators table demands front back kind e =
    let begun : Begins generators front = ⊎_elim
    (λ inside. tree_goes generators table 8 0 (omega arith) front back kind inside)
    (λ j. begins_before generators table demands front back kind j)
    (stopped generators demands (front ++ back) (length back) kind e) in
    (begun.tree, begun.others, begun.fits, begun.spelled)
