-- Lines, one after the other.
use Rattle.std.proofs.Common.{◌≡◌, ℕ, zero, suc, ◌+◌, List, [], ◌∷◌, map, drop, refl, ap, sym, subst, ◌∙◌, arith}
use mathlib.Core.Path.{ap₂}
use mathlib.Core.List.{◌++◌}
use Rattle.std.specs.List.{AllByRecursion}
use Rattle.labelled_trees.specs.Trees.{Tree}
use Rattle.symmetric_trees.specs.declared.generators.Generator.{Generator}
use Rattle.presentation_text.specs.TreeText.{tree_text}
use Rattle.normal_listing.specs.Words.{symbols}
use Rattle.normal_listing.proofs.Combining.{nothing_behind}
use Rattle.normal_listing.specs.WordTexts.{IsSpelt, lines_text}

-- the lines of these trees are left
pub record AreLeft (generators : List Generator) (left : List (List ℕ)) (out end : List ℕ) : Type 0 where
  pub trees : List (Tree ℕ)
  pub spelt : AllByRecursion (IsSpelt generators) trees
  pub are : left ≡ map symbols trees
  pub text : out ++ lines_text generators trees ≡ end

pub record IsWritingLines (generators : List Generator) (words left : List (List ℕ)) (out start : List ℕ) : Type 0 where
  pub each : (ts : List (Tree ℕ)) → AllByRecursion (IsSpelt generators) ts → words ≡ map symbols ts → AreLeft generators left out (start ++ lines_text generators ts)

assoc : (k l m : List ℕ) → (k ++ l) ++ m ≡ k ++ (l ++ m)
assoc [] l m = refl
assoc (x ∷ k) l m = ap (λ n. x ∷ n) (assoc k l m)

pub lines_begin : (generators : List Generator) (words : List (List ℕ)) (out : List ℕ) → IsWritingLines generators words words out out
lines_begin generators words out = record { each = λ ts spelt are. record { trees = ts; spelt = spelt; are = are; text = refl } }

pub line_written : (generators : List Generator) (words left others : List (List ℕ)) (word out start written new : List ℕ) → left ≡ word ∷ others
    → ((t : Tree ℕ) → IsSpelt generators t → word ≡ symbols t → written ≡ out ++ tree_text generators t) → new ≡ written ++ 10 ∷ []
    → IsWritingLines generators words left out start → IsWritingLines generators words others new start
line_written generators words left others word out start written new e told n w = record { each = λ ts spelt are. further (w.each ts spelt are) }
  where
    next : (ts : List (Tree ℕ)) (end : List ℕ) → AllByRecursion (IsSpelt generators) ts → word ∷ others ≡ map symbols ts → out ++ lines_text generators ts ≡ end → AreLeft generators others new end
    next [] end s a x = absurd cc
    next (t ∷ ts) end s a x =
        let first : word ≡ symbols t = cc in
        let rest : others ≡ map symbols ts = cc in
        let text : new ≡ (out ++ tree_text generators t) ++ 10 ∷ [] = n ∙ ap (λ l. l ++ 10 ∷ []) (told t s.0 first) in
        record {
          trees = ts;
          spelt = s.1;
          are = rest;
          text =
              ap (λ l. l ++ lines_text generators ts) (text ∙ assoc out (tree_text generators t) (10 ∷ []))
              ∙ assoc out (tree_text generators t ++ 10 ∷ []) (lines_text generators ts) ∙ x;
        }

    further : {end : List ℕ} → AreLeft generators left out end → AreLeft generators others new end
    further {end} r = next r.trees end r.spelt (sym e ∙ r.are) r.text

-- the lines of the trees from number i on are left
pub record IsCarried (generators : List Generator) (words : List (List ℕ)) (i : ℕ) (out start : List ℕ) : Type 0 where
  pub each : (ts : List (Tree ℕ)) → AllByRecursion (IsSpelt generators) ts → words ≡ map symbols ts → out ++ lines_text generators (drop i ts) ≡ start ++ lines_text generators ts

pub carried_begins : (generators : List Generator) (words : List (List ℕ)) (out : List ℕ) → IsCarried generators words 0 out out
carried_begins generators words out = record { each = λ ts spelt are. refl }

drop_mapped : (ts : List (Tree ℕ)) (i : ℕ) → drop i (map symbols ts) ≡ map symbols (drop i ts)
drop_mapped ts zero = refl
drop_mapped [] (suc i) = refl
drop_mapped (t ∷ ts) (suc i) = drop_mapped ts i

drop_next : (ts : List (Tree ℕ)) (i : ℕ) (u : Tree ℕ) (us : List (Tree ℕ)) → drop i ts ≡ u ∷ us → drop (suc i) ts ≡ us
drop_next [] zero u us e = absurd cc
drop_next (t ∷ ts) zero u us e = cc
drop_next [] (suc i) u us e = absurd cc
drop_next (t ∷ ts) (suc i) u us e = drop_next ts i u us e

spelt_from : (generators : List Generator) (ts : List (Tree ℕ)) (i : ℕ) → AllByRecursion (IsSpelt generators) ts → AllByRecursion (IsSpelt generators) (drop i ts)
spelt_from generators ts zero h = h
spelt_from generators [] (suc i) h = tt
spelt_from generators (t ∷ ts) (suc i) h = spelt_from generators ts i h.1

pub line_carried : (generators : List Generator) (words others : List (List ℕ)) (i : ℕ) (word out start written new : List ℕ) → drop i words ≡ word ∷ others
    → ((t : Tree ℕ) → IsSpelt generators t → word ≡ symbols t → written ≡ out ++ tree_text generators t) → new ≡ written ++ 10 ∷ []
    → IsCarried generators words i out start → IsCarried generators words (i + 1) new start
line_carried generators words others i word out start written new e told n w = record { each = λ ts spelt are. next ts (drop i ts) refl spelt are (w.each ts spelt are) }
  where
    next : (ts us : List (Tree ℕ)) → drop i ts ≡ us → AllByRecursion (IsSpelt generators) ts → words ≡ map symbols ts → out ++ lines_text generators (drop i ts) ≡ start ++ lines_text generators ts
        → new ++ lines_text generators (drop (i + 1) ts) ≡ start ++ lines_text generators ts
    next ts [] d s a x =
        let none : word ∷ others ≡ [] = sym e ∙ ap (drop i) a ∙ drop_mapped ts i ∙ ap (map symbols) d in absurd cc
    next ts (u ∷ us) d s a x =
        let some : word ∷ others ≡ symbols u ∷ map symbols us = sym e ∙ ap (drop i) a ∙ drop_mapped ts i ∙ ap (map symbols) d in
        let first : word ≡ symbols u = cc in
        let one : i + 1 ≡ suc i = omega arith in
        let rest : drop (i + 1) ts ≡ us = ap (λ k. drop k ts) one ∙ drop_next ts i u us d in
        let spelt : IsSpelt generators u = (subst (AllByRecursion (IsSpelt generators)) d (spelt_from generators ts i s)).0 in
        let text : new ≡ (out ++ tree_text generators u) ++ 10 ∷ [] = n ∙ ap (λ l. l ++ 10 ∷ []) (told u spelt first) in
        ap₂ (λ l m. l ++ lines_text generators m) (text ∙ assoc out (tree_text generators u) (10 ∷ [])) rest
        ∙ assoc out (tree_text generators u ++ 10 ∷ []) (lines_text generators us)
        ∙ ap (λ m. out ++ lines_text generators m) (sym d) ∙ x

pub lines_end : (generators : List Generator) (words left : List (List ℕ)) (out start : List ℕ) (ts : List (Tree ℕ)) → left ≡ [] → IsWritingLines generators words left out start
    → AllByRecursion (IsSpelt generators) ts → words ≡ map symbols ts → out ≡ start ++ lines_text generators ts
lines_end generators words left out start ts e w spelt are = last (w.each ts spelt are)
  where
    none : (us : List (Tree ℕ)) (end : List ℕ) → [] ≡ map symbols us → out ++ lines_text generators us ≡ end → out ≡ end
    none [] end a x = sym (nothing_behind out) ∙ x
    none (u ∷ us) end a x = absurd cc

    last : {end : List ℕ} → AreLeft generators left out end → out ≡ end
    last {end} r = none r.trees end (sym e ∙ r.are) r.text
