-- Terms replaced by their sorted spellings.
use Rattle.std.proofs.Common.{◌≡◌, ℕ, suc, ◌+◌, ◌-◌, ◌*◌, ◌%◌, ◌<◌, List, [], ◌∷◌, ◌++◌, map, length, take, drop, get_or, Some, refl, ap, sym, ◌∙◌, subst, arith, inl, inr, IsPermutation}
use Rattle.std.specs.List.{All, AllByRecursion}
use Rattle.std.proofs.lemmas.List.Elements.{All-from_recursion, recursion_from_All, All-map}
use Rattle.std.proofs.lemmas.List.Sorted.{All-permutation, length_permutation}
use Rattle.std.proofs.Math.Seq.{take-suc, take-append_seam}
use Rattle.modular_sums.specs.Lists.{Mem, choose}
use Rattle.modular_sums.specs.Residues.{IsCongruent}
use Rattle.modular_sums.specs.Sums.{coef}
use Rattle.modular_sums.proofs.Residues.{congruent_add, congruent_cancel, congruent_drop}
use Rattle.labelled_trees.specs.Trees.{Tree}
use Rattle.labelled_trees.specs.Equality.{tree_discrete}
use Rattle.labelled_trees.specs.Meaning.{tree_of}
use Rattle.operad_ideals.specs.Parts as math
use Rattle.operad_ideals.specs.Spelling.{IsSorted}
use Rattle.operad_ideals.specs.Sorting.{spelled, spelled_sign}
use Rattle.operad_ideals.specs.SpelledSums.{spelled_sum}
use Rattle.operad_ideals.specs.Presentations.{residue_of}
use Rattle.operad_ideals.proofs.Spellings.{one_spelling}
use Rattle.operad_ideals.proofs.Agreement.{agreement_keeps_labels}
use Rattle.symmetric_trees.specs.Generators.{parts_at}
use Rattle.symmetric_trees.specs.Trees.{Fits, IsLabelled}
use Rattle.symmetric_trees.specs.Spelling as program
use Rattle.operad_ideals.specs.SpellingOrder.{order}
use Rattle.symmetric_trees.specs.declared.generators.Generator.{Generator}
use Rattle.symmetric_trees.specs.declared.spelling.Sign.{Sign}
use Rattle.symmetric_trees.specs.declared.spelling.Sign.TheVariants.{Plus, Minus}
use Rattle.std.specs.declared.cmp.Ordering.TheVariants.{Less}
use Rattle.symmetric_sums.specs.Terms.{terms_of, HaveArity, IsSum}
use Rattle.operad_ideals.specs.Collected.{IsCollected}
use Rattle.symmetric_sums.specs.Collecting.{Before, IsResidue, IsSpellingOf, AreSpellings, AreJoined}
use Rattle.operad_ideals.specs.Pairs.{Pairs}
use Rattle.symmetric_sums.specs.declared.term.Term.{Term}
use Rattle.symmetric_sums.proofs.Numberings.{arity_is}
use Rattle.labelled_trees.proofs.Numbered.{numbered_of_labelled, labelled_of_numbered}
use Rattle.operad_ideals.proofs.SortedLists.{every_weaker}
use Rattle.operad_ideals.proofs.LastOnes.{AllPairs-from_pairs}
use Rattle.symmetric_sums.proofs.Weights.{weight, share, weight-permutation, congruent_choose}

-- a residue times a sign
pub signed_residue : (p c r : ℕ) (sign : Sign) (s : math.Sign) → s ≡ program.meaning_of sign → 0 < c → c < p → (sign ≡ Plus → r ≡ c) → (sign ≡ Minus → r + c ≡ p)
    → IsCongruent (p - 1) r (residue_of (p - 1) s * c) × (0 < r) × (r < p)
signed_residue p c r Plus s e pc lc f g =
    let same : r ≡ c = f refl in
    let one : 1 * c ≡ c = omega arith in
    (ap (λ n. n % suc (p - 1)) (same ∙ sym (ap (λ x. residue_of (p - 1) x * c) e ∙ one)), omega arith, omega arith)
signed_residue p c r Minus s e pc lc f g =
    let whole : r + c ≡ p = g refl in
    let q = p - 1 in
    let left : IsCongruent q (0 + (1 + q * 1)) 0 = congruent_drop q 0 1 in
    let right : IsCongruent q (0 + (c + q * c)) 0 = congruent_drop q 0 c in
    let e₁ : 0 + (1 + q * 1) ≡ r + c = omega arith in
    let e₂ : 0 + (c + q * c) ≡ q * c + c = omega arith in (
      congruent_cancel q r (q * c) c ((rw e₁ at left) ∙ sym (rw e₂ at right)) ∙ ap (λ x. (residue_of q x * c) % suc q) (sym e),
      omega arith,
      omega arith,
    )

pub spellings-push : (p : ℕ) (generators : List Generator) (ts us : List Term) (t u : Term) → AreSpellings p generators ts us → IsSpellingOf p generators t u → AreSpellings p generators (ts ++ t ∷ []) (us ++ u ∷ [])
spellings-push p generators [] [] t u h k = (k, tt)
spellings-push p generators [] (v ∷ us) t u h k = absurd h
spellings-push p generators (s ∷ ts) [] t u h k = absurd h
spellings-push p generators (s ∷ ts) (v ∷ us) t u h k = (h.0, spellings-push p generators ts us t u h.1 k)

module _ (p : ℕ) (generators : List Generator) where
  spellings-residues : (ts us : List Term) → AreSpellings p generators ts us → AllByRecursion (IsResidue p) us
  spellings-residues [] [] h = tt
  spellings-residues [] (u ∷ us) h = absurd h
  spellings-residues (t ∷ ts) [] h = absurd h
  spellings-residues (t ∷ ts) (u ∷ us) h = (h.0.residue, spellings-residues ts us h.1)

  -- the coefficients of the spellings
  pub spellings-weight : (ts us : List Term) → AreSpellings p generators ts us → (t : Tree ℕ) → IsCongruent (p - 1) (weight us t) (coef tree_discrete (spelled_sum (p - 1) (parts_at generators) (terms_of ts)) t)
  unfolding coef
  spellings-weight [] [] h t = refl
  spellings-weight [] (u ∷ us) h t = absurd h
  spellings-weight (s ∷ ts) [] h t = absurd h
  spellings-weight (s ∷ ts) (u ∷ us) h t =
      let signed = residue_of (p - 1) (spelled_sign (parts_at generators) (tree_of s.tree)) in
      let turned : signed * s.coef ≡ s.coef * signed = omega arith in
      congruent_add (p - 1) (share u t) (choose (tree_discrete (spelled (parts_at generators) (tree_of s.tree)) t) (s.coef * signed) 0)
      (weight us t) (coef tree_discrete (spelled_sum (p - 1) (parts_at generators) (terms_of ts)) t)
      (ap (λ v. choose (tree_discrete v t) u.coef 0 % suc (p - 1)) h.0.tree
      ∙ congruent_choose (p - 1) (tree_discrete (spelled (parts_at generators) (tree_of s.tree)) t) u.coef (s.coef * signed) (h.0.coef ∙ ap (λ m. m % suc (p - 1)) turned))
      (spellings-weight ts us h.1 t)

  -- the spelling of a labelled tree is sorted, and labelled by the same numbers
  abbrev pub IsGood : ℕ → Tree ℕ → Type 0
  IsGood n t = IsSorted (parts_at generators) t × IsLabelled generators n t

  good_spelling : (n : ℕ) (t : Tree ℕ) → IsLabelled generators n t → IsGood n (spelled (parts_at generators) t)
  good_spelling n t l =
      let one = (one_spelling (parts_at generators) n t l).0 in
      (one.sorted, agreement_keeps_labels (parts_at generators) n (spelled_sign (parts_at generators) t) t (spelled (parts_at generators) t) one.agrees l)

  spellings-good : (n : ℕ) (ts us : List Term) → AreSpellings p generators ts us → AllByRecursion (λ x. IsLabelled generators n (tree_of x.tree)) ts → AllByRecursion (λ x. IsGood n (tree_of x.tree)) us
  spellings-good n [] [] h l = tt
  spellings-good n [] (u ∷ us) h l = absurd h
  spellings-good n (t ∷ ts) [] h l = absurd h
  spellings-good n (t ∷ ts) (u ∷ us) h l = (subst (IsGood n) (sym h.0.tree) (good_spelling n (tree_of t.tree) l.0), spellings-good n ts us h.1 l.1)

  pub sorted-residues : (ts us vs : List Term) → AreSpellings p generators ts us → IsPermutation us vs → AllByRecursion (IsResidue p) vs
  sorted-residues ts us vs h perm = recursion_from_All (IsResidue p) vs (All-permutation (IsResidue p) us vs perm (All-from_recursion (IsResidue p) us (spellings-residues ts us h)))

  sorted-good : (n : ℕ) (ts us vs : List Term) → AreSpellings p generators ts us → IsPermutation us vs → AllByRecursion (λ x. IsLabelled generators n (tree_of x.tree)) ts → AllByRecursion (λ x. IsGood n (tree_of x.tree)) vs
  sorted-good n ts us vs h perm l = recursion_from_All (λ x. IsGood n (tree_of x.tree)) vs
      (All-permutation (λ x. IsGood n (tree_of x.tree)) us vs perm (All-from_recursion (λ x. IsGood n (tree_of x.tree)) us (spellings-good n ts us h l)))

found_one : (P : Tree ℕ → Type 0) (xs : List Term) (u : Tree ℕ) → AllByRecursion (λ x. P (tree_of x.tree)) xs → Mem u (map (λ x. tree_of x.tree) xs) → P u
found_one P [] u h m = absurd m
found_one P (x ∷ xs) u h (inl e) = subst P (sym e) h.0
found_one P (x ∷ xs) u h (inr m) = found_one P xs u h.1 m

pairs-terms : (xs : List Term) → Pairs Before xs → Pairs (λ x y. order x.1 y.1 ≡ Less) (terms_of xs)
pairs-terms [] h = tt
pairs-terms (x ∷ xs) h = (one xs h.0, pairs-terms xs h.1)
  where
    one : (ys : List Term) → AllByRecursion (Before x) ys → AllByRecursion (λ y. order (tree_of x.tree) y.1 ≡ Less) (terms_of ys)
    one [] k = tt
    one (y ∷ ys) k = (k.0, one ys k.1)

-- the way from the terms over their spellings, sorted, to the collected form
module _ (p n : ℕ) (generators : List Generator) (ts us vs ws : List Term) (spellings : AreSpellings p generators ts us) (perm : IsPermutation us vs) (joined : AreJoined p vs ws)
    (fit : AllByRecursion (λ x. IsLabelled generators n (tree_of x.tree)) ts) where
  pub collected-good : AllByRecursion (λ x. IsGood p generators n (tree_of x.tree)) ws
  collected-good = every_weaker (λ x. Mem (tree_of x.tree) (map (λ y. tree_of y.tree) vs)) (λ x. IsGood p generators n (tree_of x.tree)) ws
      (λ x m. found_one (IsGood p generators n) vs (tree_of x.tree) (sorted-good p generators n ts us vs spellings perm fit) m) joined.trees

  pub collected-form : IsCollected p (parts_at generators) (terms_of ts) (terms_of ws)
  collected-form = record {
    reduced = record {
      sorted = All-map (λ x. IsSorted (parts_at generators) x.1) (λ (x : Term). (x.coef, tree_of x.tree)) ws
          (All-from_recursion (λ x. IsSorted (parts_at generators) (tree_of x.tree)) ws (every_weaker (λ x. IsGood p generators n (tree_of x.tree)) (λ x. IsSorted (parts_at generators) (tree_of x.tree)) ws (λ x g. g.0) collected-good));
      ascending = AllPairs-from_pairs (λ x y. order x.1 y.1 ≡ Less) (terms_of ws) (pairs-terms ws joined.ascending);
      residues = All-map (λ x. (0 < x.0) × (x.0 < p)) (λ (x : Term). (x.coef, tree_of x.tree)) ws (All-from_recursion (IsResidue p) ws joined.residues);
    };
    same = λ t. joined.same t ∙ ap (λ m. m % suc (p - 1)) (weight-permutation us vs t perm) ∙ spellings-weight p generators ts us spellings t;
  }

-- a list written back over the one that it was made of
written : (items mid new : List Term) (n : ℕ) → mid ≡ items → n ≡ length items → IsPermutation mid new → take n (new ++ drop (length new) items) ≡ new
written items mid new n e f perm =
    let len : length new ≡ length mid = length_permutation mid new perm in
    ap (λ m. take m (new ++ drop (length new) items)) (f ∙ sym (ap length e) ∙ sym len) ∙ take-append_seam new (drop (length new) items)

written-permutation : (items mid new : List Term) (n : ℕ) → mid ≡ items → n ≡ length items → IsPermutation mid new → IsPermutation items (take n (new ++ drop (length new) items))
written-permutation items mid new n e f perm = subst (IsPermutation items) (sym (written items mid new n e f perm)) (subst (λ xs. IsPermutation xs new) e perm)

pub written-residues : (p : ℕ) (generators : List Generator) (ts us mid new : List Term) (n : ℕ) → mid ≡ us → n ≡ length us → AreSpellings p generators ts us → IsPermutation mid new
    → AllByRecursion (IsResidue p) (take n (new ++ drop (length new) us))
written-residues p generators ts us mid new n e f spellings perm =
    sorted-residues p generators ts us (take n (new ++ drop (length new) us)) spellings (written-permutation us mid new n e f perm)

-- the collected form is what it should be, and labelled
pub record IsForm (p n : ℕ) (generators : List Generator) (sum ws : List Term) : Type 0 where
  pub collected : IsCollected p (parts_at generators) (terms_of sum) (terms_of ws)
  pub labelled : All (λ x. IsLabelled generators n (tree_of x.tree)) ws
  pub nonzero : All (λ (x : Term). 0 < x.coef) ws
  pub residues : All (λ (x : Term). x.coef < p) ws

pub form-made : (p n : ℕ) (generators : List Generator) (ts us mid new ws sum : List Term) (len : ℕ) → mid ≡ us → len ≡ length us → AreSpellings p generators ts us → ts ≡ sum → IsPermutation mid new
    → All (λ x. Fits generators (tree_of x.tree)) sum → HaveArity n sum → AreJoined p (take len (new ++ drop (length new) us)) ws → IsForm p n generators sum ws
form-made p n generators ts us mid new ws sum len e f spellings same perm fit have joined =
    let mine : AreSpellings p generators sum us = subst (λ xs. AreSpellings p generators xs us) same spellings in
    let labelled_all : AllByRecursion (λ x. IsLabelled generators n (tree_of x.tree)) sum =
    recursion_from_All (λ x. IsLabelled generators n (tree_of x.tree)) sum (λ k d l. labelled_of_numbered (fit k d l) (have k d l)) in
    let vs = take len (new ++ drop (length new) us) in
    let moved = written-permutation us mid new len e f perm in
    record {
      collected = collected-form p n generators sum us vs ws mine moved joined labelled_all;
      labelled = All-from_recursion (λ x. IsLabelled generators n (tree_of x.tree)) ws
          (every_weaker (λ x. IsGood p generators n (tree_of x.tree)) (λ x. IsLabelled generators n (tree_of x.tree)) ws (λ x g. g.1) (collected-good p n generators sum us vs ws mine moved joined labelled_all));
      nonzero = All-from_recursion (λ (x : Term). 0 < x.coef) ws (every_weaker (IsResidue p) (λ (x : Term). 0 < x.coef) ws (λ x r. r.0) joined.residues);
      residues = All-from_recursion (λ (x : Term). x.coef < p) ws (every_weaker (IsResidue p) (λ (x : Term). x.coef < p) ws (λ x r. r.1) joined.residues);
    }

some_terms : (xs : List Term) → (xs ≡ [] → ⊥) → 0 < length xs
some_terms [] h = absurd (h refl)
some_terms (x ∷ xs) h = omega arith

-- a form with terms is a sum
pub form-sum : (p n : ℕ) (generators : List Generator) (sum ws : List Term) → IsForm p n generators sum ws → (ws ≡ [] → ⊥) → IsSum ws (Some n)
form-sum p n generators sum ws form some = record {
  nonzero = form.nonzero;
  arity_is = arity_is ws n (some_terms ws some) (λ k d l. numbered_of_labelled (form.labelled k d l));
}

pub taken : (ts : List Term) (i : ℕ) (x : Term) → i < length ts → x ≡ get_or ts i x → take (i + 1) ts ≡ take i ts ++ x ∷ []
taken ts i x l e = let s : i + 1 ≡ suc i = omega arith in ap (λ n. take n ts) s ∙ take-suc ts i x l ∙ ap (λ y. take i ts ++ y ∷ []) (sym e)
