-- The trees of a collected form are labelled as those of the sum are.
use Rattle.std.proofs.Common.{◌≡◌, ◌≢◌, ℕ, zero, suc, ◌+◌, ◌-◌, ◌%◌, ◌<◌, List, [], ◌∷◌, ap, sym, ◌∙◌, subst, arith}
use Rattle.std.specs.List.{AllByRecursion}
use Rattle.std.proofs.Math.Nat.{mod-eq_of_lt}
use Rattle.std.proofs.lemmas.List.Elements.{recursion_from_All}
use Rattle.std.specs.declared.cmp.Ordering.TheVariants.{Less}
use Rattle.modular_sums.specs.Sums.{coef, Same, AllTerms}
use Rattle.modular_sums.proofs.Images.{AllTerms-imp}
use Rattle.labelled_trees.specs.Trees.{Tree}
use Rattle.labelled_trees.specs.Equality.{tree_discrete}
use Rattle.labelled_trees.specs.Labelled.{IsLabelled}
use Rattle.operad_ideals.specs.Parts.{Part}
use Rattle.operad_ideals.specs.Laws.{arity}
use Rattle.operad_ideals.specs.Sorting.{spelled, spelled_sign}
use Rattle.operad_ideals.specs.SpelledSums.{spelled_sum}
use Rattle.operad_ideals.proofs.Agreement.{agreement_keeps_labels}
use Rattle.operad_ideals.proofs.Spellings.{one_spelling}
use Rattle.operad_ideals.specs.SpellingOrder.{order}
use Rattle.operad_ideals.specs.Collected.{IsCollected}
use Rattle.operad_ideals.specs.Pairs.{Pairs}
use Rattle.operad_ideals.proofs.Forms.{coef-other, coef-first, not_itself}
use Rattle.operad_ideals.proofs.LastOnes.{pairs_from_AllPairs}
use Rattle.modular_sums.specs.Lists.{choose}

-- a tree with a coefficient other than 0 stands in the sum
stands : (P : Tree ℕ → Type 0) (e : List (ℕ × Tree ℕ)) (t : Tree ℕ) → AllTerms e P → 0 < coef tree_discrete e t → P t
unfolding coef
stands P [] t h l = absurd (omega arith)
stands P (x ∷ e) t h l = go (tree_discrete x.1 t) l (stands P e t h.1)
  where
    go : (d : Dec (x.1 ≡ t)) → 0 < choose d x.0 0 + coef tree_discrete e t → (0 < coef tree_discrete e t → P t) → P t
    go (yes s) l further = subst P s h.0
    go (no _) l further = further (omega arith)

module _ (p : ℕ) where
  abbrev Counts : List (ℕ × Tree ℕ) → Tree ℕ → Type 0
  Counts e t = 0 < coef tree_discrete e t % suc (p - 1)

  behind : (x : ℕ × Tree ℕ) (e l : List (ℕ × Tree ℕ)) → AllByRecursion (λ y. order x.1 y.1 ≡ Less) l → AllTerms l (Counts e) → AllTerms l (Counts (x ∷ e))
  behind x e [] h c = tt
  behind x e (y ∷ l) h c =
      let other : x.1 ≢ y.1 = λ s. not_itself x.1 y.1 h.0 (sym s) in
      (subst (λ n. 0 < n % suc (p - 1)) (sym (coef-other x e y.1 other)) c.0, behind x e l h.1 c.1)

  -- each tree of a reduced sum has a coefficient other than 0
  all_count : (e : List (ℕ × Tree ℕ)) → Pairs (λ x y. order x.1 y.1 ≡ Less) e → AllByRecursion (λ x. (0 < x.0) × (x.0 < p)) e → AllTerms e (Counts e)
  all_count [] r s = tt
  all_count (x ∷ e) r s =
      let small : x.0 < suc (p - 1) = omega (arith, s.0.1) in
      let first : coef tree_discrete (x ∷ e) x.1 % suc (p - 1) ≡ x.0 = ap (λ n. n % suc (p - 1)) (coef-first p x e r) ∙ mod-eq_of_lt small in
      (subst (λ n. 0 < n) (sym first) s.0.0, behind x e e r.0 (all_count e r.1 s.1))

  counts_alike : (e f : List (ℕ × Tree ℕ)) → Same tree_discrete (p - 1) f e → (t : Tree ℕ) → Counts f t → 0 < coef tree_discrete e t
  counts_alike e f h t c = some (coef tree_discrete e t) (subst (λ n. 0 < n) (h t) c)
    where
      some : (n : ℕ) → 0 < n % suc (p - 1) → 0 < n
      some zero l = absurd (omega (arith, l))
      some (suc n) l = omega arith

spelled_labelled : (q n : ℕ) (parts : ℕ → List Part) (e : List (ℕ × Tree ℕ)) → AllTerms e (IsLabelled (arity parts) n) → AllTerms (spelled_sum q parts e) (IsLabelled (arity parts) n)
spelled_labelled q n parts [] h = tt
spelled_labelled q n parts (x ∷ e) h =
    (agreement_keeps_labels parts n (spelled_sign parts x.1) x.1 (spelled parts x.1) ((one_spelling parts n x.1 h.0).0.agrees) h.0, spelled_labelled q n parts e h.1)

-- the trees of the collected form are labelled as those of the sum are
pub form_labelled : (p n : ℕ) (parts : ℕ → List Part) (e f : List (ℕ × Tree ℕ)) → AllTerms e (IsLabelled (arity parts) n) → IsCollected p parts e f → AllTerms f (IsLabelled (arity parts) n)
form_labelled p n parts e f h c =
    let rising = pairs_from_AllPairs (λ x y. order x.1 y.1 ≡ Less) f c.reduced.ascending in
    let small = recursion_from_All (λ x. (0 < x.0) × (x.0 < p)) f c.reduced.residues in
    AllTerms-imp (Counts p f) (IsLabelled (arity parts) n) f
    (λ t k. stands (IsLabelled (arity parts) n) (spelled_sum (p - 1) parts e) t (spelled_labelled (p - 1) n parts e h) (counts_alike p (spelled_sum (p - 1) parts e) f c.same t k))
    (all_count p f rising small)
