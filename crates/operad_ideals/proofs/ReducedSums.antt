-- Reduced sums: each sum on sorted trees is the same as one.
use Rattle.std.proofs.Common.{Bool, true, false, ◌≡◌, ℕ, suc, ◌*◌, ◌-◌, ◌%◌, ◌<◌, List, [], ◌∷◌, map, refl, sym, ◌∙◌, ap, arith, subst, inl, inr}
use native.Mathlib.Decide.{ℕ_discrete}
use Rattle.std.specs.List.{AllByRecursion}
use Rattle.std.proofs.Math.Nat.{mod-mod}
use Rattle.std.proofs.lemmas.Nat.{mod_below}
use Rattle.std.proofs.lemmas.List.Elements.{All-from_recursion}
use Rattle.std.specs.declared.cmp.Ordering.TheVariants.{Less}
use Rattle.modular_sums.specs.Lists.{Mem, has_by}
use Rattle.modular_sums.specs.Residues.{IsCongruent}
use mathlib.Core.List.{◌++◌}
use Rattle.modular_sums.specs.Sums.{coef, scale, Same, AllTerms}
use Rattle.modular_sums.proofs.Residues.{congruent_add, congruent_mul}
use Rattle.modular_sums.proofs.Sums.{coef-append, coef-scale}
use Rattle.modular_sums.proofs.Coefficients.{coef_nothing, coef_absent}
use Rattle.modular_sums.proofs.Images.{AllTerms-imp}
use Rattle.modular_sums.proofs.Lists.{has_by_mem, mem_has_by}
use Rattle.labelled_trees.specs.Trees.{Tree}
use Rattle.labelled_trees.specs.Equality.{tree_discrete}
use Rattle.operad_ideals.specs.Parts.{Part}
use Rattle.operad_ideals.specs.Spelling.{IsSorted}
use Rattle.operad_ideals.specs.SpellingOrder.{order}
use Rattle.operad_ideals.specs.Collected.{IsReduced}
use Rattle.operad_ideals.specs.Pairs.{Pairs}
use Rattle.operad_ideals.proofs.Forms.{coef-other, coef-first, not_itself, one_reduced}
use Rattle.operad_ideals.proofs.LastOnes.{AllPairs-from_pairs}
use Rattle.operad_ideals.proofs.TreeLists.{Trees, Ascending, each_member, sorted, sorted_ascending, sorted_has}

abbrev Sum : Type 0
Sum = List (ℕ × Tree ℕ)

abbrev Rising : Sum → Type 0
Rising e = Pairs (λ x y. order x.1 y.1 ≡ Less) e

-- ---- a sum read out at the trees of a list

keep : {A : Type 0} → Dec A → ℕ × Tree ℕ → Sum → Sum
keep (yes _) x l = l
keep (no _) x l = x ∷ l

module _ (q : ℕ) (f : Sum) where
  abbrev at : Tree ℕ → ℕ
  at t = coef tree_discrete f t % suc q

  pub read_out : Trees → Sum
  read_out [] = []
  read_out (t ∷ l) = keep (ℕ_discrete (at t) 0) (at t, t) (read_out l)

  all_read : (Q : ℕ × Tree ℕ → Type 0) (l : Trees) → ((t : Tree ℕ) → Mem t l → (at t ≡ 0 → ⊥) → Q (at t, t)) → AllByRecursion Q (read_out l)
  unfolding read_out keep
  all_read Q [] h = tt
  all_read Q (t ∷ l) h = go (ℕ_discrete (at t) 0) (all_read Q l (λ u m. h u (inr m)))
    where
      go : (d : Dec (at t ≡ 0)) → AllByRecursion Q (read_out l) → AllByRecursion Q (keep d (at t, t) (read_out l))
      go (yes _) r = r
      go (no n) r = (h t (inl refl) n, r)

  read_rising : (l : Trees) → Ascending l → Rising (read_out l)
  unfolding read_out keep
  read_rising [] a = tt
  read_rising (t ∷ l) a = go (ℕ_discrete (at t) 0) (read_rising l a.1)
    where
      go : (d : Dec (at t ≡ 0)) → Rising (read_out l) → Rising (keep d (at t, t) (read_out l))
      go (yes _) r = r
      go (no n) r = (all_read (λ x. order t x.1 ≡ Less) l (λ u m k. each_member (λ v. order t v ≡ Less) l u a.0 m), r)

  -- what isn't listed isn't there
  read_none : (l : Trees) (u : Tree ℕ) → (Mem u l → ⊥) → coef tree_discrete (read_out l) u ≡ 0
  unfolding read_out keep
  read_none [] u n = coef_nothing tree_discrete u
  read_none (t ∷ l) u n = go (ℕ_discrete (at t) 0) (read_none l u (λ m. n (inr m)))
    where
      go : (d : Dec (at t ≡ 0)) → coef tree_discrete (read_out l) u ≡ 0 → coef tree_discrete (keep d (at t, t) (read_out l)) u ≡ 0
      go (yes _) r = r
      go (no _) r = coef-other (at t, t) (read_out l) u (λ e. n (inl (sym e))) ∙ r

  read_there : (l : Trees) → Ascending l → (u : Tree ℕ) → Mem u l → IsCongruent q (coef tree_discrete (read_out l) u) (coef tree_discrete f u)
  unfolding read_out keep
  read_there [] a u m = absurd m
  read_there (t ∷ l) a u m = go (ℕ_discrete (at t) 0) m (read_there l a.1 u)
    where
      again : (n : ℕ) → n % suc q % suc q ≡ n % suc q
      again n = mod-mod n (suc q)

      here : (d : Dec (at t ≡ 0)) → IsCongruent q (coef tree_discrete (keep d (at t, t) (read_out l)) t) (coef tree_discrete f t)
      here (yes z) = ap (λ c. c % suc q) (read_none l t (λ k. not_itself t t (each_member (λ v. order t v ≡ Less) l t a.0 k) refl)) ∙ ap (λ c. c % suc q) (sym z) ∙ again (coef tree_discrete f t)
      here (no n) = ap (λ c. c % suc q) (coef-first (suc q) (at t, t) (read_out l) (all_read (λ x. order t x.1 ≡ Less) l (λ v k i. each_member (λ w. order t w ≡ Less) l v a.0 k), read_rising l a.1)) ∙ again (coef tree_discrete f t)

      later : (d : Dec (at t ≡ 0)) → Mem u l → (Mem u l → IsCongruent q (coef tree_discrete (read_out l) u) (coef tree_discrete f u)) → IsCongruent q (coef tree_discrete (keep d (at t, t) (read_out l)) u) (coef tree_discrete f u)
      later (yes z) k r = r k
      later (no n) k r = ap (λ c. c % suc q) (coef-other (at t, t) (read_out l) u (λ e. not_itself t u (each_member (λ v. order t v ≡ Less) l u a.0 k) (sym e))) ∙ r k

      go : (d : Dec (at t ≡ 0)) → Mem u (t ∷ l) → (Mem u l → IsCongruent q (coef tree_discrete (read_out l) u) (coef tree_discrete f u)) → IsCongruent q (coef tree_discrete (keep d (at t, t) (read_out l)) u) (coef tree_discrete f u)
      go d (inl e) r = subst (λ v. IsCongruent q (coef tree_discrete (keep d (at t, t) (read_out l)) v) (coef tree_discrete f v)) (sym e) (here d)
      go d (inr k) r = later d k r

  pub read_same : (l : Trees) → Ascending l → AllTerms f (λ t. Mem t l) → Same tree_discrete q (read_out l) f
  read_same l a h u = go (has_by tree_discrete l u) refl
    where
      go : (b : Bool) → has_by tree_discrete l u ≡ b → IsCongruent q (coef tree_discrete (read_out l) u) (coef tree_discrete f u)
      go true e = read_there l a u (has_by_mem tree_discrete l u e)
      go false e =
          let out : Mem u l → ⊥ = λ m. apart (sym (mem_has_by tree_discrete l u m) ∙ e) in
          ap (λ c. c % suc q) (read_none l u out ∙ sym (coef_absent tree_discrete f u (AllTerms-imp (λ t. Mem t l) (λ t. t ≡ u → ⊥) f (λ t m e. out (subst (λ v. Mem v l) e m)) h)))
        where
          apart : true ≡ false → ⊥
          apart k = cc

  pub read_reduced : (parts : ℕ → List Part) (l : Trees) → Ascending l → ((t : Tree ℕ) → Mem t l → IsSorted parts t) → IsReduced (suc q) parts (read_out l)
  read_reduced parts l a s = record {
    sorted = All-from_recursion (λ x. IsSorted parts x.1) (read_out l) (all_read (λ x. IsSorted parts x.1) l (λ t m k. s t m));
    ascending = AllPairs-from_pairs (λ x y. order x.1 y.1 ≡ Less) (read_out l) (read_rising l a);
    residues = All-from_recursion (λ x. (0 < x.0) × (x.0 < suc q)) (read_out l) (all_read (λ x. (0 < x.0) × (x.0 < suc q)) l
        (λ t m k. (let n : at t ≡ 0 → ⊥ = k in grind arith, mod_below (coef tree_discrete f t) (suc q) (omega arith))));
  }

-- ---- the reduced sum of a sum on sorted trees

pub trees_of : Sum → Trees
trees_of e = map (λ x. x.1) e

pub trees_there : (e : Sum) → AllTerms e (λ t. Mem t (trees_of e))
unfolding trees_of
trees_there [] = tt
trees_there (x ∷ e) = (inl refl, AllTerms-imp (λ t. Mem t (trees_of e)) (λ t. Mem t (trees_of (x ∷ e))) e (λ t m. inr m) (trees_there e))

pub each_tree : (P : Tree ℕ → Type 0) (e : Sum) → AllTerms e P → (t : Tree ℕ) → Mem t (trees_of e) → P t
unfolding trees_of
each_tree P [] h t m = absurd m
each_tree P (x ∷ e) h t (inl k) = subst P (sym k) h.0
each_tree P (x ∷ e) h t (inr m) = each_tree P e h.1 t m

-- the reduced sum that is the same as e
pub record Reduction (q : ℕ) (parts : ℕ → List Part) (P : Tree ℕ → Type 0) (e : Sum) : Type 0 where
  pub sum : Sum
  pub reduced : IsReduced (suc q) parts sum
  pub same : Same tree_discrete q sum e
  pub all : AllTerms sum P

read_all : (q : ℕ) (f : Sum) (P : Tree ℕ → Type 0) (l : Trees) → ((t : Tree ℕ) → Mem t l → P t) → AllTerms (read_out q f l) P
unfolding read_out keep
read_all q f P [] h = tt
read_all q f P (t ∷ l) h = go (ℕ_discrete (coef tree_discrete f t % suc q) 0) (read_all q f P l (λ u m. h u (inr m)))
  where
    go : (d : Dec (coef tree_discrete f t % suc q ≡ 0)) → AllTerms (read_out q f l) P → AllTerms (keep d (coef tree_discrete f t % suc q, t) (read_out q f l)) P
    go (yes _) r = r
    go (no n) r = (h t (inl refl), r)

pub reduction : (q : ℕ) (parts : ℕ → List Part) (P : Tree ℕ → Type 0) (e : Sum) → AllTerms e P → ((t : Tree ℕ) → P t → IsSorted parts t) → Reduction q parts P e
reduction q parts P e h s =
    let l = sorted (trees_of e) in
    let each : (t : Tree ℕ) → Mem t l → P t = λ t m. each_tree P e h t ((sorted_has (trees_of e) t).0 m) in
    record {
      sum = read_out q e l;
      reduced = read_reduced q e parts l (sorted_ascending (trees_of e)) (λ t m. s t (each t m));
      same = read_same q e l (sorted_ascending (trees_of e)) (AllTerms-imp (λ t. Mem t (trees_of e)) (λ t. Mem t l) e (λ t m. (sorted_has (trees_of e) t).1 m) (trees_there e));
      all = read_all q e P l each;
    }

-- reduced sums that are the same are equal
pub one_reduction : (q : ℕ) (parts : ℕ → List Part) (e f : Sum) → IsReduced (suc q) parts e → IsReduced (suc q) parts f → Same tree_discrete q e f → e ≡ f
one_reduction q parts e f a b h = one_reduced (suc q) parts e f a b (let one : suc q - 1 ≡ q = omega arith in subst (λ k. Same tree_discrete k e f) (sym one) h)

-- ---- differences

-- of sums that are the same, the differences from a third are
pub less_same : (q : ℕ) (e f g : Sum) → Same tree_discrete q f g → Same tree_discrete q (e ++ scale q f) (e ++ scale q g)
less_same q e f g h t =
    rw (coef-append tree_discrete e (scale q f) t, coef-append tree_discrete e (scale q g) t, coef-scale tree_discrete q f t, coef-scale tree_discrete q g t)
    (congruent_add q (coef tree_discrete e t) (coef tree_discrete e t) (q * coef tree_discrete f t) (q * coef tree_discrete g t) refl (congruent_mul q q q (coef tree_discrete f t) (coef tree_discrete g t) refl (h t)))
