-- Good uses, and the first bad one.
use Rattle.std.proofs.Common.{◌≡◌, ◌≢◌, ℕ, zero, suc, ◌+◌, ◌-◌, ◌<◌, ◌⊎◌, inl, inr, List, [], ◌∷◌, ◌++◌, length, take, drop, get_or, Option, Some, None, refl, ap, ap₂, sym, ◌∙◌, subst, arith, append-nil, length-append}
use Rattle.std.specs.Prelude.{Result, Ok, Err}
use Rattle.std.specs.List.{All}
use Rattle.std.proofs.lemmas.Grind.{flat_map-append}
use Rattle.std.proofs.lemmas.List.{map-append, length-map, take-append-drop}
use Rattle.std.proofs.Math.Seq.{drop-cons, take-suc}
use Rattle.std.proofs.lemmas.List.Elements.{All-append, All-push}
use Rattle.labelled_trees.specs.Trees.{Tree}
use Rattle.labelled_trees.specs.Meaning.{tree_of}
use Rattle.symmetric_trees.specs.Trees.{Fits}
use Rattle.symmetric_trees.specs.declared.generators.Generator.{Generator}
use Rattle.labelled_trees.specs.Labelled.{IsNumbered}
use Rattle.symmetric_sums.specs.Terms.{FitsOver, HaveArity, terms_of}
use Rattle.symmetric_sums.specs.Instances.{sum_at, rule_element, in_place, IsValidInstance, instance_element, IsExpandedTo}
use Rattle.symmetric_sums.specs.declared.term.Term.{Term}
use Rattle.symmetric_sums.specs.declared.expanding.Expanded.{Expanded}
use Rattle.symmetric_sums.specs.declared.expanding.ExpandFail.{ExpandFail}
use Rattle.symmetric_sums.specs.declared.expanding.ExpandFail.TheVariants.{Unfit, NoMemory}
use Rattle.symmetric_sums.specs.declared.instance.Rule.{Rule}
use Rattle.symmetric_sums.specs.declared.instance.Rule.TheVariants.{Rel, Swap, Step as StepRule}
use Rattle.symmetric_sums.specs.declared.instance.Instance.{Instance}
use Rattle.symmetric_sums.proofs.Expansions.{sum_at-found, sum_at-past, one_label}
use Rattle.symmetric_sums.proofs.Numberings.{all-left, all-right, no_terms}
use Rattle.certificate_text.specs.declared.block.Step.{Step}
use Rattle.certificate_check.specs.Blocks.{elements_of}
use Rattle.symmetric_sums.specs.Uses.{CitesElement, cited, IsGoodUse, AreGoodUses, sum_of}
use Rattle.certificate_check.specs.Answers.{IsAhead}
use Rattle.certificate_check.specs.Checking.{fault_of, IsUsed, AreUsed}
use Rattle.certificate_check.specs.declared.answer.CheckCause.TheVariants.{Ahead, UseUnfit, Differs, NotWanted}
use Rattle.certificate_check.specs.declared.uses.Fault.{Fault}
use Rattle.certificate_check.specs.declared.uses.Fault.TheVariants.{Cause, NoMemory as OutOfMemory}

-- ---- steps by their number

elements-at : (steps : List Step) (i : ℕ) (step : Step) → i < length steps → step ≡ get_or steps i step → step.element ≡ get_or (elements_of steps) i step.element
elements-at [] i step l e = absurd (omega (arith, l))
elements-at (s ∷ steps) zero step l e = ap (λ (x : Step). x.element) e
elements-at (s ∷ steps) (suc i) step l e = elements-at steps i step (omega (arith, l)) e

-- the earlier step with a number
pub step_at-found : (steps : List Step) (k : ℕ) (step : Step) → 0 < k → k - 1 < length steps → step ≡ get_or steps (k - 1) step → sum_at (elements_of steps) k ≡ terms_of step.element
step_at-found steps k step positive l e =
    sum_at-found (elements_of steps) k step.element positive (let n = length-map steps (λ (x : Step). x.element) in omega (arith, l, n)) (elements-at steps (k - 1) step l e)

sum_at-zero : (sums : List (List Term)) → sum_at sums 0 ≡ []
sum_at-zero [] = refl
sum_at-zero (x ∷ xs) = refl

-- ---- what is good

-- what is valid is so in one arity
pub one_arity : (generators : List Generator) (e : List (ℕ × Tree ℕ)) (m n : ℕ) (item : Instance) → IsValidInstance generators e m item → IsValidInstance generators e n item → m ≡ n
one_arity generators [] m n item a b = absurd (a.has_terms refl)
one_arity generators (x ∷ e) m n item a b = one_label generators m n (in_place item x.1) a.labelled.0 b.labelled.0

ahead_is_nothing : (earlier : List (List Term)) (k : ℕ) → (k ≡ 0) ⊎ (length earlier < k) → sum_at earlier k ≡ []
ahead_is_nothing earlier k (inl z) = ap (sum_at earlier) z ∙ sum_at-zero earlier
ahead_is_nothing earlier k (inr l) = sum_at-past earlier k (omega (arith, l)) (omega (arith, l))

module _ (p : ℕ) (generators : List Generator) (rels earlier : List (List Term)) where
  rule_not_ahead : (rule : Rule) → (rule_element p generators rels earlier rule ≡ [] → ⊥) → IsAhead (length earlier) rule → ⊥
  rule_not_ahead (Rel k) some h = h
  rule_not_ahead (Swap g at) some h = h
  rule_not_ahead (StepRule k) some h = some (ahead_is_nothing earlier k h)

  -- a good use isn't ahead
  pub good_not_ahead : (n : ℕ) (item : Instance) → IsGoodUse p generators rels earlier n item → IsAhead (length earlier) item.rule → ⊥
  good_not_ahead n item g h = rule_not_ahead item.rule g.valid.has_terms h

  pub good-one_arity : (m n : ℕ) (item : Instance) → IsGoodUse p generators rels earlier m item → IsGoodUse p generators rels earlier n item → m ≡ n
  good-one_arity m n item a b = one_arity generators (cited p generators rels earlier item) m n item a.valid b.valid

  -- ---- one use

  pub used-ok : (item : Instance) (e : List (ℕ × Tree ℕ)) (expanded : Expanded) → CitesElement item.rule → cited p generators rels earlier item ≡ e
      → IsExpandedTo p generators e item (Ok expanded) → IsUsed p generators rels earlier item (Ok expanded)
  used-ok item e expanded cites is h = (
    record { cites = cites; valid = subst (λ f. IsValidInstance generators f expanded.arity item) (sym is) h.0 },
    h.1 ∙ ap (λ f. instance_element p f item) (sym is),
  )

  pub used-err : (item : Instance) (e : List (ℕ × Tree ℕ)) (fail : ExpandFail) (r : Result Expanded Fault) → cited p generators rels earlier item ≡ e → (IsAhead (length earlier) item.rule → ⊥)
      → IsExpandedTo p generators e item (Err fail) → r ≡ Err (fault_of fail) → IsUsed p generators rels earlier item r
  used-err item e Unfit r is apart h same = subst (IsUsed p generators rels earlier item) (sym same) (apart, λ n g. h n (subst (λ f. IsValidInstance generators f n item) is g.valid))
  used-err item e NoMemory r is apart h same = subst (IsUsed p generators rels earlier item) (sym same) tt

  -- ---- the uses so far

  pub record AreUsedSoFar (done : List Instance) (sum : List Term) (arity : Option ℕ) : Type 0 where
    pub sum_is : terms_of sum ≡ sum_of p generators rels earlier done
    pub fits : FitsOver p generators sum
    pub have : (n : ℕ) → arity ≡ Some n → HaveArity n sum
    pub none : arity ≡ None → length done ≡ 0
    pub some : (n : ℕ) → arity ≡ Some n → (0 < length done) × All (IsGoodUse p generators rels earlier n) done

  pub so_far-start : (sum : List Term) → sum ≡ [] → AreUsedSoFar [] sum None
  so_far-start sum e = record {
    sum_is = ap terms_of e;
    fits = record { residues = λ k d l. absurd (none k l); trees = λ k d l. absurd (none k l) };
    have = λ n k. absurd cc;
    none = λ k. refl;
    some = λ n k. absurd cc;
  }
    where
      none : (k : ℕ) → k < length sum → ⊥
      none k l = let z = ap length e in omega (arith, l, z)

  pub so_far-good : (done : List Instance) (sum : List Term) (arity : Option ℕ) → AreUsedSoFar done sum arity → AreGoodUses p generators rels earlier done
  so_far-good done sum None h = (0, λ k d l. let z = h.none refl in absurd (omega (arith, z, l)))
  so_far-good done sum (Some n) h = (n, (h.some n refl).1)

  none_summed : (done : List Instance) → length done ≡ 0 → sum_of p generators rels earlier done ≡ []
  none_summed [] e = refl
  none_summed (x ∷ xs) e = absurd (omega (arith, e))

  no_terms_of : (sum : List Term) → terms_of sum ≡ [] → length sum ≡ 0
  no_terms_of [] e = refl
  no_terms_of (x ∷ xs) e = absurd cc

  -- the sum so far has the arity of the next use, where that is the same
  pub so_far-arity : (done : List Instance) (sum : List Term) (arity : Option ℕ) (own : ℕ) → AreUsedSoFar done sum arity → ((m : ℕ) → arity ≡ Some m → m ≡ own) → HaveArity own sum
  so_far-arity done sum None own h same = no_terms sum own (no_terms_of sum (h.sum_is ∙ none_summed done (h.none refl)))
  so_far-arity done sum (Some m) own h same = subst (λ n. HaveArity n sum) (same m refl) (h.have m refl)

  labels_so_far : (done : List Instance) (sum : List Term) (arity : Option ℕ) (own : ℕ) → AreUsedSoFar done sum arity → ((m : ℕ) → arity ≡ Some m → m ≡ own) → All (IsGoodUse p generators rels earlier own) done
  labels_so_far done sum None own h same = λ k d l. let z = h.none refl in absurd (omega (arith, z, l))
  labels_so_far done sum (Some m) own h same = subst (λ n. All (IsGoodUse p generators rels earlier n) done) (same m refl) (h.some m refl).1

  -- one more use
  pub so_far-step : (done after : List Instance) (sum more new : List Term) (arity : Option ℕ) (own : ℕ) (item : Instance) → after ≡ done ++ item ∷ []
      → AreUsedSoFar done sum arity → ((m : ℕ) → arity ≡ Some m → m ≡ own) → IsGoodUse p generators rels earlier own item
      → terms_of more ≡ instance_element p (cited p generators rels earlier item) item → FitsOver p generators more → HaveArity own more → new ≡ sum ++ more → AreUsedSoFar after new (Some own)
  so_far-step done after sum more new arity own item e h same good is fits have added = record {
    sum_is =
        ap terms_of added ∙ map-append (λ (x : Term). (x.coef, tree_of x.tree)) sum more ∙ ap₂ (λ a b. a ++ b) h.sum_is (is ∙ sym (append-nil (instance_element p (cited p generators rels earlier item) item)))
        ∙ sym (flat_map-append (λ (x : Instance). instance_element p (cited p generators rels earlier x) x) done (item ∷ [])) ∙ ap (sum_of p generators rels earlier) (sym e);
    fits = subst (FitsOver p generators) (sym added) record {
      residues = All-append (λ (x : Term). x.coef < p) sum more h.fits.residues fits.residues;
      trees = All-append (λ (x : Term). Fits generators (tree_of x.tree)) sum more h.fits.trees fits.trees;
    };
    have = λ n k.
        let own_is : own ≡ n = cc in
        subst (λ m. HaveArity m new) own_is (subst (HaveArity own) (sym added) (All-append (λ (x : Term). IsNumbered own (tree_of x.tree)) sum more (so_far-arity done sum arity own h same) have));
    none = λ k. absurd cc;
    some = λ n k. (
      (let m = ap length e ∙ length-append done (item ∷ []) in omega (arith, m)),
      let own_is : own ≡ n = cc in
          subst (λ m. All (IsGoodUse p generators rels earlier m) after) own_is (subst (All (IsGoodUse p generators rels earlier own)) (sym e) (All-push (IsGoodUse p generators rels earlier own) done item (labels_so_far done sum arity own h same) good)),
    );
  }

  -- ---- the first bad use

  last_of : (n : ℕ) (front : List Instance) (item : Instance) → All (IsGoodUse p generators rels earlier n) (front ++ item ∷ []) → IsGoodUse p generators rels earlier n item
  last_of n front item h = all-right (IsGoodUse p generators rels earlier n) front (item ∷ []) h 0 item (omega arith)

  pub bad-use : (uses front back : List Instance) (sum : List Term) (arity : Option ℕ) (item : Instance) (fault : Fault) → uses ≡ front ++ item ∷ back → AreUsedSoFar front sum arity
      → IsUsed p generators rels earlier item (Err fault) → AreUsed p generators rels earlier uses (Err fault)
  bad-use uses front back sum arity item (Cause Ahead) e h u = (front, item, back, e, (so_far-good front sum arity h, u))
  bad-use uses front back sum arity item (Cause UseUnfit) e h u = (front, item, back, e, (so_far-good front sum arity h, u.0, λ g. u.1 g.0 (last_of g.0 front item g.1)))
  bad-use uses front back sum arity item (Cause Differs) e h u = absurd u
  bad-use uses front back sum arity item (Cause NotWanted) e h u = absurd u
  bad-use uses front back sum arity item OutOfMemory e h u = tt

  -- a use of another arity
  pub bad-arity : (uses front back : List Instance) (sum : List Term) (arity : Option ℕ) (others own : ℕ) (item : Instance) → uses ≡ front ++ item ∷ back → AreUsedSoFar front sum arity → arity ≡ Some others → others ≢ own
      → IsGoodUse p generators rels earlier own item → AreUsed p generators rels earlier uses (Err (Cause UseUnfit))
  bad-arity uses front back sum arity others own item e h is ne good = (
    front,
    item,
    back,
    e,
    (
      so_far-good front sum arity h,
      good_not_ahead own item good,
      λ g.
          let some = h.some others is in
          let first : IsGoodUse p generators rels earlier g.0 (get_or front 0 item) = all-left (IsGoodUse p generators rels earlier g.0) front (item ∷ []) g.1 0 item some.0 in
          ne (good-one_arity others g.0 (get_or front 0 item) (some.1 0 item some.0) first ∙ good-one_arity g.0 own item (last_of g.0 front item g.1) good),
    ),
  )

-- a step within the earlier ones isn't ahead
pub not_ahead_within : (earlier : List Step) (rule : Rule) (k : ℕ) → rule ≡ StepRule k → 0 < k → k - 1 < length earlier → IsAhead (length (elements_of earlier)) rule → ⊥
not_ahead_within earlier rule k e positive l h = go (subst (IsAhead (length (elements_of earlier))) e h)
  where
    go : (k ≡ 0) ⊎ (length (elements_of earlier) < k) → ⊥
    go (inl z) = omega (arith, z, positive)
    go (inr m) = let n = length-map earlier (λ (x : Step). x.element) in omega (arith, n, l, m)

-- a list around one of its things
pub split-at : {X : Type 0} (xs : List X) (i : ℕ) (x : X) → i < length xs → x ≡ get_or xs i x → xs ≡ take i xs ++ x ∷ drop (i + 1) xs
split-at xs i x l e =
    let s : suc i ≡ i + 1 = omega arith in
    sym (take-append-drop i xs) ∙ ap (λ ys. take i xs ++ ys) (drop-cons xs i x l ∙ ap₂ (λ y ys. y ∷ ys) (sym e) (ap (λ n. drop n xs) s))

pub taken : {X : Type 0} (xs : List X) (i : ℕ) (x : X) → i < length xs → x ≡ get_or xs i x → take (i + 1) xs ≡ take i xs ++ x ∷ []
taken xs i x l e = let s : i + 1 ≡ suc i = omega arith in ap (λ n. take n xs) s ∙ take-suc xs i x l ∙ ap (λ y. take i xs ++ y ∷ []) (sym e)
