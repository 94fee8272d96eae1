-- On the way to the element of an instance.
use Rattle.std.proofs.Common.{◌≡◌, ◌≢◌, ℕ, suc, ◌+◌, ◌-◌, ◌*◌, ◌%◌, ◌<◌, ◌≤◌, ◌==◌, List, [], ◌∷◌, ◌++◌, length, take, get_or, Option, Some, None, refl, ap, ap₂, sym, ◌∙◌, subst, arith, Bool, true, false, zero, ◌⊎◌, inl, inr, append-nil, length-take}
use native.Mathlib.Decide.{ℕ_discrete}
use Rattle.std.specs.List.{All, AllByRecursion}
use Rattle.std.proofs.lemmas.Bool.Decides.{nat_tests}
use Rattle.std.specs.Prelude.{Result, Ok, Err, IsErr, IsErrAnd}
use Rattle.std.proofs.lemmas.List.{map-append, get_or-take, take_all}
use Rattle.std.proofs.lemmas.Nat.{mod_below}
use Rattle.std.proofs.lemmas.List.Elements.{All-from_recursion, recursion_from_All, All-more}
use Rattle.modular_sums.specs.Sums.{moved, AllTerms}
use Rattle.modular_sums.proofs.Images.{moved-append}
use Rattle.labelled_trees.specs.Trees.{Tree}
use Rattle.labelled_trees.specs.Leaves.{AllLeaves}
use Rattle.labelled_trees.specs.Meaning.{tree_of}
use Rattle.labelled_trees.proofs.Counts.{leaf_count-numbered}
use Rattle.labelled_trees.proofs.Leaves.{by_leaf}
use Rattle.operad_ideals.specs.Laws.{arity}
use Rattle.symmetric_trees.specs.Trees.{IsLabelled}
use Rattle.symmetric_trees.specs.declared.generators.Generator.{Generator}
use Rattle.labelled_trees.specs.Labelled.{IsNumbered}
use Rattle.symmetric_sums.specs.Terms.{ArityIs, HaveArity, terms_of}
use Rattle.symmetric_sums.specs.Collecting.{IsResidue}
use Rattle.symmetric_sums.specs.Instances.{element_arity, in_place, IsValidInstance, products, without_zeros, instance_element, IsExpandedTo, sum_at}
use Rattle.symmetric_sums.specs.Expanding.{HasPlace, IsFilled}
use Rattle.symmetric_sums.specs.declared.expanding.ExpandFail.{ExpandFail}
use Rattle.symmetric_sums.specs.declared.expanding.ExpandFail.TheVariants.{Unfit, NoMemory}
use Rattle.symmetric_sums.specs.declared.expanding.Expanded.{Expanded}
use Rattle.symmetric_sums.specs.declared.term.Term.{Term}
use Rattle.symmetric_sums.specs.declared.instance.Instance.{Instance}
use Rattle.labelled_trees.proofs.Numbered.{one_number, numbered_of_labelled}
use Rattle.symmetric_sums.proofs.SpelledTerms.{taken}
use Rattle.operad_ideals.proofs.LastOnes.{each-push}

-- ---- what holds of the trees of a list

pub all_terms-each : (ts : List Term) (f : Tree ℕ → Tree ℕ) (P : Tree ℕ → Type 0) → AllTerms (moved f (terms_of ts)) P → AllByRecursion (λ t. P (f (tree_of t.tree))) ts
all_terms-each [] f P h = tt
all_terms-each (t ∷ ts) f P h = (h.0, all_terms-each ts f P h.1)

pub each-all_terms : (ts : List Term) (f : Tree ℕ → Tree ℕ) (P : Tree ℕ → Type 0) → AllByRecursion (λ t. P (f (tree_of t.tree))) ts → AllTerms (moved f (terms_of ts)) P
each-all_terms [] f P h = tt
each-all_terms (t ∷ ts) f P h = (h.0, each-all_terms ts f P h.1)

pub terms-each : (ts : List Term) (P : Tree ℕ → Type 0) → AllTerms (terms_of ts) P → AllByRecursion (λ t. P (tree_of t.tree)) ts
terms-each [] P h = tt
terms-each (t ∷ ts) P h = (h.0, terms-each ts P h.1)

pub each-terms : (ts : List Term) (P : Tree ℕ → Type 0) → AllByRecursion (λ t. P (tree_of t.tree)) ts → AllTerms (terms_of ts) P
each-terms [] P h = tt
each-terms (t ∷ ts) P h = (h.0, each-terms ts P h.1)

products-all : (p c : ℕ) (e : List (ℕ × Tree ℕ)) (P : Tree ℕ → Type 0) → AllTerms e P → AllTerms (products p c e) P
products-all p c [] P h = tt
products-all p c (x ∷ e) P h = (h.0, products-all p c e P h.1)

pub without_zeros-zero : (x : ℕ × Tree ℕ) (e : List (ℕ × Tree ℕ)) → x.0 ≡ 0 → without_zeros (x ∷ e) ≡ without_zeros e
without_zeros-zero x e z = rw z refl

pub without_zeros-some : (x : ℕ × Tree ℕ) (e : List (ℕ × Tree ℕ)) → x.0 ≢ 0 → without_zeros (x ∷ e) ≡ x ∷ without_zeros e
without_zeros-some x e z = go (x.0 == 0) refl
  where
    go : (b : Bool) → (x.0 == 0) ≡ b → without_zeros (x ∷ e) ≡ x ∷ without_zeros e
    go true k = absurd (z (grind (arith, nat_tests)))
    go false k = rw k refl

without_zeros-all : (e : List (ℕ × Tree ℕ)) (P : Tree ℕ → Type 0) → AllTerms e P → AllTerms (without_zeros e) P
without_zeros-all [] P h = tt
without_zeros-all (x ∷ e) P h = go (ℕ_discrete x.0 0) (without_zeros-all e P h.1)
  where
    go : Dec (x.0 ≡ 0) → AllTerms (without_zeros e) P → AllTerms (without_zeros (x ∷ e)) P
    go (yes z) rest = subst (λ l. AllTerms l P) (sym (without_zeros-zero x e z)) rest
    go (no z) rest = subst (λ l. AllTerms l P) (sym (without_zeros-some x e z)) (h.0, rest)

-- the trees of an instance's element are among the filled ones
pub element-all : (p : ℕ) (e : List (ℕ × Tree ℕ)) (instance : Instance) (P : Tree ℕ → Type 0) → AllTerms (moved (in_place instance) e) P → AllTerms (instance_element p e instance) P
element-all p e instance P h = without_zeros-all (products p instance.coef (moved (in_place instance) e)) P (products-all p instance.coef (moved (in_place instance) e) P h)

without_zeros-append : (e f : List (ℕ × Tree ℕ)) → without_zeros (e ++ f) ≡ without_zeros e ++ without_zeros f
without_zeros-append [] f = refl
without_zeros-append (x ∷ e) f = go (ℕ_discrete x.0 0) (without_zeros-append e f)
  where
    go : Dec (x.0 ≡ 0) → without_zeros (e ++ f) ≡ without_zeros e ++ without_zeros f → without_zeros ((x ∷ e) ++ f) ≡ without_zeros (x ∷ e) ++ without_zeros f
    go (yes z) rest = without_zeros-zero x (e ++ f) z ∙ rest ∙ ap (λ l. l ++ without_zeros f) (sym (without_zeros-zero x e z))
    go (no z) rest = without_zeros-some x (e ++ f) z ∙ ap (λ l. x ∷ l) rest ∙ ap (λ l. l ++ without_zeros f) (sym (without_zeros-some x e z))

-- the product of the residues beside the filled tree
abbrev pub filled_pair : ℕ → Instance → Term → ℕ × Tree ℕ
filled_pair p instance t = ((instance.coef * t.coef) % p, in_place instance (tree_of t.tree))

element-push : (p : ℕ) (instance : Instance) (ts : List Term) (t : Term) → instance_element p (terms_of (ts ++ t ∷ [])) instance ≡ instance_element p (terms_of ts) instance ++ without_zeros (filled_pair p instance t ∷ [])
element-push p instance ts t =
    ap (λ e. without_zeros (products p instance.coef (moved (in_place instance) e))) (map-append (λ (x : Term). (x.coef, tree_of x.tree)) ts (t ∷ []))
    ∙ ap (λ e. without_zeros (products p instance.coef e)) (moved-append (in_place instance) (terms_of ts) (terms_of (t ∷ [])))
    ∙ ap without_zeros (map-append (λ (x : ℕ × Tree ℕ). ((instance.coef * x.0) % p, x.1)) (moved (in_place instance) (terms_of ts)) (moved (in_place instance) (terms_of (t ∷ []))))
    ∙ without_zeros-append (products p instance.coef (moved (in_place instance) (terms_of ts))) (filled_pair p instance t ∷ [])

-- ---- the loop

-- of the terms so far: their element, and the arity of their filled trees
pub record IsExpandedSoFar (p : ℕ) (generators : List Generator) (instance : Instance) (done terms : List Term) (arity : Option ℕ) : Type 0 where
  pub element : terms_of terms ≡ instance_element p (terms_of done) instance
  pub residues : AllByRecursion (IsResidue p) terms
  pub none : arity ≡ None → length done ≡ 0
  pub some : (n : ℕ) → arity ≡ Some n → (0 < length done) × All (λ t. IsLabelled generators n (in_place instance (tree_of t.tree))) done

pub so_far-start : (p : ℕ) (generators : List Generator) (instance : Instance) (terms : List Term) → terms ≡ [] → IsExpandedSoFar p generators instance [] terms None
so_far-start p generators instance terms e = record {
  element = ap terms_of e;
  residues = subst (AllByRecursion (IsResidue p)) (sym e) tt;
  none = λ n. refl;
  some = λ n k. absurd cc;
}

labels_so_far : (p : ℕ) (generators : List Generator) (instance : Instance) (done terms : List Term) (arity : Option ℕ) (n : ℕ) → IsExpandedSoFar p generators instance done terms arity
    → ((m : ℕ) → arity ≡ Some m → m ≡ n) → All (λ t. IsLabelled generators n (in_place instance (tree_of t.tree))) done
labels_so_far p generators instance done terms None n h same = λ k d l. let z = h.none refl in absurd (omega (arith, z, l))
labels_so_far p generators instance done terms (Some m) n h same = subst (λ j. All (λ (t : Term). IsLabelled generators j (in_place instance (tree_of t.tree))) done) (same m refl) (h.some m refl).1

-- ---- arities

-- the arity of a sum with terms
pub element_arity-is : (terms : List Term) (m : ℕ) → ArityIs terms (Some m) → element_arity (terms_of terms) ≡ m
element_arity-is [] m a = let k = a.numbered m refl in absurd (omega (arith, k.0))
element_arity-is (t ∷ ts) m a = let k = a.numbered m refl in leaf_count-numbered m (tree_of t.tree) (k.1 0 t k.0)

some_length : (terms : List Term) → (terms_of terms ≡ [] → ⊥) → 0 < length terms
some_length [] h = absurd (h refl)
some_length (t ∷ ts) h = omega arith

no_nil : (terms : List Term) → 0 < length terms → terms_of terms ≡ [] → ⊥
no_nil [] l e = omega (arith, l)
no_nil (t ∷ ts) l e = cc e

-- what is valid has its place
pub valid-place : (generators : List Generator) (terms : List Term) (n : ℕ) (instance : Instance) → IsValidInstance generators (terms_of terms) n instance → HasPlace terms instance
valid-place generators terms n instance v = record { some = some_length terms v.has_terms; as_many = v.as_many; is_context = v.is_context; no_zero = v.no_zero }

-- the filled trees of what is valid
pub valid-each : (generators : List Generator) (terms : List Term) (n : ℕ) (instance : Instance) → IsValidInstance generators (terms_of terms) n instance → All (λ t. IsLabelled generators n (in_place instance (tree_of t.tree))) terms
valid-each generators terms n instance v = All-from_recursion (λ (t : Term). IsLabelled generators n (in_place instance (tree_of t.tree))) terms (all_terms-each terms (in_place instance) (IsLabelled generators n) v.labelled)

pub place-valid : (generators : List Generator) (terms : List Term) (n : ℕ) (instance : Instance) → HasPlace terms instance → All (λ t. IsLabelled generators n (in_place instance (tree_of t.tree))) terms
    → IsValidInstance generators (terms_of terms) n instance
place-valid generators terms n instance h l = record {
  has_terms = no_nil terms h.some;
  as_many = h.as_many;
  is_context = h.is_context;
  no_zero = h.no_zero;
  labelled = each-all_terms terms (in_place instance) (IsLabelled generators n) (recursion_from_All (λ (t : Term). IsLabelled generators n (in_place instance (tree_of t.tree))) terms l);
}

-- the leaves of a term's tree name inputs
pub leaves-named : (terms : List Term) (m i : ℕ) (t : Term) → HaveArity m terms → i < length terms → t ≡ get_or terms i t → AllLeaves (tree_of t.tree) (λ j. (0 < j) × (j ≤ m))
leaves-named terms m i t h l e = by_leaf (tree_of t.tree) (λ j. (0 < j) × (j ≤ m)) (subst (λ (x : Term). IsNumbered m (tree_of x.tree)) (sym e) (h i t l)).only

pub one_label : (generators : List Generator) (m n : ℕ) (t : Tree ℕ) → IsLabelled generators m t → IsLabelled generators n t → m ≡ n
one_label generators m n t a b = one_number m n t (numbered_of_labelled a) (numbered_of_labelled b)

-- ---- the steps of the loop

-- a term that fills to no labelled tree
pub unfit-tree : (generators : List Generator) (instance : Instance) (terms : List Term) (i : ℕ) (t : Term) → i < length terms → t ≡ get_or terms i t
    → ((n : ℕ) → IsLabelled generators n (in_place instance (tree_of t.tree)) → ⊥) → (n : ℕ) → IsValidInstance generators (terms_of terms) n instance → ⊥
unfit-tree generators instance terms i t l e none n v = none n (subst (λ (x : Term). IsLabelled generators n (in_place instance (tree_of x.tree))) (sym e) (valid-each generators terms n instance v i t l))

-- a term that fills to a tree of another arity than one before it
pub unfit-arity : (p : ℕ) (generators : List Generator) (instance : Instance) (terms made : List Term) (arity : Option ℕ) (i m own : ℕ) (t : Term) → i < length terms → t ≡ get_or terms i t
    → IsExpandedSoFar p generators instance (take i terms) made arity → arity ≡ Some m → m ≢ own → IsLabelled generators own (in_place instance (tree_of t.tree))
    → (n : ℕ) → IsValidInstance generators (terms_of terms) n instance → ⊥
unfit-arity p generators instance terms made arity i m own t l e h is ne label n v =
    let some : 0 < length (take i terms) = (h.some m is).0 in
    let all = valid-each generators terms n instance v in
    let here : IsLabelled generators n (in_place instance (tree_of t.tree)) = subst (λ (x : Term). IsLabelled generators n (in_place instance (tree_of x.tree))) (sym e) (all i t l) in
    let first : IsLabelled generators m (in_place instance (tree_of (get_or (take i terms) 0 t).tree)) = (h.some m is).1 0 t some in
    let positive : 0 < i = positive_take i terms some in
    let first' : IsLabelled generators n (in_place instance (tree_of (get_or (take i terms) 0 t).tree)) =
    subst (λ (x : Term). IsLabelled generators n (in_place instance (tree_of x.tree))) (sym (get_or-take i terms 0 t positive)) (all 0 t (omega (arith, l))) in
    ne (one_label generators m n _ first first' ∙ sym (one_label generators own n _ label here))
  where
    positive_take : (j : ℕ) (xs : List Term) → 0 < length (take j xs) → 0 < j
    positive_take zero xs k = absurd (omega (arith, k))
    positive_take (suc j) xs k = omega arith

some-longer : (i : ℕ) (terms : List Term) → i < length terms → 0 < length (take (i + 1) terms)
some-longer i terms l = let n = length-take (i + 1) terms in omega (arith, n, l)

-- what a term adds to the element
added-element : (p : ℕ) (instance : Instance) (t filled : Term) (made new : List Term) (before : List (ℕ × Tree ℕ)) → terms_of made ≡ before
    → filled.coef ≡ (instance.coef * t.coef) % p → tree_of filled.tree ≡ in_place instance (tree_of t.tree)
    → ((filled.coef ≡ 0) × (new ≡ made)) ⊎ ((filled.coef ≢ 0) × (new ≡ made ++ filled ∷ [])) → terms_of new ≡ before ++ without_zeros (filled_pair p instance t ∷ [])
added-element p instance t filled made new before h coef tree (inl k) =
    ap terms_of k.1 ∙ h ∙ sym (append-nil before) ∙ ap (λ l. before ++ l) (sym (without_zeros-zero (filled_pair p instance t) [] (sym coef ∙ k.0)))
added-element p instance t filled made new before h coef tree (inr k) =
    let pair : (filled.coef, tree_of filled.tree) ≡ filled_pair p instance t = ap₂ (λ (a : ℕ) (u : Tree ℕ). (a, u)) coef tree in
    ap terms_of k.1 ∙ map-append (λ (x : Term). (x.coef, tree_of x.tree)) made (filled ∷ []) ∙ ap (λ l. l ++ (filled.coef, tree_of filled.tree) ∷ []) h
    ∙ ap (λ x. before ++ x ∷ []) pair ∙ ap (λ l. before ++ l) (sym (without_zeros-some (filled_pair p instance t) [] (λ z. k.0 (coef ∙ z))))

added-residues : (p : ℕ) (filled : Term) (made new : List Term) → AllByRecursion (IsResidue p) made → filled.coef < p
    → ((filled.coef ≡ 0) × (new ≡ made)) ⊎ ((filled.coef ≢ 0) × (new ≡ made ++ filled ∷ [])) → AllByRecursion (IsResidue p) new
added-residues p filled made new h below (inl k) = subst (AllByRecursion (IsResidue p)) (sym k.1) h
added-residues p filled made new h below (inr k) = subst (AllByRecursion (IsResidue p)) (sym k.1) (each-push (IsResidue p) made filled h (omega (arith, k.0), below))

-- one more term
pub so_far-step : (p : ℕ) (generators : List Generator) (instance : Instance) (terms made new : List Term) (arity : Option ℕ) (i own : ℕ) (t filled : Term) → i < length terms → t ≡ get_or terms i t → 0 < p
    → IsExpandedSoFar p generators instance (take i terms) made arity → ((m : ℕ) → arity ≡ Some m → m ≡ own)
    → filled.coef ≡ (instance.coef * t.coef) % p → tree_of filled.tree ≡ in_place instance (tree_of t.tree) → IsLabelled generators own (tree_of filled.tree)
    → ((filled.coef ≡ 0) × (new ≡ made)) ⊎ ((filled.coef ≢ 0) × (new ≡ made ++ filled ∷ [])) → IsExpandedSoFar p generators instance (take (i + 1) terms) new (Some own)
so_far-step p generators instance terms made new arity i own t filled l e positive h same coef tree label added = record {
  element =
      added-element p instance t filled made new (instance_element p (terms_of (take i terms)) instance) h.element coef tree added
      ∙ sym (element-push p instance (take i terms) t) ∙ ap (λ ts. instance_element p (terms_of ts) instance) (sym (taken terms i t l e));
  residues = added-residues p filled made new h.residues (subst (λ n. n < p) (sym coef) (mod_below (instance.coef * t.coef) p positive)) added;
  none = λ k. absurd cc;
  some = λ n k. (
    some-longer i terms l,
    let own_is : own ≡ n = cc in
        let here : IsLabelled generators own (in_place instance (tree_of t.tree)) = subst (IsLabelled generators own) tree label in
        subst (λ m. All (λ (x : Term). IsLabelled generators m (in_place instance (tree_of x.tree))) (take (i + 1) terms)) own_is
        (All-more (λ (x : Term). IsLabelled generators own (in_place instance (tree_of x.tree))) terms i t l (labels_so_far p generators instance (take i terms) made arity own h same)
        (subst (λ (x : Term). IsLabelled generators own (in_place instance (tree_of x.tree))) e here)),
  );
}

-- ---- the answers

pub same_if_some : (arity : Option ℕ) (others own : ℕ) → arity ≡ Some others → others ≡ own → (m : ℕ) → arity ≡ Some m → m ≡ own
same_if_some arity others own e f m g = cc

pub same_if_none : (arity : Option ℕ) (own : ℕ) → arity ≡ None → (m : ℕ) → arity ≡ Some m → m ≡ own
same_if_none arity own e m g = absurd cc

-- a result that is an error, and which one
pub err_is : {A E : Type 0} (r : Result A E) (e : E) → IsErr r → IsErrAnd r (λ x. x ≡ e) → r ≡ Err e
err_is (Ok a) e h k = absurd cc
err_is (Err x) e h k = ap Err k

-- a failure to fill a term
pub failed-step : (p : ℕ) (generators : List Generator) (instance : Instance) (terms : List Term) (i : ℕ) (t : Term) (fail : ExpandFail) (r : Result Expanded ExpandFail) → i < length terms → t ≡ get_or terms i t
    → IsFilled p generators instance t (Err fail) → r ≡ Err fail → IsExpandedTo p generators (terms_of terms) instance r
failed-step p generators instance terms i t Unfit r l e h is = subst (IsExpandedTo p generators (terms_of terms) instance) (sym is) (unfit-tree generators instance terms i t l e h)
failed-step p generators instance terms i t NoMemory r l e h is = subst (IsExpandedTo p generators (terms_of terms) instance) (sym is) tt

-- the whole element
pub whole-valid : (p : ℕ) (generators : List Generator) (instance : Instance) (terms made : List Term) (arity : Option ℕ) (i n : ℕ) → length terms ≤ i → HasPlace terms instance
    → IsExpandedSoFar p generators instance (take i terms) made arity → arity ≡ Some n → IsValidInstance generators (terms_of terms) n instance × (terms_of made ≡ instance_element p (terms_of terms) instance)
whole-valid p generators instance terms made arity i n l h so_far is =
    let all = take_all i terms l in (
      place-valid generators terms n instance h (subst (All (λ (t : Term). IsLabelled generators n (in_place instance (tree_of t.tree)))) all (so_far.some n is).1),
      so_far.element ∙ ap (λ ts. instance_element p (terms_of ts) instance) all,
    )

-- the trees of the element are labelled
pub element-labelled : (p : ℕ) (generators : List Generator) (instance : Instance) (e : List (ℕ × Tree ℕ)) (made : List Term) (n : ℕ) → AllTerms (moved (in_place instance) e) (IsLabelled generators n)
    → terms_of made ≡ instance_element p e instance → All (λ t. IsLabelled generators n (tree_of t.tree)) made
element-labelled p generators instance e made n l is = All-from_recursion (λ (t : Term). IsLabelled generators n (tree_of t.tree)) made
    (terms-each made (IsLabelled generators n) (subst (λ f. AllTerms f (IsLabelled generators n)) (sym is) (element-all p e instance (IsLabelled generators n) l)))

-- ---- sums by their number

pub sum_at-found : (sums : List (List Term)) (k : ℕ) (sum : List Term) → 0 < k → k - 1 < length sums → sum ≡ get_or sums (k - 1) sum → sum_at sums k ≡ terms_of sum
sum_at-found [] k sum positive l e = absurd (omega (arith, l))
sum_at-found (x ∷ xs) zero sum positive l e = absurd (omega (arith, positive))
sum_at-found (x ∷ xs) (suc zero) sum positive l e = ap terms_of (sym e)
sum_at-found (x ∷ xs) (suc (suc k)) sum positive l e =
    let same : suc k - 1 ≡ k = omega arith in
    sum_at-found xs (suc k) sum (omega arith) (omega (arith, l)) (e ∙ (let before : suc (suc k) - 1 ≡ suc k = omega arith in ap (λ j. get_or (x ∷ xs) j sum) before) ∙ ap (λ j. get_or xs j sum) (sym same))

pub sum_at-past : (sums : List (List Term)) (k : ℕ) → 0 < k → length sums ≤ k - 1 → sum_at sums k ≡ []
sum_at-past [] k positive l = refl
sum_at-past (x ∷ xs) zero positive l = refl
sum_at-past (x ∷ xs) (suc zero) positive l = absurd (omega (arith, l))
sum_at-past (x ∷ xs) (suc (suc k)) positive l = sum_at-past xs (suc k) (omega arith) (omega (arith, l))

-- no instance around nothing is valid
pub nothing-valid : (generators : List Generator) (e : List (ℕ × Tree ℕ)) (instance : Instance) → e ≡ [] → (n : ℕ) → IsValidInstance generators e n instance → ⊥
nothing-valid generators e instance is n v = v.has_terms is
