-- Arities of lists of terms.
use Rattle.std.proofs.Common.{◌≡◌, ◌≢◌, ℕ, suc, ◌+◌, ◌*◌, ◌-◌, ◌%◌, ◌<◌, List, [], ◌∷◌, ◌++◌, length, map, get_or, Some, None, Option, refl, sym, ap, ◌∙◌, subst, arith, ⊎_elim, inl, inr, ◌⊎◌, length-append}
use Rattle.std.specs.List.{All}
use Rattle.std.proofs.Math.Nat.{mod-eq_of_lt}
use Rattle.std.proofs.lemmas.Nat.{mod_below}
use Rattle.std.proofs.lemmas.List.{length-map, get_or_append_left, get_or-append-add}
use Rattle.std.proofs.lemmas.List.Elements.{All-append, All-push, All-map}
use Rattle.labelled_trees.specs.Labelled.{IsNumbered}
use Rattle.labelled_trees.proofs.Numbered.{one_number}
use Rattle.labelled_trees.specs.Meaning.{tree_of}
use Rattle.labelled_trees.specs.declared.Tree.TheVariants.{Leaf}
use Rattle.operad_ideals.proofs.SortedLists.{tested}
use Rattle.prime_field.specs.Primes.{IsFieldPrime}
use Rattle.prime_field.specs.Laws.{FieldLaw}
use Rattle.prime_field.proofs.Laws.{fields}
use Rattle.symmetric_sums.specs.Terms.{HaveArity, ArityIs, IsSum, HaveOneArity, HaveResidues, negated}
use Rattle.labelled_trees.specs.declared.Tree as program
use Rattle.symmetric_sums.specs.Calls.{Joins}
use Rattle.symmetric_sums.specs.declared.term.Term.{Term}

pub all-left : {X : Type 0} (P : X → Type 0) (xs ys : List X) → All P (xs ++ ys) → All P xs
all-left P xs ys h k d l = subst P (get_or_append_left xs ys d k l) (h k d (omega (arith, length-append xs ys, l)))

pub all-right : {X : Type 0} (P : X → Type 0) (xs ys : List X) → All P (xs ++ ys) → All P ys
all-right P xs ys h k d l = subst P (get_or-append-add xs ys k d) (h (length xs + k) d (omega (arith, length-append xs ys, l)))

some_term : Term
some_term = record { coef = 0; tree = Leaf 0 }

-- a list with terms has one arity
pub one_arity : (terms : List Term) (m n : ℕ) → ArityIs terms (Some m) → HaveArity n terms → m ≡ n
one_arity terms m n a h = let k = a.numbered m refl in
    one_number m n (tree_of (get_or terms 0 some_term).tree) (k.1 0 some_term k.0) (h 0 some_term k.0)

-- lists with terms and with different arities have none in common
pub two_arities : (one other : List Term) (m n : ℕ) → ArityIs one (Some m) → ArityIs other (Some n) → n ≢ m → HaveOneArity one other → ⊥
two_arities one other m n a b ne h = ne (one_arity other n h.0 b h.2 ∙ sym (one_arity one m h.0 a h.1))

some-is : (m n : ℕ) → Some m ≡ Some n → m ≡ n
some-is m n e = cc

-- the arity of a list with terms
pub arity_is : (terms : List Term) (n : ℕ) → 0 < length terms → HaveArity n terms → ArityIs terms (Some n)
arity_is terms n some h = record {
  empty = λ e. absurd cc;
  numbered = λ m e. (some, subst (λ k. HaveArity k terms) (some-is n m e) h);
}

pub no_terms : (terms : List Term) (n : ℕ) → length terms ≡ 0 → HaveArity n terms
no_terms terms n e k d l = absurd (omega (arith, e, l))

-- where a list has no arity, it has any
pub any_arity : (terms : List Term) (o : Option ℕ) (n : ℕ) → ArityIs terms o → o ≡ None → HaveArity n terms
any_arity terms o n a e = no_terms terms n (a.empty e)

pub same_arity : (terms : List Term) (m n : ℕ) → ArityIs terms (Some m) → m ≡ n → HaveArity n terms
same_arity terms m n a e = subst (λ k. HaveArity k terms) e (a.numbered m refl).1

-- the arity of two lists, of which the first has terms
pub joint-some : (one other : List Term) (n : ℕ) → ArityIs one (Some n) → HaveArity n other → ArityIs (one ++ other) (Some n)
joint-some one other n a h = let k = a.numbered n refl in
    arity_is (one ++ other) n (omega (arith, length-append one other, k.0)) (All-append (λ (term : Term). IsNumbered n (tree_of term.tree)) one other k.1 h)

-- a list with one more term of its arity
pub sum-push : (terms new : List Term) (o : Option ℕ) (term : Term) (n : ℕ) → IsSum terms o → 0 < term.coef → IsNumbered n (tree_of term.tree) → HaveArity n terms → new ≡ terms ++ term ∷ [] → IsSum new (Some n)
sum-push terms new o term n s positive h a e = subst (λ xs. IsSum xs (Some n)) (sym e) (record {
  nonzero = All-push (λ (x : Term). 0 < x.coef) terms term s.nonzero positive;
  arity_is = arity_is (terms ++ term ∷ []) n (omega (arith, length-append terms (term ∷ []))) (All-push (λ (x : Term). IsNumbered n (tree_of x.tree)) terms term a h);
})

-- what is a sum with other numbers
pub arity-changed : (terms : List Term) (o : Option ℕ) (f : Term → Term) → ((x : Term) → (f x).tree ≡ x.tree) → ArityIs terms o → ArityIs (map f terms) o
arity-changed terms o f same a = record {
  empty = λ e. length-map terms f ∙ a.empty e;
  numbered = λ n e. let k = a.numbered n e in (
    omega (arith, length-map terms f, k.0),
    All-map (λ (x : Term). IsNumbered n (tree_of x.tree)) f terms (λ i d l. subst (λ t. IsNumbered n (tree_of t)) (sym (same (get_or terms i d))) (k.1 i d l)),
  );
}

pub joint-changed : (one other : List Term) (o : Option ℕ) (f : Term → Term) → ((x : Term) → (f x).tree ≡ x.tree) → ArityIs (one ++ other) o → ArityIs (one ++ map f other) o
joint-changed one other o f same a = record {
  empty = λ e. length-append one (map f other) ∙ ap (λ k. length one + k) (length-map other f) ∙ sym (length-append one other) ∙ a.empty e;
  numbered = λ n e. let k = a.numbered n e in (
    omega (arith, length-append one (map f other), length-append one other, length-map other f, k.0),
    All-append (λ (x : Term). IsNumbered n (tree_of x.tree)) one (map f other) (all-left (λ (x : Term). IsNumbered n (tree_of x.tree)) one other k.1)
        (All-map (λ (x : Term). IsNumbered n (tree_of x.tree)) f other (λ i d l. subst (λ t. IsNumbered n (tree_of t)) (sym (same (get_or other i d))) (all-right (λ (x : Term). IsNumbered n (tree_of x.tree)) one other k.1 i d l))),
  );
}

-- the arity that two lists have
pub one_arity-joint : (one other : List Term) (o : Option ℕ) → ArityIs (one ++ other) o → HaveOneArity one other
one_arity-joint one other None a = let e = a.empty refl in (0, no_terms one 0 (omega (arith, length-append one other, e)), no_terms other 0 (omega (arith, length-append one other, e)))
one_arity-joint one other (Some n) a =
    let k = a.numbered n refl in
    (n, all-left (λ (x : Term). IsNumbered n (tree_of x.tree)) one other k.1, all-right (λ (x : Term). IsNumbered n (tree_of x.tree)) one other k.1)

-- residues that are negated are positive
pub negated-positive : (p : ℕ) (terms : List Term) → HaveResidues p terms → All (λ (x : Term). 0 < x.coef) (negated p terms)
negated-positive p terms h = All-map (λ (x : Term). 0 < x.coef) (λ (x : Term). record { coef = p - x.coef; tree = x.tree }) terms (λ k d l. omega (arith, h k d l))

pub negated-residues : (p : ℕ) (terms : List Term) → All (λ (x : Term). 0 < x.coef) terms → HaveResidues p terms → HaveResidues p (negated p terms)
negated-residues p terms positive h = All-map (λ (x : Term). x.coef < p) (λ (x : Term). record { coef = p - x.coef; tree = x.tree }) terms (λ k d l. omega (arith, h k d l, positive k d l))

-- a difference has residues where both sums have
pub residues-joint : (p : ℕ) (one other terms : List Term) → All (λ (x : Term). 0 < x.coef) other → HaveResidues p one → HaveResidues p other → terms ≡ one ++ negated p other → HaveResidues p terms
residues-joint p one other terms positive h k e = subst (HaveResidues p) (sym e) (All-append (λ (x : Term). x.coef < p) one (negated p other) h (negated-residues p other positive k))

-- multiples have residues
pub residues-scaled : (p c : ℕ) (terms new : List Term) → 0 < p → new ≡ map (λ (x : Term). record { coef = (c * x.coef) % p; tree = x.tree }) terms → HaveResidues p new
residues-scaled p c terms new positive e = subst (HaveResidues p) (sym e)
    (All-map (λ (x : Term). x.coef < p) (λ (x : Term). record { coef = (c * x.coef) % p; tree = x.tree }) terms (λ k d l. mod_below (c * (get_or terms k d).coef) p positive))

-- a list and another with other numbers make a sum
pub sum-joint : (p : ℕ) (one other terms : List Term) (o : Option ℕ) → All (λ (x : Term). 0 < x.coef) one → HaveResidues p other → ArityIs (one ++ other) o → terms ≡ one ++ negated p other → IsSum terms o
sum-joint p one other terms o positive h a e = subst (λ xs. IsSum xs o) (sym e) (record {
  nonzero = All-append (λ (x : Term). 0 < x.coef) one (negated p other) positive (negated-positive p other h);
  arity_is = joint-changed one other o (λ (x : Term). record { coef = p - x.coef; tree = x.tree }) (λ x. refl) a;
})

-- a product of residues other than 0 isn't 0
pub product-positive : (p a b : ℕ) → IsFieldPrime p → 0 < a → a < p → 0 < b → b < p → 0 < (a * b) % p
product-positive p a b listed pa la pb lb = ⊎_elim (λ l. l) (λ l. absurd (none (omega (arith, l)))) (tested 0 ((a * b) % p))
  where
    law : FieldLaw p
    law = fields p listed

    whole : suc (p - 1) ≡ p
    whole = omega (arith, la)

    rest : 0 % suc (p - 1) ≡ 0
    rest = let l : 0 < suc (p - 1) = omega arith in mod-eq_of_lt l

    none : (a * b) % p ≡ 0 → ⊥
    none e = ⊎_elim
        (λ h. let z : a ≡ 0 = law.residues a 0 la (omega (arith, la)) h in omega (arith, z, pa))
        (λ h. let z : b ≡ 0 = law.residues b 0 lb (omega (arith, la)) h in omega (arith, z, pb))
        (law.product a b (ap (λ m. (a * b) % m) whole ∙ e ∙ sym rest))

-- the multiples of a sum by a residue other than 0 are a sum
pub sum-scaled : (p c : ℕ) (terms new : List Term) (o : Option ℕ) → IsFieldPrime p → 0 < c → c < p → All (λ (x : Term). 0 < x.coef) terms → HaveResidues p terms → ArityIs terms o
    → new ≡ map (λ (x : Term). record { coef = (c * x.coef) % p; tree = x.tree }) terms → IsSum new o
sum-scaled p c terms new o listed pc lc positive h a e = subst (λ xs. IsSum xs o) (sym e) (record {
  nonzero = All-map (λ (x : Term). 0 < x.coef) (λ (x : Term). record { coef = (c * x.coef) % p; tree = x.tree }) terms
      (λ k d l. product-positive p c (get_or terms k d).coef listed pc lc (positive k d l) (h k d l));
  arity_is = arity-changed terms o (λ (x : Term). record { coef = (c * x.coef) % p; tree = x.tree }) (λ x. refl) a;
})

-- a tree of another arity doesn't join a list with terms
pub joins-refused : (terms : List Term) (tree : program.Tree) (coef own theirs : ℕ) → IsNumbered own (tree_of tree) → ArityIs terms (Some theirs) → theirs ≢ own
    → 0 < coef → Joins coef tree terms → ⊥
joins-refused terms tree coef own theirs h a ne positive joins =
    let j = joins positive in
    let mine : own ≡ j.0 = one_number own j.0 (tree_of tree) h j.1 in
    ne (one_arity terms theirs j.0 a j.2 ∙ sym mine)

some_of : (terms : List Term) → (terms ≡ [] → ⊥) → 0 < length terms
some_of [] h = absurd (h refl)
some_of (x ∷ xs) h = omega arith

-- two sums of one arity, one after the other
pub sum-followed : (one other new : List Term) (a b o : Option ℕ) → IsSum one a → IsSum other b → HaveOneArity one other → ((one ≡ []) × (o ≡ b)) ⊎ ((one ≡ [] → ⊥) × (o ≡ a)) → new ≡ one ++ other → IsSum new o
sum-followed one other new a b o s t h (inl k) e =
    subst (λ xs. IsSum xs o) (sym (e ∙ ap (λ xs. xs ++ other) k.0)) (subst (IsSum other) (sym k.1) t)
sum-followed one other new a b o s t h (inr k) e = subst (λ xs. IsSum xs o) (sym e) (record {
  nonzero = All-append (λ (x : Term). 0 < x.coef) one other s.nonzero t.nonzero;
  arity_is = subst (ArityIs (one ++ other)) (sym k.1) (go a s.arity_is);
})
  where
    go : (c : Option ℕ) → ArityIs one c → ArityIs (one ++ other) c
    go None i = let z = i.empty refl in let p = some_of one k.0 in absurd (omega (arith, z, p))
    go (Some m) i = let same : h.0 ≡ m = sym (one_arity one m h.0 i h.1) in joint-some one other m i (subst (λ n. HaveArity n other) same h.2)
