-- Terms that are put together one by one.
use Rattle.std.proofs.Common.{◌≡◌, ◌≢◌, ℕ, suc, ◌+◌, ◌-◌, ◌%◌, List, [], ◌∷◌, ◌++◌, map, refl, ap, sym, ◌∙◌, subst, arith, ⊎_elim, true, false, inl, inr}
use Rattle.std.specs.List.{AllByRecursion}
use Rattle.std.specs.declared.cmp.Ordering.{Ordering}
use Rattle.std.specs.declared.cmp.Ordering.TheVariants.{Less, Equal, Greater}
use Rattle.std.specs.Ordering.{is_lt, is_ne, ordering_reverse}
use Rattle.modular_sums.specs.Lists.{Mem, choose}
use Rattle.modular_sums.specs.Residues.{IsCongruent}
use Rattle.modular_sums.proofs.Residues.{congruent_add}
use Rattle.labelled_trees.specs.Trees.{Tree}
use Rattle.labelled_trees.specs.Equality.{tree_discrete}
use Rattle.labelled_trees.specs.Meaning.{tree_of}
use Rattle.operad_ideals.specs.SpellingOrder.{order}
use Rattle.operad_ideals.proofs.TreeOrder.{order_is_total}
use Rattle.symmetric_sums.specs.Collecting.{NotBefore, Before, IsResidue, JoinedTo, apart, added, cancelled, AreJoined}
use Rattle.operad_ideals.specs.Pairs.{Pairs}
use Rattle.symmetric_sums.specs.declared.term.Term.{Term}
use Rattle.operad_ideals.proofs.SortedLists.{every_weaker}
use Rattle.operad_ideals.proofs.LastOnes.{each-push, each-pop, pairs-push, pairs-pop, last_one, one_last}
use Rattle.symmetric_sums.proofs.Weights.{weight, share, weight-nil, weight-push, two_hits}

-- ---- the order

by_order : (o r : Ordering) → r ≡ ordering_reverse o → is_lt o ≡ false → (o ≡ Equal → ⊥) → r ≡ Less
by_order Less r e l ne = absurd cc
by_order Equal r e l ne = absurd (ne refl)
by_order Greater r e l ne = e

-- what isn't before another tree comes after it
pub other_before : (t u : Tree ℕ) → is_lt (order t u) ≡ false → u ≢ t → order u t ≡ Less
other_before t u l ne = by_order (order t u) (order u t) (order_is_total.turned t u) l (λ e. ne (sym ((order_is_total.equal t u).0 e)))

-- ---- one more term

module _ (p : ℕ) (old new : List Term) (term : Term) where
  pub joined-weight : JoinedTo p old term new → (t : Tree ℕ) → IsCongruent (p - 1) (weight new t) (weight old t + share term t)
  joined-weight (apart ne e) t = ap (λ n. n % suc (p - 1)) (ap (λ xs. weight xs t) e ∙ weight-push old term t)
  joined-weight (added front last c e same small alike is) t =
      let d : IsCongruent (p - 1) (choose (tree_discrete (tree_of term.tree) t) c 0) (choose (tree_discrete (tree_of term.tree) t) last.coef 0 + share term t) = two_hits (p - 1) (tree_discrete (tree_of term.tree) t) c last.coef term.coef alike in
      let mine : share last t ≡ choose (tree_discrete (tree_of term.tree) t) last.coef 0 = ap (λ u. choose (tree_discrete u t) last.coef 0) same in
      let before : weight old t ≡ weight front t + share last t = ap (λ xs. weight xs t) e ∙ weight-push front last t in
      let after : weight new t ≡ weight front t + choose (tree_discrete (tree_of term.tree) t) c 0 = ap (λ xs. weight xs t) is ∙ weight-push front (record { coef = c; tree = term.tree }) t in
      let sum : weight front t + (choose (tree_discrete (tree_of term.tree) t) last.coef 0 + share term t) ≡ weight old t + share term t = omega (arith, before, mine) in
      ap (λ n. n % suc (p - 1)) after
      ∙ congruent_add (p - 1) (weight front t) (weight front t) (choose (tree_discrete (tree_of term.tree) t) c 0) (choose (tree_discrete (tree_of term.tree) t) last.coef 0 + share term t) refl d
      ∙ ap (λ n. n % suc (p - 1)) sum
  joined-weight (cancelled front last e same alike is) t =
      let d : IsCongruent (p - 1) (choose {B = ℕ} (tree_discrete (tree_of term.tree) t) 0 0) (choose (tree_discrete (tree_of term.tree) t) last.coef 0 + share term t) = two_hits (p - 1) (tree_discrete (tree_of term.tree) t) 0 last.coef term.coef alike in
      let nothing : choose {B = ℕ} (tree_discrete (tree_of term.tree) t) 0 0 ≡ 0 = choose_nothing (tree_discrete (tree_of term.tree) t) in
      let mine : share last t ≡ choose (tree_discrete (tree_of term.tree) t) last.coef 0 = ap (λ u. choose (tree_discrete u t) last.coef 0) same in
      let before : weight old t ≡ weight front t + share last t = ap (λ xs. weight xs t) e ∙ weight-push front last t in
      let after : weight new t ≡ weight front t + choose {B = ℕ} (tree_discrete (tree_of term.tree) t) 0 0 = ap (λ xs. weight xs t) is ∙ omega (arith, nothing) in
      let sum : weight front t + (choose (tree_discrete (tree_of term.tree) t) last.coef 0 + share term t) ≡ weight old t + share term t = omega (arith, before, mine) in
      ap (λ n. n % suc (p - 1)) after
      ∙ congruent_add (p - 1) (weight front t) (weight front t) (choose {B = ℕ} (tree_discrete (tree_of term.tree) t) 0 0) (choose (tree_discrete (tree_of term.tree) t) last.coef 0 + share term t) refl d
      ∙ ap (λ n. n % suc (p - 1)) sum
    where
      choose_nothing : {A : Type 0} (d : Dec A) → choose {B = ℕ} d 0 0 ≡ 0
      choose_nothing (yes _) = refl
      choose_nothing (no _) = refl

  pub joined-trees : (P : Tree ℕ → Type 0) → JoinedTo p old term new → AllByRecursion (λ x. P (tree_of x.tree)) old → P (tree_of term.tree) → AllByRecursion (λ x. P (tree_of x.tree)) new
  joined-trees P (apart ne e) h k = subst (AllByRecursion (λ (x : Term). P (tree_of x.tree))) (sym e) (each-push (λ (x : Term). P (tree_of x.tree)) old term h k)
  joined-trees P (added front last c e same small alike is) h k =
      subst (AllByRecursion (λ (x : Term). P (tree_of x.tree))) (sym is) (each-push (λ (x : Term). P (tree_of x.tree)) front (record { coef = c; tree = term.tree })
      (each-pop (λ (x : Term). P (tree_of x.tree)) front last (subst (AllByRecursion (λ (x : Term). P (tree_of x.tree))) e h)).0 k)
  joined-trees P (cancelled front last e same alike is) h k =
      subst (AllByRecursion (λ (x : Term). P (tree_of x.tree))) (sym is) (each-pop (λ (x : Term). P (tree_of x.tree)) front last (subst (AllByRecursion (λ (x : Term). P (tree_of x.tree))) e h)).0

  pub joined-residues : JoinedTo p old term new → AllByRecursion (IsResidue p) old → IsResidue p term → AllByRecursion (IsResidue p) new
  joined-residues (apart ne e) h k = subst (AllByRecursion (IsResidue p)) (sym e) (each-push (IsResidue p) old term h k)
  joined-residues (added front last c e same small alike is) h k =
      subst (AllByRecursion (IsResidue p)) (sym is) (each-push (IsResidue p) front (record { coef = c; tree = term.tree }) (each-pop (IsResidue p) front last (subst (AllByRecursion (IsResidue p)) e h)).0 small)
  joined-residues (cancelled front last e same alike is) h k = subst (AllByRecursion (IsResidue p)) (sym is) (each-pop (IsResidue p) front last (subst (AllByRecursion (IsResidue p)) e h)).0

  -- the last tree is before the new one, and so are all
  all_before : Pairs Before old → AllByRecursion (NotBefore term) old → ((front : List Term) (last : Term) → old ≡ front ++ last ∷ [] → tree_of last.tree ≢ tree_of term.tree) → AllByRecursion (λ x. Before x term) old
  all_before h k ne = ⊎_elim
      (λ e. subst (AllByRecursion (λ x. Before x term)) (sym e) tt)
      (λ s. subst (AllByRecursion (λ x. Before x term)) (sym s.2)
      (let one : Before s.1 term = other_before (tree_of term.tree) (tree_of s.1.tree) (each-pop (NotBefore term) s.0 s.1 (subst (AllByRecursion (NotBefore term)) s.2 k)).1 (ne s.0 s.1 s.2) in
      each-push (λ x. Before x term) s.0 s.1 (every_weaker (λ x. Before x s.1) (λ x. Before x term) s.0 (λ x b. order_is_total.transitive (tree_of x.tree) (tree_of s.1.tree) (tree_of term.tree) b one)
      (pairs-pop Before s.0 s.1 (subst (Pairs Before) s.2 h)).1) one))
      (last_one old)

  pub joined-ascending : JoinedTo p old term new → Pairs Before old → AllByRecursion (NotBefore term) old → Pairs Before new
  joined-ascending (apart ne e) h k = subst (Pairs Before) (sym e) (pairs-push Before old term h (all_before h k ne))
  joined-ascending (added front last c e same small alike is) h k =
      let parts = pairs-pop Before front last (subst (Pairs Before) e h) in
      subst (Pairs Before) (sym is) (pairs-push Before front (record { coef = c; tree = term.tree }) parts.0
      (every_weaker (λ x. Before x last) (λ x. Before x (record { coef = c; tree = term.tree })) front (λ x b. subst (λ u. order (tree_of x.tree) u ≡ Less) same b) parts.1))
  joined-ascending (cancelled front last e same alike is) h k = subst (Pairs Before) (sym is) (pairs-pop Before front last (subst (Pairs Before) e h)).0

-- ---- all terms

abbrev trees : List Term → List (Tree ℕ)
trees = map (λ x. tree_of x.tree)

-- what is put together so far, and what is left
pub record IsOnTheWay (p : ℕ) (whole rest terms : List Term) : Type 0 where
  pub same : (t : Tree ℕ) → IsCongruent (p - 1) (weight terms t + weight rest t) (weight whole t)
  pub ascending : Pairs Before terms
  pub residues : AllByRecursion (IsResidue p) terms
  pub found : AllByRecursion (λ x. Mem (tree_of x.tree) (trees whole)) terms
  pub rest_order : Pairs NotBefore rest
  pub rest_residues : AllByRecursion (IsResidue p) rest
  pub rest_found : AllByRecursion (λ x. Mem (tree_of x.tree) (trees whole)) rest
  pub behind : AllByRecursion (λ r. AllByRecursion (NotBefore r) terms) rest

all_found : (xs : List Term) → AllByRecursion (λ x. Mem (tree_of x.tree) (trees xs)) xs
all_found [] = tt
all_found (x ∷ xs) = (inl refl, every_weaker (λ y. Mem (tree_of y.tree) (trees xs)) (λ y. Mem (tree_of y.tree) (trees (x ∷ xs))) xs (λ y m. inr m) (all_found xs))

each_tt : {X : Type 0} (xs : List X) → AllByRecursion (λ x. Unit {0}) xs
each_tt [] = tt
each_tt (x ∷ xs) = (tt, each_tt xs)

pub way-start : (p : ℕ) (whole : List Term) → Pairs NotBefore whole → AllByRecursion (IsResidue p) whole → IsOnTheWay p whole whole []
way-start p whole h k = record {
  same = λ t. ap (λ n. n % suc (p - 1)) (omega (arith, weight-nil t));
  ascending = tt;
  residues = tt;
  found = tt;
  rest_order = h;
  rest_residues = k;
  rest_found = all_found whole;
  behind = each_tt whole;
}

pub way-step : (p : ℕ) (whole rest left terms new : List Term) (term : Term) → IsOnTheWay p whole rest terms → rest ≡ left ++ term ∷ [] → JoinedTo p terms term new → IsOnTheWay p whole left new
way-step p whole rest left terms new term way e joined =
    let order_is = pairs-pop NotBefore left term (subst (Pairs NotBefore) e way.rest_order) in
    let residues_are = each-pop (IsResidue p) left term (subst (AllByRecursion (IsResidue p)) e way.rest_residues) in
    let found_are = each-pop (λ (x : Term). Mem (tree_of x.tree) (trees whole)) left term (subst (AllByRecursion (λ (x : Term). Mem (tree_of x.tree) (trees whole))) e way.rest_found) in
    let behind_are = each-pop (λ (r : Term). AllByRecursion (NotBefore r) terms) left term (subst (AllByRecursion (λ (r : Term). AllByRecursion (NotBefore r) terms)) e way.behind) in
    record {
      same = λ t.
          let now : IsCongruent (p - 1) (weight new t) (weight terms t + share term t) = joined-weight p terms new term joined t in
          let before : weight rest t ≡ weight left t + share term t = ap (λ xs. weight xs t) e ∙ weight-push left term t in
          let sum : weight terms t + share term t + weight left t ≡ weight terms t + weight rest t = omega (arith, before) in
          congruent_add (p - 1) (weight new t) (weight terms t + share term t) (weight left t) (weight left t) now refl ∙ ap (λ n. n % suc (p - 1)) sum ∙ way.same t;
      ascending = joined-ascending p terms new term joined way.ascending behind_are.1;
      residues = joined-residues p terms new term joined way.residues residues_are.1;
      found = joined-trees p terms new term (λ u. Mem u (trees whole)) joined way.found found_are.1;
      rest_order = order_is.0;
      rest_residues = residues_are.0;
      rest_found = found_are.0;
      behind = both left order_is.1 behind_are.0;
    }
  where
    both : (rs : List Term) → AllByRecursion (λ r. NotBefore r term) rs → AllByRecursion (λ r. AllByRecursion (NotBefore r) terms) rs → AllByRecursion (λ r. AllByRecursion (NotBefore r) new) rs
    both [] h k = tt
    both (r ∷ rs) h k = (joined-trees p terms new term (λ u. is_lt (order (tree_of r.tree) u) ≡ false) joined k.0 h.0, both rs h.1 k.1)

pub way-end : (p : ℕ) (whole terms : List Term) → IsOnTheWay p whole [] terms → AreJoined p whole terms
way-end p whole terms way = record {
  same = λ t. ap (λ n. n % suc (p - 1)) (omega (arith, weight-nil t)) ∙ way.same t;
  ascending = way.ascending;
  residues = way.residues;
  trees = way.found;
}

-- ---- what a comparison says

pub trees_differ : (o : Ordering) (t u : Tree ℕ) → true ≡ is_ne o → o ≡ order t u → t ≢ u
trees_differ o t u e is same =
    let equal : o ≡ Equal = is ∙ (order_is_total.equal t u).1 same in
    let wrong : true ≡ is_ne Equal = e ∙ ap is_ne equal in absurd cc

pub trees_agree : (o : Ordering) (t u : Tree ℕ) → false ≡ is_ne o → o ≡ order t u → t ≡ u
trees_agree Less t u e is = absurd cc
trees_agree Equal t u e is = (order_is_total.equal t u).0 (sym is)
trees_agree Greater t u e is = absurd cc

pub apart-last : (p : ℕ) (old front new : List Term) (last term : Term) → old ≡ front ++ last ∷ [] → tree_of last.tree ≢ tree_of term.tree → new ≡ (front ++ last ∷ []) ++ term ∷ [] → JoinedTo p old term new
apart-last p old front new last term e ne is =
    apart (λ others other f same. ne (ap (λ (x : Term). tree_of x.tree) (one_last front others last other (sym e ∙ f)) ∙ same)) (is ∙ ap (λ xs. xs ++ term ∷ []) (sym e))
