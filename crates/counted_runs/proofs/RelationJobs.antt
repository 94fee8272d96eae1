-- The jobs of the relations, and those of all pairs behind them, are the jobs of the arity.
use Rattle.std.proofs.Common.{◌≡◌, ℕ, zero, suc, ◌+◌, List, [], ◌∷◌, map, refl, sym, ap, ◌∙◌, subst, arith, ◌⊎◌, inl, inr, Bool, true, false}
use mathlib.Core.List.{◌++◌}
use native.Mathlib.Decide.{ℕ_discrete}
use Rattle.modular_sums.specs.Lists.{Mem, Distinct, Nth}
use Rattle.modular_sums.proofs.Lists.{mem_left, mem_right, mem_either, mem_map, mem_of_map, Distinct-append}
use Rattle.labelled_trees.specs.Trees.{Tree}
use Rattle.shuffle_places.specs.Multiples.{IsMultiple}
use Rattle.shuffle_bases.specs.Elements.{Element, InOrder}
use Rattle.shuffle_normal_forms.specs.FreeTrees.{is_empty}
use Rattle.operad_ideals.specs.Presentations.{Relation, Presentation}
use Rattle.shuffle_transfer.specs.Orderings.{orderings}
use Rattle.shuffle_transfer.proofs.Orderings.{all_orderings}
use Rattle.counted_runs.specs.Jobs.{Job, relabel, combine, IsJob, AreJobs}
use Rattle.counted_runs.specs.JobLists.{jobs_of_one, relation_jobs, IsPair}
use Rattle.counted_runs.proofs.JobLists.{jobs_once, pairs_covered}

-- A job of the relations, with its parts.
record OfRelation (n k : ℕ) (rels : List Relation) (j : Job) : Type 0 where
  place : ℕ
  relation : Relation
  order : List ℕ
  is : j ≡ relabel (k + place) relation order
  there : Nth (suc place) rels relation
  arity : relation.arity ≡ n
  terms : is_empty relation.terms ≡ false
  orders : Mem order (orderings n)

of_one : (n k : ℕ) (r : Relation) (d : Dec (r.arity ≡ n)) (b : Bool) → is_empty r.terms ≡ b → (rels : List Relation) (j : Job) → Mem j (jobs_of_one n k r d b) → OfRelation n k (r ∷ rels) j
of_one n k r (no f) b e rels j m = absurd m
of_one n k r (yes a) true e rels j m = absurd m
of_one n k r (yes a) false e rels j m =
    let h = mem_of_map (λ v. relabel k r v) j (orderings n) m in
    let z : k ≡ k + 0 = omega arith in
    record { place = 0; relation = r; order = h.0; is = h.2 ∙ ap (λ i. relabel i r h.0) z; there = refl; arity = a; terms = e; orders = h.1 }

of_relation : (n k : ℕ) (rels : List Relation) (j : Job) → Mem j (relation_jobs n k rels) → OfRelation n k rels j
of_relation n k [] j m = absurd m
of_relation n k (r ∷ rels) j m = go (mem_either j (jobs_of_one n k r (ℕ_discrete r.arity n) (is_empty r.terms)) (relation_jobs n (suc k) rels) m) (λ h. of_relation n (suc k) rels j h)
  where
    go : Mem j (jobs_of_one n k r (ℕ_discrete r.arity n) (is_empty r.terms)) ⊎ Mem j (relation_jobs n (suc k) rels) → (Mem j (relation_jobs n (suc k) rels) → OfRelation n (suc k) rels j) → OfRelation n k (r ∷ rels) j
    go (inl h) ih = of_one n k r (ℕ_discrete r.arity n) (is_empty r.terms) refl rels j h
    go (inr h) ih =
        let o = ih h in
        let e : suc k + o.place ≡ k + suc o.place = omega arith in
        record { place = suc o.place; relation = o.relation; order = o.order; is = o.is ∙ ap (λ i. relabel i o.relation o.order) e; there = o.there; arity = o.arity; terms = o.terms; orders = o.orders }

in_one : (n k : ℕ) (r : Relation) (d : Dec (r.arity ≡ n)) (b : Bool) → r.arity ≡ n → b ≡ false → (v : List ℕ) → Mem v (orderings n) → Mem (relabel k r v) (jobs_of_one n k r d b)
in_one n k r (no f) b a e v m = absurd (f a)
in_one n k r (yes _) true a e v m = absurd (cc e)
in_one n k r (yes _) false a e v m = mem_map (λ w. relabel k r w) v (orderings n) m

covered : (n k : ℕ) (rels : List Relation) (i : ℕ) (r : Relation) → Nth (suc i) rels r → r.arity ≡ n → is_empty r.terms ≡ false → (v : List ℕ) → Mem v (orderings n) → Mem (relabel (k + i) r v) (relation_jobs n k rels)
covered n k [] i r h a e v m = absurd h
covered n k (x ∷ rels) zero r h a e v m =
    let z : k ≡ k + 0 = omega arith in
    mem_left (relabel (k + 0) r v) (jobs_of_one n k x (ℕ_discrete x.arity n) (is_empty x.terms)) (relation_jobs n (suc k) rels)
    (subst (λ y. Mem (relabel (k + 0) y v) (jobs_of_one n k x (ℕ_discrete x.arity n) (is_empty x.terms))) (sym h)
    (subst (λ i. Mem (relabel i x v) (jobs_of_one n k x (ℕ_discrete x.arity n) (is_empty x.terms))) z
    (in_one n k x (ℕ_discrete x.arity n) (is_empty x.terms) (ap (λ (y : Relation). y.arity) (sym h) ∙ a) (ap (λ (y : Relation). is_empty y.terms) (sym h) ∙ e) v m)))
covered n k (x ∷ rels) (suc i) r h a e v m =
    let z : suc k + i ≡ k + suc i = omega arith in
    mem_right (relabel (k + suc i) r v) (jobs_of_one n k x (ℕ_discrete x.arity n) (is_empty x.terms)) (relation_jobs n (suc k) rels)
    (subst (λ i. Mem (relabel i r v) (relation_jobs n (suc k) rels)) z (covered n (suc k) rels i r h a e v m))

distinct_map : {X Y : Type 0} (f : X → Y) → ((x y : X) → f x ≡ f y → x ≡ y) → (l : List X) → Distinct l → Distinct (map f l)
distinct_map f g [] d = tt
distinct_map f g (x ∷ l) d = (λ m. let k = mem_of_map f (f x) l m in d.0 (subst (λ y. Mem y l) (sym (g x k.0 k.2)) k.1), distinct_map f g l d.1)

same_order : (k : ℕ) (r : Relation) (v w : List ℕ) → relabel k r v ≡ relabel k r w → v ≡ w
same_order k r v w e = cc e

one_distinct : (n k : ℕ) (r : Relation) (d : Dec (r.arity ≡ n)) (b : Bool) → Distinct (jobs_of_one n k r d b)
one_distinct n k r (no f) b = tt
one_distinct n k r (yes _) true = tt
one_distinct n k r (yes _) false = distinct_map (λ v. relabel k r v) (same_order k r) (orderings n) (all_orderings n).1

same_number : (k l : ℕ) (r s : Relation) (v w : List ℕ) → relabel k r v ≡ relabel l s w → k ≡ l
same_number k l r s v w e = cc e

relations_distinct : (n k : ℕ) (rels : List Relation) → Distinct (relation_jobs n k rels)
relations_distinct n k [] = tt
relations_distinct n k (r ∷ rels) = Distinct-append (jobs_of_one n k r (ℕ_discrete r.arity n) (is_empty r.terms)) (relation_jobs n (suc k) rels)
    (one_distinct n k r (ℕ_discrete r.arity n) (is_empty r.terms)) (relations_distinct n (suc k) rels) (λ j a b. apart j (of_one n k r (ℕ_discrete r.arity n) (is_empty r.terms) refl [] j a) (of_relation n (suc k) rels j b))
  where
    apart : (j : Job) → OfRelation n k (r ∷ []) j → OfRelation n (suc k) rels j → ⊥
    apart j a b = low a.place a.there (same_number (k + a.place) (suc k + b.place) a.relation b.relation a.order b.order (sym a.is ∙ b.is))
      where
        low : (i : ℕ) → Nth (suc i) (r ∷ []) a.relation → k + i ≡ suc k + b.place → ⊥
        low zero h e = omega (arith, e)
        low (suc i) h e = h

-- ---- all jobs of an arity

module _ (p : Presentation) (lower : List Element) (apart : (g h : Element) → Mem g lower → Mem h lower → g.lead ≡ h.lead → g ≡ h) (n : ℕ) (pairs : List Job)
    (are_pairs : (j : Job) → Mem j pairs → IsPair j × IsJob p lower n j) (distinct : Distinct pairs)
    (all : (g h : Element) → InOrder g h lower → (t : Tree ℕ) (first second : List ℕ) → IsMultiple n g.lead h.lead t first second → Mem (combine g h t first second) pairs) where
  abbrev jobs : List Job
  jobs = relation_jobs n 1 p.relations ++ pairs

  each : (j : Job) → Mem j (relation_jobs n 1 p.relations ++ pairs) → IsJob p lower n j
  each j m = go (mem_either j (relation_jobs n 1 p.relations) pairs m)
    where
      by : OfRelation n 1 p.relations j → IsJob p lower n j
      by o =
          let e : 1 + o.place ≡ suc o.place = omega arith in
          subst (IsJob p lower n) (sym o.is) (subst (λ i. IsJob p lower n (relabel i o.relation o.order)) (sym e) (o.there, o.arity, o.terms, o.orders))

      go : Mem j (relation_jobs n 1 p.relations) ⊎ Mem j pairs → IsJob p lower n j
      go (inl h) = by (of_relation n 1 p.relations j h)
      go (inr h) = (are_pairs j h).1

  mixed : (j : Job) → OfRelation n 1 p.relations j → IsPair j → ⊥
  mixed j o k = different (1 + o.place) o.relation o.order k.first k.second k.tree k.first_at k.second_at (sym o.is ∙ k.is)
    where
      different : (i : ℕ) (r : Relation) (v : List ℕ) (g h : Element) (t : Tree ℕ) (a b : List ℕ) → relabel i r v ≡ combine g h t a b → ⊥
      different i r v g h t a b e = cc e

  by_number : (k : ℕ) (r : Relation) → Nth k p.relations r → r.arity ≡ n → is_empty r.terms ≡ false → (v : List ℕ) → Mem v (orderings n) → Mem (relabel k r v) (relation_jobs n 1 p.relations ++ pairs)
  by_number zero r h a e v m = absurd (none p.relations h)
    where
      none : (l : List Relation) → Nth zero l r → ⊥
      none [] h = h
      none (x ∷ l) h = h
  by_number (suc i) r h a e v m =
      let z : 1 + i ≡ suc i = omega arith in
      mem_left (relabel (suc i) r v) (relation_jobs n 1 p.relations) pairs (subst (λ k. Mem (relabel k r v) (relation_jobs n 1 p.relations)) z (covered n 1 p.relations i r h a e v m))

  pub are_jobs : AreJobs p lower n (relation_jobs n 1 p.relations ++ pairs)
  are_jobs = record {
    each = each;
    once = jobs_once p lower apart n (relation_jobs n 1 p.relations ++ pairs) each
        (Distinct-append (relation_jobs n 1 p.relations) pairs (relations_distinct n 1 p.relations) distinct (λ j a b. mixed j (of_relation n 1 p.relations j a) (are_pairs j b).0));
    relations = by_number;
    multiples = pairs_covered p lower apart n (relation_jobs n 1 p.relations ++ pairs) (λ g h o t first second m. mem_right (combine g h t first second) (relation_jobs n 1 p.relations) pairs (all g h o t first second m));
  }
