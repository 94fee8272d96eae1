-- Lists of jobs: when no two are one item, and when all pairs stand in them.
use Rattle.std.proofs.Common.{◌≡◌, ℕ, List, [], ◌∷◌, map, refl, sym, ◌∙◌, subst, ◌⊎◌, inl, inr}
use Rattle.modular_sums.specs.Lists.{Mem, Distinct, Nth}
use Rattle.modular_sums.proofs.Lists.{mem_of_map}
use Rattle.labelled_trees.specs.Trees.{Tree}
use Rattle.labelled_trees.specs.Equality.{tree_discrete}
use Rattle.shuffle_places.specs.Places.{IsPlace}
use Rattle.shuffle_places.specs.Multiples.{IsMultiple}
use Rattle.shuffle_bases.specs.Elements.{Element, InOrder}
use Rattle.operad_ideals.specs.Presentations.{Presentation}
use Rattle.counted_runs.specs.Jobs.{Job, relabel, combine, item_of, IsJob}
use Rattle.counted_runs.proofs.Numbered.{one_nth}

-- a small common multiple of two different trees, turned round
pub multiples_turn : (n : ℕ) (a b t : Tree ℕ) (first second : List ℕ) → (a ≡ b → ⊥) → IsMultiple n a b t first second → IsMultiple n b a t second first
multiples_turn n a b t first second apart m = record {
  overlap = record {
    valid = m.overlap.valid;
    first_at = m.overlap.second_at;
    second_at = m.overlap.first_at;
    shared = (m.overlap.shared.0, m.overlap.shared.2, m.overlap.shared.1);
    covers = λ v a b. turned v (m.overlap.covers v a b);
  };
  ordered = λ e. absurd (apart (sym e));
}
  where
    turned : (v : ℕ) → Mem v first ⊎ Mem v second → Mem v second ⊎ Mem v first
    turned v (inl h) = inr h
    turned v (inr h) = inl h

-- the divisor at a place is one
pub one_divisor : (t : Tree ℕ) (set : List ℕ) (a b : Tree ℕ) → IsPlace t set a → IsPlace t set b → a ≡ b
one_divisor t set a b h g = sym h.divisor_is ∙ g.divisor_is

module _ (p : Presentation) (lower : List Element) (apart : (g h : Element) → Mem g lower → Mem h lower → g.lead ≡ h.lead → g ≡ h) (n : ℕ) where
  -- two jobs that are one item are one
  pub one_job : (j k : Job) → IsJob p lower n j → IsJob p lower n k → item_of j ≡ item_of k → j ≡ k
  one_job (relabel k r v) (relabel l s w) h g e =
      let number : k ≡ l = cc e in
      let order : v ≡ w = cc e in
      let same : r ≡ s = one_nth l p.relations r s (subst (λ i. Nth i p.relations r) number h.0) g.0 in
      cc (number, order, same)
  one_job (relabel k r v) (combine a b u first second) h g e = absurd (cc e)
  one_job (combine a b u first second) (relabel k r v) h g e = absurd (cc e)
  one_job (combine a b t first second) (combine c d u third fourth) h g e =
      let tree : t ≡ u = cc e in
      let one : first ≡ third = cc e in
      let two : second ≡ fourth = cc e in
      let place_a : IsPlace u third a.lead = subst (λ x. IsPlace x third a.lead) tree (subst (λ x. IsPlace t x a.lead) one h.4.overlap.first_at) in
      let place_b : IsPlace u fourth b.lead = subst (λ x. IsPlace x fourth b.lead) tree (subst (λ x. IsPlace t x b.lead) two h.4.overlap.second_at) in
      let same_a : a ≡ c = apart a c h.0 g.0 (one_divisor u third a.lead c.lead place_a g.4.overlap.first_at) in
      let same_b : b ≡ d = apart b d h.1 g.1 (one_divisor u fourth b.lead d.lead place_b g.4.overlap.second_at) in
      cc (tree, one, two, same_a, same_b)

  -- so different jobs are different items
  pub jobs_once : (jobs : List Job) → ((j : Job) → Mem j jobs → IsJob p lower n j) → Distinct jobs → Distinct (map item_of jobs)
  jobs_once [] each d = tt
  jobs_once (j ∷ jobs) each d = (
    λ m. let k = mem_of_map item_of (item_of j) jobs m in d.0 (subst (λ x. Mem x jobs) (sym (one_job j k.0 (each j (inl refl)) (each k.0 (inr k.1)) k.2)) k.1),
    jobs_once jobs (λ k m. each k (inr m)) d.1,
  )

  either_order : (l : List Element) (g h : Element) → Mem g l → Mem h l → InOrder g h l ⊎ InOrder h g l
  either_order [] g h a b = absurd a
  either_order (x ∷ l) g h (inl a) b = inl (inl (a, b))
  either_order (x ∷ l) g h (inr a) (inl b) = inr (inl (b, inr a))
  either_order (x ∷ l) g h (inr a) (inr b) = later (either_order l g h a b)
    where
      later : InOrder g h l ⊎ InOrder h g l → InOrder g h (x ∷ l) ⊎ InOrder h g (x ∷ l)
      later (inl o) = inl (inr o)
      later (inr o) = inr (inr o)

  -- where the pairs in the order of the list stand among the jobs, all pairs do, in one order or the other
  pub pairs_covered : (jobs : List Job)
      → ((g h : Element) → InOrder g h lower → (t : Tree ℕ) (first second : List ℕ) → IsMultiple n g.lead h.lead t first second → Mem (combine g h t first second) jobs)
      → (g h : Element) → Mem g lower → Mem h lower → (t : Tree ℕ) (first second : List ℕ) → IsMultiple n g.lead h.lead t first second
      → Mem (combine g h t first second) jobs ⊎ Mem (combine h g t second first) jobs
  pairs_covered jobs all g h mg mh t first second m = go (either_order lower g h mg mh) (tree_discrete g.lead h.lead)
    where
      go : InOrder g h lower ⊎ InOrder h g lower → Dec (g.lead ≡ h.lead) → Mem (combine g h t first second) jobs ⊎ Mem (combine h g t second first) jobs
      go (inl o) d = inl (all g h o t first second m)
      go (inr o) (yes e) =
          let same = apart g h mg mh e in
          inl (all g h (subst (λ x. InOrder g x lower) same (subst (λ x. InOrder x g lower) (sym same) o)) t first second m)
      go (inr o) (no f) = inr (all h g o t second first (multiples_turn n g.lead h.lead t first second f m))
