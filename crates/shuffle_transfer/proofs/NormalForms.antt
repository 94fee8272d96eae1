-- Normal forms, and the law of normal trees.
use Rattle.std.proofs.Common.{◌≡◌, ◌↔◌, ℕ, suc, ◌<◌, ◌≤◌, List, [], ◌∷◌, subst, refl}
use mathlib.Core.List.{◌++◌}
use Rattle.std.specs.declared.cmp.Ordering.{Ordering}
use Rattle.modular_sums.specs.Lists.{Mem}
use Rattle.modular_sums.specs.Sums.{Same, scale, AllTerms}
use Rattle.modular_sums.proofs.Sums.{AllTerms-append, AllTerms-scale}
use Rattle.modular_sums.proofs.Images.{AllTerms-imp}
use Rattle.modular_sums.proofs.Differences.{same_added, same_gone, same_forms_apart, same_sums_apart, same_of_zero}
use Rattle.labelled_trees.specs.Trees.{Tree}
use Rattle.labelled_trees.specs.Equality.{tree_discrete}
use Rattle.labelled_trees.specs.Labelled.{IsLabelled}
use Rattle.operad_ideals.specs.Presentations.{Presentation, parts, arity_of}
use Rattle.operad_ideals.specs.Ideals.{InIdeal}
use Rattle.operad_ideals.proofs.Ideals.{ideal_zero, ideal-append, ideal-scale, ideal-same}
use Rattle.operad_ideals.specs.Collected.{IsReduced}
use Rattle.operad_ideals.proofs.ReducedSums.{reduction, one_reduction, less_same}
use Rattle.shuffle_transfer.specs.NormalTrees.{normal_list, IsIndependent, IsSpanning, IsCombination, IsNormalTree, HasNormalTrees, IsNormalForm}
use Rattle.shuffle_transfer.specs.NormalLaws.{NormalLaw, NormalFormsByLists, NormalTreesListed}
use Rattle.shuffle_transfer.proofs.Given.{Given}
use Rattle.shuffle_transfer.proofs.Independent.{Normal, independent}
use Rattle.shuffle_transfer.proofs.Spanning.{spans}
use Rattle.shuffle_transfer.proofs.NormalTrees.{listed_normal, normal_listed, listed_once, of_normal, to_normal}

-- ---- differences in the ideal

module _ (p : Presentation) (n : ℕ) where
  abbrev Sum : Type 0
  Sum = List (ℕ × Tree ℕ)

  abbrev q : ℕ
  q = p.q

  abbrev In : Sum → Type 0
  In = InIdeal p n

  pub gone : (e : Sum) → InIdeal p n (e ++ scale p.q e)
  gone e = ideal-same p n (e ++ scale q e) [] (same_gone tree_discrete q e) (ideal_zero p n)

  -- congruent elements, each less something: what is left of the two is congruent
  pub forms_apart : (d e f g : Sum) → InIdeal p n (d ++ scale p.q f) → InIdeal p n (e ++ scale p.q g) → InIdeal p n (d ++ scale p.q e) → InIdeal p n (f ++ scale p.q g)
  forms_apart d e f g hf hg m = ideal-same p n (f ++ scale q g) ((scale q (d ++ scale q f) ++ (d ++ scale q e)) ++ (e ++ scale q g)) (same_forms_apart tree_discrete q d e f g)
      (ideal-append p n (scale q (d ++ scale q f) ++ (d ++ scale q e)) (e ++ scale q g)
      (ideal-append p n (scale q (d ++ scale q f)) (d ++ scale q e) (ideal-scale p n q (d ++ scale q f) hf) m) hg)

  pub sums_apart : (d e f g : Sum) → InIdeal p n (d ++ scale p.q f) → InIdeal p n (e ++ scale p.q g) → Same tree_discrete p.q f g → InIdeal p n (d ++ scale p.q e)
  sums_apart d e f g hf hg s = ideal-same p n (d ++ scale q e) ((d ++ scale q f) ++ scale q (e ++ scale q g)) (same_sums_apart tree_discrete q d e f g s)
      (ideal-append p n (d ++ scale q f) (scale q (e ++ scale q g)) hf (ideal-scale p n q (e ++ scale q g) hg))

  -- what is the same as f may stand in its place
  pub rest_same : (e f g : Sum) → Same tree_discrete p.q g f → InIdeal p n (e ++ scale p.q f) → InIdeal p n (e ++ scale p.q g)
  rest_same e f g s h = ideal-same p n (e ++ scale q g) (e ++ scale q f) (less_same q e g f s) h

-- ---- combinations of a list

module _ (p : Presentation) (n : ℕ) (l : List (Tree ℕ)) where
  abbrev On : List (ℕ × Tree ℕ) → Type 0
  On e = AllTerms e (λ t. Mem t l)

  pub combination : IsSpanning p n l → (e : List (ℕ × Tree ℕ)) → AllTerms e (IsLabelled (arity_of p) n) → (f : List (ℕ × Tree ℕ)) × IsCombination p n l e f
  combination spanning [] h = ([], record { on_list = tt; rest = gone p n [] })
  combination spanning (x ∷ e) h =
      let t = spanning.spans x.1 h.0 in
      let r = combination spanning e h.1 in (
        scale x.0 t.0 ++ r.0,
        record {
          on_list = AllTerms-append (scale x.0 t.0) r.0 (λ u. Mem u l) (AllTerms-scale x.0 t.0 (λ u. Mem u l) t.1) r.1.on_list;
          rest = ideal-same p n ((x ∷ e) ++ scale p.q (scale x.0 t.0 ++ r.0)) (scale x.0 ((1, x.1) ∷ scale p.q t.0) ++ (e ++ scale p.q r.0))
              (same_added tree_discrete p.q x.0 x.1 e t.0 r.0)
              (ideal-append p n (scale x.0 ((1, x.1) ∷ scale p.q t.0)) (e ++ scale p.q r.0) (ideal-scale p n x.0 ((1, x.1) ∷ scale p.q t.0) t.2) r.1.rest);
        },
      )

  pub congruent : IsIndependent p n l → (d e f g : List (ℕ × Tree ℕ)) → IsCombination p n l d f → IsCombination p n l e g → InIdeal p n (d ++ scale p.q e) ↔ Same tree_discrete p.q f g
  congruent free d e f g hf hg = (
    λ m. same_of_zero tree_discrete p.q f g
        (free.zero (f ++ scale p.q g) (AllTerms-append f (scale p.q g) (λ u. Mem u l) hf.on_list (AllTerms-scale p.q g (λ u. Mem u l) hg.on_list)) (forms_apart p n d e f g hf.rest hg.rest m)),
    λ s. sums_apart p n d e f g hf.rest hg.rest s,
  )

-- ---- normal forms

module _ (p : Presentation) (cmp : Tree ℕ → Tree ℕ → Ordering) (n : ℕ) (l : List (Tree ℕ)) (normal : (t : Tree ℕ) → Mem t l ↔ IsNormalTree p cmp n t)
    (free : IsIndependent p n l) (spanning : IsSpanning p n l) where
  abbrev Form : List (ℕ × Tree ℕ) → List (ℕ × Tree ℕ) → Type 0
  Form = IsNormalForm p cmp n

  as_combination : (e f : List (ℕ × Tree ℕ)) → Form e f → IsCombination p n l e f
  as_combination e f h = record { on_list = AllTerms-imp (IsNormalTree p cmp n) (λ t. Mem t l) f (λ t k. (normal t).1 k) h.as_sum.normal; rest = h.as_sum.rest }

  as_form : (e f : List (ℕ × Tree ℕ)) → IsCombination p n l e f → IsReduced (suc p.q) (parts p) f → Form e f
  as_form e f h r = record { as_sum = record { normal = AllTerms-imp (λ t. Mem t l) (IsNormalTree p cmp n) f (λ t m. (normal t).0 m) h.on_list; rest = h.rest }; collected = r }

  form : (e : List (ℕ × Tree ℕ)) → AllTerms e (IsLabelled (arity_of p) n) → (f : List (ℕ × Tree ℕ)) × Form e f
  form e h =
      let c = combination p n l spanning e h in
      let r = reduction p.q (parts p) (λ t. Mem t l) c.0 c.1.on_list (λ t m. ((normal t).0 m).sorted) in
      (r.sum, as_form e r.sum record { on_list = r.all; rest = rest_same p n e c.0 r.sum r.same c.1.rest } r.reduced)

  decides : (d e f g : List (ℕ × Tree ℕ)) → Form d f → Form e g → InIdeal p n (d ++ scale p.q e) ↔ (f ≡ g)
  decides d e f g hf hg =
      let k = congruent p n l free d e f g (as_combination d f hf) (as_combination e g hg) in
      (λ m. one_reduction p.q (parts p) f g hf.collected hg.collected (k.0 m), λ same. k.1 (subst (λ h. Same tree_discrete p.q f h) same (λ t. refl)))

  pub normal_law : NormalLaw p cmp n l
  normal_law = record {
    normal = normal;
    independent = free;
    spanning = spanning;
    combinations = combination p n l spanning;
    one_combination = λ e f g hf hg. (congruent p n l free e e f g hf hg).0 (gone p n e);
    congruent = congruent p n l free;
    forms = form;
    one_form = λ e f g hf hg. (decides e e f g hf hg).0 (gone p n e);
    decides = decides;
    by_list = λ e f. (λ h. (as_combination e f h, h.collected), λ k. as_form e f k.0 k.1);
  }

pub normal_forms_by_lists : NormalFormsByLists
normal_forms_by_lists p cmp n l normal free spanning = normal_law p cmp n l normal free spanning

-- ---- the listing of a certified list of elements

module _ (c : Given) (n : ℕ) (le : n ≤ c.most) (prime : 0 < c.presentation.q) where
  abbrev cmp : Tree ℕ → Tree ℕ → Ordering
  cmp = c.compare

  pub listing : HasNormalTrees c.presentation c.compare n (normal_list c.presentation.generators c.elements n)
  listing = record {
    distinct = listed_once c n le;
    normal = λ t. (λ m. of_normal c n le t (listed_normal c n le t m), λ h. normal_listed c n le t (to_normal c n le t prime h));
  }

  module _ (l : List (Tree ℕ)) (has : HasNormalTrees c.presentation c.compare n l) where
    labelled : (t : Tree ℕ) → Mem t l → IsLabelled (arity_of c.presentation) n t
    labelled t m = ((has.normal t).0 m).labelled

    pub listed_law : NormalLaw c.presentation c.compare n l
    listed_law = normal_law c.presentation c.compare n l has.normal
        record {
          labelled = labelled;
          distinct = has.distinct;
          zero = λ e h i. independent c n le e (AllTerms-imp (λ t. Mem t l) (Normal c n le) e (λ t m. to_normal c n le t prime ((has.normal t).0 m)) h) i;
        }
        record {
          labelled = labelled;
          spans = λ t h.
              let k = spans c n le ((1, t) ∷ []) (h, tt) in
              (k.by, AllTerms-imp (Normal c n le) (λ u. Mem u l) k.by (λ u w. (has.normal u).1 (of_normal c n le u w)) k.normal, k.rest);
        }

pub normal_trees_listed : NormalTreesListed
normal_trees_listed p sound wide prime cmp order elements N certified n le =
    let given : Given = record { presentation = p; sound = sound; wide = wide; compare = cmp; order = order; elements = elements; most = N; certified = certified } in
    (listing given n le prime, listed_law given n le prime)
