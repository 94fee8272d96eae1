-- A labelled tree less the sign times a tree that agrees with it is a sum of instances of symmetry rules.
use Rattle.std.proofs.Common.{◌≡◌, ℕ, ◌*◌, List, [], ◌∷◌, ◌++◌, length, refl, sym, ◌∙◌, ap, subst}
use mathlib.Core.Path.{ap₂}
use Rattle.modular_sums.proofs.Sums.{combination-same}
use Rattle.labelled_trees.specs.Trees.{Tree, Row, node, more, row, graft_row}
use Rattle.labelled_trees.specs.Contexts.{Ctx, RowCtx, hole, inside, here, past, fill, fill_row, compose}
use Rattle.labelled_trees.specs.Equality.{tree_discrete}
use Rattle.labelled_trees.specs.Labelled.{IsLabelled}
use Rattle.labelled_trees.proofs.Contexts.{fill-compose}
use Rattle.labelled_trees.proofs.ContextLeaves.{labelled-replaced}
use Rattle.labelled_trees.proofs.Fitting.{fits_of_fill}
use Rattle.operad_ideals.specs.Parts.{Sign, minus, times, InOnePart}
use Rattle.operad_ideals.specs.Spelling.{Agrees, same, exchanged, inside as inside_one, followed}
use Rattle.operad_ideals.specs.Sorting.{spelled, spelled_sign}
use Rattle.operad_ideals.specs.Presentations.{Presentation, residue_of, parts, arity_of, without_relations}
use Rattle.operad_ideals.specs.Rules.{numbered, exchanged_at, symmetry}
use Rattle.operad_ideals.specs.HoleInstances.{HoleInstance, hole_element, InHoleIdeal}
use Rattle.operad_ideals.specs.IdealLaws.{less_signed, AgreementIsInIdeal}
use Rattle.modular_sums.proofs.Links.{two_alike, Link, link_refl, link_move, link_alike, link_trans, member_one}
use Rattle.operad_ideals.proofs.Residues.{residue-times}
use Rattle.operad_ideals.proofs.Exchanged.{for_leaf, numbered-for_leaf, exchanged-row, graft_row-exchanged}
use Rattle.operad_ideals.proofs.Agreement.{occurs-agrees, fits-agrees}
use Rattle.operad_ideals.proofs.Spellings.{one_spelling}
use Rattle.operad_ideals.proofs.HoleInstances.{ideals_are_one}

-- a hole between these inputs
abbrev between : List (Tree ℕ) → List (Tree ℕ) → RowCtx ℕ
between [] back = here hole (row back)
between (t ∷ front) back = past t (between front back)

fill_row-between : (front back : List (Tree ℕ)) (x : Tree ℕ) → fill_row (between front back) x ≡ row (front ++ x ∷ back)
fill_row-between [] back x = refl
fill_row-between (t ∷ front) back x = ap (more t) (fill_row-between front back x)

module _ (p : Presentation) (n : ℕ) where
  abbrev pub Near : Tree ℕ → Tree ℕ → ℕ → Type 0
  Near = Link tree_discrete p.q (hole_element p n)

  -- two neighbours of one part
  near_exchange : (c : Ctx ℕ) (g i : ℕ) (s : Sign) (r : Row ℕ) → InOnePart (parts p g) i s → IsLabelled (arity_of p) n (fill c (node g r)) → IsLabelled (arity_of p) n (fill c (node g (exchanged_at i r)))
      → Near (fill c (node g r)) (fill c (node g (exchanged_at i r))) (residue_of p.q s)
  near_exchange c g i s r h l k =
      let one : graft_row (numbered 0 (arity_of p g)) (for_leaf r) ≡ r = numbered-for_leaf (arity_of p g) r (fits_of_fill (arity_of p) c (node g r) l.fits).1 in
      made one (graft_row-exchanged i (numbered 0 (arity_of p g)) (for_leaf r) ∙ ap (exchanged_at i) one)
    where
      made : graft_row (numbered 0 (arity_of p g)) (for_leaf r) ≡ r → graft_row (exchanged_at i (numbered 0 (arity_of p g))) (for_leaf r) ≡ exchanged_at i r
          → Near (fill c (node g r)) (fill c (node g (exchanged_at i r))) (residue_of p.q s)
      made one two = combination-same tree_discrete (hole_element p n) p.q
          {e = (1, fill c (node g r)) ∷ ((p.q * residue_of p.q s, fill c (node g (exchanged_at i r))) ∷ [])} {f = (1, fill c (node g r)) ∷ ((residue_of p.q (times minus s), fill c (node g (exchanged_at i r))) ∷ [])}
          (two_alike tree_discrete p.q 1 (p.q * residue_of p.q s) 1 (residue_of p.q (times minus s)) (fill c (node g r)) (fill c (node g (exchanged_at i r))) refl (residue-times p.q minus s))
          (subst (InHoleIdeal p n) is (member_one tree_discrete (hole_element p n) p.q instance))
        where
          instance : HoleInstance p n
          instance = record {
            rule = symmetry g i s h;
            context = c;
            inputs = for_leaf r;
            labelled = (subst (λ x. IsLabelled (arity_of p) n (fill c (node g x))) (sym one) l, (subst (λ x. IsLabelled (arity_of p) n (fill c (node g x))) (sym two) k, tt));
          }

          is : hole_element p n instance ≡ (1, fill c (node g r)) ∷ ((residue_of p.q (times minus s), fill c (node g (exchanged_at i r))) ∷ [])
          is = ap₂ (λ x y. (1, x) ∷ (y ∷ [])) (ap (λ x. fill c (node g x)) one) (ap (λ x. (residue_of p.q (times minus s), fill c (node g x))) two)

  -- trees that agree, in a context
  pub near_agrees : (s : Sign) (t u : Tree ℕ) → Agrees (parts p) s t u → (c : Ctx ℕ) → IsLabelled (arity_of p) n (fill c t) → Near (fill c t) (fill c u) (residue_of p.q s)
  near_agrees s t u (same v) c l = link_refl tree_discrete p.q (hole_element p n) (fill c v)
  near_agrees s t u (exchanged g r front a b back h) c l =
      let e : exchanged_at (length front) (row (front ++ a ∷ (b ∷ back))) ≡ row (front ++ b ∷ (a ∷ back)) = exchanged-row front a b back in
      subst (λ x. Near (fill c (node g (row (front ++ a ∷ (b ∷ back))))) (fill c (node g x)) (residue_of p.q r)) e
      (near_exchange c g (length front) r (row (front ++ a ∷ (b ∷ back))) h l
      (subst (λ x. IsLabelled (arity_of p) n (fill c (node g x))) (sym e)
      (labelled-replaced (arity_of p) n c (node g (row (front ++ a ∷ (b ∷ back)))) (node g (row (front ++ b ∷ (a ∷ back)))) l
      (fits-agrees (parts p) (arity_of p) r (node g (row (front ++ a ∷ (b ∷ back)))) (node g (row (front ++ b ∷ (a ∷ back)))) (exchanged g r front a b back h) (fits_of_fill (arity_of p) c (node g (row (front ++ a ∷ (b ∷ back)))) l.fits))
      (λ i. occurs-agrees (parts p) i r (node g (row (front ++ a ∷ (b ∷ back)))) (node g (row (front ++ b ∷ (a ∷ back)))) (exchanged g r front a b back h)))))
  near_agrees s t u (inside_one g r front a b back h) c l =
      let d : Ctx ℕ = compose c (inside g (between front back)) in
      let at : (x : Tree ℕ) → fill d x ≡ fill c (node g (row (front ++ x ∷ back))) = λ x. fill-compose c (inside g (between front back)) x ∙ ap (λ y. fill c (node g y)) (fill_row-between front back x) in
      link_move tree_discrete p.q (hole_element p n) (fill d a) (fill d b) (fill c (node g (row (front ++ a ∷ back)))) (fill c (node g (row (front ++ b ∷ back)))) (residue_of p.q r) (at a) (at b)
      (near_agrees r a b h d (subst (IsLabelled (arity_of p) n) (sym (at a)) l))
  near_agrees s t u (followed r q a b v h k) c l =
      link_alike tree_discrete p.q (hole_element p n) (fill c a) (fill c v) (residue_of p.q r * residue_of p.q q) (residue_of p.q (times r q)) (residue-times p.q r q)
      (link_trans tree_discrete p.q (hole_element p n) (fill c a) (fill c b) (fill c v) (residue_of p.q r) (residue_of p.q q)
      (near_agrees r a b h c l)
      (near_agrees q b v k c (labelled-replaced (arity_of p) n c a b l
      (fits-agrees (parts p) (arity_of p) r a b h (fits_of_fill (arity_of p) c a l.fits)) (λ i. occurs-agrees (parts p) i r a b h))))

  -- a labelled tree and what agrees with it
  pub near : (t : Tree ℕ) → IsLabelled (arity_of p) n t → (s : Sign) (u : Tree ℕ) → Agrees (parts p) s t u → InHoleIdeal p n (less_signed p.q t s u)
  near t l s u h = combination-same tree_discrete (hole_element p n) p.q {e = less_signed p.q t s u} {f = (1, t) ∷ ((p.q * residue_of p.q s, u) ∷ [])}
      (two_alike tree_discrete p.q 1 (residue_of p.q (times minus s)) 1 (p.q * residue_of p.q s) t u refl (sym (residue-times p.q minus s))) (near_agrees s t u h hole l)

  pub near_spelled : (t : Tree ℕ) → IsLabelled (arity_of p) n t → InHoleIdeal p n (less_signed p.q t (spelled_sign (parts p) t) (spelled (parts p) t))
  near_spelled t l = near t l (spelled_sign (parts p) t) (spelled (parts p) t) ((one_spelling (parts p) n t l).0.agrees)

pub agreement_in_ideal : AgreementIsInIdeal
agreement_in_ideal p n t l = (
  λ s u h. (ideals_are_one (without_relations p) n (less_signed p.q t s u) (λ r m. absurd m)).1 (near (without_relations p) n t l s u h),
  (ideals_are_one (without_relations p) n (less_signed p.q t (spelled_sign (parts p) t) (spelled (parts p) t)) (λ r m. absurd m)).1 (near_spelled (without_relations p) n t l),
)
