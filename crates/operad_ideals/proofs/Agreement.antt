-- What agreement up to symmetry keeps.
use Rattle.std.proofs.Common.{◌≡◌, ℕ, List, [], ◌∷◌, ◌++◌, refl, sym, ap, ◌∙◌, arith, min}
use native.Mathlib.Decide.{ℕ_discrete}
use Rattle.labelled_trees.specs.Trees.{Tree, more, row}
use Rattle.labelled_trees.specs.Leaves.{sum_leaves, occurs, one_if}
use Rattle.labelled_trees.specs.Labelled.{Fits}
use Rattle.labelled_trees.proofs.Rows.{width-exchange, sum_row-exchange, FitsRow-exchange, width-replace, sum_row-replace, FitsRow-replace}
use Rattle.operad_ideals.specs.Parts.{Part, Sign}
use Rattle.operad_ideals.specs.Spelling.{least_leaf, least_leaf_row, Agrees, same, exchanged, inside, followed}
use Rattle.operad_ideals.specs.Laws.{arity, AgreementKeepsLabels}

-- ---- the least leaf

least_leaf-exchange : (front : List (Tree ℕ)) (a b : Tree ℕ) (back : List (Tree ℕ)) → least_leaf_row (row (front ++ a ∷ (b ∷ back))) ≡ least_leaf_row (row (front ++ b ∷ (a ∷ back)))
least_leaf-exchange [] a b [] = omega arith
least_leaf-exchange [] a b (t ∷ ts) = omega arith
least_leaf-exchange (t ∷ []) a b back = ap (λ n. min (least_leaf t) n) (least_leaf-exchange [] a b back)
least_leaf-exchange (t ∷ (u ∷ us)) a b back = ap (λ n. min (least_leaf t) n) (least_leaf-exchange (u ∷ us) a b back)

least_leaf-replace : (front : List (Tree ℕ)) (a b : Tree ℕ) (back : List (Tree ℕ)) → least_leaf a ≡ least_leaf b → least_leaf_row (row (front ++ a ∷ back)) ≡ least_leaf_row (row (front ++ b ∷ back))
least_leaf-replace [] a b [] e = e
least_leaf-replace [] a b (t ∷ ts) e = ap (λ n. min n (least_leaf_row (more t (row ts)))) e
least_leaf-replace (t ∷ []) a b back e = ap (λ n. min (least_leaf t) n) (least_leaf-replace [] a b back e)
least_leaf-replace (t ∷ (u ∷ us)) a b back e = ap (λ n. min (least_leaf t) n) (least_leaf-replace (u ∷ us) a b back e)

module _ (parts : ℕ → List Part) where
  pub least_leaf-agrees : (s : Sign) (t u : Tree ℕ) → Agrees parts s t u → least_leaf t ≡ least_leaf u
  least_leaf-agrees s t u (same v) = refl
  least_leaf-agrees s t u (exchanged g r front a b back h) = least_leaf-exchange front a b back
  least_leaf-agrees s t u (inside g r front a b back h) = least_leaf-replace front a b back (least_leaf-agrees r a b h)
  least_leaf-agrees s t u (followed r q a b c h k) = least_leaf-agrees r a b h ∙ least_leaf-agrees q b c k

  -- a sum over the leaves, as how often a number stands at a leaf
  pub sum_leaves-agrees : (f : ℕ → ℕ) (s : Sign) (t u : Tree ℕ) → Agrees parts s t u → sum_leaves t f ≡ sum_leaves u f
  sum_leaves-agrees f s t u (same v) = refl
  sum_leaves-agrees f s t u (exchanged g r front a b back h) = sum_row-exchange f front a b back
  sum_leaves-agrees f s t u (inside g r front a b back h) = sum_row-replace f front a b back (sum_leaves-agrees f r a b h)
  sum_leaves-agrees f s t u (followed r q a b c h k) = sum_leaves-agrees f r a b h ∙ sum_leaves-agrees f q b c k

  pub occurs-agrees : (i : ℕ) (s : Sign) (t u : Tree ℕ) → Agrees parts s t u → occurs i t ≡ occurs i u
  occurs-agrees i s t u h = sum_leaves-agrees (λ n. one_if (ℕ_discrete n i)) s t u h

  pub fits-agrees : (arity : ℕ → ℕ) (s : Sign) (t u : Tree ℕ) → Agrees parts s t u → Fits arity t → Fits arity u
  fits-agrees arity s t u (same v) f = f
  fits-agrees arity s t u (exchanged g r front a b back h) f = (f.0, sym (width-exchange front a b back) ∙ f.1, FitsRow-exchange arity front a b back f.2)
  fits-agrees arity s t u (inside g r front a b back h) f = (f.0, sym (width-replace front a b back) ∙ f.1, FitsRow-replace arity front a b back (fits-agrees arity r a b h) f.2)
  fits-agrees arity s t u (followed r q a b c h k) f = fits-agrees arity q b c k (fits-agrees arity r a b h f)

pub agreement_keeps_labels : AgreementKeepsLabels
agreement_keeps_labels parts n s t u h l = record {
  fits = fits-agrees parts (arity parts) s t u h l.fits;
  each = λ i low high. sym (occurs-agrees parts i s t u h) ∙ l.each i low high;
  only = λ i there. l.only i (rw (occurs-agrees parts i s t u h) there);
}
