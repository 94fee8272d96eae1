-- Relabelled relations.
use Rattle.std.proofs.Common.{◌≡◌, ℕ, zero, suc, ◌+◌, ◌<◌, ◌≤◌, List, [], ◌∷◌, ◌++◌, length, map, take, get_or, refl, sym, ap, ap₂, ◌∙◌, subst, arith, cond}
use Rattle.std.proofs.Math.Dec.{eqb-suc-zero}
use Rattle.std.proofs.Math.ListN.{length-map}
use Rattle.std.proofs.lemmas.List.{map-append, map_more}
use Rattle.std.proofs.lemmas.List.Elements.{All-push}
use Rattle.labelled_trees.specs.Trees.{Tree, leaf, graft}
use Rattle.labelled_trees.specs.Insertions.{item}
use Rattle.labelled_trees.specs.Leaves.{AllLeaves}
use Rattle.labelled_trees.specs.Labelled.{IsNumbered}
use Rattle.labelled_trees.specs.Meaning.{tree_of}
use Rattle.labelled_trees.proofs.GraftLeaves.{graft_ext}
use Rattle.labelled_trees.proofs.Leaves.{by_leaf}
use Rattle.labelled_trees.proofs.Numbered.{numbered_of_labelled}
use Rattle.operad_ideals.specs.Laws.{arity}
use Rattle.shuffle_transfer.specs.Orderings.{IsOrdering, entry}
use Rattle.shuffle_transfer.specs.Transfer.{relabelled}
use Rattle.shuffle_transfer.proofs.TransferLaw.{labelled-renamed}
use Rattle.symmetric_trees.specs.Generators.{parts_at}
use Rattle.symmetric_trees.specs.Trees.{IsLabelled, Fits}
use Rattle.symmetric_trees.specs.declared.generators.Generator.{Generator}
use Rattle.symmetric_sums.specs.Terms.{FitsOver, HaveArity, terms_of}
use Rattle.symmetric_sums.specs.declared.term.Term.{Term}
use Rattle.symmetric_sums.specs.Calls.{with_term}
use Rattle.labelled_trees.specs.declared.Tree as program

item-leaves : (v : List ℕ) (i : ℕ) → item (map leaf v) i ≡ leaf (entry v i)
item-leaves [] i = refl
item-leaves (x ∷ v) zero = refl
item-leaves (x ∷ v) (suc zero) = refl
item-leaves (x ∷ v) (suc (suc i)) = item-leaves v (suc i)

-- a tree with the leaves of a list in place of its own is the renamed tree
renamed_by : (t : Tree ℕ) (v : List ℕ) (leaves : List (Tree ℕ)) → leaves ≡ map leaf v → graft t (item leaves) ≡ graft t (λ i. leaf (entry v i))
renamed_by t v leaves e =
    ap (λ ls. graft t (item ls)) e
    ∙ graft_ext t (item (map leaf v)) (λ i. leaf (entry v i)) (by_leaf t (λ i. item (map leaf v) i ≡ leaf (entry v i)) (λ i o. item-leaves v i))

pub renamed_labelled : (gens : List Generator) (n : ℕ) (t u : Tree ℕ) (v : List ℕ) (leaves : List (Tree ℕ)) → leaves ≡ map leaf v → IsOrdering n v → IsLabelled gens n t → u ≡ graft t (item leaves) → IsLabelled gens n u
renamed_labelled gens n t u v leaves e o h is = subst (IsLabelled gens n) (sym (is ∙ renamed_by t v leaves e)) (labelled-renamed (arity (parts_at gens)) n v o t h)

pub leaves_within : (gens : List Generator) (n : ℕ) (t : Tree ℕ) (v : List ℕ) (leaves : List (Tree ℕ)) (m : ℕ) → leaves ≡ map leaf v → IsOrdering n v → IsLabelled gens n t → length leaves ≡ m → AllLeaves t (λ i. (0 < i) × (i ≤ m))
leaves_within gens n t v leaves m e o h s =
    by_leaf t (λ i. (0 < i) × (i ≤ m)) (λ i u. let k = h.only i u in (k.0, (let a = ap length e in let b = length-map v leaf in let c = o.length_is in omega (arith, a, b, c, s, k.1))))

-- the terms renamed so far, with one more
pub renamed-more : (v : List ℕ) (leaves : List (Tree ℕ)) (items : List Term) (i : ℕ) (term last : Term) (before after : List Term) → i < length items → term ≡ get_or items i term → leaves ≡ map leaf v
    → after ≡ before ++ last ∷ [] → last.coef ≡ term.coef → tree_of last.tree ≡ graft (tree_of term.tree) (item leaves)
    → terms_of before ≡ relabelled v (terms_of (take i items)) → terms_of after ≡ relabelled v (terms_of (take (i + 1) items))
renamed-more v leaves items i term last before after l at e is c t so_far =
    ap terms_of is ∙ map-append (λ (x : Term). (x.coef, tree_of x.tree)) before (last ∷ [])
    ∙ ap₂ (λ (ts : List (ℕ × Tree ℕ)) (x : ℕ × Tree ℕ). ts ++ x ∷ []) so_far (ap₂ (λ (k : ℕ) (u : Tree ℕ). (k, u)) c (t ∙ renamed_by (tree_of term.tree) v leaves e))
    ∙ sym (moved-push (terms_of (take i items)) (term.coef, tree_of term.tree))
    ∙ ap (relabelled v) (sym (map_more (λ (x : Term). (x.coef, tree_of x.tree)) items i term l ∙ ap (λ (x : Term). terms_of (take i items) ++ (x.coef, tree_of x.tree) ∷ []) (sym at)))
  where
    moved-push : (e : List (ℕ × Tree ℕ)) (x : ℕ × Tree ℕ) → relabelled v (e ++ x ∷ []) ≡ relabelled v e ++ (x.0, graft x.1 (λ i. leaf (entry v i))) ∷ []
    moved-push [] x = refl
    moved-push (y ∷ e) x = ap (λ ts. (y.0, graft y.1 (λ i. leaf (entry v i))) ∷ ts) (moved-push e x)

pub fits-push : (p : ℕ) (gens : List Generator) (n : ℕ) (before after : List Term) (last : Term) → FitsOver p gens before → after ≡ before ++ last ∷ [] → last.coef < p → IsLabelled gens n (tree_of last.tree) → FitsOver p gens after
fits-push p gens n before after last h is c l = subst (FitsOver p gens) (sym is) record {
  residues = All-push (λ (term : Term). term.coef < p) before last h.residues c;
  trees = All-push (λ (term : Term). Fits gens (tree_of term.tree)) before last h.trees l.fits;
}

pub arity-push : (gens : List Generator) (n : ℕ) (before after : List Term) (last : Term) → HaveArity n before → after ≡ before ++ last ∷ [] → IsLabelled gens n (tree_of last.tree) → HaveArity n after
arity-push gens n before after last h is l = subst (HaveArity n) (sym is) (All-push (λ (term : Term). IsNumbered n (tree_of term.tree)) before last h (numbered_of_labelled l))

pub with_one : (coef : ℕ) (tree : program.Tree) (old new : List Term) → 0 < coef → new ≡ with_term coef tree old → new ≡ old ++ record { coef = coef; tree = tree } ∷ []
with_one zero tree old new h is = absurd (omega (arith, h))
with_one (suc n) tree old new h is = is ∙ ap (λ b. cond b old (old ++ record { coef = suc n; tree = tree } ∷ [])) (eqb-suc-zero n)
