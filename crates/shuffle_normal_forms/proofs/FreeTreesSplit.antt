-- A tree is free exactly where its inputs are, and no leading tree divides it at the root.
use Rattle.std.proofs.Common.{ℕ, sym, subst, inl, inr, ◌⊎◌}
use Rattle.modular_sums.specs.Lists.{Mem}
use Rattle.labelled_trees.specs.Trees.{Tree, Row, node, inputs}
use Rattle.shuffle_places.specs.Cuts.{numbers}
use Rattle.shuffle_places.specs.Places.{IsPlace}
use Rattle.shuffle_bases.specs.Elements.{Element, Setting, AreMonic}
use Rattle.shuffle_normal_forms.specs.FreeTrees.{IsFree}
use Rattle.shuffle_places.specs.RootPlaces.{IsShuffleAmong, DividesRoot, IsInInput, count_before, shifted}
use Rattle.shuffle_normal_forms.specs.FreeTreesSplit.{FreeTreesSplit}
use Rattle.shuffle_places.proofs.RootPlaces.{root_place, root_parts}
use Rattle.shuffle_places.proofs.InputPlaces.{place_in_input, split_place, leaf_no_place, standing, stands_there}

module _ (n : ℕ) (s : Setting) (monic : AreMonic s) (l : ℕ) (r : Row ℕ) (h : IsShuffleAmong n (node l r)) where
  input_free : IsFree s (node l r) → (t : Tree ℕ) → Mem t (inputs r) → IsFree s t
  input_free f t m g k set p =
      let a = standing r t m in
      f g k (shifted (count_before a.front) set)
      (subst (λ x. IsPlace (node l x) (shifted (count_before a.front) set) g.lead) (sym a.is) (place_in_input l a.front t a.back set g.lead p))

  root_free : IsFree s (node l r) → (g : Element) → Mem g s.elements → (parts : ℕ → Tree ℕ) → DividesRoot g.arity g.lead (node l r) parts → ⊥
  root_free f g k parts q =
      let m = monic.each g k in
      f g k (numbers parts 1 g.lead) (root_place g.arity (node l r) g.lead h.rising m.lead_valid.shuffle m.lead_node parts q)

  both_free : ((t : Tree ℕ) → Mem t (inputs r) → IsFree s t) → ((g : Element) → Mem g s.elements → (parts : ℕ → Tree ℕ) → DividesRoot g.arity g.lead (node l r) parts → ⊥) → IsFree s (node l r)
  both_free f d g k set p = go (split_place l r set g.lead p)
    where
      go : Mem 1 set ⊎ IsInInput r set g.lead → ⊥
      go (inl m) = let q = root_parts n g.arity (node l r) g.lead h (monic.each g k).lead_valid.shuffle set p m in d g k q.0 q.1
      go (inr i) = f i.input (subst (λ x. Mem i.input (inputs x)) (sym i.row_is) (stands_there i.front i.input i.back)) g k i.inner i.place

pub free_split : FreeTreesSplit
free_split n s monic = (
  λ i g k set p. leaf_no_place i set g.lead p,
  λ l r h. (λ f. (input_free n s monic l r h f, root_free n s monic l r h f), λ f. both_free n s monic l r h f.0 f.1),
)
