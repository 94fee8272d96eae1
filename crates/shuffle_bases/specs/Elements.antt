-- Elements with leading trees, and their insertions.
use Rattle.std.specs.Prelude.{ℕ, ◌≡◌, List, [], ◌∷◌, ◌++◌}
use Rattle.std.proofs.Common.{◌⊎◌}
use Rattle.std.specs.declared.cmp.Ordering.{Ordering}
use Rattle.std.specs.declared.cmp.Ordering.TheVariants.{Less}
use Rattle.modular_sums.specs.Lists.{Mem}
use Rattle.modular_sums.specs.Sums.{AllTerms, moved, scale}
use Rattle.labelled_trees.specs.Trees.{Tree, IsNode}
use Rattle.shuffle_insertions.specs.ShuffleTrees.{IsShuffleTree}
use Rattle.shuffle_insertions.specs.Frames.{insert}
use Rattle.shuffle_places.specs.Places.{frame_at, IsPlace}

-- An element of an arity: its leading tree, which has coefficient 1, and its tail, the sum of its other terms.
pub record Element : Type 0 where
  pub arity : ℕ
  pub lead : Tree ℕ
  pub tail : List (ℕ × Tree ℕ)

-- the element as a sum
abbrev pub terms : Element → List (ℕ × Tree ℕ)
terms g = (1, g.lead) ∷ g.tail

-- What the notions below refer to: the arity of each label, a comparison of trees, a list of elements, and q, where suc q is the prime.
pub record Setting : Type 0 where
  pub arity : ℕ → ℕ
  pub compare : Tree ℕ → Tree ℕ → Ordering
  pub elements : List Element
  pub q : ℕ

-- x is less than y
abbrev pub IsLess : Setting → Tree ℕ → Tree ℕ → Type 0
IsLess s x y = s.compare x y ≡ Less

-- The element is monic: its leading tree is a shuffle tree over the labels with a vertex, and is greater than each tree of its tail.
pub record IsMonic (s : Setting) (g : Element) : Type 0 where
  pub lead_valid : IsShuffleTree s.arity g.arity g.lead
  pub lead_node : IsNode g.lead
  pub tail_valid : AllTerms g.tail (λ x. IsShuffleTree s.arity g.arity x × IsLess s x g.lead)

-- The elements are monic, and two with one leading tree are one.
pub record AreMonic (s : Setting) : Type 0 where
  pub each : (g : Element) → Mem g s.elements → IsMonic s g
  pub apart : (g h : Element) → Mem g s.elements → Mem h s.elements → g.lead ≡ h.lead → g ≡ h

-- the element inserted at the place in the tree: each of its trees stands there in turn
abbrev pub inserted : Element → Tree ℕ → List ℕ → List (ℕ × Tree ℕ)
inserted g t set = moved (insert (frame_at set t)) (terms g)

-- An insertion: a shuffle tree of arity n over the labels, and a place in it whose divisor is the leading tree of an element of the list.
pub record Insertion (s : Setting) (n : ℕ) : Type 0 where
  pub of : Element
  pub member : Mem of s.elements
  pub tree : Tree ℕ
  pub set : List ℕ
  pub valid : IsShuffleTree s.arity n tree
  pub place : IsPlace tree set of.lead

-- the sum that the insertion is
abbrev pub value_of : {s : Setting} {n : ℕ} → Insertion s n → List (ℕ × Tree ℕ)
value_of i = inserted i.of i.tree i.set

-- The S-element of g and h at two places in a tree: g inserted at the first less h inserted at the second
-- (Bremner and Dotsenko 2016, S-polynomials).
abbrev pub s_element : ℕ → Element → Element → Tree ℕ → List ℕ → List ℕ → List (ℕ × Tree ℕ)
s_element q g h t first second = inserted g t first ++ scale q (inserted h t second)

-- g stands in the list, and h stands there or later
abbrev pub InOrder : Element → Element → List Element → Type 0
InOrder g h [] = ⊥
InOrder g h (x ∷ l) = ((g ≡ x) × Mem h (x ∷ l)) ⊎ InOrder g h l
