-- How often a tree or a row stands in a list of trees or rows.
use Rattle.std.proofs.Common.{subst, inl, ◌≤◌, ap, ◌≡◌, ℕ, ◌+◌, ◌*◌, List, [], ◌∷◌, map, refl, ◌∙◌, arith}
use mathlib.Core.Path.{ap₂}
use native.Mathlib.Decide.{ℕ_discrete}
use Rattle.labelled_trees.specs.Trees.{Tree, Row, leaf, node, none, more}
use Rattle.labelled_trees.specs.Leaves.{occurs, times, one_if}
use Rattle.shuffle_insertions.specs.Listing.{each_with_each, lone}
use Rattle.labelled_trees.proofs.Leaves.{one_if-no}
use Rattle.labelled_trees.proofs.Permutations.{times-append}
use Rattle.shuffle_insertions.proofs.Splits.{count}
use Rattle.shuffle_insertions.specs.ShuffleTrees.{IsRising, least}
use Rattle.shuffle_insertions.proofs.Counted.{mem_times}
use Rattle.shuffle_insertions.proofs.Rising.{least-occurs}

one_if_and : (P Q R : Type 0) (d : Dec P) (e : Dec Q) (f : Dec R) → (P → Q × R) → (Q → R → P) → one_if d ≡ one_if e * one_if f
one_if_and P Q R (yes p) (yes q) (yes r) f g = omega arith
one_if_and P Q R (yes p) (no q) e f g = absurd (q (f p).0)
one_if_and P Q R (yes p) (yes q) (no r) f g = absurd (r (f p).1)
one_if_and P Q R (no p) (yes q) (yes r) f g = absurd (p (g q r))
one_if_and P Q R (no p) (no q) e f g = omega arith
one_if_and P Q R (no p) (yes q) (no r) f g = omega arith

pub zero_times : (m n c : ℕ) → c ≡ m * n → m ≡ 0 → c ≡ 0
zero_times m n c e z = e ∙ ap (λ k. k * n) z ∙ let k : 0 * n ≡ 0 = omega arith in k

pub one_times : (m n c : ℕ) → c ≡ m * n → m ≡ 1 → n ≡ 1 → c ≡ 1
one_times m n c e f g = e ∙ ap₂ (λ j k. j * k) f g

-- the first leaf stands in the tree
pub lead_occurs : (a : ℕ) (t : Tree ℕ) → least t ≡ a → IsRising t → (i : ℕ) → one_if (ℕ_discrete a i) ≤ occurs i t
lead_occurs a t e h i = go (ℕ_discrete a i)
  where
    go : (d : Dec (a ≡ i)) → one_if d ≤ occurs i t
    go (yes k) = subst (λ j. 1 ≤ occurs j t) (e ∙ k) (least-occurs t h)
    go (no _) = omega arith

pub empty_list : (l : List ℕ) → ((i : ℕ) → 0 ≡ count i l) → l ≡ []
empty_list [] h = refl
empty_list (a ∷ l) h = absurd (let o = mem_times ℕ_discrete a (a ∷ l) (inl refl) in let e = h a in omega (arith, o, e))

module _ (dec : Discrete (Tree ℕ)) (decr : Discrete (Row ℕ)) where
  pub times_more : (t : Tree ℕ) (r : Row ℕ) (u : Tree ℕ) (rs : List (Row ℕ)) → times decr (more t r) (map (λ s. more u s) rs) ≡ one_if (dec u t) * times decr r rs
  times_more t r u [] = omega arith
  times_more t r u (s ∷ rs) =
      let e = one_if_and (more u s ≡ more t r) (u ≡ t) (s ≡ r) (decr (more u s) (more t r)) (dec u t) (decr s r) (λ p. (cc, cc)) (λ p q. cc) in
      ap₂ (λ m n. m + n) e (times_more t r u rs) ∙ let k : one_if (dec u t) * one_if (decr s r) + one_if (dec u t) * times decr r rs ≡ one_if (dec u t) * (one_if (decr s r) + times decr r rs) = omega arith in k

  pub times_each : (t : Tree ℕ) (r : Row ℕ) (ts : List (Tree ℕ)) (rs : List (Row ℕ)) → times decr (more t r) (each_with_each ts rs) ≡ times dec t ts * times decr r rs
  times_each t r [] rs = omega arith
  times_each t r (u ∷ ts) rs =
      times-append decr (more t r) (map (λ s. more u s) rs) (each_with_each ts rs) ∙ ap₂ (λ m n. m + n) (times_more t r u rs) (times_each t r ts rs)
      ∙ let k : one_if (dec u t) * times decr r rs + times dec t ts * times decr r rs ≡ (one_if (dec u t) + times dec t ts) * times decr r rs = omega arith in k

  pub none_more : (u : Tree ℕ) (rs : List (Row ℕ)) → times decr none (map (λ s. more u s) rs) ≡ 0
  none_more u [] = refl
  none_more u (s ∷ rs) = let e = one_if-no (decr (more u s) none) (λ p. cc p) in omega (arith, e, none_more u rs)

  pub none_each : (ts : List (Tree ℕ)) (rs : List (Row ℕ)) → times decr none (each_with_each ts rs) ≡ 0
  none_each [] rs = refl
  none_each (u ∷ ts) rs = times-append decr none (map (λ s. more u s) rs) (each_with_each ts rs) ∙ let e = none_more u rs in let f = none_each ts rs in omega (arith, e, f)

  pub times_node : (g : ℕ) (r : Row ℕ) (h : ℕ) (rs : List (Row ℕ)) → times dec (node g r) (map (λ s. node h s) rs) ≡ one_if (ℕ_discrete g h) * times decr r rs
  times_node g r h [] = omega arith
  times_node g r h (s ∷ rs) =
      let e = one_if_and (node h s ≡ node g r) (g ≡ h) (s ≡ r) (dec (node h s) (node g r)) (ℕ_discrete g h) (decr s r) (λ p. (cc, cc)) (λ p q. cc) in
      ap₂ (λ m n. m + n) e (times_node g r h rs) ∙ let k : one_if (ℕ_discrete g h) * one_if (decr s r) + one_if (ℕ_discrete g h) * times decr r rs ≡ one_if (ℕ_discrete g h) * (one_if (decr s r) + times decr r rs) = omega arith in k

  pub leaf_node : (n h : ℕ) (rs : List (Row ℕ)) → times dec (leaf n) (map (λ s. node h s) rs) ≡ 0
  leaf_node n h [] = refl
  leaf_node n h (s ∷ rs) = let e = one_if-no (dec (node h s) (leaf n)) (λ p. cc p) in omega (arith, e, leaf_node n h rs)

  pub node_lone : (g : ℕ) (r : Row ℕ) (l : List ℕ) → times dec (node g r) (lone l) ≡ 0
  node_lone g r [] = refl
  node_lone g r (a ∷ []) = let e = one_if-no (dec (leaf a) (node g r)) (λ p. cc p) in omega (arith, e)
  node_lone g r (a ∷ (b ∷ l)) = refl
