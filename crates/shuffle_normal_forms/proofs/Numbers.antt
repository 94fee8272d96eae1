-- The free trees on other numbers.
use Rattle.std.proofs.Common.{◌≡◌, ℕ, zero, suc, ◌+◌, ◌<◌, List, [], ◌∷◌, false, cond, map, refl, sym, ◌∙◌, ap, arith}
use mathlib.Core.List.{◌++◌}
use mathlib.Core.Path.{ap₂}
use native.Mathlib.Decide.{ℕ_discrete, dec_lt}
use Rattle.std.specs.List.{filter}
use Rattle.labelled_trees.specs.Trees.{Tree, Row, leaf, node, none, more, graft, graft_row, map_tree}
use Rattle.labelled_trees.specs.Leaves.{sum_leaves, sum_row, one_if}
use Rattle.labelled_trees.specs.Ranks.{below, standard}
use Rattle.labelled_trees.specs.Equality.{tree_discrete}
use Rattle.labelled_trees.proofs.Ranks.{below_sum, same_if}
use Rattle.shuffle_insertions.specs.ShuffleTrees.{least, least_row}
use Rattle.shuffle_insertions.specs.Listing.{joined_below, joined_splits, each_with_each, rows, lone}
use Rattle.shuffle_places.specs.Cuts.{numbers}
use Rattle.shuffle_places.specs.Places.{divisor_of}
use Rattle.shuffle_places.specs.AllPlaces.{lay, lay_row, with_divisor}
use Rattle.shuffle_bases.specs.Elements.{Element, Setting}
use Rattle.shuffle_normal_forms.specs.FreeTrees.{is_empty, has_no_place}
use Rattle.shuffle_normal_forms.specs.FreeTreeLists.{undivided, free_on, KeepsOrder, FreeTreesOnNumbers, RenamedAreFree}
use Rattle.shuffle_normal_forms.proofs.Filters.{each_passes, filter-ext, filter-map, below-ext, splits-ext}
use Rattle.shuffle_normal_forms.proofs.ByInputs.{empty_joined, empty_where, free_by_inputs, leaf_free}
use Rattle.modular_sums.specs.Lists.{choose}
use Rattle.labelled_trees.proofs.Grafts.{graft_assoc}

-- ---- grafts

mutual
  graft-ext : {A B : Type 0} (t : Tree A) (s u : A → Tree B) → ((a : A) → s a ≡ u a) → graft t s ≡ graft t u
  graft-ext (leaf a) s u h = h a
  graft-ext (node l r) s u h = ap (node l) (graft_row-ext r s u h)

  graft_row-ext : {A B : Type 0} (r : Row A) (s u : A → Tree B) → ((a : A) → s a ≡ u a) → graft_row r s ≡ graft_row r u
  graft_row-ext none s u h = refl
  graft_row-ext (more t r) s u h = ap₂ more (graft-ext t s u h) (graft_row-ext r s u h)

mutual
  sum_renamed : (f : ℕ → ℕ) (t : Tree ℕ) (p q : ℕ → ℕ) → ((a : ℕ) → p (f a) ≡ q a) → sum_leaves (map_tree f t) p ≡ sum_leaves t q
  sum_renamed f (leaf a) p q h = h a
  sum_renamed f (node l r) p q h = sum_renamed_row f r p q h

  sum_renamed_row : (f : ℕ → ℕ) (r : Row ℕ) (p q : ℕ → ℕ) → ((a : ℕ) → p (f a) ≡ q a) → sum_row (graft_row r (λ a. leaf (f a))) p ≡ sum_row r q
  sum_renamed_row f none p q h = refl
  sum_renamed_row f (more t r) p q h = ap₂ (λ m n. m + n) (sum_renamed f t p q h) (sum_renamed_row f r p q h)

map_twice : {X Y Z : Type 0} (g : Y → Z) (f : X → Y) (l : List X) → map g (map f l) ≡ map (λ x. g (f x)) l
map_twice g f [] = refl
map_twice g f (x ∷ l) = ap (λ m. g (f x) ∷ m) (map_twice g f l)

map-append : {X Y : Type 0} (f : X → Y) (k l : List X) → map f (k ++ l) ≡ map f k ++ map f l
map-append f [] l = refl
map-append f (x ∷ k) l = ap (λ m. f x ∷ m) (map-append f k l)

map-below : {X Y : Type 0} (f : X → Y) (b : ℕ) (g : ℕ → List X) → map f (joined_below b g) ≡ joined_below b (λ i. map f (g i))
map-below f zero g = refl
map-below f (suc b) g = map-append f (joined_below b g) (g b) ∙ ap (λ m. m ++ map f (g b)) (map-below f b g)

map-splits : {X Y : Type 0} (f : X → Y) (l : List ℕ) (g : List ℕ → List ℕ → List X) → map f (joined_splits l g) ≡ joined_splits l (λ b c. map f (g b c))
map-splits f [] g = refl
map-splits f (x ∷ l) g =
    map-append f (joined_splits l (λ b c. g (x ∷ b) c)) (joined_splits l (λ b c. g b (x ∷ c)))
    ∙ ap₂ (λ k m. k ++ m) (map-splits f l (λ b c. g (x ∷ b) c)) (map-splits f l (λ b c. g b (x ∷ c)))

splits_renamed : {X : Type 0} (f : ℕ → ℕ) (l : List ℕ) (g : List ℕ → List ℕ → List X) → joined_splits (map f l) g ≡ joined_splits l (λ b c. g (map f b) (map f c))
splits_renamed f [] g = refl
splits_renamed f (x ∷ l) g = ap₂ (λ k m. k ++ m) (splits_renamed f l (λ b c. g (f x ∷ b) c)) (splits_renamed f l (λ b c. g b (f x ∷ c)))

module _ (f : ℕ → ℕ) (keeps : KeepsOrder f) where
  abbrev other : Tree ℕ → Tree ℕ
  other t = map_tree f t

  abbrev other_row : Row ℕ → Row ℕ
  other_row r = graft_row r (λ i. leaf (f i))

  -- ---- ranks

  below_back : (a n : ℕ) → f a < f n → Dec (a < n) → a < n
  below_back a n h (yes k) = k
  below_back a n h (no k) = absurd (equal_or_greater (ℕ_discrete a n))
    where
      equal_or_greater : Dec (a ≡ n) → ⊥
      equal_or_greater (yes e) = let same = ap f e in omega (arith, h, same)
      equal_or_greater (no e) = let above = keeps.rises n a (omega (arith, k, e)) in omega (arith, h, above)

  same_rank : (n : ℕ) (t : Tree ℕ) → below (f n) (other t) ≡ below n t
  same_rank n t =
      below_sum (f n) (other t)
      ∙ sum_renamed f t (λ a. one_if (dec_lt a (f n))) (λ a. one_if (dec_lt a n))
      (λ a. same_if (dec_lt (f a) (f n)) (dec_lt a n) (λ h. below_back a n h (dec_lt a n)) (λ h. keeps.rises a n h))
      ∙ sym (below_sum n t)

  pub same_standard : (t : Tree ℕ) → standard (other t) ≡ standard t
  same_standard t =
      graft_assoc t (λ i. leaf (f i)) (λ i. leaf (suc (below i (other t))))
      ∙ graft-ext t (λ i. leaf (suc (below (f i) (other t)))) (λ i. leaf (suc (below i t))) (λ i. ap (λ n. leaf (suc n)) (same_rank i t))

  mutual
    least_renamed : (t : Tree ℕ) → least (other t) ≡ f (least t)
    least_renamed (leaf n) = refl
    least_renamed (node l r) = least_row_renamed r

    least_row_renamed : (r : Row ℕ) → least_row (other_row r) ≡ f (least_row r)
    least_row_renamed none = sym keeps.none
    least_row_renamed (more t r) = least_renamed t

  -- a pattern with other leaves in what hangs below it has the same divisor
  abbrev others : Tree (Tree ℕ) → Tree (Tree ℕ)
  others q = map_tree other q

  abbrev others_row : Row (Tree ℕ) → Row (Tree ℕ)
  others_row r = graft_row r (λ v. leaf (other v))

  same_divisor : (q : Tree (Tree ℕ)) → divisor_of (others q) ≡ divisor_of q
  same_divisor q =
      ap standard
      (graft_assoc q (λ v. leaf (other v)) (λ v. leaf (least v))
      ∙ graft-ext q (λ v. leaf (least (other v))) (λ v. leaf (f (least v))) (λ v. ap leaf (least_renamed v))
      ∙ sym (graft_assoc q (λ v. leaf (least v)) (λ i. leaf (f i))))
      ∙ same_standard (graft q (λ v. leaf (least v)))

  -- ---- what is laid on the tree

  each_renamed : (ts : List (Tree (Tree ℕ))) (rs : List (Row (Tree ℕ))) → each_with_each (map others ts) (map others_row rs) ≡ map others_row (each_with_each ts rs)
  each_renamed [] rs = refl
  each_renamed (t ∷ ts) rs =
      ap₂ (λ k l. k ++ l) (map_twice (λ r. more (others t) r) others_row rs ∙ sym (map_twice others_row (λ r. more t r) rs)) (each_renamed ts rs)
      ∙ sym (map-append others_row (map (λ r. more t r) rs) (each_with_each ts rs))

  where_renamed : {A : Type 0} (d : Dec A) (m : ℕ) (k l : List (Row (Tree ℕ))) → k ≡ map others_row l → choose d (map (λ q. node m q) k) [] ≡ map others (choose d (map (λ q. node m q) l) [])
  where_renamed (yes _) m k l e = ap (map (λ q. node m q)) e ∙ map_twice (λ q. node m q) others_row l ∙ sym (map_twice others (λ q. node m q) l)
  where_renamed (no _) m k l e = refl

  mutual
    lay_renamed : (p t : Tree ℕ) → lay p (other t) ≡ map others (lay p t)
    lay_renamed (leaf x) t = refl
    lay_renamed (node l r) (leaf n) = refl
    lay_renamed (node l r) (node m s) = where_renamed (ℕ_discrete l m) m (lay_row r (other_row s)) (lay_row r s) (lay_row_renamed r s)

    lay_row_renamed : (r s : Row ℕ) → lay_row r (other_row s) ≡ map others_row (lay_row r s)
    lay_row_renamed none none = refl
    lay_row_renamed none (more u s) = refl
    lay_row_renamed (more t r) none = refl
    lay_row_renamed (more t r) (more u s) = ap₂ each_with_each (lay_renamed t u) (lay_row_renamed r s) ∙ each_renamed (lay t u) (lay_row r s)

  divisors_renamed : (a : Tree ℕ) (l : List (Tree (Tree ℕ))) → is_empty (with_divisor a 1 (map others l)) ≡ is_empty (with_divisor a 1 l)
  divisors_renamed a [] = refl
  divisors_renamed a (q ∷ l) =
      empty_joined (choose (tree_discrete (divisor_of (others q)) a) (numbers (λ v. v) 1 (others q) ∷ []) []) (with_divisor a 1 (map others l))
      ∙ ap₂ (λ b c. cond b c false)
      (ap (λ d. is_empty (choose (tree_discrete d a) (numbers (λ v. v) 1 (others q) ∷ []) [])) (same_divisor q)
      ∙ empty_where a (tree_discrete (divisor_of q) a) (numbers (λ v. v) 1 (others q)) (numbers (λ v. v) 1 q))
      (divisors_renamed a l)
      ∙ sym (empty_joined (choose (tree_discrete (divisor_of q) a) (numbers (λ v. v) 1 q ∷ []) []) (with_divisor a 1 l))

  pub undivided_renamed : (l : List Element) (t : Tree ℕ) → undivided l (other t) ≡ undivided l t
  undivided_renamed [] t = refl
  undivided_renamed (g ∷ l) t =
      ap₂ (λ b c. cond b c false) (ap (λ k. is_empty (with_divisor g.lead 1 k)) (lay_renamed g.lead t) ∙ divisors_renamed g.lead (lay g.lead t)) (undivided_renamed l t)

  mutual
    free_renamed : (l : List Element) (t : Tree ℕ) → has_no_place l (other t) ≡ has_no_place l t
    free_renamed l (leaf n) = leaf_free l (f n) ∙ sym (leaf_free l n)
    free_renamed l (node g r) =
        free_by_inputs l g (other_row r) ∙ ap₂ (λ b c. cond b c false) (undivided_renamed l (node g r)) (inputs_renamed l r)
        ∙ sym (free_by_inputs l g r)

    inputs_renamed : (l : List Element) (r : Row ℕ) → each_passes (has_no_place l) (other_row r) ≡ each_passes (has_no_place l) r
    inputs_renamed l none = refl
    inputs_renamed l (more t r) = ap₂ (λ b c. cond b c false) (free_renamed l t) (inputs_renamed l r)

  -- ---- the lists

  lone_renamed : (l : List ℕ) → lone (map f l) ≡ map other (lone l)
  lone_renamed [] = refl
  lone_renamed (a ∷ []) = refl
  lone_renamed (a ∷ (b ∷ l)) = refl

  each_other : (ts : List (Tree ℕ)) (rs : List (Row ℕ)) → each_with_each (map other ts) (map other_row rs) ≡ map other_row (each_with_each ts rs)
  each_other [] rs = refl
  each_other (t ∷ ts) rs =
      ap₂ (λ k l. k ++ l) (map_twice (λ r. more (other t) r) other_row rs ∙ sym (map_twice other_row (λ r. more t r) rs)) (each_other ts rs)
      ∙ sym (map-append other_row (map (λ r. more t r) rs) (each_with_each ts rs))

  rows_renamed : (t_of : List ℕ → List (Tree ℕ)) → ((m : List ℕ) → t_of (map f m) ≡ map other (t_of m)) → (k : ℕ) (l : List ℕ) → rows t_of k (map f l) ≡ map other_row (rows t_of k l)
  rows_renamed t_of h zero [] = refl
  rows_renamed t_of h zero (a ∷ l) = refl
  rows_renamed t_of h (suc k) [] = refl
  rows_renamed t_of h (suc k) (a ∷ l) =
      splits_renamed f l (λ b c. each_with_each (t_of (f a ∷ b)) (rows t_of k c))
      ∙ splits-ext l (λ b c. each_with_each (t_of (f a ∷ map f b)) (rows t_of k (map f c))) (λ b c. map other_row (each_with_each (t_of (a ∷ b)) (rows t_of k c)))
      (λ b c. ap₂ each_with_each (h (a ∷ b)) (rows_renamed t_of h k c) ∙ each_other (t_of (a ∷ b)) (rows t_of k c))
      ∙ sym (map-splits other_row l (λ b c. each_with_each (t_of (a ∷ b)) (rows t_of k c)))

  label_renamed : (l : List Element) (g : ℕ) (rs : List (Row ℕ))
      → filter (undivided l) (map (λ r. node g r) (map other_row rs)) ≡ map other (filter (undivided l) (map (λ r. node g r) rs))
  label_renamed l g rs =
      ap (filter (undivided l)) (map_twice (λ r. node g r) other_row rs)
      ∙ filter-map (undivided l) (λ r. node g (other_row r)) rs
      ∙ ap (map (λ r. node g (other_row r))) (filter-ext (λ r. undivided l (node g (other_row r))) (λ r. undivided l (node g r)) (λ r. undivided_renamed l (node g r)) rs)
      ∙ sym (map_twice other (λ r. node g r) (filter (λ r. undivided l (node g r)) rs))
      ∙ ap (map other) (sym (filter-map (undivided l) (λ r. node g r) rs))

  pub on_numbers : (labels : ℕ) (s : Setting) (levels : ℕ) (l : List ℕ) → free_on labels s levels (map f l) ≡ map other (free_on labels s levels l)
  on_numbers labels s zero l = refl
  on_numbers labels s (suc d) l =
      ap₂ (λ k m. k ++ m) (lone_renamed l)
      (below-ext labels (λ g. filter (undivided s.elements) (map (λ r. node g r) (rows (free_on labels s d) (s.arity g) (map f l))))
      (λ g. map other (filter (undivided s.elements) (map (λ r. node g r) (rows (free_on labels s d) (s.arity g) l))))
      (λ g. ap (λ rs. filter (undivided s.elements) (map (λ r. node g r) rs)) (rows_renamed (free_on labels s d) (on_numbers labels s d) (s.arity g) l)
      ∙ label_renamed s.elements g (rows (free_on labels s d) (s.arity g) l))
      ∙ sym (map-below other labels (λ g. filter (undivided s.elements) (map (λ r. node g r) (rows (free_on labels s d) (s.arity g) l)))))
      ∙ sym (map-append other (lone l) (joined_below labels (λ g. filter (undivided s.elements) (map (λ r. node g r) (rows (free_on labels s d) (s.arity g) l)))))

pub free_on_numbers : FreeTreesOnNumbers
free_on_numbers f keeps = on_numbers f keeps

pub renamed_are_free : RenamedAreFree
renamed_are_free f keeps = free_renamed f keeps
