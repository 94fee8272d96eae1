-- The choices of inputs are rows of trees.
use Rattle.std.proofs.Common.{◌≡◌, ℕ, ◌+◌, ◌<◌, zero, suc, List, [], ◌∷◌, Bool, true, false, cond, length, map, refl, sym, ◌∙◌, ap, arith, inl, inr}
use mathlib.Core.List.{◌++◌}
use mathlib.Core.Path.{ap₂}
use Rattle.std.specs.List.{filter, flat_map}
use Rattle.modular_sums.specs.Lists.{Mem}
use Rattle.labelled_trees.specs.Trees.{Tree, Row, none, more, row}
use Rattle.shuffle_insertions.specs.Listing.{joined_splits, each_with_each, rows}
use Rattle.shuffle_normal_forms.proofs.Filters.{nothing_behind}
use Rattle.normal_listing.specs.declared.parts.Part.{Part}
use Rattle.normal_listing.specs.Choices.{choices, each_before, entry}
use Rattle.normal_listing.specs.Rows.{Split, splits, is_some, proper_parts, AreSets, ChoicesAreRows}
use Rattle.normal_listing.proofs.Adding.{map_joined}

pub flat_joined : {X Y : Type 0} (f : X → List Y) (k l : List X) → flat_map f (k ++ l) ≡ flat_map f k ++ flat_map f l
flat_joined f [] l = refl
flat_joined f (x ∷ k) l = ap (λ m. f x ++ m) (flat_joined f k l) ∙ sym (assoc (f x) (flat_map f k) (flat_map f l))
  where
    assoc : {Y : Type 0} (a b c : List Y) → (a ++ b) ++ c ≡ a ++ (b ++ c)
    assoc [] b c = refl
    assoc (y ∷ a) b c = ap (λ m. y ∷ m) (assoc a b c)

pub flat_of_map : {X Y Z : Type 0} (f : Y → List Z) (g : X → Y) (l : List X) → flat_map f (map g l) ≡ flat_map (λ x. f (g x)) l
flat_of_map f g [] = refl
flat_of_map f g (x ∷ l) = ap (λ m. f (g x) ++ m) (flat_of_map f g l)

pub map_of_flat : {X Y Z : Type 0} (g : Y → Z) (f : X → List Y) (l : List X) → map g (flat_map f l) ≡ flat_map (λ x. map g (f x)) l
map_of_flat g f [] = refl
map_of_flat g f (x ∷ l) = map_joined g (f x) (flat_map f l) ∙ ap (λ m. map g (f x) ++ m) (map_of_flat g f l)

flat_same : {X Y : Type 0} (f g : X → List Y) (l : List X) → ((x : X) → Mem x l → f x ≡ g x) → flat_map f l ≡ flat_map g l
flat_same f g [] h = refl
flat_same f g (x ∷ l) h = ap₂ (λ a b. a ++ b) (h x (inl refl)) (flat_same f g l (λ y m. h y (inr m)))

-- what is nothing can be left out
flat_filtered : {X Y : Type 0} (p : X → Bool) (f : X → List Y) → ((x : X) → p x ≡ false → f x ≡ []) → (l : List X) → flat_map f (filter p l) ≡ flat_map f l
flat_filtered p f h [] = refl
flat_filtered p f h (x ∷ l) = go (p x) (h x) (flat_filtered p f h l)
  where
    go : (b : Bool) → (b ≡ false → f x ≡ []) → flat_map f (filter p l) ≡ flat_map f l → flat_map f (cond b (x ∷ filter p l) (filter p l)) ≡ f x ++ flat_map f l
    go true n e = ap (λ m. f x ++ m) e
    go false n e = e ∙ ap (λ m. m ++ flat_map f l) (sym (n refl))

splits_joined : {X : Type 0} (l : List ℕ) (f : List ℕ → List ℕ → List X) → joined_splits l f ≡ flat_map (λ q. f q.own q.others) (splits l)
splits_joined [] f = sym (nothing_behind (f [] []))
splits_joined (x ∷ l) f =
    ap₂ (λ a b. a ++ b)
    (splits_joined l (λ b c. f (x ∷ b) c) ∙ sym (flat_of_map (λ q. f q.own q.others) (λ q. record { own = x ∷ q.own; others = q.others }) (splits l)))
    (splits_joined l (λ b c. f b (x ∷ c)) ∙ sym (flat_of_map (λ q. f q.own q.others) (λ q. record { own = q.own; others = x ∷ q.others }) (splits l)))
    ∙ sym (flat_joined (λ q. f q.own q.others) (map (λ q. record { own = x ∷ q.own; others = q.others }) (splits l)) (map (λ q. record { own = q.own; others = x ∷ q.others }) (splits l)))

-- ---- rows

each_nothing : (ts : List (Tree ℕ)) → each_with_each ts [] ≡ []
each_nothing [] = refl
each_nothing (t ∷ ts) = each_nothing ts

all_nothing : {X : Type 0} (l : List ℕ) (f : List ℕ → List ℕ → List X) → ((b c : List ℕ) → f b c ≡ []) → joined_splits l f ≡ []
all_nothing [] f h = h [] []
all_nothing (x ∷ l) f h = ap₂ (λ a b. a ++ b) (all_nothing l (λ b c. f (x ∷ b) c) (λ b c. h (x ∷ b) c)) (all_nothing l (λ b c. f b (x ∷ c)) (λ b c. h b (x ∷ c)))

only_whole : {X : Type 0} (l : List ℕ) (f : List ℕ → List ℕ → List X) → ((b : List ℕ) (x : ℕ) (c : List ℕ) → f b (x ∷ c) ≡ []) → joined_splits l f ≡ f l []
only_whole [] f h = refl
only_whole (x ∷ l) f h =
    ap₂ (λ a b. a ++ b) (only_whole l (λ b c. f (x ∷ b) c) (λ b y c. h (x ∷ b) y c)) (all_nothing l (λ b c. f b (x ∷ c)) (λ b c. h b x c))
    ∙ nothing_behind (f (x ∷ l) [])

module _ (tree : ℕ → Tree ℕ) where
  abbrev as_row : List ℕ → Row ℕ
  as_row ids = row (map tree ids)

  more_rows : (id : ℕ) (rs : List (List ℕ)) → map as_row (map (λ r. id ∷ r) rs) ≡ map (λ r. more (tree id) r) (map as_row rs)
  more_rows id [] = refl
  more_rows id (r ∷ rs) = ap (λ m. more (tree id) (as_row r) ∷ m) (more_rows id rs)

  each_rows : (ids : List ℕ) (rs : List (List ℕ)) → map as_row (each_before ids rs) ≡ each_with_each (map tree ids) (map as_row rs)
  each_rows [] rs = refl
  each_rows (id ∷ ids) rs = map_joined as_row (map (λ r. id ∷ r) rs) (each_before ids rs) ∙ ap₂ (λ a b. a ++ b) (more_rows id rs) (each_rows ids rs)

-- the rows over a list, by its proper parts
rows_by_parts : (t : List ℕ → List (Tree ℕ)) (k : ℕ) (l : List ℕ) → rows t (suc (suc k)) l ≡ flat_map (λ q. each_with_each (t q.own) (rows t (suc k) q.others)) (proper_parts l)
rows_by_parts t k [] = refl
rows_by_parts t k (a ∷ l) =
    splits_joined l (λ b c. each_with_each (t (a ∷ b)) (rows t (suc k) c))
    ∙ sym (flat_filtered (λ q. is_some q.others) (λ q. each_with_each (t (a ∷ q.own)) (rows t (suc k) q.others)) none_left (splits l))
    ∙ sym (flat_of_map (λ q. each_with_each (t q.own) (rows t (suc k) q.others)) (λ q. record { own = a ∷ q.own; others = q.others }) (filter (λ q. is_some q.others) (splits l)))
  where
    empty : (own c : List ℕ) → is_some c ≡ false → each_with_each (t (a ∷ own)) (rows t (suc k) c) ≡ []
    empty own [] e = each_nothing (t (a ∷ own))
    empty own (x ∷ c) e = absurd (cc e)

    none_left : (q : Split) → is_some q.others ≡ false → each_with_each (t (a ∷ q.own)) (rows t (suc k) q.others) ≡ []
    none_left q e = empty q.own q.others e

last_row : (t : List ℕ → List (Tree ℕ)) → t [] ≡ [] → (l : List ℕ) → rows t 1 l ≡ each_with_each (t l) (none ∷ [])
last_row t e [] = ap (λ ts. each_with_each ts (none ∷ [])) (sym e)
last_row t e (a ∷ l) = only_whole l (λ b c. each_with_each (t (a ∷ b)) (rows t 0 c)) (λ b x c. each_nothing (t (a ∷ b)))

module _ (tree : ℕ → Tree ℕ) (members : ℕ → List ℕ) (t : List ℕ → List (Tree ℕ)) (on : List (List ℕ)) (parted : List (List Part)) (sets : AreSets tree members t on parted) (nothing : t [] ≡ []) (more_parted : length on < length parted + 1) where
  pub choices_rows : (k n : ℕ) → n < length parted → (k ≡ 0 → n < length on) → map (as_row tree) (choices on parted (suc k) n) ≡ rows t (suc k) (members n)
  choices_rows zero n h low =
      each_rows tree (entry on n) ([] ∷ []) ∙ ap (λ ts. each_with_each ts (none ∷ [])) (sets.trees n (low refl)) ∙ sym (last_row t nothing (members n))
  choices_rows (suc k) n h low =
      map_of_flat (as_row tree) (λ p. each_before (entry on p.own) (choices on parted (suc k) p.others)) (entry parted n)
      ∙ flat_same (λ p. map (as_row tree) (each_before (entry on p.own) (choices on parted (suc k) p.others))) (λ p. each_with_each (t (members p.own)) (rows t (suc k) (members p.others))) (entry parted n) (one (choices_rows k))
      ∙ sym (flat_of_map (λ q. each_with_each (t q.own) (rows t (suc k) q.others)) (λ p. record { own = members p.own; others = members p.others }) (entry parted n))
      ∙ ap (flat_map (λ q. each_with_each (t q.own) (rows t (suc k) q.others))) (sets.parts n h)
      ∙ sym (rows_by_parts t k (members n))
    where
      one : ((m : ℕ) → m < length parted → (k ≡ 0 → m < length on) → map (as_row tree) (choices on parted (suc k) m) ≡ rows t (suc k) (members m))
          → (p : Part) → Mem p (entry parted n) → map (as_row tree) (each_before (entry on p.own) (choices on parted (suc k) p.others)) ≡ each_with_each (t (members p.own)) (rows t (suc k) (members p.others))
      one ih p m =
          let low_parts = sets.below n p m in
          each_rows tree (entry on p.own) (choices on parted (suc k) p.others)
          ∙ ap₂ each_with_each (sets.trees p.own low_parts.0) (ih p.others (let b = low_parts.1 in omega (arith, b, more_parted)) (λ _. low_parts.1))

pub choices_are_rows : ChoicesAreRows
choices_are_rows tree members t on parted sets nothing more_parted = choices_rows tree members t on parted sets nothing more_parted
