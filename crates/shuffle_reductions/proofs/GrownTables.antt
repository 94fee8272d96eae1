-- A table over trees changes with its elements.
use Rattle.std.proofs.Common.{◌≡◌, ◌≢◌, ℕ, zero, suc, ◌<◌, List, [], ◌∷◌, length, map, Option, Some, None, arith, refl, sym, ap, ◌∙◌, subst, inl, inr, ◌⊎◌}
use mathlib.Core.List.{◌++◌}
use native.Mathlib.Decide.{ℕ_discrete}
use Rattle.std.specs.List.{slice_get}
use Rattle.std.specs.Option.{option_map}
use Rattle.std.proofs.Math.ListN.{set}
use Rattle.std.proofs.lemmas.List.{length-set}
use Rattle.std.proofs.lemmas.Option.{slice_get-map, slice_get_within}
use Rattle.modular_sums.specs.Lists.{Mem, choose}
use Rattle.modular_sums.specs.Sums.{coef, AllTerms, Same}
use Rattle.modular_sums.proofs.Residues.{congruent_add}
use Rattle.modular_sums.proofs.Lists.{mem_left, mem_right}
use Rattle.labelled_trees.specs.Trees.{Tree}
use Rattle.labelled_trees.specs.Equality.{tree_discrete}
use Rattle.shuffle_insertions.specs.Orders.{IsTreeOrder}
use Rattle.shuffle_places.specs.Places.{IsPlace}
use Rattle.shuffle_bases.specs.Elements.{Element, terms, Setting, AreMonic, Insertion, value_of}
use Rattle.shuffle_normal_forms.specs.FreeTrees.{IsFree}
use Rattle.shuffle_reductions.proofs.Laws.{whole_insertions}
use Rattle.modular_sums.specs.RuleTables.{Table, HasRule, IsUnruled}
use Rattle.shuffle_reductions.specs.Swept.{tree_in, on_trees, IsRuleOf, IsTableOver}
use Rattle.shuffle_reductions.specs.Extensions.{with_elements as with_elements}
use Rattle.shuffle_reductions.specs.TableGrowth.{AreOneInsertion, IsElementAtPosition, IsChanged, AreValid, TablesChange, TablesGrow}
use Rattle.shuffle_reductions.proofs.SweptStanding.{one_position}

module _ {X : Type 0} where
  slice_get-set_same : (l : List X) (i : ℕ) (x : X) → i < length l → slice_get (set l i x) i ≡ Some x
  slice_get-set_same [] i x h = absurd (omega arith)
  slice_get-set_same (y ∷ l) zero x h = refl
  slice_get-set_same (y ∷ l) (suc i) x h = slice_get-set_same l i x (omega arith)

  slice_get-set_other : (l : List X) (i j : ℕ) (x : X) → j ≢ i → slice_get (set l i x) j ≡ slice_get l j
  slice_get-set_other [] i j x h = refl
  slice_get-set_other (y ∷ l) zero zero x h = absurd (h refl)
  slice_get-set_other (y ∷ l) zero (suc j) x h = refl
  slice_get-set_other (y ∷ l) (suc i) zero x h = refl
  slice_get-set_other (y ∷ l) (suc i) (suc j) x h = slice_get-set_other l i j x (λ e. h (ap suc e))

map_length : {X Y : Type 0} (f : X → Y) (l : List X) → length (map f l) ≡ length l
map_length f [] = refl
map_length f (x ∷ l) = ap suc (map_length f l)

mem_one : {X : Type 0} (v g : X) (k : List X) → Mem v (k ++ (g ∷ [])) → Mem v k ⊎ (v ≡ g)
mem_one v g [] (inl e) = inr e
mem_one v g [] (inr m) = absurd m
mem_one v g (x ∷ k) (inl e) = inl (inl e)
mem_one v g (x ∷ k) (inr m) = go (mem_one v g k m)
  where
    go : Mem v k ⊎ (v ≡ g) → ((v ≡ x) ⊎ Mem v k) ⊎ (v ≡ g)
    go (inl h) = inl (inr h)
    go (inr e) = inr e

last_there : {X : Type 0} (g : X) (k : List X) → Mem g (k ++ (g ∷ []))
last_there g k = mem_right g k (g ∷ []) (inl refl)

same_behind : {M : Type 0} (dec : Discrete M) (q : ℕ) (x : ℕ × M) (a b : List (ℕ × M)) → Same dec q a b → Same dec q (x ∷ a) (x ∷ b)
unfolding coef
same_behind dec q x a b h t = congruent_add q (choose (dec x.1 t) x.0 0) (choose (dec x.1 t) x.0 0) (coef dec a t) (coef dec b t) refl (h t)

some_one : {X : Type 0} (x y : X) → Some (Some x) ≡ Some (Some y) → x ≡ y
some_one x y k = cc

-- the insertion that stands for one, or none
abbrev picked : {A B : Type 0} → (A → Option B) → Option A → Option B
picked f None = None
picked f (Some a) = f a

module _ (s : Setting) (order : IsTreeOrder s.arity s.compare) (monic_before : AreMonic s) (n : ℕ) (trees : List (Tree ℕ)) (insertions : List (Option (Insertion s n))) (table : Table)
    (t : IsTableOver s n trees insertions table) (valid : AreValid s n trees) (l : List Element) (monic : AreMonic (with_elements s l)) (at : ℕ) (at_trees : at < length trees)
    (g : Element) (there : Mem g l) (tail : List (ℕ × ℕ)) (el : IsElementAtPosition s n trees at tail g)
    (old : (h : Element) → Mem h s.elements → Mem h l ⊎ ((h.arity ≡ n) × (h.lead ≡ tree_in trees at))) (new : (h : Element) → Mem h l → Mem h s.elements ⊎ (h ≡ g)) where
  abbrev s_now : Setting
  s_now = with_elements s l

  abbrev Now : Type 0
  Now = Insertion s_now n

  abbrev grow : (i : Insertion s n) → Mem i.of l → Now
  grow i m = record { of = i.of; member = m; tree = i.tree; set = i.set; valid = i.valid; place = i.place }

  abbrev grow_where : (i : Insertion s n) → Mem i.of l ⊎ ((i.of.arity ≡ n) × (i.of.lead ≡ tree_in trees at)) → Option Now
  grow_where i (inl m) = Some (grow i m)
  grow_where i (inr e) = None

  abbrev pick : Insertion s n → Option Now
  pick i = grow_where i (old i.of i.member)

  abbrev Whole : ℕ → Type 0
  Whole m = (i : Insertion s_now m) × (i.of ≡ g) × (i.tree ≡ g.lead) × (value_of i ≡ terms g)

  whole : Whole n
  whole = subst Whole el.arity ((whole_insertions s_now monic).1 g there)

  abbrev now : List (Option Now)
  now = set (map (picked pick) insertions) at (Some whole.0)

  now_there : slice_get now at ≡ Some (Some whole.0)
  now_there = slice_get-set_same (map (picked pick) insertions) at (Some whole.0) (subst (λ m. at < m) (sym (map_length (picked pick) insertions ∙ t.aligned)) at_trees)

  abbrev Kept : ℕ → Insertion s n → Type 0
  Kept k i = (j : Now) × (slice_get now k ≡ Some (Some j)) × AreOneInsertion i j × (value_of j ≡ value_of i)

  -- an insertion in another tree is kept
  kept_other : (k : ℕ) (i : Insertion s n) → k ≢ at → k < length trees → i.tree ≡ tree_in trees k → slice_get insertions k ≡ Some (Some i) → Kept k i
  kept_other k i ne lt p e = go (old i.of i.member) refl
    where
      picked_there : slice_get now k ≡ Some (pick i)
      picked_there = slice_get-set_other (map (picked pick) insertions) at k (Some whole.0) ne ∙ slice_get-map (picked pick) insertions k ∙ ap (option_map (picked pick)) e

      go : (d : Mem i.of l ⊎ ((i.of.arity ≡ n) × (i.of.lead ≡ tree_in trees at))) → old i.of i.member ≡ d → Kept k i
      go (inl m) d = (grow i m, picked_there ∙ ap (λ x. Some (grow_where i x)) d, record { of = refl; tree = refl; set = refl }, refl)
      go (inr r) d = absurd (ne (one_position s order trees t.rises k at lt at_trees (sym p ∙ ((whole_insertions s monic_before).0 n i r.0).0 ∙ r.1)))

  at_table : at < length table
  at_table = subst (λ m. at < m) (sym t.sized) at_trees

  abbrev table_now : Table
  table_now = set table at (Some tail)

  rule_there : (other : List (ℕ × ℕ)) → HasRule table_now at other → tail ≡ other
  rule_there other h = some_one tail other (sym (slice_get-set_same table at (Some tail) at_table) ∙ h)

  rule_other : (k : ℕ) (other : List (ℕ × ℕ)) → k ≢ at → HasRule table_now k other → HasRule table k other
  rule_other k other ne h = sym (slice_get-set_other table at k (Some tail) ne) ∙ h

  -- the rule of the element
  rule_of_whole : IsRuleOf s_now n trees at tail whole.0
  rule_of_whole = record {
    tree = whole.2 ∙ el.lead;
    value = subst (λ e. Same tree_discrete s.q e (on_trees trees ((1, at) ∷ tail))) (sym whole.3)
        (subst (λ u. Same tree_discrete s.q ((1, u) ∷ g.tail) (on_trees trees ((1, at) ∷ tail))) (sym el.lead) (same_behind tree_discrete s.q (1, tree_in trees at) g.tail (on_trees trees tail) el.tail_there));
  }

  lower_now : (k : ℕ) (other : List (ℕ × ℕ)) → HasRule table_now k other → AllTerms other (λ j. j < k)
  lower_now k other h = go (ℕ_discrete k at)
    where
      go : Dec (k ≡ at) → AllTerms other (λ j. j < k)
      go (yes p) = subst (λ i. AllTerms other (λ j. j < i)) (sym p) (subst (λ m. AllTerms m (λ j. j < at)) (rule_there other (subst (λ i. HasRule table_now i other) p h)) el.lower)
      go (no ne) = t.lower k other (rule_other k other ne h)

  abbrev Goal : ℕ → List (ℕ × ℕ) → Type 0
  Goal j m = (i : Now) × (slice_get now j ≡ Some (Some i)) × IsRuleOf s_now n trees j m i

  ruled_other : (k : ℕ) (other : List (ℕ × ℕ)) → k ≢ at → HasRule table k other → Goal k other
  ruled_other k other ne h =
      let r = t.ruled k other h in
      let lt : k < length trees = subst (λ m. k < m) t.sized (slice_get_within table k (Some other) h) in
      let j = kept_other k r.0 ne lt r.2.tree r.1 in
      (j.0, j.1, record { tree = sym j.2.tree ∙ r.2.tree; value = subst (λ e. Same tree_discrete s.q e (on_trees trees ((1, k) ∷ other))) (sym j.3) r.2.value })

  ruled_now : (k : ℕ) (other : List (ℕ × ℕ)) → HasRule table_now k other → Goal k other
  ruled_now k other h = go (ℕ_discrete k at)
    where
      go : Dec (k ≡ at) → Goal k other
      go (yes p) = subst (λ j. Goal j other) (sym p) (subst (Goal at) (rule_there other (subst (λ i. HasRule table_now i other) p h)) (whole.0, now_there, rule_of_whole))
      go (no ne) = ruled_other k other ne (rule_other k other ne h)

  -- the element divides no other tree of the list
  not_new : (k : ℕ) → k ≢ at → k < length trees → (h : Element) → h ≡ g → Mem h l → (set : List ℕ) → IsPlace (tree_in trees k) set h.lead → ⊥
  not_new k ne lt h e m set place =
      let i : Now = record { of = h; member = m; tree = tree_in trees k; set = set; valid = valid k lt; place = place } in
      let p : tree_in trees k ≡ h.lead = ((whole_insertions s_now monic).0 n i (ap (λ (x : Element). x.arity) e ∙ el.arity)).0 in
      ne (one_position s order trees t.rises k at lt at_trees (p ∙ ap (λ (x : Element). x.lead) e ∙ el.lead))

  free_now : (k : ℕ) → IsUnruled table_now k → IsFree s_now (tree_in trees k)
  free_now k u = go (ℕ_discrete k at)
    where
      ruled_there : IsUnruled table_now at → ⊥
      ruled_there v = let r = slice_get-set_same table at (Some tail) at_table in cc (r, v)

      other : k ≢ at → IsFree s_now (tree_in trees k)
      other ne h m set place = split (new h m)
        where
          before : IsUnruled table k
          before = sym (slice_get-set_other table at k (Some tail) ne) ∙ u

          split : Mem h s.elements ⊎ (h ≡ g) → ⊥
          split (inl o) = t.free k before h o set place
          split (inr e) = not_new k ne (subst (λ j. k < j) t.sized (slice_get_within table k None before)) h e m set place

      go : Dec (k ≡ at) → IsFree s_now (tree_in trees k)
      go (yes p) = absurd (ruled_there (subst (IsUnruled table_now) p u))
      go (no ne) = other ne

  pub changed : IsChanged s l n trees insertions table g at tail
  changed = record {
    insertions_now = now;
    over_trees = record {
      rises = t.rises;
      sized = length-set table at (Some tail) ∙ t.sized;
      aligned = length-set (map (picked pick) insertions) at (Some whole.0) ∙ map_length (picked pick) insertions ∙ t.aligned;
      lower = lower_now;
      ruled = ruled_now;
      free = free_now;
    };
    kept = λ k i ne lt p e. let j = kept_other k i ne lt p e in (j.0, j.1, j.2);
    added = (whole.0, now_there, whole.1);
  }

pub tables_change_lem : TablesChange
tables_change_lem s order before n trees insertions table t valid l monic at lt g m tail el old new = changed s order before n trees insertions table t valid l monic at lt g m tail el old new

pub tables_grow_lem : TablesGrow
tables_grow_lem s order before n trees insertions table t valid g monic at lt tail el =
    changed s order before n trees insertions table t valid (s.elements ++ (g ∷ [])) monic at lt g (last_there g s.elements) tail el
    (λ h m. inl (mem_left h s.elements (g ∷ []) m)) (λ h m. mem_one h g s.elements m)
