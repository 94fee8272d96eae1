-- The test at the root, one lead after the other.
use Rattle.std.proofs.Common.{◌≡◌, ℕ, ◌+◌, ◌<◌, ◌≤◌, List, [], ◌∷◌, Bool, true, false, cond, length, map, drop, refl, sym, ◌∙◌, ap, subst, inl, inr, get_or}
use Rattle.std.proofs.lemmas.List.{drop_more, drop_all}
use Rattle.modular_sums.specs.Lists.{Mem}
use Rattle.labelled_trees.specs.Trees.{Tree, row, IsNode}
use Rattle.shuffle_places.specs.Places.{IsPlace}
use Rattle.shuffle_places.specs.AllPlaces.{lay, with_divisor}
use Rattle.shuffle_bases.specs.Elements.{Element}
use Rattle.shuffle_normal_forms.specs.FreeTrees.{is_empty}
use Rattle.shuffle_places.specs.RootPlaces.{IsShuffleAmong, DividesRoot}
use Rattle.shuffle_places.proofs.RootLaws.{roots}
use Rattle.shuffle_normal_forms.specs.FreeTreeLists.{undivided}
use Rattle.shuffle_normal_forms.proofs.RootTests.{root_is_tested}
use Rattle.tree_store.specs.Stores.{tree_at}
use Rattle.normal_listing.specs.declared.labels.Lead.{Lead}
use Rattle.normal_listing.specs.Vertices.{element, passes, vertex, IsShuffleLead}

-- whether no place of this lead has the root
abbrev clear : List (Tree ℕ) → Lead → ℕ → List ℕ → Bool
clear trees lead l ids = is_empty (with_divisor (tree_at trees lead.id) 1 (lay (tree_at trees lead.id) (vertex trees l ids)))

as_one : (b : Bool) → b ≡ true → cond b true false ≡ true
as_one true e = refl
as_one false e = cc e

of_one : (b : Bool) → cond b true false ≡ true → b ≡ true
of_one true e = refl
of_one false e = cc e

not_true : (b : Bool) → (b ≡ true → ⊥) → b ≡ false
not_true true f = absurd (f refl)
not_true false f = refl

module _ (trees : List (Tree ℕ)) (l : ℕ) (ids : List ℕ) (among : IsShuffleAmong 255 (vertex trees l ids)) (lead : Lead) (is : IsShuffleLead trees lead) where
  is_node : (x : Element) → Mem x (element trees lead ∷ []) → IsNode x.lead
  is_node x (inl e) = subst (λ y. IsNode y.lead) (sym e) is.vertex
  is_node x (inr m) = absurd m

  no_divisor : clear trees lead l ids ≡ true → (parts : ℕ → Tree ℕ) → DividesRoot lead.arity (tree_at trees lead.id) (vertex trees l ids) parts → ⊥
  no_divisor e parts d =
      let p = (roots 255 lead.arity (vertex trees l ids) (tree_at trees lead.id) among is.valid is.vertex).0 parts d in
      (root_is_tested (element trees lead ∷ []) l (row (map (tree_at trees) ids)) is_node).0 (as_one (clear trees lead l ids) e) (element trees lead) (inl refl) p.0 p.2 p.1

  pub clear_of : ((parts : ℕ → Tree ℕ) → DividesRoot lead.arity (tree_at trees lead.id) (vertex trees l ids) parts → ⊥) → clear trees lead l ids ≡ true
  clear_of f =
      of_one (clear trees lead l ids) ((root_is_tested (element trees lead ∷ []) l (row (map (tree_at trees) ids)) is_node).1 none)
    where
      none : (x : Element) → Mem x (element trees lead ∷ []) → (set : List ℕ) → IsPlace (vertex trees l ids) set x.lead → Mem 1 set → ⊥
      none x (inl e) set place root =
          let d = (roots 255 lead.arity (vertex trees l ids) (tree_at trees lead.id) among is.valid is.vertex).1 set (subst (λ y. IsPlace (vertex trees l ids) set y.lead) e place) root in
          f d.0 d.1
      none x (inr m) set place root = absurd m

  pub not_clear : (parts : ℕ → Tree ℕ) → DividesRoot lead.arity (tree_at trees lead.id) (vertex trees l ids) parts → clear trees lead l ids ≡ false
  not_clear parts d = not_true (clear trees lead l ids) (λ e. no_divisor e parts d)

-- what the leads that are left say is the answer
pub record IsTesting (trees : List (Tree ℕ)) (leads : List Lead) (l : ℕ) (ids old parts : List ℕ) (at : ℕ) : Type 0 where
  pub rest : passes trees leads l ids ≡ undivided (map (element trees) (drop at leads)) (vertex trees l ids)
  pub room : length parts ≡ length old

module _ (trees : List (Tree ℕ)) (leads : List Lead) (l : ℕ) (ids : List ℕ) (at : ℕ) (lead : Lead) (less : at < length leads) (lead_is : lead ≡ get_or leads at lead) where
  next_tested : undivided (map (element trees) (drop at leads)) (vertex trees l ids) ≡ cond (clear trees lead l ids) (undivided (map (element trees) (drop (at + 1) leads)) (vertex trees l ids)) false
  next_tested =
      ap (λ xs. undivided (map (element trees) xs) (vertex trees l ids)) (drop_more leads at lead less)
      ∙ ap (λ x. undivided (element trees x ∷ map (element trees) (drop (at + 1) leads)) (vertex trees l ids)) (sym lead_is)

  pub testing_more : (old parts new : List ℕ) → IsTesting trees leads l ids old parts at → clear trees lead l ids ≡ true → length new ≡ length parts → IsTesting trees leads l ids old new (at + 1)
  testing_more old parts new h e n = record {
    rest = h.rest ∙ next_tested ∙ ap (λ b. cond b (undivided (map (element trees) (drop (at + 1) leads)) (vertex trees l ids)) false) e;
    room = n ∙ h.room;
  }

  pub divided : (old parts : List ℕ) → IsTesting trees leads l ids old parts at → clear trees lead l ids ≡ false → passes trees leads l ids ≡ false
  divided old parts h e = h.rest ∙ next_tested ∙ ap (λ b. cond b (undivided (map (element trees) (drop (at + 1) leads)) (vertex trees l ids)) false) e

pub all_tested : (trees : List (Tree ℕ)) (leads : List Lead) (l : ℕ) (ids old parts : List ℕ) (at : ℕ) → length leads ≤ at → IsTesting trees leads l ids old parts at → passes trees leads l ids ≡ true
all_tested trees leads l ids old parts at le h = h.rest ∙ ap (λ xs. undivided (map (element trees) xs) (vertex trees l ids)) (drop_all at leads le)
