-- A small common multiple of trees over labels is over the labels.
use Rattle.std.proofs.Common.{◌≡◌, ℕ, suc, List, map, sym, ◌∙◌, ap, subst, inl, inr, ◌⊎◌}
use Rattle.labelled_trees.specs.Trees.{Tree, Row, leaf, node, none, more, width}
use Rattle.labelled_trees.specs.Labelled.{Fits, FitsRow}
use Rattle.shuffle_places.specs.Overlays.{shape, overlays, overlays_row}
use Rattle.modular_sums.specs.Lists.{Mem}
use Rattle.shuffle_places.specs.Multiples.{IsMultiple}
use Rattle.modular_sums.proofs.Lists.{mem_of_map, mem_either}
use Rattle.shuffle_places.proofs.Overlays.{multiple_shape}
use Rattle.labelled_trees.proofs.Fitting.{fits-union, fits_of_graft, fits-graft}
use Rattle.labelled_trees.proofs.Leaves.{AllLeaves-each}

module _ (arity : ℕ → ℕ) where
  row_either : {X : Type 0} (t : Tree X) (r : Row X) (b : Tree X) → FitsRow arity (more t r) → Fits arity b → (x : Row X)
      → ((y : Tree X) → Mem y (overlays t b) → Fits arity y) → ((y : Row X) → Mem y (overlays_row r b) → (width y ≡ width r) × FitsRow arity y)
      → Mem x (map (λ y. more y r) (overlays t b)) ⊎ Mem x (map (more t) (overlays_row r b)) → (width x ≡ suc (width r)) × FitsRow arity x
  row_either t r b h k x f g (inl m) = let c = mem_of_map (λ y. more y r) x (overlays t b) m in (ap width c.2, subst (FitsRow arity) (sym c.2) (f c.0 c.1, h.1))
  row_either t r b h k x f g (inr m) =
      let c = mem_of_map (more t) x (overlays_row r b) m in
      let d = g c.0 c.1 in
      (ap width c.2 ∙ ap suc d.0, subst (FitsRow arity) (sym c.2) (h.0, d.1))

  mutual
    fits_overlay : {X : Type 0} (a b : Tree X) → Fits arity a → Fits arity b → (x : Tree X) → Mem x (overlays a b) → Fits arity x
    fits_overlay (leaf a) b h k x m = absurd m
    fits_overlay (node l r) b h k x (inl e) = subst (Fits arity) (sym e) (fits-union arity (node l r) b h k)
    fits_overlay (node l r) b h k x (inr m) =
        let c = mem_of_map (node l) x (overlays_row r b) m in
        let d = fits_overlay_row r b h.2 k c.0 c.1 in
        subst (Fits arity) (sym c.2) (h.0, d.0 ∙ h.1, d.1)

    fits_overlay_row : {X : Type 0} (r : Row X) (b : Tree X) → FitsRow arity r → Fits arity b → (x : Row X) → Mem x (overlays_row r b) → (width x ≡ width r) × FitsRow arity x
    fits_overlay_row none b h k x m = absurd m
    fits_overlay_row (more t r) b h k x m = row_either t r b h k x (λ y n. fits_overlay t b h.0 k y n) (λ y n. fits_overlay_row r b h.1 k y n) (mem_either x (map (λ y. more y r) (overlays t b)) (map (more t) (overlays_row r b)) m)

  fits-shape : (t : Tree ℕ) → Fits arity t → Fits arity (shape t)
  fits-shape t h = fits-graft arity t (λ a. leaf tt) h (AllLeaves-each t (λ a. Unit {0}) (λ a. tt))

  pub multiple_fits : (n : ℕ) (a b tree : Tree ℕ) (first second : List ℕ) → IsMultiple n a b tree first second → Fits arity a → Fits arity b → Fits arity tree
  multiple_fits n a b tree first second m ha hb = fits_of_graft arity tree (λ x. leaf tt)
      (go (mem_either (shape tree) (overlays (shape a) (shape b)) (overlays (shape b) (shape a)) (multiple_shape n a b tree first second m.overlap)))
    where
      go : Mem (shape tree) (overlays (shape a) (shape b)) ⊎ Mem (shape tree) (overlays (shape b) (shape a)) → Fits arity (shape tree)
      go (inl h) = fits_overlay (shape a) (shape b) (fits-shape a ha) (fits-shape b hb) (shape tree) h
      go (inr h) = fits_overlay (shape b) (shape a) (fits-shape b hb) (fits-shape a ha) (shape tree) h
