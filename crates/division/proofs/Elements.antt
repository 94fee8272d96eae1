-- First dividers and tails, for elements.
use Rattle.std.proofs.Common.{◌≡◌, ℕ, List, [], ◌∷◌, map, refl, sym, ◌∙◌, ap, subst}
use Rattle.modular_sums.specs.Sums.{moved}
use Rattle.labelled_trees.specs.Trees.{Tree}
use Rattle.shuffle_insertions.specs.Frames.{insert}
use Rattle.shuffle_places.specs.Places.{frame_at, IsPlace}
use Rattle.tree_store.specs.Stores.{tree_at}
use Rattle.division.specs.Laws.{trees_in, DividersDecideFreeness, TailsAreInsertions}

pub free_told : DividersDecideFreeness
free_told trees reducers s t h = (
  λ f g m set p. let k = h.each g m in f k.0 (k.1, k.2, (set, subst (IsPlace t set) k.3.lead_is p)),
  λ e f free. let d = f.0 in let k = h.only e d.0 d.1 in free k.0 k.1 d.2.0 (subst (IsPlace t d.2.0) (sym k.2.lead_is) d.2.1),
)

pub trees-moved : (f : Tree ℕ → Tree ℕ) (sum : List (ℕ × Tree ℕ)) → trees_in (moved f sum) ≡ map f (trees_in sum)
trees-moved f [] = refl
trees-moved f (x ∷ sum) = ap (λ ts. f x.1 ∷ ts) (trees-moved f sum)

pub tails_inserted : TailsAreInsertions
tails_inserted trees reducers found s n id ids h t valid =
    let k = h.only t.element t.reducer t.reducer_is in
    let f = insert (frame_at t.inserted.set (tree_at trees id)) in (
      record { of = k.0; member = k.1; tree = tree_at trees id; set = t.inserted.set; valid = valid; place = subst (IsPlace (tree_at trees id) t.inserted.set) (sym k.2.lead_is) t.inserted.place },
      refl,
      t.inserted.are ∙ ap (map f) (sym k.2.tail_is) ∙ sym (trees-moved f k.0.tail),
    )
