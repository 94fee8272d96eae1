-- Cones grow with elements.
use Rattle.std.proofs.Common.{◌≡◌, ℕ, ◌<◌, List, length, set, sym, ◌∙◌, arith, subst, Some, get_or}
use Rattle.std.proofs.Math.ListN.{length-map}
use Rattle.std.proofs.lemmas.List.{get_or-map}
use Rattle.labelled_trees.specs.Trees.{leaf}
use Rattle.shuffle_insertions.specs.ShuffleTrees.{IsShuffleTree}
use Rattle.std.proofs.lemmas.Option.{slice_get-get_or}
use Rattle.tree_store.specs.Stores.{tree_at}
use Rattle.shuffle_reductions.specs.Swept.{tree_in, IsTableOver}
use Rattle.shuffle_reductions.specs.TableGrowth.{AreValid}
use Rattle.shuffle_reductions.proofs.GrownTables.{tables_grow_lem}
use Rattle.row_sweeps.specs.Rules.{Rules}
use Rattle.division.specs.Cones.{trees_of, IsCone}
use Rattle.division.specs.Growing.{with_one, GrowsByElement}
use Rattle.division.specs.declared.cones.Cone.{Cone}
use Rattle.division.proofs.Rowing.{order_length, place_of_position}

pub cone_grows : (given : List ℕ) (old : Cone) (table : Rules) (at : ℕ) (tail : List (ℕ × ℕ)) → IsCone given old → at < length old.ids → table.rules ≡ set old.table.rules at (Some tail) → table.q ≡ old.table.q
    → GrowsByElement old (record old { table = table }) at tail
cone_grows given old table at tail c lt rules prime s n trees h monic g more element =
    let size : length (trees_of trees old) ≡ length old.ids = length-map old.order.items (λ p. tree_at trees (get_or old.ids p 0)) ∙ order_length given old c in
    let valid : AreValid s n (trees_of trees old) = λ k low.
    let kl : k < length old.ids = omega (arith, size, low) in
    let ol = order_length given old c in
    let is : tree_in (trees_of trees old) k ≡ tree_at trees (get_or old.ids (get_or old.order.items k 0) 0) = get_or-map (λ p. tree_at trees (get_or old.ids p 0)) old.order.items k 0 (leaf 0) (omega (arith, ol, kl)) in
    subst (IsShuffleTree s.arity n) (sym is) (h.over (get_or old.order.items k 0) (get_or old.ids (get_or old.order.items k 0) 0) (slice_get-get_or old.ids (get_or old.order.items k 0) 0 (place_of_position given old c k kl))) in
    let made = tables_grow_lem s h.order monic n (trees_of trees old) h.insertions old.table.rules h.table valid g more at (omega (arith, size, lt)) tail element in
    record {
      order = h.order;
      prime = prime ∙ h.prime;
      over = h.over;
      insertions = made.insertions_now;
      table = subst (IsTableOver (with_one s g) n (trees_of trees old) made.insertions_now) (sym rules) made.over_trees;
    }

pub cone_same : (given : List ℕ) (old : Cone) (table : Rules) → length table.rules ≡ length old.table.rules → IsCone given old → IsCone given (record old { table = table })
cone_same given old table e c = record { longer = c.longer; places = c.places; ranks = c.ranks; sized = e ∙ c.sized }
