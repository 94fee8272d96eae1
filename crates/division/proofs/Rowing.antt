-- Rows of a cone are chains of insertions.
use Rattle.std.specs.Prelude.{slice_index}
use Rattle.std.proofs.Common.{◌≡◌, ℕ, zero, suc, ◌+◌, ◌*◌, ◌%◌, ◌<◌, ◌≤◌, List, [], ◌∷◌, Bool, length, take, set, refl, sym, ◌∙◌, ap, arith, subst, Some, slice_get, get_or}
use mathlib.Core.List.{◌++◌}
use mathlib.Core.Path.{ap₂}
use native.Mathlib.Decide.{ℕ_discrete}
use Rattle.std.specs.List.{range_with_len}
use Rattle.std.specs.Ordering.{nat_cmp}
use Rattle.std.proofs.lemmas.Option.{slice_get_within, get_or_from_slice_get}
use Rattle.std.proofs.lemmas.List.{get_or-map, length-set, take_more, map-append, get_or-set_other}
use Rattle.std.proofs.lemmas.Grind.{get_or-set_at}
use Rattle.std.proofs.Math.ListN.{length-map}
use Rattle.std.proofs.lemmas.List.FromFn.{length-range_with_len}
use Rattle.std.proofs.lemmas.List.Sorted.{length_permutation}
use Rattle.shuffle_sums.proofs.RisingBlocks.{position_within}
use Rattle.modular_sums.specs.Sums.{AllTerms, Same, coef, moved}
use Rattle.modular_sums.proofs.Sums.{AllTerms-append, coef-append}
use Rattle.modular_sums.proofs.Images.{moved-append, moved-moved, moved_eq}
use Rattle.labelled_trees.specs.Trees.{Tree, leaf}
use Rattle.shuffle_insertions.proofs.Comparing.{nat_less}
use Rattle.shuffle_bases.specs.Elements.{Setting}
use Rattle.shuffle_reductions.specs.Chains.{HasNoZeros, IsChain, IsFinished, IsStopped}
use Rattle.modular_sums.specs.Falling.{IsAbove, Falls, IsFalling, AreNonzeroResidues}
use Rattle.modular_sums.specs.PositionChains.{HasNoZeroPositions as HasNoZerosThere, IsPositionChain as IsChainThere, HasNoRuledPosition as IsFinishedThere, HasRuledPosition as IsStoppedThere}
use Rattle.modular_sums.specs.PositionRows.{dense}
use Rattle.modular_sums.proofs.PositionRows.{coef-dense}
use Rattle.modular_sums.proofs.PositionChains.{first_same}
use Rattle.tree_store.specs.Stores.{tree_at}
use Rattle.row_sweeps.specs.Sweeps.{SweepLeadsTo as LeadsThere}
use Rattle.row_sweeps.specs.Terms.{pairs}
use Rattle.row_sweeps.specs.declared.row.Term.{Term}
use Rattle.shuffle_sums.specs.Sums.{pairs as ids_of}
use Rattle.shuffle_sums.specs.declared.sum.Term.{Term as IdTerm}
use Rattle.shuffle_reductions.specs.Swept.{tree_in, on_trees, RisesBy}
use Rattle.shuffle_reductions.specs.SweepLaws.{SweptLaw}
use Rattle.shuffle_reductions.proofs.SweptThrough.{swept}
use Rattle.division.specs.Cones.{trees_of, IsCone, IsConeOver}
use Rattle.division.specs.Rows.{id_at, LeadsTo, IsSumAtPlaces}
use Rattle.division.specs.declared.cones.Cone.{Cone}
use Rattle.modular_sums.specs.Lists.{choose}
use Rattle.modular_sums.proofs.Choices.{choose-yes, choose-no}

-- ---- positions and ids

module _ (given : List ℕ) (cone : Cone) (c : IsCone given cone) where
  pub order_length : length cone.order.items ≡ length cone.ids
  order_length = length_permutation (range_with_len 0 (length cone.ids)) cone.order.items c.ranks.each ∙ length-range_with_len 0 (length cone.ids)

  pub place_of_position : (p : ℕ) → p < length cone.ids → slice_index cone.order.items p < length cone.ids
  place_of_position p lt = position_within (length cone.ids) cone.order.items p c.ranks.each (let l = order_length in omega (arith, l, lt))

  -- the id at the position of a place
  pub id_at_rank : (k id : ℕ) → slice_get cone.ids k ≡ Some id → (slice_index cone.ranks.items k < length cone.ids) × (id_at cone (slice_index cone.ranks.items k) ≡ id)
  id_at_rank k id e =
      let lt = slice_get_within cone.ids k id e in
      (c.ranks.within k lt, ap (slice_index cone.ids) (c.ranks.back k lt) ∙ get_or_from_slice_get cone.ids k id 0 e)

falls_over : (s : Setting) (t : List (Tree ℕ)) (n : ℕ) → length t ≡ n → RisesBy s t → (l : List (ℕ × ℕ)) → AllTerms l (λ p. p < n) → Falls nat_cmp l → Falls s.compare (on_trees t l)
falls_over s t n size r [] w h = tt
falls_over s t n size r (x ∷ l) w h = (above l w.1 h.0, falls_over s t n size r l w.1 h.1)
  where
    above : (l : List (ℕ × ℕ)) → AllTerms l (λ p. p < n) → IsAbove nat_cmp x.1 l → IsAbove s.compare (tree_in t x.1) (on_trees t l)
    above [] u h = tt
    above (y ∷ l) u h = r y.1 x.1 (nat_less y.1 x.1 h) (let lt = w.0 in omega (arith, lt, size))

residues_over : (q : ℕ) (t : List (Tree ℕ)) (l : List (ℕ × ℕ)) → AreNonzeroResidues q l → AreNonzeroResidues q (on_trees t l)
residues_over q t [] h = tt
residues_over q t (x ∷ l) h = (h.0, h.1, residues_over q t l h.2)

-- ---- chains

module _ (given : List ℕ) (cone : Cone) (c : IsCone given cone) (s : Setting) (n : ℕ) (trees : List (Tree ℕ)) (h : IsConeOver s n trees cone) where
  abbrev there : List (Tree ℕ)
  there = trees_of trees cone

  size : length there ≡ length cone.ids
  size = length-map cone.order.items (λ p. tree_at trees (slice_index cone.ids p)) ∙ order_length given cone c

  at : (p : ℕ) → p < length cone.ids → tree_in there p ≡ tree_at trees (id_at cone p)
  at p lt = get_or-map (λ k. tree_at trees (slice_index cone.ids k)) cone.order.items p 0 (leaf 0) (let l = order_length given cone c in omega (arith, l, lt))

  over_ids : (e : List (ℕ × ℕ)) → AllTerms e (λ p. p < length cone.ids) → on_trees there e ≡ moved (tree_at trees) (moved (id_at cone) e)
  over_ids e w = moved_eq (tree_in there) (λ p. tree_at trees (id_at cone p)) (λ p. p < length cone.ids) e w at ∙ sym (moved-moved (id_at cone) (tree_at trees) e)

  in_trees : (e : List (ℕ × ℕ)) → AllTerms e (λ p. p < length cone.ids) → AllTerms e (λ p. p < length there)
  in_trees e w = subst (λ k. AllTerms e (λ p. p < k)) (sym size) w

  law : SweptLaw s n there h.insertions cone.table.rules
  law = swept s h.order n there h.insertions cone.table.rules h.table

  module _ (sum placed : List (ℕ × ℕ)) (stands : IsSumAtPlaces cone sum placed) (row : List ℕ) (filled : (t : ℕ) → slice_index row t ≡ coef ℕ_discrete placed t)
      (rest : List (ℕ × ℕ)) (before after : ℕ) (keep : Bool) (log now : List (ℕ × ℕ)) (l : LeadsThere cone.table.q cone.table.rules (dense row) rest before after keep log now) where
    pub rest_within : AllTerms rest (λ p. p < length cone.ids)
    rest_within = subst (λ k. AllTerms rest (λ p. p < k)) c.sized l.within

    same_row : Same ℕ_discrete s.q placed (dense row)
    same_row t = ap (λ x. x % suc s.q) (sym (coef-dense row t ∙ filled t))

    pub leads : (ids : List (ℕ × ℕ)) → ids ≡ moved (id_at cone) rest → LeadsTo s n trees h.insertions sum ids before after keep log now
    leads ids e =
        let chain = first_same s.q cone.table.rules l.steps placed (dense row) rest same_row (subst (λ q. IsChainThere q cone.table.rules (dense row) l.steps rest) h.prime l.chain) in
        let through = law.chain placed l.steps rest (in_trees placed stands.within) chain in
        let first : on_trees there placed ≡ moved (tree_at trees) sum = over_ids placed stands.within ∙ ap (moved (tree_at trees)) stands.same in
        let last : on_trees there rest ≡ moved (tree_at trees) ids = over_ids rest rest_within ∙ ap (moved (tree_at trees)) (sym e) in
        record {
          steps = l.steps;
          uses = through.0;
          are_uses = through.1;
          chain = subst (λ f. IsChain s n (moved (tree_at trees) sum) through.0 f) last (subst (λ f. IsChain s n f through.0 (on_trees there rest)) first through.2);
          counted = l.counted;
          logged = l.logged;
          falls = subst (IsFalling s.compare (suc s.q)) last (record {
            residues = residues_over (suc s.q) there rest (subst (λ q. AreNonzeroResidues (suc q) rest) h.prime l.falls.residues);
            falls = falls_over s there (length cone.ids) size h.table.rises rest rest_within l.falls.falls;
          });
          no_zeros = subst (HasNoZeros s.q) last (law.no_zeros rest (in_trees rest rest_within) (subst (λ q. HasNoZerosThere q rest) h.prime l.no_zeros));
        }

    pub finished : (ids : List (ℕ × ℕ)) → ids ≡ moved (id_at cone) rest → IsFinishedThere cone.table.q cone.table.rules rest → IsFinished s (moved (tree_at trees) ids)
    finished ids e f =
        let last : on_trees there rest ≡ moved (tree_at trees) ids = over_ids rest rest_within ∙ ap (moved (tree_at trees)) (sym e) in
        subst (IsFinished s) last (law.finished rest (in_trees rest rest_within) (subst (λ q. IsFinishedThere q cone.table.rules rest) h.prime f))

    pub stopped : (ids : List (ℕ × ℕ)) → ids ≡ moved (id_at cone) rest → IsStoppedThere cone.table.q cone.table.rules rest → IsStopped s (moved (tree_at trees) ids)
    stopped ids e f =
        let last : on_trees there rest ≡ moved (tree_at trees) ids = over_ids rest rest_within ∙ ap (moved (tree_at trees)) (sym e) in
        subst (IsStopped s) last (law.stopped rest (in_trees rest rest_within) (subst (λ q. IsStoppedThere q cone.table.rules rest) h.prime f))

lone_coef : (c p t : ℕ) → coef ℕ_discrete ((c, p) ∷ []) t ≡ choose (ℕ_discrete p t) c 0 + 0
unfolding coef
lone_coef c p t = refl

-- ---- a row that is filled

pub record AreFilledSoFar (size : ℕ) (row : List ℕ) (placed : List Term) (i : ℕ) : Type 0 where
  pub sized : length row ≡ size
  pub are : (t : ℕ) → slice_index row t ≡ coef ℕ_discrete (pairs (take i placed)) t
  pub small : (t : ℕ) → slice_index row t ≤ i * 4294967296

pub fill_more : (size : ℕ) (row : List ℕ) (placed : List Term) (i : ℕ) (x : Term) (at number : ℕ) → AreFilledSoFar size row placed i → i < length placed → x ≡ get_or placed i x → x.coef < 4294967296 → at ≡ x.position → at < length row
    → number ≡ slice_index row at + x.coef → AreFilledSoFar size (set row at number) placed (i + 1)
fill_more size row placed i x at number h lt is few pos low num = record {
  sized = length-set row at number ∙ h.sized;
  are = λ t. by t (ℕ_discrete at t) ∙ sym (next t);
  small = λ t. bound t (ℕ_discrete at t);
}
  where
    next : (t : ℕ) → coef ℕ_discrete (pairs (take (i + 1) placed)) t ≡ coef ℕ_discrete (pairs (take i placed)) t + coef ℕ_discrete ((x.coef, x.position) ∷ []) t
    next t =
        let e : pairs (take (i + 1) placed) ≡ pairs (take i placed) ++ ((x.coef, x.position) ∷ [])
        = ap pairs (take_more placed i x lt) ∙ map-append (λ (y : Term). (y.coef, y.position)) (take i placed) (get_or placed i x ∷ []) ∙ ap (λ (y : Term). pairs (take i placed) ++ ((y.coef, y.position) ∷ [])) (sym is) in
        ap (λ l. coef ℕ_discrete l t) e ∙ coef-append ℕ_discrete (pairs (take i placed)) ((x.coef, x.position) ∷ []) t

    one : (t : ℕ) → coef ℕ_discrete ((x.coef, x.position) ∷ []) t ≡ choose (ℕ_discrete x.position t) x.coef 0 + 0
    one t = lone_coef x.coef x.position t

    by : (t : ℕ) → Dec (at ≡ t) → slice_index (set row at number) t ≡ coef ℕ_discrete (pairs (take i placed)) t + coef ℕ_discrete ((x.coef, x.position) ∷ []) t
    by t (yes e) =
        let a = get_or-set_at row at t number 0 (sym e) low in
        let b = choose-yes (ℕ_discrete x.position t) x.coef 0 (sym pos ∙ e) in
        let r = h.are t in
        let o = one t in
        let there : slice_index row at ≡ slice_index row t = ap (slice_index row) e in
        omega (arith, a, b, r, o, there, num)
    by t (no n) =
        let a = get_or-set_other row at t number 0 (λ e. n (sym e)) in
        let b = choose-no (ℕ_discrete x.position t) x.coef 0 (λ e. n (pos ∙ e)) in
        let r = h.are t in
        let o = one t in
        omega (arith, a, b, r, o)

    bound : (t : ℕ) → Dec (at ≡ t) → slice_index (set row at number) t ≤ (i + 1) * 4294967296
    bound t (yes e) =
        let a = get_or-set_at row at t number 0 (sym e) low in
        let s = h.small at in
        omega (arith, a, s, num, few)
    bound t (no n) =
        let a = get_or-set_other row at t number 0 (λ e. n (sym e)) in
        let s = h.small t in
        omega (arith, a, s)

-- ---- terms that are placed or lifted

-- the first terms stand for the first ids
pub stands_more : (cone : Cone) (sum placed : List (ℕ × ℕ)) (c id p : ℕ) → IsSumAtPlaces cone sum placed → id_at cone p ≡ id → p < length cone.ids → IsSumAtPlaces cone (sum ++ ((c, id) ∷ [])) (placed ++ ((c, p) ∷ []))
stands_more cone sum placed c id p h e lt = record {
  same = moved-append (id_at cone) placed ((c, p) ∷ []) ∙ ap₂ (λ l i. l ++ ((c, i) ∷ [])) h.same e;
  within = AllTerms-append placed ((c, p) ∷ []) (λ t. t < length cone.ids) h.within (lt, tt);
}

pub term_at : {X : Type 0} (P : X → Type 0) (l : List (ℕ × X)) (i : ℕ) (x : ℕ × X) → AllTerms l P → slice_get l i ≡ Some x → P x.1
term_at P [] i x h e = absurd (cc e)
term_at P (y ∷ l) zero x h e = let same : y ≡ x = cc e in subst (λ z. P z.1) same h.0
term_at P (y ∷ l) (suc i) x h e = term_at P l i x h.1 e

entry_of : (terms : List IdTerm) (i : ℕ) (x : IdTerm) → i < length terms → x ≡ get_or terms i x → slice_get (ids_of terms) i ≡ Some (x.coef, x.tree)
entry_of [] i x lt e = absurd (omega (arith, lt))
entry_of (y ∷ terms) zero x lt e = ap (λ (z : IdTerm). Some (z.coef, z.tree)) (sym e)
entry_of (y ∷ terms) (suc i) x lt e = entry_of terms i x (omega (arith, lt)) e

entry_placed : (terms : List Term) (i : ℕ) (x : Term) → i < length terms → x ≡ get_or terms i x → slice_get (pairs terms) i ≡ Some (x.coef, x.position)
entry_placed [] i x lt e = absurd (omega (arith, lt))
entry_placed (y ∷ terms) zero x lt e = ap (λ (z : Term). Some (z.coef, z.position)) (sym e)
entry_placed (y ∷ terms) (suc i) x lt e = entry_placed terms i x (omega (arith, lt)) e

pub term_has : (P : ℕ → Type 0) (terms : List IdTerm) (i : ℕ) (x : IdTerm) → AllTerms (ids_of terms) P → i < length terms → x ≡ get_or terms i x → P x.tree
term_has P terms i x h lt e = term_at P (ids_of terms) i (x.coef, x.tree) h (entry_of terms i x lt e)

pub placed_has : (P : ℕ → Type 0) (terms : List Term) (i : ℕ) (x : Term) → AllTerms (pairs terms) P → i < length terms → x ≡ get_or terms i x → P x.position
placed_has P terms i x h lt e = term_at P (pairs terms) i (x.coef, x.position) h (entry_placed terms i x lt e)

ids_more : (terms : List IdTerm) (i : ℕ) (x : IdTerm) → i < length terms → x ≡ get_or terms i x → ids_of (take (i + 1) terms) ≡ ids_of (take i terms) ++ ((x.coef, x.tree) ∷ [])
ids_more terms i x lt e = ap ids_of (take_more terms i x lt) ∙ map-append (λ (y : IdTerm). (y.coef, y.tree)) (take i terms) (get_or terms i x ∷ []) ∙ ap (λ (y : IdTerm). ids_of (take i terms) ++ ((y.coef, y.tree) ∷ [])) (sym e)

pairs_more : (terms : List Term) (i : ℕ) (x : Term) → i < length terms → x ≡ get_or terms i x → pairs (take (i + 1) terms) ≡ pairs (take i terms) ++ ((x.coef, x.position) ∷ [])
pairs_more terms i x lt e = ap pairs (take_more terms i x lt) ∙ map-append (λ (y : Term). (y.coef, y.position)) (take i terms) (get_or terms i x ∷ []) ∙ ap (λ (y : Term). pairs (take i terms) ++ ((y.coef, y.position) ∷ [])) (sym e)

pub place_step : (cone : Cone) (terms : List IdTerm) (placed now : List Term) (i : ℕ) (x : IdTerm) (r : Term) → IsSumAtPlaces cone (ids_of (take i terms)) (pairs placed) → i < length terms → x ≡ get_or terms i x → now ≡ placed ++ (r ∷ [])
    → id_at cone r.position ≡ x.tree → r.position < length cone.ids → r.coef ≡ x.coef → IsSumAtPlaces cone (ids_of (take (i + 1) terms)) (pairs now)
place_step cone terms placed now i x r h lt e n id low same =
    let more = stands_more cone (ids_of (take i terms)) (pairs placed) x.coef x.tree r.position h id low in
    let made : pairs placed ++ ((x.coef, r.position) ∷ []) ≡ pairs now = ap (λ c. pairs placed ++ ((c, r.position) ∷ [])) (sym same) ∙ sym (map-append (λ (y : Term). (y.coef, y.position)) placed (r ∷ [])) ∙ sym (ap pairs n) in
    subst (λ l. IsSumAtPlaces cone l (pairs now)) (sym (ids_more terms i x lt e)) (subst (IsSumAtPlaces cone (ids_of (take i terms) ++ ((x.coef, x.tree) ∷ []))) made more)

pub lift_step : (cone : Cone) (placed : List Term) (terms now : List IdTerm) (i : ℕ) (x : Term) (r : IdTerm) → ids_of terms ≡ moved (id_at cone) (pairs (take i placed)) → i < length placed → x ≡ get_or placed i x → now ≡ terms ++ (r ∷ [])
    → r.tree ≡ id_at cone x.position → r.coef ≡ x.coef → ids_of now ≡ moved (id_at cone) (pairs (take (i + 1) placed))
lift_step cone placed terms now i x r h lt e n id same =
    ap ids_of n ∙ map-append (λ (y : IdTerm). (y.coef, y.tree)) terms (r ∷ []) ∙ ap₂ (λ l z. l ++ (z ∷ [])) h (ap₂ (λ (a b : ℕ). (a, b)) same id)
    ∙ sym (moved-append (id_at cone) (pairs (take i placed)) ((x.coef, x.position) ∷ [])) ∙ ap (moved (id_at cone)) (sym (pairs_more placed i x lt e))

moved_length : (f : ℕ → ℕ) (l : List (ℕ × ℕ)) → length (moved f l) ≡ length l
moved_length f [] = refl
moved_length f (x ∷ l) = ap suc (moved_length f l)

pub stands_length : (cone : Cone) (terms : List IdTerm) (placed : List Term) → IsSumAtPlaces cone (ids_of terms) (pairs placed) → length placed ≡ length terms
stands_length cone terms placed h =
    let a = length-map {B = ℕ × ℕ} placed (λ (y : Term). (y.coef, y.position)) in
    let b = length-map {B = ℕ × ℕ} terms (λ (y : IdTerm). (y.coef, y.tree)) in
    let m = moved_length (id_at cone) (pairs placed) in
    let e = ap length h.same in
    omega (arith, a, b, m, e)

pub filled_none : (row : List ℕ) (placed : List Term) → ((t : ℕ) → slice_index row t ≡ 0) → AreFilledSoFar (length row) row placed 0
unfolding coef
filled_none row placed z = record { sized = refl; are = λ t. z t; small = λ t. let e = z t in omega (arith, e) }
