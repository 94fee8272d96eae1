-- Ids that are met stand in a list once each.
use Rattle.std.proofs.Common.{◌≡◌, ℕ, ◌+◌, ◌^◌, ◌<◌, ◌≤◌, zero, suc, List, [], ◌∷◌, length, map, take, set, get_or, refl, sym, ◌∙◌, ap, arith, subst, Option, Some, None, slice_get, inl, inr, ◌⊎◌}
use mathlib.Core.List.{◌++◌}
use mathlib.Core.Path.{ap₂}
use Rattle.std.proofs.lemmas.Option.{slice_get-get_or, slice_get_within, get_or_from_slice_get}
use Rattle.std.specs.List.{All}
use Rattle.std.proofs.Math.Seq.{get_or-append_seam}
use Rattle.std.proofs.lemmas.List.{take_more, map-append, append_assoc, append-nil, length-append, get_or_append_left}
use Rattle.labelled_trees.specs.Trees.{Tree}
use Rattle.shuffle_insertions.specs.ShuffleTrees.{IsShuffle, IsShuffleTree}
use Rattle.shuffle_insertions.specs.Frames.{insert, IsFrame}
use Rattle.shuffle_insertions.proofs.Laws.{keeps}
use Rattle.shuffle_places.specs.Places.{frame_at, IsPlace}
use Rattle.shuffle_places.proofs.Laws.{place_frames}
use Rattle.shuffle_places.proofs.Sizes.{one_size}
use Rattle.tree_store.specs.Stores.{tree_at, IsStore}
use Rattle.division.specs.declared.reducer.Reducer.{Reducer}
use Rattle.shuffle_sums.specs.Putting.{Keeps}
use Rattle.division.specs.Dividers.{IsFirstDivider, AreReducers, AreGroups, AreDividers, FoundGrows}
use Rattle.division.specs.KeptTails.{AreKept}
use Rattle.division.specs.Gathered.{IsStepOf, IsGatheredAt, AllOver, AreGathered, AreOver, ArePlaces, CameFrom, Longer, StandAt, SamePlaces, IsWorking}
use Rattle.division.proofs.KeptLists.{entry_pushed, entry_stays, set_here, entry_set}
use Rattle.division.proofs.MadeTrees.{grows_same, grows_both, grown_tree, grows_length}
use Rattle.division.proofs.TailSteps.{told_later, inserted_later, reducers_later, dividers_later}

-- ---- places

pub same_pushed : (old now : List (Option ℕ)) → SamePlaces old now → SamePlaces old (now ++ (None ∷ []))
same_pushed old now h = λ id p. (λ e. entry_stays now None id (Some p) ((h id p).0 e), λ e. by id p (entry_pushed now None id (Some p) e))
  where
    by : (id p : ℕ) → (slice_get now id ≡ Some (Some p)) ⊎ ((id ≡ length now) × (None ≡ Some p)) → slice_get old id ≡ Some (Some p)
    by id p (inl e) = (h id p).1 e
    by id p (inr e) = absurd (cc e.1)

pub same_places : (old new : List (Option ℕ)) (ids : List ℕ) → SamePlaces old new → ArePlaces old ids → ArePlaces new ids
same_places old new ids s h = record { of = λ id p e. h.of id p ((s id p).1 e); to = λ id p e. (s id p).0 (h.to id p e) }

set_stays : {X : Type 0} (xs : List X) (at : ℕ) (x : X) (i : ℕ) (y : X) → (i ≡ at → ⊥) → slice_get xs i ≡ Some y → slice_get (set xs at x) i ≡ Some y
set_stays [] at x i y n e = e
set_stays (z ∷ xs) zero x zero y n e = absurd (n refl)
set_stays (z ∷ xs) zero x (suc i) y n e = e
set_stays (z ∷ xs) (suc at) x zero y n e = e
set_stays (z ∷ xs) (suc at) x (suc i) y n e = set_stays xs at x i y (λ q. n (ap suc q)) e

last_entry : {X : Type 0} (xs : List X) (x : X) → slice_get (xs ++ (x ∷ [])) (length xs) ≡ Some x
last_entry [] x = refl
last_entry (y ∷ xs) x = last_entry xs x

pub enter_places : (places : List (Option ℕ)) (ids : List ℕ) (id : ℕ) → ArePlaces places ids → id < length places → slice_get places id ≡ Some None → ArePlaces (set places id (Some (length ids))) (ids ++ (id ∷ []))
enter_places places ids id h low none = record {
  of = λ i p e. of i p (entry_set places id (Some (length ids)) i (Some p) e);
  to = λ i p e. to i p (entry_pushed ids id p i e);
}
  where
    of : (i p : ℕ) → (slice_get places i ≡ Some (Some p)) ⊎ ((i ≡ id) × (Some (length ids) ≡ Some p)) → slice_get (ids ++ (id ∷ [])) p ≡ Some i
    of i p (inl e) = entry_stays ids id p i (h.of i p e)
    of i p (inr e) = let same : length ids ≡ p = cc e.1 in ap (slice_get (ids ++ (id ∷ []))) (sym same) ∙ last_entry ids id ∙ ap Some (sym e.0)

    to : (i p : ℕ) → (slice_get ids p ≡ Some i) ⊎ ((p ≡ length ids) × (id ≡ i)) → slice_get (set places id (Some (length ids))) i ≡ Some (Some p)
    to i p (inl e) = set_stays places id (Some (length ids)) i (Some p) (λ same. let s = ap (slice_get places) same in let t = h.to i p e in absurd (cc (s, t, none))) (h.to i p e)
    to i p (inr e) = ap (slice_get (set places id (Some (length ids)))) (sym e.1) ∙ set_here places id (Some (length ids)) low ∙ ap (λ n. Some (Some n)) (sym e.0)

pub entered : (ids : List ℕ) (id : ℕ) → slice_get (ids ++ (id ∷ [])) (length ids) ≡ Some id
entered ids id = last_entry ids id

-- ---- the ids of a tail

longer_stays : (old new : List ℕ) → Longer old new → (p id : ℕ) → slice_get old p ≡ Some id → slice_get new p ≡ Some id
longer_stays old new h p id e = subst (λ l. slice_get l p ≡ Some id) (sym h.1) (stays old h.0 p e)
  where
    stays : (xs ys : List ℕ) (p : ℕ) → slice_get xs p ≡ Some id → slice_get (xs ++ ys) p ≡ Some id
    stays [] ys p e = absurd (cc e)
    stays (x ∷ xs) ys zero e = e
    stays (x ∷ xs) ys (suc p) e = stays xs ys p e

pub stand_later : (old new : List ℕ) → Longer old new → (places tail : List ℕ) → StandAt old places tail → StandAt new places tail
stand_later old new h [] [] e = refl
stand_later old new h [] (x ∷ tail) e = absurd (cc e)
stand_later old new h (p ∷ places) [] e = absurd (cc e)
stand_later old new h (p ∷ places) (x ∷ tail) e =
    let first : slice_get old p ≡ Some x = cc e in
    let rest : map (slice_get old) places ≡ map Some tail = cc e in
    ap₂ (λ a b. a ∷ b) (longer_stays old new h p x first) (stand_later old new h places tail rest)

All-front : (P : ℕ → Type 0) (xs : List ℕ) (x : ℕ) → All P (xs ++ (x ∷ [])) → All P xs
All-front P xs x h = λ n d lt. subst P (get_or_append_left xs (x ∷ []) d n lt) (h n d (let w = length-append xs (x ∷ []) in omega (arith, w, lt)))

-- ---- entries that came

pub came_same : (ids tail : List ℕ) → CameFrom ids ids tail
came_same ids tail = λ p x e. inl e

pub came_pushed : (ids : List ℕ) (id : ℕ) → CameFrom ids (ids ++ (id ∷ [])) (id ∷ [])
came_pushed ids id = λ p x e. by p x (entry_pushed ids id p x e)
  where
    by : (p x : ℕ) → (slice_get ids p ≡ Some x) ⊎ ((p ≡ length ids) × (id ≡ x)) → (slice_get ids p ≡ Some x) ⊎ ((k : ℕ) × (slice_get (id ∷ []) k ≡ Some x))
    by p x (inl e) = inl e
    by p x (inr e) = inr (0, ap Some e.1)

take_entry : (k : ℕ) (tail : List ℕ) (j y : ℕ) → slice_get (take k tail) j ≡ Some y → slice_get tail j ≡ Some y
take_entry zero tail j y e = absurd (cc e)
take_entry (suc k) [] j y e = absurd (cc e)
take_entry (suc k) (x ∷ tail) zero y e = e
take_entry (suc k) (x ∷ tail) (suc j) y e = take_entry k tail j y e

lone : (x j y : ℕ) → slice_get (x ∷ []) j ≡ Some y → x ≡ y
lone x zero y e = cc e
lone x (suc j) y e = absurd (cc e)

pub came_taken : (old new : List ℕ) (k : ℕ) (tail : List ℕ) → CameFrom old new (take k tail) → CameFrom old new tail
came_taken old new k tail h = λ p x e. by p x (h p x e)
  where
    by : (p x : ℕ) → (slice_get old p ≡ Some x) ⊎ ((j : ℕ) × (slice_get (take k tail) j ≡ Some x)) → (slice_get old p ≡ Some x) ⊎ ((j : ℕ) × (slice_get tail j ≡ Some x))
    by p x (inl e) = inl e
    by p x (inr e) = inr (e.0, take_entry k tail e.0 x e.1)

came_more : (old ids later : List ℕ) (k x : ℕ) (tail : List ℕ) → CameFrom old ids (take k tail) → CameFrom ids later (x ∷ []) → k < length tail → x ≡ get_or tail k x → CameFrom old later (take (k + 1) tail)
came_more old ids later k x tail h g lt is = λ p y e. by p y (g p y e)
  where
    next : (take k tail) ++ (x ∷ []) ≡ take (k + 1) tail
    next = ap (λ z. take k tail ++ (z ∷ [])) is ∙ sym (take_more tail k x lt)

    old_one : (p y : ℕ) → (slice_get old p ≡ Some y) ⊎ ((j : ℕ) × (slice_get (take k tail) j ≡ Some y)) → (slice_get old p ≡ Some y) ⊎ ((j : ℕ) × (slice_get (take (k + 1) tail) j ≡ Some y))
    old_one p y (inl e) = inl e
    old_one p y (inr e) = inr (e.0, subst (λ l. slice_get l e.0 ≡ Some y) next (entry_stays (take k tail) x e.0 y e.1))

    by : (p y : ℕ) → (slice_get ids p ≡ Some y) ⊎ ((j : ℕ) × (slice_get (x ∷ []) j ≡ Some y)) → (slice_get old p ≡ Some y) ⊎ ((j : ℕ) × (slice_get (take (k + 1) tail) j ≡ Some y))
    by p y (inl e) = old_one p y (h p y e)
    by p y (inr e) = inr (length (take k tail), subst (λ l. slice_get l (length (take k tail)) ≡ Some y) next (last_entry (take k tail) x ∙ ap Some (lone x e.0 y e.1)))

pub came_last : (old ids later : List ℕ) (k x : ℕ) (tail : List ℕ) → CameFrom old ids (take k tail) → CameFrom ids later (x ∷ []) → k < length tail → x ≡ get_or tail k x → CameFrom old later tail
came_last old ids later k x tail h g lt is = came_taken old later (k + 1) tail (came_more old ids later k x tail h g lt is)

-- What holds on the way: these were met.
pub record IsMeeting (old : List ℕ) (places : List (Option ℕ)) (ids found done : List ℕ) : Type 0 where
  pub are_places : ArePlaces places ids
  pub longer : Longer old ids
  pub there : StandAt ids found done
  pub held : (n : ℕ) → All (λ i. i < n) old → All (λ i. i < n) done → All (λ i. i < n) ids
  pub only : CameFrom old ids done

pub meeting_none : (places : List (Option ℕ)) (ids : List ℕ) → ArePlaces places ids → IsMeeting ids places ids [] []
meeting_none places ids h = record { are_places = h; longer = ([], sym (append-nil ids)); there = refl; held = λ n a b. a; only = came_same ids [] }

pub longer_both : (a b c : List ℕ) → Longer a b → Longer b c → Longer a c
longer_both a b c h g = (h.0 ++ g.0, g.1 ∙ ap (λ l. l ++ g.0) h.1 ∙ append_assoc a h.0 g.0)

pub meeting_more : (old : List ℕ) (before places : List (Option ℕ)) (ids later found tail : List ℕ) (k x p : ℕ) → IsMeeting old before ids found (take k tail) → k < length tail → x ≡ get_or tail k x
    → ArePlaces places later → Longer ids later → slice_get later p ≡ Some x → ((n : ℕ) → All (λ i. i < n) ids → x < n → All (λ i. i < n) later) → CameFrom ids later (x ∷ [])
    → IsMeeting old places later (found ++ (p ∷ [])) (take (k + 1) tail)
meeting_more old before places ids later found tail k x p h lt is hp hl e hh hc = record {
  only = came_more old ids later k x tail h.only hc lt is;
  held = λ n a b.
      let q = subst (All (λ i. i < n)) (take_more tail k x lt) b in
      let m = q (length (take k tail)) x (let w = length-append (take k tail) (get_or tail k x ∷ []) in omega (arith, w)) in
      hh n (h.held n a (All-front (λ i. i < n) (take k tail) (get_or tail k x) q)) (subst (λ i. i < n) (get_or-append_seam (take k tail) (get_or tail k x) [] x ∙ sym is) m);
  are_places = hp;
  longer = longer_both old ids later h.longer hl;
  there =
      map-append (slice_get later) found (p ∷ [])
      ∙ ap₂ (λ a b. a ++ (b ∷ [])) (stand_later ids later hl found (take k tail) h.there) (e ∙ ap Some is)
      ∙ sym (map-append Some (take k tail) (get_or tail k x ∷ [])) ∙ ap (map Some) (sym (take_more tail k x lt));
}

-- ---- a step

groups_later : (a b : List (Tree ℕ)) (reducers : List Reducer) (groups : List (List ℕ)) → Keeps a b → AreReducers a reducers → AreGroups a reducers groups → AreGroups b reducers groups
groups_later a b reducers groups g hr h = record {
  within = h.within;
  rising = h.rising;
  complete = λ e r s l w q. h.complete e r s l w (sym (grown_tree a b g r.lead (hr e r s).lead_low) ∙ q);
}

-- more dividers were found
pub working_found : (trees : List (Tree ℕ)) (reducers : List Reducer) (groups : List (List ℕ)) (old new : List (Option ℕ)) (kept : List (Option (List ℕ))) → IsWorking trees reducers groups old kept
    → AreDividers trees reducers new → length new ≤ length trees → FoundGrows old new → IsWorking trees reducers groups new kept
working_found trees reducers groups old new kept w d few g = record {
  is_store = w.is_store;
  are_reducers = w.are_reducers;
  are_groups = w.are_groups;
  are_dividers = d;
  few = few;
  are_kept = λ id ids s. let t = w.are_kept id ids s in record { element = t.element; reducer = t.reducer; found_is = g id (Some t.element) t.found_is; reducer_is = t.reducer_is; inserted = t.inserted };
}

-- the store grew
pub working_later : (a b : List (Tree ℕ)) (reducers : List Reducer) (groups : List (List ℕ)) (found : List (Option ℕ)) (kept now : List (Option (List ℕ))) → IsWorking a reducers groups found kept
    → Keeps a b → IsStore b → AreKept b reducers found now → IsWorking b reducers groups found now
working_later a b reducers groups found kept now w g s k = record {
  is_store = s;
  are_reducers = reducers_later a b reducers g w.are_reducers;
  are_groups = groups_later a b reducers groups g w.are_reducers w.are_groups;
  are_dividers = dividers_later a b reducers g w.are_reducers found w.few w.are_dividers;
  few = let l = grows_length a b g in let f = w.few in omega (arith, l, f);
  are_kept = k;
}

-- ids that are held are below 2^31
pub held_low : (trees : List (Tree ℕ)) (reducers : List Reducer) (groups : List (List ℕ)) (found : List (Option ℕ)) (kept : List (Option (List ℕ))) (ids : List ℕ) → IsWorking trees reducers groups found kept
    → All (λ i. i < length trees) ids → All (λ i. i < 2 ^ 31) ids
held_low trees reducers groups found kept ids w h = λ n d lt. let x = h n d lt in let f = w.is_store.few in omega (arith, x, f)

-- a place that was read
pub read_place : (xs ys : List (Option ℕ)) (i id : ℕ) (o : Option ℕ) → xs ≡ ys → i ≡ id → id < length ys → get_or xs i None ≡ o → slice_get ys id ≡ Some o
read_place xs ys i id o e f lt g = slice_get-get_or ys id None lt ∙ ap Some (ap₂ (λ l k. get_or l k None) (sym e) (sym f) ∙ g)

-- ---- gathering

first_later : (a b : List (Tree ℕ)) (reducers : List Reducer) → Keeps a b → AreReducers a reducers → (id : ℕ) → id < length a → IsFirstDivider a reducers (tree_at a id) None → IsFirstDivider b reducers (tree_at b id) None
first_later a b reducers g hr id low f = λ e d. f e
    (d.0, d.1, (d.2.0, subst (IsPlace (tree_at a id) d.2.0) (grown_tree a b g d.0.lead (hr e d.0 d.1).lead_low) (subst (λ t. IsPlace t d.2.0 (tree_at b d.0.lead)) (grown_tree a b g id low) d.2.1)))

gathered_later : (a b : List (Tree ℕ)) (reducers : List Reducer) (found found' : List (Option ℕ)) (ids later : List ℕ) → Keeps a b → AreReducers a reducers → FoundGrows found found' → Longer ids later → (id : ℕ) (places : List ℕ) → id < length a
    → IsGatheredAt a reducers found ids id places → IsGatheredAt b reducers found' later id places
gathered_later a b reducers found found' ids later g hr fg l id places low (inl h) = inl (record { found_is = fg id None h.0.found_is; none = first_later a b reducers g hr id low h.0.none }, h.1)
gathered_later a b reducers found found' ids later g hr fg l id places low (inr h) = inr (
  h.0,
  record {
    element = h.1.element;
    reducer = h.1.reducer;
    found_is = fg id (Some h.1.element) h.1.found_is;
    reducer_is = h.1.reducer_is;
    inserted = told_later a b reducers g hr h.1.element id h.1.reducer h.0 h.1.reducer_is low (inserted_later a b reducers g hr (tree_at a id) (tree_at a h.1.reducer.lead) (map (tree_at a) h.1.reducer.tail) h.0 h.1.inserted);
  },
  stand_later ids later l places h.0 h.2,
)

-- the trees of a tail belong to the labels
step_over : (trees : List (Tree ℕ)) (reducers : List Reducer) (found : List (Option ℕ)) (arity : ℕ → ℕ) (n x : ℕ) (tail : List ℕ) → AreReducers trees reducers → AreOver arity trees reducers
    → IsStepOf trees reducers found x tail → IsShuffleTree arity n (tree_at trees x) → AllOver arity n trees tail
step_over trees reducers found arity n x tail hr over (inl h) v = λ p i e. absurd (cc (ap (λ l. slice_get l p) h.1 ∙ refl, e))
step_over trees reducers found arity n x tail hr over (inr h) v = λ p i e. by p i e
  where
    frames : (k : ℕ) × IsShuffle k (tree_at trees h.reducer.lead) × IsFrame k (frame_at h.inserted.set (tree_at trees x)) × (insert (frame_at h.inserted.set (tree_at trees x)) (tree_at trees h.reducer.lead) ≡ tree_at trees x)
    frames = let p = place_frames.0 n (tree_at trees x) h.inserted.set (tree_at trees h.reducer.lead) v.shuffle h.inserted.place in (p.0, p.1, p.2, p.3)

    fits : IsFrame h.reducer.arity (frame_at h.inserted.set (tree_at trees x))
    fits = subst (λ k. IsFrame k (frame_at h.inserted.set (tree_at trees x))) (one_size frames.0 h.reducer.arity (tree_at trees h.reducer.lead) frames.1 (hr h.element h.reducer h.reducer_is).lead_valid) frames.2

    put : (y : Tree ℕ) → IsShuffleTree arity h.reducer.arity y → IsShuffleTree arity n (insert (frame_at h.inserted.set (tree_at trees x)) y)
    put y w = (keeps h.reducer.arity n (frame_at h.inserted.set (tree_at trees x)) (tree_at trees h.reducer.lead) y fits).1 arity (over h.element h.reducer h.reducer_is).0 w (subst (IsShuffleTree arity n) (sym frames.3) v)

    all : (made things : List ℕ) → map (tree_at trees) made ≡ map (insert (frame_at h.inserted.set (tree_at trees x))) (map (tree_at trees) things) → ((k i : ℕ) → slice_get things k ≡ Some i → IsShuffleTree arity h.reducer.arity (tree_at trees i))
        → (p i : ℕ) → slice_get made p ≡ Some i → IsShuffleTree arity n (tree_at trees i)
    all [] things e w p i q = absurd (cc q)
    all (m ∷ made) [] e w p i q = absurd (cc e)
    all (m ∷ made) (t ∷ things) e w zero i q =
        let same : tree_at trees m ≡ insert (frame_at h.inserted.set (tree_at trees x)) (tree_at trees t) = cc e in
        let is : m ≡ i = cc q in
        subst (λ j. IsShuffleTree arity n (tree_at trees j)) is (subst (IsShuffleTree arity n) (sym same) (put (tree_at trees t) (w 0 t refl)))
    all (m ∷ made) (t ∷ things) e w (suc p) i q =
        let rest : map (tree_at trees) made ≡ map (insert (frame_at h.inserted.set (tree_at trees x))) (map (tree_at trees) things) = cc e in
        all made things rest (λ k j u. w (suc k) j u) p i q

    by : (p i : ℕ) → slice_get tail p ≡ Some i → IsShuffleTree arity n (tree_at trees i)
    by p i e = all tail h.reducer.tail h.inserted.are (over h.element h.reducer h.reducer_is).1 p i e

held_entry : (n : ℕ) (ids : List ℕ) → All (λ i. i < n) ids → (p i : ℕ) → slice_get ids p ≡ Some i → i < n
held_entry n ids h p i e = subst (λ j. j < n) (get_or_from_slice_get ids p i i e) (h p i (slice_get_within ids p i e))

-- the trees that came belong to the labels where the others do
module _ (trees later : List (Tree ℕ)) (reducers : List Reducer) (ids ids' given : List ℕ) (grows : Keeps trees later) (hr : AreReducers trees reducers) (held : All (λ i. i < length trees) ids)
    (longer : Longer given ids) where
  over_before : (arity : ℕ → ℕ) → AreOver arity later reducers → AreOver arity trees reducers
  over_before arity a = λ e r q. (
    subst (IsShuffleTree arity r.arity) (grown_tree trees later grows r.lead (hr e r q).lead_low) (a e r q).0,
    λ k i u. subst (IsShuffleTree arity r.arity) (grown_tree trees later grows i (held_entry (length trees) r.tail (hr e r q).tail_low k i u)) ((a e r q).1 k i u),
  )

  given_before : (arity : ℕ → ℕ) (n : ℕ) → AllOver arity n later given → AllOver arity n trees given
  given_before arity n b = λ p i e. subst (IsShuffleTree arity n) (grown_tree trees later grows i (held_entry (length trees) ids held p i (longer_stays given ids longer p i e))) (b p i e)

  over_later : (tail : List ℕ) → CameFrom ids ids' tail → ((arity : ℕ → ℕ) (n : ℕ) → AreOver arity trees reducers → AllOver arity n trees given → AllOver arity n trees ids) → (x : ℕ) (found' : List (Option ℕ))
      → IsStepOf later reducers found' x tail → (at : ℕ) → slice_get ids at ≡ Some x → AreReducers later reducers
      → (arity : ℕ → ℕ) (n : ℕ) → AreOver arity later reducers → AllOver arity n later given → AllOver arity n later ids'
  over_later tail came h x found' s at stands hl arity n a b = λ p i e. by p i (came p i e)
    where
      old : (p i : ℕ) → slice_get ids p ≡ Some i → IsShuffleTree arity n (tree_at later i)
      old p i e = subst (IsShuffleTree arity n) (sym (grown_tree trees later grows i (held_entry (length trees) ids held p i e))) (h arity n (over_before arity a) (given_before arity n b) p i e)

      by : (p i : ℕ) → (slice_get ids p ≡ Some i) ⊎ ((k : ℕ) × (slice_get tail k ≡ Some i)) → IsShuffleTree arity n (tree_at later i)
      by p i (inl e) = old p i e
      by p i (inr e) = step_over later reducers found' arity n x tail hl a s (old at x stands) e.0 i e.1

-- What holds on the way: the steps of these ids were gathered.
pub record IsGathering (first trees : List (Tree ℕ)) (reducers : List Reducer) (groups : List (List ℕ)) (start found : List (Option ℕ)) (kept : List (Option (List ℕ))) (places : List (Option ℕ)) (given ids : List ℕ) (tails : List (List ℕ)) : Type 0 where
  pub grows : Keeps first trees
  pub found_grows : FoundGrows start found
  pub works : IsWorking trees reducers groups found kept
  pub are_places : ArePlaces places ids
  pub longer : Longer given ids
  pub held : All (λ i. i < length trees) ids
  pub over : (arity : ℕ → ℕ) (n : ℕ) → AreOver arity trees reducers → AllOver arity n trees given → AllOver arity n trees ids
  pub few : length tails ≤ length ids
  pub steps : (p id : ℕ) (t : List ℕ) → slice_get ids p ≡ Some id → slice_get tails p ≡ Some t → IsGatheredAt trees reducers found ids id t

pub gathering_none : (trees : List (Tree ℕ)) (reducers : List Reducer) (groups : List (List ℕ)) (found : List (Option ℕ)) (kept : List (Option (List ℕ))) (places : List (Option ℕ)) (ids : List ℕ)
    → IsWorking trees reducers groups found kept → ArePlaces places ids → All (λ i. i < length trees) ids → IsGathering trees trees reducers groups found found kept places ids ids []
gathering_none trees reducers groups found kept places ids w h k = record {
  grows = grows_same trees;
  found_grows = λ i o e. e;
  works = w;
  are_places = h;
  longer = ([], sym (append-nil ids));
  held = k;
  over = λ arity n a b. b;
  few = omega arith;
  steps = λ p id t e f. absurd (cc f);
}

module _ (first trees later : List (Tree ℕ)) (reducers : List Reducer) (groups : List (List ℕ)) (start found found' : List (Option ℕ)) (kept kept' : List (Option (List ℕ))) (places places' : List (Option ℕ))
    (given ids ids' : List ℕ) (tails : List (List ℕ)) (h : IsGathering first trees reducers groups start found kept places given ids tails) (fg : FoundGrows found found')
    (works : IsWorking later reducers groups found' kept') (grows : Keeps trees later) (hp : ArePlaces places' ids') (longer : Longer ids ids') where
  old_steps : (p id : ℕ) (t : List ℕ) → slice_get ids p ≡ Some id → slice_get tails p ≡ Some t → IsGatheredAt later reducers found' ids' id t
  old_steps p id t e f =
      let q = slice_get_within ids p id e in
      let low : id < length trees = subst (λ i. i < length trees) (get_or_from_slice_get ids p id id e) (h.held p id q) in
      gathered_later trees later reducers found found' ids ids' grows h.works.are_reducers fg longer id t low (h.steps p id t e f)

  at_old : (p id : ℕ) → p < length ids → slice_get ids' p ≡ Some id → slice_get ids p ≡ Some id
  at_old p id lt e =
      let s = slice_get-get_or ids p id lt in
      let l = longer_stays ids ids' longer p (get_or ids p id) s in
      let same : get_or ids p id ≡ id = cc (l, e) in s ∙ ap Some same

  pub gathering_more : (x : ℕ) (tail at : List ℕ) (now : List (List ℕ)) → length tails < length ids → slice_get ids (length tails) ≡ Some x → now ≡ tails ++ (at ∷ []) → IsStepOf later reducers found' x tail → StandAt ids' at tail
      → All (λ i. i < length later) ids' → CameFrom ids ids' tail → IsGathering first later reducers groups start found' kept' places' given ids' now
  gathering_more x tail at now lt stands e s there held came = subst (IsGathering first later reducers groups start found' kept' places' given ids') (sym e) record {
    grows = grows_both first trees later h.grows grows;
    found_grows = λ i o e. fg i o (h.found_grows i o e);
    works = works;
    are_places = hp;
    longer = longer_both given ids ids' h.longer longer;
    held = held;
    over = λ arity n a b. over_later trees later reducers ids ids' given grows h.works.are_reducers h.held h.longer tail came h.over x found' s (length tails) stands works.are_reducers arity n a b;
    few = let a = length-append tails (at ∷ []) in let b = ap length longer.1 in let c = length-append ids longer.0 in omega (arith, a, b, c, lt);
    steps = λ p id t q f. by p id t q (entry_pushed tails at p t f);
  }
    where
      here : (id : ℕ) → x ≡ id → IsStepOf later reducers found' x tail → IsGatheredAt later reducers found' ids' id at
      here id same (inl n) = subst (λ i. IsGatheredAt later reducers found' ids' i at) same (inl (n.0, none at tail n.1 there))
        where
          none : (at tail : List ℕ) → tail ≡ [] → StandAt ids' at tail → at ≡ []
          none [] tail e w = refl
          none (a ∷ at) tail e w = absurd (cc (subst (λ l. StandAt ids' (a ∷ at) l) e w))
      here id same (inr n) = subst (λ i. IsGatheredAt later reducers found' ids' i at) same (inr (tail, n, there))

      by : (p id : ℕ) (t : List ℕ) → slice_get ids' p ≡ Some id → (slice_get tails p ≡ Some t) ⊎ ((p ≡ length tails) × (at ≡ t)) → IsGatheredAt later reducers found' ids' id t
      by p id t q (inl f) = let w = slice_get_within tails p t f in old_steps p id t (at_old p id (omega (arith, w, lt)) q) f
      by p id t q (inr f) =
          let same : x ≡ id = cc (longer_stays ids ids' longer (length tails) x stands, ap (slice_get ids') (sym f.0) ∙ q) in
          subst (IsGatheredAt later reducers found' ids' id) f.1 (here id same s)

pub gathered : (first trees : List (Tree ℕ)) (reducers : List Reducer) (groups : List (List ℕ)) (start found : List (Option ℕ)) (kept : List (Option (List ℕ))) (places : List (Option ℕ)) (given ids : List ℕ) (tails : List (List ℕ))
    → IsGathering first trees reducers groups start found kept places given ids tails → length ids ≤ length tails → AreGathered trees reducers found given ids tails
gathered first trees reducers groups start found kept places given ids tails h le = record { longer = h.longer; held = h.held; over = h.over; as_many = (let f = h.few in omega (arith, f, le)); steps = h.steps }

-- the ids of a step are held
pub step_held : (trees : List (Tree ℕ)) (reducers : List Reducer) (found : List (Option ℕ)) (x : ℕ) (tail : List ℕ) → IsStepOf trees reducers found x tail → All (λ i. i < length trees) tail
step_held trees reducers found x tail (inl h) = subst (All (λ i. i < length trees)) (sym h.1) (λ n d lt. absurd (omega arith))
step_held trees reducers found x tail (inr h) = h.inserted.held
