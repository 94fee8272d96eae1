-- Sums whose trees are inserted into the frame at a place.
use Rattle.std.proofs.Common.{◌≡◌, ℕ, ◌+◌, ◌<◌, ◌≤◌, List, [], ◌∷◌, length, take, get_or, refl, ap, sym, ◌∙◌, subst}
use mathlib.Core.List.{◌++◌}
use mathlib.Core.Path.{ap₂}
use Rattle.std.proofs.lemmas.List.{map-append, take_more}
use Rattle.std.specs.declared.cmp.Ordering.{Ordering}
use Rattle.modular_sums.specs.Sums.{AllTerms, moved}
use Rattle.modular_sums.specs.Falling.{IsAbove, Falls, AreNonzeroResidues, IsFalling}
use Rattle.modular_sums.proofs.Sums.{AllTerms-append, AllTerms-moved}
use Rattle.modular_sums.proofs.Images.{moved-append}
use Rattle.labelled_trees.specs.Trees.{Tree}
use Rattle.labelled_trees.specs.Leaves.{leaf_count}
use Rattle.shuffle_insertions.specs.ShuffleTrees.{IsShuffle, IsShuffleTree}
use Rattle.shuffle_insertions.specs.Frames.{Frame, insert, IsFrame}
use Rattle.shuffle_insertions.specs.Orders.{IsTreeOrder}
use Rattle.shuffle_insertions.proofs.Laws as laws
use Rattle.shuffle_places.specs.Connected.{IsConnected}
use Rattle.shuffle_places.specs.Places.{divisor_at, frame_at}
use Rattle.shuffle_places.proofs.Laws.{place_frames}
use Rattle.shuffle_trees.specs.LabelLists.{arity_in}
use Rattle.shuffle_trees.proofs.Counts.{count_of_shuffle}
use Rattle.tree_store.specs.Stores.{tree_at}
use Rattle.shuffle_sums.specs.Shelves.{Shelf, HasKey, IsShelf, IsShelved, KeepsShelf}
use Rattle.shuffle_sums.specs.Sums.{pairs, over, HaveKeys, AreTrees, FallsBy}
use Rattle.shuffle_sums.specs.Inserting.{FitPlace, inserted_at, FitsFrame, FitFrame, AreInserted}
use Rattle.shuffle_sums.specs.declared.sum.Term.{Term}
use Rattle.shuffle_sums.proofs.Kept.{tree_kept, stands_kept, over_kept, welcome_kept}

-- ---- trees at a place

module _ (arity : ℕ → ℕ) (n : ℕ) (host : Tree ℕ) (place : List ℕ) (valid : IsShuffleTree arity n host) (connected : IsConnected host place) where
  -- a tree with the leaves of the inputs, whose insertion has those of the host
  abbrev IsPut : Tree ℕ → Type 0
  IsPut t = IsShuffle (length (frame_at place host).inputs) t × IsShuffleTree arity n (insert (frame_at place host) t)

  the_frame : IsFrame (length (frame_at place host).inputs) (frame_at place host)
  the_frame =
      let at = place_frames.0 n host place (divisor_at place host) valid.shuffle record { connected = connected; divisor_is = refl } in
      subst (λ k. IsFrame k (frame_at place host)) (sym at.2.as_many) at.2

  put_tree : (m : ℕ) (t : Tree ℕ) → IsShuffleTree arity m t → leaf_count t ≡ leaf_count (divisor_at place host) → IsPut t
  put_tree m t is same =
      let d = divisor_at place host in
      let f = frame_at place host in
      let at = place_frames.0 n host place d valid.shuffle record { connected = connected; divisor_is = refl } in
      let k : m ≡ at.0 = sym (count_of_shuffle m t is.shuffle) ∙ same ∙ count_of_shuffle at.0 d at.1 in
      let here : IsShuffleTree arity at.0 t = subst (λ j. IsShuffleTree arity j t) k is in
      let divisor : IsShuffleTree arity at.0 d = record { fits = at.4 arity valid.fits; shuffle = at.1 } in (
        subst (λ j. IsShuffle j t) (sym at.2.as_many) here.shuffle,
        (laws.keeps at.0 n f d t at.2).1 arity divisor here (subst (IsShuffleTree arity n) (sym at.3) valid),
      )

  put_trees : (m : ℕ) (l : List (ℕ × Tree ℕ)) → AllTerms l (IsShuffleTree arity m) → FitPlace place host l → AllTerms l IsPut
  put_trees m [] h g = tt
  put_trees m (x ∷ l) h g = (put_tree m x.1 h.0 g.0, put_trees m l h.1 g.1)

  module _ (compare : Tree ℕ → Tree ℕ → Ordering) (order : IsTreeOrder arity compare) where
    above_put : (x : Tree ℕ) (l : List (ℕ × Tree ℕ)) → IsPut x → AllTerms l IsPut → IsAbove compare x l → IsAbove compare (insert (frame_at place host) x) (inserted_at place host l)
    above_put x [] h g a = tt
    above_put x (y ∷ l) h g a = order.kept (length (frame_at place host).inputs) n (frame_at place host) y.1 x the_frame g.0.0 h.0 g.0.1.shuffle ∙ a

    -- insertion into one frame keeps the order
    falls_put : (l : List (ℕ × Tree ℕ)) → AllTerms l IsPut → Falls compare l → Falls compare (inserted_at place host l)
    falls_put [] h f = tt
    falls_put (x ∷ l) h f = (above_put x.1 l h.0 h.1 f.0, falls_put l h.1 f.1)

-- ---- sums

residues_moved : {X Y : Type 0} (f : X → Y) (p : ℕ) (l : List (ℕ × X)) → AreNonzeroResidues p l → AreNonzeroResidues p (moved f l)
residues_moved f p [] h = tt
residues_moved f p (x ∷ l) h = (h.0, h.1, residues_moved f p l h.2)

all_weaker : {X : Type 0} (P Q : X → Type 0) (l : List (ℕ × X)) → ((x : X) → P x → Q x) → AllTerms l P → AllTerms l Q
all_weaker P Q [] w h = tt
all_weaker P Q (x ∷ l) w h = (w x.1 h.0, all_weaker P Q l w h.1)

all_of_moved : {X Y : Type 0} (f : X → Y) (l : List (ℕ × X)) (P : Y → Type 0) → AllTerms (moved f l) P → AllTerms l (λ x. P (f x))
all_of_moved f [] P h = tt
all_of_moved f (x ∷ l) P h = (h.0, all_of_moved f l P h.1)

module _ (compare : Tree ℕ → Tree ℕ → Ordering) (p : ℕ) (old : Shelf) (host : ℕ) (place : List ℕ) (sum : List (ℕ × ℕ))
    (shelf : IsShelf old) (key : HasKey old host) (connected : IsConnected (tree_at old.trees host) place) (falls : FallsBy compare p old sum)
    (fit : FitPlace place (tree_at old.trees host) (over old sum)) where
  abbrev host_tree : Tree ℕ
  host_tree = tree_at old.trees host

  whole : (n : ℕ) × (n ≤ old.most) × IsShuffleTree (arity_in old.labels) n host_tree
  whole = shelf.whole host key

  all_put : AllTerms (over old sum) (IsPut (arity_in old.labels) whole.0 host_tree place whole.2 connected)
  all_put = put_trees (arity_in old.labels) whole.0 host_tree place whole.2 connected falls.arity (over old sum)
      (AllTerms-moved (tree_at old.trees) sum (IsShuffleTree (arity_in old.labels) falls.arity) falls.trees) fit

  -- the trees of the sum fit the frame
  pub fit_frame : FitFrame old (frame_at place host_tree) sum
  fit_frame = all_of_moved (tree_at old.trees) sum (FitsFrame old (frame_at place host_tree)) (all_weaker _ _ (over old sum) (λ t h. (h.0, (whole.0, whole.1, h.1))) all_put)

  module _ (new : Shelf) (f : Frame) (terms made : List Term) (result : List (ℕ × ℕ)) (frame_is : f ≡ frame_at place host_tree) (terms_are : pairs terms ≡ sum) (result_is : result ≡ pairs made)
      (keeps : KeepsShelf old new) (h : AreInserted old new f terms made) where
    inserted_are : over new result ≡ inserted_at place host_tree (over old sum)
    inserted_are = ap (over new) result_is ∙ h.inserted ∙ ap₂ (λ (g : Frame) l. moved (insert g) (over old l)) frame_is terms_are

    -- what is made has the leaves of the host
    pub inserted_trees : (n : ℕ) → IsShuffle n host_tree → AreTrees new n result
    inserted_trees n is =
        let same : whole.0 ≡ n = sym (count_of_shuffle whole.0 host_tree whole.2.shuffle) ∙ count_of_shuffle n host_tree is in
        let trees = AllTerms-moved (insert (frame_at place host_tree)) (over old sum) (IsShuffleTree (arity_in old.labels) whole.0) (all_weaker _ _ (over old sum) (λ t g. g.1) all_put) in
        let here : AllTerms (over new result) (IsShuffleTree (arity_in old.labels) whole.0) = subst (λ l. AllTerms l (IsShuffleTree (arity_in old.labels) whole.0)) (sym inserted_are) trees in
        let now = subst (λ ls. AllTerms (over new result) (IsShuffleTree (arity_in ls) whole.0)) (sym keeps.labels) here in
        all_of_moved (tree_at new.trees) result (IsShuffleTree (arity_in new.labels) n) (subst (λ k. AllTerms (over new result) (IsShuffleTree (arity_in new.labels) k)) same now)

    -- and falls
    pub inserted_falls : IsTreeOrder (arity_in old.labels) compare → FallsBy compare p new result
    inserted_falls order = record {
      stands = subst (HaveKeys new) (sym result_is) h.stand;
      falling = subst (IsFalling compare p) (sym inserted_are) record {
        residues = residues_moved (insert (frame_at place host_tree)) p (over old sum) falls.falling.residues;
        falls = falls_put (arity_in old.labels) whole.0 host_tree place whole.2 connected compare order (over old sum) all_put falls.falling.falls;
      };
      arity = whole.0;
      trees = inserted_trees whole.0 whole.2.shuffle;
    }

-- ---- one term after another

over_pushed : (shelf : Shelf) (terms : List Term) (x : Term) → over shelf (pairs (terms ++ (x ∷ []))) ≡ over shelf (pairs terms) ++ ((x.coef, tree_at shelf.trees x.tree) ∷ [])
over_pushed shelf terms x = ap (over shelf) (map-append (λ (term : Term). (term.coef, term.tree)) terms (x ∷ [])) ∙ moved-append (tree_at shelf.trees) (pairs terms) ((x.coef, x.tree) ∷ [])

-- the next term is inserted
pub next_inserted : (old now new : Shelf) (f : Frame) (terms made more : List Term) (at : ℕ) (x y : Term) → IsShelf old → IsShelf now → KeepsShelf old now → KeepsShelf now new
    → HasKey old x.tree → AreInserted old now f (take at terms) made → at < length terms → x ≡ get_or terms at x
    → y.coef ≡ x.coef → IsShelved new y.tree (insert f (tree_at now.trees x.tree)) → more ≡ made ++ (y ∷ []) → AreInserted old new f (take (at + 1) terms) more
next_inserted old now new f terms made more at x y shelf shelf_now keeps keeps_now key h lt is coef shelved pushed = record {
  stand = subst (λ l. HaveKeys new (pairs l)) (sym pushed) (subst (λ l. HaveKeys new l) (sym (map-append (λ (term : Term). (term.coef, term.tree)) made (y ∷ [])))
      (AllTerms-append (pairs made) ((y.coef, y.tree) ∷ []) (HasKey new) (stands_kept now new keeps_now shelf_now (pairs made) h.stand) (shelved.0, tt)));
  inserted =
      let inserted_now : over new (pairs made) ≡ moved (insert f) (over old (pairs (take at terms))) = over_kept now new keeps_now shelf_now (pairs made) h.stand ∙ h.inserted in
      let tree : tree_at new.trees y.tree ≡ insert f (tree_at old.trees x.tree) = shelved.1 ∙ ap (insert f) (tree_kept old now keeps shelf x.tree key) in
      let taken : take (at + 1) terms ≡ take at terms ++ (x ∷ []) = take_more terms at x lt ∙ ap (λ z. take at terms ++ (z ∷ [])) (sym is) in
      ap (λ l. over new (pairs l)) pushed ∙ over_pushed new made y
      ∙ ap₂ (λ l z. l ++ (z ∷ [])) inserted_now (ap₂ (λ c t. (c, t)) coef tree)
      ∙ sym (moved-append (insert f) (over old (pairs (take at terms))) ((x.coef, tree_at old.trees x.tree) ∷ []))
      ∙ ap (moved (insert f)) (sym (over_pushed old (take at terms) x) ∙ ap (λ l. over old (pairs l)) (sym taken));
}

-- what fitted the frame fits it in a later shelf
pub fits_later : (old now : Shelf) (f : Frame) (id : ℕ) → IsShelf old → KeepsShelf old now → HasKey old id → FitsFrame old f (tree_at old.trees id) → FitsFrame now f (tree_at now.trees id)
fits_later old now f id shelf keeps key h =
    subst (FitsFrame now f) (sym (tree_kept old now keeps shelf id key)) (h.0, welcome_kept old now (insert f (tree_at old.trees id)) keeps h.1)
