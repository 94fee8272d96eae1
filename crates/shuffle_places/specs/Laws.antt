-- The laws of places and small common multiples.
use Rattle.std.specs.Prelude.{ℕ, ◌≡◌, List}
use Rattle.modular_sums.specs.Lists.{Mem, Distinct}
use Rattle.labelled_trees.specs.Trees.{Tree, IsNode}
use Rattle.labelled_trees.specs.Labelled.{Fits}
use Rattle.shuffle_insertions.specs.ShuffleTrees.{IsShuffle, IsShuffleTree}
use Rattle.shuffle_insertions.specs.Frames.{Frame, insert, IsFrame}
use Rattle.shuffle_places.specs.Connected.{IsConnected}
use Rattle.shuffle_places.specs.Cuts.{IsCut}
use Rattle.shuffle_places.specs.Places.{frame_at, IsPlace}
use Rattle.shuffle_places.specs.Independent.{Commute}
use Rattle.shuffle_places.specs.AllPlaces.{places}
use Rattle.shuffle_places.specs.Multiples.{IsMultiple}
use Rattle.shuffle_places.specs.AllMultiples.{multiples}

-- A connected set of vertices is the set of exactly one place: it has one divisor, and it is the set of one context and pattern.
pub record PlaceLaw (t : Tree ℕ) (set : List ℕ) : Type 0 where
  pub place : IsConnected t set → (d : Tree ℕ) × IsPlace t set d
  pub one_divisor : (d e : Tree ℕ) → IsPlace t set d → IsPlace t set e → d ≡ e
  pub as_pattern : (d : Tree ℕ) → IsPlace t set d → IsCut t set d
  pub of_pattern : (d : Tree ℕ) → IsCut t set d → IsPlace t set d
  pub one_pattern : (d e : Tree ℕ) (p : IsCut t set d) (r : IsCut t set e) → (p.context ≡ r.context) × (p.pattern_at ≡ r.pattern_at)

-- the same, for all trees and sets
abbrev pub PlaceSets : Type 0
PlaceSets = (t : Tree ℕ) (set : List ℕ) → PlaceLaw t set

-- The divisor at a place in a shuffle tree is a shuffle tree, and inserting it into the place's frame gives the tree back;
-- an insertion into a frame has a place whose frame it is. What holds of shuffle trees holds over labels.
abbrev pub PlaceFrames : Type 0
PlaceFrames =
    ((n : ℕ) (t : Tree ℕ) (set : List ℕ) (d : Tree ℕ) → IsShuffle n t → IsPlace t set d
    → (k : ℕ) × IsShuffle k d × IsFrame k (frame_at set t) × (insert (frame_at set t) d ≡ t) × ((arity : ℕ → ℕ) → Fits arity t → Fits arity d))
    × ((k n : ℕ) (f : Frame) (d : Tree ℕ) → IsFrame k f → IsShuffle k d → IsNode d → IsShuffle n (insert f d)
    → (set : List ℕ) × IsPlace (insert f d) set d × (frame_at set (insert f d) ≡ f))

-- The list of places has each place with the divisor once, and nothing else.
abbrev pub PlacesListed : Type 0
PlacesListed = (a t : Tree ℕ) → IsNode a
    → ((set : List ℕ) → (Mem set (places a 1 t) → IsPlace t set a) × (IsPlace t set a → Mem set (places a 1 t))) × Distinct (places a 1 t)

-- The list of small common multiples has each of them once, and nothing else.
abbrev pub MultiplesListed : Type 0
MultiplesListed = (a b : Tree ℕ) (n : ℕ) → IsNode a → IsNode b
    → ((tree : Tree ℕ) (first second : List ℕ)
    → (Mem (tree, first, second) (multiples a b n) → IsMultiple n a b tree first second) × (IsMultiple n a b tree first second → Mem (tree, first, second) (multiples a b n)))
    × Distinct (multiples a b n)

-- A small common multiple of two shuffle trees over labels is a shuffle tree over the labels.
abbrev pub MultiplesFit : Type 0
MultiplesFit = (arity : ℕ → ℕ) (k l n : ℕ) (a b tree : Tree ℕ) (first second : List ℕ)
    → IsShuffleTree arity k a → IsShuffleTree arity l b → IsMultiple n a b tree first second → IsShuffleTree arity n tree

-- Two insertions at places of a shuffle tree without a common vertex commute.
abbrev pub InsertionsCommute : Type 0
InsertionsCommute = (n k l : ℕ) (t : Tree ℕ) (first second : List ℕ) (d e : Tree ℕ) → IsShuffle n t → IsPlace t first d → IsPlace t second e
    → ((v : ℕ) → Mem v first → Mem v second → ⊥) → IsShuffle k d → IsShuffle l e → Commute k l d e (frame_at first t) (frame_at second t)
