-- Insertions at two places.
use Rattle.std.specs.Prelude.{ℕ, ◌≡◌}
use Rattle.labelled_trees.specs.Trees.{Tree}
use Rattle.shuffle_insertions.specs.ShuffleTrees.{IsShuffle}
use Rattle.shuffle_insertions.specs.Frames.{Frame, insert, IsFrame}

-- Insertions at two places commute: for each shuffle tree x of arity k at the first place and each y of arity l at the second
-- there is one tree, which comes from either place by an insertion there, whichever is done first;
-- d and e stand there at the beginning, with the frames f and g.
pub record Commute (k l : ℕ) (d e : Tree ℕ) (f g : Frame) : Type 0 where
  pub both : Tree ℕ → Tree ℕ → Tree ℕ
  -- the frame of the first place once y stands at the second, and of the second once x stands at the first
  pub first_frame : (y : Tree ℕ) → IsShuffle l y → (h : Frame) × IsFrame k h × ((x : Tree ℕ) → IsShuffle k x → insert h x ≡ both x y)
  pub second_frame : (x : Tree ℕ) → IsShuffle k x → (h : Frame) × IsFrame l h × ((y : Tree ℕ) → IsShuffle l y → insert h y ≡ both x y)
  pub first_alone : (x : Tree ℕ) → IsShuffle k x → insert f x ≡ both x e
  pub second_alone : (y : Tree ℕ) → IsShuffle l y → insert g y ≡ both d y
