-- The inputs of a frame, and when a context and inputs make a frame.
use Rattle.std.specs.Prelude.{slice_index, Option, Some, None, IfSome, IfNone, IsTrue, is_some}
use Rattle.std.proofs.Common.{◌≡◌, ℕ, zero, suc, ◌+◌, ◌<◌, ◌≤◌, List, [], ◌∷◌, length, take, drop, get_or, replicate, refl, ap, sym, subst, arith}
use Rattle.std.specs.List.{AllByRecursion}
use native.Mathlib.Decide.{dec_lt}
use Rattle.labelled_trees.specs.Trees.{Tree, leaf, row}
use Rattle.labelled_trees.specs.Leaves.{occurs, occurs_row}
use Rattle.labelled_trees.specs.Insertions.{put}
use Rattle.shuffle_insertions.specs.ShuffleTrees.{least, least_row, IsRising, IsRisingRow}
use Rattle.shuffle_insertions.specs.Frames.{Frame, IsFrame}
use Rattle.shuffle_trees.specs.ValidTrees.{AreWide, IsValid}
use Rattle.shuffle_trees.specs.ValidFrames.{IsValidFrame, frame_from}
use Rattle.shuffle_trees.specs.Checks.{AddsLeaves, IsTwice, IsOrdered, IsUnordered, AddedInputs, AreTwice}
use Rattle.shuffle_trees.proofs.Counts.{no_times}
use Rattle.shuffle_trees.proofs.Validity.{counted}
use Rattle.shuffle_trees.proofs.Vertices.{RisesFrom, row_of_rises}
use Rattle.shuffle_trees.proofs.Walking.{left_from, none_left}

-- ---- rising inputs

pub next_rises : (b i : ℕ) (ts : List (Tree ℕ)) (t : Tree ℕ) → i < length ts → t ≡ get_or ts i t
    → (RisesFrom b (drop i ts) → IsRising t × (b ≤ least t) × RisesFrom (suc (least t)) (drop (i + 1) ts))
    × (IsRising t → b ≤ least t → RisesFrom (suc (least t)) (drop (i + 1) ts) → RisesFrom b (drop i ts))
next_rises b i ts t lt e = (λ h. subst (RisesFrom b) (left_from ts i t lt e) h, λ h p k. subst (RisesFrom b) (sym (left_from ts i t lt e)) (h, p, k))

pub all_rise : (b i : ℕ) (ts : List (Tree ℕ)) → length ts ≤ i → (RisesFrom b (drop i ts) → RisesFrom 0 ts) → IsRisingRow (row ts)
all_rise b i ts le h = row_of_rises 0 ts (h (subst (RisesFrom b) (sym (none_left ts i le)) tt))

-- ---- counts of inputs

abbrev pub occurs_in : ℕ → List (Tree ℕ) → ℕ
occurs_in k ts = occurs_row k (row ts)

pub count_next : (k i : ℕ) (ts : List (Tree ℕ)) (t : Tree ℕ) → i < length ts → t ≡ get_or ts i t → occurs_in k (drop i ts) ≡ occurs k t + occurs_in k (drop (i + 1) ts)
count_next k i ts t lt e = ap (occurs_in k) (left_from ts i t lt e)

pub count_none : (k i : ℕ) (ts : List (Tree ℕ)) → length ts ≤ i → occurs_in k (drop i ts) ≡ 0
count_none k i ts le = ap (occurs_in k) (none_left ts i le)

valid_suc : (ts : List (Tree ℕ)) (i : ℕ) (t : Tree ℕ) → i < length ts → t ≡ get_or ts i t → AllByRecursion IsValid (take i ts) → IsValid t → AllByRecursion IsValid (take (suc i) ts)
valid_suc [] i t lt e h w = absurd (omega arith)
valid_suc (u ∷ ts) zero t lt e h w = (subst IsValid e w, tt)
valid_suc (u ∷ ts) (suc i) t lt e h w = (h.0, valid_suc ts i t (omega arith) e h.1 w)

pub valid_next : (ts : List (Tree ℕ)) (i : ℕ) (t : Tree ℕ) → i < length ts → t ≡ get_or ts i t → AllByRecursion IsValid (take i ts) → IsValid t → AllByRecursion IsValid (take (i + 1) ts)
valid_next ts i t lt e h w = subst (λ n. AllByRecursion IsValid (take n ts)) (let s : suc i ≡ i + 1 = omega arith in s) (valid_suc ts i t lt e h w)

-- ---- valid inputs

pub valid_wide : (ts : List (Tree ℕ)) → AllByRecursion IsValid ts → AreWide (row ts)
valid_wide [] h = tt
valid_wide (t ∷ ts) h = (h.0.wide, valid_wide ts h.1)

pub valid_small : (ts : List (Tree ℕ)) → AllByRecursion IsValid ts → (k : ℕ) → 0 < occurs_in k ts → k < 256
valid_small [] h k o = absurd (omega arith)
valid_small (t ∷ ts) h k o = go (dec_lt 0 (occurs k t)) (λ p. valid_small ts h.1 k p)
  where
    go : Dec (0 < occurs k t) → (0 < occurs_in k ts → k < 256) → k < 256
    go (yes p) f = (h.0.only k p).1
    go (no z) f = f (omega (arith, o, z))

-- ---- what makes a frame

-- the counts of the context and the inputs together
both : (times after : List ℕ) (hole : Tree ℕ) (inputs : List (Tree ℕ)) → AddsLeaves (replicate 256 0) times hole → AddedInputs times after inputs
    → (k : ℕ) → (occurs k hole + occurs_in k inputs ≤ 1) × (0 < occurs k hole + occurs_in k inputs → k < 256)
both times after hole inputs a b k = go (dec_lt k 256)
  where
    go : Dec (k < 256) → (occurs k hole + occurs_in k inputs ≤ 1) × (0 < occurs k hole + occurs_in k inputs → k < 256)
    go (yes lt) = let z = no_times k in let c = a.counts k lt in let d = b.counts k lt in let o = b.once k in (omega (arith, z, c, d, o), λ _. lt)
    go (no ge) =
        let one : 0 < occurs k hole → ⊥ = λ o. ge ((counted times hole a k).1 o).0 in
        let other : 0 < occurs_in k inputs → ⊥ = λ o. ge (valid_small inputs b.valid k o) in
        let z : occurs k hole + occurs_in k inputs ≡ 0 = omega (arith, one, other) in (omega (arith, z), λ o. absurd (omega (arith, z, o)))

pub frame_by : (times after : List ℕ) (hole : Tree ℕ) (inputs : List (Tree ℕ)) (first : ℕ) (found : Option ℕ) → 0 < length inputs → IsRisingRow (row inputs) → first ≡ least_row (row inputs)
    → AddsLeaves (replicate 256 0) times hole → slice_index times 0 ≡ 1 → AddedInputs times after inputs
    → IfSome found (λ l. IsOrdered hole (put hole (leaf first)) l) → IfNone found (IsUnordered hole (put hole (leaf first)))
    → (IsTrue (is_some found) → IsValidFrame (frame_from hole inputs)) × (IsValidFrame (frame_from hole inputs) → IsTrue (is_some found))
frame_by times after hole inputs first None has rise is a one b s n = (
  λ e. absurd cc,
  λ v. absurd (n v.wide (subst (λ m. IsRising (put hole (leaf m))) (sym is) v.rising)),
)
frame_by times after hole inputs first (Some l) has rise is a one b s n = (
  λ e. record {
    has_input = has;
    inputs_rise = rise;
    context = (let c = a.counts 0 (omega arith) in let z = no_times 0 in omega (arith, c, z, one));
    once = λ k. (both times after hole inputs a b k).0;
    wide = s.wide;
    rising = subst (λ m. IsRising (put hole (leaf m))) is s.rising;
    inputs_wide = valid_wide inputs b.valid;
    small = λ k. (both times after hole inputs a b k).1;
  },
  λ v. refl,
)

pub twice_no_frame : (hole : Tree ℕ) (inputs : List (Tree ℕ)) → IsTwice (replicate 256 0) hole → IsValidFrame (frame_from hole inputs) → ⊥
twice_no_frame hole inputs h v = h (λ k lt. let z = no_times k in let o = v.once k in omega (arith, z, o))

pub holes_no_frame : (times : List ℕ) (hole : Tree ℕ) (inputs : List (Tree ℕ)) → AddsLeaves (replicate 256 0) times hole → (slice_index times 0 ≡ 1 → ⊥) → IsValidFrame (frame_from hole inputs) → ⊥
holes_no_frame times hole inputs a h v = h (let c = a.counts 0 (omega arith) in let z = no_times 0 in let o = v.context in omega (arith, c, z, o))

pub repeated_no_frame : (times : List ℕ) (hole : Tree ℕ) (inputs : List (Tree ℕ)) → AddsLeaves (replicate 256 0) times hole → AreTwice times inputs → IsValidFrame (frame_from hole inputs) → ⊥
repeated_no_frame times hole inputs a h v = h (λ k lt. let z = no_times k in let c = a.counts k lt in let o = v.once k in omega (arith, z, c, o))

-- a valid frame is a frame for trees with as many leaves as it has inputs
pub is_frame_for : (f : Frame) → IsValidFrame f → IsFrame (length f.inputs) f
is_frame_for f v = record { context = v.context; as_many = refl; rising = v.inputs_rise }

-- the least leaf of the first input
pub first_row : (ts : List (Tree ℕ)) (t : Tree ℕ) → 0 < length ts → t ≡ get_or ts 0 t → least t ≡ least_row (row ts)
first_row [] t lt e = absurd (omega arith)
first_row (u ∷ ts) t lt e = ap least e
