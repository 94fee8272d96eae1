-- Elements whose tails are reduced one after the other.
use Rattle.std.proofs.Common.{◌≡◌, ℕ, ◌<◌, List, [], ◌∷◌, refl, sym, ap, ◌∙◌, subst, ◌⊎◌, inl, inr}
use mathlib.Core.List.{◌++◌}
use Rattle.modular_sums.specs.Lists.{Mem, Distinct}
use Rattle.modular_sums.proofs.Lists.{mem_of_map}
use Rattle.labelled_trees.specs.Trees.{Tree}
use Rattle.shuffle_bases.specs.Elements.{Element, Setting}
use Rattle.shuffle_reductions.specs.Chains.{HasNoZeros}
use Rattle.shuffle_reductions.specs.Chains as chains
use Rattle.shuffle_bases.specs.Elements.{Insertion}
use Rattle.shuffle_reductions.specs.Extensions.{with_elements, Extends}
use Rattle.shuffle_completion.specs.Completion.{IsTailReduced, AreTailsReduced}
use Rattle.counted_runs.specs.Reductions.{ReducesTo}
use Rattle.counted_runs.specs.Stages.{IsBecoming, AreBecoming}
use Rattle.counted_runs.proofs.Replaced.{leads_of}

-- at first each is itself
pub becoming_itself : (s : Setting) (n : ℕ) (pending : List (Tree ℕ)) (l : List Element) → ((g : Element) → Mem g l → (g.arity < n) ⊎ ((g.arity ≡ n) × Mem g.lead pending)) → AreBecoming s n pending l l
becoming_itself s n pending [] h = tt
becoming_itself s n pending (g ∷ l) h = (go (h g (inl refl)), becoming_itself s n pending l (λ k m. h k (inr m)))
  where
    go : (g.arity < n) ⊎ ((g.arity ≡ n) × Mem g.lead pending) → IsBecoming s n pending g g
    go (inl k) = inl (k, refl)
    go (inr k) = inr (inl (k.0, refl, k.1))

-- where nothing is pending the tails are reduced
pub all_reduced : (s : Setting) (n : ℕ) (l m : List Element) → AreBecoming s n [] l m → AreTailsReduced s n l m
all_reduced s n [] [] b = tt
all_reduced s n [] (h ∷ m) b = absurd b
all_reduced s n (g ∷ l) [] b = absurd b
all_reduced s n (g ∷ l) (h ∷ m) b = (go b.0, all_reduced s n l m b.1)
  where
    go : IsBecoming s n [] g h → ((g.arity < n) × (h ≡ g)) ⊎ ((g.arity ≡ n) × IsTailReduced s g h)
    go (inl k) = inl k
    go (inr (inl k)) = absurd k.2
    go (inr (inr k)) = inr (k.0, k.1)

-- one of the second list, with what stands before and behind it
pub record Parted (s : Setting) (n : ℕ) (pending : List (Tree ℕ)) (elements front : List Element) (h : Element) (back : List Element) : Type 0 where
  pub before : List Element
  pub of : Element
  pub after : List Element
  pub parted : elements ≡ before ++ (of ∷ after)
  pub first : AreBecoming s n pending before front
  pub here : IsBecoming s n pending of h
  pub last : AreBecoming s n pending after back

pub parted : (s : Setting) (n : ℕ) (pending : List (Tree ℕ)) (elements front : List Element) (h : Element) (back : List Element) → AreBecoming s n pending elements (front ++ (h ∷ back)) → Parted s n pending elements front h back
parted s n pending [] [] h back b = absurd b
parted s n pending (g ∷ elements) [] h back b = record { before = []; of = g; after = elements; parted = refl; first = tt; here = b.0; last = b.1 }
parted s n pending [] (y ∷ front) h back b = absurd b
parted s n pending (g ∷ elements) (y ∷ front) h back b =
    let p = parted s n pending elements front h back b.1 in
    record { before = g ∷ p.before; of = p.of; after = p.after; parted = ap (λ l. g ∷ l) p.parted; first = (b.0, p.first); here = p.here; last = p.last }

-- the parts put together
pub together : (s : Setting) (n : ℕ) (pending : List (Tree ℕ)) (before : List Element) (g : Element) (after front : List Element) (h : Element) (back : List Element)
    → AreBecoming s n pending before front → IsBecoming s n pending g h → AreBecoming s n pending after back → AreBecoming s n pending (before ++ (g ∷ after)) (front ++ (h ∷ back))
together s n pending [] g after [] h back a b c = (b, c)
together s n pending [] g after (y ∷ front) h back a b c = absurd a
together s n pending (x ∷ before) g after [] h back a b c = absurd a
together s n pending (x ∷ before) g after (y ∷ front) h back a b c = (a.0, together s n pending before g after front h back a.1 b c)

-- one tree fewer is pending, where it is no leading tree of the second list
pub fewer_pending : (s : Setting) (n : ℕ) (t : Tree ℕ) (pending : List (Tree ℕ)) (l m : List Element) → AreBecoming s n (t ∷ pending) l m → ((k : Element) → Mem k m → k.lead ≡ t → ⊥) → AreBecoming s n pending l m
fewer_pending s n t pending [] [] b f = tt
fewer_pending s n t pending [] (h ∷ m) b f = absurd b
fewer_pending s n t pending (g ∷ l) [] b f = absurd b
fewer_pending s n t pending (g ∷ l) (h ∷ m) b f = (go b.0, fewer_pending s n t pending l m b.1 (λ k mk. f k (inr mk)))
  where
    left : h ≡ g → Mem g.lead (t ∷ pending) → Mem g.lead pending
    left e (inl q) = absurd (f h (inl refl) (ap (λ (x : Element). x.lead) e ∙ q))
    left e (inr m) = m

    go : IsBecoming s n (t ∷ pending) g h → IsBecoming s n pending g h
    go (inl k) = inl k
    go (inr (inl k)) = inr (inl (k.0, k.1, left k.1 k.2))
    go (inr (inr k)) = inr (inr (k.0, k.1, λ m. k.2 (inr m)))

-- a tail that is reduced
pub tail_by : (s : Setting) (more : List Element) → Extends s more → (n : ℕ) (g h : Element) → g.arity ≡ n → h.arity ≡ n → h.lead ≡ g.lead → (count : ℕ) → ReducesTo (with_elements s more) n g.tail h.tail count → HasNoZeros s.q h.tail
    → IsTailReduced s g h
tail_by s more ext n g h a b lead count r zeros =
    let k = subst (λ i. (uses : List (ℕ × Insertion (with_elements s more) i)) × chains.IsChain (with_elements s more) i g.tail uses h.tail) (sym a) (r.uses, r.chain) in
    record { arity_is = b ∙ sym a; lead_is = lead; more = more; extends = ext; uses = k.0; chain = k.1; finished = r.finished; no_zeros = zeros }

-- leading trees of different elements are different, where elements with one leading tree are one
pub leads_apart : (l : List Element) → Distinct l → ((g h : Element) → Mem g l → Mem h l → g.lead ≡ h.lead → g ≡ h) → Distinct (leads_of l)
leads_apart [] d f = tt
leads_apart (g ∷ l) d f = (
  λ m. let k = mem_of_map (λ (x : Element). x.lead) g.lead l m in d.0 (subst (λ x. Mem x l) (sym (f g k.0 (inl refl) (inr k.1) k.2)) k.1),
  leads_apart l d.1 (λ x y a b. f x y (inr a) (inr b)),
)
