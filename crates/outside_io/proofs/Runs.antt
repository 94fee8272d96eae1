-- Pieces of a list, one after another, and what a sink takes of them.
use Rattle.std.proofs.Common.{◌≡◌, ℕ, List, ◌++◌, Option, Some, None, ap, ◌∙◌, append_assoc, take, drop, length, ◌-◌, ◌≤◌, arith}
use Rattle.std.proofs.lemmas.Grind.{common_steps}
use Rattle.outside_io.specs.Taken.{Takes}

-- a sink that takes xs and then ys takes both
pub Takes-trans : (a b c : Option (List ℕ)) (xs ys : List ℕ) → Takes a b xs → Takes b c ys → Takes a c (xs ++ ys)
Takes-trans a b None xs ys p q = tt
Takes-trans a None (Some w) xs ys p q = absurd q
Takes-trans None (Some v) (Some w) xs ys p q = absurd p
Takes-trans (Some u) (Some v) (Some w) xs ys p q = q ∙ ap (λ v. v ++ ys) p ∙ append_assoc u xs ys

-- `&xs[at..]` is what comes from `at` on
pub take-to_end : (at : ℕ) (xs : List ℕ) → take (length xs - at) (drop at xs) ≡ drop at xs
take-to_end at xs = grind (arith, common_steps)

-- a list is its first n elements, which stand at the front of another, and its rest
pub front-++-drop : (n : ℕ) (xs ys front : List ℕ) → n ≤ length xs → front ≡ take n xs ++ ys → xs ≡ take n front ++ drop n xs
front-++-drop n xs ys front h e = grind (arith, common_steps)
