-- Reading the inputs of a use one after the other.
use Rattle.std.proofs.Common.{◌≡◌, ◌<◌, ◌≤◌, ℕ, zero, suc, List, [], ◌∷◌, ◌++◌, length, Result, Ok, Err, append-nil, append_assoc, arith, ap, sym, ◌∙◌, refl}
use Rattle.labelled_trees.specs.Trees.{Tree}
use Rattle.symmetric_trees.specs.declared.generators.Generator.{Generator}
use Rattle.presentation_text.specs.Readings.{Fault, ◌>>=◌, mark_in, StopsAs}
use Rattle.presentation_text.specs.declared.kinds.PartFail.{PartFail}
use Rattle.presentation_text.specs.declared.lexing.Token.{Token}
use Rattle.certificate_text.specs.BlockReadings.{free_tree_in, inputs_in}
use Rattle.presentation_text.proofs.LineReadingsStops.{stops_in, stops_on}

abbrev Others : List (Tree ℕ) → Result (List (Tree ℕ)) Fault → Result (List (Tree ℕ)) Fault
Others inputs others = others >>= λ more. Ok (inputs ++ more)

-- These inputs were read, and the rest is read with a number of inputs allowed that is enough.
pub record GoesOn (generators : List Generator) (whole : Result (List (Tree ℕ)) Fault) (inputs : List (Tree ℕ)) (rest : List Token) : Type 0 where
  pub most : ℕ
  pub enough : length rest ≤ most
  pub reading_is : whole ≡ Others inputs (inputs_in most generators rest)

-- a ';' and an input, and further ones
abbrev pub inputs_from : ℕ → List Generator → List Token → Result (List (Tree ℕ)) Fault
inputs_from most generators ts = mark_in 59 ts >>= λ behind. free_tree_in generators behind >>= λ tree. inputs_in most generators tree.1 >>= λ others. Ok (tree.0 ∷ others)

-- These inputs were read, and a further one is read next.
pub record IsNext (generators : List Generator) (whole : Result (List (Tree ℕ)) Fault) (inputs : List (Tree ℕ)) (rest : List Token) : Type 0 where
  pub most : ℕ
  pub enough : length rest ≤ suc most
  pub reading_is : whole ≡ Others inputs (inputs_from most generators rest)

-- where tokens are left and an input is allowed, an input is read
pub one_input : (most : ℕ) (generators : List Generator) (ts : List Token) → 0 < length ts → inputs_in (suc most) generators ts ≡ inputs_from most generators ts
unfolding inputs_in
one_input most generators [] l = absurd (omega arith)
one_input most generators (token ∷ rest) l = refl

pub no_input : (most : ℕ) (generators : List Generator) → inputs_in most generators [] ≡ Ok []
unfolding inputs_in
no_input zero generators = refl
no_input (suc most) generators = refl

nothing_before : (others : Result (List (Tree ℕ)) Fault) → others ≡ Others [] others
nothing_before (Ok xs) = refl
nothing_before (Err fault) = refl

one_more : (others : Result (List (Tree ℕ)) Fault) (inputs : List (Tree ℕ)) (t : Tree ℕ) → Others inputs (others >>= λ more. Ok (t ∷ more)) ≡ Others (inputs ++ t ∷ []) others
one_more (Ok xs) inputs t = ap Ok (sym (append_assoc inputs (t ∷ []) xs))
one_more (Err fault) inputs t = refl

module _ (generators : List Generator) (whole : Result (List (Tree ℕ)) Fault) where
  pub none_yet : (ts : List Token) (inputs : List (Tree ℕ)) → whole ≡ inputs_in (length ts) generators ts → inputs ≡ [] → GoesOn generators whole inputs ts
  none_yet ts inputs e f = record {
    most = length ts;
    enough = omega arith;
    reading_is = e ∙ nothing_before (inputs_in (length ts) generators ts) ∙ ap (λ xs. Others xs (inputs_in (length ts) generators ts)) (sym f);
  }

  -- no input is left
  pub all_read : (ts : List Token) (inputs : List (Tree ℕ)) → GoesOn generators whole inputs ts → length ts ≡ 0 → whole ≡ Ok inputs
  all_read [] inputs h l = h.reading_is ∙ ap (Others inputs) (no_input h.most generators) ∙ ap Ok (append-nil inputs)
  all_read (token ∷ rest) inputs h l = absurd (omega arith)

  -- a further input is read next
  pub next_input : (ts : List Token) (inputs : List (Tree ℕ)) → GoesOn generators whole inputs ts → 0 < length ts → IsNext generators whole inputs ts
  next_input ts inputs h l = by_most h.most h.enough h.reading_is where
    by_most : (most : ℕ) → length ts ≤ most → whole ≡ Others inputs (inputs_in most generators ts) → IsNext generators whole inputs ts
    by_most zero k e = absurd (omega arith)
    by_most (suc most) k e = record { most = most; enough = k; reading_is = e ∙ ap (Others inputs) (one_input most generators ts l) }

  -- a further input was read
  pub input_read : (ts behind rest : List Token) (inputs new : List (Tree ℕ)) (t : Tree ℕ) → GoesOn generators whole inputs ts → mark_in 59 ts ≡ Ok behind → free_tree_in generators behind ≡ Ok (t, rest)
      → length rest < length ts → new ≡ inputs ++ t ∷ [] → GoesOn generators whole new rest
  input_read ts behind rest inputs new t h e f l n =
      let next = next_input ts inputs h (omega arith) in
      record {
        most = next.most;
        enough = let enough = next.enough in omega arith;
        reading_is =
            next.reading_is ∙ rw (e, f) (one_more (inputs_in next.most generators rest) inputs t) ∙ ap (λ xs. Others xs (inputs_in next.most generators rest)) (sym n);
      }

  -- where its ';' or its tree isn't read, nothing is
  pub mark_stops : (tokens ts : List Token) (inputs : List (Tree ℕ)) (fail : PartFail) → GoesOn generators whole inputs ts → 0 < length ts → StopsAs tokens (mark_in 59 ts) fail → StopsAs tokens whole fail
  mark_stops tokens ts inputs fail h l stops =
      let next = next_input ts inputs h l in
      stops_in tokens whole (Others inputs (inputs_from next.most generators ts)) fail next.reading_is
      (stops_on tokens (inputs_from next.most generators ts) _ fail (stops_on tokens (mark_in 59 ts) _ fail stops))

  pub tree_stops : (tokens ts behind : List Token) (inputs : List (Tree ℕ)) (fail : PartFail) → GoesOn generators whole inputs ts → 0 < length ts → mark_in 59 ts ≡ Ok behind
      → StopsAs tokens (free_tree_in generators behind) fail → StopsAs tokens whole fail
  tree_stops tokens ts behind inputs fail h l e stops =
      let next = next_input ts inputs h l in
      stops_in tokens whole (Others inputs (inputs_from next.most generators ts)) fail next.reading_is
      (stops_on tokens (inputs_from next.most generators ts) _ fail (rw e (stops_on tokens (free_tree_in generators behind) _ fail stops)))
