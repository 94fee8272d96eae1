-- Trees are read by what stands before the refused token and by that token alone, where a number before '*' is another token.
use Rattle.std.specs.Prelude.{nat_le, nat_lt}
use Rattle.std.proofs.Common.{◌≡◌, ◌⊎◌, inl, inr, ℕ, zero, suc, ◌+◌, Bool, true, false, List, [], ◌∷◌, length, Option, Some, None, Result, Ok, Err, refl, ap, ◌∙◌}
use Rattle.labelled_trees.specs.Trees.{Tree, leaf, node, none, more}
use Rattle.labelled_trees.specs.Leaves.{leaf_count}
use Rattle.symmetric_trees.specs.declared.generators.Generator.{Generator}
use Rattle.presentation_text.specs.declared.kinds.DocKind.{DocKind}
use Rattle.presentation_text.specs.declared.kinds.DocKind.TheVariants.{InputCount, NameUnknown, TooDeep, TooWide, Labels, Syntax}
use Rattle.presentation_text.specs.declared.lexing.Token.{Token}
use Rattle.presentation_text.specs.declared.lexing.Token.TheVariants.{Word, Number, Long, Byte, Bad}
use Rattle.presentation_text.specs.Readings.{Fault, Reading, ◌>>=◌, is_mark, misplaced, first_row, refused}
use Rattle.presentation_text.specs.TreeReadings.{Inside, index_of, begins_with, before_in, close_in, input_in, row_in, node_in, tree_or_end_in, tree_in}
use Rattle.presentation_text.proofs.TreeTokens.{arity_in}
use Rattle.presentation_text.proofs.TreesStopReadings.{IsLocal, joined, local_joined, local_same, local_done, given, IsGiven, IsGoneInto, IsByToken, local_by_token, before_by_token, close_by_token}

-- ---- inputs

closed_given : {X : Type 0} (b : Bool) (reading : Reading X) (rest : List Token) → b ≡ true → refused (suc (length rest)) (first_row ((b, InputCount) ∷ [])) reading ≡ Err (suc (length rest), InputCount)
closed_given true reading rest e = refl
closed_given false reading rest e = absurd cc

open_given : {X : Type 0} (b : Bool) (reading : Reading X) (rest : List Token) → b ≡ false → refused (suc (length rest)) (first_row ((b, InputCount) ∷ [])) reading ≡ reading
open_given true reading rest e = absurd cc
open_given false reading rest e = refl

-- an input begins as a tree does, where no ')' stands
input_starts : (inside : Inside) (seen : ℕ) (token : Token) (b : Bool) → is_mark 41 token ≡ b → IsGiven (inside seen) token ⊎ IsGoneInto (inside seen) token
    → IsGiven (input_in inside seen) token ⊎ IsGoneInto (input_in inside seen) token
input_starts inside seen token true e start = inl (record { contents = λ star. Err InputCount; is = λ rest. closed_given (is_mark 41 token) (inside seen (token ∷ rest)) rest e; same = λ others back h. refl })
input_starts inside seen token false e (inl g) = inl (record { contents = g.contents; is = λ rest. open_given (is_mark 41 token) (inside seen (token ∷ rest)) rest e ∙ g.is rest; same = g.same })
input_starts inside seen token false e (inr g) = inr (record { inner = g.inner; local = g.local; is = λ rest. open_given (is_mark 41 token) (inside seen (token ∷ rest)) rest e ∙ g.is rest })

pub input_by_token : (inside : Inside) (seen : ℕ) → IsByToken (inside seen) → IsByToken (input_in inside seen)
input_by_token inside seen wise = record {
  kind = wise.kind;
  ends = wise.ends;
  starts = λ token. input_starts inside seen token (is_mark 41 token) refl (wise.starts token);
}

marked_first : {X : Type 0} (m : Result (List Token) Fault) (inner : List Token → Reading X) → (m >>= inner) ≡ ((m >>= (λ (rest : List Token). Ok (true, rest))) >>= (λ (found : Bool × List Token). inner found.1))
marked_first (Ok rest) inner = refl
marked_first (Err fault) inner = refl

local_marked : {X : Type 0} (first : Bool) (inner : List Token → Reading X) → IsLocal inner → IsLocal (λ ts. before_in first ts >>= inner)
local_marked first inner local =
    local_same (λ ts. before_in first ts >>= inner) (joined (λ ts. before_in first ts >>= (λ (rest : List Token). Ok (true, rest))) (λ (b : Bool) (rest : List Token). inner rest))
    (λ ts. marked_first (before_in first ts) inner)
    (local_joined (λ ts. before_in first ts >>= (λ (rest : List Token). Ok (true, rest))) (λ (b : Bool) (rest : List Token). inner rest)
    (local_by_token (λ ts. before_in first ts >>= (λ (rest : List Token). Ok (true, rest))) (before_by_token first)) (λ b. local))

module _ (inside : Inside) (wise : (seen : ℕ) → IsByToken (inside seen)) where
  pub local_row : (k : ℕ) (first : Bool) (seen : ℕ) → IsLocal (row_in inside first k seen)
  unfolding row_in
  local_row zero first seen = local_by_token (λ ts. close_in ts >>= (λ (rest : List Token). Ok (none, rest))) (close_by_token none)
  local_row (suc k) first seen =
      local_marked first (joined (input_in inside seen) (λ t. joined (row_in inside false k (seen + leaf_count t)) (λ r rest. Ok (more t r, rest))))
      (local_joined (input_in inside seen) (λ t. joined (row_in inside false k (seen + leaf_count t)) (λ r rest. Ok (more t r, rest)))
      (local_by_token (input_in inside seen) (input_by_token inside seen (wise seen)))
      (λ t. local_joined (row_in inside false k (seen + leaf_count t)) (λ r rest. Ok (more t r, rest)) (local_row k false (seen + leaf_count t)) (λ r. local_done (more t r))))

-- ---- trees

leaf_told : Bool → Bool → Bool → ℕ → Result (Tree ℕ) DocKind
leaf_told true a b n = Err Syntax
leaf_told false true b n = Err TooWide
leaf_told false false true n = Err Labels
leaf_told false false false n = Ok (leaf n)

leaf_given : (star a b : Bool) (n : ℕ) (rest : List Token)
    → refused (suc (length rest)) (first_row ((star, Syntax) ∷ (a, TooWide) ∷ (b, Labels) ∷ [])) (Ok (leaf n, rest)) ≡ given (leaf_told star a b n) rest
unfolding leaf_told
leaf_given true a b n rest = refl
leaf_given false true b n rest = refl
leaf_given false false true n rest = refl
leaf_given false false false n rest = refl

abbrev AreByToken : Option Inside → Type 0
AreByToken None = Unit {0}
AreByToken (Some inside) = (seen : ℕ) → IsByToken (inside seen)

named_starts : (generators : List Generator) (inside : Option Inside) → AreByToken inside → (seen : ℕ) (w : List ℕ) (found : Option ℕ) → index_of w generators ≡ found
    → IsGiven (tree_or_end_in generators inside seen) (Word w) ⊎ IsGoneInto (tree_or_end_in generators inside seen) (Word w)
named_starts generators inside wise seen w None e = inl (record { contents = λ star. Err NameUnknown; is = λ rest. ap (λ i. node_in generators inside seen i rest) e; same = λ others back h. refl })
named_starts generators None wise seen w (Some g) e = inl (record { contents = λ star. Err TooDeep; is = λ rest. ap (λ i. node_in generators None seen i rest) e; same = λ others back h. refl })
named_starts generators (Some inside) wise seen w (Some g) e = inr (record {
  inner = joined (row_in inside true (arity_in generators g) seen) (λ r rest. Ok (node g r, rest));
  local = local_joined (row_in inside true (arity_in generators g) seen) (λ r rest. Ok (node g r, rest)) (local_row inside wise (arity_in generators g) true seen) (λ r. local_done (node g r));
  is = λ rest. ap (λ i. node_in generators (Some inside) seen i rest) e;
})

token_starts : (generators : List Generator) (inside : Option Inside) → AreByToken inside → (seen : ℕ) (token : Token)
    → IsGiven (tree_or_end_in generators inside seen) token ⊎ IsGoneInto (tree_or_end_in generators inside seen) token
token_starts generators inside wise seen (Number n) = inl (record {
  contents = λ star. leaf_told star (nat_le 9 seen) (nat_lt 99 n) n;
  is = λ rest. leaf_given (begins_with 42 rest) (nat_le 9 seen) (nat_lt 99 n) n rest;
  same = λ others back h. ap (λ star. leaf_told star (nat_le 9 seen) (nat_lt 99 n) n) h;
})
token_starts generators inside wise seen (Word w) = named_starts generators inside wise seen w (index_of w generators) refl
token_starts generators inside wise seen Long = inl (record { contents = λ star. Err (misplaced Long); is = λ rest. refl; same = λ others back h. refl })
token_starts generators inside wise seen (Byte b) = inl (record { contents = λ star. Err (misplaced (Byte b)); is = λ rest. refl; same = λ others back h. refl })
token_starts generators inside wise seen Bad = inl (record { contents = λ star. Err (misplaced Bad); is = λ rest. refl; same = λ others back h. refl })

or_end_by_token : (generators : List Generator) (inside : Option Inside) → AreByToken inside → (seen : ℕ) → IsByToken (tree_or_end_in generators inside seen)
or_end_by_token generators inside wise seen = record { kind = Syntax; ends = refl; starts = token_starts generators inside wise seen }

pub tree_by_token : (generators : List Generator) (depth seen : ℕ) → IsByToken (tree_in generators depth seen)
unfolding tree_in
tree_by_token generators zero seen = or_end_by_token generators None tt seen
tree_by_token generators (suc depth) seen = or_end_by_token generators (Some (tree_in generators depth)) (λ s. tree_by_token generators depth s) seen

pub local_tree : (generators : List Generator) (depth seen : ℕ) → IsLocal (tree_in generators depth seen)
local_tree generators depth seen = local_by_token (tree_in generators depth seen) (tree_by_token generators depth seen)
