-- The lines of a tail are few.
use Rattle.std.proofs.Common.{◌≡◌, ◌<◌, ◌≤◌, ◌+◌, ◌-◌, ℕ, List, length, drop, take, Option, None, Some, arith, ap, subst, length-append, length-drop, ◌∙◌}
use Rattle.std.proofs.lemmas.List.{take_all}
use Rattle.presentation_text.specs.Lines.{lines}
use Rattle.presentation_text.specs.Presentations.{IsReadAs, IsTailOfText, IsTailAt}
use Rattle.presentation_text.specs.declared.document.Document.{Document}
use Rattle.presentation_text.specs.declared.document.Tail.{Tail}
use Rattle.presentation_text.proofs.TextEnds.{few_lines}

-- a text from some place on, as a slice is seen
pub slice_is : (bytes : List ℕ) (from : ℕ) → take (length bytes - from) (drop from bytes) ≡ drop from bytes
slice_is bytes from = take_all (length bytes - from) (drop from bytes) (let len = length-drop from bytes in omega (arith, len))

tail_stands : (bytes : List ℕ) (number : Option ℕ) (tail : Tail) → IsTailOfText bytes number (Some tail) → (n : ℕ) × IsTailAt bytes n tail
tail_stands bytes (Some number) tail h = (number, h)
tail_stands bytes None tail h = absurd cc

module _ (bytes : List ℕ) (document : Document) (tail : Tail) (read : IsReadAs bytes document) (tail_is : document.tail ≡ Some tail) (short : length bytes ≤ 16777216) where
  tail_begins : tail.line ≤ length bytes + 1
  tail_begins =
      let stands = tail_stands bytes read.whole.tail tail (subst (IsTailOfText bytes read.whole.tail) tail_is read.tail_is) in
      let at = stands.1 in
      let all : length (lines bytes) ≡ length at.before + length (lines (drop tail.from bytes)) = ap length at.lines_are ∙ length-append at.before (lines (drop tail.from bytes)) in
      omega (arith, few_lines bytes, at.line_is, at.number_is)

  pub tail_short : tail.line + length (take (length bytes - tail.from) (drop tail.from bytes)) < 4294967296
  tail_short =
      let begins = tail_begins in
      let slice = ap length (slice_is bytes tail.from) in
      let rest = length-drop tail.from bytes in
      omega arith
