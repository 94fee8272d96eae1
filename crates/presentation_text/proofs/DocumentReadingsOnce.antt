-- A text is read in one way.
use Rattle.std.proofs.Common.{◌≡◌, ◌<◌, ◌≤◌, ◌+◌, ◌==◌, ◌⊎◌, inl, inr, ℕ, suc, Bool, true, false, if◌then◌else◌, List, [], ◌∷◌, ◌++◌, length, drop, get_or, Option, Some, None, Result, Ok, Err, arith, ap, sym, ◌∙◌, refl, subst, length-drop}
use Rattle.std.proofs.Math.Seq.{drop-cons}
use Rattle.presentation_text.specs.DocumentReadings.{LineFault, Whole, read_text}
use Rattle.presentation_text.specs.Laws.{DocumentsAreDetermined, SayTheSame}
use Rattle.presentation_text.specs.Lines.{in_front, lines}
use Rattle.presentation_text.specs.Presentations.{IsReadAs, IsTextRefused, IsTailOfText, IsTailAt, HasContents}
use Rattle.presentation_text.specs.declared.document.Document.{Document}
use Rattle.presentation_text.specs.declared.document.Tail.{Tail}
use Rattle.presentation_text.specs.declared.kinds.DocFail.{DocFail}
use Rattle.presentation_text.specs.declared.kinds.ReadDocFail.TheVariants.{At}

-- ---- texts that end alike and have the same lines

-- how many bytes lines have, each with its line feed
abbrev size : List (List ℕ) → ℕ
size [] = 0
size (line ∷ others) = suc (length line) + size others

-- the lines of a text have its bytes, and at most one line feed more
abbrev Sized : List ℕ → List (List ℕ) → Type 0
Sized text ls = (length text ≤ size ls) × (size ls ≤ suc (length text))

sized-front : (c : ℕ) (cs : List ℕ) (ls : List (List ℕ)) → Sized cs ls → Sized (c ∷ cs) (in_front c ls)
sized-front c cs [] h = (omega (arith, h.0), omega arith)
sized-front c cs (line ∷ others) h = (omega (arith, h.0), omega (arith, h.1))

sized-byte : (feed : Bool) (c : ℕ) (cs : List ℕ) → Sized cs (lines cs) → Sized (c ∷ cs) (if feed then [] ∷ lines cs else in_front c (lines cs))
sized-byte true c cs h = (omega (arith, h.0), omega (arith, h.1))
sized-byte false c cs h = sized-front c cs (lines cs) h

sized : (text : List ℕ) → Sized text (lines text)
sized [] = (omega arith, omega arith)
sized (c ∷ cs) = sized-byte (c == 10) c cs (sized cs)

longer_front : (c : ℕ) (ls : List (List ℕ)) → in_front c ls ≡ ls → ⊥
longer_front c [] e = cc
longer_front c (line ∷ others) e = let first : c ∷ line ≡ line = cc in let lengths = ap length first in omega arith

longer_byte : (feed : Bool) (c : ℕ) (ls : List (List ℕ)) → (if feed then [] ∷ ls else in_front c ls) ≡ ls → ⊥
longer_byte true c ls e = let lengths = ap length e in omega arith
longer_byte false c ls e = longer_front c ls e

-- a text with one more byte in front has other lines
other_lines : (text : List ℕ) (at : ℕ) → at < length text → lines (drop at text) ≡ lines (drop (suc at) text) → ⊥
other_lines text at l e =
    let byte = get_or text at 0 in
    let here : drop at text ≡ byte ∷ drop (suc at) text = drop-cons text at 0 l in
    longer_byte (byte == 10) byte (lines (drop (suc at) text)) (sym (ap lines here) ∙ e)

apart_once : (text : List ℕ) (at later : ℕ) → at < later → later ≤ length text → lines (drop at text) ≡ lines (drop later text) → ⊥
apart_once text at later l within e =
    let one = sized (drop at text) in
    let other = sized (drop later text) in
    let sizes = ap size e in
    let long = length-drop at text in
    let short = length-drop later text in
    let next : later ≡ suc at = omega (arith, one.1, other.0, one.0, other.1) in
    other_lines text at (omega arith) (subst (λ place. lines (drop at text) ≡ lines (drop place text)) next e)

-- two places from which on a text has the same lines are one
one_place : (text : List ℕ) (at other : ℕ) → at ≤ length text → other ≤ length text → lines (drop at text) ≡ lines (drop other text) → at ≡ other
one_place text at other l k e = place (cases_of at other)
  where
    cases_of : (m n : ℕ) → (m < n) ⊎ ((m ≡ n) ⊎ (n < m))
    cases_of m n = grind arith

    place : (at < other) ⊎ ((at ≡ other) ⊎ (other < at)) → at ≡ other
    place (inl before) = absurd (apart_once text at other before k e)
    place (inr (inl same)) = same
    place (inr (inr behind)) = absurd (apart_once text other at behind l (sym e))

-- ---- one tail

rest_is : {X : Type 0} (x y : X) (a b : List X) → x ∷ a ≡ y ∷ b → a ≡ b
rest_is x y a b e = cc

front_is : {X : Type 0} (a b c d : List X) → length a ≡ length b → a ++ c ≡ b ++ d → c ≡ d
front_is [] [] c d l e = e
front_is [] (y ∷ b) c d l e = absurd (omega arith)
front_is (x ∷ a) [] c d l e = absurd (omega arith)
front_is (x ∷ a) (y ∷ b) c d l e = front_is a b c d (omega arith) (rest_is x y (a ++ c) (b ++ d) e)

one_start : (bytes : List ℕ) (number : ℕ) (tail other : Tail) → IsTailAt bytes number tail → IsTailAt bytes number other → tail ≡ other
one_start bytes number tail other h g =
    let counts : length h.before ≡ length g.before = omega (arith, h.number_is, g.number_is) in
    let behind = front_is h.before g.before (lines (drop tail.from bytes)) (lines (drop other.from bytes)) counts (sym h.lines_are ∙ g.lines_are) in
    let from = one_place bytes tail.from other.from h.within g.within behind in
    let line : tail.line ≡ other.line = h.line_is ∙ sym g.line_is in
    ap (λ n. record { line = n; from = tail.from }) line ∙ ap (λ n. record { line = other.line; from = n }) from

one_tail : (bytes : List ℕ) (number : Option ℕ) (tail other : Option Tail) → IsTailOfText bytes number tail → IsTailOfText bytes number other → tail ≡ other
one_tail bytes None tail other h g = h ∙ sym g
one_tail bytes (Some number) None other h g = absurd h
one_tail bytes (Some number) (Some tail) None h g = absurd g
one_tail bytes (Some number) (Some tail) (Some other) h g = ap Some (one_start bytes number tail other h g)

-- ---- one document

pub same_value : {X : Type 0} (found : Option X) (x y : X) → found ≡ Some x → found ≡ Some y → x ≡ y
same_value found x y e f = cc

one_whole : {A : Type 0} (reading : Result A LineFault) (x y : A) → reading ≡ Ok x → reading ≡ Ok y → x ≡ y
one_whole reading x y e f = cc

say_same : (bytes : List ℕ) (whole : Whole) (document other : Document) → HasContents whole.contents document → HasContents whole.contents other → IsTailOfText bytes whole.tail document.tail → IsTailOfText bytes whole.tail other.tail
    → SayTheSame document other
say_same bytes whole document other h g tail end = record {
  version = h.version_is ∙ sym g.version_is;
  field = same_value whole.contents.field document.field other.field h.field_is g.field_is;
  order = same_value whole.contents.order document.order other.order h.order_is g.order_is;
  generators = h.generators_are ∙ sym g.generators_are;
  weights = h.weights_are ∙ sym g.weights_are;
  relations = h.relations_are ∙ sym g.relations_are;
  asks = h.asks_are ∙ sym g.asks_are;
  tail = one_tail bytes whole.tail document.tail other.tail tail end;
}

one_document : (bytes : List ℕ) (document other : Document) → IsReadAs bytes document → IsReadAs bytes other → SayTheSame document other
one_document bytes document other h g =
    let same = one_whole (read_text bytes) g.whole h.whole g.reading_is h.reading_is in
    say_same bytes h.whole document other h.says (subst (λ whole. HasContents whole.contents other) same g.says) h.tail_is (subst (λ whole. IsTailOfText bytes whole.tail other.tail) same g.tail_is)

same_fault : {A : Type 0} (reading : Result A LineFault) (x y : LineFault) → reading ≡ Err x → reading ≡ Err y → x ≡ y
same_fault reading x y e f = cc

one_fault : (bytes : List ℕ) (fail other : DocFail) → IsTextRefused bytes (At fail) → IsTextRefused bytes (At other) → fail ≡ other
one_fault bytes fail other h g =
    let same = same_fault (read_text bytes) (fail.line, fail.kind) (other.line, other.kind) h g in
    let line : fail.line ≡ other.line = ap (λ fault. fault.0) same in
    let kind : fail.kind ≡ other.kind = ap (λ fault. fault.1) same in
    ap (λ n. record { line = n; kind = fail.kind }) line ∙ ap (λ k. record { line = other.line; kind = k }) kind

never_both : {A : Type 0} (reading : Result A LineFault) (x : A) (fault : LineFault) → reading ≡ Ok x → reading ≡ Err fault → ⊥
never_both reading x fault e f = cc

accepted_or_refused : (bytes : List ℕ) (reading : Result Whole LineFault) → read_text bytes ≡ reading → ((whole : Whole) × (read_text bytes ≡ Ok whole)) ⊎ ((fail : DocFail) × IsTextRefused bytes (At fail))
accepted_or_refused bytes (Ok whole) e = inl (whole, e)
accepted_or_refused bytes (Err fault) e = inr (record { line = fault.0; kind = fault.1 }, e)

pub determined : DocumentsAreDetermined
determined bytes = record {
  either = accepted_or_refused bytes (read_text bytes) refl;
  one_document = one_document bytes;
  one_fault = one_fault bytes;
  never_both = λ document fail h g. never_both (read_text bytes) h.whole (fail.line, fail.kind) h.reading_is g;
}
