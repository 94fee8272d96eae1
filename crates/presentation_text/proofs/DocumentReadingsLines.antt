-- Reading the lines of a document one after the other.
use Rattle.std.proofs.Common.{◌≡◌, ◌+◌, ℕ, zero, suc, true, false, ◌==◌, ◌&&◌, List, [], ◌∷◌, drop, Some, None, Result, Ok, Err, add-one, sym, ap, ◌∙◌, refl, subst, length, get_or, ◌<◌, arith}
use Rattle.std.specs.Option.{is_some}
use Rattle.std.specs.Result.{IsErr, IsErrAnd, MatchResult}
use Rattle.presentation_text.specs.DocumentDrafts.{StopsAtLine, tail_number}
use Rattle.presentation_text.specs.DocumentReadings.{Behind, LineFault, Whole, at_end, behind_header, counted_line, document_from, goes_on, lines_from, on_from, refused_at, tail_begins, unless_refused, version_of, word_line}
use Rattle.presentation_text.specs.LineReadings.{Contents, rest_of_line, section_of, contents_by_header, word_fault}
use Rattle.presentation_text.specs.Lines.{counts}
use Rattle.presentation_text.specs.Tokens.{tokens}
use Rattle.presentation_text.specs.declared.kinds.DocKind.{DocKind}
use Rattle.presentation_text.specs.declared.kinds.DocKind.TheVariants.{Header, Missing}
use Rattle.presentation_text.specs.declared.kinds.ReadDocFail.{ReadDocFail}
use Rattle.presentation_text.specs.declared.kinds.ReadDocFail.TheVariants.{At, NoMemory}
use Rattle.presentation_text.specs.declared.lexing.Token.{Token}
use Rattle.presentation_text.specs.declared.lexing.Token.TheVariants.{Word}

-- ---- one line

pub begun_by : (all slice : List Token) (token : Token) (word name : List ℕ) → slice ≡ all → 0 < length slice → token ≡ get_or slice 0 token → token ≡ Word word → name ≡ word
    → all ≡ Word name ∷ drop 1 slice
begun_by all [] token word name e l first f n = absurd (omega arith)
begun_by all (t ∷ ts) token word name e l first f n = sym e ∙ ap (λ x. x ∷ ts) (sym first ∙ f ∙ ap Word (sym n))

pub line_refused : (contents : Contents) (number : ℕ) (ts rest : List Token) (w : List ℕ) (kind : DocKind) → ts ≡ Word w ∷ rest → word_fault contents w ≡ Some kind → counted_line contents number ts ≡ Err (number, kind)
unfolding word_line
line_refused contents number ts rest w kind e f = rw (e, f) refl

pub line_begins_tail : (contents : Contents) (number : ℕ) (ts rest : List Token) (w : List ℕ) → ts ≡ Word w ∷ rest → word_fault contents w ≡ None → section_of contents.version w ≡ 7
    → counted_line contents number ts ≡ Ok tail_begins
unfolding word_line
line_begins_tail contents number ts rest w e f g = let seventh : (section_of contents.version w == 7) ≡ true = ap (λ n. n == 7) g in rw (e, f, seventh) refl

pub line_goes_on : (contents : Contents) (number : ℕ) (ts rest : List Token) (w : List ℕ) → ts ≡ Word w ∷ rest → word_fault contents w ≡ None → (section_of contents.version w == 7) ≡ false
    → counted_line contents number ts ≡ refused_at number (rest_of_line contents number w rest)
unfolding word_line
line_goes_on contents number ts rest w e f g = rw (e, f, g) refl

-- ---- what functions that stop at a line give

pub line_fails : {A X : Type 0} (Given : A → Type 0) (reading : Result X LineFault) (r : Result A ReadDocFail) (line : ℕ) (kind : DocKind) → reading ≡ Err (line, kind)
    → r ≡ Err (At (record { line = line; kind = kind })) → MatchResult r Given (StopsAtLine reading)
line_fails Given reading r line kind e f = subst (λ x. MatchResult x Given (StopsAtLine reading)) (sym f) e

pub line_stops : {A : Type 0} (Given : A → Type 0) (Stops : ReadDocFail → Type 0) (r : Result A ReadDocFail) (fail : ReadDocFail) → IsErr r → IsErrAnd r (λ e. e ≡ fail) → Stops fail
    → MatchResult r Given Stops
line_stops Given Stops (Ok x) fail h e stops = absurd e
line_stops Given Stops (Err other) fail h e stops = subst Stops (sym e) stops

-- what stops at its first line stops
pub lines_stop : (on : Behind → Result Whole LineFault) (reading : Result Behind LineFault) (whole : Result Whole LineFault) (fail : ReadDocFail) → whole ≡ unless_refused on reading
    → StopsAtLine reading fail → StopsAtLine whole fail
lines_stop on reading whole (At fail) e h = e ∙ ap (unless_refused on) h
lines_stop on reading whole NoMemory e h = tt

-- ---- the lines behind the header

pub lines_passed : (contents : Contents) (number : ℕ) (all others : List (List ℕ)) (line : List ℕ) → all ≡ line ∷ others → counts line ≡ false → lines_from contents number all ≡ lines_from contents (number + 1) others
unfolding lines_from
lines_passed contents number all others line e passed = rw (e, passed, add-one) refl

pub lines_counted : (contents : Contents) (number : ℕ) (all others : List (List ℕ)) (line : List ℕ) → all ≡ line ∷ others → counts line ≡ true
    → lines_from contents number all ≡ unless_refused (on_from number (λ now. lines_from now (number + 1) others) contents) (counted_line contents number (tokens line))
unfolding lines_from
lines_counted contents number all others line e counted = rw (e, counted, add-one) refl

pub lines_go_on : (contents now : Contents) (number : ℕ) (all others : List (List ℕ)) (line : List ℕ) → all ≡ line ∷ others → counts line ≡ true → counted_line contents number (tokens line) ≡ Ok (goes_on now)
    → lines_from contents number all ≡ lines_from now (number + 1) others
lines_go_on contents now number all others line e counted h =
    lines_counted contents number all others line e counted ∙ ap (unless_refused (on_from number (λ later. lines_from later (number + 1) others) contents)) h

pub lines_tail : (contents : Contents) (number : ℕ) (all others : List (List ℕ)) (line : List ℕ) → all ≡ line ∷ others → counts line ≡ true → counted_line contents number (tokens line) ≡ Ok tail_begins
    → lines_from contents number all ≡ Ok (record { contents = contents; tail = Some number })
lines_tail contents number all others line e counted h =
    lines_counted contents number all others line e counted ∙ ap (unless_refused (on_from number (λ later. lines_from later (number + 1) others) contents)) h

pub tail_some : (left number : ℕ) → 0 < left → tail_number left number ≡ Some number
tail_some zero number l = absurd (omega arith)
tail_some (suc left) number l = refl

pub lines_end : (contents : Contents) (number : ℕ) (all : List (List ℕ)) → all ≡ [] → lines_from contents number all ≡ at_end contents number
unfolding lines_from
lines_end contents number all e = rw e refl

pub end_missing : (contents : Contents) (number : ℕ) → (is_some contents.field && is_some contents.order) ≡ false → at_end contents number ≡ Err (number, Missing)
end_missing contents number e = rw e refl

pub end_whole : (contents : Contents) (number : ℕ) → (is_some contents.field && is_some contents.order) ≡ true → at_end contents number ≡ Ok (record { contents = contents; tail = None })
end_whole contents number e = rw e refl

-- ---- the header

pub header_passed : (number : ℕ) (all others : List (List ℕ)) (line : List ℕ) → all ≡ line ∷ others → counts line ≡ false → document_from number all ≡ document_from (number + 1) others
unfolding document_from
header_passed number all others line e passed = rw (e, passed, add-one) refl

pub header_counted : (number : ℕ) (all others : List (List ℕ)) (line : List ℕ) → all ≡ line ∷ others → counts line ≡ true
    → document_from number all ≡ behind_header number (λ version. lines_from (contents_by_header version) (number + 1) others) (version_of (tokens line))
unfolding document_from
header_counted number all others line e counted = rw (e, counted, add-one) refl

pub header_missing : (number : ℕ) (all : List (List ℕ)) → all ≡ [] → document_from number all ≡ Err (number, Header)
unfolding document_from
header_missing number all e = rw e refl
