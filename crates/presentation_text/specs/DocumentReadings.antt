-- Reading the lines of a document one after the other.
use Rattle.std.specs.Prelude.{ℕ, suc, ◌&&◌, ◌||◌, ◌==◌, if◌then◌else◌, List, [], ◌∷◌, codes, Option, Some, None, Result, Ok, Err}
use Rattle.std.specs.Option.{is_some}
use Rattle.presentation_text.specs.declared.kinds.DocKind.{DocKind}
use Rattle.presentation_text.specs.declared.kinds.DocKind.TheVariants.{Header, Directive, Missing}
use Rattle.presentation_text.specs.declared.lexing.Token.{Token}
use Rattle.presentation_text.specs.declared.lexing.Token.TheVariants.{Word, Number}
use Rattle.presentation_text.specs.Lines.{counts, lines}
use Rattle.presentation_text.specs.LineReadings.{Contents, contents_by_header, is, section_of, word_fault, rest_of_line}
use Rattle.presentation_text.specs.Readings.{Fault}
use Rattle.presentation_text.specs.Tokens.{tokens}

-- the line that is refused, and the kind
abbrev pub LineFault : Type 0
LineFault = ℕ × DocKind

-- What the lines of a presentation say, and the number of the tail's first line, if there is a tail.
pub record Whole : Type 0 where
  pub contents : Contents
  pub tail : Option ℕ

-- ---- one line

-- the presentation goes on, or the tail begins
pub data Behind : Type 0 where
  goes_on : Contents → Behind
  tail_begins : Behind

abbrev pub refused_at : ℕ → Result Contents Fault → Result Behind LineFault
refused_at number (Ok contents) = Ok (goes_on contents)
refused_at number (Err fault) = Err (number, fault.1)

abbrev pub unless_word : ℕ → Option DocKind → Result Behind LineFault → Result Behind LineFault
unless_word number None behind = behind
unless_word number (Some kind) behind = Err (number, kind)

-- a line that begins with a word: what stands against the word comes first
unfoldable pub word_line : Contents → ℕ → List ℕ → List Token → Result Behind LineFault
word_line contents number w rest =
    unless_word number (word_fault contents w) (if section_of contents.version w == 7 then Ok tail_begins else refused_at number (rest_of_line contents number w rest))

abbrev pub begun_line : Contents → ℕ → Token → List Token → Result Behind LineFault
begun_line contents number (Word w) rest = word_line contents number w rest
begun_line contents number token rest = Err (number, Directive)

-- a line that counts, by its number and its tokens
abbrev pub counted_line : Contents → ℕ → List Token → Result Behind LineFault
counted_line contents number [] = Err (number, Directive)
counted_line contents number (token ∷ rest) = begun_line contents number token rest

-- ---- all lines

-- at the end of the text a field and an order must stand
abbrev pub at_end : Contents → ℕ → Result Whole LineFault
at_end contents number = if is_some contents.field && is_some contents.order then Ok (record { contents = contents; tail = None }) else Err (number, Missing)

abbrev pub on_from : ℕ → (Contents → Result Whole LineFault) → Contents → Behind → Result Whole LineFault
on_from number on before (goes_on contents) = on contents
on_from number on before tail_begins = Ok (record { contents = before; tail = Some number })

abbrev pub unless_refused : (Behind → Result Whole LineFault) → Result Behind LineFault → Result Whole LineFault
unless_refused on (Ok behind) = on behind
unless_refused on (Err fault) = Err fault

-- the lines behind those that say this, whose numbers go from `number` on; lines that don't count are passed over
unfoldable pub lines_from : Contents → ℕ → List (List ℕ) → Result Whole LineFault
lines_from contents number [] = at_end contents number
lines_from contents number (line ∷ others) =
    if counts line
    then unless_refused (on_from number (λ now. lines_from now (suc number) others) contents) (counted_line contents number (tokens line))
    else lines_from contents (suc number) others

-- ---- the header

abbrev pub version_token : Token → Option ℕ
version_token (Number n) = if n == 1 || n == 2 then Some n else None
version_token token = None

abbrev pub if_last : List Token → Option ℕ → Option ℕ
if_last [] version = version
if_last (token ∷ rest) version = None

abbrev pub version_behind : List Token → Option ℕ
version_behind [] = None
version_behind (token ∷ rest) = if_last rest (version_token token)

abbrev pub version_begun : Token → List Token → Option ℕ
version_begun (Word w) rest = if is w (codes "operad") then version_behind rest else None
version_begun token rest = None

-- the version of a header: exactly the two tokens of `operad 1` or `operad 2`
abbrev pub version_of : List Token → Option ℕ
version_of [] = None
version_of (token ∷ rest) = version_begun token rest

abbrev pub behind_header : ℕ → (ℕ → Result Whole LineFault) → Option ℕ → Result Whole LineFault
behind_header number on None = Err (number, Header)
behind_header number on (Some version) = on version

-- all lines of a document, whose numbers go from `number` on: the first one that counts is the header
unfoldable pub document_from : ℕ → List (List ℕ) → Result Whole LineFault
document_from number [] = Err (number, Header)
document_from number (line ∷ others) =
    if counts line
    then behind_header number (λ version. lines_from (contents_by_header version) (suc number) others) (version_of (tokens line))
    else document_from (suc number) others

-- what a text says, or its first fault
abbrev pub read_text : List ℕ → Result Whole LineFault
read_text bytes = document_from 1 (lines bytes)
