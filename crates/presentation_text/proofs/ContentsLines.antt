-- What a text that is accepted says is well formed.
use Rattle.std.proofs.Common.{◌≡◌, ◌≤◌, ◌+◌, ◌==◌, ◌&&◌, ◌||◌, ◌⊎◌, inl, inr, ℕ, suc, Bool, true, false, not, cond, nat_lt, codes, List, [], ◌∷◌, Option, Some, None, Result, Ok, Err, add-one, arith, ap, sym, ◌∙◌, refl, subst}
use Rattle.std.specs.Option.{is_some}
use Rattle.std.proofs.lemmas.Bool.Decides.{nat_tests}
use Rattle.std.proofs.lemmas.Slice.Eq.{bytes_eq-Decides}
use Rattle.presentation_text.specs.Accepted.{ElementsAreAccepted}
use Rattle.presentation_text.specs.DocumentReadings.{Behind, LineFault, Whole, at_end, behind_header, counted_line, document_from, goes_on, lines_from, on_from, refused_at, tail_begins, unless_refused, unless_word, version_behind, version_of, version_token, if_last, word_line}
use Rattle.presentation_text.specs.LineReadings.{Contents, is, is_inside_tail, is_missing, is_out_of_order, is_unknown, rest_of_line, section_of, contents_by_header, word_fault}
use Rattle.presentation_text.specs.Lines.{counts, lines}
use Rattle.presentation_text.specs.Readings.{Fault}
use Rattle.presentation_text.specs.Tokens.{tokens}
use Rattle.presentation_text.specs.WellFormed.{AcceptedTextsAreWellFormed, AreWellFormed, IsWholeWellFormed}
use Rattle.presentation_text.specs.declared.kinds.DocKind.{DocKind}
use Rattle.presentation_text.specs.declared.lexing.Token.{Token}
use Rattle.presentation_text.specs.declared.lexing.Token.TheVariants.{Word, Number, Long, Byte, Bad}
use Rattle.presentation_text.proofs.DocumentReadingsWords.{both_before, no_row}
use Rattle.presentation_text.proofs.LineReadingsNumbers.{both_true, equal_told}
use Rattle.presentation_text.proofs.TokenLaws.{words}
use Rattle.presentation_text.proofs.ContentsReadings.{HasWords, StandsBefore, field_stands, gen_stands, header_stands, order_stands, later, query_stands, rel_stands, same_stands, weight_stands}

-- ---- the word of a line

against : (contents : Contents) (w : List ℕ) → word_fault contents w ≡ None → (is_unknown contents.version w ≡ false) × (is_out_of_order contents w ≡ false) × (is_inside_tail w ≡ false)
unfolding word_fault
against contents w e =
    let rows = no_row (is_unknown contents.version w) (is_missing contents w) (is_out_of_order contents w) (is_inside_tail w) _ _ _ _ e in
    (rows.0, rows.2, rows.3)

rises : (section last : ℕ) (inside : Bool) (b c : Bool) → inside ≡ false → ((section == 0) && not inside) ≡ false → ((nat_lt 0 section && nat_lt section last) || b || c) ≡ false → last ≤ section
rises section last true b c e f g = absurd cc
rises section last false b c e f g = known (section == 0) refl f
  where
    before : (s t : Bool) → (nat_lt section last) ≡ t → s ≡ true → ((s && t) || b || c) ≡ false → last ≤ section
    before true true h k m = absurd cc
    before true false h k m = grind (arith, nat_tests)
    before false t h k m = absurd cc

    known : (z : Bool) → (section == 0) ≡ z → (z && true) ≡ false → last ≤ section
    known true h k = absurd cc
    known false h k = let some : nat_lt 0 section ≡ true = grind (arith, nat_tests) in before (nat_lt 0 section) (nat_lt section last) refl some g

-- the section of a line is not before that of the last one
section_rises : (contents : Contents) (w : List ℕ) → word_fault contents w ≡ None → contents.section ≤ section_of contents.version w
section_rises contents w e =
    let h = against contents w e in
    rises (section_of contents.version w) contents.section (is_inside_tail w) (is w (codes "field") && is_some contents.field) (is w (codes "order") && is_some contents.order) h.2 h.0 h.1

pub is_word : (w other : List ℕ) → is w other ≡ true → w ≡ other
is_word w other e = (bytes_eq-Decides w other).0 e

-- in version 1 no line has a weight
weight_two : (contents : Contents) → word_fault contents (codes "weight") ≡ None → contents.version ≡ 1 → ⊥
weight_two contents e one =
    let unknown : is_unknown 1 (codes "weight") ≡ false = subst (λ version. is_unknown version (codes "weight") ≡ false) one (against contents (codes "weight") e).0 in
    let both : true ≡ false = unknown in absurd cc

-- ---- a line

pub choose : {A E P : Type 0} (b : Bool) (one other : Result A E) (x : A) → cond b one other ≡ Ok x → (b ≡ true → one ≡ Ok x → P) → (b ≡ false → other ≡ Ok x → P) → P
choose true one other x e f g = f refl e
choose false one other x e f g = g refl e

rel_section : (two : Bool) → cond (two && false) 4 5 ≤ 5
rel_section true = omega arith
rel_section false = omega arith

weight_section : (two : Bool) → cond (two && true) 4 0 ≤ 4
weight_section true = omega arith
weight_section false = omega arith

-- the section of the last line is at most that of this word
abbrev Follows : Contents → List ℕ → Type 0
Follows contents word = contents.section ≤ section_of contents.version word

follows : (contents : Contents) (w word : List ℕ) → word_fault contents w ≡ None → is w word ≡ true → Follows contents word
follows contents w word free e = subst (Follows contents) (is_word w word e) (section_rises contents w free)

free_of : (contents : Contents) (w word : List ℕ) → word_fault contents w ≡ None → is w word ≡ true → word_fault contents word ≡ None
free_of contents w word free e = subst (λ v. word_fault contents v ≡ None) (is_word w word e) free

line_stands : ElementsAreAccepted → (number : ℕ) (contents now : Contents) (w : List ℕ) (ts : List Token) → HasWords ts → StandsBefore number contents → word_fault contents w ≡ None
    → rest_of_line contents number w ts ≡ Ok now → StandsBefore (number + 1) now
line_stands accepted number contents now w ts words h free e =
    choose (is w (codes "field")) _ _ now e (λ t f. field_stands number contents now ts h (follows contents w (codes "field") free t) f) (λ u a.
    choose (is w (codes "order")) _ _ now a (λ t f. order_stands number contents now ts h (follows contents w (codes "order") free t) f) (λ u b.
    choose (is w (codes "gen")) _ _ now b (λ t f. gen_stands number contents now ts words h (follows contents w (codes "gen") free t) f) (λ u c.
    choose (is w (codes "weight")) _ _ now c (λ t f.
    let low = follows contents w (codes "weight") free t in
    let most = weight_section (contents.version == 2) in
    weight_stands number contents now ts (weight_two contents (free_of contents w (codes "weight") free t)) h (omega (arith, low, most)) f) (λ u d.
    choose (is w (codes "rel")) _ _ now d (λ t f.
    let low = follows contents w (codes "rel") free t in
    let most = rel_section (contents.version == 2) in
    rel_stands accepted number contents now ts h (omega (arith, low, most)) f) (λ u g.
    choose (is w (codes "query")) _ _ now g (λ t f. query_stands accepted number contents now ts h f) (λ t f. same_stands accepted number contents now ts h f))))))

pub free_word : (number : ℕ) (fault : Option DocKind) (reading : Result Behind LineFault) (behind : Behind) → unless_word number fault reading ≡ Ok behind → (fault ≡ None) × (reading ≡ Ok behind)
free_word number None reading behind e = (refl, e)
free_word number (Some kind) reading behind e = absurd cc

pub went_on : (number : ℕ) (reading : Result Contents Fault) (now : Contents) → refused_at number reading ≡ Ok (goes_on now) → reading ≡ Ok now
went_on number (Ok contents) now e = let same : contents ≡ now = cc in ap Ok same
went_on number (Err fault) now e = absurd cc

pub no_tail : (number : ℕ) (reading : Result Contents Fault) → refused_at number reading ≡ Ok tail_begins → ⊥
no_tail number (Ok contents) e = cc
no_tail number (Err fault) e = cc

counted_stands : ElementsAreAccepted → (number : ℕ) (contents now : Contents) (ts : List Token) → HasWords ts → StandsBefore number contents → counted_line contents number ts ≡ Ok (goes_on now) → StandsBefore (number + 1) now
unfolding word_line
counted_stands accepted number contents now [] words h e = absurd cc
counted_stands accepted number contents now (Word w ∷ rest) words h e =
    let free = free_word number (word_fault contents w) _ (goes_on now) e in
    choose (section_of contents.version w == 7) _ _ (goes_on now) free.1 (λ t f. absurd cc)
    (λ t f. line_stands accepted number contents now w rest (λ v m. words v (inr m)) h free.0 (went_on number (rest_of_line contents number w rest) now f))
counted_stands accepted number contents now (Number n ∷ rest) words h e = absurd cc
counted_stands accepted number contents now (Long ∷ rest) words h e = absurd cc
counted_stands accepted number contents now (Byte c ∷ rest) words h e = absurd cc
counted_stands accepted number contents now (Bad ∷ rest) words h e = absurd cc

tail_after : (number : ℕ) (contents : Contents) (ts : List Token) → counted_line contents number ts ≡ Ok tail_begins → (is_some contents.field ≡ true) × (is_some contents.order ≡ true)
unfolding word_line
tail_after number contents [] e = absurd cc
tail_after number contents (Word w ∷ rest) e =
    let free = free_word number (word_fault contents w) _ tail_begins e in
    choose (section_of contents.version w == 7) _ _ tail_begins free.1 (λ t f. both_before contents w free.0 (equal_told (section_of contents.version w) 7 t))
    (λ t f. absurd (no_tail number (rest_of_line contents number w rest) f))
tail_after number contents (Number n ∷ rest) e = absurd cc
tail_after number contents (Long ∷ rest) e = absurd cc
tail_after number contents (Byte c ∷ rest) e = absurd cc
tail_after number contents (Bad ∷ rest) e = absurd cc

-- ---- all lines

pub read_behind : (on : Behind → Result Whole LineFault) (reading : Result Behind LineFault) (whole : Whole) → unless_refused on reading ≡ Ok whole → (behind : Behind) × (reading ≡ Ok behind) × (on behind ≡ Ok whole)
read_behind on (Ok behind) whole e = (behind, refl, e)
read_behind on (Err fault) whole e = absurd cc

one_whole : (reading : Result Whole LineFault) (x y : Whole) → reading ≡ Ok x → reading ≡ Ok y → x ≡ y
one_whole reading x y e f = cc

whole_well : (contents : Contents) (tail : Option ℕ) (whole : Whole) (reading : Result Whole LineFault) → AreWellFormed contents → (is_some contents.field ≡ true) × (is_some contents.order ≡ true)
    → reading ≡ Ok (record { contents = contents; tail = tail }) → reading ≡ Ok whole → IsWholeWellFormed whole.contents
whole_well contents tail whole reading well both e f =
    let read : Whole = record { contents = contents; tail = tail } in
    subst (λ (w : Whole). IsWholeWellFormed w.contents) (one_whole reading read whole e f) (record { well = well; field = both.0; order = both.1 })

end_well : (contents : Contents) (number : ℕ) (whole : Whole) → AreWellFormed contents → at_end contents number ≡ Ok whole → IsWholeWellFormed whole.contents
end_well contents number whole well e =
    choose (is_some contents.field && is_some contents.order) _ _ whole e (λ t f. whole_well contents None whole (Ok (record { contents = contents; tail = None })) well (both_true (is_some contents.field) (is_some contents.order) t) refl f) (λ t f. absurd cc)

behind_well : (number : ℕ) (on : Contents → Result Whole LineFault) (contents : Contents) (behind : Behind) (whole : Whole) → AreWellFormed contents
    → (behind ≡ tail_begins → (is_some contents.field ≡ true) × (is_some contents.order ≡ true)) → ((now : Contents) → behind ≡ goes_on now → on now ≡ Ok whole → IsWholeWellFormed whole.contents)
    → on_from number on contents behind ≡ Ok whole → IsWholeWellFormed whole.contents
behind_well number on contents (goes_on now) whole well tail more e = more now refl e
behind_well number on contents tail_begins whole well tail more e = whole_well contents (Some number) whole (Ok (record { contents = contents; tail = Some number })) well (tail refl) refl e

lines_well : ElementsAreAccepted → (ls : List (List ℕ)) (contents : Contents) (number : ℕ) (whole : Whole) → StandsBefore number contents → lines_from contents number ls ≡ Ok whole → IsWholeWellFormed whole.contents
unfolding lines_from
lines_well accepted [] contents number whole h e = end_well contents number whole h.well e
lines_well accepted (line ∷ others) contents number whole h e =
    choose (counts line) _ _ whole e (λ t f.
    let behind = read_behind (on_from number (λ now. lines_from now (suc number) others) contents) (counted_line contents number (tokens line)) whole f in
    behind_well number (λ now. lines_from now (suc number) others) contents behind.0 whole h.well
    (λ s. tail_after number contents (tokens line) (behind.1 ∙ ap Ok s))
    (λ now s g.
    let stands = counted_stands accepted number contents now (tokens line) (λ w m. words line w m) h (behind.1 ∙ ap Ok s) in
    lines_well accepted others now (suc number) whole (subst (λ n. StandsBefore n now) (add-one number) stands) g)
    behind.2)
    (λ t f. lines_well accepted others contents (suc number) whole (later number contents h) f)

-- ---- the header

one_or_two : (n v : ℕ) → version_token (Number n) ≡ Some v → (v ≡ 1) ⊎ (v ≡ 2)
one_or_two n v e = version (n == 1) (n == 2) n v refl refl e
  where
    version : (a b : Bool) (m k : ℕ) → (m == 1) ≡ a → (m == 2) ≡ b → cond (a || b) (Some m) None ≡ Some k → (k ≡ 1) ⊎ (k ≡ 2)
    version true b m k f g h = let same : m ≡ k = cc in inl (sym same ∙ equal_told m 1 f)
    version false true m k f g h = let same : m ≡ k = cc in inr (sym same ∙ equal_told m 2 g)
    version false false m k f g h = absurd cc

last_version : (token : Token) (rest : List Token) (v : ℕ) → if_last rest (version_token token) ≡ Some v → (v ≡ 1) ⊎ (v ≡ 2)
last_version (Number n) [] v e = one_or_two n v e
last_version (Word w) [] v e = absurd cc
last_version Long [] v e = absurd cc
last_version (Byte c) [] v e = absurd cc
last_version Bad [] v e = absurd cc
last_version token (other ∷ rest) v e = absurd cc

operad_version : (b : Bool) (ts : List Token) (v : ℕ) → cond b (version_behind ts) None ≡ Some v → (v ≡ 1) ⊎ (v ≡ 2)
operad_version true [] v e = absurd cc
operad_version true (token ∷ rest) v e = last_version token rest v e
operad_version false ts v e = absurd cc

version_known : (ts : List Token) (v : ℕ) → version_of ts ≡ Some v → (v ≡ 1) ⊎ (v ≡ 2)
version_known [] v e = absurd cc
version_known (Word w ∷ rest) v e = operad_version (is w (codes "operad")) rest v e
version_known (Number n ∷ rest) v e = absurd cc
version_known (Long ∷ rest) v e = absurd cc
version_known (Byte c ∷ rest) v e = absurd cc
version_known (Bad ∷ rest) v e = absurd cc

header_well : (number : ℕ) (on : ℕ → Result Whole LineFault) (found : Option ℕ) (whole : Whole) → ((v : ℕ) → found ≡ Some v → on v ≡ Ok whole → IsWholeWellFormed whole.contents)
    → behind_header number on found ≡ Ok whole → IsWholeWellFormed whole.contents
header_well number on None whole more e = absurd cc
header_well number on (Some v) whole more e = more v refl e

document_well : ElementsAreAccepted → (ls : List (List ℕ)) (number : ℕ) (whole : Whole) → document_from number ls ≡ Ok whole → IsWholeWellFormed whole.contents
unfolding document_from
document_well accepted [] number whole e = absurd cc
document_well accepted (line ∷ others) number whole e =
    choose (counts line) _ _ whole e
    (λ t f. header_well number (λ version. lines_from (contents_by_header version) (suc number) others) (version_of (tokens line)) whole
    (λ v s g. lines_well accepted others (contents_by_header v) (suc number) whole (header_stands (suc number) v (version_known (tokens line) v s)) g) f)
    (λ t f. document_well accepted others (suc number) whole f)

pub documents_well : ElementsAreAccepted → AcceptedTextsAreWellFormed
documents_well accepted bytes whole e = document_well accepted (lines bytes) 1 whole e
