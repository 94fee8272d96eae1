-- A line that counts is read exactly where its word may stand there and the grammar has it.
use Rattle.std.proofs.Common.{◌≡◌, ◌==◌, ◌&&◌, ◌||◌, ℕ, Bool, true, false, not, cond, codes, List, [], ◌∷◌, Option, None, Result, Ok, sym, ap, ◌∙◌, refl, subst}
use Rattle.std.proofs.lemmas.Bool.Decides.{Decides-eqb}
use Rattle.std.proofs.lemmas.Slice.Eq.{bytes_eq-Decides}
use Rattle.symmetric_trees.specs.Generators.{IsTable}
use Rattle.symmetric_trees.proofs.Tables.{table-push}
use Rattle.presentation_text.specs.Accepted.{ElementsAreAccepted}
use Rattle.presentation_text.specs.DocumentReadings.{Behind, LineFault, counted_line, goes_on, refused_at, tail_begins, unless_word, word_line}
use Rattle.presentation_text.specs.Grammar.{LineAdds, a_field, an_order, a_generator, a_weight, a_relation, a_query, a_comparison, MayStand}
use Rattle.presentation_text.specs.LineReadings.{Contents, is, is_inside_tail, is_missing, is_out_of_order, is_unknown, rest_of_line, section_of, word_fault}
use Rattle.presentation_text.specs.Readings.{Fault, first_row}
use Rattle.presentation_text.specs.declared.kinds.DocKind.{DocKind}
use Rattle.presentation_text.specs.declared.lexing.Token.{Token}
use Rattle.presentation_text.specs.declared.lexing.Token.TheVariants.{Word, Number, Long, Byte, Bad}
use Rattle.presentation_text.proofs.AcceptedLines.{field_adds, field_accepted, order_adds, order_accepted, gen_adds, gen_accepted, weight_adds, weight_accepted, rel_adds, rel_accepted, query_adds, query_accepted, same_adds, same_accepted}
use Rattle.presentation_text.proofs.AcceptedParts.{generator_accepted}
use Rattle.presentation_text.proofs.LineReadingsGenerators.{generator_welcome}
use Rattle.presentation_text.proofs.ContentsLines.{free_word, no_tail, went_on, choose}

-- ---- which word a line begins with

against_none : (a b c d : Bool) (i j k l : DocKind) → first_row ((a, i) ∷ (b, j) ∷ (c, k) ∷ (d, l) ∷ []) ≡ None → (a ≡ false) × (d ≡ false)
against_none true b c d i j k l e = absurd cc
against_none false true c d i j k l e = absurd cc
against_none false false true d i j k l e = absurd cc
against_none false false false true i j k l e = absurd cc
against_none false false false false i j k l e = (refl, refl)

-- the word is known, and stands in no tail alone
is_outside : (contents : Contents) (w : List ℕ) → word_fault contents w ≡ None → (is_unknown contents.version w ≡ false) × (is_inside_tail w ≡ false)
unfolding word_fault
is_outside contents w e = against_none (is_unknown contents.version w) (is_missing contents w) (is_out_of_order contents w) (is_inside_tail w) _ _ _ _ e

and_false : (a b : Bool) → b ≡ false → (a && b) ≡ false
and_false true b e = e
and_false false b e = refl

-- the last of the words that are known, where it is none of the others
last_word : (a b c d e f g tail inside : Bool) → a ≡ false → b ≡ false → c ≡ false → d ≡ false → e ≡ false → f ≡ false → inside ≡ false
    → (cond a 2 (cond b 3 (cond (c || d) 4 (cond e 5 (cond (f || g) 6 (cond tail 7 0))))) == 7) ≡ false
    → ((cond a 2 (cond b 3 (cond (c || d) 4 (cond e 5 (cond (f || g) 6 (cond tail 7 0))))) == 0) && not inside) ≡ false → g ≡ true
last_word true b c d e f g tail inside h i j k l m n s u = absurd cc
last_word false true c d e f g tail inside h i j k l m n s u = absurd cc
last_word false false true d e f g tail inside h i j k l m n s u = absurd cc
last_word false false false true e f g tail inside h i j k l m n s u = absurd cc
last_word false false false false true f g tail inside h i j k l m n s u = absurd cc
last_word false false false false false true g tail inside h i j k l m n s u = absurd cc
last_word false false false false false false true tail inside h i j k l m n s u = refl
last_word false false false false false false false true inside h i j k l m n s u = absurd cc
last_word false false false false false false false false true h i j k l m n s u = absurd cc
last_word false false false false false false false false false h i j k l m n s u = absurd cc

-- ---- a line that is read adds what the grammar has

word_as : (contents now : Contents) (number : ℕ) (w word : List ℕ) (ts : List Token) → is w word ≡ true → LineAdds contents number (Word word ∷ ts) now → LineAdds contents number (Word w ∷ ts) now
word_as contents now number w word ts e h = subst (λ v. LineAdds contents number (Word v ∷ ts) now) (sym ((bytes_eq-Decides w word).0 e)) h

line_adds : ElementsAreAccepted → (contents now : Contents) (number : ℕ) (w : List ℕ) (ts : List Token) → IsTable contents.generators → word_fault contents w ≡ None → (section_of contents.version w == 7) ≡ false
    → rest_of_line contents number w ts ≡ Ok now → LineAdds contents number (Word w ∷ ts) now
line_adds accepted contents now number w ts table free section read =
    let outside = is_outside contents w free in
    choose (is w (codes "field")) _ _ now read (λ t f. word_as contents now number w (codes "field") ts t (field_adds contents now number ts f)) (λ a r.
    choose (is w (codes "order")) _ _ now r (λ t f. word_as contents now number w (codes "order") ts t (order_adds contents now number ts f)) (λ b r.
    choose (is w (codes "gen")) _ _ now r (λ t f. word_as contents now number w (codes "gen") ts t (gen_adds contents now number ts f)) (λ c r.
    choose (is w (codes "weight")) _ _ now r (λ t f. word_as contents now number w (codes "weight") ts t (weight_adds contents now number ts f)) (λ d r.
    choose (is w (codes "rel")) _ _ now r (λ t f. word_as contents now number w (codes "rel") ts t (rel_adds accepted contents table now number ts f)) (λ e r.
    choose (is w (codes "query")) _ _ now r (λ t f. word_as contents now number w (codes "query") ts t (query_adds accepted contents table now number ts f)) (λ f r.
    let t = last_word (is w (codes "field")) (is w (codes "order")) (is w (codes "gen")) (contents.version == 2 && is w (codes "weight")) (is w (codes "rel")) (is w (codes "query")) (is w (codes "same"))
    (is w (codes "want") || is w (codes "cert")) (is_inside_tail w) a b c (and_false (contents.version == 2) (is w (codes "weight")) d) e f outside.1 section outside.0 in
    word_as contents now number w (codes "same") ts t (same_adds accepted contents table now number ts r)))))))

-- a line of a presentation, and what it adds
pub counted_adds : ElementsAreAccepted → (contents now : Contents) (number : ℕ) (ts : List Token) → IsTable contents.generators → counted_line contents number ts ≡ Ok (goes_on now) → MayStand contents ts × LineAdds contents number ts now
unfolding word_line
counted_adds accepted contents now number [] table e = absurd cc
counted_adds accepted contents now number (Word w ∷ rest) table e =
    let free = free_word number (word_fault contents w) _ (goes_on now) e in
    choose (section_of contents.version w == 7) _ _ (goes_on now) free.1 (λ t f. absurd cc)
    (λ t f. ((w, rest, refl, free.0), line_adds accepted contents now number w rest table free.0 t (went_on number (rest_of_line contents number w rest) now f)))
counted_adds accepted contents now number (Number n ∷ rest) table e = absurd cc
counted_adds accepted contents now number (Long ∷ rest) table e = absurd cc
counted_adds accepted contents now number (Byte c ∷ rest) table e = absurd cc
counted_adds accepted contents now number (Bad ∷ rest) table e = absurd cc

-- the first line of a tail
abbrev pub BeginsTail : Contents → List Token → Type 0
BeginsTail contents ts = (word : List ℕ) × (rest : List Token) × (ts ≡ Word word ∷ rest) × (word_fault contents word ≡ None) × (section_of contents.version word ≡ 7)

pub counted_tail : (contents : Contents) (number : ℕ) (ts : List Token) → counted_line contents number ts ≡ Ok tail_begins → BeginsTail contents ts
unfolding word_line
counted_tail contents number [] e = absurd cc
counted_tail contents number (Word w ∷ rest) e =
    let free = free_word number (word_fault contents w) _ tail_begins e in
    choose (section_of contents.version w == 7) _ _ tail_begins free.1 (λ t f. (w, rest, refl, free.0, (Decides-eqb (section_of contents.version w) 7).0 t))
    (λ t f. absurd (no_tail number (rest_of_line contents number w rest) f))
counted_tail contents number (Number n ∷ rest) e = absurd cc
counted_tail contents number (Long ∷ rest) e = absurd cc
counted_tail contents number (Byte c ∷ rest) e = absurd cc
counted_tail contents number (Bad ∷ rest) e = absurd cc

-- ---- a line that the grammar has is read

one_word : (contents : Contents) (w : List ℕ) (ts : List Token) → MayStand contents (Word w ∷ ts) → word_fault contents w ≡ None
one_word contents w ts h = let same : h.0 ≡ w = cc in subst (λ v. word_fault contents v ≡ None) same h.3

goes_as : (number : ℕ) (fault : Option DocKind) (tail : Bool) (reading : Result Contents Fault) (now : Contents) → fault ≡ None → tail ≡ false → reading ≡ Ok now
    → unless_word number fault (cond tail (Ok tail_begins) (refused_at number reading)) ≡ Ok (goes_on now)
goes_as number fault tail reading now free section read = rw (free, section, read) refl

goes : (contents now : Contents) (number : ℕ) (w : List ℕ) (ts : List Token) → MayStand contents (Word w ∷ ts) → (section_of contents.version w == 7) ≡ false → rest_of_line contents number w ts ≡ Ok now
    → counted_line contents number (Word w ∷ ts) ≡ Ok (goes_on now)
unfolding word_line
goes contents now number w ts stand section read = goes_as number (word_fault contents w) (section_of contents.version w == 7) (rest_of_line contents number w ts) now (one_word contents w ts stand) section read

weight_section : (two : Bool) → (cond (two && true) 4 0 == 7) ≡ false
weight_section true = refl
weight_section false = refl

late_section : (two : Bool) (section : ℕ) → (section == 7) ≡ false → (cond (two && false) 4 section == 7) ≡ false
late_section true section e = e
late_section false section e = e

pub adds_read : ElementsAreAccepted → (contents now : Contents) (number : ℕ) (ts : List Token) → IsTable contents.generators → MayStand contents ts → LineAdds contents number ts now → counted_line contents number ts ≡ Ok (goes_on now)
adds_read accepted contents now number ts table stand (a_field p prime) = goes contents now number (codes "field") _ stand refl (field_accepted contents p prime)
adds_read accepted contents now number ts table stand (an_order word order named) = goes contents now number (codes "order") _ stand refl (order_accepted contents word order named)
adds_read accepted contents now number ts table stand (a_generator us generator h) = goes contents now number (codes "gen") us stand refl (gen_accepted contents us generator h)
adds_read accepted contents now number ts table stand (a_weight name g weight named free small) =
    goes contents now number (codes "weight") _ stand (weight_section (contents.version == 2)) (weight_accepted contents name g weight named free small)
adds_read accepted contents now number ts table stand (a_relation terms few h) =
    goes contents now number (codes "rel") _ stand (late_section (contents.version == 2) 5 refl) (rel_accepted accepted contents table terms few h)
adds_read accepted contents now number ts table stand (a_query terms h) =
    goes contents now number (codes "query") _ stand (late_section (contents.version == 2) 6 refl) (query_accepted accepted contents table number terms h)
adds_read accepted contents now number ts table stand (a_comparison terms others h k) =
    goes contents now number (codes "same") _ stand (late_section (contents.version == 2) 6 refl) (same_accepted accepted contents table number terms others h k)

tail_as : (number : ℕ) (fault : Option DocKind) (tail : Bool) (reading : Result Behind LineFault) → fault ≡ None → tail ≡ true → unless_word number fault (cond tail (Ok tail_begins) reading) ≡ Ok tail_begins
tail_as number fault tail reading free section = rw (free, section) refl

pub tail_read : (contents : Contents) (number : ℕ) (ts : List Token) → BeginsTail contents ts → counted_line contents number ts ≡ Ok tail_begins
unfolding word_line
tail_read contents number ts (word, rest, are, free, section) =
    ap (counted_line contents number) are
    ∙ tail_as number (word_fault contents word) (section_of contents.version word == 7) (refused_at number (rest_of_line contents number word rest)) free ((Decides-eqb (section_of contents.version word) 7).1 section)

-- what a line adds keeps the table
pub adds_table : (contents now : Contents) (number : ℕ) (ts : List Token) → IsTable contents.generators → LineAdds contents number ts now → IsTable now.generators
adds_table contents now number ts table (a_field p prime) = table
adds_table contents now number ts table (an_order word order named) = table
adds_table contents now number ts table (a_generator us generator h) =
    table-push contents.generators generator table (generator_welcome contents.version contents.generators us generator (generator_accepted contents us generator h))
adds_table contents now number ts table (a_weight name g weight named free small) = table
adds_table contents now number ts table (a_relation terms few h) = table
adds_table contents now number ts table (a_query terms h) = table
adds_table contents now number ts table (a_comparison terms others h k) = table
