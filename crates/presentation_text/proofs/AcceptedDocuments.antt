-- Documents are read exactly where the grammar has them.
use Rattle.std.proofs.Common.{◌≡◌, ◌==◌, ◌&&◌, ◌||◌, ◌⊎◌, inl, inr, ℕ, suc, Bool, true, false, cond, codes, List, [], ◌∷◌, ◌++◌, Option, Some, None, Result, Ok, sym, ap, ◌∙◌, refl, subst}
use Rattle.std.specs.Option.{is_some}
use Rattle.std.proofs.lemmas.Bool.Decides.{Decides-eqb}
use Rattle.std.proofs.lemmas.Slice.Eq.{bytes_eq-Decides}
use Rattle.symmetric_trees.specs.Generators.{IsTable}
use Rattle.presentation_text.specs.Accepted.{ElementsAreAccepted}
use Rattle.presentation_text.specs.DocumentReadings.{Behind, LineFault, Whole, at_end, behind_header, counted_line, document_from, goes_on, lines_from, on_from, tail_begins, unless_refused, version_behind, version_of, version_token}
use Rattle.presentation_text.specs.Grammar.{LineAdds, DocumentsAreAccepted, EndsWell, IsDocument, MayStand, Say, no_line, one_line, numbered_tokens}
use Rattle.presentation_text.specs.LineReadings.{Contents, is, contents_by_header}
use Rattle.presentation_text.specs.Lines.{counts, lines}
use Rattle.presentation_text.specs.Tokens.{tokens}
use Rattle.presentation_text.specs.declared.lexing.Token.{Token}
use Rattle.presentation_text.specs.declared.lexing.Token.TheVariants.{Word, Number, Long, Byte, Bad}
use Rattle.presentation_text.proofs.AcceptedWords.{BeginsTail, adds_read, adds_table, counted_adds, counted_tail, tail_read}
use Rattle.presentation_text.proofs.LineReadingsNumbers.{both_true}
use Rattle.presentation_text.proofs.LineReadingsTables.{table-empty}
use Rattle.presentation_text.proofs.ContentsLines.{choose, read_behind}

-- lines with their numbers
abbrev Numbered : Type 0
Numbered = List (ℕ × List Token)

-- ---- lines that count, and lines that are passed over

numbered-counted : (number : ℕ) (line : List ℕ) (others : List (List ℕ)) → counts line ≡ true → numbered_tokens number (line ∷ others) ≡ (number, tokens line) ∷ numbered_tokens (suc number) others
numbered-counted number line others e = rw e refl

numbered-passed : (number : ℕ) (line : List ℕ) (others : List (List ℕ)) → counts line ≡ false → numbered_tokens number (line ∷ others) ≡ numbered_tokens (suc number) others
numbered-passed number line others e = rw e refl

-- ---- lines that are read are those of the grammar

-- lines of a presentation, and what stands behind them
record AreLines (contents : Contents) (ls : Numbered) (whole : Whole) : Type 0 where
  presentation : Numbered
  behind : Numbered
  lines_are : ls ≡ presentation ++ behind
  say : Say contents presentation whole.contents
  ends : EndsWell whole.contents behind whole.tail

-- what a value says where it is the one that was read
as_read : {E : Type 0} (P : Whole → Type 0) (x y : Whole) → ◌≡◌ {A = Result Whole E} (Ok x) (Ok y) → P x → P y
as_read P x y e h = let same : x ≡ y = cc in subst P same h

end_told : (contents : Contents) (number : ℕ) (whole : Whole) → at_end contents number ≡ Ok whole → AreLines contents [] whole
end_told contents number whole e =
    choose (is_some contents.field && is_some contents.order) _ _ whole e
    (λ t f.
    let both = both_true (is_some contents.field) (is_some contents.order) t in
    as_read (AreLines contents []) (record { contents = contents; tail = None }) whole f (record { presentation = []; behind = []; lines_are = refl; say = no_line contents; ends = (both.0, both.1, refl) }))
    (λ t f. absurd cc)

one_told : (contents now : Contents) (number : ℕ) (ts : List Token) (ls : Numbered) (whole : Whole) → MayStand contents ts × LineAdds contents number ts now → AreLines now ls whole → AreLines contents ((number, ts) ∷ ls) whole
one_told contents now number ts ls whole one h = record {
  presentation = (number, ts) ∷ h.presentation;
  behind = h.behind;
  lines_are = ap (λ xs. (number, ts) ∷ xs) h.lines_are;
  say = one_line contents now whole.contents number ts h.presentation one.0 one.1 h.say;
  ends = h.ends;
}

tail_told : (contents : Contents) (number : ℕ) (ts : List Token) (ls : Numbered) (whole : Whole) → BeginsTail contents ts → record { contents = contents; tail = Some number } ≡ whole → AreLines contents ((number, ts) ∷ ls) whole
tail_told contents number ts ls whole begins e =
    let there : EndsWell contents ((number, ts) ∷ ls) (Some number) = (begins.0, begins.1, begins.2, begins.3, begins.4, refl) in
    subst (AreLines contents ((number, ts) ∷ ls)) e (record { presentation = []; behind = (number, ts) ∷ ls; lines_are = refl; say = no_line contents; ends = there })

behind_told : (contents : Contents) (number : ℕ) (ts : List Token) (ls : Numbered) (whole : Whole) (on : Contents → Result Whole LineFault) (behind : Behind) → (behind ≡ tail_begins → BeginsTail contents ts)
    → ((now : Contents) → behind ≡ goes_on now → on now ≡ Ok whole → AreLines contents ((number, ts) ∷ ls) whole) → on_from number on contents behind ≡ Ok whole → AreLines contents ((number, ts) ∷ ls) whole
behind_told contents number ts ls whole on (goes_on now) tail more e = more now refl e
behind_told contents number ts ls whole on tail_begins tail more e =
    let whole_is : record { contents = contents; tail = Some number } ≡ whole = as_read (λ w. record { contents = contents; tail = Some number } ≡ w) (record { contents = contents; tail = Some number }) whole e refl in
    tail_told contents number ts ls whole (tail refl) whole_is

lines_told : ElementsAreAccepted → (ls : List (List ℕ)) (contents : Contents) (number : ℕ) (whole : Whole) → IsTable contents.generators → lines_from contents number ls ≡ Ok whole → AreLines contents (numbered_tokens number ls) whole
unfolding lines_from
lines_told accepted [] contents number whole table e = end_told contents number whole e
lines_told accepted (line ∷ others) contents number whole table e =
    choose (counts line) _ _ whole e (λ t f.
    let behind = read_behind (on_from number (λ now. lines_from now (suc number) others) contents) (counted_line contents number (tokens line)) whole f in
    subst (λ xs. AreLines contents xs whole) (sym (numbered-counted number line others t))
    (behind_told contents number (tokens line) (numbered_tokens (suc number) others) whole (λ now. lines_from now (suc number) others) behind.0
    (λ s. counted_tail contents number (tokens line) (behind.1 ∙ ap Ok s))
    (λ now s g.
    let one = counted_adds accepted contents now number (tokens line) table (behind.1 ∙ ap Ok s) in
    one_told contents now number (tokens line) (numbered_tokens (suc number) others) whole one
    (lines_told accepted others now (suc number) whole (adds_table contents now number (tokens line) table one.1) g))
    behind.2))
    (λ t f. subst (λ xs. AreLines contents xs whole) (sym (numbered-passed number line others t)) (lines_told accepted others contents (suc number) whole table f))

-- ---- the lines of the grammar are read

-- no lines are no lines of a presentation and none behind
end_read : (contents end : Contents) (tail : Option ℕ) (number : ℕ) (presentation behind : Numbered) → [] ≡ presentation ++ behind → Say contents presentation end → EndsWell end behind tail
    → at_end contents number ≡ Ok (record { contents = end; tail = tail })
end_read contents end tail number [] [] e (no_line _) ends =
    let field : is_some contents.field ≡ true = ends.0 in
    let order : is_some contents.order ≡ true = ends.1 in
    rw (field, order) (ap (λ t. Ok (record { contents = contents; tail = t })) (sym ends.2))
end_read contents end tail number [] (first ∷ behind) e say ends = absurd cc
end_read contents end tail number (first ∷ presentation) behind e say ends = absurd cc

-- the first line that counts, where the lines behind it are read
first_read : ElementsAreAccepted → (contents end : Contents) (tail : Option ℕ) (number : ℕ) (ts : List Token) (ls presentation behind : Numbered) (on : Contents → Result Whole LineFault) → IsTable contents.generators
    → (number, ts) ∷ ls ≡ presentation ++ behind → Say contents presentation end → EndsWell end behind tail
    → ((now : Contents) (more : Numbered) → IsTable now.generators → ls ≡ more ++ behind → Say now more end → on now ≡ Ok (record { contents = end; tail = tail }))
    → unless_refused (on_from number on contents) (counted_line contents number ts) ≡ Ok (record { contents = end; tail = tail })
first_read accepted contents end tail number ts ls [] behind on table e (no_line _) ends more =
    let there : EndsWell contents ((number, ts) ∷ ls) tail = subst (λ b. EndsWell contents b tail) (sym e) ends in
    let begins : BeginsTail contents ts = (there.0, there.1, there.2, there.3, there.4) in
    ap (unless_refused (on_from number on contents)) (tail_read contents number ts begins) ∙ ap (λ t. Ok (record { contents = contents; tail = t })) (sym there.5)
first_read accepted contents end tail number ts ls (first ∷ presentation) behind on table e (one_line _ now _ m us others stand adds say) ends more =
    let first_is : ◌≡◌ {A = ℕ × List Token} (m, us) (number, ts) = cc in
    let number_is : m ≡ number = ap (λ (x : ℕ × List Token). x.0) first_is in
    let tokens_are : us ≡ ts = ap (λ (x : ℕ × List Token). x.1) first_is in
    let lines_are : ls ≡ presentation ++ behind = cc in
    let adds_here : LineAdds contents number ts now = subst (λ n. LineAdds contents n ts now) number_is (subst (λ xs. LineAdds contents m xs now) tokens_are adds) in
    let stand_here : MayStand contents ts = subst (MayStand contents) tokens_are stand in
    ap (unless_refused (on_from number on contents)) (adds_read accepted contents now number ts table stand_here adds_here) ∙ more now presentation (adds_table contents now number ts table adds_here) lines_are say

lines_read : ElementsAreAccepted → (ls : List (List ℕ)) (contents end : Contents) (tail : Option ℕ) (number : ℕ) (presentation behind : Numbered) → IsTable contents.generators
    → numbered_tokens number ls ≡ presentation ++ behind → Say contents presentation end → EndsWell end behind tail → lines_from contents number ls ≡ Ok (record { contents = end; tail = tail })
unfolding lines_from
lines_read accepted [] contents end tail number presentation behind table e say ends = end_read contents end tail number presentation behind e say ends
lines_read accepted (line ∷ others) contents end tail number presentation behind table e say ends = by (counts line) refl (λ now more t are s. lines_read accepted others now end tail (suc number) more behind t are s ends)
  where
    by : (b : Bool) → counts line ≡ b
        → ((now : Contents) (more : Numbered) → IsTable now.generators → numbered_tokens (suc number) others ≡ more ++ behind → Say now more end → lines_from now (suc number) others ≡ Ok (record { contents = end; tail = tail }))
        → cond (counts line) (unless_refused (on_from number (λ now. lines_from now (suc number) others) contents) (counted_line contents number (tokens line))) (lines_from contents (suc number) others)
        ≡ Ok (record { contents = end; tail = tail })
    by true t again =
        rw t (first_read accepted contents end tail number (tokens line) (numbered_tokens (suc number) others) presentation behind (λ now. lines_from now (suc number) others) table
        (sym (numbered-counted number line others t) ∙ e) say ends again)
    by false t again = rw t (again contents presentation table (sym (numbered-passed number line others t) ∙ e) say)

-- ---- the header

-- the tokens of a header
record IsHeader (ts : List Token) (version : ℕ) : Type 0 where
  tokens_are : ts ≡ Word (codes "operad") ∷ (Number version ∷ [])
  version_is : (version ≡ 1) ⊎ (version ≡ 2)

version_told : (n version : ℕ) → version_token (Number n) ≡ Some version → (n ≡ version) × ((version ≡ 1) ⊎ (version ≡ 2))
version_told n version e = by (n == 1) (n == 2) refl refl e
  where
    by : (a b : Bool) → (n == 1) ≡ a → (n == 2) ≡ b → cond (a || b) (Some n) None ≡ Some version → (n ≡ version) × ((version ≡ 1) ⊎ (version ≡ 2))
    by true b f g h = let same : n ≡ version = cc in (same, inl (sym same ∙ (Decides-eqb n 1).0 f))
    by false true f g h = let same : n ≡ version = cc in (same, inr (sym same ∙ (Decides-eqb n 2).0 g))
    by false false f g h = absurd cc

behind_operad : (b : Bool) (w : List ℕ) (rest : List Token) (version : ℕ) → is w (codes "operad") ≡ b → cond b (version_behind rest) None ≡ Some version → IsHeader (Word w ∷ rest) version
behind_operad true w (Number n ∷ []) version is e =
    let contents = version_told n version e in
    let word : w ≡ codes "operad" = (bytes_eq-Decides w (codes "operad")).0 is in
    record { tokens_are = ap (λ v. Word v ∷ (Number n ∷ [])) word ∙ ap (λ m. Word (codes "operad") ∷ (Number m ∷ [])) contents.0; version_is = contents.1 }
behind_operad true w [] version is e = absurd cc
behind_operad true w (token ∷ (other ∷ rest)) version is e = absurd cc
behind_operad true w (Word v ∷ []) version is e = absurd cc
behind_operad true w (Long ∷ []) version is e = absurd cc
behind_operad true w (Byte c ∷ []) version is e = absurd cc
behind_operad true w (Bad ∷ []) version is e = absurd cc
behind_operad false w rest version is e = absurd cc

header_told : (ts : List Token) (version : ℕ) → version_of ts ≡ Some version → IsHeader ts version
header_told [] version e = absurd cc
header_told (Word w ∷ rest) version e = behind_operad (is w (codes "operad")) w rest version refl e
header_told (Number n ∷ rest) version e = absurd cc
header_told (Long ∷ rest) version e = absurd cc
header_told (Byte c ∷ rest) version e = absurd cc
header_told (Bad ∷ rest) version e = absurd cc

header_read : (ts : List Token) (version : ℕ) → ts ≡ Word (codes "operad") ∷ (Number version ∷ []) → (version ≡ 1) ⊎ (version ≡ 2) → version_of ts ≡ Some version
header_read ts version e is = ap version_of e ∙ by is
  where
    by : (version ≡ 1) ⊎ (version ≡ 2) → version_token (Number version) ≡ Some version
    by (inl one) = rw one refl
    by (inr two) = rw two refl

-- ---- documents

version_read : (number : ℕ) (on : ℕ → Result Whole LineFault) (found : Option ℕ) (whole : Whole) → behind_header number on found ≡ Ok whole → (version : ℕ) × (found ≡ Some version) × (on version ≡ Ok whole)
version_read number on None whole e = absurd cc
version_read number on (Some version) whole e = (version, refl, e)

document_told : ElementsAreAccepted → (ls : List (List ℕ)) (number : ℕ) (whole : Whole) → document_from number ls ≡ Ok whole → IsDocument (numbered_tokens number ls) whole
unfolding document_from
document_told accepted [] number whole e = absurd cc
document_told accepted (line ∷ others) number whole e =
    choose (counts line) _ _ whole e (λ t f.
    let version = version_read number (λ v. lines_from (contents_by_header v) (suc number) others) (version_of (tokens line)) whole f in
    let header = header_told (tokens line) version.0 version.1 in
    let h = lines_told accepted others (contents_by_header version.0) (suc number) whole table-empty version.2 in
    record {
      first = number;
      version = version.0;
      presentation = h.presentation;
      behind = h.behind;
      lines_are = numbered-counted number line others t ∙ ap (λ ts. (number, ts) ∷ numbered_tokens (suc number) others) header.tokens_are
          ∙ ap (λ xs. (number, Word (codes "operad") ∷ (Number version.0 ∷ [])) ∷ xs) h.lines_are;
      version_is = header.version_is;
      say = h.say;
      ends = h.ends;
    })
    (λ t f. subst (λ xs. IsDocument xs whole) (sym (numbered-passed number line others t)) (document_told accepted others (suc number) whole f))

-- a first line that counts and is a header, and the lines behind it
header_accepted : ElementsAreAccepted → (number : ℕ) (ts : List Token) (others : List (List ℕ)) (whole : Whole) → IsDocument ((number, ts) ∷ numbered_tokens (suc number) others) whole
    → behind_header number (λ version. lines_from (contents_by_header version) (suc number) others) (version_of ts) ≡ Ok whole
header_accepted accepted number ts others whole h =
    let header : List Token = Word (codes "operad") ∷ (Number h.version ∷ []) in
    let are : (number, ts) ∷ numbered_tokens (suc number) others ≡ (h.first, header) ∷ (h.presentation ++ h.behind) = h.lines_are in
    let first_is : ◌≡◌ {A = ℕ × List Token} (number, ts) (h.first, header) = cc in
    let tokens_are : ts ≡ header = ap (λ (x : ℕ × List Token). x.1) first_is in
    let lines_are : numbered_tokens (suc number) others ≡ h.presentation ++ h.behind = cc in
    ap (behind_header number (λ version. lines_from (contents_by_header version) (suc number) others)) (header_read ts h.version tokens_are h.version_is)
    ∙ lines_read accepted others (contents_by_header h.version) whole.contents whole.tail (suc number) h.presentation h.behind table-empty lines_are h.say h.ends

document_read : ElementsAreAccepted → (ls : List (List ℕ)) (number : ℕ) (whole : Whole) → IsDocument (numbered_tokens number ls) whole → document_from number ls ≡ Ok whole
unfolding document_from
document_read accepted [] number whole h = let none = h.lines_are in absurd cc
document_read accepted (line ∷ others) number whole h = by (counts line) refl (λ k. document_read accepted others (suc number) whole k)
  where
    by : (b : Bool) → counts line ≡ b → (IsDocument (numbered_tokens (suc number) others) whole → document_from (suc number) others ≡ Ok whole)
        → cond (counts line) (behind_header number (λ version. lines_from (contents_by_header version) (suc number) others) (version_of (tokens line))) (document_from (suc number) others) ≡ Ok whole
    by true t again = rw t (header_accepted accepted number (tokens line) others whole (subst (λ xs. IsDocument xs whole) (numbered-counted number line others t) h))
    by false t again = rw t (again (subst (λ xs. IsDocument xs whole) (numbered-passed number line others t) h))

-- which documents are accepted, where it is known which elements are
pub documents_accepted : ElementsAreAccepted → DocumentsAreAccepted
documents_accepted accepted bytes whole = (document_told accepted (lines bytes) 1 whole, document_read accepted (lines bytes) 1 whole)
