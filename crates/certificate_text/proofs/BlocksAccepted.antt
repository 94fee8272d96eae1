-- Which lines are accepted as those of blocks.
use Rattle.std.proofs.Common.{◌≡◌, ℕ, suc, Bool, true, false, not, ◌||◌, if◌then◌else◌, List, [], ◌∷◌, ◌++◌, codes, Option, Some, None, Result, Ok, Err, append-nil, append_assoc, ap, filter, map, refl, subst, sym, ◌∙◌}
use Rattle.symmetric_trees.specs.Generators.{IsTable}
use Rattle.symmetric_trees.specs.declared.generators.Generator.{Generator}
use Rattle.presentation_text.specs.Accepted.{ElementsAreAccepted, TreesAreAccepted}
use Rattle.presentation_text.specs.DocumentReadings.{LineFault}
use Rattle.presentation_text.specs.Grammar.{counted_tokens}
use Rattle.presentation_text.specs.LineReadings.{is, is_unknown}
use Rattle.presentation_text.specs.Lines.{counts}
use Rattle.presentation_text.specs.Readings.{Fault, ◌>>=◌, end_in}
use Rattle.presentation_text.specs.Tokens.{tokens}
use Rattle.presentation_text.specs.declared.kinds.DocKind.{DocKind}
use Rattle.presentation_text.specs.declared.kinds.DocKind.TheVariants.{Block, Directive}
use Rattle.presentation_text.specs.declared.lexing.Token.{Token}
use Rattle.presentation_text.specs.declared.lexing.Token.TheVariants.{Word, Number, Long, Byte, Bad}
use Rattle.certificate_text.specs.BlockReadings.{Base, Follow, LinePlace, at_end, between, block_line, blocks_from, in_block, in_step, may_follow, refused_at, rest_of_tail_line, step_line, sum_in, tail_line, tail_word_fault, unless_refused, unless_word, use_in, want_line, with_step, with_use, word_line}
use Rattle.certificate_text.specs.BlockText.{AreBlockLines, AreStepLines, AreUseLines, AreSumTokens, end_line, no_blocks, no_steps, no_uses, one_block, one_step, one_use}
use Rattle.certificate_text.specs.Plain.{PlainBlock, PlainStep, PlainUse}
use Rattle.presentation_text.proofs.AcceptedParts.{end_read}
use Rattle.presentation_text.proofs.LineReadingsRead.{both_read, one_value}
use Rattle.presentation_text.proofs.ContentsLines.{is_word}
use Rattle.certificate_text.proofs.UsesAccepted.{sum_told, use_told}

-- ---- what lines behind a place say

-- behind the wanted element of a block, or behind whole steps
pub record GoesOnInBlock (p : ℕ) (base : Base) (block : PlainBlock) (lines : List (List Token)) (blocks : List PlainBlock) : Type 0 where
  pub steps : List PlainStep
  pub step_lines : List (List Token)
  pub rest : List (List Token)
  pub others : List PlainBlock
  pub lines_are : lines ≡ step_lines ++ end_line ∷ rest
  pub steps_said : AreStepLines p base.generators step_lines steps
  pub behind : AreBlockLines p base.generators rest others
  pub blocks_are : blocks ≡ record { want = block.want; steps = block.steps ++ steps } ∷ others

-- in a step of a block
pub record GoesOnInStep (p : ℕ) (base : Base) (block : PlainBlock) (step : PlainStep) (lines : List (List Token)) (blocks : List PlainBlock) : Type 0 where
  pub uses : List PlainUse
  pub use_lines : List (List Token)
  pub rest : List (List Token)
  pub lines_are : lines ≡ use_lines ++ rest
  pub uses_said : AreUseLines p base.generators use_lines uses
  pub behind : GoesOnInBlock p base (with_step block (record { element = step.element; uses = step.uses ++ uses })) rest blocks

abbrev pub GoesOn : Base → LinePlace → List (List Token) → List PlainBlock → Type 0
GoesOn base between lines blocks = AreBlockLines base.p base.generators lines blocks
GoesOn base (in_block block) lines blocks = GoesOnInBlock base.p base block lines blocks
GoesOn base (in_step block step) lines blocks = GoesOnInStep base.p base block step lines blocks

-- the lines behind a place and the whole blocks by then lead to these blocks
pub record Leads (base : Base) (now : Follow) (lines : List (List Token)) (found : List PlainBlock) : Type 0 where
  pub further : List PlainBlock
  pub found_is : found ≡ now.1 ++ further
  pub goes_on : GoesOn base now.0 lines further

-- ---- a line that was read

-- A line begins with a word that may follow, and the rest was read.
pub record IsLineRead (base : Base) (now next : Follow) (line : List Token) : Type 0 where
  pub word : List ℕ
  pub rest : List Token
  pub line_is : line ≡ Word word ∷ rest
  pub may : may_follow now.0 word ≡ true
  pub reading_is : rest_of_tail_line base.p base.generators now.0 now.1 word rest ≡ Ok next

let_through : (version : ℕ) (place : LinePlace) (w : List ℕ) → tail_word_fault version place w ≡ None → may_follow place w ≡ true
unfolding tail_word_fault
let_through version place w e = by_tests (is_unknown version w) (may_follow place w) e where
  by_tests : (a b : Bool) → (if a then Some Directive else (if not b then Some Block else None)) ≡ None → b ≡ true
  by_tests true b f = absurd cc
  by_tests false true f = refl
  by_tests false false f = absurd cc

not_stopped : (number : ℕ) (fault : Option DocKind) (reading : Result Follow Fault) (next : Follow) → unless_word number fault (refused_at number reading) ≡ Ok next → (fault ≡ None) × (reading ≡ Ok next)
not_stopped number None (Ok x) next e = let same : x ≡ next = cc in (refl, ap Ok same)
not_stopped number None (Err fault) next e = absurd cc
not_stopped number (Some kind) reading next e = absurd cc

pub line_told : (base : Base) (now next : Follow) (number : ℕ) (line : List Token) → tail_line base now number line ≡ Ok next → IsLineRead base now next line
unfolding word_line
line_told base now next number [] e = absurd cc
line_told base now next number (Word w ∷ rest) e =
    let read = not_stopped number (tail_word_fault base.version now.0 w) (rest_of_tail_line base.p base.generators now.0 now.1 w rest) next e in
    record { word = w; rest = rest; line_is = refl; may = let_through base.version now.0 w read.0; reading_is = read.1 }
line_told base now next number (Number n ∷ rest) e = absurd cc
line_told base now next number (Long ∷ rest) e = absurd cc
line_told base now next number (Byte c ∷ rest) e = absurd cc
line_told base now next number (Bad ∷ rest) e = absurd cc

-- ---- what a line adds

module _ (trees : TreesAreAccepted) (elements : ElementsAreAccepted) (base : Base) (table : IsTable base.generators) where
  abbrev p : ℕ
  p = base.p

  abbrev gens : List Generator
  gens = base.generators

  want_back : (next : Follow) (done : List PlainBlock) (ts : List Token) (lines : List (List Token)) (found : List PlainBlock) → want_line p gens done ts ≡ Ok next → Leads base next lines found
      → Leads base (between, done) ((Word (codes "want") ∷ ts) ∷ lines) found
  unfolding want_line
  want_back next done ts lines found e leads =
      let sum = both_read (sum_in p gens ts) _ next e in
      let next_is : (in_block (record { want = sum.0; steps = [] }), done) ≡ next = one_value _ _ next refl sum.2 in
      let on : Leads base (in_block (record { want = sum.0; steps = [] }), done) lines found = subst (λ (x : Follow). Leads base x lines found) (sym next_is) leads in
      let go : GoesOnInBlock p base (record { want = sum.0; steps = [] }) lines on.further = on.goes_on in
      let block : PlainBlock = record { want = sum.0; steps = go.steps } in
      let said : AreSumTokens p gens ts sum.0 = sum_told elements gens table p ts sum.0 sum.1 in
      let all : AreBlockLines p gens ((Word (codes "want") ∷ ts) ∷ (go.step_lines ++ end_line ∷ go.rest)) (block ∷ go.others) = one_block ts go.step_lines go.rest block go.others said go.steps_said go.behind in
      record {
        further = block ∷ go.others;
        found_is = on.found_is ∙ ap (λ bs. done ++ bs) go.blocks_are;
        goes_on = subst (λ ls. AreBlockLines p gens ((Word (codes "want") ∷ ts) ∷ ls) (block ∷ go.others)) (sym go.lines_are) all;
      }

  end_back : (next : Follow) (done : List PlainBlock) (block : PlainBlock) (ts : List Token) (lines : List (List Token)) (found : List PlainBlock)
      → (end_in ts >>= λ _. Ok (between, done ++ block ∷ [])) ≡ Ok next → Leads base next lines found → Leads base (in_block block, done) ((Word (codes "end") ∷ ts) ∷ lines) found
  end_back next done block ts lines found e leads =
      let end = both_read (end_in ts) _ next e in
      let next_is : (between, done ++ block ∷ []) ≡ next = one_value _ _ next refl end.2 in
      let on : Leads base (between, done ++ block ∷ []) lines found = subst (λ (x : Follow). Leads base x lines found) (sym next_is) leads in
      record {
        further = block ∷ on.further;
        found_is = on.found_is ∙ append_assoc done (block ∷ []) on.further;
        goes_on = record {
          steps = [];
          step_lines = [];
          rest = lines;
          others = on.further;
          lines_are = ap (λ r. (Word (codes "end") ∷ r) ∷ lines) (end_read ts end.0 end.1);
          steps_said = no_steps;
          behind = on.goes_on;
          blocks_are = ap (λ steps. record { want = block.want; steps = steps } ∷ on.further) (sym (append-nil block.steps));
        };
      }

  step_back : (next : Follow) (done : List PlainBlock) (block : PlainBlock) (ts : List Token) (lines : List (List Token)) (found : List PlainBlock)
      → (sum_in p gens ts >>= λ sum. Ok (in_step block (record { element = sum; uses = [] }), done)) ≡ Ok next → Leads base next lines found
      → Leads base (in_block block, done) ((Word (codes "step") ∷ ts) ∷ lines) found
  step_back next done block ts lines found e leads =
      let sum = both_read (sum_in p gens ts) _ next e in
      let begun : PlainStep = record { element = sum.0; uses = [] } in
      let next_is : (in_step block begun, done) ≡ next = one_value _ _ next refl sum.2 in
      let on : Leads base (in_step block begun, done) lines found = subst (λ (x : Follow). Leads base x lines found) (sym next_is) leads in
      let go : GoesOnInStep p base block begun lines on.further = on.goes_on in
      let step : PlainStep = record { element = sum.0; uses = go.uses } in
      let more : GoesOnInBlock p base (with_step block step) go.rest on.further = go.behind in
      record {
        further = on.further;
        found_is = on.found_is;
        goes_on = record {
          steps = step ∷ more.steps;
          step_lines = (Word (codes "step") ∷ ts) ∷ (go.use_lines ++ more.step_lines);
          rest = more.rest;
          others = more.others;
          lines_are = ap (λ ls. (Word (codes "step") ∷ ts) ∷ ls) (go.lines_are ∙ ap (λ ls. go.use_lines ++ ls) more.lines_are ∙ sym (append_assoc go.use_lines more.step_lines (end_line ∷ more.rest)));
          steps_said = one_step ts go.use_lines more.step_lines step more.steps (sum_told elements gens table p ts sum.0 sum.1) go.uses_said more.steps_said;
          behind = more.behind;
          blocks_are = more.blocks_are ∙ ap (λ steps. record { want = block.want; steps = steps } ∷ more.others) (append_assoc block.steps (step ∷ []) more.steps);
        };
      }

  block_back : (next : Follow) (done : List PlainBlock) (block : PlainBlock) (w : List ℕ) (ts : List Token) (lines : List (List Token)) (found : List PlainBlock)
      → (is w (codes "step") || is w (codes "end")) ≡ true → block_line p gens block done w ts ≡ Ok next → Leads base next lines found → Leads base (in_block block, done) ((Word w ∷ ts) ∷ lines) found
  unfolding block_line
  block_back next done block w ts lines found may e leads = by_tests (is w (codes "step")) (is w (codes "end")) (is_word w (codes "step")) (is_word w (codes "end")) may e where
    by_tests : (a b : Bool) → (a ≡ true → w ≡ codes "step") → (b ≡ true → w ≡ codes "end") → (a || b) ≡ true
        → (if b then (end_in ts >>= λ _. Ok (between, done ++ block ∷ [])) else (sum_in p gens ts >>= λ sum. Ok (in_step block (record { element = sum; uses = [] }), done))) ≡ Ok next
        → Leads base (in_block block, done) ((Word w ∷ ts) ∷ lines) found
    by_tests a true h g m f = subst (λ word. Leads base (in_block block, done) ((Word word ∷ ts) ∷ lines) found) (sym (g refl)) (end_back next done block ts lines found f leads)
    by_tests true false h g m f = subst (λ word. Leads base (in_block block, done) ((Word word ∷ ts) ∷ lines) found) (sym (h refl)) (step_back next done block ts lines found f leads)
    by_tests false false h g m f = absurd cc

  use_back : (next : Follow) (done : List PlainBlock) (block : PlainBlock) (step : PlainStep) (ts : List Token) (lines : List (List Token)) (found : List PlainBlock)
      → (use_in p gens ts >>= λ item. Ok (in_step block (with_use step item), done)) ≡ Ok next → Leads base next lines found
      → Leads base (in_step block step, done) ((Word (codes "use") ∷ ts) ∷ lines) found
  use_back next done block step ts lines found e leads =
      let cited = both_read (use_in p gens ts) _ next e in
      let next_is : (in_step block (with_use step cited.0), done) ≡ next = one_value _ _ next refl cited.2 in
      let on : Leads base (in_step block (with_use step cited.0), done) lines found = subst (λ (x : Follow). Leads base x lines found) (sym next_is) leads in
      let go : GoesOnInStep p base block (with_use step cited.0) lines on.further = on.goes_on in
      record {
        further = on.further;
        found_is = on.found_is;
        goes_on = record {
          uses = cited.0 ∷ go.uses;
          use_lines = (Word (codes "use") ∷ ts) ∷ go.use_lines;
          rest = go.rest;
          lines_are = ap (λ ls. (Word (codes "use") ∷ ts) ∷ ls) go.lines_are;
          uses_said = one_use ts cited.0 go.use_lines go.uses (use_told trees gens table p ts cited.0 cited.1) go.uses_said;
          behind = subst (λ uses. GoesOnInBlock p base (with_step block (record { element = step.element; uses = uses })) go.rest on.further) (append_assoc step.uses (cited.0 ∷ []) go.uses) go.behind;
        };
      }

  -- a line that ends a step
  ended_back : (done : List PlainBlock) (block : PlainBlock) (step : PlainStep) (lines : List (List Token)) (found : List PlainBlock) → Leads base (in_block (with_step block step), done) lines found
      → Leads base (in_step block step, done) lines found
  ended_back done block step lines found on = record {
    further = on.further;
    found_is = on.found_is;
    goes_on = record {
      uses = [];
      use_lines = [];
      rest = lines;
      lines_are = refl;
      uses_said = no_uses;
      behind = subst (λ uses. GoesOnInBlock p base (with_step block (record { element = step.element; uses = uses })) lines on.further) (sym (append-nil step.uses)) on.goes_on;
    };
  }

  in_step_back : (next : Follow) (done : List PlainBlock) (block : PlainBlock) (step : PlainStep) (w : List ℕ) (ts : List Token) (lines : List (List Token)) (found : List PlainBlock)
      → (is w (codes "use") || is w (codes "step") || is w (codes "end")) ≡ true → step_line p gens block step done w ts ≡ Ok next → Leads base next lines found
      → Leads base (in_step block step, done) ((Word w ∷ ts) ∷ lines) found
  unfolding step_line
  in_step_back next done block step w ts lines found may e leads = by_test (is w (codes "use")) (is_word w (codes "use")) may e where
    by_test : (a : Bool) → (a ≡ true → w ≡ codes "use") → (a || is w (codes "step") || is w (codes "end")) ≡ true
        → (if a then (use_in p gens ts >>= λ item. Ok (in_step block (with_use step item), done)) else block_line p gens (with_step block step) done w ts) ≡ Ok next
        → Leads base (in_step block step, done) ((Word w ∷ ts) ∷ lines) found
    by_test true h m f = subst (λ word. Leads base (in_step block step, done) ((Word word ∷ ts) ∷ lines) found) (sym (h refl)) (use_back next done block step ts lines found f leads)
    by_test false h m f = ended_back done block step ((Word w ∷ ts) ∷ lines) found (block_back next done (with_step block step) w ts lines found m f leads)

  read_back : (place : LinePlace) (done : List PlainBlock) (next : Follow) (w : List ℕ) (ts : List Token) (lines : List (List Token)) (found : List PlainBlock) → may_follow place w ≡ true
      → rest_of_tail_line p gens place done w ts ≡ Ok next → Leads base next lines found → Leads base (place, done) ((Word w ∷ ts) ∷ lines) found
  read_back between done next w ts lines found may e leads =
      subst (λ word. Leads base (between, done) ((Word word ∷ ts) ∷ lines) found) (sym (is_word w (codes "want") may)) (want_back next done ts lines found e leads)
  read_back (in_block block) done next w ts lines found may e leads = block_back next done block w ts lines found may e leads
  read_back (in_step block step) done next w ts lines found may e leads = in_step_back next done block step w ts lines found may e leads

  line_back : (now next : Follow) (number : ℕ) (line : List Token) (lines : List (List Token)) (found : List PlainBlock) → tail_line base now number line ≡ Ok next → Leads base next lines found
      → Leads base now (line ∷ lines) found
  line_back now next number line lines found e leads =
      let read = line_told base now next number line e in
      subst (λ l. Leads base now (l ∷ lines) found) (sym read.line_is) (read_back now.0 now.1 next read.word read.rest lines found read.may read.reading_is leads)

  end_told : (place : LinePlace) (done : List PlainBlock) (number : ℕ) (found : List PlainBlock) → at_end place done number ≡ Ok found → Leads base (place, done) [] found
  end_told between done number found e = let same : done ≡ found = cc in record { further = []; found_is = sym same ∙ sym (append-nil done); goes_on = no_blocks }
  end_told (in_block block) done number found e = absurd cc
  end_told (in_step block step) done number found e = absurd cc

  on_counted : (now : Follow) (number : ℕ) (line : List Token) (lines : List (List Token)) (found : List PlainBlock) (on : Follow → Result (List PlainBlock) LineFault)
      → ((next : Follow) → on next ≡ Ok found → Leads base next lines found) → (reading : Result Follow LineFault) → tail_line base now number line ≡ reading → unless_refused on reading ≡ Ok found
      → Leads base now (line ∷ lines) found
  on_counted now number line lines found on leads (Ok next) e f = line_back now next number line lines found e (leads next f)
  on_counted now number line lines found on leads (Err fault) e f = absurd cc

  on_line : (now : Follow) (number : ℕ) (line : List ℕ) (others : List (List ℕ)) (found : List PlainBlock) (on : Follow → Result (List PlainBlock) LineFault)
      → ((next : Follow) → on next ≡ Ok found → Leads base next (counted_tokens others) found) → (b : Bool)
      → (if b then unless_refused on (tail_line base now number (tokens line)) else on now) ≡ Ok found → Leads base now (map tokens (if b then line ∷ filter counts others else filter counts others)) found
  on_line now number line others found on leads true e = on_counted now number (tokens line) (counted_tokens others) found on leads (tail_line base now number (tokens line)) refl e
  on_line now number line others found on leads false e = leads now e

  -- what was read leads there
  pub lines_told : (now : Follow) (number : ℕ) (lines : List (List ℕ)) (found : List PlainBlock) → blocks_from base now number lines ≡ Ok found → Leads base now (counted_tokens lines) found
  unfolding blocks_from
  lines_told now number [] found e = end_told now.0 now.1 number found e
  lines_told now number (line ∷ others) found e =
      on_line now number line others found (λ next. blocks_from base next (suc number) others) (λ next f. lines_told next (suc number) others found f) (counts line) e
