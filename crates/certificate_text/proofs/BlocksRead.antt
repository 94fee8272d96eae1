-- Lines of blocks are read as blocks.
use Rattle.std.proofs.Common.{◌≡◌, ℕ, suc, Bool, true, false, ◌&&◌, ◌||◌, ◌==◌, if◌then◌else◌, List, [], ◌∷◌, ◌++◌, codes, Result, Ok, append-nil, append_assoc, ap, filter, map, refl, subst, sym, ◌∙◌}
use Rattle.labelled_trees.specs.Trees.{Tree}
use Rattle.symmetric_trees.specs.Generators.{IsTable}
use Rattle.symmetric_trees.specs.declared.generators.Generator.{Generator}
use Rattle.presentation_text.specs.Accepted.{ElementsAreAccepted, TreesAreAccepted}
use Rattle.presentation_text.specs.DocumentReadings.{LineFault}
use Rattle.presentation_text.specs.Grammar.{counted_tokens}
use Rattle.presentation_text.specs.LineReadings.{is, is_unknown}
use Rattle.presentation_text.specs.Lines.{counts}
use Rattle.presentation_text.specs.Tokens.{tokens}
use Rattle.presentation_text.specs.declared.lexing.Token.{Token}
use Rattle.presentation_text.specs.declared.lexing.Token.TheVariants.{Word}
use Rattle.certificate_text.specs.BlockReadings.{Base, Follow, LinePlace, at_end, between, block_line, blocks_from, in_block, in_step, may_follow, rest_of_tail_line, step_line, sum_in, tail_line, unless_refused, use_in, want_line, with_step, with_use, word_line}
use Rattle.certificate_text.specs.BlockText.{AreBlockLines, AreStepLines, AreUseLines, end_line, no_blocks, no_steps, no_uses, one_block, one_step, one_use}
use Rattle.certificate_text.specs.Laws.{BlocksAreAccepted}
use Rattle.certificate_text.specs.Plain.{PlainBlock, PlainStep, PlainUse}
use Rattle.certificate_text.proofs.BlockReading.{word_may_follow}
use Rattle.certificate_text.proofs.BlocksAccepted.{GoesOnInBlock, GoesOnInStep, Leads, lines_told}
use Rattle.certificate_text.proofs.UsesAccepted.{sum_read, use_read}

-- ---- the word of a line

-- a word that a line of a tail may begin with
abbrev IsKnown : List ℕ → Type 0
IsKnown w = (version : ℕ) → is_unknown version w ≡ false

begins_tail : (b : Bool) → (((if (b && false) then 4 else 7) == 0) && true) ≡ false
begins_tail true = refl
begins_tail false = refl

inside_tail : (b : Bool) → (((if (b && false) then 4 else 0) == 0) && false) ≡ false
inside_tail true = refl
inside_tail false = refl

known_want : IsKnown (codes "want")
known_want version = begins_tail (version == 2)

known_step : IsKnown (codes "step")
known_step version = inside_tail (version == 2)

known_use : IsKnown (codes "use")
known_use version = inside_tail (version == 2)

known_end : IsKnown (codes "end")
known_end version = inside_tail (version == 2)

line_accepted : (base : Base) (now next : Follow) (w : List ℕ) (rest : List Token) → IsKnown w → may_follow now.0 w ≡ true → rest_of_tail_line base.p base.generators now.0 now.1 w rest ≡ Ok next
    → (number : ℕ) → tail_line base now number (Word w ∷ rest) ≡ Ok next
unfolding word_line
line_accepted base now next w rest known may reading number = rw (word_may_follow base.version now.0 w (known base.version) may, reading) refl

-- ---- a line that leads on

-- The line is read, and those behind it lead on.
pub record IsOnTheWay (base : Base) (now : Follow) (line : List Token) (lines : List (List Token)) (found : List PlainBlock) : Type 0 where
  pub next : Follow
  pub read : (number : ℕ) → tail_line base now number line ≡ Ok next
  pub leads : Leads base next lines found

-- The same for a line `step` or `end` in a block.
record IsBlockLine (base : Base) (block : PlainBlock) (done : List PlainBlock) (line : List Token) (lines : List (List Token)) (found : List PlainBlock) : Type 0 where
  pub next : Follow
  pub word : List ℕ
  pub rest : List Token
  pub line_is : line ≡ Word word ∷ rest
  pub known : IsKnown word
  pub no_use : is word (codes "use") ≡ false
  pub may : (is word (codes "step") || is word (codes "end")) ≡ true
  pub reading_is : block_line base.p base.generators block done word rest ≡ Ok next
  pub leads : Leads base next lines found

nothing_behind : {X : Type 0} (xs ys : List X) (y : X) → [] ≡ xs ++ y ∷ ys → ⊥
nothing_behind [] ys y e = cc
nothing_behind (x ∷ xs) ys y e = cc

first_is : {X : Type 0} (x y : X) (xs ys : List X) → x ∷ xs ≡ y ∷ ys → (x ≡ y) × (xs ≡ ys)
first_is x y xs ys e = (cc, cc)

want_read : (p : ℕ) (generators : List Generator) (done : List PlainBlock) (ts : List Token) (sum : List (ℕ × Tree ℕ)) → sum_in p generators ts ≡ Ok sum
    → want_line p generators done ts ≡ Ok (in_block (record { want = sum; steps = [] }), done)
unfolding want_line
want_read p generators done ts sum e = rw e refl

step_read : (p : ℕ) (generators : List Generator) (done : List PlainBlock) (block : PlainBlock) (ts : List Token) (sum : List (ℕ × Tree ℕ)) → sum_in p generators ts ≡ Ok sum
    → block_line p generators block done (codes "step") ts ≡ Ok (in_step block (record { element = sum; uses = [] }), done)
unfolding block_line
step_read p generators done block ts sum e = rw e refl

end_line_read : (p : ℕ) (generators : List Generator) (done : List PlainBlock) (block : PlainBlock) → block_line p generators block done (codes "end") [] ≡ Ok (between, done ++ block ∷ [])
unfolding block_line
end_line_read p generators done block = refl

use_line_read : (p : ℕ) (generators : List Generator) (done : List PlainBlock) (block : PlainBlock) (step : PlainStep) (ts : List Token) (item : PlainUse) → use_in p generators ts ≡ Ok item
    → step_line p generators block step done (codes "use") ts ≡ Ok (in_step block (with_use step item), done)
unfolding step_line
use_line_read p generators done block step ts item e = rw e refl

no_use_read : (p : ℕ) (generators : List Generator) (done : List PlainBlock) (block : PlainBlock) (step : PlainStep) (w : List ℕ) (ts : List Token) (next : Follow) → is w (codes "use") ≡ false
    → block_line p generators (with_step block step) done w ts ≡ Ok next → step_line p generators block step done w ts ≡ Ok next
unfolding step_line
no_use_read p generators done block step w ts next e f = rw e f

module _ (trees : TreesAreAccepted) (elements : ElementsAreAccepted) (base : Base) (table : IsTable base.generators) where
  abbrev p : ℕ
  p = base.p

  abbrev gens : List Generator
  gens = base.generators

  want_on : (done : List PlainBlock) (line : List Token) (lines all : List (List Token)) (found further : List PlainBlock) → all ≡ line ∷ lines → AreBlockLines p gens all further → found ≡ done ++ further
      → IsOnTheWay base (between, done) line lines found
  want_on done line lines _ found _ e no_blocks f = absurd cc
  want_on done line lines _ found _ e (one_block ts step_lines rest block blocks said steps behind) f =
      let split = first_is (Word (codes "want") ∷ ts) line (step_lines ++ end_line ∷ rest) lines e in
      let begun : PlainBlock = record { want = block.want; steps = [] } in
      let reading : rest_of_tail_line p gens between done (codes "want") ts ≡ Ok (in_block begun, done) = want_read p gens done ts block.want (sum_read elements gens table p ts block.want said) in
      let accepted = line_accepted base (between, done) (in_block begun, done) (codes "want") ts known_want refl reading in
      record {
        next = (in_block begun, done);
        read = λ number. subst (λ l. tail_line base (between, done) number l ≡ Ok (in_block begun, done)) split.0 (accepted number);
        leads = record {
          further = block ∷ blocks;
          found_is = f;
          goes_on = record {
            steps = block.steps;
            step_lines = step_lines;
            rest = rest;
            others = blocks;
            lines_are = sym split.1;
            steps_said = steps;
            behind = behind;
            blocks_are = refl;
          };
        };
      }

  -- in a block: a further step, or its end
  block_on : (done : List PlainBlock) (block : PlainBlock) (line : List Token) (lines step_lines rest : List (List Token)) (steps : List PlainStep) (others found : List PlainBlock)
      → AreStepLines p gens step_lines steps → line ∷ lines ≡ step_lines ++ end_line ∷ rest → AreBlockLines p gens rest others
      → found ≡ done ++ record { want = block.want; steps = block.steps ++ steps } ∷ others → IsBlockLine base block done line lines found
  block_on done block line lines _ rest _ others found no_steps e behind f =
      let split = first_is line end_line lines rest e in
      record {
        next = (between, done ++ block ∷ []);
        word = codes "end";
        rest = [];
        line_is = split.0;
        known = known_end;
        no_use = refl;
        may = refl;
        reading_is = end_line_read p gens done block;
        leads = record {
          further = others;
          found_is = f ∙ ap (λ steps. done ++ record { want = block.want; steps = steps } ∷ others) (append-nil block.steps) ∙ sym (append_assoc done (block ∷ []) others);
          goes_on = subst (λ ls. AreBlockLines p gens ls others) (sym split.1) behind;
        };
      }
  block_on done block line lines _ rest _ others found (one_step ts use_lines step_lines step steps said uses more) e behind f =
      let split = first_is line (Word (codes "step") ∷ ts) lines ((use_lines ++ step_lines) ++ end_line ∷ rest) e in
      let begun : PlainStep = record { element = step.element; uses = [] } in
      record {
        next = (in_step block begun, done);
        word = codes "step";
        rest = ts;
        line_is = split.0;
        known = known_step;
        no_use = refl;
        may = refl;
        reading_is = step_read p gens done block ts step.element (sum_read elements gens table p ts step.element said);
        leads = record {
          further = record { want = block.want; steps = block.steps ++ step ∷ steps } ∷ others;
          found_is = f;
          goes_on = record {
            uses = step.uses;
            use_lines = use_lines;
            rest = step_lines ++ end_line ∷ rest;
            lines_are = split.1 ∙ append_assoc use_lines step_lines (end_line ∷ rest);
            uses_said = uses;
            behind = record {
              steps = steps;
              step_lines = step_lines;
              rest = rest;
              others = others;
              lines_are = refl;
              steps_said = more;
              behind = behind;
              blocks_are = ap (λ all. record { want = block.want; steps = all } ∷ others) (sym (append_assoc block.steps (step ∷ []) steps));
            };
          };
        };
      }

  in_block_on : (done : List PlainBlock) (block : PlainBlock) (line : List Token) (lines all : List (List Token)) (found further : List PlainBlock) → all ≡ line ∷ lines → GoesOnInBlock p base block all further
      → found ≡ done ++ further → IsBlockLine base block done line lines found
  in_block_on done block line lines all found further e go f =
      block_on done block line lines go.step_lines go.rest go.steps go.others found go.steps_said (sym e ∙ go.lines_are) go.behind (f ∙ ap (λ bs. done ++ bs) go.blocks_are)

  from_block : (done : List PlainBlock) (block : PlainBlock) (line : List Token) (lines : List (List Token)) (found : List PlainBlock) → IsBlockLine base block done line lines found
      → IsOnTheWay base (in_block block, done) line lines found
  from_block done block line lines found b = record {
    next = b.next;
    read = λ number. subst (λ l. tail_line base (in_block block, done) number l ≡ Ok b.next) (sym b.line_is) (line_accepted base (in_block block, done) b.next b.word b.rest b.known b.may b.reading_is number);
    leads = b.leads;
  }

  from_step : (done : List PlainBlock) (block : PlainBlock) (step : PlainStep) (line : List Token) (lines : List (List Token)) (found : List PlainBlock)
      → IsBlockLine base (with_step block step) done line lines found → IsOnTheWay base (in_step block step, done) line lines found
  from_step done block step line lines found b =
      let may : may_follow (in_step block step) b.word ≡ true = rw b.no_use b.may in
      let reading : rest_of_tail_line p gens (in_step block step) done b.word b.rest ≡ Ok b.next = no_use_read p gens done block step b.word b.rest b.next b.no_use b.reading_is in
      record {
        next = b.next;
        read = λ number. subst (λ l. tail_line base (in_step block step, done) number l ≡ Ok b.next) (sym b.line_is) (line_accepted base (in_step block step, done) b.next b.word b.rest b.known may reading number);
        leads = b.leads;
      }

  -- in a step: a further use, or what stands behind whole steps
  step_on : (done : List PlainBlock) (block : PlainBlock) (step : PlainStep) (line : List Token) (lines use_lines rest : List (List Token)) (uses : List PlainUse) (found further : List PlainBlock)
      → AreUseLines p gens use_lines uses → line ∷ lines ≡ use_lines ++ rest → GoesOnInBlock p base (with_step block (record { element = step.element; uses = step.uses ++ uses })) rest further
      → found ≡ done ++ further → IsOnTheWay base (in_step block step, done) line lines found
  step_on done block step line lines _ rest _ found further no_uses e behind f =
      from_step done block step line lines found (in_block_on done (with_step block step) line lines rest found further (sym e)
      (subst (λ uses. GoesOnInBlock p base (with_step block (record { element = step.element; uses = uses })) rest further) (append-nil step.uses) behind) f)
  step_on done block step line lines _ rest _ found further (one_use ts item use_lines uses said more) e behind f =
      let split = first_is line (Word (codes "use") ∷ ts) lines (use_lines ++ rest) e in
      let now : Follow = (in_step block step, done) in
      let next : Follow = (in_step block (with_use step item), done) in
      let reading : rest_of_tail_line p gens (in_step block step) done (codes "use") ts ≡ Ok next = use_line_read p gens done block step ts item (use_read trees gens table p ts item said) in
      record {
        next = next;
        read = λ number. subst (λ l. tail_line base now number l ≡ Ok next) (sym split.0) (line_accepted base now next (codes "use") ts known_use refl reading number);
        leads = record {
          further = further;
          found_is = f;
          goes_on = record {
            uses = uses;
            use_lines = use_lines;
            rest = rest;
            lines_are = split.1;
            uses_said = more;
            behind = subst (λ all. GoesOnInBlock p base (with_step block (record { element = step.element; uses = all })) rest further) (sym (append_assoc step.uses (item ∷ []) uses)) behind;
          };
        };
      }

  line_on : (place : LinePlace) (done : List PlainBlock) (line : List Token) (lines : List (List Token)) (found : List PlainBlock) → Leads base (place, done) (line ∷ lines) found
      → IsOnTheWay base (place, done) line lines found
  line_on between done line lines found h = want_on done line lines (line ∷ lines) found h.further refl h.goes_on h.found_is
  line_on (in_block block) done line lines found h = from_block done block line lines found (in_block_on done block line lines (line ∷ lines) found h.further refl h.goes_on h.found_is)
  line_on (in_step block step) done line lines found h =
      let go : GoesOnInStep p base block step (line ∷ lines) h.further = h.goes_on in
      step_on done block step line lines go.use_lines go.rest go.uses found h.further go.uses_said go.lines_are go.behind h.found_is

  -- ---- the end of the lines

  none_left : (all : List (List Token)) (further : List PlainBlock) → all ≡ [] → AreBlockLines p gens all further → further ≡ []
  none_left _ _ e no_blocks = refl
  none_left _ _ e (one_block ts step_lines rest block blocks said steps behind) = absurd cc

  no_rest : (use_lines rest : List (List Token)) → [] ≡ use_lines ++ rest → rest ≡ []
  no_rest [] rest e = sym e
  no_rest (l ∷ ls) rest e = absurd cc

  no_block_line : (block : PlainBlock) (all : List (List Token)) (further : List PlainBlock) → all ≡ [] → GoesOnInBlock p base block all further → ⊥
  no_block_line block all further e go = nothing_behind go.step_lines go.rest end_line (sym e ∙ go.lines_are)

  end_read : (place : LinePlace) (done : List PlainBlock) (number : ℕ) (found : List PlainBlock) → Leads base (place, done) [] found → at_end place done number ≡ Ok found
  end_read between done number found h = ap Ok (sym (h.found_is ∙ ap (λ bs. done ++ bs) (none_left [] h.further refl h.goes_on) ∙ append-nil done))
  end_read (in_block block) done number found h = absurd (no_block_line block [] h.further refl h.goes_on)
  end_read (in_step block step) done number found h =
      let go : GoesOnInStep p base block step [] h.further = h.goes_on in
      absurd (no_block_line (with_step block (record { element = step.element; uses = step.uses ++ go.uses })) go.rest h.further (no_rest go.use_lines go.rest go.lines_are) go.behind)

  -- ---- all lines

  on_line_read : (now : Follow) (number : ℕ) (line : List ℕ) (others : List (List ℕ)) (found : List PlainBlock) (on : Follow → Result (List PlainBlock) LineFault)
      → ((next : Follow) → Leads base next (counted_tokens others) found → on next ≡ Ok found) → (b : Bool)
      → Leads base now (map tokens (if b then line ∷ filter counts others else filter counts others)) found → (if b then unless_refused on (tail_line base now number (tokens line)) else on now) ≡ Ok found
  on_line_read now number line others found on more true h =
      let way = line_on now.0 now.1 (tokens line) (counted_tokens others) found h in
      ap (unless_refused on) (way.read number) ∙ more way.next way.leads
  on_line_read now number line others found on more false h = more now h

  -- lines that lead to blocks are read as these
  pub lines_read : (now : Follow) (number : ℕ) (lines : List (List ℕ)) (found : List PlainBlock) → Leads base now (counted_tokens lines) found → blocks_from base now number lines ≡ Ok found
  unfolding blocks_from
  lines_read now number [] found h = end_read now.0 now.1 number found h
  lines_read now number (line ∷ others) found h =
      on_line_read now number line others found (λ next. blocks_from base next (suc number) others) (λ next more. lines_read next (suc number) others found more) (counts line) h

-- which lines are accepted, where it is known which trees and elements are
pub blocks_accepted : TreesAreAccepted → ElementsAreAccepted → BlocksAreAccepted
blocks_accepted trees elements base table number lines blocks = (
  λ e. let leads = lines_told trees elements base table (between, []) number lines blocks e in
      subst (λ bs. AreBlockLines base.p base.generators (counted_tokens lines) bs) (sym leads.found_is) leads.goes_on,
  λ h. lines_read trees elements base table (between, []) number lines blocks (record { further = blocks; found_is = refl; goes_on = h }),
)
