-- The lines of what `forms` and `prove` print.
use Rattle.std.proofs.Common.{Bool, true, false, ◌≡◌, ℕ, zero, suc, ◌+◌, ◌-◌, ◌<◌, ◌≤◌, ◌^◌, List, [], ◌∷◌, length, map, codes, Ok, refl, sym, ◌∙◌, ap, arith, subst, inl, inr, ◌⊎◌}
use Rattle.std.specs.Prelude.{◌++◌, filter, ◌==◌, if◌then◌else◌}
use Rattle.std.specs.List.{All, flat_map}
use Rattle.std.specs.Fmt.{decimal}
use Rattle.std.proofs.lemmas.List.{append_assoc, append-nil}
use Rattle.modular_sums.specs.Lists.{Mem, Nth}
use Rattle.modular_sums.specs.Sums.{scale, AllTerms}
use Rattle.modular_sums.proofs.Lists.{mem_either}
use Rattle.modular_sums.proofs.Sums.{AllTerms-append, AllTerms-scale}
use Rattle.symmetric_trees.specs.Trees.{IsLabelled}
use Rattle.presentation_text.specs.Grammar.{counted_tokens}
use Rattle.presentation_text.specs.LineReadings.{Asked}
use Rattle.presentation_text.specs.Lines.{HasNoFeed, in_front, lines, counts}
use Rattle.presentation_text.specs.ReadBack.{IsWritable}
use Rattle.presentation_text.specs.SumText.{sum_text}
use Rattle.presentation_text.specs.Tokens.{tokens}
use Rattle.presentation_text.specs.declared.document.Document.{Document}
use Rattle.presentation_text.proofs.LineLaws.{lines-ended}
use Rattle.presentation_text.proofs.LineTexts.{no_feed-append, no_feed-decimal}
use Rattle.presentation_text.proofs.PrintedFeeds.{no_feed-sum}
use Rattle.presentation_text.proofs.TextEnds.{lines_of_some}
use Rattle.certificate_text.specs.BlockReadings.{between, blocks_from, base_of}
use Rattle.certificate_text.specs.Plain.{PlainBlock, plain_block}
use Rattle.certificate_text.specs.PrintedBlocks.{block_text, sum_line, step_text}
use Rattle.certificate_text.specs.Writable.{IsWritableBlock as IsWritableBlock}
use Rattle.certificate_text.specs.BlockText.{AreBlockLines}
use Rattle.certificate_text.specs.Laws.{BlocksAreAccepted}
use Rattle.certificate_text.specs.declared.block.Block.{Block}
use Rattle.certificate_text.proofs.BlocksRead.{blocks_accepted}
use Rattle.certificate_text.proofs.PresentationLaws.{trees_are_accepted, elements_are_accepted}
use Rattle.certificate_text.proofs.PrintedLines.{blocks_read_back}
use Rattle.certificate_check.specs.Blocks.{BlockHolds}
use Rattle.presentation_text.proofs.PrintedDocuments.{field_small}
use Rattle.operad_answers.specs.OrderedPresentations.{OrderedPresentation, written, IsWellFormed}
use Rattle.operad_answers.specs.Parts.{line}
use Rattle.operad_answers.specs.Texts.{Sum, EachWith, IsNarrow, queries, IsForm, IsAnswer, IsFormsText}
use Rattle.operad_answers.specs.Verdicts.{Holds, Sides, difference, comparisons, numbered_from, IsVerdict, IsProveText, verdict_block, verdict_blocks, AreQuestionsOver}
use Rattle.operad_answers.specs.Laws.{QueryLinesDecide, ProveTextsAreRead}
use Rattle.operad_answers.proofs.Forms.{form_at, form_printable, decide}
use Rattle.operad_answers.proofs.WellFormed.{writable_well_formed}

-- ---- lines that end

-- the text ends with a line feed
abbrev Ends : List ℕ → Type 0
Ends text = (front : List ℕ) × (text ≡ front ++ 10 ∷ [])

line_first : (c rest : List ℕ) → HasNoFeed c → lines (line c ++ rest) ≡ c ∷ lines rest
line_first c rest h = ap lines (append_assoc c (10 ∷ []) rest) ∙ lines-ended c rest h

pub all_lines : (l : List (List ℕ)) → ((c : List ℕ) → Mem c l → HasNoFeed c) → lines (flat_map line l) ≡ l
all_lines [] h = refl
all_lines (c ∷ l) h = line_first c (flat_map line l) (h c (inl refl)) ∙ ap (λ m. c ∷ m) (all_lines l (λ d m. h d (inr m)))

-- ---- the lines of answers

module _ (o : OrderedPresentation) (well_formed : IsWellFormed o) where
  no_feed-form : (n : ℕ) (e f : Sum) → n ≤ 9 → IsForm o n e f → HasNoFeed (sum_text o.field o.generators f)
  no_feed-form n e f few h = no_feed-sum o.field o.generators well_formed.words (field_small o.field well_formed.prime) f (form_printable o well_formed n e f few h)

  no_feed-answer : (n : ℕ) (e : Sum) (answer : List ℕ) → IsNarrow o.generators n e → IsAnswer o e answer → HasNoFeed answer
  no_feed-answer n e answer narrow h = subst HasNoFeed (sym h.answer_is) (no_feed-form n e h.form narrow.0 (form_at o well_formed h.arity n e h.form h.labelled narrow.1 h.is_form))

  no_feeds : (es : List Sum) (answers : List (List ℕ)) → EachWith (IsAnswer o) es answers → ((e : Sum) → Mem e es → (n : ℕ) × IsNarrow o.generators n e) → (c : List ℕ) → Mem c answers → HasNoFeed c
  no_feeds [] [] each h c m = absurd m
  no_feeds [] (a ∷ answers) each h c m = absurd each
  no_feeds (e ∷ es) [] each h c m = absurd each
  no_feeds (e ∷ es) (a ∷ answers) each h c (inl k) = let n = h e (inl refl) in subst HasNoFeed (sym k) (no_feed-answer n.0 e a n.1 each.0)
  no_feeds (e ∷ es) (a ∷ answers) each h c (inr k) = no_feeds es answers each.1 (λ f i. h f (inr i)) c k

  pub answer_lines : (asks : List Asked) → AreQuestionsOver o.generators asks → (text : List ℕ) (printed : IsFormsText o asks text) → lines text ≡ printed.answers
  answer_lines asks elements text printed = ap lines printed.text_is ∙ all_lines printed.answers (no_feeds (queries asks) printed.answers printed.are_answers elements.queried)

  pub answer_at : (i : ℕ) (es : List Sum) (answers : List (List ℕ)) → EachWith (IsAnswer o) es answers → (e : Sum) (answer : List ℕ) → Nth i es e → Nth i answers answer → IsAnswer o e answer
  answer_at i [] answers each e answer h g = absurd h
  answer_at i (x ∷ es) [] each e answer h g = absurd each
  answer_at zero (x ∷ es) (a ∷ answers) each e answer h g = absurd h
  answer_at (suc zero) (x ∷ es) (a ∷ answers) each e answer h g = subst (λ y. IsAnswer o y answer) (sym h) (subst (IsAnswer o x) (sym g) each.0)
  answer_at (suc (suc i)) (x ∷ es) (a ∷ answers) each e answer h g = answer_at (suc i) es answers each.1 e answer h g

pub query_lines_decide : QueryLinesDecide
query_lines_decide o well_formed asks others elements their text other a b i j d e hd he n nd ne one two h g =
    decide o well_formed n nd.0 d e nd.1 ne.1 one two
    (answer_at o well_formed i (queries asks) a.answers a.are_answers d one hd (subst (λ l. Nth i l one) (answer_lines o well_formed asks elements text a) h))
    (answer_at o well_formed j (queries others) b.answers b.are_answers e two he (subst (λ l. Nth j l two) (answer_lines o well_formed others their other b) g))

-- ---- lines that count, of texts one behind the other

pub in_front-append : (c : ℕ) (k l : List (List ℕ)) → (k ≡ [] → ⊥) → in_front c (k ++ l) ≡ in_front c k ++ l
in_front-append c [] l n = absurd (n refl)
in_front-append c (x ∷ k) l n = refl

some_lines : (x : List ℕ) → lines (x ++ 10 ∷ []) ≡ [] → ⊥
some_lines [] e = lines_of_some 10 [] e
some_lines (c ∷ x) e = lines_of_some c (x ++ 10 ∷ []) e

pub lines-joined : (x rest : List ℕ) → lines (x ++ 10 ∷ rest) ≡ lines (x ++ 10 ∷ []) ++ lines rest
lines-joined [] rest = refl
lines-joined (c ∷ x) rest = go (c == 10) (lines-joined x rest)
  where
    go : (b : Bool) → lines (x ++ 10 ∷ rest) ≡ lines (x ++ 10 ∷ []) ++ lines rest
        → (if b then [] ∷ lines (x ++ 10 ∷ rest) else in_front c (lines (x ++ 10 ∷ rest))) ≡ (if b then [] ∷ lines (x ++ 10 ∷ []) else in_front c (lines (x ++ 10 ∷ []))) ++ lines rest
    go true h = ap (λ l. [] ∷ l) h
    go false h = ap (in_front c) h ∙ in_front-append c (lines (x ++ 10 ∷ [])) (lines rest) (some_lines x)

counted-append : (k l : List (List ℕ)) → counted_tokens (k ++ l) ≡ counted_tokens k ++ counted_tokens l
counted-append [] l = refl
counted-append (x ∷ k) l = go (counts x) (counted-append k l)
  where
    go : (b : Bool) → counted_tokens (k ++ l) ≡ counted_tokens k ++ counted_tokens l → map tokens (if b then x ∷ filter counts (k ++ l) else filter counts (k ++ l))
        ≡ map tokens (if b then x ∷ filter counts k else filter counts k) ++ counted_tokens l
    go true h = ap (λ m. tokens x ∷ m) h
    go false h = h

counted-joined : (text rest : List ℕ) → Ends text → counted_tokens (lines (text ++ rest)) ≡ counted_tokens (lines text) ++ counted_tokens (lines rest)
counted-joined text rest e =
    ap (λ t. counted_tokens (lines (t ++ rest))) e.1 ∙ ap (λ t. counted_tokens (lines t)) (append_assoc e.0 (10 ∷ []) rest)
    ∙ ap counted_tokens (lines-joined e.0 rest) ∙ counted-append (lines (e.0 ++ 10 ∷ [])) (lines rest)
    ∙ ap (λ t. counted_tokens (lines t) ++ counted_tokens (lines rest)) (sym e.1)

-- a line that begins with '#' doesn't count
comment_passed : (c rest : List ℕ) → HasNoFeed (35 ∷ c) → counted_tokens (lines (line (35 ∷ c) ++ rest)) ≡ counted_tokens (lines rest)
comment_passed c rest h = ap counted_tokens (line_first (35 ∷ c) rest h)

block_ends : (p : ℕ) (d : Document) (block : PlainBlock) → Ends (block_text d.field d.gens block)
block_ends p d block =
    let first = sum_line d.field d.gens (codes "want") block.want in
    let steps = flat_map (step_text d.field d.gens) block.steps in
    (first ++ (steps ++ codes "end"), sym (append_assoc first (steps ++ codes "end") (10 ∷ []) ∙ ap (λ t. first ++ t) (append_assoc steps (codes "end") (10 ∷ []))))

-- ---- the lines of verdicts

module _ (d : Document) (formed : IsWritable d) where
  well_formed : IsWellFormed (written d)
  well_formed = writable_well_formed d formed

  abbrev texts_of : List Block → List ℕ
  texts_of blocks = flat_map (block_text d.field d.gens) (map plain_block blocks)

  no_feed-number : (k : ℕ) → k < 2 ^ 64 → (rest : List ℕ) → HasNoFeed rest → HasNoFeed (codes "# " ++ (decimal k ++ rest))
  no_feed-number k small rest h = (other 35 (omega arith), (other 32 (omega arith), no_feed-append (decimal k) rest (no_feed-decimal k small) h))
    where
      other : (c : ℕ) → 10 < c → c ≡ 10 → ⊥
      other c l e = omega (arith, l, e)

  no_feed-yes : HasNoFeed (codes " yes")
  no_feed-yes = (λ e. omega (arith, e), (λ e. omega (arith, e), (λ e. omega (arith, e), (λ e. omega (arith, e), tt))))

  no_feed-no : HasNoFeed (codes " no ")
  no_feed-no = (λ e. omega (arith, e), (λ e. omega (arith, e), (λ e. omega (arith, e), (λ e. omega (arith, e), tt))))

  abbrev Both : Sides → Type 0
  Both sides = (n : ℕ) × IsNarrow d.gens n sides.left × IsNarrow d.gens n sides.right

  -- of a verdict only the lines of its block count
  verdict_lines : (k : ℕ) (sides : Sides) → k < 2 ^ 64 → Both sides → (text : List ℕ) (v : IsVerdict d (k, sides) text) (rest : List ℕ)
      → counted_tokens (lines (text ++ rest)) ≡ counted_tokens (lines (texts_of (verdict_block d (k, sides) text v))) ++ counted_tokens (lines rest)
  verdict_lines k sides small both text (inl y) rest =
      let c = decimal k ++ codes " yes" in
      let block = block_text d.field d.gens (plain_block y.shown.block) in
      ap (λ t. counted_tokens (lines (t ++ rest))) y.text_is ∙ ap (λ t. counted_tokens (lines t)) (append_assoc (line (codes "# " ++ c)) block rest)
      ∙ comment_passed (32 ∷ c) (block ++ rest) (no_feed-number k small (codes " yes") no_feed-yes)
      ∙ counted-joined block rest (block_ends 0 d (plain_block y.shown.block))
      ∙ ap (λ t. counted_tokens (lines t) ++ counted_tokens (lines rest)) (sym (append-nil block))
  verdict_lines k sides small both text (inr h) rest =
      let f = sum_text d.field d.gens h.form in
      let labelled : AllTerms (difference d.field sides) (IsLabelled d.gens both.0)
      = AllTerms-append sides.left (scale (d.field - 1) sides.right) (IsLabelled d.gens both.0) (both.1).1 (AllTerms-scale (d.field - 1) sides.right (IsLabelled d.gens both.0) (both.2).1) in
      let form = form_at (written d) well_formed h.arity both.0 (difference d.field sides) h.form h.labelled labelled h.is_form in
      ap (λ t. counted_tokens (lines (t ++ rest))) h.text_is
      ∙ comment_passed (32 ∷ (decimal k ++ (codes " no " ++ f))) rest
      (no_feed-number k small (codes " no " ++ f) (no_feed-append (codes " no ") f no_feed-no (no_feed-form (written d) well_formed both.0 (difference d.field sides) h.form (both.1).0 form)))

  texts-append : (k l : List Block) → texts_of (k ++ l) ≡ texts_of k ++ texts_of l
  texts-append [] l = refl
  texts-append (b ∷ k) l = ap (λ t. block_text d.field d.gens (plain_block b) ++ t) (texts-append k l) ∙ sym (append_assoc (block_text d.field d.gens (plain_block b)) (texts_of k) (texts_of l))

  -- the texts of blocks one behind the other
  texts_counted : (k l : List Block) → counted_tokens (lines (texts_of (k ++ l))) ≡ counted_tokens (lines (texts_of k)) ++ counted_tokens (lines (texts_of l))
  texts_counted [] l = refl
  texts_counted (b ∷ k) l =
      let block = block_text d.field d.gens (plain_block b) in
      let ends = block_ends 0 d (plain_block b) in
      counted-joined block (texts_of (k ++ l)) ends ∙ ap (λ t. counted_tokens (lines block) ++ t) (texts_counted k l)
      ∙ sym (append_assoc (counted_tokens (lines block)) (counted_tokens (lines (texts_of k))) (counted_tokens (lines (texts_of l))))
      ∙ ap (λ t. t ++ counted_tokens (lines (texts_of l))) (sym (counted-joined block (texts_of k) ends))

  all_verdicts : (k : ℕ) (l : List Sides) → k + length l < 2 ^ 64 → ((sides : Sides) → Mem sides l → Both sides) → (texts : List (List ℕ)) (each : EachWith (IsVerdict d) (numbered_from k l) texts)
      → counted_tokens (lines (flat_map (λ verdict. verdict) texts)) ≡ counted_tokens (lines (texts_of (verdict_blocks d (numbered_from k l) texts each)))
  all_verdicts k [] small both [] each = refl
  all_verdicts k [] small both (t ∷ texts) each = absurd each
  all_verdicts k (s ∷ l) small both [] each = absurd each
  all_verdicts k (s ∷ l) small both (t ∷ texts) each =
      let blocks = verdict_block d (k, s) t each.0 in
      let others = verdict_blocks d (numbered_from (suc k) l) texts each.1 in
      verdict_lines k s (omega (arith, small)) (both s (inl refl)) t each.0 (flat_map (λ verdict. verdict) texts)
      ∙ ap (λ m. counted_tokens (lines (texts_of blocks)) ++ m) (all_verdicts (suc k) l (omega (arith, small)) (λ x m. both x (inr m)) texts each.1)
      ∙ sym (texts_counted blocks others)

  -- ---- each block holds, and may be read

  abbrev Good : Block → Type 0
  Good block = BlockHolds d.field d.gens d.rels block.want block.steps × IsWritableBlock d.field d.gens (plain_block block)

  good_one : (k : ℕ) (sides : Sides) (text : List ℕ) (v : IsVerdict d (k, sides) text) (block : Block) → Mem block (verdict_block d (k, sides) text v) → Good block
  good_one k sides text (inl y) block (inl e) = subst Good (sym e) (y.shown.holds, y.shown.writable)
  good_one k sides text (inl y) block (inr m) = absurd m
  good_one k sides text (inr h) block m = absurd m

  good_all : (k : ℕ) (l : List Sides) (texts : List (List ℕ)) (each : EachWith (IsVerdict d) (numbered_from k l) texts) (block : Block) → Mem block (verdict_blocks d (numbered_from k l) texts each) → Good block
  good_all k [] [] each block m = absurd m
  good_all k [] (t ∷ texts) each block m = absurd each
  good_all k (s ∷ l) [] each block m = absurd each
  good_all k (s ∷ l) (t ∷ texts) each block m =
      go (mem_either block (verdict_block d (k, s) t each.0) (verdict_blocks d (numbered_from (suc k) l) texts each.1) m) (good_all (suc k) l texts each.1 block)
    where
      go : Mem block (verdict_block d (k, s) t each.0) ⊎ Mem block (verdict_blocks d (numbered_from (suc k) l) texts each.1)
          → (Mem block (verdict_blocks d (numbered_from (suc k) l) texts each.1) → Good block) → Good block
      go (inl i) rest = good_one k s t each.0 block i
      go (inr i) rest = rest i

  writable_all : (blocks : List Block) → ((block : Block) → Mem block blocks → Good block) → All (IsWritableBlock d.field d.gens) (map plain_block blocks)
  writable_all [] h i x l = absurd (omega (arith, l))
  writable_all (b ∷ blocks) h zero x l = (h b (inl refl)).1
  writable_all (b ∷ blocks) h (suc i) x l = writable_all blocks (λ c m. h c (inr m)) i x (omega (arith, l))

  accepted : BlocksAreAccepted
  accepted = blocks_accepted trees_are_accepted elements_are_accepted

  module _ (asks : List Asked) (elements : AreQuestionsOver d.gens asks) (few : length (comparisons asks) < 2 ^ 63) (text : List ℕ) (printed : IsProveText d asks text) where
    abbrev blocks : List Block
    blocks = verdict_blocks d (numbered_from 1 (comparisons asks)) printed.verdicts printed.are_verdicts

    each_good : (block : Block) → Mem block (verdict_blocks d (numbered_from 1 (comparisons asks)) printed.verdicts printed.are_verdicts) → Good block
    each_good = good_all 1 (comparisons asks) printed.verdicts printed.are_verdicts

    same_tokens : counted_tokens (lines text) ≡ counted_tokens (lines (texts_of blocks))
    same_tokens = ap (λ t. counted_tokens (lines t)) printed.text_is ∙ all_verdicts 1 (comparisons asks) (omega (arith, few)) elements.compared printed.verdicts printed.are_verdicts

    pub prove_read : (number : ℕ) → blocks_from (base_of d) (between, []) number (lines text) ≡ Ok (map plain_block blocks)
    prove_read number =
        let back = blocks_read_back accepted (base_of d) formed.field formed.table formed.words number (map plain_block blocks) (writable_all blocks each_good) in
        let block_lines = (accepted (base_of d) formed.table number (lines (texts_of blocks)) (map plain_block blocks)).0 back in
        (accepted (base_of d) formed.table number (lines text) (map plain_block blocks)).1 (subst (λ l. AreBlockLines d.field d.gens l (map plain_block blocks)) (sym same_tokens) block_lines)

-- each block holds
pub blocks_hold : (d : Document) → IsWritable d → (asks : List Asked) (text : List ℕ) (printed : IsProveText d asks text) → (block : Block)
    → Mem block (verdict_blocks d (numbered_from 1 (comparisons asks)) printed.verdicts printed.are_verdicts) → Holds d block
blocks_hold d formed asks text printed block m = (good_all d formed 1 (comparisons asks) printed.verdicts printed.are_verdicts block m).0

pub prove_texts_are_read : ProveTextsAreRead
prove_texts_are_read d formed asks elements few text printed number =
    (prove_read d formed asks elements few text printed number, λ block m. (each_good d formed asks elements few text printed block m).0)
