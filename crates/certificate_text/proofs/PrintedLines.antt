-- The lines of printed blocks are lines of blocks that say the same.
use Rattle.std.proofs.Common.{◌≡◌, ℕ, true, List, [], ◌∷◌, ◌++◌, codes, None, refl, ap, sym, ◌∙◌, subst, append-nil, append_assoc}
use Rattle.std.specs.List.{All, AllByRecursion, flat_map}
use Rattle.std.proofs.lemmas.List.Elements.{All-head, All-tail}
use Rattle.labelled_trees.specs.Trees.{Tree}
use Rattle.prime_field.specs.Primes.{IsFieldPrime}
use Rattle.symmetric_trees.specs.Generators.{IsTable}
use Rattle.symmetric_trees.specs.declared.generators.Generator.{Generator}
use Rattle.presentation_text.specs.DocumentText.{blank_before, line_of}
use Rattle.presentation_text.specs.Grammar.{counted_tokens}
use Rattle.presentation_text.specs.Lines.{HasNoFeed, counts, lines}
use Rattle.presentation_text.specs.SumText.{sum_text}
use Rattle.presentation_text.specs.Tokens.{IsWord, tokens}
use Rattle.presentation_text.specs.TreeText.{HasWords}
use Rattle.presentation_text.specs.declared.lexing.Token.{Token}
use Rattle.presentation_text.specs.declared.lexing.Token.TheVariants.{Word}
use Rattle.certificate_text.specs.BlockText.{AreBlockLines, AreStepLines, AreUseLines, AreSumTokens, end_line, no_blocks, no_steps, no_uses, one_block, one_step, one_use}
use Rattle.certificate_text.specs.Laws.{BlocksAreAccepted}
use Rattle.certificate_text.specs.Plain.{PlainBlock, PlainStep, PlainUse}
use Rattle.certificate_text.specs.PrintedBlocks.{PrintedBlocksAreReadBack, block_text, step_text, sum_line, use_text}
use Rattle.certificate_text.specs.Writable.{IsWrittenSum, IsWritableBlock, IsWritableStep, IsWritableUse}
use Rattle.presentation_text.proofs.LineTexts.{counts-word, lines-line_of, no_feed-word, tokens-words}
use Rattle.presentation_text.proofs.PrintedDocuments.{demanded_once, printed_as}
use Rattle.certificate_text.proofs.PrintedUses.{use_printed, use_words}

-- the first line of a text counts, and has the tokens of its words
counted_line : (word : List ℕ) (words : List (List ℕ)) (rest : List ℕ) (ts : List Token) → IsWord word → AllByRecursion HasNoFeed words → tokens word ++ flat_map tokens words ≡ ts
    → counted_tokens (lines (line_of word words ++ rest)) ≡ ts ∷ counted_tokens (lines rest)
counted_line word words rest ts is_word feeds are =
    let seen : counts (word ++ blank_before words) ≡ true = counts-word word (blank_before words) is_word in
    ap counted_tokens (lines-line_of word words rest (no_feed-word word is_word) feeds) ∙ rw seen (ap (λ x. x ∷ counted_tokens (lines rest)) (tokens-words word words ∙ are))

module _ (p : ℕ) (generators : List Generator) (prime : IsFieldPrime p) (table : IsTable generators) (words : HasWords generators) where
  -- These are the lines of the text, whatever lines stand behind it.
  pub record HasLines (text : List ℕ) (Are : List (List Token) → Type 0) : Type 0 where
    pub found : List (List Token)
    pub are : Are found
    pub counted : (rest : List ℕ) → counted_tokens (lines (text ++ rest)) ≡ found ++ counted_tokens (lines rest)

  sum_said : (e : List (ℕ × Tree ℕ)) → IsWrittenSum p generators e → AreSumTokens p generators (tokens (sum_text p generators e)) e
  sum_said e h =
      let printed = printed_as p generators prime table words h.0 e h.1 in
      record {
        terms = printed.terms;
        spelled = printed.read;
        trees = demanded_once generators h.0 None printed.terms (λ m none. absurd cc) printed.trees;
        sum_is = sym printed.says;
      }

  -- the line of a word and a sum
  sum_counted : (word : List ℕ) (e : List (ℕ × Tree ℕ)) (rest : List ℕ) → IsWord word → tokens word ≡ Word word ∷ [] → IsWrittenSum p generators e
      → counted_tokens (lines (sum_line p generators word e ++ rest)) ≡ (Word word ∷ tokens (sum_text p generators e)) ∷ counted_tokens (lines rest)
  sum_counted word e rest is_word one h =
      let printed = printed_as p generators prime table words h.0 e h.1 in
      let text = sum_text p generators e in
      counted_line word (text ∷ []) rest (Word word ∷ tokens text) is_word (printed.feed, tt) (ap (λ ts. ts ++ (tokens text ++ [])) one ∙ ap (λ ts. Word word ∷ ts) (append-nil (tokens text)))

  uses_printed : (items : List PlainUse) → All (IsWritableUse p generators) items → HasLines (flat_map (use_text p generators) items) (λ ls. AreUseLines p generators ls items)
  uses_printed [] h = record { found = []; are = no_uses; counted = λ rest. refl }
  uses_printed (item ∷ items) h =
      let line = use_printed p generators prime words item (All-head (IsWritableUse p generators) item items h) in
      let more = uses_printed items (All-tail (IsWritableUse p generators) item items h) in
      let further = flat_map (use_text p generators) items in
      record {
        found = (Word (codes "use") ∷ line.line) ∷ more.found;
        are = one_use line.line item more.found items line.says more.are;
        counted = λ rest.
            ap (λ text. counted_tokens (lines text)) (append_assoc (use_text p generators item) further rest)
            ∙ counted_line (codes "use") (use_words p generators item) (further ++ rest) (Word (codes "use") ∷ line.line) (refl, refl) line.feeds (ap (λ ts. Word (codes "use") ∷ ts) line.read)
            ∙ ap (λ ls. (Word (codes "use") ∷ line.line) ∷ ls) (more.counted rest);
      }

  steps_printed : (steps : List PlainStep) → All (IsWritableStep p generators) steps → HasLines (flat_map (step_text p generators) steps) (λ ls. AreStepLines p generators ls steps)
  steps_printed [] h = record { found = []; are = no_steps; counted = λ rest. refl }
  steps_printed (step ∷ steps) h =
      let own = All-head (IsWritableStep p generators) step steps h in
      let uses = uses_printed step.uses own.uses in
      let more = steps_printed steps (All-tail (IsWritableStep p generators) step steps h) in
      let ts = tokens (sum_text p generators step.element) in
      let first = sum_line p generators (codes "step") step.element in
      let used = flat_map (use_text p generators) step.uses in
      let further = flat_map (step_text p generators) steps in
      record {
        found = (Word (codes "step") ∷ ts) ∷ (uses.found ++ more.found);
        are = one_step ts uses.found more.found step steps (sum_said step.element own.element) uses.are more.are;
        counted = λ rest.
            ap (λ text. counted_tokens (lines text)) (append_assoc (first ++ used) further rest ∙ append_assoc first used (further ++ rest))
            ∙ sum_counted (codes "step") step.element (used ++ (further ++ rest)) (refl, refl) refl own.element
            ∙ ap (λ ls. (Word (codes "step") ∷ ts) ∷ ls)
            (uses.counted (further ++ rest) ∙ ap (λ ls. uses.found ++ ls) (more.counted rest) ∙ sym (append_assoc uses.found more.found (counted_tokens (lines rest))));
      }

  blocks_printed : (blocks : List PlainBlock) → All (IsWritableBlock p generators) blocks → HasLines (flat_map (block_text p generators) blocks) (λ ls. AreBlockLines p generators ls blocks)
  blocks_printed [] h = record { found = []; are = no_blocks; counted = λ rest. refl }
  blocks_printed (block ∷ blocks) h =
      let own = All-head (IsWritableBlock p generators) block blocks h in
      let steps = steps_printed block.steps own.steps in
      let more = blocks_printed blocks (All-tail (IsWritableBlock p generators) block blocks h) in
      let ts = tokens (sum_text p generators block.want) in
      let first = sum_line p generators (codes "want") block.want in
      let stepped = flat_map (step_text p generators) block.steps in
      let end = line_of (codes "end") [] in
      let further = flat_map (block_text p generators) blocks in
      record {
        found = (Word (codes "want") ∷ ts) ∷ (steps.found ++ end_line ∷ more.found);
        are = one_block ts steps.found more.found block blocks (sum_said block.want own.want) steps.are more.are;
        counted = λ rest.
            ap (λ text. counted_tokens (lines text))
            (append_assoc (first ++ (stepped ++ end)) further rest ∙ append_assoc first (stepped ++ end) (further ++ rest) ∙ ap (λ text. first ++ text) (append_assoc stepped end (further ++ rest)))
            ∙ sum_counted (codes "want") block.want (stepped ++ (end ++ (further ++ rest))) (refl, refl) refl own.want
            ∙ ap (λ ls. (Word (codes "want") ∷ ts) ∷ ls)
            (steps.counted (end ++ (further ++ rest))
            ∙ ap (λ ls. steps.found ++ ls) (counted_line (codes "end") [] (further ++ rest) end_line (refl, refl) tt refl ∙ ap (λ ls. end_line ∷ ls) (more.counted rest))
            ∙ sym (append_assoc steps.found (end_line ∷ more.found) (counted_tokens (lines rest))));
      }

-- what is printed is read back, where it is known which lines are accepted
pub blocks_read_back : BlocksAreAccepted → PrintedBlocksAreReadBack
blocks_read_back accepted base prime table words number blocks h =
    let printed = blocks_printed base.p base.generators prime table words blocks h in
    let text = flat_map (block_text base.p base.generators) blocks in
    let counted : counted_tokens (lines text) ≡ printed.found = ap (λ bytes. counted_tokens (lines bytes)) (sym (append-nil text)) ∙ printed.counted [] ∙ append-nil printed.found in
    (accepted base table number (lines text) blocks).1 (subst (λ ls. AreBlockLines base.p base.generators ls blocks) (sym counted) printed.are)
