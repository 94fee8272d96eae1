-- The blocks of a tail may be written, and are as a checker asks.
use Rattle.std.proofs.Common.{◌≡◌, ◌<◌, ◌≤◌, ◌-◌, ℕ, Bool, true, false, if◌then◌else◌, List, [], ◌∷◌, length, map, filter, drop, take, Ok, Err, Result, ap, arith, length-drop}
use Rattle.std.specs.List.{All}
use Rattle.std.specs.Result.{IfOk, MatchResult}
use Rattle.std.proofs.lemmas.List.{length-map}
use Rattle.prime_field.proofs.Primes.{field_prime}
use Rattle.prime_field.specs.Primes.{IsFieldPrime}
use Rattle.symmetric_trees.specs.Generators.{IsTable}
use Rattle.presentation_text.specs.Accepted.{ElementsAreAccepted, TreesAreAccepted}
use Rattle.presentation_text.specs.Grammar.{counted_tokens}
use Rattle.presentation_text.specs.Lines.{counts, lines}
use Rattle.presentation_text.specs.Tokens.{tokens}
use Rattle.presentation_text.specs.declared.document.Document.{Document}
use Rattle.certificate_text.specs.BlockReadings.{Base, base_of, between, blocks_from}
use Rattle.certificate_text.specs.BlockText.{AreBlockLines}
use Rattle.certificate_text.specs.Plain.{PlainBlock, plain_block, plain_step}
use Rattle.certificate_text.specs.Tails.{IsReadyBlock}
use Rattle.certificate_text.specs.Writable.{IsWritableBlock}
use Rattle.certificate_text.specs.declared.block.Block.{Block}
use Rattle.certificate_text.specs.declared.cert_fail.ReadCertFail.{ReadCertFail}
use Rattle.certificate_text.proofs.BlocksRead.{blocks_accepted}
use Rattle.certificate_text.proofs.WrittenSums.{block_ready, of_image}
use Rattle.certificate_text.proofs.TailLines.{slice_is}
use Rattle.certificate_text.proofs.WritableBlocks.{blocks_few, blocks_writable}
use Rattle.presentation_text.proofs.TextEnds.{few_lines}

passed_few : {X : Type 0} (p : X → Bool) (xs : List X) → length (filter p xs) ≤ length xs
passed_few p [] = omega arith
passed_few p (x ∷ xs) = by_test (p x) (passed_few p xs) where
  by_test : (b : Bool) → length (filter p xs) ≤ length xs → length (if b then x ∷ filter p xs else filter p xs) ≤ length (x ∷ xs)
  by_test true h = omega (arith, h)
  by_test false h = omega (arith, h)

counted_few : (text : List ℕ) → length (counted_tokens (lines text)) ≤ length text
counted_few text = omega (arith, length-map (filter counts (lines text)) tokens, passed_few counts (lines text), few_lines text)

-- what holds where a function gave something
pub given : {A E : Type 0} (P R : A → Type 0) (Q : E → Type 0) (r : Result A E) → MatchResult r P Q → ((x : A) → P x → R x) → IfOk r R
given P R Q (Ok x) h more = more x h
given P R Q (Err e) h more = tt

-- a tail is no longer than its text
pub slice_short : (bytes : List ℕ) (from : ℕ) → length bytes ≤ 16777216 → length (take (length bytes - from) (drop from bytes)) ≤ 16777216
slice_short bytes from short = omega (arith, ap length (slice_is bytes from), length-drop from bytes)

module _ (trees : TreesAreAccepted) (elements : ElementsAreAccepted) (base : Base) (table : IsTable base.generators) (positive : 0 < base.p) (number : ℕ) (text : List ℕ) (blocks : List Block)
    (reading : blocks_from base (between, []) number (lines text) ≡ Ok (map plain_block blocks)) where
  are_lines : AreBlockLines base.p base.generators (counted_tokens (lines text)) (map plain_block blocks)
  are_lines = (blocks_accepted trees elements base table number (lines text) (map plain_block blocks)).0 reading

  pub read_writable : All (IsWritableBlock base.p base.generators) (map plain_block blocks)
  read_writable = blocks_writable base.p base.generators positive (counted_tokens (lines text)) (map plain_block blocks) are_lines

  pub read_ready : length text ≤ 16777216 → All (IsReadyBlock base.p base.generators) blocks
  read_ready short =
      let most = length (counted_tokens (lines text)) in
      let Meets = λ (block : PlainBlock). IsWritableBlock base.p base.generators block × (length block.steps ≤ most) in
      let few : All (λ (block : PlainBlock). length block.steps ≤ most) (map plain_block blocks) = blocks_few base.p base.generators positive (counted_tokens (lines text)) (map plain_block blocks) are_lines in
      let both : All Meets (map plain_block blocks) = λ k d l. (read_writable k d l, few k d l) in
      let enough = counted_few text in
      of_image Meets (IsReadyBlock base.p base.generators) plain_block
      (λ block h. block_ready base.p base.generators block (let steps = length-map block.steps plain_step in omega (arith, h.1)) h.0) blocks both

-- ---- the blocks of a tail

pub prime_positive : (p : ℕ) → IsFieldPrime p → 0 < p
prime_positive p prime = let above = (field_prime p prime).above_one in omega arith

module _ (trees : TreesAreAccepted) (elements : ElementsAreAccepted) (document : Document) (sound : IsFieldPrime document.field × IsTable document.gens) (number from : ℕ) (bytes : List ℕ)
    (Stops : ReadCertFail → Type 0) (r : Result (List Block) ReadCertFail) where
  abbrev text : List ℕ
  text = take (length bytes - from) (drop from bytes)

  abbrev Given : List Block → Type 0
  Given blocks = blocks_from (base_of document) (between, []) number (lines text) ≡ Ok (map plain_block blocks)

  pub tail_writable : MatchResult r Given Stops → IfOk r (λ blocks. All (IsWritableBlock document.field document.gens) (map plain_block blocks))
  tail_writable h =
      given Given (λ blocks. All (IsWritableBlock document.field document.gens) (map plain_block blocks)) Stops r h
      (λ blocks reading. read_writable trees elements (base_of document) sound.1 (prime_positive document.field sound.0) number text blocks reading)

  pub tail_ready : length bytes ≤ 16777216 → MatchResult r Given Stops → IfOk r (All (IsReadyBlock document.field document.gens))
  tail_ready short h =
      given Given (All (IsReadyBlock document.field document.gens)) Stops r h
      (λ blocks reading. read_ready trees elements (base_of document) sound.1 (prime_positive document.field sound.0) number text blocks reading (slice_short bytes from short))
