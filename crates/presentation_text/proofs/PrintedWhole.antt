-- The text of a writable document is read back to the same.
use Rattle.std.proofs.Common.{◌≡◌, ◌≢◌, ℕ, ◌^◌, ◌<◌, ◌⊎◌, inl, inr, ⊎_elim, List, [], ◌∷◌, ◌++◌, map, codes, Some, None, refl, ap, sym, ◌∙◌, subst, arith, append-nil}
use Rattle.std.specs.List.{All, flat_map}
use Rattle.std.specs.Bool.{IsTrue}
use Rattle.std.specs.Option.{is_some}
use Rattle.std.specs.Fmt.{decimal}
use Rattle.symmetric_sums.specs.Terms.{terms_of}
use Rattle.presentation_text.specs.declared.document.Document.{Document}
use Rattle.presentation_text.specs.declared.document.OrderName.{OrderName}
use Rattle.presentation_text.specs.declared.document.OrderName.TheVariants.{Path, PathShort, LeafPath, WeightPath}
use Rattle.presentation_text.specs.declared.lexing.Token.TheVariants.{Word, Number}
use Rattle.presentation_text.specs.DocumentText.{line_of, order_word, generators_text, relation_text, ask_text, document_text}
use Rattle.presentation_text.specs.Grammar.{numbered_tokens, a_field, an_order, DocumentsAreAccepted}
use Rattle.presentation_text.specs.LineReadings.{Contents, contents_by_header, order_named}
use Rattle.presentation_text.specs.Lines.{HasNoFeed, lines}
use Rattle.presentation_text.specs.ReadBack.{IsWritable, HaveSameContents, IsReadBack}
use Rattle.presentation_text.specs.Tokens.{IsWord, tokens}
use Rattle.presentation_text.proofs.LineTexts.{no_feed-word, no_feed-decimal}
use Rattle.presentation_text.proofs.PrintedDocuments.{field_small, reach-relations, reach-asks}
use Rattle.presentation_text.proofs.PrintedGenerators.{MayPrint, tokens-number}
use Rattle.presentation_text.proofs.PrintedStages.{Reach, numbered-first, reach-line, stage, with_field, IsVersion, stands-field, stands-order}
use Rattle.presentation_text.proofs.PrintedTables.{MayWeigh, reach-generators, regroup}
use Rattle.presentation_text.proofs.TreeTokens.{name_of-is}
use Rattle.presentation_text.proofs.PrintedSums.{small_prime}
use Rattle.presentation_text.proofs.LineReadingsField.{prime_is}

-- ---- the opening

order_is_named : (version : ℕ) (order : OrderName) → (version ≡ 2) ⊎ (order ≢ WeightPath) → order_named version (order_word order) ≡ Some order
order_is_named version Path h = refl
order_is_named version PathShort h = refl
order_is_named version LeafPath h = refl
order_is_named version WeightPath h = ⊎_elim (λ two. ap (λ v. order_named v (codes "weightpath")) two) (λ other. absurd (other refl)) h

tokens-order : (order : OrderName) → tokens (order_word order) ≡ Word (order_word order) ∷ []
tokens-order Path = refl
tokens-order PathShort = refl
tokens-order LeafPath = refl
tokens-order WeightPath = refl

no_feed-order : (order : OrderName) → HasNoFeed (order_word order)
no_feed-order Path = no_feed-word (order_word Path) (refl, refl)
no_feed-order PathShort = no_feed-word (order_word PathShort) (refl, refl)
no_feed-order LeafPath = no_feed-word (order_word LeafPath) (refl, refl)
no_feed-order WeightPath = no_feed-word (order_word WeightPath) (refl, refl)

module _ (document : Document) (formed : IsWritable document) where
  abbrev version : ℕ
  version = document.version

  is_version : IsVersion version
  is_version = ⊎_elim (λ two. inr two) (λ one. inl one.0) formed.version

  generators_may : All (MayPrint version) document.gens
  generators_may k d l = record {
    word = subst IsWord (name_of-is document.gens k d l) (formed.words k l);
    short = formed.short k d l;
    arity = formed.table.arities k d l;
    sizes = formed.table.sizes k d l;
    whole = ⊎_elim (λ two. inl two) (λ one. inr (one.0, one.1.one_part k d l)) formed.version;
  }

  weights_may : All (MayWeigh version) document.weights
  weights_may k d l = record { small = formed.small k d l; two = ⊎_elim (λ two. inl two) (λ one. inr (one.1.no_weights k d l)) formed.version }

  abbrev P : Contents → Type 0
  P contents = HaveSameContents contents document

  abbrev asks_text : List ℕ
  asks_text = flat_map (λ ask. ask_text document.field document.gens ask.kind) document.asks

  abbrev relations_text : List ℕ
  relations_text = flat_map (λ sum. relation_text document.field document.gens (terms_of sum)) document.rels

  -- the lines behind the order lead to what the document says
  reach-body : (n : ℕ) → Reach P (stage version document.field document.order [] [] [] [] 3) (numbered_tokens n (lines (generators_text version document.gens document.weights ++ (relations_text ++ asks_text))))
  reach-body n =
      reach-generators P version document.field document.order is_version (relations_text ++ asks_text) n [] document.gens [] document.weights 3 (omega arith) formed.table refl formed.weights generators_may weights_may
      (λ m t ws early weights.
      reach-relations document.field document.gens formed.field formed.table formed.words P version document.order ws is_version asks_text m [] document.rels t (omega (arith, early)) (omega (arith, formed.few)) formed.relations
      (λ k s late.
      reach-asks document.field document.gens formed.field formed.table formed.words P version document.order ws is_version (map terms_of document.rels) k [] document.asks s (omega (arith, late)) formed.asks
      (λ u all kinds. record { version_is = refl; field_is = refl; order_is = refl; generators_are = refl; weights_are = weights; relations_are = refl; asks_are = kinds })))

  -- the text behind the header
  abbrev behind_header : List ℕ
  behind_header =
      line_of (codes "field") (decimal document.field ∷ [])
      ++ (line_of (codes "order") (order_word document.order ∷ []) ++ (generators_text version document.gens document.weights ++ (relations_text ++ asks_text)))

  -- its lines lead there too
  reach-field : Reach P (contents_by_header version) (numbered_tokens 2 (lines behind_header))
  reach-field =
      let p = document.field in
      let order = document.order in
      let small = small_prime p formed.field in
      let known : (version ≡ 2) ⊎ (order ≢ WeightPath) = ⊎_elim (λ two. inl two) (λ one. inr one.1.no_weight_order) formed.version in
      reach-line P (contents_by_header version) (with_field version p) 2 (codes "field") (decimal p ∷ []) _ (Word (codes "field") ∷ (Number p ∷ [])) (refl, refl) (no_feed-word (codes "field") (refl, refl))
      (no_feed-decimal p (field_small p formed.field), tt) (ap (λ ts. Word (codes "field") ∷ (ts ++ [])) (tokens-number p small)) (stands-field version is_version (Number p ∷ []))
      (a_field p (prime_is p formed.field))
      (reach-line P (with_field version p) (stage version p order [] [] [] [] 3) 3 (codes "order") (order_word order ∷ []) _ (Word (codes "order") ∷ (Word (order_word order) ∷ [])) (refl, refl)
      (no_feed-word (codes "order") (refl, refl)) (no_feed-order order, tt) (ap (λ ts. Word (codes "order") ∷ (ts ++ [])) (tokens-order order)) (stands-order version p is_version (Word (order_word order) ∷ []))
      (an_order (order_word order) order (order_is_named version order known)) (reach-body 4))

  small_version : version < 10 ^ 18
  small_version = ⊎_elim (λ one. omega (arith, one)) (λ two. omega (arith, two)) is_version

  pub printed_document : DocumentsAreAccepted → IsReadBack document
  printed_document accepted =
      let reach = reach-field in
      let header = Word (codes "operad") ∷ (Number version ∷ []) in
      let split =
      ap (λ xs. numbered_tokens 1 (lines xs)) (regroup (line_of (codes "operad") (decimal version ∷ [])) (line_of (codes "field") (decimal document.field ∷ [])) (line_of (codes "order") (order_word document.order ∷ []))
      (generators_text version document.gens document.weights ++ (relations_text ++ asks_text)))
      ∙ numbered-first 1 (codes "operad") (decimal version ∷ []) behind_header header (refl, refl) (no_feed-word (codes "operad") (refl, refl)) (no_feed-decimal version (let s = small_version in omega (arith, s)), tt)
      (ap (λ ts. Word (codes "operad") ∷ (ts ++ [])) (tokens-number version small_version)) in
      record {
        contents = reach.end;
        reading_is = (accepted (document_text document) (record { contents = reach.end; tail = None })).1 (record {
          first = 1;
          version = version;
          presentation = numbered_tokens 2 (lines behind_header);
          behind = [];
          lines_are = split ∙ ap (λ xs. (1, header) ∷ xs) (sym (append-nil (numbered_tokens 2 (lines behind_header))));
          version_is = is_version;
          say = reach.say;
          ends = (subst (λ f. IsTrue (is_some f)) (sym reach.holds.field_is) refl, subst (λ o. IsTrue (is_some o)) (sym reach.holds.order_is) refl, refl);
        });
        again = reach.holds;
      }
