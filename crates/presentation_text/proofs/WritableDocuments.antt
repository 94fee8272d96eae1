-- A document that was read is writable.
use Rattle.std.proofs.Common.{◌≡◌, ℕ, zero, suc, ◌-◌, ◌%◌, ◌<◌, ◌≤◌, inl, inr, ⊎_elim, true, false, Bool, ◌==◌, if◌then◌else◌, List, [], ◌∷◌, length, map, Option, Some, None, refl, ap, sym, ◌∙◌, subst, arith}
use Rattle.std.specs.List.{All}
use Rattle.std.proofs.lemmas.Bool.Decides.{nat_tests}
use Rattle.std.proofs.lemmas.List.{length-map}
use Rattle.std.proofs.lemmas.List.Elements.{All-nil, All-cons, All-head, All-tail, All-weaker}
use Rattle.prime_field.specs.Primes.{IsFieldPrime}
use Rattle.prime_field.proofs.Primes.{field_prime}
use Rattle.labelled_trees.specs.Trees.{Tree}
use Rattle.labelled_trees.specs.Leaves.{leaf_count}
use Rattle.labelled_trees.proofs.Counts.{leaf_count-labelled}
use Rattle.operad_ideals.specs.Laws.{arity}
use Rattle.symmetric_trees.specs.Generators.{IsTable, parts_at}
use Rattle.symmetric_trees.specs.declared.generators.Generator.{Generator}
use Rattle.symmetric_sums.specs.Terms.{terms_of}
use Rattle.presentation_text.specs.declared.document.AskKind.{AskKind}
use Rattle.presentation_text.specs.declared.document.AskKind.TheVariants.{Query, Same}
use Rattle.presentation_text.specs.declared.document.Document.{Document}
use Rattle.presentation_text.specs.Accepted.{AreDemanded, ElementsAreAccepted}
use Rattle.presentation_text.specs.DraftReadings.{asked, asked_kind}
use Rattle.presentation_text.specs.ElementReadings.{arity_of_first}
use Rattle.presentation_text.specs.Elements.{Written, IsElementTree, residue, written_sum}
use Rattle.presentation_text.specs.LineReadings.{Contents, prime_of}
use Rattle.presentation_text.specs.Presentations.{HasContents, weight_or_none}
use Rattle.presentation_text.specs.PrintedElements.{IsWrittenTerm, IsWrittenOver}
use Rattle.presentation_text.specs.ReadBack.{IsWrittenRelation, IsWrittenAsk, IsOfVersionOne, IsWritable, ReadDocumentsAreWritable}
use Rattle.presentation_text.specs.TreeText.{HasWords}
use Rattle.presentation_text.specs.WellFormed.{IsAsked, IsGeneratorName, IsWrittenAs, IsWholeWellFormed}
use Rattle.presentation_text.proofs.ContentsLines.{documents_well}

-- ---- what holds of each thing and of each image

all_images : {X Y : Type 0} (f : X → Y) (P : Y → Type 0) (xs : List X) → All (λ x. P (f x)) xs → All P (map f xs)
all_images f P [] h = All-nil P
all_images f P (x ∷ xs) h = All-cons P (f x) (map f xs) (All-head (λ y. P (f y)) x xs h) (all_images f P xs (All-tail (λ y. P (f y)) x xs h))

all_before : {X Y : Type 0} (f : X → Y) (P : Y → Type 0) (xs : List X) → All P (map f xs) → All (λ x. P (f x)) xs
all_before f P [] h = All-nil (λ x. P (f x))
all_before f P (x ∷ xs) h = All-cons (λ y. P (f y)) x xs (All-head P (f x) (map f xs) h) (all_before f P xs (All-tail P (f x) (map f xs) h))

-- ---- what terms say

below : (b : Bool) (p n : ℕ) → 0 < p → (if b then (p - n % p) % p else n % p) < p
below true p n positive = omega (arith, positive)
below false p n positive = omega (arith, positive)

kept : (b : Bool) (p : ℕ) (generators : List Generator) (n : ℕ) (x : ℕ × Tree ℕ) (e : List (ℕ × Tree ℕ)) → (b ≡ false → IsWrittenTerm p generators n x) → IsWrittenOver p generators n e
    → IsWrittenOver p generators n (if b then e else x ∷ e)
kept true p generators n x e h all = all
kept false p generators n x e h all = All-cons (IsWrittenTerm p generators n) x e (h refl) all

-- what terms of one arity say may be said
pub said_over : (p : ℕ) (generators : List Generator) (n : ℕ) (terms : List Written) → 0 < p → All (λ term. IsElementTree generators n term.tree) terms → IsWrittenOver p generators n (written_sum p terms)
said_over p generators n [] positive h = All-nil (IsWrittenTerm p generators n)
said_over p generators n (term ∷ terms) positive h =
    let c = residue p term in
    kept (c == 0) p generators n (c, term.tree) (written_sum p terms)
    (λ some. record { nonzero = grind (arith, nat_tests); residue = below term.negative p _ positive; tree = All-head (λ (x : Written). IsElementTree generators n x.tree) term terms h })
    (said_over p generators n terms positive (All-tail (λ (x : Written). IsElementTree generators n x.tree) term terms h))

-- ---- relations and questions

-- a sum that is said, with the arity of its terms, at least so many leaves, and the arity that is known
record IsSaidWith (p : ℕ) (generators : List Generator) (least : ℕ) (known : Option ℕ) (terms : List Written) : Type 0 where
  n : ℕ
  written_so : IsWrittenOver p generators n (written_sum p terms)
  enough : least ≤ n
  same_arity : (m : ℕ) → known ≡ Some m → n ≡ m

said_with : (p : ℕ) (generators : List Generator) (least n : ℕ) (known : Option ℕ) (terms : List Written) → 0 < p → least ≤ n → ((m : ℕ) → known ≡ Some m → n ≡ m)
    → AreDemanded generators least known terms → IsSaidWith p generators least known terms
said_with p generators least n known [] positive enough same h = record { n = n; written_so = All-nil (IsWrittenTerm p generators n); enough = enough; same_arity = same }
said_with p generators least n known (term ∷ terms) positive enough same h =
    record { n = h.n; written_so = said_over p generators h.n (term ∷ terms) positive h.trees; enough = h.least_is; same_arity = h.arity_is }

said_relation : (p : ℕ) (generators : List Generator) (e : List (ℕ × Tree ℕ)) → 0 < p → IsWrittenAs p generators 2 None e → IsWrittenRelation p generators e
said_relation p generators e positive h =
    let w = said_with p generators 2 2 None h.terms positive (omega arith) (λ m e. cc) h.demanded in
    (w.n, w.enough, subst (IsWrittenOver p generators w.n) (sym h.sum_is) w.written_so)

-- the arity of the first tree, or some number where no tree is written
first_or : ℕ → List Written → ℕ
first_or n [] = n
first_or n (term ∷ terms) = leaf_count term.tree

said_pair : (p : ℕ) (generators : List Generator) (terms others : List Written) → 0 < p → AreDemanded generators 1 None terms → AreDemanded generators 1 (arity_of_first terms) others
    → (n : ℕ) × IsWrittenOver p generators n (written_sum p terms) × IsWrittenOver p generators n (written_sum p others)
said_pair p generators [] others positive h g =
    let w = said_with p generators 1 1 None others positive (omega arith) (λ m e. cc) g in
    (w.n, All-nil (IsWrittenTerm p generators w.n), w.written_so)
said_pair p generators (term ∷ terms) others positive h g =
    let first : leaf_count term.tree ≡ h.n = leaf_count-labelled (arity (parts_at generators)) h.n term.tree (All-head (λ (x : Written). IsElementTree generators h.n x.tree) term terms h.trees).labelled in
    let w = said_with p generators 1 h.n (Some (leaf_count term.tree)) others positive h.least_is (λ m e. let same : leaf_count term.tree ≡ m = cc in sym first ∙ same) g in
    let one : w.n ≡ h.n = w.same_arity (leaf_count term.tree) refl ∙ first in
    (h.n, said_over p generators h.n (term ∷ terms) positive h.trees, subst (λ n. IsWrittenOver p generators n (written_sum p others)) one w.written_so)

said_ask : (p : ℕ) (generators : List Generator) (kind : AskKind) → 0 < p → IsAsked p generators (asked_kind kind) → IsWrittenAsk p generators kind
said_ask p generators (Query sum) positive h =
    let w = said_with p generators 1 1 None h.terms positive (omega arith) (λ m e. cc) h.demanded in
    (w.n, subst (IsWrittenOver p generators w.n) (sym h.sum_is) w.written_so)
said_ask p generators (Same left right) positive h =
    let w = said_pair p generators h.first.terms h.second.terms positive h.first.demanded h.second.demanded in
    (w.0, subst (IsWrittenOver p generators w.0) (sym h.first.sum_is) w.1, subst (IsWrittenOver p generators w.0) (sym h.second.sum_is) w.2)

-- ---- names

has_words : (generators : List Generator) → All (λ generator. IsGeneratorName generator.name) generators → HasWords generators
has_words [] h g l = absurd (omega (arith, l))
has_words (x ∷ xs) h zero l = (All-head (λ (generator : Generator). IsGeneratorName generator.name) x xs h).word
has_words (x ∷ xs) h (suc g) l = has_words xs (All-tail (λ (generator : Generator). IsGeneratorName generator.name) x xs h) g (omega (arith, l))

-- ---- documents

light : (weight : Option ℕ) → ((n : ℕ) → weight ≡ Some n → n ≤ 1000000) → weight_or_none weight ≤ 1000000
light None h = omega arith
light (Some n) h = h n refl

module _ (contents : Contents) (document : Document) (whole : IsWholeWellFormed contents) (says : HasContents contents document) where
  prime : IsFieldPrime document.field
  prime = whole.well.field_is document.field says.field_is

  positive : 0 < document.field
  positive = let above = (field_prime document.field prime).above_one in omega (arith, above)

  field_of : prime_of contents.field ≡ document.field
  field_of = ap prime_of says.field_is

  old : contents.version ≡ 1 → IsOfVersionOne document
  old one = record {
    one_part = subst (All (λ generator. length generator.parts ≡ 1)) (sym says.generators_are) (whole.well.generators.one_part one);
    no_weights =
        subst (All (λ weight. weight ≡ 0)) (sym says.weights_are)
        (all_images weight_or_none (λ weight. weight ≡ 0) contents.weights (All-weaker (λ weight. weight ≡ None) (λ weight. weight_or_none weight ≡ 0) (λ weight none. ap weight_or_none none) contents.weights (whole.well.weights.unweighed one)));
    no_weight_order = λ order. let two = whole.well.order_is (says.order_is ∙ ap Some order) in omega (arith, one, two);
  }

  pub written_document : IsWritable document
  written_document =
      let p = document.field in
      let gens = document.gens in
      let relations =
      subst (λ rels. All (IsWrittenAs p gens 2 None) rels) (sym says.relations_are)
      (subst (λ gs. All (IsWrittenAs p gs 2 None) contents.relations) (sym says.generators_are) (subst (λ q. All (IsWrittenAs q contents.generators 2 None) contents.relations) field_of whole.well.relations.written_so)) in
      let asks =
      subst (λ all. All (λ ask. IsAsked p gens ask.1) all) (sym says.asks_are)
      (subst (λ gs. All (λ ask. IsAsked p gs ask.1) contents.asks) (sym says.generators_are) (subst (λ q. All (λ ask. IsAsked q contents.generators ask.1) contents.asks) field_of whole.well.asks.asked_so)) in
      record {
        version = ⊎_elim (λ one. inr (says.version_is ∙ one, old one)) (λ two. inl (says.version_is ∙ two)) whole.well.version_is;
        field = prime;
        table = subst IsTable (sym says.generators_are) whole.well.generators.table;
        words = subst HasWords (sym says.generators_are) (has_words contents.generators whole.well.generators.names);
        short = subst (All (λ generator. length generator.name ≤ 16)) (sym says.generators_are)
            (All-weaker (λ (generator : Generator). IsGeneratorName generator.name) (λ generator. length generator.name ≤ 16) (λ generator h. h.short) contents.generators whole.well.generators.names);
        weights = ap (λ (xs : List ℕ). length xs) says.weights_are ∙ length-map contents.weights weight_or_none ∙ whole.well.weights.places ∙ ap (λ (gs : List Generator). length gs) (sym says.generators_are);
        small = subst (All (λ weight. weight ≤ 1000000)) (sym says.weights_are)
            (all_images weight_or_none (λ weight. weight ≤ 1000000) contents.weights
            (All-weaker (λ weight. (n : ℕ) → weight ≡ Some n → n ≤ 1000000) (λ weight. weight_or_none weight ≤ 1000000) light contents.weights whole.well.weights.small));
        few = let count = ap (λ (rs : List (List (ℕ × Tree ℕ))). length rs) says.relations_are in let len = length-map document.rels terms_of in omega (arith, count, len, whole.well.relations.few);
        relations = All-weaker (λ sum. IsWrittenAs p gens 2 None (terms_of sum)) (λ sum. IsWrittenRelation p gens (terms_of sum)) (λ sum h. said_relation p gens (terms_of sum) positive h) document.rels
            (all_before terms_of (IsWrittenAs p gens 2 None) document.rels relations);
        asks = All-weaker (λ ask. IsAsked p gens (asked_kind ask.kind)) (λ ask. IsWrittenAsk p gens ask.kind) (λ ask h. said_ask p gens ask.kind positive h) document.asks
            (all_before asked (λ ask. IsAsked p gens ask.1) document.asks asks);
      }

pub read_writable : ElementsAreAccepted → ReadDocumentsAreWritable
read_writable accepted bytes document h = written_document h.whole.contents document (documents_well accepted bytes h.whole h.reading_is) h.says
