-- A text is read in one way: documents and blocks that are read from it are the same in all that a run asks of them.
use Rattle.std.proofs.Common.{◌≡◌, ℕ, List, [], ◌∷◌, ◌++◌, length, map, drop, Option, Some, None, Result, Ok, Err, refl, ap, ap₂, sym, ◌∙◌, subst, arith}
use Rattle.labelled_trees.specs.Trees.{Tree}
use Rattle.labelled_trees.specs.Meaning.{tree_of}
use Rattle.labelled_trees.proofs.ProgramTrees.{one_to_one}
use Rattle.symmetric_sums.specs.Terms.{terms_of}
use Rattle.symmetric_sums.specs.declared.term.Term.{Term}
use Rattle.symmetric_sums.specs.declared.instance.Instance.{Instance}
use Rattle.presentation_text.specs.declared.document.Ask.{Ask}
use Rattle.presentation_text.specs.declared.document.AskKind.{AskKind}
use Rattle.presentation_text.specs.declared.document.AskKind.TheVariants.{Query, Same}
use Rattle.presentation_text.specs.declared.document.Document.{Document}
use Rattle.presentation_text.specs.declared.document.Tail.{Tail}
use Rattle.presentation_text.specs.DocumentReadings.{LineFault, Whole, read_text}
use Rattle.presentation_text.specs.DraftReadings.{asked, asked_kind}
use Rattle.presentation_text.specs.LineReadings.{Asked}
use Rattle.presentation_text.specs.Lines.{lines}
use Rattle.presentation_text.specs.Presentations.{IsReadAs, IsTailOfText}
use Rattle.certificate_text.specs.BlockReadings.{Base, between, blocks_from, base_of, read_tail}
use Rattle.certificate_text.specs.Plain.{PlainBlock, plain_use, plain_step, plain_block}
use Rattle.certificate_text.specs.Tails.{AreReadAs}
use Rattle.certificate_text.specs.declared.block.Block.{Block}
use Rattle.certificate_text.specs.declared.block.Step.{Step}

-- ---- what is said alike is the same

pub same_by : {X Y : Type 0} (f : X → Y) → ((x y : X) → f x ≡ f y → x ≡ y) → (xs ys : List X) → map f xs ≡ map f ys → xs ≡ ys
same_by f apart [] [] e = refl
same_by f apart [] (y ∷ ys) e = cc
same_by f apart (x ∷ xs) [] e = cc
same_by f apart (x ∷ xs) (y ∷ ys) e =
    let first : f x ≡ f y = cc in
    let further : map f xs ≡ map f ys = cc in
    ap₂ (λ z zs. z ∷ zs) (apart x y first) (same_by f apart xs ys further)

abbrev plain_term : Term → ℕ × Tree ℕ
plain_term x = (x.coef, tree_of x.tree)

term_apart : (x y : Term) → plain_term x ≡ plain_term y → x ≡ y
term_apart x y e =
    let coef : x.coef ≡ y.coef = ap (λ (z : ℕ × Tree ℕ). z.0) e in
    let tree : tree_of x.tree ≡ tree_of y.tree = ap (λ (z : ℕ × Tree ℕ). z.1) e in
    ap₂ (λ c t. record { coef = c; tree = t }) coef (one_to_one x.tree y.tree tree)

pub terms_apart : (xs ys : List Term) → terms_of xs ≡ terms_of ys → xs ≡ ys
terms_apart xs ys e = same_by plain_term term_apart xs ys e

use_apart : (x y : Instance) → plain_use x ≡ plain_use y → x ≡ y
use_apart x y e =
    let coef = ap (λ u. u.coef) e in
    let context = one_to_one x.context y.context (ap (λ u. u.context) e) in
    let rule = ap (λ u. u.rule) e in
    let inputs = same_by tree_of one_to_one x.inputs y.inputs (ap (λ u. u.inputs) e) in
    ap (λ c. record { coef = c; context = x.context; rule = x.rule; inputs = x.inputs }) coef
    ∙ ap (λ c. record { coef = y.coef; context = c; rule = x.rule; inputs = x.inputs }) context
    ∙ ap₂ (λ r i. record { coef = y.coef; context = y.context; rule = r; inputs = i }) rule inputs

step_apart : (x y : Step) → plain_step x ≡ plain_step y → x ≡ y
step_apart x y e =
    ap₂ (λ d us. record { element = d; uses = us }) (terms_apart x.element y.element (ap (λ s. s.element) e)) (same_by plain_use use_apart x.uses y.uses (ap (λ s. s.uses) e))

block_apart : (x y : Block) → plain_block x ≡ plain_block y → x ≡ y
block_apart x y e =
    ap₂ (λ w ss. record { want = w; steps = ss }) (terms_apart x.want y.want (ap (λ b. b.want) e)) (same_by plain_step step_apart x.steps y.steps (ap (λ b. b.steps) e))

kind_apart : (x y : AskKind) → asked_kind x ≡ asked_kind y → x ≡ y
kind_apart (Query d) (Query e) h = let sums : terms_of d ≡ terms_of e = cc in ap Query (terms_apart d e sums)
kind_apart (Query d) (Same e f) h = cc
kind_apart (Same d e) (Query f) h = cc
kind_apart (Same a b) (Same d e) h =
    let left : terms_of a ≡ terms_of d = cc in
    let right : terms_of b ≡ terms_of e = cc in
    ap₂ Same (terms_apart a d left) (terms_apart b e right)

ask_apart : (x y : Ask) → asked x ≡ asked y → x ≡ y
ask_apart x y e =
    let line : x.line ≡ y.line = ap (λ (z : ℕ × Asked). z.0) e in
    let kind : asked_kind x.kind ≡ asked_kind y.kind = ap (λ (z : ℕ × Asked). z.1) e in
    ap₂ (λ l k. record { line = l; kind = k }) line (kind_apart x.kind y.kind kind)

-- ---- the tails of documents that are read from one text

cancel_fronts : {X : Type 0} (xs ys a b : List X) → length xs ≡ length ys → xs ++ a ≡ ys ++ b → a ≡ b
cancel_fronts [] [] a b l e = e
cancel_fronts [] (y ∷ ys) a b l e = absurd (omega (arith, l))
cancel_fronts (x ∷ xs) [] a b l e = absurd (omega (arith, l))
cancel_fronts (x ∷ xs) (y ∷ ys) a b l e = let further : xs ++ a ≡ ys ++ b = cc in cancel_fronts xs ys a b (omega (arith, l)) further

-- what is read of a tail over some ground
abbrev tail_over : List ℕ → Base → Option Tail → Result (List PlainBlock) LineFault
tail_over bytes ground None = Ok []
tail_over bytes ground (Some tail) = blocks_from ground (between, []) tail.line (lines (drop tail.from bytes))

over_ground : (bytes : List ℕ) (document : Document) (tail : Option Tail) → read_tail bytes document tail ≡ tail_over bytes (base_of document) tail
over_ground bytes document None = refl
over_ground bytes document (Some tail) = refl

same_tail : (bytes : List ℕ) (ground : Base) (number : Option ℕ) (tail other : Option Tail) → IsTailOfText bytes number tail → IsTailOfText bytes number other
    → tail_over bytes ground tail ≡ tail_over bytes ground other
same_tail bytes ground None tail other h g = ap (tail_over bytes ground) (h ∙ sym g)
same_tail bytes ground (Some n) None other h g = absurd h
same_tail bytes ground (Some n) (Some t) None h g = absurd g
same_tail bytes ground (Some n) (Some t) (Some u) h g =
    let len : length h.before ≡ length g.before = omega (arith, h.number_is, g.number_is) in
    let left = cancel_fronts h.before g.before (lines (drop t.from bytes)) (lines (drop u.from bytes)) len (sym h.lines_are ∙ g.lines_are) in
    ap₂ (λ n ls. blocks_from ground (between, []) n ls) (h.line_is ∙ sym g.line_is) left

-- a tail stands where one was read, and only there
pub tail_or_none : (bytes : List ℕ) (number : Option ℕ) (tail : Option Tail) (other : Tail) → IsTailOfText bytes number tail → tail ≡ None → IsTailOfText bytes number (Some other) → ⊥
tail_or_none bytes None tail other h e g = cc
tail_or_none bytes (Some n) None other h e g = absurd h
tail_or_none bytes (Some n) (Some t) other h e g = cc

-- ---- documents

ok_once : {X E : Type 0} (r : Result X E) (x y : X) → r ≡ Ok x → r ≡ Ok y → x ≡ y
ok_once (Ok z) x y e f = cc
ok_once (Err z) x y e f = cc

ok_or_err : {X E : Type 0} (r : Result X E) (x : X) (y : E) → r ≡ Ok x → r ≡ Err y → ⊥
ok_or_err (Ok z) x y e f = cc
ok_or_err (Err z) x y e f = cc

err_once : {X E : Type 0} (r : Result X E) (x y : E) → r ≡ Err x → r ≡ Err y → x ≡ y
err_once (Ok z) x y e f = cc
err_once (Err z) x y e f = cc

pub read_once : (bytes : List ℕ) (whole other : Whole) → read_text bytes ≡ Ok whole → read_text bytes ≡ Ok other → whole ≡ other
read_once bytes whole other h g = ok_once (read_text bytes) whole other h g

pub never_refused : (bytes : List ℕ) (whole : Whole) (fault : LineFault) → read_text bytes ≡ Ok whole → read_text bytes ≡ Err fault → ⊥
never_refused bytes whole fault h g = ok_or_err (read_text bytes) whole fault h g

pub refused_once : (bytes : List ℕ) (one other : LineFault) → read_text bytes ≡ Err one → read_text bytes ≡ Err other → one ≡ other
refused_once bytes one other h g = err_once (read_text bytes) one other h g

some_apart : {X : Type 0} (x y : X) → Some x ≡ Some y → x ≡ y
some_apart x y e = cc

-- The documents are the same in all but the place of the tail.
pub record AreSame (document other : Document) : Type 0 where
  pub version : document.version ≡ other.version
  pub field : document.field ≡ other.field
  pub generators : document.gens ≡ other.gens
  pub relations : document.rels ≡ other.rels
  pub asks : document.asks ≡ other.asks

module _ (bytes : List ℕ) (document other : Document) (h : IsReadAs bytes document) (g : IsReadAs bytes other) where
  whole : h.whole ≡ g.whole
  whole = read_once bytes h.whole g.whole h.reading_is g.reading_is

  pub same_documents : AreSame document other
  same_documents = record {
    version = h.says.version_is ∙ ap (λ w. w.contents.version) whole ∙ sym g.says.version_is;
    field = some_apart document.field other.field (sym h.says.field_is ∙ ap (λ w. w.contents.field) whole ∙ g.says.field_is);
    generators = h.says.generators_are ∙ ap (λ w. w.contents.generators) whole ∙ sym g.says.generators_are;
    relations = same_by terms_of terms_apart document.rels other.rels (h.says.relations_are ∙ ap (λ w. w.contents.relations) whole ∙ sym g.says.relations_are);
    asks = same_by asked ask_apart document.asks other.asks (h.says.asks_are ∙ ap (λ w. w.contents.asks) whole ∙ sym g.says.asks_are);
  }

  grounds : base_of document ≡ base_of other
  grounds =
      ap (λ v. record { version = v; p = document.field; generators = document.gens }) same_documents.version
      ∙ ap₂ (λ p gs. record { version = other.version; p = p; generators = gs }) same_documents.field same_documents.generators

  -- their tails are read alike
  pub same_tails : read_tail bytes document document.tail ≡ read_tail bytes other other.tail
  same_tails =
      over_ground bytes document document.tail ∙ ap (λ ground. tail_over bytes ground document.tail) grounds
      ∙ same_tail bytes (base_of other) g.whole.tail document.tail other.tail (subst (λ w. IsTailOfText bytes w.tail document.tail) whole h.tail_is) g.tail_is
      ∙ sym (over_ground bytes other other.tail)

  -- a tail of the one is a tail of the other
  pub same_tail_lines : (tail turned : Tail) → document.tail ≡ Some tail → other.tail ≡ Some turned → tail.line ≡ turned.line
  same_tail_lines tail turned e f = go g.whole.tail (subst (λ t. IsTailOfText bytes g.whole.tail t) e (subst (λ w. IsTailOfText bytes w.tail document.tail) whole h.tail_is)) (subst (λ t. IsTailOfText bytes g.whole.tail t) f g.tail_is)
    where
      go : (number : Option ℕ) → IsTailOfText bytes number (Some tail) → IsTailOfText bytes number (Some turned) → tail.line ≡ turned.line
      go None a b = cc
      go (Some n) a b = a.line_is ∙ sym b.line_is

  pub no_tail_once : (turned : Tail) → document.tail ≡ None → other.tail ≡ Some turned → ⊥
  no_tail_once turned e f =
      tail_or_none bytes g.whole.tail document.tail turned (subst (λ w. IsTailOfText bytes w.tail document.tail) whole h.tail_is) e (subst (λ t. IsTailOfText bytes g.whole.tail t) f g.tail_is)

  -- the blocks of the one are those of the other
  pub same_blocks : (blocks others : List Block) → AreReadAs bytes document blocks → AreReadAs bytes other others → blocks ≡ others
  same_blocks blocks others r s =
      same_by plain_block block_apart blocks others (ok_once (read_tail bytes other other.tail) (map plain_block blocks) (map plain_block others) (sym same_tails ∙ r) s)

  -- tails aren't read and refused
  pub blocks_or_fault : (blocks : List Block) (fault : LineFault) → AreReadAs bytes document blocks → read_tail bytes other other.tail ≡ Err fault → ⊥
  blocks_or_fault blocks fault r f = ok_or_err (read_tail bytes other other.tail) (map plain_block blocks) fault (sym same_tails ∙ r) f
