-- Each line of a presentation is read exactly where the grammar has it.
use Rattle.std.proofs.Common.{◌≡◌, ◌<◌, ◌≤◌, ◌==◌, ℕ, suc, Bool, true, false, not, nat_le, nat_lt, codes, List, [], ◌∷◌, ◌++◌, length, Option, Some, None, Ok, Err, append-nil, arith, sym, ap, ◌∙◌, refl, subst}
use Rattle.std.specs.Prelude.{if◌then◌else◌}
use Rattle.std.proofs.lemmas.Bool.Decides.{Decides-eqb}
use Rattle.symmetric_trees.specs.Generators.{IsTable}
use Rattle.symmetric_trees.specs.declared.generators.Generator.{Generator}
use Rattle.presentation_text.specs.Accepted.{AreDemanded, ElementsAreAccepted, EndsBefore}
use Rattle.presentation_text.specs.Elements.{Written, element_tokens, written_sum}
use Rattle.presentation_text.specs.ElementReadings.{arity_of_first, element_in}
use Rattle.presentation_text.specs.Grammar.{LineAdds, a_field, an_order, a_generator, a_weight, a_relation, a_query, a_comparison, IsGeneratorLine}
use Rattle.presentation_text.specs.LineReadings.{Asked, Contents, field_line, gen_line, generator_in, is_prime, is_weighed, known, order_line, order_named, prime_of, query, query_in, query_line, rel_line, same, same_in, same_line, weight_line, weighed, with_ask, with_generator}
use Rattle.presentation_text.specs.Readings.{Fault, end_in, first_row, mark_in, number_in, refused, word_in}
use Rattle.presentation_text.specs.TreeReadings.{demands_of, index_of}
use Rattle.presentation_text.specs.declared.document.OrderName.{OrderName}
use Rattle.presentation_text.specs.declared.kinds.DocKind.TheVariants as kind
use Rattle.presentation_text.specs.declared.lexing.Token.{Token}
use Rattle.presentation_text.specs.declared.lexing.Token.TheVariants.{Word, Number, Long, Byte, Bad}
use Rattle.presentation_text.proofs.AcceptedParts.{end_read, generator_accepted, generator_told}
use Rattle.presentation_text.proofs.LineReadingsNumbers.{not_at_most, not_at_most_told, not_below, not_below_told, not_false_told}
use Rattle.presentation_text.proofs.LineReadingsRead.{both_read, not_refused, number_read, one_value, was_known, word_read}

-- a line adds the same where its tokens, and what it leads to, are the same
adds_as : (contents whole now : Contents) (number : ℕ) (word : List ℕ) (us ts : List Token) → ts ≡ us → whole ≡ now → LineAdds contents number (Word word ∷ us) whole → LineAdds contents number (Word word ∷ ts) now
adds_as contents whole now number word us ts e f h = subst (λ xs. LineAdds contents number (Word word ∷ xs) now) (sym e) (subst (LineAdds contents number (Word word ∷ us)) f h)

-- ---- the field and the order

pub field_adds : (contents now : Contents) (number : ℕ) (ts : List Token) → field_line contents ts ≡ Ok now → LineAdds contents number (Word (codes "field") ∷ ts) now
unfolding field_line
field_adds contents now number ts e =
    let n = both_read (number_in ts) _ now e in
    let p = (n.0).0 in
    let left = (n.0).1 in
    let end = both_read (refused (suc (length left)) (first_row ((not (is_prime p), kind.FieldUnknown) ∷ [])) (end_in left)) _ now n.2 in
    let out = not_refused (suc (length left)) (not (is_prime p)) kind.FieldUnknown (end_in left) end.0 end.1 in
    let whole : Contents = record contents { field = Some p; section = 2 } in
    adds_as contents whole now number (codes "field") (Number p ∷ []) ts (number_read ts n.0 n.1 ∙ ap (λ r. Number p ∷ r) (end_read left end.0 out.1)) (one_value (Ok whole) whole now refl end.2)
    (a_field p (not_false_told (is_prime p) out.0))

pub field_accepted : (contents : Contents) (p : ℕ) → is_prime p ≡ true → field_line contents (Number p ∷ []) ≡ Ok (record contents { field = Some p; section = 2 })
unfolding field_line
field_accepted contents p prime = rw prime refl

pub order_adds : (contents now : Contents) (number : ℕ) (ts : List Token) → order_line contents ts ≡ Ok now → LineAdds contents number (Word (codes "order") ∷ ts) now
unfolding order_line
order_adds contents now number ts e =
    let word = both_read (word_in ts) _ now e in
    let w = (word.0).0 in
    let left = (word.0).1 in
    let order = both_read (known (suc (length left)) kind.OrderUnknown (order_named contents.version w)) _ now word.2 in
    let end = both_read (end_in left) _ now order.2 in
    let whole : Contents = record contents { order = Some order.0; section = 3 } in
    adds_as contents whole now number (codes "order") (Word w ∷ []) ts (word_read ts word.0 word.1 ∙ ap (λ r. Word w ∷ r) (end_read left end.0 end.1)) (one_value (Ok whole) whole now refl end.2)
    (an_order w order.0 (was_known (suc (length left)) kind.OrderUnknown (order_named contents.version w) order.0 order.1))

pub order_accepted : (contents : Contents) (word : List ℕ) (order : OrderName) → order_named contents.version word ≡ Some order
    → order_line contents (Word word ∷ []) ≡ Ok (record contents { order = Some order; section = 3 })
unfolding order_line
order_accepted contents word order named = rw named refl

-- ---- generators and weights

pub gen_adds : (contents now : Contents) (number : ℕ) (ts : List Token) → gen_line contents ts ≡ Ok now → LineAdds contents number (Word (codes "gen") ∷ ts) now
unfolding gen_line
gen_adds contents now number ts e =
    let generator = both_read (generator_in contents.version contents.generators ts) _ now e in
    let whole : Contents = with_generator contents generator.0 in
    adds_as contents whole now number (codes "gen") ts ts refl (one_value (Ok whole) whole now refl generator.2) (a_generator ts generator.0 (generator_told contents ts generator.0 generator.1))

pub gen_accepted : (contents : Contents) (ts : List Token) (generator : Generator) → IsGeneratorLine contents ts generator → gen_line contents ts ≡ Ok (with_generator contents generator)
unfolding gen_line
gen_accepted contents ts generator h = rw (generator_accepted contents ts generator h) refl

pub weight_adds : (contents now : Contents) (number : ℕ) (ts : List Token) → weight_line contents ts ≡ Ok now → LineAdds contents number (Word (codes "weight") ∷ ts) now
unfolding weight_line
weight_adds contents now number ts e =
    let word = both_read (word_in ts) _ now e in
    let w = (word.0).0 in
    let left = (word.0).1 in
    let found = both_read (known (suc (length left)) kind.NameUnknown (index_of w contents.generators)) _ now word.2 in
    let g = found.0 in
    let number_is = both_read (refused (suc (length left)) (first_row ((is_weighed g contents.weights, kind.WeightTaken) ∷ [])) (number_in left)) _ now found.2 in
    let n = (number_is.0).0 in
    let rest = (number_is.0).1 in
    let free = not_refused (suc (length left)) (is_weighed g contents.weights) kind.WeightTaken (number_in left) number_is.0 number_is.1 in
    let end = both_read (refused (suc (length rest)) (first_row ((nat_lt 1000000 n, kind.WeightOut) ∷ [])) (end_in rest)) _ now number_is.2 in
    let out = not_refused (suc (length rest)) (nat_lt 1000000 n) kind.WeightOut (end_in rest) end.0 end.1 in
    let whole : Contents = record contents { weights = weighed g n contents.weights; section = 4 } in
    adds_as contents whole now number (codes "weight") (Word w ∷ (Number n ∷ [])) ts
    (word_read ts word.0 word.1 ∙ ap (λ r. Word w ∷ r) (number_read left number_is.0 free.1 ∙ ap (λ r. Number n ∷ r) (end_read rest end.0 out.1)))
    (one_value (Ok whole) whole now refl end.2)
    (a_weight w g n (was_known (suc (length left)) kind.NameUnknown (index_of w contents.generators) g found.1) free.0 (not_below_told 1000000 n out.0))

pub weight_accepted : (contents : Contents) (name : List ℕ) (g weight : ℕ) → index_of name contents.generators ≡ Some g → is_weighed g contents.weights ≡ false → weight ≤ 1000000
    → weight_line contents (Word name ∷ (Number weight ∷ [])) ≡ Ok (record contents { weights = weighed g weight contents.weights; section = 4 })
unfolding weight_line
weight_accepted contents name g weight named free small = rw (named, free, not_below 1000000 weight small) refl

-- ---- relations and questions

-- behind an element the line may end, and '=' may stand
pub ends_whole : (terms : List Written) → EndsBefore terms []
ends_whole [] = tt
ends_whole (term ∷ terms) = (tt, tt, λ _. tt)

pub not_other : (c d : ℕ) → (c ≡ d → ⊥) → Byte c ≡ Byte d → ⊥
not_other c d other e = let same : c ≡ d = cc in other same

ends_at_equals : (terms : List Written) (rest : List Token) → EndsBefore terms (Byte 61 ∷ rest)
ends_at_equals [] rest = not_other 61 42 (λ e. omega (arith, e))
ends_at_equals (term ∷ terms) rest = (not_other 61 43 (λ e. omega (arith, e)), not_other 61 45 (λ e. omega (arith, e)), λ _. not_other 61 42 (λ e. omega (arith, e)))

byte_chosen : (b : Bool) (d : ℕ) (others rest : List Token) (fault : Fault) → (d == 61) ≡ b → (if b then Ok others else Err fault) ≡ Ok rest → Byte d ∷ others ≡ Byte 61 ∷ rest
byte_chosen true d others rest fault is e = let same : d ≡ 61 = (Decides-eqb d 61).0 is in cc
byte_chosen false d others rest fault is e = absurd cc

equals_read : (ts rest : List Token) → mark_in 61 ts ≡ Ok rest → ts ≡ Byte 61 ∷ rest
equals_read [] rest e = absurd cc
equals_read (Byte d ∷ others) rest e = byte_chosen (d == 61) d others rest (suc (length others), kind.Syntax) refl e
equals_read (Word w ∷ others) rest e = absurd cc
equals_read (Number n ∷ others) rest e = absurd cc
equals_read (Long ∷ others) rest e = absurd cc
equals_read (Bad ∷ others) rest e = absurd cc

-- An element that was read up to some tokens.
record IsElement (generators : List Generator) (least : ℕ) (arity : Option ℕ) (ts rest : List Token) (terms : List Written) : Type 0 where
  tokens_are : ts ≡ element_tokens generators terms ++ rest
  demanded : AreDemanded generators least arity terms

module _ (accepted : ElementsAreAccepted) (generators : List Generator) (table : IsTable generators) where
  element_told : (least : ℕ) (arity : Option ℕ) (ts rest : List Token) (terms : List Written) → element_in generators (demands_of least arity) ts ≡ Ok (terms, rest) → IsElement generators least arity ts rest terms
  element_told least arity ts rest terms e = let h = (accepted generators table least arity ts rest terms).0 e in record { tokens_are = h.0; demanded = h.1 }

  -- to the end of the line
  whole_told : (least : ℕ) (arity : Option ℕ) (ts rest : List Token) (terms : List Written) (x : Unit {0}) → element_in generators (demands_of least arity) ts ≡ Ok (terms, rest) → end_in rest ≡ Ok x
      → (ts ≡ element_tokens generators terms) × AreDemanded generators least arity terms
  whole_told least arity ts rest terms x e f =
      let h = element_told least arity ts rest terms e in
      (h.tokens_are ∙ ap (λ r. element_tokens generators terms ++ r) (end_read rest x f) ∙ append-nil (element_tokens generators terms), h.demanded)

  whole_accepted : (least : ℕ) (arity : Option ℕ) (terms : List Written) → AreDemanded generators least arity terms → element_in generators (demands_of least arity) (element_tokens generators terms) ≡ Ok (terms, [])
  whole_accepted least arity terms h = (accepted generators table least arity (element_tokens generators terms) [] terms).1 (sym (append-nil (element_tokens generators terms)), h, ends_whole terms)

  -- up to '='
  side_accepted : (terms : List Written) (rest : List Token) → AreDemanded generators 1 None terms
      → element_in generators (demands_of 1 None) (element_tokens generators terms ++ Byte 61 ∷ rest) ≡ Ok (terms, Byte 61 ∷ rest)
  side_accepted terms rest h = (accepted generators table 1 None (element_tokens generators terms ++ Byte 61 ∷ rest) (Byte 61 ∷ rest) terms).1 (refl, h, ends_at_equals terms rest)

module _ (accepted : ElementsAreAccepted) (contents : Contents) (table : IsTable contents.generators) where
  pub rel_adds : (now : Contents) (number : ℕ) (ts : List Token) → rel_line contents ts ≡ Ok now → LineAdds contents number (Word (codes "rel") ∷ ts) now
  unfolding rel_line
  rel_adds now number ts e =
      let out = not_refused (suc (length ts)) (nat_le 1000 (length contents.relations)) kind.TooManyRelations _ now e in
      let element = both_read (element_in contents.generators (demands_of 2 None) ts) _ now out.1 in
      let terms = (element.0).0 in
      let end = both_read (end_in (element.0).1) _ now element.2 in
      let h = whole_told accepted contents.generators table 2 None ts (element.0).1 terms end.0 element.1 end.1 in
      let whole : Contents = record contents { relations = contents.relations ++ written_sum (prime_of contents.field) terms ∷ []; section = 5 } in
      adds_as contents whole now number (codes "rel") (element_tokens contents.generators terms) ts h.0 (one_value (Ok whole) whole now refl end.2)
      (a_relation terms (not_at_most_told 1000 (length contents.relations) out.0) h.1)

  pub rel_accepted : (terms : List Written) → length contents.relations < 1000 → AreDemanded contents.generators 2 None terms
      → rel_line contents (element_tokens contents.generators terms) ≡ Ok (record contents { relations = contents.relations ++ written_sum (prime_of contents.field) terms ∷ []; section = 5 })
  unfolding rel_line
  rel_accepted terms few h = rw (not_at_most 1000 (length contents.relations) few, whole_accepted accepted contents.generators table 2 None terms h) refl

  pub query_adds : (now : Contents) (number : ℕ) (ts : List Token) → query_line contents number ts ≡ Ok now → LineAdds contents number (Word (codes "query") ∷ ts) now
  unfolding query_line query_in
  query_adds now number ts e =
      let ask = both_read (query_in (prime_of contents.field) contents.generators ts) _ now e in
      let element = both_read (element_in contents.generators (demands_of 1 None) ts) _ ask.0 ask.1 in
      let terms = (element.0).0 in
      let end = both_read (end_in (element.0).1) _ ask.0 element.2 in
      let h = whole_told accepted contents.generators table 1 None ts (element.0).1 terms end.0 element.1 end.1 in
      let asked : Asked = query (written_sum (prime_of contents.field) terms) in
      let last : Contents = with_ask contents number ask.0 in
      adds_as contents (with_ask contents number asked) now number (codes "query") (element_tokens contents.generators terms) ts h.0
      (ap (with_ask contents number) (one_value (Ok asked) asked ask.0 refl end.2) ∙ one_value (Ok last) last now refl ask.2) (a_query terms h.1)

  pub query_accepted : (number : ℕ) (terms : List Written) → AreDemanded contents.generators 1 None terms
      → query_line contents number (element_tokens contents.generators terms) ≡ Ok (with_ask contents number (query (written_sum (prime_of contents.field) terms)))
  unfolding query_line query_in
  query_accepted number terms h = rw (whole_accepted accepted contents.generators table 1 None terms h) refl

  pub same_adds : (now : Contents) (number : ℕ) (ts : List Token) → same_line contents number ts ≡ Ok now → LineAdds contents number (Word (codes "same") ∷ ts) now
  unfolding same_line same_in
  same_adds now number ts e =
      let ask = both_read (same_in (prime_of contents.field) contents.generators ts) _ now e in
      let left = both_read (element_in contents.generators (demands_of 1 None) ts) _ ask.0 ask.1 in
      let terms = (left.0).0 in
      let rest = both_read (mark_in 61 (left.0).1) _ ask.0 left.2 in
      let right = both_read (element_in contents.generators (demands_of 1 (arity_of_first terms)) rest.0) _ ask.0 rest.2 in
      let others = (right.0).0 in
      let end = both_read (end_in (right.0).1) _ ask.0 right.2 in
      let one = element_told accepted contents.generators table 1 None ts (left.0).1 terms left.1 in
      let other = whole_told accepted contents.generators table 1 (arity_of_first terms) rest.0 (right.0).1 others end.0 right.1 end.1 in
      let front = element_tokens contents.generators terms in
      let back = element_tokens contents.generators others in
      let asked : Asked = same (written_sum (prime_of contents.field) terms) (written_sum (prime_of contents.field) others) in
      let last : Contents = with_ask contents number ask.0 in
      adds_as contents (with_ask contents number asked) now number (codes "same") (front ++ Byte 61 ∷ back) ts
      (one.tokens_are ∙ ap (λ r. front ++ r) (equals_read (left.0).1 rest.0 rest.1 ∙ ap (λ r. Byte 61 ∷ r) other.0))
      (ap (with_ask contents number) (one_value (Ok asked) asked ask.0 refl end.2) ∙ one_value (Ok last) last now refl ask.2) (a_comparison terms others one.demanded other.1)

  pub same_accepted : (number : ℕ) (terms others : List Written) → AreDemanded contents.generators 1 None terms → AreDemanded contents.generators 1 (arity_of_first terms) others
      → same_line contents number (element_tokens contents.generators terms ++ Byte 61 ∷ element_tokens contents.generators others)
      ≡ Ok (with_ask contents number (same (written_sum (prime_of contents.field) terms) (written_sum (prime_of contents.field) others)))
  unfolding same_line same_in
  same_accepted number terms others h k =
      rw (side_accepted accepted contents.generators table terms (element_tokens contents.generators others) h) (rw (whole_accepted accepted contents.generators table 1 (arity_of_first terms) others k) refl)
