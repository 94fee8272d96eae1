-- Reading the lines of a presentation: what may stand at each token, and what is refused.
use Rattle.std.specs.Prelude.{ℕ, zero, suc, ◌+◌, Bool, false, not, ◌&&◌, ◌||◌, ◌==◌, nat_le, nat_lt, if◌then◌else◌, List, [], ◌∷◌, ◌++◌, length, codes, Option, Some, None, Result, Ok, Err}
use Rattle.std.specs.Str.{bytes_eq}
use Rattle.std.specs.Option.{is_some}
use Rattle.labelled_trees.specs.Trees.{Tree}
use Rattle.symmetric_trees.specs.declared.generators.Generator.{Generator}
use Rattle.symmetric_trees.specs.declared.generators.Part.{Part}
use Rattle.symmetric_trees.specs.declared.generators.PartKind.{PartKind}
use Rattle.symmetric_trees.specs.declared.generators.PartKind.TheVariants.{Sym, Alt, Free}
use Rattle.presentation_text.specs.declared.document.OrderName.{OrderName}
use Rattle.presentation_text.specs.declared.document.OrderName.TheVariants.{Path, PathShort, LeafPath, WeightPath}
use Rattle.presentation_text.specs.declared.kinds.DocKind.{DocKind}
use Rattle.presentation_text.specs.declared.kinds.DocKind.TheVariants.{Directive, Missing, FieldUnknown, OrderUnknown, NameBad, NameTaken, ArityOut, PartsOut, TooManyGens, Syntax, NameUnknown, TooManyRelations, Block, WeightTaken, WeightOut}
use Rattle.presentation_text.specs.declared.lexing.Token.{Token}
use Rattle.presentation_text.specs.Elements.{written_sum}
use Rattle.presentation_text.specs.ElementReadings.{element_in, arity_of_first}
use Rattle.presentation_text.specs.Readings.{Fault, Reading, ◌>>=◌, first_row, refused, misfit, mark_in, end_in, number_in, word_in}
use Rattle.presentation_text.specs.TreeReadings.{index_of, demands_of}

-- ---- what the lines so far say

-- a question: the normal form of an element, or whether two are the same
pub data Asked : Type 0 where
  query : List (ℕ × Tree ℕ) → Asked
  same : List (ℕ × Tree ℕ) → List (ℕ × Tree ℕ) → Asked

-- What the lines of a presentation say: the version, the field and the order if they stand already, the generators, the weight of
-- each that has one, the relations, the questions with the numbers of their lines, and the section of the last line.
pub record Contents : Type 0 where
  pub version : ℕ
  pub field : Option ℕ
  pub order : Option OrderName
  pub generators : List Generator
  pub weights : List (Option ℕ)
  pub relations : List (List (ℕ × Tree ℕ))
  pub asks : List (ℕ × Asked)
  pub section : ℕ

-- what the header says
abbrev pub contents_by_header : ℕ → Contents
contents_by_header version = record { version = version; field = None; order = None; generators = []; weights = []; relations = []; asks = []; section = 1 }

-- ---- the word of a line

abbrev pub is : List ℕ → List ℕ → Bool
is word other = bytes_eq word other

-- the section of a word, or 0 for words that may stand in a tail alone, and for others
abbrev pub section_of : ℕ → List ℕ → ℕ
section_of version w =
    if is w (codes "field") then 2 else (if is w (codes "order") then 3
    else (if is w (codes "gen") || (version == 2 && is w (codes "weight")) then 4 else (if is w (codes "rel") then 5
    else (if is w (codes "query") || is w (codes "same") then 6 else (if is w (codes "want") || is w (codes "cert") then 7 else 0)))))

-- the words that stand behind the first line of a tail alone
abbrev pub is_inside_tail : List ℕ → Bool
is_inside_tail w =
    is w (codes "step") || is w (codes "use") || is w (codes "end") || is w (codes "elem") || is w (codes "row") || is w (codes "relabel") || is w (codes "red")

-- no line begins with the word
abbrev pub is_unknown : ℕ → List ℕ → Bool
is_unknown version w = (section_of version w == 0) && not (is_inside_tail w)

-- no field stands yet, and the word isn't `field`; or one stands and no order, and the word is neither
abbrev pub is_missing : Contents → List ℕ → Bool
is_missing contents w =
    (not (is_some contents.field) && not (is w (codes "field")))
    || (is_some contents.field && not (is_some contents.order) && not (is w (codes "order")) && not (is w (codes "field")))

-- the word's section is before that of the last line, or it is `field` or `order` a second time
abbrev pub is_out_of_order : Contents → List ℕ → Bool
is_out_of_order contents w =
    (nat_lt 0 (section_of contents.version w) && nat_lt (section_of contents.version w) contents.section)
    || (is w (codes "field") && is_some contents.field) || (is w (codes "order") && is_some contents.order)

-- what stands against the word of a line
unfoldable pub word_fault : Contents → List ℕ → Option DocKind
word_fault contents w = first_row (
    (is_unknown contents.version w, Directive) ∷
    (is_missing contents w, Missing) ∷
    (is_out_of_order contents w, Directive) ∷
    (is_inside_tail w, Block) ∷ [])

-- ---- the field and the order

abbrev pub known : {X : Type 0} → ℕ → DocKind → Option X → Result X Fault
known left kind None = Err (left, kind)
known left kind (Some x) = Ok x

abbrev pub is_prime : ℕ → Bool
is_prime n = n == 3 || n == 5 || n == 7 || n == 101 || n == 32003 || n == 65537

abbrev pub order_named : ℕ → List ℕ → Option OrderName
order_named version w =
    if is w (codes "path") then Some Path else (if is w (codes "pathshort") then Some PathShort else (if is w (codes "leafpath") then Some LeafPath
    else (if version == 2 && is w (codes "weightpath") then Some WeightPath else None)))

-- `field P`
unfoldable pub field_line : Contents → List Token → Result Contents Fault
field_line contents ts = do
  p ← number_in ts
  _ ← refused (suc (length p.1)) (first_row ((not (is_prime p.0), FieldUnknown) ∷ [])) (end_in p.1)
  Ok (record contents { field = Some p.0; section = 2 })

-- `order NAME`
unfoldable pub order_line : Contents → List Token → Result Contents Fault
order_line contents ts = do
  w ← word_in ts
  order ← known (suc (length w.1)) OrderUnknown (order_named contents.version w.0)
  _ ← end_in w.1
  Ok (record contents { order = Some order; section = 3 })

-- ---- generators and weights

abbrev pub is_known : List ℕ → List Generator → Bool
is_known name generators = is_some (index_of name generators)

abbrev pub is_arity : ℕ → Bool
is_arity n = nat_le 2 n && nat_le n 6

abbrev pub symmetry_named : List ℕ → Option PartKind
symmetry_named w = if is w (codes "sym") then Some Sym else (if is w (codes "alt") then Some Alt else (if is w (codes "reg") then Some Free else None))

abbrev pub part_named : List ℕ → Option PartKind
part_named w = if is w (codes "sym") then Some Sym else (if is w (codes "alt") then Some Alt else (if is w (codes "free") then Some Free else None))

-- a symmetry in version 1: one part of all inputs
unfoldable pub symmetry_in : ℕ → List Token → Result (List Part) Fault
symmetry_in arity ts = do
  w ← word_in ts
  kind ← known (suc (length w.1)) Syntax (symmetry_named w.0)
  _ ← end_in w.1
  Ok (record { kind = kind; size = arity } ∷ [])

-- a part, where the sizes before add up to `sum`
unfoldable pub part_in : ℕ → ℕ → List Token → Reading Part
part_in arity sum ts = do
  w ← word_in ts
  kind ← known (suc (length w.1)) Syntax (part_named w.0)
  n ← number_in w.1
  refused (suc (length n.1)) (first_row ((n.0 == 0 || nat_lt arity (sum + n.0), PartsOut) ∷ [])) (Ok (record { kind = kind; size = n.0 }, n.1))

-- further parts to the end of the line, where the sizes before add up to `sum`; no more than are given
unfoldable pub parts_in : ℕ → ℕ → ℕ → List Token → Result (List Part) Fault
parts_in most arity sum [] = refused 0 (first_row ((nat_lt sum arity, PartsOut) ∷ [])) (Ok [])
parts_in zero arity sum (token ∷ rest) = misfit (token ∷ rest)
parts_in (suc most) arity sum (token ∷ rest) = do
  part ← part_in arity sum (token ∷ rest)
  others ← parts_in most arity (sum + (part.0).size) part.1
  Ok (part.0 ∷ others)

-- the parts in version 2, one at least, where the sizes before add up to `sum`
unfoldable pub all_parts_in : ℕ → ℕ → List Token → Result (List Part) Fault
all_parts_in arity sum ts = do
  part ← part_in arity sum ts
  others ← parts_in (length part.1) arity (sum + (part.0).size) part.1
  Ok (part.0 ∷ others)

-- what stands against the name of a generator
abbrev pub name_fault : List Generator → List ℕ → Option DocKind
name_fault generators name = first_row ((nat_lt 16 (length name), NameBad) ∷ (is_known name generators, NameTaken) ∷ [])

-- the name and the arity of a `gen` line
unfoldable pub named_arity_in : List Generator → List Token → Reading (List ℕ × ℕ)
named_arity_in generators ts = refused (suc (length ts)) (first_row ((nat_le 12 (length generators), TooManyGens) ∷ [])) (do
  w ← word_in ts
  n ← refused (suc (length w.1)) (name_fault generators w.0) (number_in w.1)
  refused (suc (length n.1)) (first_row ((not (is_arity n.0), ArityOut) ∷ [])) (Ok ((w.0, n.0), n.1)))

-- a symmetry in version 1, and parts in version 2
abbrev pub inputs_in : ℕ → ℕ → List Token → Result (List Part) Fault
inputs_in version arity ts = if version == 2 then all_parts_in arity 0 ts else symmetry_in arity ts

-- the generator of a `gen` line: `NAME ARITY SYMMETRY`, or in version 2 `NAME ARITY PART` with any number of further parts
unfoldable pub generator_in : ℕ → List Generator → List Token → Result Generator Fault
generator_in version generators ts = do
  named ← named_arity_in generators ts
  parts ← inputs_in version (named.0).1 named.1
  Ok (record { name = (named.0).0; arity = (named.0).1; parts = parts })

-- a generator without a weight joins the others
abbrev pub with_generator : Contents → Generator → Contents
with_generator contents generator = record contents { generators = contents.generators ++ generator ∷ []; weights = contents.weights ++ None ∷ []; section = 4 }

-- `gen GENERATOR`
unfoldable pub gen_line : Contents → List Token → Result Contents Fault
gen_line contents ts = do
  generator ← generator_in contents.version contents.generators ts
  Ok (with_generator contents generator)

-- whether generator g has a weight already
abbrev pub is_weighed : ℕ → List (Option ℕ) → Bool
is_weighed g [] = false
is_weighed zero (w ∷ ws) = is_some w
is_weighed (suc g) (w ∷ ws) = is_weighed g ws

-- generator g gets a weight
abbrev pub weighed : ℕ → ℕ → List (Option ℕ) → List (Option ℕ)
weighed g weight [] = []
weighed zero weight (w ∷ ws) = Some weight ∷ ws
weighed (suc g) weight (w ∷ ws) = w ∷ weighed g weight ws

-- `weight NAME W`
unfoldable pub weight_line : Contents → List Token → Result Contents Fault
weight_line contents ts = do
  w ← word_in ts
  g ← known (suc (length w.1)) NameUnknown (index_of w.0 contents.generators)
  n ← refused (suc (length w.1)) (first_row ((is_weighed g contents.weights, WeightTaken) ∷ [])) (number_in w.1)
  _ ← refused (suc (length n.1)) (first_row ((nat_lt 1000000 n.0, WeightOut) ∷ [])) (end_in n.1)
  Ok (record contents { weights = weighed g n.0 contents.weights; section = 4 })

-- ---- relations and questions

abbrev pub prime_of : Option ℕ → ℕ
prime_of None = 3
prime_of (Some p) = p

-- `rel ELEMENT`
unfoldable pub rel_line : Contents → List Token → Result Contents Fault
rel_line contents ts = refused (suc (length ts)) (first_row ((nat_le 1000 (length contents.relations), TooManyRelations) ∷ [])) (do
  e ← element_in contents.generators (demands_of 2 None) ts
  _ ← end_in e.1
  Ok (record contents { relations = contents.relations ++ written_sum (prime_of contents.field) e.0 ∷ []; section = 5 }))

-- one element to the end of the line
unfoldable pub query_in : ℕ → List Generator → List Token → Result Asked Fault
query_in p generators ts = do
  e ← element_in generators (demands_of 1 None) ts
  _ ← end_in e.1
  Ok (query (written_sum p e.0))

-- two elements with '=' between them, of one arity, to the end of the line
unfoldable pub same_in : ℕ → List Generator → List Token → Result Asked Fault
same_in p generators ts = do
  e ← element_in generators (demands_of 1 None) ts
  rest ← mark_in 61 e.1
  f ← element_in generators (demands_of 1 (arity_of_first e.0)) rest
  _ ← end_in f.1
  Ok (same (written_sum p e.0) (written_sum p f.0))

-- a question joins the others
abbrev pub with_ask : Contents → ℕ → Asked → Contents
with_ask contents number ask = record contents { asks = contents.asks ++ (number, ask) ∷ []; section = 6 }

-- `query ELEMENT`
unfoldable pub query_line : Contents → ℕ → List Token → Result Contents Fault
query_line contents number ts = do
  ask ← query_in (prime_of contents.field) contents.generators ts
  Ok (with_ask contents number ask)

-- `same ELEMENT = ELEMENT`
unfoldable pub same_line : Contents → ℕ → List Token → Result Contents Fault
same_line contents number ts = do
  ask ← same_in (prime_of contents.field) contents.generators ts
  Ok (with_ask contents number ask)

-- ---- a line

-- the rest of a line behind its word, which may stand there and begins no tail
abbrev pub rest_of_line : Contents → ℕ → List ℕ → List Token → Result Contents Fault
rest_of_line contents number w ts =
    if is w (codes "field") then field_line contents ts else (if is w (codes "order") then order_line contents ts
    else (if is w (codes "gen") then gen_line contents ts else (if is w (codes "weight") then weight_line contents ts
    else (if is w (codes "rel") then rel_line contents ts else (if is w (codes "query") then query_line contents number ts else same_line contents number ts)))))
