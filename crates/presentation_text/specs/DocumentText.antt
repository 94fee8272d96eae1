-- The text of a document.
use Rattle.std.specs.Prelude.{ℕ, ◌==◌, if◌then◌else◌, List, [], ◌∷◌, ◌++◌, codes}
use Rattle.std.specs.List.{flat_map}
use Rattle.std.specs.Fmt.{decimal}
use Rattle.labelled_trees.specs.Trees.{Tree}
use Rattle.symmetric_trees.specs.declared.generators.Generator.{Generator}
use Rattle.symmetric_trees.specs.declared.generators.Part.{Part}
use Rattle.symmetric_trees.specs.declared.generators.PartKind.{PartKind}
use Rattle.symmetric_trees.specs.declared.generators.PartKind.TheVariants.{Sym, Alt, Free}
use Rattle.symmetric_sums.specs.Terms.{terms_of}
use Rattle.presentation_text.specs.declared.document.AskKind.{AskKind}
use Rattle.presentation_text.specs.declared.document.AskKind.TheVariants.{Query, Same}
use Rattle.presentation_text.specs.declared.document.Document.{Document}
use Rattle.presentation_text.specs.declared.document.OrderName.{OrderName}
use Rattle.presentation_text.specs.declared.document.OrderName.TheVariants.{Path, PathShort, LeafPath, WeightPath}
use Rattle.presentation_text.specs.SumText.{sum_text}

-- words with a blank before each
abbrev pub blank_before : List (List ℕ) → List ℕ
blank_before [] = []
blank_before (word ∷ words) = 32 ∷ (word ++ blank_before words)

-- a line: words with one blank between them, and a line feed
abbrev pub line_of : List ℕ → List (List ℕ) → List ℕ
line_of word words = word ++ (blank_before words ++ 10 ∷ [])

-- ---- generators

abbrev pub order_word : OrderName → List ℕ
order_word Path = codes "path"
order_word PathShort = codes "pathshort"
order_word LeafPath = codes "leafpath"
order_word WeightPath = codes "weightpath"

-- the word of a symmetry in version 1
abbrev pub symmetry_word : PartKind → List ℕ
symmetry_word Sym = codes "sym"
symmetry_word Alt = codes "alt"
symmetry_word Free = codes "reg"

abbrev pub part_word : PartKind → List ℕ
part_word Sym = codes "sym"
part_word Alt = codes "alt"
part_word Free = codes "free"

-- the word and the size of each part
abbrev pub part_words : List Part → List (List ℕ)
part_words [] = []
part_words (part ∷ parts) = part_word part.kind ∷ (decimal part.size ∷ part_words parts)

-- in version 1 the word of the one part's kind
abbrev pub symmetry_words : List Part → List (List ℕ)
symmetry_words [] = []
symmetry_words (part ∷ parts) = symmetry_word part.kind ∷ []

-- `gen NAME ARITY SYMMETRY`, or in version 2 `gen NAME ARITY PART` with further parts
abbrev pub generator_text : ℕ → Generator → List ℕ
generator_text version generator =
    line_of (codes "gen") (generator.name ∷ (decimal generator.arity ∷ (if version == 2 then part_words generator.parts else symmetry_words generator.parts)))

-- `weight NAME W`, where W isn't 0
abbrev pub weight_text : Generator → ℕ → List ℕ
weight_text generator weight = if weight == 0 then [] else line_of (codes "weight") (generator.name ∷ (decimal weight ∷ []))

-- each generator's line, and behind it that of its weight
abbrev pub generators_text : ℕ → List Generator → List ℕ → List ℕ
generators_text version [] weights = []
generators_text version (generator ∷ generators) [] = generator_text version generator ++ generators_text version generators []
generators_text version (generator ∷ generators) (weight ∷ weights) =
    generator_text version generator ++ (weight_text generator weight ++ generators_text version generators weights)

-- ---- relations and questions

-- `rel ELEMENT`
abbrev pub relation_text : ℕ → List Generator → List (ℕ × Tree ℕ) → List ℕ
relation_text p generators relation = line_of (codes "rel") (sum_text p generators relation ∷ [])

-- `query ELEMENT`, or `same ELEMENT = ELEMENT`
abbrev pub ask_text : ℕ → List Generator → AskKind → List ℕ
ask_text p generators (Query sum) = line_of (codes "query") (sum_text p generators (terms_of sum) ∷ [])
ask_text p generators (Same left right) =
    line_of (codes "same") (sum_text p generators (terms_of left) ∷ (codes "=" ∷ (sum_text p generators (terms_of right) ∷ [])))

-- ---- documents

-- the header, the field and the order
abbrev pub opening_text : Document → List ℕ
opening_text document =
    line_of (codes "operad") (decimal document.version ∷ []) ++ (line_of (codes "field") (decimal document.field ∷ []) ++ line_of (codes "order") (order_word document.order ∷ []))

-- A document is printed line by line: the header, the field, the order, the generators with their weights, the relations and the questions.
-- The numbers of lines and the tail aren't printed.
abbrev pub document_text : Document → List ℕ
document_text document =
    opening_text document
    ++ (generators_text document.version document.gens document.weights
    ++ (flat_map (λ sum. relation_text document.field document.gens (terms_of sum)) document.rels
    ++ flat_map (λ ask. ask_text document.field document.gens ask.kind) document.asks))
