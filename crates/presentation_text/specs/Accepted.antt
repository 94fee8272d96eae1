-- Which tokens reading accepts: exactly those of the grammar, within the limits.
use Rattle.std.specs.Prelude.{ℕ, ◌≡◌, ◌≢◌, ◌≤◌, ◌↔◌, Bool, true, false, List, [], ◌∷◌, ◌++◌, length, Option, Some, Ok, Err}
use Rattle.std.specs.List.{All}
use Rattle.labelled_trees.specs.Trees.{Tree, leaf, node}
use Rattle.labelled_trees.specs.Leaves.{AllLeaves, leaf_count}
use Rattle.labelled_trees.specs.Labelled.{IsNumbered}
use Rattle.symmetric_trees.specs.Generators.{IsTable}
use Rattle.symmetric_trees.specs.Trees.{Fits}
use Rattle.symmetric_trees.specs.declared.generators.Generator.{Generator}
use Rattle.presentation_text.specs.declared.kinds.DocKind.{DocKind}
use Rattle.presentation_text.specs.declared.kinds.DocKind.TheVariants.{Syntax, NumberLong, NameUnknown, InputCount, TooDeep, TooWide}
use Rattle.presentation_text.specs.declared.lexing.Token.{Token}
use Rattle.presentation_text.specs.declared.lexing.Token.TheVariants.{Number, Byte}
use Rattle.presentation_text.specs.declared.trees.Demands.{Demands}
use Rattle.presentation_text.specs.Elements.{Written, element_tokens, IsElementTree}
use Rattle.presentation_text.specs.ElementReadings.{element_in}
use Rattle.presentation_text.specs.TreeReadings.{begins_with, demands_of, whole_tree_in}
use Rattle.presentation_text.specs.TreeText.{nested, tree_tokens}

-- ---- trees

-- A tree as it is demanded: over the table, with at most 8 generators one inside the other, at most 9 leaves and leaf numbers of at
-- most 99; unless they are free, its leaves carry 1 to some number, each once; and its arity is as is asked.
pub record IsDemanded (generators : List Generator) (demands : Demands) (t : Tree ℕ) : Type 0 where
  pub fits : Fits generators t
  pub shallow : nested t ≤ 8
  pub narrow : leaf_count t ≤ 9
  pub small : AllLeaves t (λ n. n ≤ 99)
  pub numbered : demands.loose ≡ false → IsNumbered (leaf_count t) t
  pub least : demands.least ≤ leaf_count t
  pub arity : (n : ℕ) → demands.arity ≡ Some n → leaf_count t ≡ n

-- the tokens don't begin with this single byte
abbrev pub NotMarked : ℕ → List Token → Type 0
NotMarked c [] = Unit {0}
NotMarked c (token ∷ rest) = token ≢ Byte c

-- whether a tree is a leaf alone
abbrev pub is_leaf : Tree ℕ → Bool
is_leaf (leaf n) = true
is_leaf (node g r) = false

-- A tree may end before these tokens: its number would be a coefficient before '*', where it is a leaf.
abbrev pub EndsTree : Tree ℕ → List Token → Type 0
EndsTree t rest = is_leaf t ≡ true → NotMarked 42 rest

-- Reading accepts a tree exactly where the tokens begin with those of the tree, which is as demanded, and may end there.
abbrev pub TreesAreAccepted : Type 0
TreesAreAccepted = (generators : List Generator) → IsTable generators → (demands : Demands) (ts rest : List Token) (t : Tree ℕ)
    → (whole_tree_in generators demands ts ≡ Ok (t, rest)) ↔ ((ts ≡ tree_tokens generators t ++ rest) × IsDemanded generators demands t × EndsTree t rest)

-- A token is the same before both: a number is a coefficient before '*', and else a leaf.
abbrev pub IsSameBefore : Token → List Token → List Token → Type 0
IsSameBefore (Number n) others back = begins_with 42 others ≡ begins_with 42 back
IsSameBefore token others back = Unit {0}

-- The tokens go on from those in front as the ones behind do: with their first token, or with nothing where there is none.
abbrev pub GoOnAs : List Token → List Token → List Token → Type 0
GoOnAs front [] ts = ts ≡ front
GoOnAs front (token ∷ back) ts = (others : List Token) × (ts ≡ front ++ token ∷ others) × IsSameBefore token others back

-- The trees that a refusal rules out: for a token that can't stand there any tree over the table, for a limit those within it, and else
-- those that are as demanded.
abbrev pub IsRuledOut : List Generator → Demands → DocKind → Tree ℕ → Type 0
IsRuledOut generators demands Syntax t = Fits generators t
IsRuledOut generators demands NumberLong t = Fits generators t
IsRuledOut generators demands NameUnknown t = Fits generators t
IsRuledOut generators demands InputCount t = Fits generators t
IsRuledOut generators demands TooDeep t = Fits generators t × (nested t ≤ 8)
IsRuledOut generators demands TooWide t = Fits generators t × (leaf_count t ≤ 9)
IsRuledOut generators demands kind t = IsDemanded generators demands t

-- Reading refuses a token, or the end of the line, only where the tokens of no tree that is ruled out go on so.
abbrev pub TreesAreRefusedRightly : Type 0
TreesAreRefusedRightly = (generators : List Generator) → IsTable generators → (demands : Demands) (front back : List Token) (kind : DocKind)
    → whole_tree_in generators demands (front ++ back) ≡ Err (length back, kind)
    → (t : Tree ℕ) → IsRuledOut generators demands kind t → GoOnAs front back (tree_tokens generators t) → ⊥

-- The tokens before the refused one are the first of a tree over the table.
abbrev pub RefusedTreesBegin : Type 0
RefusedTreesBegin = (generators : List Generator) → IsTable generators → (demands : Demands) (front back : List Token) (kind : DocKind)
    → whole_tree_in generators demands (front ++ back) ≡ Err (length back, kind)
    → (t : Tree ℕ) × (others : List Token) × Fits generators t × (tree_tokens generators t ≡ front ++ others)

-- ---- elements

-- whether the last term's tree is a leaf; the answer for no terms is given
abbrev pub ends_in_leaf : Bool → List Written → Bool
ends_in_leaf before [] = before
ends_in_leaf before (term ∷ terms) = ends_in_leaf (is_leaf term.tree) terms

-- An element goes on as long as it can: behind a term neither '+' nor '-' stands, and no '*' behind a number.
abbrev pub EndsBefore : List Written → List Token → Type 0
EndsBefore [] rest = NotMarked 42 rest
EndsBefore (term ∷ terms) rest = NotMarked 43 rest × NotMarked 45 rest × (ends_in_leaf true (term ∷ terms) ≡ true → NotMarked 42 rest)

-- the trees have one arity, which is as is asked
pub record HaveDemandedArity (generators : List Generator) (least : ℕ) (arity : Option ℕ) (terms : List Written) : Type 0 where
  pub n : ℕ
  pub trees : All (λ term. IsElementTree generators n term.tree) terms
  pub least_is : least ≤ n
  pub arity_is : (m : ℕ) → arity ≡ Some m → n ≡ m

-- there are no terms, or their trees have one arity as is asked
abbrev pub AreDemanded : List Generator → ℕ → Option ℕ → List Written → Type 0
AreDemanded generators least arity [] = Unit {0}
AreDemanded generators least arity (term ∷ terms) = HaveDemandedArity generators least arity (term ∷ terms)

-- Reading accepts an element exactly where the tokens begin with those of the element, whose trees have one arity as demanded, and go on with no further term.
abbrev pub ElementsAreAccepted : Type 0
ElementsAreAccepted = (generators : List Generator) → IsTable generators → (least : ℕ) (arity : Option ℕ) (ts rest : List Token) (terms : List Written)
    → (element_in generators (demands_of least arity) ts ≡ Ok (terms, rest))
    ↔ ((ts ≡ element_tokens generators terms ++ rest) × AreDemanded generators least arity terms × EndsBefore terms rest)

-- The elements that a refusal rules out: for a token that can't stand there any element over the table, for a limit those within it,
-- and else those whose trees have one arity as demanded.
abbrev pub AreRuledOut : List Generator → ℕ → Option ℕ → DocKind → List Written → Type 0
AreRuledOut generators least arity Syntax terms = All (λ term. Fits generators term.tree) terms
AreRuledOut generators least arity NumberLong terms = All (λ term. Fits generators term.tree) terms
AreRuledOut generators least arity NameUnknown terms = All (λ term. Fits generators term.tree) terms
AreRuledOut generators least arity InputCount terms = All (λ term. Fits generators term.tree) terms
AreRuledOut generators least arity TooDeep terms = All (λ term. Fits generators term.tree × (nested term.tree ≤ 8)) terms
AreRuledOut generators least arity TooWide terms = All (λ term. Fits generators term.tree × (leaf_count term.tree ≤ 9)) terms
AreRuledOut generators least arity kind terms = AreDemanded generators least arity terms

-- Reading refuses a token, or the end of the line, only where the tokens of no element that is ruled out go on so.
abbrev pub ElementsAreRefusedRightly : Type 0
ElementsAreRefusedRightly = (generators : List Generator) → IsTable generators → (least : ℕ) (arity : Option ℕ) (front back : List Token) (kind : DocKind)
    → element_in generators (demands_of least arity) (front ++ back) ≡ Err (length back, kind)
    → (terms : List Written) → AreRuledOut generators least arity kind terms → GoOnAs front back (element_tokens generators terms) → ⊥

-- The tokens before the refused one are the first of an element over the table.
abbrev pub RefusedElementsBegin : Type 0
RefusedElementsBegin = (generators : List Generator) → IsTable generators → (least : ℕ) (arity : Option ℕ) (front back : List Token) (kind : DocKind)
    → element_in generators (demands_of least arity) (front ++ back) ≡ Err (length back, kind)
    → (terms : List Written) × (others : List Token) × All (λ term. Fits generators term.tree) terms × (element_tokens generators terms ≡ front ++ others)
