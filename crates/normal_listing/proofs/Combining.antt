-- The word of a vertex: its symbol, and then the words of its inputs.
use Rattle.std.proofs.Common.{◌≡◌, ℕ, ◌+◌, ◌<◌, ◌≤◌, List, [], ◌∷◌, length, map, drop, refl, ap, ap₂, sym, ◌∙◌, subst, arith}
use mathlib.Core.List.{◌++◌}
use Rattle.std.specs.List.{AllByRecursion}
use Rattle.std.proofs.lemmas.List.{drop_more, drop_all}
use Rattle.labelled_trees.specs.Trees.{Tree, row}
use Rattle.labelled_trees.specs.Meaning.{tree_of}
use Rattle.labelled_trees.specs.declared.Tree as program
use Rattle.labelled_trees.specs.declared.Tree.TheVariants.{Leaf, Node}
use Rattle.labelled_trees.proofs.ProgramTrees.{tree_of-leaf, tree_of-node}
use Rattle.normal_listing.specs.Places.{IsSymbol, IsShortWord}
use Rattle.normal_listing.specs.Words.{symbols, symbols_row}
use Rattle.normal_listing.proofs.Places.{length_joined}

-- the symbols of the inputs from number i on
abbrev pub symbols_from : ℕ → List program.Tree → List ℕ
symbols_from i items = symbols_row (row (map tree_of (drop i items)))

pub symbols-leaf : (tree : program.Tree) (i : ℕ) → tree ≡ Leaf i → symbols (tree_of tree) ≡ i ∷ []
symbols-leaf tree i e = ap (λ t. symbols (tree_of t)) e ∙ ap symbols (tree_of-leaf i)

pub symbols-node : (tree : program.Tree) (g : ℕ) (ts items : List program.Tree) → tree ≡ Node g ts → items ≡ ts → symbols (tree_of tree) ≡ (10 + g) ∷ symbols_from 0 items
symbols-node tree g ts items e f =
    ap (λ t. symbols (tree_of t)) e ∙ ap symbols (tree_of-node g ts) ∙ ap (λ us. (10 + g) ∷ symbols_row (row (map tree_of us))) (sym f)

pub symbols_more : (i : ℕ) (items : List program.Tree) (x : program.Tree) → i < length items → drop i items ≡ x ∷ drop (i + 1) items
    → symbols_from i items ≡ symbols (tree_of x) ++ symbols_from (i + 1) items
symbols_more i items x h e = ap (λ us. symbols_row (row (map tree_of us))) e

pub symbols_none : (i : ℕ) (items : List program.Tree) → length items ≤ i → symbols_from i items ≡ []
symbols_none i items h = ap (λ us. symbols_row (row (map tree_of us))) (drop_all i items h)

assoc : (k l m : List ℕ) → (k ++ l) ++ m ≡ k ++ (l ++ m)
assoc [] l m = refl
assoc (x ∷ k) l m = ap (λ n. x ∷ n) (assoc k l m)

pub nothing_behind : (l : List ℕ) → l ++ [] ≡ l
nothing_behind [] = refl
nothing_behind (x ∷ l) = ap (λ m. x ∷ m) (nothing_behind l)

-- a word of which one more part is taken
pub part_taken : (word part others new whole : List ℕ) → word ++ (part ++ others) ≡ whole → new ≡ word ++ part → new ++ others ≡ whole
part_taken word part others new whole e f = ap (λ l. l ++ others) f ∙ assoc word part others ∙ e

behind_are : (l m : List ℕ) → AllByRecursion IsSymbol (l ++ m) → AllByRecursion IsSymbol m
behind_are [] m h = h
behind_are (x ∷ l) m h = behind_are l m h.1

front_are : (l m : List ℕ) → AllByRecursion IsSymbol (l ++ m) → AllByRecursion IsSymbol l
front_are [] m h = tt
front_are (x ∷ l) m h = (h.0, front_are l m h.1)

-- a part of a word is a word
pub part_word : (word part others whole : List ℕ) → word ++ (part ++ others) ≡ whole → IsShortWord whole → IsShortWord part × (length word + length part ≤ 25)
part_word word part others whole e h =
    let both = length_joined word (part ++ others) in
    let rest = length_joined part others in
    let same = ap length e in
    let few = h.few in
    (record { few = omega (arith, both, rest, same, few); symbols = front_are part others (behind_are word (part ++ others) (subst (AllByRecursion IsSymbol) (sym e) h.symbols)) }, omega (arith, both, rest, same, few))

-- the first symbol of a word
pub first_symbol : (s : ℕ) (l whole : List ℕ) → whole ≡ s ∷ l → IsShortWord whole → IsSymbol s
first_symbol s l whole e h = (subst (AllByRecursion IsSymbol) e h.symbols).0
