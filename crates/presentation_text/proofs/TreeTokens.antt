-- The tokens of a tree: names in a table, separators, and that tokens begin with at most one tree.
use Rattle.std.proofs.Common.{◌≡◌, ℕ, zero, suc, ◌<◌, ◌≤◌, List, [], ◌∷◌, ◌++◌, length, get_or, map, slice_get, Some, refl, ap, sym, ◌∙◌, subst, arith, append_assoc, ◌⊎◌, ⊎_elim}
use Rattle.std.proofs.lemmas.List.{length-map}
use Rattle.std.proofs.lemmas.Option.{get_or_from_slice_get, slice_get-get_or}
use Rattle.labelled_trees.specs.Trees.{Tree, Row, leaf, node, none, more, row, width}
use Rattle.labelled_trees.specs.Labelled as labelled
use Rattle.labelled_trees.specs.Meaning.{tree_of}
use Rattle.labelled_trees.specs.declared.Tree as program
use Rattle.labelled_trees.specs.declared.Tree.TheVariants.{Node}
use Rattle.labelled_trees.proofs.ProgramTrees.{tree_of-node}
use Rattle.labelled_trees.proofs.Rows.{width-row}
use Rattle.operad_ideals.specs.Laws.{arity}
use Rattle.symmetric_trees.specs.declared.generators.Generator.{Generator}
use Rattle.symmetric_trees.specs.Generators.{IsTable, parts_at}
use Rattle.symmetric_trees.specs.Trees.{Fits}
use Rattle.symmetric_trees.proofs.Tables.{arity-held}
use Rattle.presentation_text.specs.declared.lexing.Token.{Token}
use Rattle.presentation_text.specs.declared.lexing.Token.TheVariants.{Byte}
use Rattle.presentation_text.specs.TreeText.{name_of, tree_tokens, row_tokens, more_tokens}
use Rattle.presentation_text.specs.Laws.{TreesAreReadOnce}

-- ---- tables

abbrev pub arity_in : List Generator → ℕ → ℕ
arity_in generators = arity (parts_at generators)

-- only a generator of the table has inputs
pub in_table : (generators : List Generator) (g : ℕ) → 0 < arity_in generators g → g < length generators
in_table [] g l = absurd (omega arith)
in_table (x ∷ xs) zero l = omega arith
in_table (x ∷ xs) (suc g) l = let further = in_table xs g l in omega arith

pub name_of-is : (generators : List Generator) (g : ℕ) (d : Generator) → g < length generators → name_of generators g ≡ (get_or generators g d).name
name_of-is [] g d l = absurd (omega arith)
name_of-is (x ∷ xs) zero d l = refl
name_of-is (x ∷ xs) (suc g) d l = name_of-is xs g d (omega arith)

-- the arity of a generator in a table is the one that it names
pub arity_in-is : (generators : List Generator) → IsTable generators → (g : ℕ) (d : Generator) → g < length generators → arity_in generators g ≡ (get_or generators g d).arity
arity_in-is generators table g d l = arity-held generators g (get_or generators g d) table l (slice_get-get_or generators g d l)

below_or_above : (g h : ℕ) → (g ≡ h) ⊎ ((g < h) ⊎ (h < g))
below_or_above g h = grind arith

-- two generators of a table with one name are the same
pub names_apart : (generators : List Generator) → IsTable generators → (g h : ℕ) → g < length generators → h < length generators → name_of generators g ≡ name_of generators h → g ≡ h
names_apart [] table g h lg lh e = absurd (omega arith)
names_apart (x ∷ xs) table g h lg lh e =
    let same : (get_or (x ∷ xs) g x).name ≡ (get_or (x ∷ xs) h x).name = sym (name_of-is (x ∷ xs) g x lg) ∙ e ∙ name_of-is (x ∷ xs) h x lh in
    ⊎_elim (λ equal. equal) (λ apart. ⊎_elim (λ below. absurd (table.apart g h x below lh same)) (λ above. absurd (table.apart h g x above lg (sym same))) apart) (below_or_above g h)

-- a generator of a table, its name and its arity
pub name_of-get : (generators : List Generator) (g : ℕ) (x : Generator) → g < length generators → slice_get generators g ≡ Some x → name_of generators g ≡ x.name
name_of-get generators g x l e = name_of-is generators g x l ∙ ap (λ y. y.name) (get_or_from_slice_get generators g x x e)

pub arity_in-get : (generators : List Generator) → IsTable generators → (g : ℕ) (x : Generator) → g < length generators → slice_get generators g ≡ Some x → arity_in generators g ≡ x.arity
arity_in-get generators table g x l e = arity-held generators g x table l e

pub arity_in-least : (generators : List Generator) → IsTable generators → (g : ℕ) (x : Generator) → g < length generators → 2 ≤ arity_in generators g
arity_in-least generators table g x l = let is = arity_in-is generators table g x l in let least = (table.arities g x l).0 in omega arith

-- ---- trees of the program that fit a table

-- a vertex that fits
pub record FitsNode (generators : List Generator) (g : ℕ) (ts : List program.Tree) : Type 0 where
  pub least : 2 ≤ arity_in generators g
  pub wide : length ts ≡ arity_in generators g
  pub inputs : labelled.FitsRow (arity_in generators) (row (map tree_of ts))

pub node_fits : (generators : List Generator) (t : program.Tree) (g : ℕ) (ts : List program.Tree) → t ≡ Node g ts → Fits generators (tree_of t) → FitsNode generators g ts
node_fits generators t g ts e h =
    let same : tree_of t ≡ node g (row (map tree_of ts)) = ap tree_of e ∙ tree_of-node g ts in
    let fits : Fits generators (node g (row (map tree_of ts))) = subst (Fits generators) same h in
    record { least = fits.0; wide = sym (width-row (map tree_of ts) ∙ length-map ts tree_of) ∙ fits.1; inputs = fits.2 }

-- each input of a vertex that fits fits
pub input_fits : (arities : ℕ → ℕ) (ts : List program.Tree) (i : ℕ) (t : program.Tree) → labelled.FitsRow arities (row (map tree_of ts)) → i < length ts → t ≡ get_or ts i t → labelled.Fits arities (tree_of t)
input_fits arities [] i t h l e = absurd (omega arith)
input_fits arities (u ∷ us) zero t h l e = subst (λ x. labelled.Fits arities (tree_of x)) (sym e) h.0
input_fits arities (u ∷ us) (suc i) t h l e = input_fits arities us i t h.1 (omega arith) e

-- ---- a tree is read in one way

module _ (generators : List Generator) (table : IsTable generators) where
  one_name : (g h : ℕ) → 2 ≤ arity_in generators g → 2 ≤ arity_in generators h → name_of generators g ≡ name_of generators h → g ≡ h
  one_name g h lg lh e = names_apart generators table g h (in_table generators g (omega arith)) (in_table generators h (omega arith)) e

  mutual
    pub once : (t u : Tree ℕ) (r s : List Token) → Fits generators t → Fits generators u → tree_tokens generators t ++ r ≡ tree_tokens generators u ++ s → (t ≡ u) × (r ≡ s)
    once (leaf n) (leaf m) r s ft fu e = let number : n ≡ m = cc in (ap leaf number, cc)
    once (leaf n) (node h b) r s ft fu e = absurd cc
    once (node g a) (leaf m) r s ft fu e = absurd cc
    once (node g a) (node h b) r s ft fu e =
        let name : name_of generators g ≡ name_of generators h = cc in
        let same : g ≡ h = one_name g h ft.0 fu.0 name in
        let wide : width a ≡ width b = ft.1 ∙ ap (arity_in generators) same ∙ sym fu.1 in
        let open_row : (row_tokens generators a ++ Byte 41 ∷ []) ++ r ≡ (row_tokens generators b ++ Byte 41 ∷ []) ++ s = cc in
        let rows : (a ≡ b) × (Byte 41 ∷ r ≡ Byte 41 ∷ s) = once_row a b (Byte 41 ∷ r) (Byte 41 ∷ s) ft.2 fu.2 wide (sym (append_assoc (row_tokens generators a) (Byte 41 ∷ []) r) ∙ open_row ∙ append_assoc (row_tokens generators b) (Byte 41 ∷ []) s) in
        let inside : a ≡ b = rows.0 in let behind : Byte 41 ∷ r ≡ Byte 41 ∷ s = rows.1 in
        (rw (same, inside) refl, cc)

    once_row : (a b : Row ℕ) (r s : List Token) → labelled.FitsRow (arity_in generators) a → labelled.FitsRow (arity_in generators) b → width a ≡ width b
        → row_tokens generators a ++ r ≡ row_tokens generators b ++ s → (a ≡ b) × (r ≡ s)
    once_row none none r s fa fb w e = (refl, e)
    once_row none (more u b) r s fa fb w e = absurd (omega arith)
    once_row (more t a) none r s fa fb w e = absurd (omega arith)
    once_row (more t a) (more u b) r s fa fb w e =
        let first : (t ≡ u) × (more_tokens generators a ++ r ≡ more_tokens generators b ++ s) = once t u (more_tokens generators a ++ r) (more_tokens generators b ++ s) fa.0 fb.0
        (sym (append_assoc (tree_tokens generators t) (more_tokens generators a) r) ∙ e ∙ append_assoc (tree_tokens generators u) (more_tokens generators b) s) in
        let others : (a ≡ b) × (r ≡ s) = once_more a b r s fa.1 fb.1 (omega arith) first.1 in
        let same : t ≡ u = first.0 in let rest : a ≡ b = others.0 in
        (rw (same, rest) refl, others.1)

    once_more : (a b : Row ℕ) (r s : List Token) → labelled.FitsRow (arity_in generators) a → labelled.FitsRow (arity_in generators) b → width a ≡ width b
        → more_tokens generators a ++ r ≡ more_tokens generators b ++ s → (a ≡ b) × (r ≡ s)
    once_more none none r s fa fb w e = (refl, e)
    once_more none (more u b) r s fa fb w e = absurd (omega arith)
    once_more (more t a) none r s fa fb w e = absurd (omega arith)
    once_more (more t a) (more u b) r s fa fb w e =
        let behind : (tree_tokens generators t ++ more_tokens generators a) ++ r ≡ (tree_tokens generators u ++ more_tokens generators b) ++ s = cc in
        let first : (t ≡ u) × (more_tokens generators a ++ r ≡ more_tokens generators b ++ s) = once t u (more_tokens generators a ++ r) (more_tokens generators b ++ s) fa.0 fb.0
        (sym (append_assoc (tree_tokens generators t) (more_tokens generators a) r) ∙ behind ∙ append_assoc (tree_tokens generators u) (more_tokens generators b) s) in
        let others : (a ≡ b) × (r ≡ s) = once_more a b r s fa.1 fb.1 (omega arith) first.1 in
        let same : t ≡ u = first.0 in let rest : a ≡ b = others.0 in
        (rw (same, rest) refl, others.1)

pub read_once : TreesAreReadOnce
read_once generators table t u r s ft fu e = once generators table t u r s ft fu e
