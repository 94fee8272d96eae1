-- What fits a table fits a longer one.
use Rattle.std.proofs.Common.{◌≡◌, ◌<◌, ◌≤◌, ℕ, zero, suc, List, [], ◌∷◌, ◌++◌, get_or, length, subst, sym, refl, arith, ◌∙◌}
use Rattle.std.specs.List.{All}
use Rattle.labelled_trees.specs.Labelled as labelled
use Rattle.labelled_trees.specs.Meaning.{tree_of}
use Rattle.labelled_trees.specs.Trees.{Tree, Row, leaf, node, none, more}
use Rattle.operad_ideals.specs.Laws.{arity}
use Rattle.symmetric_trees.specs.Generators.{parts_at}
use Rattle.symmetric_trees.specs.Trees.{Fits}
use Rattle.symmetric_trees.specs.declared.generators.Generator.{Generator}
use Rattle.symmetric_trees.proofs.Tables.{held_if_wide}
use Rattle.symmetric_sums.specs.Terms.{FitsOver}
use Rattle.symmetric_sums.specs.declared.sum.Sum.{Sum}
use Rattle.symmetric_sums.specs.declared.term.Term.{Term}
use Rattle.presentation_text.specs.declared.document.Ask.{Ask}
use Rattle.presentation_text.specs.DraftReadings.{AskFits}
use Rattle.presentation_text.specs.declared.document.AskKind.{AskKind}
use Rattle.presentation_text.specs.declared.document.AskKind.TheVariants.{Query, Same}

parts_longer : (generators others : List Generator) (g : ℕ) → g < length generators → parts_at (generators ++ others) g ≡ parts_at generators g
parts_longer [] others g l = absurd (omega arith)
parts_longer (x ∷ xs) others zero l = refl
parts_longer (x ∷ xs) others (suc g) l = parts_longer xs others g (omega arith)

arity_longer : (generators others : List Generator) (g : ℕ) → 2 ≤ arity (parts_at generators) g → arity (parts_at (generators ++ others)) g ≡ arity (parts_at generators) g
arity_longer generators others g l = let e = parts_longer generators others g (held_if_wide generators g l) in rw e refl

mutual
  pub fits-longer : (generators others : List Generator) (t : Tree ℕ) → Fits generators t → Fits (generators ++ others) t
  fits-longer generators others (leaf n) h = tt
  fits-longer generators others (node g r) h =
      let e = arity_longer generators others g h.0 in (subst (λ n. 2 ≤ n) (sym e) h.0, h.1 ∙ sym e, row_fits-longer generators others r h.2)

  row_fits-longer : (generators others : List Generator) (r : Row ℕ) → labelled.FitsRow (arity (parts_at generators)) r → labelled.FitsRow (arity (parts_at (generators ++ others))) r
  row_fits-longer generators others none h = tt
  row_fits-longer generators others (more t r) h = (fits-longer generators others t h.0, row_fits-longer generators others r h.1)

pub sum_fits-longer : (p : ℕ) (generators others : List Generator) (sum : List Term) → FitsOver p generators sum → FitsOver p (generators ++ others) sum
sum_fits-longer p generators others sum fits = record { residues = fits.residues; trees = λ k d l. fits-longer generators others (tree_of _) (fits.trees k d l) }

pub ask_fits-longer : (p : ℕ) (generators others : List Generator) (kind : AskKind) → AskFits p generators kind → AskFits p (generators ++ others) kind
ask_fits-longer p generators others (Query sum) h = sum_fits-longer p generators others sum h
ask_fits-longer p generators others (Same left right) h = (sum_fits-longer p generators others left h.0, sum_fits-longer p generators others right h.1)

-- all sums, and all questions
pub sums_fit-longer : (p : ℕ) (generators new others : List Generator) → new ≡ generators ++ others → (sums : List Sum) → All (FitsOver p generators) sums → All (FitsOver p new) sums
sums_fit-longer p generators new others e sums h k d l = subst (λ gens. FitsOver p gens (get_or sums k d)) (sym e) (sum_fits-longer p generators others (get_or sums k d) (h k d l))

pub asks_fit-longer : (p : ℕ) (generators new others : List Generator) → new ≡ generators ++ others → (asks : List Ask) → All (λ ask. AskFits p generators ask.kind) asks → All (λ ask. AskFits p new ask.kind) asks
asks_fit-longer p generators new others e asks h k d l = subst (λ gens. AskFits p gens (get_or asks k d).kind) (sym e) (ask_fits-longer p generators others (get_or asks k d).kind (h k d l))
