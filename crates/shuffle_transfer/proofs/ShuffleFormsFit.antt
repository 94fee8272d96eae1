-- There and back between labelled trees and shuffle trees over the labels.
use Rattle.std.proofs.Common.{◌≡◌, ℕ, List, ◌<◌, sym, ◌∙◌, ap, subst}
use Rattle.labelled_trees.specs.Trees.{Tree}
use Rattle.labelled_trees.specs.Leaves.{occurs}
use Rattle.labelled_trees.specs.Labelled.{IsLabelled}
use Rattle.shuffle_insertions.specs.ShuffleTrees.{IsShuffleTree}
use Rattle.operad_ideals.specs.Parts.{Part, parts_of, sign_of}
use Rattle.operad_ideals.specs.Sorting.{spelled}
use Rattle.operad_ideals.specs.Laws.{arity}
use Rattle.labelled_trees.proofs.Numbered.{labelled_once}
use Rattle.shuffle_transfer.specs.Labels.{label, gen, inputs_of, shuffle_form, symmetric_tree}
use Rattle.shuffle_transfer.specs.Laws.{Forth, Back, Spelling}
use Rattle.shuffle_transfer.proofs.Labels.{label_gen}
use Rattle.shuffle_transfer.proofs.Forms.{form_rises, fits-form, occurs-form}
use Rattle.shuffle_transfer.proofs.Signs.{sign-turns}
use Rattle.shuffle_transfer.proofs.Spelling.{back_of, occurs_of, spelled_is}

pub forth : Forth
forth generators n t h = record {
  fits = fits-form (label generators) (arity (parts_of generators)) (gen generators) (label_gen generators) t h.fits (labelled_once h);
  shuffle = record {
    rising = form_rises (label generators) (arity (parts_of generators)) t h.fits (labelled_once h);
    each = λ i a b. occurs-form (label generators) i t ∙ h.each i a b;
    only = λ i o. h.only i (subst (λ k. 0 < k) (occurs-form (label generators) i t) o);
  };
}

-- the tree of a shuffle tree is labelled
pub back_labelled : (generators : List (List Part)) (n : ℕ) (s : Tree ℕ) → IsShuffleTree (inputs_of generators) n s → IsLabelled (arity (parts_of generators)) n (symmetric_tree generators s)
back_labelled generators n s h = record {
  fits = (back_of generators s h.shuffle.rising h.fits).fits;
  each = λ i x y. counts i ∙ h.shuffle.each i x y;
  only = λ i o. h.shuffle.only i (subst (λ k. 0 < k) (counts i) o);
}
  where
    counts : (i : ℕ) → occurs i (symmetric_tree generators s) ≡ occurs i s
    counts i = occurs_of generators s h.shuffle.rising h.fits i

pub back_law : Back
back_law generators n s h =
    let b = back_of generators s h.shuffle.rising h.fits in
    let l = back_labelled generators n s h in (
      l,
      b.form_is,
      sym (sign-turns (parts_of generators) (label generators) (symmetric_tree generators s) l.fits (labelled_once l)) ∙ ap sign_of b.no_turns,
    )

pub spelling : Spelling
spelling generators n t h =
    let e = spelled_is generators t h.fits (labelled_once h) in
    let f = forth generators n t h in
    let back : shuffle_form generators (spelled (parts_of generators) t) ≡ shuffle_form generators t = ap (shuffle_form generators) (sym e) ∙ (back_of generators (shuffle_form generators t) f.shuffle.rising f.fits).form_is in (
      e,
      back,
      λ u k.
          let d : symmetric_tree generators (shuffle_form generators u) ≡ spelled (parts_of generators) u = spelled_is generators u k.fits (labelled_once k) in
          let g = forth generators n u k in (
            λ s. sym e ∙ ap (symmetric_tree generators) s ∙ d,
            λ s. sym back ∙ ap (shuffle_form generators) s ∙ ap (shuffle_form generators) (sym d) ∙ (back_of generators (shuffle_form generators u) g.shuffle.rising g.fits).form_is,
          ),
    )
