-- The laws of residues and formal sums, proved.
use Rattle.std.proofs.Common.{◌≡◌, ℕ, ◌+◌, ◌*◌, List, [], ◌∷◌, arith, refl, sym, ◌∙◌, subst}
use mathlib.Core.List.{append-nil}
use Rattle.modular_sums.specs.Residues.{IsCongruent}
use Rattle.modular_sums.specs.Sums.{coef, scale, Same, expand, moved}
use Rattle.modular_sums.specs.Laws.{Residues, Sums, Spans, Images, Ranks, AbstractDiamondLemma, Replacements}
use Rattle.modular_sums.proofs.Residues.{congruent_add, congruent_mul, congruent_drop, congruent_cancel}
use Rattle.modular_sums.proofs.Sums.{coef-append, coef-scale, combination-append, combination-scale, combination-same}
use Rattle.modular_sums.proofs.Images.{Same-moved, moved-expand}
use Rattle.modular_sums.proofs.Ranks.{rank_lt, rank_one}
use Rattle.modular_sums.proofs.Diamond.{diamond}
use Rattle.modular_sums.proofs.Replacements.{independent}

pub residue_law : Residues
residue_law q = record {
  reflexive = λ a. refl;
  symmetric = λ a b h. sym h;
  transitive = λ a b c h k. h ∙ k;
  sums = congruent_add q;
  products = congruent_mul q;
  negative = λ a. let e : a + q * a ≡ 0 + (a + q * a) = omega arith in rw e (congruent_drop q 0 a);
  cancelled = congruent_cancel q;
}

pub sum_law : (M : Type 0) → Sums M
sum_law M dec q = record {
  added = coef-append dec;
  scaled = coef-scale dec;
  reflexive = λ e t. refl;
  symmetric = λ e f h t. sym (h t);
  transitive = λ e f g h k t. h t ∙ k t;
  same_added = λ e f g h a b t. rw (coef-append dec e g t, coef-append dec f h t) (congruent_add q (coef dec e t) (coef dec f t) (coef dec g t) (coef dec h t) (a t) (b t));
  same_scaled = λ c e f a t. rw (coef-scale dec c e t, coef-scale dec c f t) (congruent_mul q c c (coef dec e t) (coef dec f t) refl (a t));
}

module _ (M I : Type 0) (dec : Discrete M) (value : I → List (ℕ × M)) (q : ℕ) where
  -- an instance alone is a sum of instances
  instance_of : (i : I) (t : M) → IsCongruent q (coef dec (value i) t) (coef dec (expand value ((1, i) ∷ [])) t)
  unfolding expand coef
  instance_of i t = rw (append-nil (scale 1 (value i)), coef-scale dec 1 (value i) t) (let e : 1 * coef dec (value i) t ≡ coef dec (value i) t = omega arith in rw e refl)

  nothing_of : (t : M) → IsCongruent q (coef dec [] t) (coef dec (expand value []) t)
  unfolding expand
  nothing_of t = refl

pub span_law : (M I : Type 0) → Spans M I
span_law M I dec value q = record {
  instances = λ i. record { uses = (1, i) ∷ []; adds_up = instance_of M I dec value q i };
  none = record { uses = []; adds_up = nothing_of M I dec value q };
  added = λ e f. combination-append dec value q;
  scaled = λ c e. combination-scale dec value q c;
  same = λ e f. combination-same dec value q;
}

pub image_law : (M N I J : Type 0) → Images M N I J
image_law M N I J decm decn q f = (
  Same-moved decm decn q f,
  λ vi vj g h e m. record {
    uses = moved g m.uses;
    adds_up = subst (Same decn q (moved f e)) (moved-expand vi vj f g h m.uses) (Same-moved decm decn q f e (expand vi m.uses) m.adds_up);
  },
)

pub rank_law : (X : Type 0) → Ranks X
rank_law X less trans irrefl l total x y mx my =
    (rank_lt X less trans irrefl l x y mx, rank_one X less trans irrefl l x y mx my (total x y mx my))

pub diamond_law : (M I : Type 0) → AbstractDiamondLemma M I
diamond_law M I dec rank q value lead monic meet one uses = diamond M dec rank q I value lead monic meet one uses

pub replacement_law : (M X Y : Type 0) → Replacements M X Y
replacement_law M X Y = independent
