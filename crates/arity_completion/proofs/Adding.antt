-- Lists of uses that add up.
use Rattle.std.proofs.Common.{◌≡◌, ℕ, suc, ◌-◌, ◌*◌, ◌%◌, ◌<◌, List, [], ◌∷◌, ◌++◌, refl, sym, ap, ◌∙◌, arith}
use Rattle.std.proofs.lemmas.List.Elements.{All-append, All-from_recursion, recursion_from_All}
use Rattle.modular_sums.specs.Residues.{IsCongruent}
use Rattle.modular_sums.specs.Sums.{coef, scale, Same}
use Rattle.modular_sums.proofs.Residues.{congruent_mul}
use Rattle.modular_sums.proofs.Sums.{coef-append, coef-scale}
use Rattle.labelled_trees.specs.Trees.{Tree}
use Rattle.labelled_trees.specs.Equality.{tree_discrete}
use Rattle.symmetric_trees.specs.declared.generators.Generator.{Generator}
use Rattle.symmetric_sums.specs.Instances.{in_place}
use Rattle.symmetric_sums.specs.Membership.{presentation_of}
use Rattle.symmetric_sums.specs.declared.term.Term.{Term}
use Rattle.symmetric_sums.specs.declared.instance.Instance.{Instance}
use Rattle.symmetric_sums.specs.Uses.{IsGoodUse, cited}
use Rattle.logged_steps.specs.Standing.{StandsFor}
use Rattle.logged_steps.specs.Uses.{UsesStandFor, total}
use Rattle.logged_steps.proofs.Standing.{same-append}
use Rattle.modular_sums.specs.Sums.{moved}
use Rattle.arity_completion.specs.Uses.{AddUpTo}

-- multiples of sums that are the same, by alike factors
pub same_multiples : (q a b : ℕ) (l : List (ℕ × Tree ℕ)) → IsCongruent q a b → Same tree_discrete q (scale a l) (scale b l)
same_multiples q a b l h t =
    ap (λ n. n % suc q) (coef-scale tree_discrete a l t) ∙ congruent_mul q a b (coef tree_discrete l t) (coef tree_discrete l t) h refl
    ∙ ap (λ n. n % suc q) (sym (coef-scale tree_discrete b l t))

-- multiples of two lists, one behind the other
pub scale_both : (c : ℕ) (a b : List (ℕ × Tree ℕ)) → scale c a ++ scale c b ≡ scale c (a ++ b)
unfolding scale
scale_both c [] b = refl
scale_both c (x ∷ a) b = ap (λ l. (c * x.0, x.1) ∷ l) (scale_both c a b)

module _ (m : ℕ) (generators : List Generator) (rels earlier : List (List Term)) (n : ℕ) where
  pub add_none : AddUpTo m generators rels earlier n [] []
  add_none = record { parts = []; stand = tt; coefs = All-from_recursion (λ (item : Instance). item.coef < m) [] tt; same = λ t. refl }

  pub add_same : (uses : List Instance) (l k : List (ℕ × Tree ℕ)) → Same tree_discrete (m - 1) l k → AddUpTo m generators rels earlier n uses l → AddUpTo m generators rels earlier n uses k
  add_same uses l k s h = record { parts = h.parts; stand = h.stand; coefs = h.coefs; same = λ t. h.same t ∙ s t }

  -- one use more
  pub add_one : (item : Instance) (uses : List Instance) (l k : List (ℕ × Tree ℕ)) → item.coef < m → IsGoodUse m generators rels earlier n item
      → StandsFor (presentation_of m generators rels) n (moved (in_place item) (cited m generators rels earlier item)) l → AddUpTo m generators rels earlier n uses k
      → AddUpTo m generators rels earlier n (item ∷ uses) (scale item.coef l ++ k)
  add_one item uses l k small good stands h = record {
    parts = l ∷ h.parts;
    stand = (good, stands, h.stand);
    coefs = All-from_recursion (λ (item : Instance). item.coef < m) (item ∷ uses) (small, recursion_from_All (λ (item : Instance). item.coef < m) uses h.coefs);
    same = same-append (m - 1) (scale item.coef l) (total uses h.parts) (scale item.coef l) k (λ t. refl) h.same;
  }

  stand_both : (a b : List Instance) (k l : List (List (ℕ × Tree ℕ))) → UsesStandFor m generators rels earlier n a k → UsesStandFor m generators rels earlier n b l → UsesStandFor m generators rels earlier n (a ++ b) (k ++ l)
  stand_both [] b [] l g h = h
  stand_both [] b (x ∷ k) l g h = absurd g
  stand_both (x ∷ a) b [] l g h = absurd g
  stand_both (x ∷ a) b (y ∷ k) l g h = (g.0, g.1, stand_both a b k l g.2 h)

  total_both : (q : ℕ) (a b : List Instance) (k l : List (List (ℕ × Tree ℕ))) → UsesStandFor m generators rels earlier n a k → Same tree_discrete q (total (a ++ b) (k ++ l)) (total a k ++ total b l)
  total_both q [] b [] l g t = refl
  total_both q [] b (x ∷ k) l g t = absurd g
  total_both q (x ∷ a) b [] l g t = absurd g
  total_both q (x ∷ a) b (y ∷ k) l g t =
      same-append q (scale x.coef y) (total (a ++ b) (k ++ l)) (scale x.coef y) (total a k ++ total b l) (λ u. refl) (total_both q a b k l g.2) t
      ∙ ap (λ c. c % suc q) (both t)
    where
      both : (t : Tree ℕ) → coef tree_discrete (scale x.coef y ++ (total a k ++ total b l)) t ≡ coef tree_discrete ((scale x.coef y ++ total a k) ++ total b l) t
      both t =
          let one = coef-append tree_discrete (scale x.coef y) (total a k ++ total b l) t in
          let two = coef-append tree_discrete (total a k) (total b l) t in
          let three = coef-append tree_discrete (scale x.coef y ++ total a k) (total b l) t in
          let four = coef-append tree_discrete (scale x.coef y) (total a k) t in
          omega (arith, one, two, three, four)

  -- two lists of uses
  pub add_both : (a b : List Instance) (k l : List (ℕ × Tree ℕ)) → AddUpTo m generators rels earlier n a k → AddUpTo m generators rels earlier n b l → AddUpTo m generators rels earlier n (a ++ b) (k ++ l)
  add_both a b k l g h = record {
    parts = g.parts ++ h.parts;
    stand = stand_both a b g.parts h.parts g.stand h.stand;
    coefs = All-append (λ (item : Instance). item.coef < m) a b g.coefs h.coefs;
    same = λ t. total_both (m - 1) a b g.parts h.parts g.stand t ∙ same-append (m - 1) (total a g.parts) (total b h.parts) k l g.same h.same t;
  }
