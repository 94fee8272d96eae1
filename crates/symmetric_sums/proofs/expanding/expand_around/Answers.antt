use Rattle.std.proofs.Common.{◌≡◌, ◌≢◌, ◌∙◌, ◌⊎◌, ◌<◌, ◌++◌, ◌∷◌, [], ℕ, Some, inl, inr, ap, sym, subst, arith, length, get_or, refl}
use Rattle.std.specs.List.{All}
use Rattle.labelled_trees.specs.Meaning.{tree_of}
use Rattle.symmetric_trees.specs.Trees.{IsLabelled}
use Rattle.labelled_trees.specs.Labelled.{IsNumbered}
use Rattle.symmetric_sums.specs.Terms.{terms_of}
use Rattle.symmetric_sums.specs.Instances.{IsValidInstance, instance_element}
use Rattle.symmetric_sums.specs.Expanding.{HasPlace}
use Rattle.symmetric_sums.specs.declared.term.Term.{Term}
use Rattle.labelled_trees.proofs.Numbered.{numbered_of_labelled}
use Rattle.symmetric_sums.proofs.Expansions.{valid-place, err_is, leaves-named, failed-step, unfit-arity, so_far-step, same_if_some, same_if_none, whole-valid, element-labelled}
use Rattle.symmetric_sums.proofs.expanding.expand_around.Goals.{in-Some+else-others-own, in_default, then-filled-ne0+in_ok-push, else-filled-ne0+in-Node-1, else-filled-ne0+in-Leaf-1, In-Some-arity}
use Rattle.symmetric_sums.proofs.expanding.expand_around.Goals as goal

pub returns-then-not-has_place-clause-answer : goal.returns-then-not-has_place-clause-answer
returns-then-not-has_place-clause-answer c n v = cc (c.if-not-has_place.ensures.place.1 (valid-place c.args.table.now c.args.element.now n c.args.instance.now v))

pub filled_term-requires-clause-numbers : goal.filled_term-requires-clause-numbers
filled_term-requires-clause-numbers c =
    leaves-named c.terms-term-items.result.now (length c.args.instance.now.inputs) c.loop-term.term-index c.term-item.result
    (subst (λ ts. All (λ (t : Term). IsNumbered (length c.args.instance.now.inputs) (tree_of t.tree)) ts) (sym c.terms-term-items.ensures.terms) (c.if-not-has_place.ensures.arity refl)) c.loop-term-test.true c.term-item.is

pub returns-in_err-filled-clause-answer : goal.returns-in_err-filled-clause-answer
returns-in_err-filled-clause-answer c =
    failed-step c.args.field c.args.table.now c.args.instance.now c.args.element.now c.loop-term.term-index c.term-item.result c.in_err-filled.field-0.0 c.from_residual.result
    (subst (λ ts. c.loop-term.term-index < length ts) c.terms-term-items.ensures.terms c.loop-term-test.true)
    (subst (λ ts. c.term-item.result ≡ get_or ts c.loop-term.term-index c.term-item.result) c.terms-term-items.ensures.terms c.term-item.is)
    c.in_err-filled.ensures (err_is c.from_residual.result c.in_err-filled.field-0.0 c.from_residual.ensures.0 c.from_residual.ensures.1)

pub returns-then-others-own-clause-answer : goal.returns-then-others-own-clause-answer
returns-then-others-own-clause-answer c n v =
    unfit-arity c.args.field c.args.table.now c.args.instance.now c.terms-term-items.result.now c.loop-term.terms c.loop-term.arity c.loop-term.term-index c.in-Some.others c.in_ok-filled.own c.term-item.result
    c.loop-term-test.true c.term-item.is c.loop-term.invariant c.in-Some.is c.if-others-own.true
    (subst (IsLabelled c.args.table.now c.in_ok-filled.own) c.in_ok-filled.ensures.1 c.in_ok-filled.ensures.2) n
    (subst (λ ts. IsValidInstance c.args.table.now (terms_of ts) n c.args.instance.now) (sym c.terms-term-items.ensures.terms) v)

pub loop-term-preserved : goal.loop-term-preserved
loop-term-preserved c =
    let same : (m : ℕ) → c.loop-term.arity ≡ Some m → m ≡ c.in_ok-filled.own = elim c.match-arity.branch [
      | in-Some+else-others-own w ↦ same_if_some c.loop-term.arity w.in-Some.others c.in_ok-filled.own w.in-Some.is w.if-others-own.false
      | in_default w ↦ same_if_none c.loop-term.arity c.in_ok-filled.own w.in_default.is
    ] in
    let added : ((c.in_ok-filled.filled.coef ≡ 0) × (c.if-filled-ne0.terms ≡ c.loop-term.terms)) ⊎ ((c.in_ok-filled.filled.coef ≢ 0) × (c.if-filled-ne0.terms ≡ c.loop-term.terms ++ c.in_ok-filled.filled ∷ [])) = elim c.if-filled-ne0.branch [
      | then-filled-ne0+in_ok-push w ↦ inr (w.if-filled-ne0.true, w.terms-is ∙ w.in_ok-push.ensures.ok)
      | else-filled-ne0+in-Node-1 w ↦ inl (w.if-filled-ne0.false, w.terms-is)
      | else-filled-ne0+in-Leaf-1 w ↦ inl (w.if-filled-ne0.false, w.terms-is)
    ] in
    so_far-step c.args.field c.args.table.now c.args.instance.now c.terms-term-items.result.now c.loop-term.terms c.if-filled-ne0.terms c.loop-term.arity c.loop-term.term-index c.in_ok-filled.own c.term-item.result c.in_ok-filled.filled
    c.loop-term-test.true c.term-item.is (omega (arith, c.requires.coef)) c.loop-term.invariant same c.in_ok-filled.ensures.0 c.in_ok-filled.ensures.1 c.in_ok-filled.ensures.2 added

-- what the loop leaves
whole : (c : In-Some-arity) → IsValidInstance c.args.table.now (terms_of c.args.element.now) c.in-Some-arity.arity c.args.instance.now × (terms_of c.loop-term.terms ≡ instance_element c.args.field (terms_of c.args.element.now) c.args.instance.now)
whole c =
    subst (λ ts. IsValidInstance c.args.table.now (terms_of ts) c.in-Some-arity.arity c.args.instance.now × (terms_of c.loop-term.terms ≡ instance_element c.args.field (terms_of ts) c.args.instance.now)) c.terms-term-items.ensures.terms
    (whole-valid c.args.field c.args.table.now c.args.instance.now c.terms-term-items.result.now c.loop-term.terms c.loop-term.arity c.loop-term.term-index c.in-Some-arity.arity c.loop-term-test.false
    (subst (λ ts. HasPlace ts c.args.instance.now) (sym c.terms-term-items.ensures.terms) (c.if-not-has_place.ensures.place.0 refl)) c.loop-term.invariant c.in-Some-arity.is)

-- the trees that it leaves
labelled_terms : (c : In-Some-arity) → All (λ t. IsLabelled c.args.table.now c.in-Some-arity.arity (tree_of t.tree)) c.loop-term.terms
labelled_terms c =
    let w = whole c in
    element-labelled c.args.field c.args.table.now c.args.instance.now (terms_of c.args.element.now) c.loop-term.terms c.in-Some-arity.arity w.0.labelled w.1

pub with_arity-requires-clause-arity : goal.with_arity-requires-clause-arity
with_arity-requires-clause-arity c k d l = numbered_of_labelled (labelled_terms c k d l)

pub returns-clause-answer : goal.returns-clause-answer
returns-clause-answer c =
    let w = whole (goal.at.returns-clause-answer c).In-Some-arity in
    (w.0, ap terms_of c.with_arity.ensures.terms ∙ w.1)

pub returns-clause-labelled : goal.returns-clause-labelled
returns-clause-labelled c =
    subst (All (λ (t : Term). IsLabelled c.args.table.now c.in-Some-arity.arity (tree_of t.tree))) (sym c.with_arity.ensures.terms) (labelled_terms (goal.at.returns-clause-labelled c).In-Some-arity)
