use Rattle.std.proofs.Common.{ℕ, List, ◌∙◌, ◌≡◌, ◌<◌, ◌∷◌, length, map, get_or, set, ap, sym, subst}
use mathlib.Core.List.{◌++◌}
use mathlib.Core.Path.{ap₂}
use Rattle.division.specs.Bases.{Basis, IsBasis, IsIndexedBy, first_id, tailed}
use Rattle.division.specs.Roots.{root_of}
use Rattle.tree_store.specs.Stores.{tree_at}
use Rattle.division.proofs.Indexed.{roots_again}
use Rattle.division.proofs.NewTails.{basis_again, replaced_there}
use Rattle.division.proofs.basis.Basis.set_tail.Goals as goal

pub invariant_of-self : goal.invariant_of-self
invariant_of-self g c =
    let els = c.self.inside.elements in
    let at = c.args.at in
    let sum = c.index-as_slice-at.result in
    let made_is : c.set.new.self ≡ set els at (tailed sum c.args.tail) = c.set.ensures ∙ ap (set els at) c.in_ok-made.ensures.made in
    let sum_is : sum ≡ get_or els at sum = c.index-as_slice-at.is ∙ ap (λ l. get_or l at sum) c.as_slice.ensures in
    let within : at < length els = subst (λ (b : Basis). at < length b.elements) (sym c.self.view_is) c.requires.at in
    subst IsBasis (sym made_is) (basis_again els at sum c.args.tail c.self.invariant within sum_is)

pub returns-clause-replaced : goal.returns-clause-replaced
returns-clause-replaced g c = λ front back x old e l.
    let els = c.self.inside.elements in
    let at = c.args.at in
    let sum = c.index-as_slice-at.result in
    let made_is : c.set.new.self ≡ set els at (tailed sum c.args.tail) = c.set.ensures ∙ ap (set els at) c.in_ok-made.ensures.made in
    let sum_is : sum ≡ get_or els at sum = c.index-as_slice-at.is ∙ ap (λ l. get_or l at sum) c.as_slice.ensures in
    let whole : els ≡ front ++ ((x ∷ old) ∷ back) = ap (λ (b : Basis). b.elements) c.self.view_is ∙ e in
    let there : sum ≡ get_or (front ++ ((x ∷ old) ∷ back)) (length front) sum = sum_is ∙ ap₂ (λ k i. get_or k i sum) whole (sym l) in
    made_is ∙ ap₂ (λ k i. set k i (tailed sum c.args.tail)) whole (sym l) ∙ replaced_there front x old back sum c.args.tail there

pub returns-clause-indexed : goal.returns-clause-indexed
returns-clause-indexed g c = λ shelf i.
    let els = c.self.inside.elements in
    let at = c.args.at in
    let sum = c.index-as_slice-at.result in
    let roots = λ (l : List (List (ℕ × ℕ))). map (λ k. root_of (tree_at shelf.trees (first_id k))) l in
    let made_is : c.set.new.self ≡ set els at (tailed sum c.args.tail) = c.set.ensures ∙ ap (set els at) c.in_ok-made.ensures.made in
    let sum_is : sum ≡ get_or els at sum = c.index-as_slice-at.is ∙ ap (λ l. get_or l at sum) c.as_slice.ensures in
    let within : at < length els = subst (λ (b : Basis). at < length b.elements) (sym c.self.view_is) c.requires.at in
    let before : c.self.inside.index ≡ roots els = subst (IsIndexedBy shelf) (sym c.self.view_is) i in
    before ∙ sym (ap roots made_is ∙ roots_again shelf els at sum c.args.tail c.self.invariant.leads.monic within sum_is)
