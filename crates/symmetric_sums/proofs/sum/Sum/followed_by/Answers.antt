use Rattle.std.proofs.Common.{◌≡◌, ◌⊎◌, inl, inr, sym, [], refl, subst}
use Rattle.symmetric_sums.specs.Terms.{HaveOneArity}
use Rattle.symmetric_sums.proofs.Numberings.{sum-followed}
use Rattle.symmetric_sums.proofs.sum.Sum.followed_by.Goals.{then-is_empty, else-is_empty}
use Rattle.symmetric_sums.proofs.sum.Sum.followed_by.Goals as goal

pub of_terms-requires : goal.of_terms-requires
of_terms-requires c = record {
  sum =
      let have : HaveOneArity c.self.inside.terms c.more.inside.terms =
      subst (λ xs. HaveOneArity xs c.more.inside.terms) (sym c.self.view_is) (subst (HaveOneArity c.args.self) (sym c.more.view_is) c.requires.arity) in
      let cases : ((c.self.inside.terms ≡ []) × (c.if-is_empty.arity ≡ c.more.inside.arity)) ⊎ ((c.self.inside.terms ≡ [] → ⊥) × (c.if-is_empty.arity ≡ c.self.inside.arity)) = elim c.if-is_empty.branch [
        | then-is_empty w ↦ inl (w.if-is_empty.ensures.0 refl, w.arity-is)
        | else-is_empty w ↦ inr ((λ e. cc (w.if-is_empty.ensures.1 e)), w.arity-is)
      ] in
      sum-followed c.self.inside.terms c.more.inside.terms c.append.new.self c.self.inside.arity c.more.inside.arity c.if-is_empty.arity c.self.invariant c.more.invariant have cases c.in_ok-append.ensures;
}
