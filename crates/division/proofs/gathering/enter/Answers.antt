use Rattle.std.proofs.Common.{◌^◌, ◌∷◌, [], ◌∙◌, Some, set, sym, subst, arith}
use mathlib.Core.Path.{ap₂}
use mathlib.Core.List.{◌++◌}
use Rattle.division.specs.Gathered.{CameFrom, ArePlaces}
use Rattle.division.proofs.Meeting.{came_pushed, enter_places}
use Rattle.division.proofs.FewIds.{few_places}
use Rattle.division.proofs.gathering.enter.Goals as goal

pub overflow_cast-place : goal.overflow_cast-place
overflow_cast-place c = let few = few_places c.args.places.now c.args.ids.now (2 ^ 31) c.requires.places c.requires.low in let l = c.len-place.ensures in omega (arith, few, l)

pub returns-clause-places : goal.returns-clause-places
returns-clause-places c =
    subst (ArePlaces c.set.new.self) (sym c.in_ok-push.ensures.ok)
    (subst (λ l. ArePlaces l (c.args.ids.now ++ (c.args.id ∷ []))) (sym (c.set.ensures ∙ ap₂ (λ i n. set c.args.places.now i (Some n)) c.index.ensures.index c.len-place.ensures))
    (enter_places c.args.places.now c.args.ids.now c.args.id c.requires.places c.requires.room c.requires.new))

pub returns-clause-only : goal.returns-clause-only
returns-clause-only c = subst (λ l. CameFrom c.args.ids.now l (c.args.id ∷ [])) (sym c.in_ok-push.ensures.ok) (came_pushed c.args.ids.now c.args.id)
