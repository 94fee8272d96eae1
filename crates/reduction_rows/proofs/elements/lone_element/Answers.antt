use Rattle.std.proofs.Common.{◌∙◌, [], ◌∷◌, ap, subst, sym}
use mathlib.Core.List.{◌++◌}
use Rattle.division.specs.Dividers.{HaveRoom}
use Rattle.division.specs.Gathered.{IsWorking}
use Rattle.reduction_rows.proofs.LoneElement.{one_working, one_room}
use Rattle.reduction_rows.proofs.elements.lone_element.Goals as goal

pub returns-clause-working : goal.returns-clause-working
returns-clause-working c =
    let trees = c.args.store.now in
    let r = c.in_ok-reducer.reducer in
    let one = c.reducers.view_is ∙ c.in_ok-push.ensures.ok ∙ ap (λ rs. rs ++ (r ∷ [])) c.new-reducers.ensures in
    subst (λ rs. IsWorking trees rs c.in_ok-one_group.field-0 [] []) (sym one)
    (subst (λ gs. IsWorking trees (r ∷ []) gs [] []) (sym c.in_ok-one_group.ensures.group) (one_working trees r c.in_ok-reducer.ensures.label c.in_ok-reducer.ensures.store c.in_ok-reducer.ensures.reducer))

pub returns-clause-room : goal.returns-clause-room
returns-clause-room c =
    let r = c.in_ok-reducer.reducer in
    let one = c.reducers.view_is ∙ c.in_ok-push.ensures.ok ∙ ap (λ rs. rs ++ (r ∷ [])) c.new-reducers.ensures in
    subst (λ rs. HaveRoom rs 16) (sym one) (one_room r 16 c.in_ok-reducer.ensures.few)
