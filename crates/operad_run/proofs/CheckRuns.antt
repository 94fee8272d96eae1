-- How runs of `operad_check` end.
use Rattle.std.proofs.Common.{ℕ, ◌++◌, inl, inr, List, ◌∷◌, refl, subst}
use Rattle.operad_answers.specs.Verdicts.{Holds}
use Rattle.operad_run.specs.CheckedTexts.{IsReadWithBlocks, IsFirstRefusedLine, IsAccepted, IsCheckRefusal, CheckTells}
use Rattle.operad_run.specs.Runs.{Outside, Came, IsWrittenOut, Ends, SaysUnread}
use Rattle.operad_run.specs.CheckRuns.{IsMemberWord, CheckSays, CheckRunIsComplete, IsCheckRun}
use Rattle.operad_run.specs.declared.status.Status.{Status}
use Rattle.operad_run.specs.declared.status.Status.TheVariants.{Done, Refused, Usage, Document, Limit, Budget, ReadFault, WriteFault, NoMemory}
use Rattle.operad_answers.proofs.Bounds.{in_the_middle}
use Rattle.operad_run.proofs.OneVerdict.{never_faulty, all_hold_over}
use Rattle.operad_run.proofs.Runs.{written_ends, ends_more, same_bytes, not_too_many}

-- a text whose blocks hold is accepted, and one whose blocks don't is refused
complete_from_ends : (status : Status) (words : List (List ℕ)) (o : Outside) → Ends (IsMemberWord words) (CheckSays words o) status o → CheckRunIsComplete status words o
complete_from_ends Done words o ends bytes document blocks w e few c r s =
    let says = ends.1 in
    let accepted : IsAccepted says.1 ends.0 = says.3 in
    let same = same_bytes o bytes says.1 e says.2 in
    let other = subst (λ b. IsReadWithBlocks b accepted.document accepted.blocks) same accepted.certified in
    let held = all_hold_over bytes accepted.document document accepted.blocks blocks other c accepted.hold in
    (λ all. inl refl, λ none. absurd (none held))
complete_from_ends NoMemory words o ends bytes document blocks w e few c r s = (λ all. inr refl, λ none. inr refl)
complete_from_ends Refused words o ends bytes document blocks w e few c r s =
    let says = ends.1 in
    let refused : IsCheckRefusal says.1 ends.0 = says.3 in
    let same = same_bytes o bytes says.1 e says.2 in
    let all_blocks = refused.front ++ refused.block ∷ refused.others in
    let other = subst (λ b. IsReadWithBlocks b refused.document all_blocks) same refused.certified in (
      λ all.
          let held = all_hold_over bytes document refused.document blocks all_blocks c other all in
          absurd (refused.fails (in_the_middle (Holds refused.document) refused.front refused.others refused.block held)),
      λ none. inl refl,
    )
complete_from_ends Usage words o ends bytes document blocks w e few c r s = absurd (ends.1.0 w)
complete_from_ends ReadFault words o ends bytes document blocks w e few c r s = absurd (r ends.1.1)
complete_from_ends WriteFault words o ends bytes document blocks w e few c r s = absurd (s ends.rose)
complete_from_ends Limit words o ends bytes document blocks w e few c r s = absurd (not_too_many o bytes e few ends.1.1)
complete_from_ends Document words o ends bytes document blocks w e few c r s =
    let says = ends.1 in
    let same = same_bytes o bytes says.1 e says.2 in
    let fault : CheckTells says.1 Document ends.0 = says.3 in
    absurd (never_faulty bytes document blocks fault.0 fault.1 c (subst (λ b. IsFirstRefusedLine b fault.0 fault.1) same fault.2))
complete_from_ends Budget words o ends bytes document blocks w e few c r s = absurd ends.1

pub written_is_run : (meant status : Status) (words : List (List ℕ)) (o : Outside) (text : List ℕ) → CheckSays words o meant text
    → IsWrittenOut meant text status o.taken o.taken_now o.write_faults o.write_faults_now → IsCheckRun status words o
written_is_run meant status words o text says contents =
    let ends = written_ends (IsMemberWord words) (CheckSays words o) meant status o text (record { write = λ t s. s; memory = λ t s. s }) says contents in
    record { ends = ends; complete = complete_from_ends status words o ends }

-- what a text tells is said by the run
pub says_of : (words : List (List ℕ)) (o : Outside) (bytes : List ℕ) (status : Status) (text : List ℕ) → IsMemberWord words → Came o bytes → CheckTells bytes status text → CheckSays words o status text
says_of words o bytes Done text w came t = (w, bytes, came, t)
says_of words o bytes Refused text w came t = (w, bytes, came, t)
says_of words o bytes Document text w came t = (w, bytes, came, t)
says_of words o bytes Usage text w came t = absurd t
says_of words o bytes Limit text w came t = absurd t
says_of words o bytes Budget text w came t = absurd t
says_of words o bytes ReadFault text w came t = absurd t
says_of words o bytes WriteFault text w came t = absurd t
says_of words o bytes NoMemory text w came t = absurd t

-- a run that ends without bytes
unread_is_said : (words : List (List ℕ)) (o : Outside) → IsMemberWord words → (status : Status) (text : List ℕ) → SaysUnread o status text → CheckSays words o status text
unread_is_said words o word ReadFault text says = (word, says.0, says.1)
unread_is_said words o word Limit text says = (word, says.0, says.1)
unread_is_said words o word Done text says = absurd says
unread_is_said words o word Refused text says = absurd says
unread_is_said words o word Usage text says = absurd says
unread_is_said words o word Document text says = absurd says
unread_is_said words o word Budget text says = absurd says
unread_is_said words o word WriteFault text says = absurd says
unread_is_said words o word NoMemory text says = absurd says

pub unread_is_run : (status : Status) (words : List (List ℕ)) (o : Outside) → IsMemberWord words → Ends (Unit {0}) (SaysUnread o) status o → IsCheckRun status words o
unread_is_run status words o word unread =
    let ends = ends_more (SaysUnread o) (CheckSays words o) (λ _. word) (unread_is_said words o word) status o unread in
    record { ends = ends; complete = complete_from_ends status words o ends }
