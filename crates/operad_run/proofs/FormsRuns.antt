-- How runs of `operad` end.
use Rattle.std.proofs.Common.{◌≡◌, ℕ, ◌+◌, inl, inr, ⊎_elim, List, [], get_or, refl, ap, sym, ◌∙◌, subst, arith}
use Rattle.operad_run.specs.Commands.{IsForms, IsCommand}
use Rattle.operad_run.specs.FormsAnswers.{FormsTells}
use Rattle.operad_run.specs.Runs.{Outside, Came, IsWrittenOut, Ends, SaysUnread}
use Rattle.operad_run.specs.FormsRuns.{FormsSays, FormsRunIsComplete, IsFormsRun}
use Rattle.operad_run.specs.declared.status.Status.{Status}
use Rattle.operad_run.specs.declared.status.Status.TheVariants.{Done, Refused, Usage, Document, Limit, Budget, ReadFault, WriteFault, NoMemory}
use Rattle.operad_run.proofs.OneTelling.{free_or_refused, free_or_wide}
use Rattle.operad_run.proofs.Runs.{written_ends, ends_more, same_bytes, not_too_many}

one_arity : (words : List (List ℕ)) (n m : ℕ) → IsForms words n → IsForms words m → n ≡ m
one_arity words n m h g =
    let same = sym h.words_are ∙ g.words_are in
    let digits : 48 + n ≡ 48 + m = ap (λ ws. get_or (get_or ws 1 []) 0 0) same in
    omega (arith, digits)

-- a document without a fault is answered
complete_from_ends : (status : Status) (words : List (List ℕ)) (o : Outside) → Ends (IsCommand words) (FormsSays words o) status o → FormsRunIsComplete status words o
complete_from_ends Done words o ends n bytes document h e few d within r w = inl refl
complete_from_ends NoMemory words o ends n bytes document h e few d within r w = inr refl
complete_from_ends Usage words o ends n bytes document h e few d within r w = absurd (ends.1.0 (n, h))
complete_from_ends ReadFault words o ends n bytes document h e few d within r w = absurd (r ends.1.1)
complete_from_ends WriteFault words o ends n bytes document h e few d within r w = absurd (w ends.rose)
complete_from_ends Limit words o ends n bytes document h e few d within r w = absurd (⊎_elim
    (λ long. not_too_many o bytes e few long.1)
    (λ wide.
    let arity = one_arity words n wide.0 h wide.1 in
    let same = same_bytes o bytes wide.2 e wide.3 in
    free_or_wide bytes n document ends.0 d within (subst (λ b. FormsTells b n Limit ends.0) same (subst (λ m. FormsTells wide.2 m Limit ends.0) (sym arity) wide.4)))
    ends.1)
complete_from_ends Document words o ends n bytes document h e few d within r w =
    let says = ends.1 in
    let same = same_bytes o bytes says.2 e says.3 in
    absurd (free_or_refused bytes document ends.0 d (subst (λ b. FormsTells b says.0 Document ends.0) same says.4))
complete_from_ends Refused words o ends n bytes document h e few d within r w = absurd ends.1
complete_from_ends Budget words o ends n bytes document h e few d within r w = absurd ends.1

-- what a text tells is said by the run
pub says_of : (words : List (List ℕ)) (o : Outside) (n : ℕ) (bytes : List ℕ) (status : Status) (text : List ℕ) → IsForms words n → Came o bytes → FormsTells bytes n status text → FormsSays words o status text
says_of words o n bytes Done text w came t = (n, w, bytes, came, t)
says_of words o n bytes Document text w came t = (n, w, bytes, came, t)
says_of words o n bytes Limit text w came t = inr (n, w, bytes, came, t)
says_of words o n bytes Refused text w came t = absurd t
says_of words o n bytes Usage text w came t = absurd t
says_of words o n bytes Budget text w came t = absurd t
says_of words o n bytes ReadFault text w came t = absurd t
says_of words o n bytes WriteFault text w came t = absurd t
says_of words o n bytes NoMemory text w came t = absurd t

pub written_is_run : (meant status : Status) (words : List (List ℕ)) (o : Outside) (text : List ℕ) → FormsSays words o meant text
    → IsWrittenOut meant text status o.taken o.taken_now o.write_faults o.write_faults_now → IsFormsRun status words o
written_is_run meant status words o text says contents =
    let ends = written_ends (IsCommand words) (FormsSays words o) meant status o text (record { write = λ t s. s; memory = λ t s. s }) says contents in
    record { ends = ends; complete = complete_from_ends status words o ends }

-- a run that ends without bytes
unread_is_said : (words : List (List ℕ)) (o : Outside) → IsCommand words → (status : Status) (text : List ℕ) → SaysUnread o status text → FormsSays words o status text
unread_is_said words o command ReadFault text says = (command, says.0, says.1)
unread_is_said words o command Limit text says = inl (command, says.0, says.1)
unread_is_said words o command Done text says = absurd says
unread_is_said words o command Refused text says = absurd says
unread_is_said words o command Usage text says = absurd says
unread_is_said words o command Document text says = absurd says
unread_is_said words o command Budget text says = absurd says
unread_is_said words o command WriteFault text says = absurd says
unread_is_said words o command NoMemory text says = absurd says

pub unread_is_run : (status : Status) (words : List (List ℕ)) (o : Outside) → IsCommand words → Ends (Unit {0}) (SaysUnread o) status o → IsFormsRun status words o
unread_is_run status words o command unread =
    let ends = ends_more (SaysUnread o) (FormsSays words o) (λ _. command) (unread_is_said words o command) status o unread in
    record { ends = ends; complete = complete_from_ends status words o ends }
