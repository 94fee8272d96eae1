-- How runs end.
use Rattle.std.proofs.Common.{◌≡◌, ℕ, ◌+◌, ◌≤◌, ⊎_elim, List, ◌++◌, length, Option, Some, None, ap, sym, ◌∙◌, subst, arith, length-append, append-nil}
use Rattle.std.specs.Io.KnownBytes.{Consumes, IsAtEnd}
use Rattle.presentation_text.specs.declared.presentations.TheConstants.{MOST_BYTES}
use Rattle.operad_run.specs.Runs.{Outside, Came, CameTooMany, IsWrittenOut, Wrote, Ends}
use Rattle.operad_run.specs.declared.status.Status.{Status}
use Rattle.operad_run.specs.declared.status.Status.TheVariants.{Done, Refused, Usage, Document, Limit, Budget, ReadFault, WriteFault, NoMemory}

module _ (IsCommand : Type 0) (Says : Status → List ℕ → Type 0) where
  -- no text goes with a failing sink, and none with want of memory
  pub record IsSilent : Type 0 where
    pub write : (text : List ℕ) → Says WriteFault text → ⊥
    pub memory : (text : List ℕ) → Says NoMemory text → ⊥

  written : (meant : Status) (o : Outside) (text : List ℕ) → IsSilent → Says meant text → Wrote o text → Ends IsCommand Says meant o
  written Done o text silent says wrote = (text, says, wrote)
  written Refused o text silent says wrote = (text, says, wrote)
  written Usage o text silent says wrote = (text, says, wrote)
  written Document o text silent says wrote = (text, says, wrote)
  written Limit o text silent says wrote = (text, says, wrote)
  written Budget o text silent says wrote = (text, says, wrote)
  written ReadFault o text silent says wrote = (text, says, wrote)
  written WriteFault o text silent says wrote = absurd (silent.write text says)
  written NoMemory o text silent says wrote = absurd (silent.memory text says)

  -- what is meant is told, or the sink failed
  pub written_ends : (meant status : Status) (o : Outside) (text : List ℕ) → IsSilent → Says meant text
      → IsWrittenOut meant text status o.taken o.taken_now o.write_faults o.write_faults_now → Ends IsCommand Says status o
  written_ends meant status o text silent says contents = ⊎_elim
      (λ whole. subst (λ s. Ends IsCommand Says s o) (sym whole.0) (written meant o text silent says (record { written = whole.1; sound = whole.2 })))
      (λ part. subst (λ s. Ends IsCommand Says s o) (sym part.0) (record { rose = part.1; status = meant; text = text; says = says; part = part.2; less = part.3; written = part.4 }))
      contents

-- what leads to a status with a text leads to more
pub ends_more : {A B : Type 0} (Says Other : Status → List ℕ → Type 0) → (A → B) → ((status : Status) (text : List ℕ) → Says status text → Other status text) → (status : Status) (o : Outside)
    → Ends A Says status o → Ends B Other status o
ends_more Says Other f g Done o e = (e.0, g Done e.0 e.1, e.2)
ends_more Says Other f g Refused o e = (e.0, g Refused e.0 e.1, e.2)
ends_more Says Other f g Usage o e = (e.0, g Usage e.0 e.1, e.2)
ends_more Says Other f g Document o e = (e.0, g Document e.0 e.1, e.2)
ends_more Says Other f g Limit o e = (e.0, g Limit e.0 e.1, e.2)
ends_more Says Other f g Budget o e = (e.0, g Budget e.0 e.1, e.2)
ends_more Says Other f g ReadFault o e = (e.0, g ReadFault e.0 e.1, e.2)
ends_more Says Other f g WriteFault o e = record { rose = e.rose; status = e.status; text = e.text; says = g e.status e.text e.says; part = e.part; less = e.less; written = e.written }
ends_more Says Other f g NoMemory o e = (f e.0, e.1)

-- a text is told to a sink that has taken nothing so far
pub told_since : (meant : Status) (text : List ℕ) (status : Status) (taken begun now : Option (List ℕ)) (faults faults_begun faults_now : ℕ) → begun ≡ taken → faults_begun ≡ faults
    → IsWrittenOut meant text status begun now faults_begun faults_now → IsWrittenOut meant text status taken now faults faults_now
told_since meant text status taken begun now faults faults_begun faults_now e f told =
    subst (λ (x : Option (List ℕ)). IsWrittenOut meant text status x now faults faults_now) e (subst (λ (k : ℕ). IsWrittenOut meant text status begun now k faults_now) f told)

all_consumed : (bytes came : List ℕ) (now : Option (List ℕ)) → Consumes (Some bytes) now came → IsAtEnd now → came ≡ bytes
all_consumed bytes came None h l = absurd h
all_consumed bytes came (Some ys) h l = sym (h ∙ ap (λ rest. came ++ rest) l ∙ append-nil came)

too_few : (bytes came : List ℕ) (now : Option (List ℕ)) → Consumes (Some bytes) now came → length bytes ≤ MOST_BYTES → length came ≡ MOST_BYTES + 1 → ⊥
too_few bytes came None h few many = absurd h
too_few bytes came (Some ys) h few many =
    let len = ap length h ∙ length-append came ys in
    omega (arith, len, few, many)

pub same_bytes : (o : Outside) (bytes came : List ℕ) → o.left ≡ Some bytes → Came o came → came ≡ bytes
same_bytes o bytes came e c = all_consumed bytes came o.left_now (subst (λ left. Consumes left o.left_now came) e c.given) c.all

pub not_too_many : (o : Outside) (bytes : List ℕ) → o.left ≡ Some bytes → length bytes ≤ MOST_BYTES → CameTooMany o → ⊥
not_too_many o bytes e few c = too_few bytes c.bytes o.left_now (subst (λ left. Consumes left o.left_now c.bytes) e c.given) few c.many
