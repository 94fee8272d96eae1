-- What a clause reads of a reader or a writer of std whose faults are counted.
use Rattle.std.specs.Prelude.{ℕ, List, Option, Result, MatchResult, take}
use Rattle.std.specs.Io.KnownBytes.{Appends}
use Rattle.outside_io.specs.declared.real.RealSource.{RealSource}
use Rattle.outside_io.specs.declared.real.RealSink.{RealSink}

-- the reader of std
abbrev pub inner_reader : {R : Type 0} → RealSource R → R
inner_reader source = source.inner

-- how often the source failed
abbrev pub source_faults : {R : Type 0} → RealSource R → ℕ
source_faults source = source.faults

-- the writer of std
abbrev pub inner_writer : {W : Type 0} → RealSink W → W
inner_writer sink = sink.inner

-- how often the sink failed
abbrev pub sink_faults : {W : Type 0} → RealSink W → ℕ
sink_faults sink = sink.faults

-- a writer of std appended the first n bytes of the piece at Ok(n), and a first part of it at a refusal
abbrev pub PassesOn : {E : Type 0} → Option (List ℕ) → Option (List ℕ) → Result ℕ E → List ℕ → Type 0
PassesOn old new result piece = MatchResult result (λ n. Appends old new (take n piece)) (λ _. (n : ℕ) × Appends old new (take n piece))
