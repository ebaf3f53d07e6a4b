-- What calls on a reader and a writer did.
use Rattle.std.specs.Prelude.{◌≡◌, ◌≢◌, ℕ, ◌+◌, ◌≤◌, ◌⊎◌, List, [], ◌++◌, Result, Ok, Err}
use Rattle.std.specs.Io.KnownBytes.{Appends, Consumes, IsAtEnd}
use Rattle.desk_io.specs.declared.sink.Sink.{Ghosts as OfSink}
use Rattle.desk_io.specs.declared.source.Source.{Ghosts as OfSource}
use Rattle.desk_lines.specs.declared.fault.DeskFault.{DeskFault}
use Rattle.desk_lines.specs.declared.fault.DeskFault.TheVariants.{Write}
use Rattle.desk_lines.specs.Lines.{ended_lines, lines}

-- text begins with front and goes on
abbrev pub IsProperFront : List ℕ → List ℕ → Type 0
IsProperFront front text = (rest : List ℕ) × (text ≡ front ++ rest) × (rest ≢ [])

-- All of the text was written, and the writer did not fail.
pub record WritesAll {W : Type 0} (sink : OfSink W) (old new : W) (text : List ℕ) : Type 0 where
  pub appended : sink.written new ≡ sink.written old ++ text
  pub held : Appends (sink.contents old) (sink.contents new) text
  pub not_failed : sink.failures new ≡ sink.failures old

-- A front of the text was written, not all of it, and then one call failed: nothing was written on.
pub record StopsWriting {W : Type 0} (sink : OfSink W) (old new : W) (text : List ℕ) : Type 0 where
  pub front : List ℕ
  pub is_front : IsProperFront front text
  pub appended : sink.written new ≡ sink.written old ++ front
  pub held : Appends (sink.contents old) (sink.contents new) front
  pub failed : sink.failures new ≡ sink.failures old + 1

-- a text was written, or its writing stopped
abbrev pub Writes : {W T : Type 0} → OfSink W → W → W → Result T DeskFault → List ℕ → Type 0
Writes sink old new (Ok value) text = WritesAll sink old new text
Writes sink old new (Err fault) text = (fault ≡ Write) × StopsWriting sink old new text

-- The reader gave this text.
pub record Gives {R : Type 0} (source : OfSource R) (old new : R) (text : List ℕ) : Type 0 where
  pub appended : source.given new ≡ source.given old ++ text
  pub taken : Consumes (source.left old) (source.left new) text

-- The reader gave this text with no failed call, and then found its end, once.
pub record GivesAll {R : Type 0} (source : OfSource R) (old new : R) (text : List ℕ) : Type 0 where
  pub gives : Gives source old new text
  pub ended : source.is_ended new
  pub found : source.ends new ≡ source.ends old + 1
  pub none_left : IsAtEnd (source.left new)
  pub not_failed : source.failures new ≡ source.failures old

-- a reader that was read so often and gave no end counts as failed
abbrev pub most_reads : ℕ
most_reads = 4294967295

-- the reader was not read oftener than that
abbrev pub IsReadWithin : {R : Type 0} → OfSource R → R → R → Type 0
IsReadWithin source old new = source.calls new ≤ source.calls old + most_reads

-- The reader was read as often as it may be, and none of these reads failed or found the end.
pub record GoesOn {R : Type 0} (source : OfSource R) (old new : R) : Type 0 where
  pub calls : source.calls new ≡ source.calls old + most_reads
  pub no_end : source.ends new ≡ source.ends old
  pub not_failed : source.failures new ≡ source.failures old

-- One call failed, and none found the end: nothing was read on.
pub record FailsOnce {R : Type 0} (source : OfSource R) (old new : R) : Type 0 where
  pub failed : source.failures new ≡ source.failures old + 1
  pub no_end : source.ends new ≡ source.ends old

-- a call failed, or no call found the end
abbrev pub FailsOrGoesOn : {R : Type 0} → OfSource R → R → R → Type 0
FailsOrGoesOn source old new = FailsOnce source old new ⊎ GoesOn source old new

-- The whole lines of a text: those that a line feed ends, and where the text has ended the last line too.
abbrev pub AreWhole : Type 0 → List ℕ → List (List ℕ) → Type 0
AreWhole is_ended text whole = (whole ≡ ended_lines text) ⊎ (is_ended × (whole ≡ lines text))
