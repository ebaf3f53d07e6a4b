-- What the reads of a round gave.
use Rattle.std.specs.Prelude.{◌≡◌, ◌⊎◌, ℕ, ◌+◌, List, ◌++◌, Option, None, Some, Result, Ok, Err}
use Rattle.std.specs.Io.KnownBytes.{IsAtEnd}
use Rattle.desk_io.specs.declared.sink.Sink.{Ghosts as OfSink}
use Rattle.desk_io.specs.declared.source.Source.{Ghosts as OfSource}
use Rattle.desk_lines.specs.declared.fault.DeskFault.{DeskFault}
use Rattle.desk_lines.specs.declared.fault.DeskFault.TheVariants.{Read}
use Rattle.desk_lines.specs.Streams.{Gives, FailsOnce, WritesAll}
use Rattle.desk_lines.specs.Told.{Stops}
use Rattle.desk_crew.specs.declared.reading.Stop.{Stop}
use Rattle.desk_crew.specs.declared.reading.Stop.TheVariants.{Full, End, Failed}

-- no read failed, and none found the end
abbrev pub GoesOn : {R : Type 0} → OfSource R → R → R → Type 0
GoesOn source old new = (source.failures new ≡ source.failures old) × (source.ends new ≡ source.ends old)

-- No read failed, and the last found the end.
pub record FindsEnd {R : Type 0} (source : OfSource R) (old new : R) : Type 0 where
  pub not_failed : source.failures new ≡ source.failures old
  pub found : source.ends new ≡ source.ends old + 1
  pub ended : source.is_ended new
  pub none_left : IsAtEnd (source.left new)

-- why a round reads no further, where so many reads are left
abbrev pub IsStoppedBy : {R : Type 0} → OfSource R → R → R → ℕ → Stop → Type 0
IsStoppedBy source old new left Full = GoesOn source old new
IsStoppedBy source old new left End = FindsEnd source old new
IsStoppedBy source old new left Failed = FailsOnce source old new ⊎ ((left ≡ 0) × GoesOn source old new)

-- The reads gave what now stands behind the text.
pub record IsReadOn {R : Type 0} (source : OfSource R) (old new : R) (before after : List ℕ) (left : ℕ) (stop : Stop) : Type 0 where
  pub bytes : List ℕ
  pub gives : Gives source old new bytes
  pub text_is : after ≡ before ++ bytes
  pub stopped : IsStoppedBy source old new left stop

-- What waited is written, and the reads gave what now stands behind the text.
pub record AreMoved {R W : Type 0} (source : OfSource R) (sink : OfSink W) (old new : R) (from to : W) (waiting before after : List ℕ) (left : ℕ) (stop : Stop) : Type 0 where
  pub writes : WritesAll sink from to waiting
  pub read_on : IsReadOn source old new before after left stop

-- What waited is written as far as that was possible, and the reader gave something.
pub record IsStuck {R W : Type 0} (source : OfSource R) (sink : OfSink W) (old new : R) (from to : W) (waiting : List ℕ) (fault : DeskFault) : Type 0 where
  pub bytes : List ℕ
  pub gives : Gives source old new bytes
  pub stops : Stops sink from to fault waiting

-- what the reading of a stream comes to, or none where it goes on
abbrev pub stop_outcome : Stop → Option (Result (Unit {0}) DeskFault)
stop_outcome Full = None
stop_outcome End = Some (Ok tt)
stop_outcome Failed = Some (Err Read)
