-- How far a stream is answered.
use Rattle.std.specs.Prelude.{◌≡◌, ℕ, List, ◌++◌}
use Rattle.riichi_hand.specs.Rules.{Rules}
use Rattle.desk_lines.specs.declared.fault.DeskFault.{DeskFault}
use Rattle.desk_lines.specs.declared.fault.DeskFault.TheVariants.{Read, Write, Memory}
use Rattle.desk_lines.specs.declared.report.TextReport.{TextReport}
use Rattle.desk_lines.specs.Lines.{ended_lines}
use Rattle.desk_lines.specs.Reading.{kept}
use Rattle.desk_lines.specs.Records.{AnswerKind, AnswerRecords, rules_after}
use Rattle.desk_lines.specs.Slips.{text_report}
use Rattle.desk_lines.specs.Streams.{Gives, AreWhole, WritesAll, FailsOrGoesOn}
use Rattle.desk_lines.specs.Told.{Stops}
use Rattle.desk_lines.specs.Telling.{text_of}
use Rattle.desk_io.specs.declared.sink.Sink.{Ghosts as OfSink}
use Rattle.desk_io.specs.declared.source.Source.{Ghosts as OfSource}
use Rattle.desk_crew.specs.declared.standing.Standing.{Standing}
use Rattle.desk_crew.specs.Pieces.{stream_tally}

-- These lines are answered, the answers written and counted.
pub record IsAnswered {W : Type 0} (May : AnswerKind) (sink : OfSink W) (start new : W) (given : Rules) (lines : List (List ℕ)) (report : TextReport) : Type 0 where
  pub told : List (List ℕ)
  pub are_told : AnswerRecords May given lines told
  pub writes : WritesAll sink start new (text_of told)
  pub report_is : report ≡ text_report given lines

-- The same, where the profile is known that they have set.
pub record Stands {W : Type 0} (May : AnswerKind) (sink : OfSink W) (start : W) (given : Rules) (lines : List (List ℕ)) (now : Standing) (writer : W) : Type 0 where
  pub told : List (List ℕ)
  pub are_told : AnswerRecords May given lines told
  pub writes : WritesAll sink start writer (text_of told)
  pub tally_is : now.tally ≡ stream_tally given lines
  pub profile : now.profile ≡ rules_after given lines

-- These lines are answered and counted, and their answers written but for the last, which wait.
pub record Waits {W : Type 0} (May : AnswerKind) (sink : OfSink W) (start : W) (given : Rules) (lines : List (List ℕ)) (now : Standing) (writer : W) (waiting : List ℕ) : Type 0 where
  pub told : List (List ℕ)
  pub are_told : AnswerRecords May given lines told
  pub written : List ℕ
  pub parts : text_of told ≡ written ++ waiting
  pub writes : WritesAll sink start writer written
  pub tally_is : now.tally ≡ stream_tally given lines
  pub profile : now.profile ≡ rules_after given lines

-- The first of these lines are answered, and their answers written as far as that was possible.
pub record Stopped {W : Type 0} (May : AnswerKind) (sink : OfSink W) (start new : W) (given : Rules) (lines : List (List ℕ)) (fault : DeskFault) : Type 0 where
  pub first : List (List ℕ)
  pub others : List (List ℕ)
  pub parts : lines ≡ first ++ others
  pub told : List (List ℕ)
  pub are_told : AnswerRecords May given first told
  pub stops : Stops sink start new fault (text_of told)

-- The reader gave this text: its lines that have ended are answered, and a front of what comes after them is held.
pub record IsBetween {R W : Type 0} (May : AnswerKind) (source : OfSource R) (sink : OfSink W) (from : R) (start : W) (given : Rules) (text held : List ℕ) (now : Standing) (reader : R) (writer : W) : Type 0 where
  pub gives : Gives source from reader text
  pub is_held : held ≡ kept 8194 text
  pub stands : Stands May sink start given (ended_lines text) now writer

-- The reader gave this text and what is at hand beside the front of a line: the lines of the text that have ended are answered.
pub record IsAhead {R W : Type 0} (May : AnswerKind) (source : OfSource R) (sink : OfSink W) (from : R) (start : W) (given : Rules) (text hand : List ℕ) (now : Standing) (waiting : List ℕ) (reader : R) (writer : W) : Type 0 where
  pub bytes : List ℕ
  pub gives : Gives source from reader (text ++ bytes)
  pub hand_is : hand ≡ kept 8194 text ++ bytes
  pub waits : Waits May sink start given (ended_lines text) now writer waiting

-- Of the whole lines that the reader gave the first are answered.
pub record IsGivenUp {R W : Type 0} (May : AnswerKind) (source : OfSource R) (sink : OfSink W) (from reader : R) (start writer : W) (given : Rules) (fault : DeskFault) : Type 0 where
  pub text : List ℕ
  pub whole : List (List ℕ)
  pub gives : Gives source from reader text
  pub are_whole : AreWhole (source.is_ended reader) text whole
  pub stopped : Stopped May sink start writer given whole fault

-- The lines that had ended before a read failed are answered.
pub record IsUnread {R W : Type 0} (May : AnswerKind) (source : OfSource R) (sink : OfSink W) (from reader : R) (start writer : W) (given : Rules) : Type 0 where
  pub failed : FailsOrGoesOn source from reader
  pub text : List ℕ
  pub told : List (List ℕ)
  pub gives : Gives source from reader text
  pub are_told : AnswerRecords May given (ended_lines text) told
  pub writes : WritesAll sink start writer (text_of told)

-- how far a stream is answered that was left with a fault
abbrev pub IsLeft : {R W : Type 0} → AnswerKind → OfSource R → OfSink W → R → R → W → W → Rules → DeskFault → Type 0
IsLeft May source sink from reader start writer given Read = IsUnread May source sink from reader start writer given
IsLeft May source sink from reader start writer given Write = IsGivenUp May source sink from reader start writer given Write
IsLeft May source sink from reader start writer given Memory = IsGivenUp May source sink from reader start writer given Memory
