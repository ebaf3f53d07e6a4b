-- The answers to a stream so far.
use Rattle.std.specs.Prelude.{◌≡◌, ℕ, ◌+◌, List, ◌∷◌, ◌++◌, length}
use Rattle.desk_io.specs.declared.sink.Sink.{Ghosts as OfSink}
use Rattle.desk_lines.specs.declared.fault.DeskFault.{DeskFault}
use Rattle.desk_lines.specs.declared.fault.DeskFault.TheVariants.{Read, Write, Memory}
use Rattle.desk_lines.specs.declared.report.DeskReport.{DeskReport}
use Rattle.desk_lines.specs.declared.teller.Teller.{Ghosts as OfTeller}
use Rattle.desk_lines.specs.declared.told.Told.{Told}
use Rattle.desk_lines.specs.Telling.{text_by, count_of, IsToldAs}
use Rattle.desk_lines.specs.Streams.{WritesAll, StopsWriting}

-- how many lines were read
abbrev pub lines_of : Told → ℕ
lines_of told = count_of told.report + told.unanswered

-- These lines were answered. What of the answers was not written since the start is in the outbox.
pub record Stands {W T : Type 0} (sink : OfSink W) (teller : OfTeller T) (start : W) (first : T) (lines : List (List ℕ)) (now : T) (told : Told) (writer : W) : Type 0 where
  pub answers : List teller.Answer
  pub tells : teller.tells first now lines answers told.report
  pub count : lines_of told ≡ length lines
  pub sent : List ℕ
  pub writes : WritesAll sink start writer sent
  pub text : sent ++ told.outbox.bytes.items ≡ text_by teller.written answers

-- a front of the text was written where the writer failed, and all of it where memory was wanted
abbrev pub Stops : {W : Type 0} → OfSink W → W → W → DeskFault → List ℕ → Type 0
Stops sink old new Read text = ⊥
Stops sink old new Write text = StopsWriting sink old new text
Stops sink old new Memory text = WritesAll sink old new text

-- memory was wanted for the next line, or for one that is told as it is
abbrev pub WantsNext : {T : Type 0} → OfTeller T → T → List (List ℕ) → Type 0
WantsNext teller state others =
    (line next : List ℕ) × (rest : List (List ℕ)) × (others ≡ next ∷ rest) × IsToldAs teller.most line next × teller.wants_memory state line

-- Of these lines only the first were answered, and their answers were written as far as that was possible.
pub record StopsTelling {W T : Type 0} (sink : OfSink W) (teller : OfTeller T) (start new : W) (first_state : T) (fault : DeskFault) (lines : List (List ℕ)) : Type 0 where
  pub first : List (List ℕ)
  pub others : List (List ℕ)
  pub parts : lines ≡ first ++ others
  pub last : T
  pub answers : List teller.Answer
  pub report : DeskReport
  pub tells : teller.tells first_state last first answers report
  pub stops : Stops sink start new fault (text_by teller.written answers)
  pub wanted : fault ≡ Memory → WantsNext teller last others
