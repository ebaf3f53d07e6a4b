-- What one read gave, behind the front of a line that was held.
use Rattle.std.specs.Prelude.{◌≡◌, ℕ, ◌+◌, List, [], ◌∷◌, ◌++◌, Bool, true, false, take}
use Rattle.std.specs.Io.KnownBytes.{IsAtEnd}
use Rattle.desk_io.specs.declared.sink.Sink.{Ghosts as OfSink}
use Rattle.desk_io.specs.declared.source.Source.{Ghosts as OfSource}
use Rattle.desk_lines.specs.declared.teller.Teller.{Ghosts as OfTeller}
use Rattle.desk_lines.specs.declared.fault.DeskFault.{DeskFault}
use Rattle.desk_lines.specs.Told.{StopsTelling}
use Rattle.desk_lines.specs.Lines.{cut_of}
use Rattle.desk_lines.specs.Telling.{IsToldAs}
use Rattle.desk_lines.specs.Streams.{Gives, FailsOnce, AreWhole}

-- a line that goes on is ended
abbrev pub with_end : List ℕ → List ℕ
with_end [] = []
with_end (byte ∷ bytes) = (byte ∷ bytes) ++ 10 ∷ []

-- the text at hand
abbrev pub at_hand : List ℕ → List ℕ → Bool → List ℕ
at_hand held bytes true = with_end held
at_hand held bytes false = held ++ bytes

-- the reader has ended: it gave nothing
abbrev pub IsEnd : {R : Type 0} → OfSource R → R → R → List ℕ → Bool → Type 0
IsEnd source old new bytes true = (bytes ≡ []) × source.is_ended new × IsAtEnd (source.left new) × (source.ends new ≡ source.ends old + 1)
IsEnd source old new bytes false = source.ends new ≡ source.ends old

-- One read gave these bytes, or found the end.
pub record IsRead {R : Type 0} (source : OfSource R) (old new : R) (held text : List ℕ) (is_end : Bool) : Type 0 where
  pub bytes : List ℕ
  pub gives : Gives source old new bytes
  pub not_failed : source.failures new ≡ source.failures old
  pub end : IsEnd source old new bytes is_end
  pub text_is : text ≡ at_hand held bytes is_end

-- a read failed, and gave nothing
pub record FailsAgain {R : Type 0} (source : OfSource R) (old new : R) : Type 0 where
  pub gives : Gives source old new []
  pub once : FailsOnce source old new

-- Of the whole lines of a text that the reader gave the first were answered.
abbrev pub IsStopped : {R W A : Type 0} → OfSource R → OfSink W → OfTeller A → R → R → W → W → A → DeskFault → Type 0
IsStopped source sink teller reader read writer written first fault =
    (text : List ℕ) × (whole : List (List ℕ)) × Gives source reader read text × AreWhole (source.is_ended read) text whole
    × StopsTelling sink teller writer written first fault whole

-- lines that may have the answers of others, one by one
abbrev pub AreToldAs : ℕ → List (List ℕ) → List (List ℕ) → Type 0
AreToldAs most [] [] = Unit {0}
AreToldAs most [] (other ∷ others) = ⊥
AreToldAs most (line ∷ lines) [] = ⊥
AreToldAs most (line ∷ lines) (other ∷ others) = IsToldAs most line other × AreToldAs most lines others

-- what is kept of a line that has not ended
abbrev pub kept : ℕ → List ℕ → List ℕ
kept room text = take room (cut_of text).rest
