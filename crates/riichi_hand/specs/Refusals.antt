-- What a refusal says beside its fault: the word and the key at which that stands, and the job of the line.
use Rattle.std.specs.Prelude.{◌≡◌, ℕ, List, Option, None, is_some, not, option_and_then, option_map}
use Rattle.std.specs.List.{find}
use Rattle.riichi_hand.specs.declared.fault.LineCode.TheVariants.{H1, H6}
use Rattle.riichi_hand.specs.declared.fault.LineFault.{LineFault}
use Rattle.riichi_hand.specs.declared.fault.LineFault.TheVariants.{Line, Notation}
use Rattle.riichi_hand.specs.declared.line.job_name.JobName.{JobName}
use Rattle.riichi_hand.specs.declared.line.job_name.JobName.TheVariants.{Win}
use Rattle.riichi_hand.specs.declared.line.key.Key.{Key}
use Rattle.riichi_hand.specs.declared.line.record.Refusal.{Refusal}
use Rattle.riichi_hand.specs.Words.{word_of, words_of}
use Rattle.riichi_hand.specs.Keys.{needed, text_key}
use Rattle.riichi_hand.specs.Entries.{key_in}
use Rattle.riichi_hand.specs.Parts.{job_in}
use Rattle.riichi_hand.specs.Places.{from_key, code_from, fault_from}

-- the first key that a win must have and that no word gives
unfoldable pub missing_key : List ℕ → Option Key
missing_key line = find (λ key. not (is_some (from_key key 0 line))) (needed Win)

-- The key at fault: of a text its own, the first that is missing, else that of the word at fault.
unfoldable pub key_at : LineFault → List ℕ → Option Key
key_at (Line H6) line = missing_key line
key_at (Line code) line = option_and_then key_in (option_map word_of (code_from code line))
key_at (Notation name fault) line = text_key name

-- the job that the first word names; the words of a line with a foreign byte aren't read
unfoldable pub job_at : LineFault → List ℕ → Option JobName
job_at (Line H1) line = None
job_at fault line = job_in (words_of line)

-- The refusal of a line keeps what was read of it.
pub record IsRefusalOf (line : List ℕ) (refusal : Refusal) : Type 0 where
  pub from_is : option_map (λ from. from.now) refusal.from ≡ fault_from refusal.fault line
  pub key_is : refusal.key ≡ key_at refusal.fault line
  pub job_is : refusal.job ≡ job_at refusal.fault line
