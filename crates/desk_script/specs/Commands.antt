-- The commands of a script.
use Rattle.std.specs.Prelude.{ℕ, List, [], ◌∷◌, Option, None, Some, if◌then◌else◌, codes}
use Rattle.std.specs.Str.{bytes_eq}
use Rattle.desk_script.specs.declared.action.Action.{Action}
use Rattle.desk_script.specs.declared.action.Action.TheVariants.{Open, Submit, Arrive, Close, Take, Withdraw}
use Rattle.riichi_hand.specs.Words.{without_spaces}
use Rattle.desk_script.specs.Words.{first_word, after_word, is_name, is_comment}
use Rattle.desk_script.specs.Seq.{seq_of}

-- a command for the table of a name, with the record line of its job where it has one
pub record Said : Type 0 where
  pub action : Action
  pub name : List ℕ
  pub job_line : List ℕ

-- nothing but spaces stands behind
abbrev pub alone_at : Action → List ℕ → Option (Action × List ℕ)
alone_at action [] = Some (action, [])
alone_at action (byte ∷ bytes) = None

abbrev pub alone : Action → List ℕ → Option (Action × List ℕ)
alone action rest = alone_at action (without_spaces rest)

-- a record stands behind: all from the first byte that is no space, and that isn't `#`
abbrev pub action_with_job_at : Action → List ℕ → Option (Action × List ℕ)
action_with_job_at action [] = None
action_with_job_at action (byte ∷ bytes) = if is_comment (byte ∷ bytes) then None else Some (action, byte ∷ bytes)

abbrev pub action_with_job : Action → List ℕ → Option (Action × List ℕ)
action_with_job action rest = action_with_job_at action (without_spaces rest)

abbrev pub arrival : Option ℕ → List ℕ → Option (Action × List ℕ)
arrival None rest = None
arrival (Some seq) rest = action_with_job (Arrive seq) rest

abbrev pub withdrawal : Option ℕ → List ℕ → Option (Action × List ℕ)
withdrawal None rest = None
withdrawal (Some seq) rest = alone (Withdraw seq) rest

-- the action of a first word, with what stands behind the name
abbrev pub by_word : List ℕ → List ℕ → Option (Action × List ℕ)
by_word word rest =
    if bytes_eq word (codes "open") then alone Open rest
    else if bytes_eq word (codes "submit") then action_with_job Submit rest
    else if bytes_eq word (codes "arrive") then arrival (seq_of (first_word rest)) (after_word rest)
    else if bytes_eq word (codes "close") then alone Close rest
    else if bytes_eq word (codes "take") then alone Take rest
    else if bytes_eq word (codes "withdraw") then withdrawal (seq_of (first_word rest)) (after_word rest)
    else None

abbrev pub said : List ℕ → Option (Action × List ℕ) → Option Said
said name None = None
said name (Some found) = Some (record { action = found.0; name = name; job_line = found.1 })

-- a name and what stands behind it
abbrev pub command_for : List ℕ → List ℕ → List ℕ → Option Said
command_for word name rest = if is_name name then said name (by_word word rest) else None

-- `open NAME`, `submit NAME RECORD`, `arrive NAME SEQ RECORD`, `close NAME`, `take NAME` or
-- `withdraw NAME SEQ`; none where the line is none of these
unfoldable pub command_of : List ℕ → Option Said
command_of line = command_for (first_word line) (first_word (after_word line)) (after_word (after_word line))
