-- The commands by their words.
use Rattle.std.specs.Prelude.{ℕ, Bool, ◌||◌, List, [], ◌∷◌, Option, codes, find}
use Rattle.std.specs.List.{list_any}
use Rattle.std.specs.Str.{bytes_eq}
use Rattle.desk_cli.specs.declared.command.CommandName.{CommandName}
use Rattle.desk_cli.specs.declared.command.CommandName.TheVariants as commands

abbrev pub every_command : List CommandName
every_command =
    commands.Win ∷ commands.Waits ∷ commands.Shape ∷ commands.Line ∷ commands.Explain ∷ commands.Study ∷ commands.Replay ∷ commands.Score
    ∷ commands.Game ∷ commands.Need ∷ commands.Seats ∷ commands.Standings ∷ commands.HelpCodes ∷ commands.HelpRules ∷ commands.HelpYaku ∷ []

abbrev pub command_word : CommandName → List ℕ
command_word commands.Win = codes "win"
command_word commands.Waits = codes "waits"
command_word commands.Shape = codes "shape"
command_word commands.Line = codes "line"
command_word commands.Explain = codes "explain"
command_word commands.Study = codes "study"
command_word commands.Replay = codes "replay"
command_word commands.Score = codes "score"
command_word commands.Game = codes "game"
command_word commands.Need = codes "need"
command_word commands.Seats = codes "seats"
command_word commands.Standings = codes "standings"
command_word commands.HelpCodes = codes "help-codes"
command_word commands.HelpRules = codes "help-rules"
command_word commands.HelpYaku = codes "help-yaku"

abbrev pub command_named : List ℕ → Option CommandName
command_named word = find (λ command. bytes_eq (command_word command) word) every_command

-- a record line begins with this word
abbrev pub is_job : List ℕ → Bool
is_job word = list_any (λ command. bytes_eq (command_word command) word) (commands.Win ∷ commands.Waits ∷ commands.Shape ∷ [])

-- a question begins with this word
abbrev pub is_study_job : List ℕ → Bool
is_study_job word = bytes_eq word (codes "shape") || bytes_eq word (codes "calls") || bytes_eq word (codes "safe") || bytes_eq word (codes "chances") || bytes_eq word (codes "worth")
