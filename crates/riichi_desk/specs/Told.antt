-- The record lines that the words of the command line are, and when one of them is refused.
use Rattle.std.specs.Prelude.{◌≡◌, ℕ, Bool, List, [], ◌∷◌, ◌++◌, Option, None, Some}
use Rattle.std.specs.List.{flat_map}
use Rattle.riichi_hand.specs.Rules.{Rules}
use Rattle.desk_cli.specs.Commands.{command_word}
use Rattle.desk_cli.specs.Requests.{texts}
use Rattle.desk_cli.specs.declared.request.Lines.{Lines}
use Rattle.desk_cli.specs.declared.request.Lines.TheVariants as sources
use Rattle.riichi_desk.specs.Answering.{has_refusal}

-- words, a space before each
abbrev pub spaced_words : List (List ℕ) → List ℕ
spaced_words words = flat_map (λ word. 32 ∷ word) words

-- words that are one line
abbrev pub one_line : List (List ℕ) → List ℕ
one_line [] = []
one_line (first ∷ words) = first ++ spaced_words words

-- words that are a line each
abbrev pub each_line : List (List ℕ) → List ℕ
each_line words = flat_map (λ word. word ++ 10 ∷ []) words

-- Of lines that are words it is told whether one is refused; what standard input and files hold isn't known.
abbrev pub TellsRefused : Rules → Lines → Bool → Type 0
TellsRefused rules sources.Input is_refused = Unit {0}
TellsRefused rules (sources.Files files) is_refused = Unit {0}
TellsRefused rules (sources.Each words) is_refused = is_refused ≡ has_refusal rules (each_line (texts words.now))
TellsRefused rules (sources.One words) is_refused = is_refused ≡ has_refusal rules (one_line (texts words.now))
TellsRefused rules (sources.Record job hand None) is_refused = is_refused ≡ has_refusal rules (command_word job ++ 32 ∷ hand.now)
TellsRefused rules (sources.Record job hand (Some words)) is_refused = is_refused ≡ has_refusal rules ((command_word job ++ 32 ∷ hand.now) ++ spaced_words (texts words.now))
