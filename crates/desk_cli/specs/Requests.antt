-- What the words behind a command ask for, by what clap found under the names of its arguments: a table of commands and requests.
use Rattle.std.specs.Prelude.{◌≡◌, ◌⊎◌, ℕ, Bool, true, false, not, ◌||◌, List, [], ◌∷◌, Option, None, Some, map, drop, option_map, option_and_then, unwrap_or, slice_get, codes, if◌then◌else◌}
use Rattle.std.specs.Borrow.{Bor}
use Rattle.std.specs.Option.{option_map_or}
use Rattle.std.specs.Str.{bytes_eq}
use Rattle.std.specs.Str.Parse.{ParsesUnsigned}
use Rattle.std.specs.declared.num.ParseIntError.{ParseIntError}
use Rattle.clap.specs.Matches.{ReadsOne, first_value, found_of, matched_of, one_text, raw_values, subcommand_name_of}
use Rattle.clap.specs.Simple.{subcommand_rows_of}
use Rattle.clap.specs.Walk.{rows_of}
use Rattle.clap.specs.declared.parser.matches.ArgMatches.{ArgMatches}
use Rattle.clap.specs.declared.parser.matches.Found.{Found}
use Rattle.riichi_hand.specs.RulesText.{NamesRules, IsWrongAt}
use Rattle.desk_cli.specs.Commands.{command_named, is_job, is_study_job}
use Rattle.desk_cli.specs.declared.command.CommandName.{CommandName}
use Rattle.desk_cli.specs.declared.command.CommandName.TheVariants as commands
use Rattle.desk_cli.specs.declared.request.Form.{Form}
use Rattle.desk_cli.specs.declared.request.Form.TheVariants as forms
use Rattle.desk_cli.specs.declared.request.GameForm.{GameForm}
use Rattle.desk_cli.specs.declared.request.GameForm.TheVariants as game_forms
use Rattle.desk_cli.specs.declared.request.Lines.{Lines}
use Rattle.desk_cli.specs.declared.request.Lines.TheVariants as sources
use Rattle.desk_cli.specs.declared.request.Manner.{Manner}
use Rattle.desk_cli.specs.declared.request.NeedRequest.{NeedRequest}
use Rattle.desk_cli.specs.declared.request.Request.{Request}
use Rattle.desk_cli.specs.declared.request.SeatsRequest.{SeatsRequest}
use Rattle.desk_cli.specs.declared.request.StandingsForm.{StandingsForm}
use Rattle.desk_cli.specs.declared.request.StandingsForm.TheVariants as standings_forms
use Rattle.desk_cli.specs.declared.request.StudyForm.{StudyForm}
use Rattle.desk_cli.specs.declared.request.StudyForm.TheVariants as study_forms
use Rattle.desk_cli.specs.declared.request.StudyManner.{StudyManner}
use Rattle.desk_cli.specs.declared.request.StandingsRequest.{StandingsRequest}
use Rattle.desk_cli.specs.declared.request.TieWord.{TieWord}
use Rattle.desk_cli.specs.declared.request.TieWord.TheVariants as tie_words
use Rattle.desk_cli.specs.declared.request.Request.TheVariants as requests

-- ---- what stands under the name of an argument

-- A flag is given or not, as clap reads its value; without one it isn't.
pub record IsFlag (found : Found) (name : List ℕ) (is_given : Bool) : Type 0 where
  pub absent : one_text found name ≡ None → is_given ≡ false
  pub given : one_text found name ≡ Some (codes "true") → is_given ≡ true
  pub not_given : one_text found name ≡ Some (codes "false") → is_given ≡ false

-- A number, where one is given.
pub record IsNumber (found : Found) (name : List ℕ) (number : Option ℕ) : Type 0 where
  pub absent : one_text found name ≡ None → number ≡ None
  pub given : (text : List ℕ) → one_text found name ≡ Some text → ReadsOne {E = ParseIntError} (ParsesUnsigned 32 10) text number

abbrev pub texts : List (Bor (List ℕ)) → List (List ℕ)
texts words = map (λ word. word.now) words

-- the words, where any are given
abbrev pub words_under : Found → List ℕ → Option (List (List ℕ))
words_under found name = option_map raw_values (matched_of found name)

-- the text of the rules; without the option those of the first profile
abbrev pub rules_option : Found → List ℕ
rules_option found = unwrap_or (first_value found (codes "rules")) (codes "1")

-- The text names no rules: this is what stands from its first wrong word on.
pub record IsUnknown (found : Found) (word : List ℕ) : Type 0 where
  pub place : ℕ
  pub is_wrong : IsWrongAt (rules_option found) place
  pub word_is : word ≡ drop place (rules_option found)

-- ---- how lines are answered

pub record IsManner (found : Found) (manner : Manner) : Type 0 where
  pub rules : NamesRules (rules_option found) manner.rules
  pub numbers : IsFlag found (codes "number") manner.is_numbered
  pub workers : IsNumber found (codes "workers") manner.workers

-- `line` answers in words, or with --json as objects
pub record IsLineForm (found : Found) (form : Form) : Type 0 where
  pub json : Bool
  pub is_given : IsFlag found (codes "json") json
  pub form_is : form ≡ (if json then forms.Json else forms.Words)

-- `explain` answers with the reasons, and with --all by every reading; with --json as objects, by every reading
pub record IsExplainForm (found : Found) (form : Form) : Type 0 where
  pub json : Bool
  pub all : Bool
  pub json_given : IsFlag found (codes "json") json
  pub all_given : IsFlag found (codes "all") all
  pub form_is : form ≡ (if json then forms.JsonReasons else if all then forms.AllReasons else forms.Reasons)

-- ---- which lines are answered

-- those of the files that --file names, or of standard input
abbrev pub AreLines : Found → Lines → Type 0
AreLines found sources.Input = words_under found (codes "file") ≡ None
AreLines found (sources.Files files) = words_under found (codes "file") ≡ Some (texts files.now)
AreLines found other = ⊥

-- the words are one line where the first is a job
abbrev pub are_one_line : List (List ℕ) → Bool
are_one_line words = option_map_or is_job (slice_get words 0) false

-- the same, or the words of one line, or words that are lines each
abbrev pub AreExplained : Found → Lines → Type 0
AreExplained found sources.Input = (words_under found (codes "file") ≡ None) × (words_under found (codes "LINE") ≡ None)
AreExplained found (sources.Files files) = words_under found (codes "file") ≡ Some (texts files.now)
AreExplained found (sources.One words) = (words_under found (codes "file") ≡ None) × (words_under found (codes "LINE") ≡ Some (texts words.now)) × (are_one_line (texts words.now) ≡ true)
AreExplained found (sources.Each words) = (words_under found (codes "file") ≡ None) × (words_under found (codes "LINE") ≡ Some (texts words.now)) × (are_one_line (texts words.now) ≡ false)
AreExplained found other = ⊥

-- the words are one question where the first begins one
abbrev pub are_one_question : List (List ℕ) → Bool
are_one_question words = option_map_or is_study_job (slice_get words 0) false

-- questions from the same places
abbrev pub AreStudied : Found → Lines → Type 0
AreStudied found sources.Input = (words_under found (codes "file") ≡ None) × (words_under found (codes "LINE") ≡ None)
AreStudied found (sources.Files files) = words_under found (codes "file") ≡ Some (texts files.now)
AreStudied found (sources.One words) = (words_under found (codes "file") ≡ None) × (words_under found (codes "LINE") ≡ Some (texts words.now)) × (are_one_question (texts words.now) ≡ true)
AreStudied found (sources.Each words) = (words_under found (codes "file") ≡ None) × (words_under found (codes "LINE") ≡ Some (texts words.now)) × (are_one_question (texts words.now) ≡ false)
AreStudied found other = ⊥

-- one line: the command as its job, the hand, and what is told of it
abbrev pub IsRecordLine : CommandName → Found → Lines → Type 0
IsRecordLine command found (sources.Record job hand words) =
    (job ≡ command) × (first_value found (codes "HAND") ≡ Some hand.now)
    × (option_map (λ told. texts told.now) words ≡ words_under found (codes "WORD"))
IsRecordLine command found other = ⊥

abbrev pub are_of_files : Lines → Bool
are_of_files (sources.Files files) = true
are_of_files other = false

-- how far the answers are is shown of files alone, and not with --quiet
pub record IsShown (found : Found) (lines : Lines) (is_quiet : Bool) : Type 0 where
  pub quiet : Bool
  pub is_given : IsFlag found (codes "quiet") quiet
  pub quiet_is : is_quiet ≡ (quiet || not (are_of_files lines))

-- ---- requests

-- Record lines are to be answered, if the rules are any.
abbrev pub AsksForLines : Found → (Lines → Form → Bool → Type 0) → Request → Type 0
AsksForLines found Are (requests.Lines lines manner is_quiet) = Are lines manner.form is_quiet × IsManner found manner
AsksForLines found Are (requests.UnknownRules word) = IsUnknown found word.now
AsksForLines found Are other = ⊥

abbrev pub IsLine : Found → Lines → Form → Bool → Type 0
IsLine found lines form is_quiet = AreLines found lines × IsLineForm found form × IsShown found lines is_quiet

abbrev pub IsExplain : Found → Lines → Form → Bool → Type 0
IsExplain found lines form is_quiet = AreExplained found lines × IsExplainForm found form × (is_quiet ≡ true)

abbrev pub IsRecord : CommandName → Found → Lines → Form → Bool → Type 0
IsRecord command found lines form is_quiet = IsRecordLine command found lines × (form ≡ forms.Words) × (is_quiet ≡ true)

abbrev pub are_none : Option (List (List ℕ)) → Bool
are_none None = true
are_none (Some []) = true
are_none (Some (word ∷ words)) = false

-- `waits` with a hand alone
abbrev pub is_bare : CommandName → Found → Bool
is_bare commands.Waits found = are_none (words_under found (codes "WORD"))
is_bare command found = false

-- a line of a record, or the waits of a hand alone
abbrev pub AsksForRecord : CommandName → Found → Option Request → Type 0
AsksForRecord command found None = first_value found (codes "HAND") ≡ None
AsksForRecord command found (Some (requests.Waits hand)) =
    (is_bare command found ≡ true) × (first_value found (codes "HAND") ≡ Some hand.now)
AsksForRecord command found (Some other) =
    (is_bare command found ≡ false) × AsksForLines found (IsRecord command found) other

-- `study` answers in a line, with --explain says it in words below, with --json as objects
pub record IsStudyForm (found : Found) (form : StudyForm) : Type 0 where
  pub json : Bool
  pub explain : Bool
  pub json_given : IsFlag found (codes "json") json
  pub explain_given : IsFlag found (codes "explain") explain
  pub form_is : form ≡ (if json then study_forms.Objects else if explain then study_forms.Explained else study_forms.Answers)

pub record IsStudyManner (found : Found) (manner : StudyManner) : Type 0 where
  pub form : IsStudyForm found manner.form
  pub numbers : IsFlag found (codes "number") manner.is_numbered
  pub workers : IsNumber found (codes "workers") manner.workers

-- questions are to be answered
abbrev pub AsksForStudy : Found → Request → Type 0
AsksForStudy found (requests.Study lines manner) = AreStudied found lines × IsStudyManner found manner
AsksForStudy found other = ⊥

abbrev pub AsksForReplay : Found → Option Request → Type 0
AsksForReplay found None = first_value found (codes "FILE") ≡ None
AsksForReplay found (Some (requests.Replay file)) = first_value found (codes "FILE") ≡ Some file.now
AsksForReplay found (Some other) = ⊥

-- tables that are files, by so many workers
abbrev pub AsksForScore : Found → Option Request → Type 0
AsksForScore found None = (words_under found (codes "FILE") ≡ None) ⊎ IsNumber found (codes "workers") None
AsksForScore found (Some (requests.Score files workers rules is_numbered is_quiet)) =
    (words_under found (codes "FILE") ≡ Some (texts files.now)) × IsNumber found (codes "workers") (Some workers)
    × NamesRules (rules_option found) rules × IsFlag found (codes "number") is_numbered × IsFlag found (codes "quiet") is_quiet
AsksForScore found (Some (requests.UnknownRules word)) = IsUnknown found word.now
AsksForScore found (Some other) = ⊥

-- `game` answers in words, and with --explain says below each answer what is paid and why; with --json as objects, with --sheet in columns
pub record IsGameForm (found : Found) (form : GameForm) : Type 0 where
  pub sheet : Bool
  pub json : Bool
  pub explain : Bool
  pub sheet_given : IsFlag found (codes "sheet") sheet
  pub json_given : IsFlag found (codes "json") json
  pub explain_given : IsFlag found (codes "explain") explain
  pub form_is : form ≡ (if sheet then game_forms.Sheet else if json then game_forms.Objects else if explain then game_forms.Explained else game_forms.Answers)

-- texts of games: those of files, or of standard input where none is named
abbrev pub AsksForGames : Found → Request → Type 0
AsksForGames found (requests.Games files manner) =
    (option_map (λ named. texts named.now) files ≡ words_under found (codes "FILE")) × NamesRules (rules_option found) manner.rules
    × IsFlag found (codes "number") manner.is_numbered × IsGameForm found manner.form
AsksForGames found (requests.UnknownRules word) = IsUnknown found word.now
AsksForGames found other = ⊥

-- ---- what a player needs

abbrev pub place_said : List ℕ → Option ℕ
place_said word =
    if bytes_eq word (codes "1") then Some 1
    else if bytes_eq word (codes "2") then Some 2
    else if bytes_eq word (codes "3") then Some 3
    else if bytes_eq word (codes "4") then Some 4
    else None

-- the words of a question: a name, the word of a place, and a file; the first place where none is said
pub record Asked : Type 0 where
  pub name : List ℕ
  pub place : List ℕ
  pub file : List ℕ

abbrev pub asked_in : List (List ℕ) → Option Asked
asked_in (name ∷ file ∷ []) = Some (record { name = name; place = codes "1"; file = file })
asked_in (name ∷ place ∷ file ∷ []) = Some (record { name = name; place = place; file = file })
asked_in others = None

abbrev pub asked_of : Found → Option Asked
asked_of found = option_and_then asked_in (words_under found (codes "WORD"))

-- A player, a place from 1 to 4 and a file, with the bets of others and the rules for hands.
pub record IsNeedAsked (found : Found) (need : NeedRequest) : Type 0 where
  pub asked : Asked
  pub words : asked_of found ≡ Some asked
  pub name : need.name.now ≡ asked.name
  pub place : place_said asked.place ≡ Some need.place
  pub file : need.file.now ≡ asked.file
  pub riichi : option_map (λ names. names.now) need.riichi ≡ first_value found (codes "riichi")
  pub rules : NamesRules (rules_option found) need.rules

-- a word stands where a place should, and says none
abbrev pub IsNoPlace : Found → List ℕ → Type 0
IsNoPlace found word = (option_map (λ asked. asked.place) (asked_of found) ≡ Some word) × (place_said word ≡ None)

abbrev pub AsksForNeed : Found → Option Request → Type 0
AsksForNeed found None = asked_of found ≡ None
AsksForNeed found (Some (requests.Need need)) = IsNeedAsked found need
AsksForNeed found (Some (requests.UnknownPlace word)) = IsNoPlace found word.now
AsksForNeed found (Some (requests.UnknownRules word)) = IsUnknown found word.now
AsksForNeed found (Some other) = ⊥

-- ---- what parts equal totals

abbrev pub ties_said : List ℕ → Option TieWord
ties_said word =
    if bytes_eq word (codes "none") then Some tie_words.Shared
    else if bytes_eq word (codes "firsts") then Some tie_words.Firsts
    else if bytes_eq word (codes "best") then Some tie_words.Best
    else None

-- the word that says what parts equal totals; nothing does without it
abbrev pub ties_option : Found → List ℕ
ties_option found = unwrap_or (first_value found (codes "ties")) (codes "none")

-- ---- who sits where

-- The games of so many sessions of the players of a file, by a seed, with words behind each; or by the standings of games so far.
pub record IsSeatsAsked (found : Found) (seats : SeatsRequest) : Type 0 where
  pub file : first_value found (codes "FILE") ≡ Some seats.file.now
  pub sessions : IsNumber found (codes "SESSIONS") (Some seats.sessions)
  pub seed : IsNumber found (codes "seed") (Some seats.seed)
  pub words : option_map (λ words. words.now) seats.words ≡ first_value found (codes "words")
  pub quiet : IsFlag found (codes "quiet") seats.is_quiet
  pub so_far : option_map (λ files. texts files.now) seats.so_far ≡ words_under found (codes "standings")
  pub ties : ties_said (ties_option found) ≡ Some seats.ties
  pub rules : NamesRules (rules_option found) seats.rules

abbrev pub AsksForSeats : Found → Option Request → Type 0
AsksForSeats found None =
    (first_value found (codes "FILE") ≡ None) ⊎ IsNumber found (codes "SESSIONS") None ⊎ IsNumber found (codes "seed") None
    ⊎ (ties_said (ties_option found) ≡ None)
AsksForSeats found (Some (requests.Seats seats)) = IsSeatsAsked found seats
AsksForSeats found (Some (requests.UnknownRules word)) = IsUnknown found word.now
AsksForSeats found (Some other) = ⊥

-- ---- the standings of a tournament

-- `standings` answers in words, with --json as objects, with --csv as a table, and with --sheet in columns
pub record IsStandingsForm (found : Found) (form : StandingsForm) : Type 0 where
  pub json : Bool
  pub csv : Bool
  pub sheet : Bool
  pub json_given : IsFlag found (codes "json") json
  pub csv_given : IsFlag found (codes "csv") csv
  pub sheet_given : IsFlag found (codes "sheet") sheet
  pub form_is : form ≡ (if json then standings_forms.Json else if csv then standings_forms.Csv else if sheet then standings_forms.Sheet else standings_forms.Words)

-- Files of games, by so many workers, what parts equal totals, a form, and the rules for hands.
pub record IsStandingsAsked (found : Found) (asked : StandingsRequest) : Type 0 where
  pub files : words_under found (codes "FILE") ≡ Some (texts asked.files.now)
  pub workers : IsNumber found (codes "workers") (Some asked.workers)
  pub ties : ties_said (ties_option found) ≡ Some asked.ties
  pub form : IsStandingsForm found asked.form
  pub rules : NamesRules (rules_option found) asked.rules

abbrev pub AsksForStandings : Found → Option Request → Type 0
AsksForStandings found None = (words_under found (codes "FILE") ≡ None) ⊎ IsNumber found (codes "workers") None ⊎ (ties_said (ties_option found) ≡ None)
AsksForStandings found (Some (requests.Standings asked)) = IsStandingsAsked found asked
AsksForStandings found (Some (requests.UnknownRules word)) = IsUnknown found word.now
AsksForStandings found (Some other) = ⊥

abbrev pub IsSome : (Request → Type 0) → Option Request → Type 0
IsSome Is None = ⊥
IsSome Is (Some request) = Is request

-- what a command asks for
abbrev pub IsAsked : CommandName → Found → Option Request → Type 0
IsAsked commands.Line found asked = IsSome (AsksForLines found (IsLine found)) asked
IsAsked commands.Explain found asked = IsSome (AsksForLines found (IsExplain found)) asked
IsAsked commands.Study found asked = IsSome (AsksForStudy found) asked
IsAsked commands.Replay found asked = AsksForReplay found asked
IsAsked commands.Score found asked = AsksForScore found asked
IsAsked commands.Game found asked = IsSome (AsksForGames found) asked
IsAsked commands.Need found asked = AsksForNeed found asked
IsAsked commands.Seats found asked = AsksForSeats found asked
IsAsked commands.Standings found asked = AsksForStandings found asked
IsAsked commands.HelpCodes found asked = asked ≡ Some requests.HelpCodes
IsAsked commands.HelpRules found asked = asked ≡ Some requests.HelpRules
IsAsked commands.HelpYaku found asked = asked ≡ Some requests.HelpYaku
IsAsked record_command found asked = AsksForRecord record_command found asked

-- ---- the whole command line

abbrev pub chosen_command : ArgMatches → Option CommandName
chosen_command matches = option_and_then command_named (subcommand_name_of matches)

-- clap found this behind the command
abbrev pub AreWords : ArgMatches → ArgMatches → Type 0
AreWords matches words = option_map (λ row. row.1) (subcommand_rows_of matches) ≡ Some (rows_of (found_of words))

-- what a command line asks for
pub record Asks (matches : ArgMatches) (command : CommandName) (asked : Option Request) : Type 0 where
  pub words : ArgMatches
  pub are_words : AreWords matches words
  pub is_asked : IsAsked command (found_of words) asked
