-- The games of a text that are over.
use Rattle.std.specs.Prelude.{◌≡◌, ◌⊎◌, ℕ, ◌<◌, List, [], ◌∷◌, ◌++◌, Bool, true, false, Option, None, Some, codes, length, slice_index_or, Result, MatchResult, ◌≢◌}
use Rattle.std.specs.Global.{Vec}
use Rattle.std.specs.Str.{bytes_eq}
use Rattle.riichi_hand.specs.Rules.{Rules}
use Rattle.riichi_game_text.specs.GameLines.{GameSaid, game_of, hand_rules_word}
use Rattle.riichi_game_text.specs.Names.{names_in}
use Rattle.riichi_game_text.specs.TableWords.{IsHandRules}
use Rattle.riichi_game_text.specs.Words.{said_in}
use Rattle.desk_lines.specs.Filling.{IsFirstLine}
use Rattle.desk_games.specs.Desks.{finals}
use Rattle.desk_games.specs.Played.{GameSoFar}
use Rattle.desk_games.specs.Playing.{PlaysGame}
use Rattle.desk_games.specs.declared.desk.GameDesk.{GameDesk}
use Rattle.desk_games.specs.declared.desk.GameDesk.TheVariants.{NoGame, Refused, Game}
use Rattle.desk_standings.specs.declared.ended.EndedGame.{EndedGame}
use Rattle.desk_standings.specs.declared.trouble.Trouble.{Trouble}
use Rattle.desk_standings.specs.declared.trouble.Why.{Why}
use Rattle.desk_standings.specs.declared.trouble.Why.TheVariants as why

-- The first line of a text is a line `game` that says this.
pub record SaysGame (given : Rules) (text : List ℕ) (said : GameSaid) : Type 0 where
  pub line : List ℕ
  pub after : List ℕ
  pub first : IsFirstLine text line after
  pub word : List ℕ
  pub words : List (List ℕ)
  pub line_says : said_in line ≡ word ∷ words
  pub is_game : bytes_eq word (codes "game") ≡ true
  pub hand : Option Rules
  pub by_rules : IsHandRules given (hand_rules_word words) hand
  pub says : game_of hand words ≡ Some said

-- the words are those of no line `game`
abbrev pub IsNoGame : Rules → List (List ℕ) → Type 0
IsNoGame given [] = Unit {0}
IsNoGame given (word ∷ words) = (bytes_eq word (codes "game") ≡ false) ⊎ ((hand : Option Rules) × IsHandRules given (hand_rules_word words) hand × (game_of hand words ≡ None))

-- The first line of a text is no line `game`, or can't be one.
pub record SaysNoGame (given : Rules) (text : List ℕ) : Type 0 where
  pub line : List ℕ
  pub after : List ℕ
  pub first : IsFirstLine text line after
  pub none : IsNoGame given (said_in line)

-- With the names, the rules and the final points of a game, in the session and at the table that its line says.
pub record IsEndOf (game : GameSoFar) (said : GameSaid) (ended : EndedGame) : Type 0 where
  pub names_are : names_in ended.names ≡ game.names
  pub rules_are : ended.rules ≡ game.rules
  pub session_is : ended.session ≡ said.session
  pub table_is : ended.table ≡ said.at
  pub finals_are : ended.finals ≡ finals game

-- No line of a game was refused, and it is over: so it ended, by what the first line of its text says.
pub record IsOver (given : Rules) (text : List ℕ) (game : GameSoFar) (ended : EndedGame) : Type 0 where
  pub is_open : game.is_held ≡ false
  pub over : game.progress.is_over ≡ true
  pub said : GameSaid
  pub says : SaysGame given text said
  pub end : IsEndOf game said ended

-- The lines up to a rest of the text are those of a game that is over.
pub record EndsGame (given : Rules) (text : List ℕ) (ended : EndedGame) (rest : List ℕ) : Type 0 where
  pub game : GameSoFar
  pub count : ℕ
  pub refused : ℕ
  pub played : PlaysGame given text (Game game) count refused rest
  pub is_over : IsOver given text game ended

-- The lines up to a rest of the text are none of a game, and none of them is refused: they are empty, or notes.
abbrev pub SkipsLines : Rules → List ℕ → List ℕ → Type 0
SkipsLines given text rest = (count : ℕ) × PlaysGame given text NoGame count 0 rest

-- From a text on, up to a rest of it, come these games, each of which is over.
pub data EndsGames (given : Rules) (rest : List ℕ) : List ℕ → List EndedGame → Type 0 where
  Stops : EndsGames given rest rest []
  Skips : (text after : List ℕ) (games : List EndedGame) → SkipsLines given text after → EndsGames given rest after games → EndsGames given rest text games
  Ends : (text after : List ℕ) (game : EndedGame) (games : List EndedGame) → EndsGame given text game after → EndsGames given rest after games → EndsGames given rest text (game ∷ games)

-- the games so far, with that of lines that come next, where they are those of a game
abbrev pub IsNext : Rules → List ℕ → List ℕ → List EndedGame → List EndedGame → Type 0
IsNext given text rest before after =
    (SkipsLines given text rest × (after ≡ before)) ⊎ ((game : EndedGame) × EndsGame given text game rest × (after ≡ before ++ game ∷ []))

-- ---- what is no such game

-- a line of the game was refused, or its first line is none of a game; or the game isn't over
abbrev pub IsFaultOfGame : Rules → List ℕ → GameSoFar → Why → Type 0
IsFaultOfGame given text game why.Refused = (game.is_held ≡ true) ⊎ SaysNoGame given text
IsFaultOfGame given text game why.Unfinished = (game.is_held ≡ false) × (game.progress.is_over ≡ false)
IsFaultOfGame given text game other = ⊥

abbrev pub IsGameRefused : Why → Type 0
IsGameRefused why.Refused = Unit {0}
IsGameRefused other = ⊥

-- what is said of lines that begin a text: no game has begun, though a line was refused; or the line `game` was refused; or it is the game
abbrev pub IsFaultOf : Rules → List ℕ → GameDesk → ℕ → Why → Type 0
IsFaultOf given text NoGame refused reason = (0 < refused) × IsGameRefused reason
IsFaultOf given text Refused refused reason = IsGameRefused reason
IsFaultOf given text (Game game) refused reason = IsFaultOfGame given text game reason

-- the same, or that memory isn't there
abbrev pub IsFaultOrWant : Rules → List ℕ → GameDesk → ℕ → Why → Type 0
IsFaultOrWant given text desk refused reason = (reason ≡ why.Memory) ⊎ IsFaultOf given text desk refused reason

-- Behind games that are over come lines of which that is said.
pub record HasFault (given : Rules) (text : List ℕ) (why : Why) : Type 0 where
  pub games : List EndedGame
  pub rest : List ℕ
  pub before : EndsGames given rest text games
  pub desk : GameDesk
  pub count : ℕ
  pub refused : ℕ
  pub after : List ℕ
  pub played : PlaysGame given rest desk count refused after
  pub fault : IsFaultOf given rest desk refused why

-- why a text doesn't have games alone that are over; of memory that isn't there nothing is known
abbrev pub IsTroubleIn : Rules → List ℕ → Why → Type 0
IsTroubleIn given text why.NoGame = EndsGames given [] text []
IsTroubleIn given text why.Memory = Unit {0}
IsTroubleIn given text other = HasFault given text other

-- what is said of a text: its games, of which there are some, or why it doesn't have such games alone
abbrev pub IsJudged : Rules → List ℕ → Result (Vec EndedGame) Trouble → Type 0
IsJudged given text judged = MatchResult judged (λ games. EndsGames given [] text games.items × (games.items ≢ [])) (λ trouble. IsTroubleIn given text trouble.why)

-- each of some texts
abbrev pub AreJudged : Rules → List (Vec ℕ) → List (Result (Vec EndedGame) Trouble) → Type 0
AreJudged given texts judged = (k : ℕ) (text : Vec ℕ) (d : Result (Vec EndedGame) Trouble) → k < length texts → IsJudged given (slice_index_or texts k text).items (slice_index_or judged k d)
