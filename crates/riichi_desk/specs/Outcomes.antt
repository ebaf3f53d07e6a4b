-- What is known of the outcome of a request: whether a line is refused, or which failure keeps the program from an answer.
use Rattle.std.specs.Prelude.{◌≡◌, ◌≢◌, ◌<◌, ℕ, Bool, true, false, List, length, sum, Result, Ok, Err, IfOk}
use Rattle.std.specs.Borrow.{Bor}
use Rattle.riichi_tiles.specs.Notation.{Spells, IsFirstFault}
use Rattle.riichi_tiles.specs.declared.notation.NotationFault.{NotationFault}
use Rattle.desk_cli.specs.declared.request.Request.{Request}
use Rattle.desk_cli.specs.declared.request.Request.TheVariants as requests
use Rattle.riichi_desk.specs.declared.scoring.ScoreLimit.TheVariants.{Files}
use Rattle.riichi_desk.specs.Failures.{IsUnknownRule}
use Rattle.riichi_desk.specs.declared.failure.Failure.{Failure}
use Rattle.riichi_desk.specs.declared.failure.Failure.TheVariants.{Score, UnknownPlace}
use Rattle.riichi_desk.specs.Studies.{TellsStudied}
use Rattle.riichi_desk.specs.Told.{TellsRefused}

-- The waits of a hand alone are refused where its text is none of tiles, or has another number than thirteen.
pub record TellsWaits (hand : List ℕ) (is_refused : Bool) : Type 0 where
  pub waits : (counts : List ℕ) → Spells hand counts → sum counts ≡ 13 → is_refused ≡ false
  pub not_thirteen : (counts : List ℕ) → Spells hand counts → sum counts ≢ 13 → is_refused ≡ true
  pub fault : (fault : NotationFault) → IsFirstFault hand fault → is_refused ≡ true

-- rules that there aren't are never answered
abbrev pub TellsUnknown : List ℕ → Result Bool Failure → Type 0
TellsUnknown word (Ok is_refused) = ⊥
TellsUnknown word (Err failure) = IsUnknownRule word failure

-- a place that there isn't is never answered
abbrev pub TellsNoPlace : Bor (List ℕ) → Result Bool Failure → Type 0
TellsNoPlace word outcome = outcome ≡ Err (UnknownPlace word)

-- of tables there are 64 at most; a table of codes, rules or yaku has no line that is refused
abbrev pub IsCarriedOut : Request → Result Bool Failure → Type 0
IsCarriedOut (requests.UnknownRules word) outcome = TellsUnknown word.now outcome
IsCarriedOut (requests.Waits hand) outcome = IfOk outcome (TellsWaits hand.now)
IsCarriedOut (requests.Lines lines manner is_quiet) outcome = IfOk outcome (TellsRefused manner.rules lines)
IsCarriedOut (requests.Score files workers rules is_numbered is_quiet) outcome = 64 < length files.now → outcome ≡ Err (Score (Files (length files.now)))
IsCarriedOut (requests.Study lines manner) outcome = IfOk outcome (TellsStudied lines)
IsCarriedOut (requests.Replay file) outcome = Unit {0}
IsCarriedOut (requests.Games files manner) outcome = Unit {0}
IsCarriedOut (requests.Need need) outcome = Unit {0}
IsCarriedOut (requests.Standings asked) outcome = Unit {0}
IsCarriedOut (requests.UnknownPlace word) outcome = TellsNoPlace word outcome
IsCarriedOut table outcome = IfOk outcome (λ is_refused. is_refused ≡ false)
