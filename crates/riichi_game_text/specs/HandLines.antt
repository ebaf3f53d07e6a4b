-- A hand in a line of a game.
use Rattle.std.specs.Prelude.{ℕ, List, [], ◌∷◌, ◌++◌, codes, Bool, false, ◌||◌, Option, None, Some, Result, Ok, Err, if◌then◌else◌}
use Rattle.std.specs.List.{flat_map}
use Rattle.std.specs.Str.{bytes_eq}
use Rattle.riichi_hand.specs.Rules.{Rules}
use Rattle.riichi_hand.specs.Lines.{outcome_of}
use Rattle.riichi_hand.specs.declared.fault.LineCode.TheVariants.{H1, H2, H3, H4}
use Rattle.riichi_hand.specs.declared.fault.LineFault.{LineFault}
use Rattle.riichi_hand.specs.declared.fault.LineFault.TheVariants.{Line}
use Rattle.riichi_hand.specs.declared.job.Job.{Job}
use Rattle.riichi_hand.specs.declared.job.Job.TheVariants.{Win}
use Rattle.riichi_hand.specs.declared.win.By.{By}
use Rattle.riichi_hand.specs.declared.win.By.TheVariants.{Ron, Tsumo}
use Rattle.riichi_hand.specs.declared.win.Wind.{Wind}
use Rattle.riichi_hand.specs.declared.win.Wind.TheVariants.{East, South, West, North}
use Rattle.riichi_hand.specs.declared.win.WinParts.{WinParts}
use Rattle.riichi_game_text.specs.Words.{has_equals}
use Rattle.riichi_game_text.specs.TableWords.{key_of, first_value}
use Rattle.riichi_game_text.specs.declared.hand_line.Known.{Known}

-- the words of a hand: those with `=` that come next
abbrev pub words_with_equals : List (List ℕ) → List (List ℕ)
words_with_equals [] = []
words_with_equals (word ∷ words) = if has_equals word then word ∷ words_with_equals words else []

-- what stands behind them
abbrev pub behind_entries : List (List ℕ) → List (List ℕ)
behind_entries [] = []
behind_entries (word ∷ words) = if has_equals word then behind_entries words else word ∷ words

-- ---- the line of a win

abbrev pub won_by_word : By → List ℕ
won_by_word Ron = codes " by=ron"
won_by_word Tsumo = codes " by=tsumo"

abbrev pub wind_word : Wind → List ℕ
wind_word East = codes "E"
wind_word South = codes "S"
wind_word West = codes "W"
wind_word North = codes "N"

abbrev pub riichi_word : Bool → List ℕ
riichi_word bets = if bets then codes " riichi=1" else []

-- how it was won, the winner's seat, the round, and a bet that the hand doesn't name
unfoldable pub known_words : Known → List ℕ
known_words known =
    won_by_word known.by ++ codes " seat=" ++ wind_word known.seat ++ codes " round=" ++ wind_word known.round ++ riichi_word known.bets

abbrev pub spaced : List ℕ → List ℕ
spaced word = 32 ∷ word

-- `win HAND by=ron seat=S round=E on=5s`
abbrev pub hand_line : Known → List ℕ → List (List ℕ) → List ℕ
hand_line known hand words = codes "win " ++ hand ++ known_words known ++ flat_map spaced words

-- ---- the record of the hand

abbrev pub win_of_job : Job → Result WinParts LineFault
win_of_job (Win win) = Ok win
win_of_job other = Err (Line H2)

abbrev pub won_by : Result (Option Job) LineFault → Result WinParts LineFault
won_by (Ok (Some job)) = win_of_job job
won_by (Ok None) = Err (Line H2)
won_by (Err fault) = Err fault

-- the words that the game knows, which no hand in it has
abbrev pub is_known : List ℕ → Bool
is_known key =
    bytes_eq key (codes "by") || bytes_eq key (codes "seat") || bytes_eq key (codes "round") || bytes_eq key (codes "counters")
    || bytes_eq key (codes "sticks")

abbrev pub has_known : List (List ℕ) → Bool
has_known [] = false
has_known (word ∷ words) = is_known (key_of word) || has_known words

-- such a word is at fault behind a foreign byte and a word that is no hand
abbrev pub known_fault : Result WinParts LineFault → LineFault
known_fault (Err (Line H1)) = Line H1
known_fault (Err (Line H3)) = Line H3
known_fault other = Line H4

abbrev pub unless_known : Bool → Result WinParts LineFault → Result WinParts LineFault
unless_known has read = if has then Err (known_fault read) else read

-- the hand as the line of a win says it, with what the game knows
unfoldable pub hand_said : Rules → Known → List ℕ → List (List ℕ) → Result WinParts LineFault
hand_said rules known hand words = unless_known (has_known words) (won_by (outcome_of rules (hand_line known hand words)))

-- the value of a word of a hand
abbrev pub entry_value : List ℕ → List (List ℕ) → Option (List ℕ)
entry_value key words = first_value key (words_with_equals words)
