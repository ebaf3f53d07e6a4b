-- What a study line asks.
use Rattle.std.specs.Prelude.{ℕ, ◌==◌, List, [], ◌∷◌, ◌++◌, length, Bool, false, Option, None, Some, Result, Ok, Err, codes, nat_lt, ok_or, replicate, if◌then◌else◌}
use Rattle.std.specs.List.{list_any}
use Rattle.riichi_hand.specs.declared.fault.LineCode.TheVariants.{H1, H2, H4, H6}
use Rattle.riichi_hand.specs.declared.fault.LineFault.{LineFault}
use Rattle.riichi_hand.specs.declared.fault.LineFault.TheVariants.{Line}
use Rattle.riichi_hand.specs.declared.job.Job.{Job}
use Rattle.riichi_hand.specs.declared.job.Job.TheVariants as jobs
use Rattle.riichi_hand.specs.HandParts.{ShapeParts}
use Rattle.riichi_hand.specs.Lines.{is_other_byte, outcome_of}
use Rattle.riichi_hand.specs.Rules.{Rules, first_profile}
use Rattle.riichi_hand.specs.Values.{wind_of}
use Rattle.riichi_hand.specs.declared.win.Wind.{Wind}
use Rattle.riichi_hand.specs.Words.{words_of}
use Rattle.riichi_deeper.specs.declared.thrown.Thrower.{Thrower}
use Rattle.riichi_safe.specs.Records.{safe_record_of}
use Rattle.riichi_safe.specs.SafeParts.{SafeParts}
use Rattle.riichi_worth.specs.declared.stakes.Stakes.{Stakes}
use Rattle.riichi_study.specs.declared.key.StudyKey.{StudyKey}
use Rattle.riichi_study.specs.declared.key.StudyKey.TheVariants as keys
use Rattle.riichi_study.specs.declared.name.StudyName.{StudyName}
use Rattle.riichi_study.specs.declared.name.StudyName.TheVariants.{Shape, Calls, Safe, Chances, Worth}
use Rattle.riichi_study.specs.declared.order.Order.{Order}
use Rattle.riichi_study.specs.declared.order.Order.TheVariants.{Live}
use Rattle.riichi_study.specs.declared.study.Study.{Study}
use Rattle.riichi_study.specs.declared.study.Study.TheVariants as asks
use Rattle.riichi_study.specs.CallParts.{CallParts}
use Rattle.riichi_study.specs.NamedRules.{rules_named}
use Rattle.riichi_study.specs.Records.{call_record_of, worth_record_of}
use Rattle.riichi_study.specs.Values.{order_of, thrower_of, tile_named, tiles_named, turns_named}
use Rattle.riichi_study.specs.Words.{only_of, shape_words, own_values, space_before_each, study_named}

-- what comes behind a value that has no fault
abbrev pub then_read : {X Y : Type 0} → Result X LineFault → (X → Result Y LineFault) → Result Y LineFault
then_read (Err fault) next = Err fault
then_read (Ok x) next = next x

-- ---- the hand

-- the shape line of some words
abbrev pub shape_line : List (List ℕ) → List ℕ
shape_line words = codes "shape" ++ space_before_each words

abbrev pub outcome_shape : Result (Option Job) LineFault → Result ShapeParts LineFault
outcome_shape (Ok (Some (jobs.Shape parts))) = Ok parts
outcome_shape (Ok (Some (jobs.Win win))) = Err (Line H2)
outcome_shape (Ok (Some (jobs.Waits hand))) = Err (Line H2)
outcome_shape (Ok None) = Err (Line H2)
outcome_shape (Err fault) = Err fault

-- the shape of the line without the words of the study's own, with the faults of that line
unfoldable pub hand_asked : StudyName → List (List ℕ) → Result ShapeParts LineFault
hand_asked job words = outcome_shape (outcome_of first_profile (shape_line (shape_words job words)))

-- ---- the words of the study's own

-- a value that may be missing
abbrev pub value_or : {X : Type 0} → Result X LineFault → (List ℕ → Option X) → Option (List ℕ) → Result X LineFault
value_or missing read None = missing
value_or missing read (Some value) = ok_or (read value) (Line H4)

-- by live copies, where none is said
unfoldable pub order_asked : List (List ℕ) → Result Order LineFault
order_asked words = then_read (only_of (own_values keys.Order words)) (value_or (Ok Live) order_of)

unfoldable pub tile_asked : List (List ℕ) → Result ℕ LineFault
tile_asked words = then_read (only_of (own_values keys.Tile words)) (value_or (Err (Line H6)) tile_named)

unfoldable pub from_asked : List (List ℕ) → Result Thrower LineFault
from_asked words = then_read (only_of (own_values keys.From words)) (value_or (Err (Line H6)) thrower_of)

unfoldable pub turns_asked : List (List ℕ) → Result ℕ LineFault
turns_asked words = then_read (only_of (own_values keys.Turns words)) (value_or (Err (Line H6)) turns_named)

unfoldable pub wind_asked : StudyKey → List (List ℕ) → Result Wind LineFault
wind_asked key words = then_read (only_of (own_values key words)) (value_or (Err (Line H6)) wind_of)

-- the first profile, where none are said
unfoldable pub rules_asked : List (List ℕ) → Result Rules LineFault
rules_asked words = then_read (only_of (own_values keys.Rules words)) (value_or (Ok first_profile) rules_named)

-- no tiles, where none are said
unfoldable pub tiles_asked : StudyKey → List (List ℕ) → Result (List ℕ) LineFault
tiles_asked key words = then_read (only_of (own_values key words)) (value_or (Ok (replicate 34 0)) tiles_named)

-- ---- the line

abbrev pub call_parts : ShapeParts → ℕ → Thrower → CallParts
call_parts hand tile by = record { hand = hand; thrown = record { tile = tile; by = by } }

unfoldable pub shape_asked : List (List ℕ) → Result (Option Study) LineFault
shape_asked words =
    then_read (hand_asked Shape words) (λ hand. then_read (order_asked words) (λ order. Ok (Some (asks.Shape hand order))))

unfoldable pub calls_asked : List (List ℕ) → Result (Option Study) LineFault
calls_asked words =
    then_read (hand_asked Calls words) (λ hand. then_read (tile_asked words) (λ tile. then_read (from_asked words) (λ by.
    then_read (call_record_of (call_parts hand tile by)) (λ parts. Ok (Some (asks.Calls parts))))))

abbrev pub safe_parts : ShapeParts → List ℕ → List ℕ → List ℕ → SafeParts
safe_parts hand own thrown since = record { hand = hand; own = own; thrown = thrown; since = since }

unfoldable pub safe_asked : List (List ℕ) → Result (Option Study) LineFault
safe_asked words =
    then_read (hand_asked Safe words) (λ hand. then_read (tiles_asked keys.Own words) (λ own. then_read (tiles_asked keys.Thrown words) (λ thrown. then_read (tiles_asked keys.Since words) (λ since.
    then_read (safe_record_of (safe_parts hand own thrown since)) (λ parts. Ok (Some (asks.Safe parts)))))))

unfoldable pub chances_asked : List (List ℕ) → Result (Option Study) LineFault
chances_asked words =
    then_read (hand_asked Chances words) (λ hand. then_read (turns_asked words) (λ turns. Ok (Some (asks.Chances hand turns))))

abbrev pub stakes_with : Wind → Wind → List ℕ → Rules → Stakes
stakes_with seat round dora rules = record { rules = rules; seat = seat; round = round; dora = dora }

unfoldable pub stakes_asked : List (List ℕ) → Result Stakes LineFault
stakes_asked words =
    then_read (wind_asked keys.Seat words) (λ seat. then_read (wind_asked keys.Round words) (λ round. then_read (tiles_asked keys.Dora words) (λ dora. then_read (rules_asked words) (λ rules.
    Ok (stakes_with seat round dora rules)))))

unfoldable pub worth_asked : List (List ℕ) → Result (Option Study) LineFault
worth_asked words =
    then_read (hand_asked Worth words) (λ hand. then_read (turns_asked words) (λ turns. then_read (stakes_asked words) (λ stakes.
    then_read (worth_record_of hand stakes) (λ parts. Ok (Some (asks.Worth parts turns))))))

abbrev pub job_asked : Option StudyName → List (List ℕ) → Result (Option Study) LineFault
job_asked None words = Err (Line H2)
job_asked (Some Shape) words = shape_asked words
job_asked (Some Calls) words = calls_asked words
job_asked (Some Safe) words = safe_asked words
job_asked (Some Chances) words = chances_asked words
job_asked (Some Worth) words = worth_asked words

-- no word asks nothing; a byte that isn't printable is a fault before each other
abbrev pub line_asked : Bool → List (List ℕ) → Result (Option Study) LineFault
line_asked is_odd [] = Ok None
line_asked is_odd (word ∷ words) = if is_odd then Err (Line H1) else job_asked (study_named word) words

abbrev pub is_note : List ℕ → Bool
is_note [] = false
is_note (byte ∷ bytes) = byte == 35

-- The question of a line: over 4096 bytes is a fault, whatever it holds; else it is a comment or has no word, or has a fault, or asks.
unfoldable pub study_of : List ℕ → Result (Option Study) LineFault
study_of line =
    if nat_lt 4096 (length line) then Err (Line H1)
    else (if is_note line then Ok None
    else line_asked (list_any is_other_byte line) (words_of line))
