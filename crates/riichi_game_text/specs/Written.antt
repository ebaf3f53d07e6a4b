-- What a hand is worth by the words of a line.
use Rattle.std.specs.Prelude.{ℕ, List, [], ◌∷◌, codes, Bool, nat_le, min, Option, None, Some, Result, Ok, Err, if◌then◌else◌}
use Rattle.std.specs.List.{list_any}
use Rattle.std.specs.Str.{bytes_eq}
use Rattle.riichi_tiles.specs.Melds.{cut_at}
use Rattle.riichi_hand.specs.Rules.{Rules, is_on}
use Rattle.riichi_hand.specs.Values.{value_beside}
use Rattle.riichi_hand.specs.declared.switch.Switch.TheVariants.{DoubleYakuman}
use Rattle.riichi_hand.specs.declared.fault.LineFault.{LineFault}
use Rattle.riichi_hand.specs.declared.win.By.{By}
use Rattle.riichi_hand.specs.declared.win.WinParts.{WinParts}
use Rattle.riichi_yaku.specs.YakuSets.{contains, is_yakuman}
use Rattle.riichi_yaku.specs.declared.table.Yaku.TheVariants.{BigThreeDragons, BigFourWinds}
use Rattle.riichi_score.specs.Best.{best_of}
use Rattle.riichi_score.specs.declared.score.Score.{Score}
use Rattle.riichi_score.specs.declared.answer.WinAnswer.{WinAnswer}
use Rattle.riichi_score.specs.declared.answer.WinAnswer.TheVariants as answer
use Rattle.riichi_table.specs.declared.worth.Worth.{Worth}
use Rattle.riichi_game.specs.Hands.{worth_of_score}
use Rattle.riichi_game.specs.Values.{worth_of_han_and_fu, worth_of_limit}
use Rattle.riichi_game.specs.declared.values.LimitHand.{LimitHand}
use Rattle.riichi_game.specs.declared.values.LimitHand.TheVariants as limit
use Rattle.riichi_game_text.specs.Numbers.{number_in}
use Rattle.riichi_game_text.specs.HandLines.{hand_said}
use Rattle.riichi_game_text.specs.declared.hand_line.Known.{Known}
use Rattle.riichi_game_text.specs.declared.fault.GameFault.{GameFault}
use Rattle.riichi_game_text.specs.declared.fault.GameFault.TheVariants.{G6, G7}
use Rattle.riichi_game_text.specs.declared.fault.HandFault.TheVariants as fault
use Rattle.riichi_game_text.specs.declared.value.WrittenValue.{WrittenValue}
use Rattle.riichi_game_text.specs.declared.value.WrittenValue.TheVariants as written
use Rattle.riichi_game_text.specs.declared.value.ValueWorth.{ValueWorth}

-- ---- a value as it is written

-- words that no value is
abbrev pub part_words : List (List ℕ)
part_words = codes "from" ∷ codes "and" ∷ codes "liable" ∷ codes "ready" ∷ codes "nagashi" ∷ codes "riichi" ∷ []

abbrev pub is_part : List ℕ → Bool
is_part word = list_any (bytes_eq word) part_words

abbrev pub limit_named : List ℕ → Option LimitHand
limit_named word = value_beside (
    (codes "mangan", limit.Mangan) ∷ (codes "haneman", limit.Haneman) ∷ (codes "baiman", limit.Baiman)
    ∷ (codes "sanbaiman", limit.Sanbaiman) ∷ (codes "yakuman", limit.Yakuman 1) ∷ []
    ) word

-- numbers that no value has are kept as one that none has
abbrev pub small : ℕ → ℕ
small number = min number 255

-- `HAN.FU`
abbrev pub counted_named : Option ℕ → Option ℕ → Option WrittenValue
counted_named (Some han) (Some fu) = Some (written.Counted (small han) (small fu))
counted_named han fu = None

-- `yakuman:LIMITS`
abbrev pub limits_named : Option ℕ → Option WrittenValue
limits_named None = None
limits_named (Some limits) = Some (written.Limit (limit.Yakuman (small limits)))

-- the word of a hand, where it isn't one of the others
abbrev pub hand_or_counted : Option (List ℕ × List ℕ) → Option WrittenValue
hand_or_counted None = Some written.Hand
hand_or_counted (Some cut) = counted_named (number_in cut.0) (number_in cut.1)

abbrev pub behind_colon : List ℕ → Option (List ℕ × List ℕ) → Option WrittenValue
behind_colon word None = hand_or_counted (cut_at 46 word)
behind_colon word (Some cut) = if bytes_eq cut.0 (codes "yakuman") then limits_named (number_in cut.1) else hand_or_counted (cut_at 46 word)

abbrev pub unless_limit : List ℕ → Option LimitHand → Option WrittenValue
unless_limit word (Some hand) = Some (written.Limit hand)
unless_limit word None = behind_colon word (cut_at 58 word)

-- a value by its first word; none where that can't be one
unfoldable pub written_value : List ℕ → Option WrittenValue
written_value word = if is_part word then None else unless_limit word (limit_named word)

-- ---- what it is worth, and for how many limits somebody is liable where that isn't said

abbrev pub for_one : Option Worth → Result ValueWorth GameFault
for_one None = Err G6
for_one (Some worth) = Ok (record { worth = worth; limits = Some 1 })

-- han are 99 at most
abbrev pub counted_value : Rules → By → ℕ → ℕ → Result ValueWorth GameFault
counted_value rules by han fu = if nat_le han 99 then for_one (worth_of_han_and_fu rules by han fu) else Err G6

-- three dragons are one limit; four winds are one, or two where the rules double them
abbrev pub own_limits : Rules → ℕ → Option ℕ
own_limits rules yaku =
    if contains yaku BigFourWinds then Some (if is_on DoubleYakuman rules then 2 else 1)
    else if contains yaku BigThreeDragons then Some 1
    else None

abbrev pub liable_limits : Rules → Score → Option ℕ
liable_limits rules score = if is_yakuman score.yaku then own_limits rules score.yaku else None

abbrev pub value_worth_of_answer : Rules → WinAnswer → Result ValueWorth GameFault
value_worth_of_answer rules (answer.Won score) = Ok (record { worth = worth_of_score score; limits = liable_limits rules score })
value_worth_of_answer rules answer.NoYaku = Err (G7 fault.NoYaku)
value_worth_of_answer rules answer.NoWin = Err (G7 fault.NoWin)

abbrev pub worth_of_read : Rules → Result WinParts LineFault → Result ValueWorth GameFault
worth_of_read rules (Ok win) = value_worth_of_answer rules (best_of win)
worth_of_read rules (Err words) = Err (G7 (fault.Words words))

-- by the rules for hands and what the game knows; of a hand with its word and the words behind it
abbrev pub value_worth : Rules → Known → WrittenValue → List ℕ → List (List ℕ) → Result ValueWorth GameFault
value_worth rules known (written.Counted han fu) hand words = counted_value rules known.by han fu
value_worth rules known (written.Limit named) hand words = for_one (worth_of_limit rules named)
value_worth rules known written.Hand hand words = worth_of_read rules (hand_said rules known hand words)
