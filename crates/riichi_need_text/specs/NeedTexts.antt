-- The texts of what a player needs.
use Rattle.std.specs.Prelude.{ℕ, min, List, [], ◌++◌, codes, decimal, if◌then◌else◌, Option, None, Some}
use Rattle.std.specs.List.{flat_map}
use Rattle.riichi_hand.specs.Rules.{Rules}
use Rattle.riichi_hand.specs.declared.win.By.{By}
use Rattle.riichi_score.specs.Payment.{paid_for}
use Rattle.riichi_score.specs.Text.{payment_text}
use Rattle.riichi_table.specs.Players.{of_player, is_same_player}
use Rattle.riichi_table.specs.declared.player.Player.{Player}
use Rattle.riichi_table.specs.declared.player.Player.TheVariants.{First, Second, Third, Fourth}
use Rattle.riichi_table.specs.declared.player.ByPlayer.{ByPlayer}
use Rattle.riichi_game.specs.declared.values.LimitHand.{LimitHand}
use Rattle.riichi_game.specs.declared.values.LimitHand.TheVariants.{Mangan, Haneman, Baiman, Sanbaiman, Yakuman}
use Rattle.riichi_need.specs.Rows.{all_fu, limit_of, pays_so}
use Rattle.riichi_need.specs.Winning.{way_by}
use Rattle.riichi_need.specs.declared.need.Need.{Need}
use Rattle.riichi_need.specs.declared.need.Needs.{Needs}
use Rattle.riichi_need.specs.declared.need.Row.{Row}
use Rattle.riichi_need.specs.declared.question.Question.{Question}
use Rattle.riichi_need.specs.declared.question.Way.{Way}
use Rattle.riichi_need.specs.declared.question.Way.TheVariants.{Ron, Tsumo}

-- `need Cyd place 1`
abbrev pub asked_text : ByPlayer (List ℕ) → Question → List ℕ
asked_text names question = codes "need " ++ of_player names question.player ++ codes " place " ++ decimal question.place

abbrev pub way_text : ByPlayer (List ℕ) → Way → List ℕ
way_text names (Ron from) = codes "from " ++ of_player names from
way_text names Tsumo = codes "tsumo"

-- ---- the hands that have so many base points

abbrev pub limit_hand_text : Option LimitHand → List ℕ
limit_hand_text None = []
limit_hand_text (Some Mangan) = codes " mangan"
limit_hand_text (Some Haneman) = codes " haneman"
limit_hand_text (Some Baiman) = codes " baiman"
limit_hand_text (Some Sanbaiman) = codes " sanbaiman"
limit_hand_text (Some (Yakuman limits)) = codes " yakuman"

-- ` 3.60` where a hand of so many han and fu has them
abbrev pub counted_hand_text : Rules → By → ℕ → ℕ → ℕ → List ℕ
counted_hand_text rules by base han fu =
    if pays_so rules by base han fu then codes " " ++ decimal han ++ codes "." ++ decimal fu else []

abbrev pub counted_hands_text : Rules → By → ℕ → ℕ → List ℕ
counted_hands_text rules by base han = flat_map (counted_hand_text rules by base han) all_fu

-- the limit hand, and those of up to four han by their fu; with more han a hand is a limit hand
abbrev pub hands_text : Rules → By → ℕ → List ℕ
hands_text rules by base =
    limit_hand_text (limit_of base) ++ counted_hands_text rules by base 1 ++ counted_hands_text rules by base 2 ++ counted_hands_text rules by base 3
    ++ counted_hands_text rules by base 4

-- ---- a price of the table of payments

-- what is paid for so many base points, one yakuman at most, without counters, and each hand that has them
abbrev pub base_price_text : Question → Way → ℕ → List ℕ
base_price_text question way base =
    payment_text (paid_for (min base 8000) (way_by way) (is_same_player question.player question.state.dealer) 0)
    ++ hands_text question.rules.hand (way_by way) base

abbrev pub price_text : Question → Way → Option Row → List ℕ
price_text question way None = codes "none"
price_text question way (Some row) = base_price_text question way row.base

-- `from Bo strictly 3600 1.110 tie 3200 2.50 3.25`
abbrev pub need_text : ByPlayer (List ℕ) → Question → Way → Need → List ℕ
need_text names question way need =
    way_text names way ++ codes " strictly " ++ price_text question way need.strictly ++ codes " tie " ++ price_text question way need.with_tie

-- ---- the whole answer

-- a line off another player's discard, and nothing off the own one
abbrev pub ron_text : ByPlayer (List ℕ) → Question → Player → Option Need → List ℕ
ron_text names question from None = []
ron_text names question from (Some need) = codes "\n" ++ need_text names question (Ron from) need

-- what is asked, then a line for each way of winning
abbrev pub needs_text : ByPlayer (List ℕ) → Question → Needs → List ℕ
needs_text names question needs =
    asked_text names question ++ ron_text names question First needs.by_ron.first ++ ron_text names question Second needs.by_ron.second
    ++ ron_text names question Third needs.by_ron.third ++ ron_text names question Fourth needs.by_ron.fourth
    ++ codes "\n" ++ need_text names question Tsumo needs.by_tsumo ++ codes "\n"
