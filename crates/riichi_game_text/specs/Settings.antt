-- The words of the rules of a table, and what each says.
use Rattle.std.specs.Prelude.{ℕ, List, [], ◌∷◌, codes, Bool, true, false, Option, None, Some, option_map, ℤ, if◌then◌else◌}
use Rattle.riichi_tiles.specs.Melds.{cut_at}
use Rattle.std.specs.Str.{bytes_eq}
use Rattle.riichi_hand.specs.Values.{value_beside}
use Rattle.riichi_table.specs.Tables.{club, league, online}
use Rattle.riichi_table.specs.declared.rules.ByPlace.{ByPlace}
use Rattle.riichi_table.specs.declared.rules.TableRules.{TableRules}
use Rattle.riichi_table.specs.declared.rules.Ties.{Ties}
use Rattle.riichi_table.specs.declared.rules.Ties.TheVariants as ties
use Rattle.riichi_table.specs.declared.rules.SeveralWinners.{SeveralWinners}
use Rattle.riichi_table.specs.declared.rules.SeveralWinners.TheVariants as ron
use Rattle.riichi_table.specs.declared.rules.CountersTo.{CountersTo}
use Rattle.riichi_table.specs.declared.rules.CountersTo.TheVariants as counters
use Rattle.riichi_table.specs.declared.rules.SticksTo.{SticksTo}
use Rattle.riichi_table.specs.declared.rules.SticksTo.TheVariants as sticks
use Rattle.riichi_table.specs.declared.rules.Renchan.{Renchan}
use Rattle.riichi_table.specs.declared.rules.Renchan.TheVariants as renchan
use Rattle.riichi_table.specs.declared.rules.LastRound.{LastRound}
use Rattle.riichi_table.specs.declared.rules.LastRound.TheVariants as last
use Rattle.riichi_table.specs.declared.rules.LeftSticks.{LeftSticks}
use Rattle.riichi_table.specs.declared.rules.LeftSticks.TheVariants as left
use Rattle.riichi_table.specs.declared.rules.ChomboCost.{ChomboCost}
use Rattle.riichi_table.specs.declared.rules.ChomboCost.TheVariants as cost
use Rattle.riichi_game_text.specs.Numbers.{number_in, at_least_one, thousands_of}
use Rattle.riichi_game_text.specs.declared.setting.Setting.{Setting}
use Rattle.riichi_game_text.specs.declared.setting.Setting.TheVariants as setting

abbrev pub setting_words : List (List ℕ × Setting)
setting_words =
    (codes "table", setting.Table)
    ∷ (codes "rules", setting.Rules)
    ∷ (codes "start", setting.Start)
    ∷ (codes "return", setting.Return)
    ∷ (codes "uma", setting.Uma)
    ∷ (codes "ties", setting.Ties)
    ∷ (codes "ron", setting.Ron)
    ∷ (codes "counters", setting.Counters)
    ∷ (codes "sticks", setting.Sticks)
    ∷ (codes "liable", setting.Liable)
    ∷ (codes "nagashi", setting.Nagashi)
    ∷ (codes "renchan", setting.Renchan)
    ∷ (codes "length", setting.Length)
    ∷ (codes "extra", setting.Extra)
    ∷ (codes "bust", setting.Bust)
    ∷ (codes "stop", setting.Stop)
    ∷ (codes "left", setting.Left)
    ∷ (codes "chombo", setting.Chombo)
    ∷ (codes "session", setting.Session)
    ∷ (codes "at", setting.At)
    ∷ []

abbrev pub setting_named : List ℕ → Option Setting
setting_named word = value_beside setting_words word

-- ---- the values

abbrev pub preset_named : List ℕ → Option TableRules
preset_named value = value_beside ((codes "club", club) ∷ (codes "league", league) ∷ (codes "online", online) ∷ []) value

abbrev pub on_or_off : List ℕ → Option Bool
on_or_off value = value_beside ((codes "on", true) ∷ (codes "off", false) ∷ []) value

abbrev pub ties_named : List ℕ → Option Ties
ties_named value = value_beside ((codes "share", ties.Share) ∷ (codes "seat", ties.Seat) ∷ []) value

abbrev pub ron_named : List ℕ → Option SeveralWinners
ron_named value = value_beside ((codes "all", ron.All) ∷ (codes "nearest", ron.Nearest) ∷ (codes "two", ron.Two) ∷ []) value

abbrev pub counters_named : List ℕ → Option CountersTo
counters_named value = value_beside ((codes "nearest", counters.Nearest) ∷ (codes "each", counters.Each) ∷ []) value

abbrev pub sticks_named : List ℕ → Option SticksTo
sticks_named value = value_beside ((codes "nearest", sticks.Nearest) ∷ (codes "own", sticks.Own) ∷ []) value

abbrev pub renchan_named : List ℕ → Option Renchan
renchan_named value = value_beside ((codes "ready", renchan.Ready) ∷ (codes "win", renchan.Win) ∷ []) value

abbrev pub length_named : List ℕ → Option LastRound
length_named value = value_beside ((codes "south", last.South) ∷ (codes "east", last.East) ∷ []) value

abbrev pub left_named : List ℕ → Option LeftSticks
left_named value = value_beside ((codes "first", left.First) ∷ (codes "lost", left.Lost) ∷ []) value

-- `off`, or points
abbrev pub extra_of : List ℕ → Option (Option ℕ)
extra_of value = if bytes_eq value (codes "off") then Some None else option_map (λ points. Some points) (number_in value)

-- `mangan`, or points
abbrev pub cost_of : List ℕ → Option ChomboCost
cost_of value = if bytes_eq value (codes "mangan") then Some cost.Mangan else option_map cost.Points (number_in value)

-- four thousands with commas between them
abbrev pub before_comma : Option (List ℕ × List ℕ) → Option ℤ
before_comma None = None
before_comma (Some cut) = thousands_of cut.0

abbrev pub behind_comma : Option (List ℕ × List ℕ) → List ℕ
behind_comma None = []
behind_comma (Some cut) = cut.1

abbrev pub place_bonuses : Option ℤ → Option ℤ → Option ℤ → Option ℤ → Option (ByPlace ℤ)
place_bonuses (Some first) (Some second) (Some third) (Some fourth) = Some (record { first = first; second = second; third = third; fourth = fourth })
place_bonuses first second third fourth = None

abbrev pub cut_at_comma : List ℕ → Option (List ℕ × List ℕ)
cut_at_comma text = cut_at 44 text

unfoldable pub uma_named : List ℕ → Option (ByPlace ℤ)
uma_named value =
    let second = behind_comma (cut_at_comma value) in
    let third = behind_comma (cut_at_comma second) in
    let fourth = behind_comma (cut_at_comma third) in
    place_bonuses (before_comma (cut_at_comma value)) (before_comma (cut_at_comma second)) (before_comma (cut_at_comma third)) (thousands_of fourth)

-- ---- what a word changes

-- the rules with the value of one word; the words of a tournament change nothing, and those of all rules come first
abbrev pub changed : Setting → List ℕ → TableRules → Option TableRules
changed setting.Table value rules = Some rules
changed setting.Rules value rules = Some rules
changed setting.Start value rules = option_map (λ points. record rules { start = points }) (number_in value)
changed setting.Return value rules = option_map (λ points. record rules { returns = points }) (number_in value)
changed setting.Uma value rules = option_map (λ uma. record rules { uma = uma }) (uma_named value)
changed setting.Ties value rules = option_map (λ ties. record rules { ties = ties }) (ties_named value)
changed setting.Ron value rules = option_map (λ ron. record rules { ron = ron }) (ron_named value)
changed setting.Counters value rules = option_map (λ counters. record rules { counters = counters }) (counters_named value)
changed setting.Sticks value rules = option_map (λ sticks. record rules { sticks = sticks }) (sticks_named value)
changed setting.Liable value rules = option_map (λ on. record rules { liable = on }) (on_or_off value)
changed setting.Nagashi value rules = option_map (λ on. record rules { nagashi = on }) (on_or_off value)
changed setting.Renchan value rules = option_map (λ renchan. record rules { renchan = renchan }) (renchan_named value)
changed setting.Length value rules = option_map (λ last. record rules { length = last }) (length_named value)
changed setting.Extra value rules = option_map (λ extra. record rules { extra = extra }) (extra_of value)
changed setting.Bust value rules = option_map (λ on. record rules { bust = on }) (on_or_off value)
changed setting.Stop value rules = option_map (λ on. record rules { stop = on }) (on_or_off value)
changed setting.Left value rules = option_map (λ left. record rules { left = left }) (left_named value)
changed setting.Chombo value rules = option_map (λ cost. record rules { chombo = cost }) (cost_of value)
changed setting.Session value rules = option_map (λ number. rules) (at_least_one (number_in value))
changed setting.At value rules = option_map (λ number. rules) (at_least_one (number_in value))
