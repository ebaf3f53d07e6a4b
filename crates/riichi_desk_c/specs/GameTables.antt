-- The rules of a table, by a name and as a row.
use Rattle.std.specs.Prelude.{◌≡◌, ℕ, ◌==◌, Option, Some, None, is_none, if◌then◌else◌}
use Rattle.riichi_hand.specs.Rules.{Rules}
use Rattle.riichi_table.specs.RulesFaults.{rules_fault}
use Rattle.riichi_table.specs.Tables.{club, league, online}
use Rattle.riichi_table.specs.declared.rules.TableRules.{TableRules}
use Rattle.riichi_game_rows.specs.FaultNumbers.{rules_fault_number}
use Rattle.riichi_game_rows.specs.TableRows.{table_in, table_row}
use Rattle.riichi_game_rows.specs.declared.table_row.TableRow.{TableRow}
use Rattle.riichi_desk_c.specs.Replies.{rules_numbered}

-- ---- by a name

abbrev pub table_named : ℕ → Option TableRules
table_named name =
    if name == 1 then Some club
    else if name == 2 then Some league
    else if name == 3 then Some online
    else None

-- the row has the rules of a name, in which hands are valued by the first profile; 200 where there is no such name
abbrev pub IsTableOf : Option TableRules → ℕ → TableRow → TableRow → Type 0
IsTableOf None told before after = (told ≡ 200) × (after ≡ before)
IsTableOf (Some rules) told before after = (told ≡ 0) × (after ≡ table_row 1 rules)

-- ---- as a row

abbrev pub table_by : Option Rules → TableRow → Option TableRules
table_by None row = None
table_by (Some hand) row = table_in hand row

-- the rules that a row says
abbrev pub rules_in : TableRow → Option TableRules
rules_in row = table_by (rules_numbered row.rules) row

-- 200 where the row says nothing
abbrev pub fault_number_by : Option TableRules → ℕ
fault_number_by None = 200
fault_number_by (Some rules) = rules_fault_number (rules_fault rules)

abbrev pub if_allowed : Option TableRules → Option TableRules
if_allowed None = None
if_allowed (Some rules) = if is_none (rules_fault rules) then Some rules else None

-- the rules that a row says, if a table may choose them
abbrev pub allowed_rules_in : TableRow → Option TableRules
allowed_rules_in row = if_allowed (rules_in row)
