-- What a program is answered.
use Rattle.std.specs.Prelude.{ℕ, ◌+◌, ◌-◌, ◌^◌, length, List, [], Option, None, Some, Bool, ◌&&◌, nat_le, nat_lt, unwrap_or, ◌==◌, if◌then◌else◌, codes}
use Rattle.riichi_hand.specs.Rules.{Rules, every_switch, first_profile, second_profile}
use Rattle.desk_lines.specs.LineAnswer.{answer_of}

-- the rules of this number: 1 and 2 are the profiles; beyond 65536 is the number whose bits say which rules are on
abbrev pub rules_numbered : ℕ → Option Rules
rules_numbered number =
    if number == 1 then Some first_profile
    else if number == 2 then Some second_profile
    else if nat_le 65536 number && nat_lt number (65536 + 2 ^ length every_switch) then Some (number - 65536) else None

-- no bytes for a line that is no record
abbrev pub reply_under : Option Rules → List ℕ → List ℕ
reply_under None line = codes "refused rules"
reply_under (Some rules) line = unwrap_or (answer_of rules line) []

-- what a text's line is answered under the profile of this number
unfoldable pub reply_to : ℕ → List ℕ → List ℕ
reply_to number line = reply_under (rules_numbered number) line
