-- What a program is answered as JSON.
use Rattle.std.specs.Prelude.{ℕ, List, [], Option, None, Some, unwrap_or, codes}
use Rattle.riichi_hand.specs.Rules.{Rules}
use Rattle.desk_lines.specs.JsonLine.{json_of}
use Rattle.riichi_desk_c.specs.Replies.{rules_numbered}

-- no bytes for a line that is no record
abbrev pub json_under : Option Rules → List ℕ → List ℕ
json_under None line = codes "{\"answer\":\"refused\",\"code\":\"rules\"}"
json_under (Some rules) line = unwrap_or (json_of rules line) []

-- what a text's line is answered as JSON under the profile of this number
unfoldable pub json_reply_to : ℕ → List ℕ → List ℕ
json_reply_to number line = json_under (rules_numbered number) line
