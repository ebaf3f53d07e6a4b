-- What a program is answered to the lines of a text.
use Rattle.std.specs.Prelude.{◌≡◌, ℕ, List, Option, None, Some}
use Rattle.riichi_hand.specs.Rules.{Rules}
use Rattle.desk_lines.specs.Filling.{Fills}
use Rattle.desk_lines.specs.Records.{AnswerKind}
use Rattle.riichi_desk_c.specs.Replies.{rules_numbered}

-- no line is answered where there is no profile
abbrev pub FillsBy : AnswerKind → Option Rules → List ℕ → List ℕ → List ℕ → ℕ → ℕ → Type 0
FillsBy answers None text before after taken filled = (taken ≡ 0) × (filled ≡ 0) × (after ≡ before)
FillsBy answers (Some rules) text before after taken filled = Fills answers rules text before after taken filled

-- The first lines of a text were answered into a room, as many as have room there, under the profile of this number.
abbrev pub FillsUnder : AnswerKind → ℕ → List ℕ → List ℕ → List ℕ → ℕ → ℕ → Type 0
FillsUnder answers number text before after taken filled = FillsBy answers (rules_numbered number) text before after taken filled
