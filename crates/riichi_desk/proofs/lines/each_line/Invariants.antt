use Rattle.std.proofs.Common.{◌≡◌, take, string_bytes}
use Rattle.desk_cli.specs.Requests.{texts}
use Rattle.riichi_desk.specs.Told.{each_line}
use Rattle.riichi_desk.proofs.lines.each_line.Given as goal

abbrev pub invariant-loop-word : goal.invariant-loop-word
invariant-loop-word l = string_bytes l.text ≡ each_line (texts (take l.word-index l.words))
