use Rattle.std.proofs.Common.{◌≡◌, ◌++◌, take, string_bytes}
use Rattle.desk_cli.specs.Requests.{texts}
use Rattle.riichi_desk.specs.Told.{spaced_words}
use Rattle.riichi_desk.proofs.lines.push_spaced.Given as goal

abbrev pub invariant-loop-word : goal.invariant-loop-word
invariant-loop-word l = string_bytes l.text ≡ string_bytes l.fn.text ++ spaced_words (texts (take l.word-index l.words))
