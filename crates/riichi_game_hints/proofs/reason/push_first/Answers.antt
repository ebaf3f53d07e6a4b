use Rattle.std.proofs.Common.{codes}
use Rattle.riichi_text.proofs.Pieces.{pushed-three}
use Rattle.riichi_game_hints.proofs.reason.push_first.Goals as goal

pub returns-clause-bytes : goal.returns-clause-bytes
returns-clause-bytes c =
    pushed-three c.args.text.now.bytes (codes "no line begins with ") c.args.word.now (codes ": ron, tsumo, draw, abort, chombo, penalty, stands, end, undo and game do")
    c.push_str.ensures.bytes c.push_str-2.ensures.bytes c.push_str-3.ensures.bytes
