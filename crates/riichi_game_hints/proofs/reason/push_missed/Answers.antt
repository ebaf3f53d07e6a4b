use Rattle.std.proofs.Common.{codes, decimal}
use Rattle.riichi_text.proofs.Pieces.{pushed_four}
use Rattle.riichi_game_hints.proofs.reason.push_missed.Goals as goal

pub returns-clause-bytes : goal.returns-clause-bytes
returns-clause-bytes c =
    pushed_four c.args.text.now.bytes (codes "the points with 1000 for each stick are ") (decimal c.args.points) c.args.side.now (codes " than four times the start")
    c.push_str.ensures.bytes c.push_number.ensures.bytes c.push_str-2.ensures.bytes c.push_str-3.ensures.bytes
