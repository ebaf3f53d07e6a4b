use Rattle.std.proofs.Common.{codes}
use Rattle.riichi_text.specs.Tiles.{block_text, kind_text}
use Rattle.riichi_explain.specs.Text.{completes_text}
use Rattle.riichi_text.proofs.Pieces.{pushed_four}
use Rattle.riichi_explain.proofs.reading_text.push_completes.Goals as goal

pub returns-clause-bytes : goal.returns-clause-bytes
unfolding completes_text
returns-clause-bytes c =
    pushed_four c.args.text.now.bytes (codes ", ") (kind_text c.args.winning) (codes " completes ") (block_text c.args.done.now)
    c.push_str.ensures.bytes c.push_kind.ensures.bytes c.push_str-2.ensures.bytes c.push_block.ensures.bytes
