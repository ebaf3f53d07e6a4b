use Rattle.std.proofs.Common.{codes, decimal}
use Rattle.riichi_explain.specs.Text.{rounded_to}
use Rattle.riichi_text.proofs.Pieces.{pushed-two}
use Rattle.riichi_explain.proofs.rows_text.push_rounded_to.Goals as goal

pub returns-clause-bytes : goal.returns-clause-bytes
unfolding rounded_to
returns-clause-bytes c =
    pushed-two c.args.text.now.bytes (codes ", rounded to ") (decimal c.args.fu) c.push_str.ensures.bytes c.push_number.ensures.bytes
