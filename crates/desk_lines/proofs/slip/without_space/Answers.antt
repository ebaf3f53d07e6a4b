use Rattle.desk_lines.proofs.SlipLemmas.{without_space_is}
use Rattle.desk_lines.proofs.slip.without_space.Goals as goal

pub returns : goal.returns
returns c = without_space_is c.args.text.now c.trim_ascii_start.result.now c.trim_ascii_start.ensures.value
