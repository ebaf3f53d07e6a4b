use Rattle.riichi_rows.proofs.Opposite.{marks_at_is}
use Rattle.riichi_rows.proofs.lacked.marks_at.Goals as goal

pub returns : goal.returns
returns c bit = marks_at_is c.args.sums.lacks c.args.least c.args.sums.sixteen c.args.marks c.fits-marks.0 bit
