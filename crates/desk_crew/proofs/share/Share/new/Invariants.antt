use Rattle.std.proofs.Common.{◌-◌, length}
use Rattle.desk_crew.proofs.share.Share.new.Given as goal

-- so many places are to come
abbrev pub decreases-loop-pieces : goal.decreases-loop-pieces
decreases-loop-pieces l = 64 - length l.pieces.items
