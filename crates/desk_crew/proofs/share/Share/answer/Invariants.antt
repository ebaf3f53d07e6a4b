use Rattle.std.proofs.Common.{ℕ, ◌<◌, get_or}
use Rattle.desk_crew.specs.declared.piece.Piece.{Piece}
use Rattle.desk_crew.specs.Pieces.{HasAnswers}
use Rattle.desk_crew.proofs.share.Share.answer.Given as goal

-- the pieces before this place are answered
abbrev pub invariant-loop-place : goal.invariant-loop-place
invariant-loop-place g l = (j : ℕ) (d : Piece) → j < l.place → HasAnswers g.A.Responder.may_tell l.rules l.text l.size (get_or l.self.pieces.items j d)
