use Rattle.std.proofs.Common.{◌≡◌, ℕ, ◌<◌, ◌≤◌, get_or}
use Rattle.std.specs.List.{All}
use Rattle.desk_crew.specs.declared.share.Share.{Share}
use Rattle.desk_crew.specs.Pieces.{HaveAnswers, IsWithout}
use Rattle.desk_crew.proofs.round.take_piece.Given as goal

-- each piece that is left is answered; no share so far had the piece, and the others are as they were
abbrev pub invariant-loop-place : goal.invariant-loop-place
invariant-loop-place g l = record {
  answered : All (HaveAnswers g.A.Responder.may_tell l.fn.rules l.text l.size) l.shares;
  without : (k : ℕ) (d : Share) → k < l.place → IsWithout l.number (get_or l.fn.shares k d);
  others : (k : ℕ) (d : Share) → l.place ≤ k → get_or l.shares k d ≡ get_or l.fn.shares k d;
}
