use Rattle.std.proofs.Common.{◌≡◌, ◌≢◌, ℕ, ◌<◌, get_or}
use Rattle.desk_crew.specs.declared.piece.Piece.{Piece}
use Rattle.desk_crew.proofs.share.Share.take.Given as goal

-- nothing was taken so far, and no piece so far has the number
abbrev pub invariant-loop-place : goal.invariant-loop-place
invariant-loop-place g l = record {
  same : l.self.pieces.items ≡ l.fn.self.pieces.items;
  others : (k : ℕ) (d : Piece) → k < l.place → (get_or l.fn.self.pieces.items k d).number ≢ l.number;
}
