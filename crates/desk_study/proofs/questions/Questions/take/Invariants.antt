use Rattle.std.proofs.Common.{◌≡◌}
use Rattle.desk_study.specs.Tellers.{LineWantsMemory}
use Rattle.desk_study.proofs.questions.Questions.take.Given as goal

-- nothing is put yet, and the line asks for chances
abbrev pub invariant-loop-most : goal.invariant-loop-most
invariant-loop-most g l = record {
  manner : l.self.manner ≡ l.fn.self.manner;
  bytes : l.outbox.bytes.items ≡ l.fn.outbox.bytes.items;
  asks : LineWantsMemory l.line;
}
