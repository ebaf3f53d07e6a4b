use Rattle.std.proofs.Common.{◌≡◌, ℕ, List, length}
use Rattle.riichi_desk.specs.Answering.{AnswersTexts}
use Rattle.riichi_desk.proofs.answering.Answering.files.Given as goal

-- the files so far are answered
abbrev pub invariant-loop-file : goal.invariant-loop-file
invariant-loop-file g l = record {
  manner : l.self.manner ≡ l.fn.self.manner;
  answered : (given : List (List ℕ)) × (length given ≡ l.file-index) × AnswersTexts g.W.Sink l.fn.self.manner l.fn.self.writer given l.self.writer l.is_refused;
}
