use Rattle.std.proofs.Common.{◌≡◌, ℕ, List, length}
use Rattle.riichi_desk.specs.Studies.{AnswersAllStudies, manner_of}
use Rattle.riichi_desk.proofs.studies.answer_files.Given as goal

-- the files so far are answered
abbrev pub invariant-loop-file : goal.invariant-loop-file
invariant-loop-file g l =
    (texts : List (List ℕ)) × (length texts ≡ l.file-index) × AnswersAllStudies g.W.Sink (manner_of l.manner) l.fn.writer texts l.writer l.is_refused
