use Rattle.std.proofs.Common.{◌≡◌, ℕ, List, length}
use Rattle.riichi_desk.specs.Games.{AnswersAllGames}
use Rattle.riichi_desk.proofs.games.answer_files.Given as goal

-- the files so far are answered
abbrev pub invariant-loop-file : goal.invariant-loop-file
invariant-loop-file g l =
    (texts : List (List ℕ)) × (length texts ≡ l.file-index) × AnswersAllGames g.W.Sink l.manner l.is_hinted l.fn.writer texts l.writer l.is_refused
