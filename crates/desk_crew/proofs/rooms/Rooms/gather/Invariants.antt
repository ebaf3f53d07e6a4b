use Rattle.std.proofs.Common.{◌≡◌, ℕ, List, map, take}
use Rattle.std.specs.List.{All, concat}
use Rattle.desk_lines.specs.Lines.{ended_lines}
use Rattle.desk_lines.specs.Records.{AreTold}
use Rattle.desk_lines.specs.Slips.{both_tallies, tally_of}
use Rattle.desk_lines.specs.Telling.{text_of}
use Rattle.desk_crew.specs.Pieces.{HaveAnswers, edge}
use Rattle.desk_crew.proofs.rooms.Rooms.gather.Given as goal

-- the answers of the pieces before this number stand in their rooms, and are counted
abbrev pub invariant-loop-number : goal.invariant-loop-number
invariant-loop-number g l = (told : List (List ℕ)) × record {
  answered : All (HaveAnswers g.A.Responder.may_tell l.fn.rules l.text l.size) l.shares;
  are_told : AreTold g.A.Responder.may_tell l.fn.rules (ended_lines (take (edge l.text l.size l.number) l.text)) told;
  answers : concat (map (λ room. room.items) (take l.number l.self.rooms.items)) ≡ text_of told;
  tally : l.tally ≡ both_tallies l.fn.tally (tally_of l.fn.rules (ended_lines (take (edge l.text l.size l.number) l.text)));
}
