use Rattle.std.proofs.Common.{◌≡◌, ℕ, ◌≤◌, List, ◌++◌, length, drop}
use Rattle.desk_lines.specs.Filling.{IsCutBehindLine}
use Rattle.desk_lines.specs.Lines.{lines}
use Rattle.desk_lines.specs.Records.{AreTold}
use Rattle.desk_lines.specs.Telling.{text_of}
use Rattle.desk_lines.proofs.filling.fill_by.Given as goal

-- the text up to the rest is answered, and the answers fill the front of the room
abbrev pub invariant-loop-line : goal.invariant-loop-line
invariant-loop-line g l =
    (front : List ℕ) × (told : List (List ℕ)) × record {
      cut : IsCutBehindLine l.text front l.rest;
      are_told : AreTold g.A.Responder.may_tell l.rules (lines front) told;
      filled : l.filled ≡ length (text_of told);
      within : l.filled ≤ length l.fn.room;
      room : l.room ≡ text_of told ++ drop l.filled l.fn.room;
    }

abbrev pub decreases-loop-line : goal.decreases-loop-line
decreases-loop-line g l = length l.rest
