use Rattle.std.proofs.Common.{◌≡◌, ◌∷◌, ◌++◌, drop, map}
use Rattle.desk_score.specs.Heads.{shown_byte}
use Rattle.desk_score.proofs.paper.Paper.put_name.Given as goal

-- the bytes so far stand behind the number, and the others are still to be put
abbrev pub invariant-loop-byte : goal.invariant-loop-byte
invariant-loop-byte l = l.fn.self.text.items ++ (32 ∷ map shown_byte l.byte-items) ≡ l.self.text.items ++ map shown_byte (drop l.byte-index l.byte-items)
