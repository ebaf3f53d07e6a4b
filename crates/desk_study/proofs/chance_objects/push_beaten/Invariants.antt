use Rattle.std.proofs.Common.{◌+◌, ◌*◌, ◌≤◌, map, take}
use Rattle.arrayvec.specs.ArrayString.{array_string_len}
use Rattle.desk_json.specs.Parts.{quoted_kind}
use Rattle.desk_study.specs.ChanceObjects.{beaten_kind}
use Rattle.desk_study.specs.declared.safe_objects.TheConstants.{MOST_QUOTED}
use Rattle.desk_study.proofs.ListedLemmas.{IsListed}
use Rattle.desk_study.proofs.chance_objects.push_beaten.Given as goal

-- those so far are written
abbrev pub invariant-loop-other : goal.invariant-loop-other
invariant-loop-other l = record {
  listed : IsListed quoted_kind (map (beaten_kind l.odds) (take l.other-index l.others)) l.initial.text.bytes l.text.bytes l.later;
  few : array_string_len l.text ≤ array_string_len l.initial.text + MOST_QUOTED * l.other-index;
}
