use Rattle.std.proofs.Common.{◌≡◌, ◌+◌, ◌*◌, ◌≤◌, ◌++◌, map, take}
use Rattle.arrayvec.specs.ArrayString.{array_string_len}
use Rattle.desk_json.proofs.Lists.{is_begun}
use Rattle.desk_json.specs.Parts.{listed}
use Rattle.desk_study.specs.Objects.{choice_json}
use Rattle.desk_study.specs.declared.objects.TheConstants.{MOST_CHOICE}
use Rattle.desk_study.proofs.objects.push_choices.Given as goal

-- the choices so far are written
abbrev pub invariant-loop-place : goal.invariant-loop-place
invariant-loop-place l = record {
  bytes : l.text.bytes ≡ l.initial.text.bytes ++ listed (map choice_json (take l.place l.discards));
  begun : l.later ≡ is_begun (take l.place l.discards);
  few : array_string_len l.text ≤ array_string_len l.initial.text + l.place * MOST_CHOICE;
}
