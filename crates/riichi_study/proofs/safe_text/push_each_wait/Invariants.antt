use Rattle.std.proofs.Common.{◌≡◌, ◌+◌, ◌*◌, ◌≤◌, ◌++◌, take}
use Rattle.std.specs.List.{flat_map}
use Rattle.arrayvec.specs.ArrayString.{array_string_len}
use Rattle.riichi_study.specs.SafeTexts.{two_sided_text}
use Rattle.riichi_study.specs.declared.safe_text.TheConstants.{MOST_WAIT}
use Rattle.riichi_study.proofs.safe_text.push_each_wait.Given as goal

-- the waits so far are written
abbrev pub invariant-loop-wait : goal.invariant-loop-wait
invariant-loop-wait l = record {
  bytes : l.text.bytes ≡ l.initial.text.bytes ++ flat_map two_sided_text (take l.wait-index l.waits);
  few : array_string_len l.text ≤ array_string_len l.initial.text + l.wait-index * MOST_WAIT;
}
