use Rattle.std.proofs.Common.{◌≡◌, ◌≤◌, ◌+◌, ◌*◌, ◌++◌, length, map}
use Rattle.desk_json.specs.declared.yaku.TheConstants.{MOST_ONE}
use Rattle.desk_json.specs.Parts.{listed, yaku_json}
use Rattle.desk_json.proofs.Lists.{is_begun}
use Rattle.desk_json.proofs.yaku.push_yaku.Given as goal

abbrev pub invariant-loop-yaku : goal.invariant-loop-yaku
invariant-loop-yaku l = record {
  parts : l.initial.yaku-iterator ≡ l.yielded ++ l.yaku-iterator;
  bytes : l.text.bytes ≡ l.fn.text.bytes ++ listed (map yaku_json l.yielded);
  begun : l.later ≡ is_begun l.yielded;
  few : length l.text.bytes ≤ length l.fn.text.bytes + MOST_ONE * length l.yielded;
}
