use Rattle.std.proofs.Common.{◌≡◌, ◌≤◌, ◌+◌, ◌*◌, ◌++◌, length, take}
use Rattle.std.specs.List.{flat_map}
use Rattle.arrayvec.specs.ArrayString.{array_string_len}
use Rattle.riichi_need_text.specs.NeedTexts as spec
use Rattle.riichi_need_text.specs.declared.need.TheConstants.{MOST_COUNTED_HAND}
use Rattle.riichi_need_text.proofs.need.push_counted_hands_of.Given as goal

-- the hands of the fu so far are written
abbrev pub invariant-loop-fu : goal.invariant-loop-fu
invariant-loop-fu l =
    (l.text.bytes ≡ l.initial.text.bytes ++ flat_map (spec.counted_hand_text l.rules l.by l.base l.han) (take l.fu-index l.all_fu))
    × (array_string_len l.text ≤ array_string_len l.initial.text + l.fu-index * MOST_COUNTED_HAND)
