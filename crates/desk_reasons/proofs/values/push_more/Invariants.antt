use Rattle.std.proofs.Common.{◌≡◌, ◌≤◌, ◌+◌, ◌*◌, ◌++◌, take, codes}
use Rattle.std.specs.List.{flat_map}
use Rattle.arrayvec.specs.ArrayString.{array_string_len}
use Rattle.desk_reasons.proofs.values.push_more.Given as goal

-- the values so far are written
abbrev pub invariant-loop-row : goal.invariant-loop-row
invariant-loop-row g l =
    (l.text.bytes ≡ l.initial.text.bytes ++ flat_map (λ next. codes "," ++ g.T.Value.value_text next) (take l.row-index l.rows))
    × (array_string_len l.text ≤ array_string_len l.initial.text + l.row-index * (1 + g.T.Value.most))
