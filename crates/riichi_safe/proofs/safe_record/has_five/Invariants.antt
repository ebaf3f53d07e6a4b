use Rattle.std.proofs.Common.{◌≡◌, take}
use Rattle.std.specs.Prelude.{nat_lt}
use Rattle.std.specs.List.{list_any}
use Rattle.riichi_tiles.specs.Melds.{every_kind}
use Rattle.riichi_safe.specs.Records.{copies_seen}
use Rattle.riichi_safe.proofs.safe_record.has_five.Given as goal

-- a kind so far has five
abbrev pub invariant-loop-number : goal.invariant-loop-number
invariant-loop-number l =
    l.found ≡ list_any (λ kind. nat_lt 4 (copies_seen (record { hand = l.hand; own = l.own; thrown = l.thrown; since = l.since }) kind)) (take l.number every_kind)
