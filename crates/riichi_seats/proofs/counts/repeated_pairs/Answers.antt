-- One player more.
use Rattle.std.proofs.Common.{◌≡◌, ℕ, subst, arith}
use Rattle.std.specs.List.{flat_map, range_with_len}
use Rattle.riichi_seats.specs.Counts.{repeated_with, repeated_pairs}
use Rattle.riichi_seats.proofs.PairLemmas.{players_more}
use Rattle.riichi_seats.proofs.counts.repeated_pairs.Goals as goal

pub loop-one-preserved : goal.loop-one-preserved
loop-one-preserved c =
    players_more c.args.tables.now c.args.players c.loop-one.one c.loop-one.pairs.items c.push_repeated.new.pairs.items
    c.loop-one.invariant c.in_ok-push_repeated.ensures

pub returns : goal.returns
unfolding repeated_pairs
returns c =
    let all : c.loop-one.one ≡ c.args.players = omega arith in
    let P : ℕ → Type 0 = λ end. c.loop-one.pairs.items ≡ flat_map (repeated_with c.args.tables.now c.args.players) (range_with_len 0 end) in
    subst P all c.loop-one.invariant
