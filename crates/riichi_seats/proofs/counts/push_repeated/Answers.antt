-- One later_players player more.
use Rattle.std.proofs.Common.{◌≡◌, ℕ, ◌++◌, subst, ◌∙◌, ap, arith}
use Rattle.riichi_seats.specs.Counts.{count_with, repeated_with}
use Rattle.riichi_seats.proofs.PairLemmas.{pairs_before, pushed_more}
use Rattle.riichi_seats.proofs.counts.push_repeated.Goals as goal

pub loop-other-preserved : goal.loop-other-preserved
loop-other-preserved c =
    pushed_more c.args.tables.now c.args.one c.loop-other.other c.count_with-times.result c.in_ok-own.own.items
    c.args.pairs.now.items c.loop-other.pairs.items c.push_if_repeated.new.pairs.items
    (omega arith) c.in_ok-own.ensures
    (c.count_with-times.ensures ∙ ap (λ own. count_with own c.loop-other.other) c.as_slice.ensures.value)
    c.loop-other.invariant c.in_ok-push_if_repeated.ensures

pub returns : goal.returns
unfolding repeated_with
returns c =
    let all : c.loop-other.other ≡ c.args.players = omega arith in
    let P : ℕ → Type 0 = λ end. c.loop-other.pairs.items ≡ c.args.pairs.now.items ++ pairs_before c.args.tables.now c.args.one end in
    subst P all c.loop-other.invariant
