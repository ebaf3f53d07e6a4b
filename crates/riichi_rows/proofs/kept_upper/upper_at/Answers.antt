use Rattle.std.proofs.Common.{ap, ◌∙◌, subst}
use Rattle.riichi_rows.specs.declared.open.Open.{Open}
use Rattle.riichi_rows.specs.declared.row_key.RowKey.{RowKey}
use Rattle.riichi_rows.proofs.Uppers.{AreUpper, told_of}
use Rattle.riichi_rows.proofs.kept_upper.upper_at.Goals as goal

pub returns-in-Some-clause-upper : goal.returns-in-Some-clause-upper
returns-in-Some-clause-upper c =
    let own = c.upper-own.ensures in
    told_of c.upper-own.result c.args.key.now c.in-Some.upper own.counts own.caps own.runs c.in-Some.ensures

pub returns-clause-upper : goal.returns-clause-upper
returns-clause-upper c =
    let own = c.upper-own.ensures in
    let same = ap (λ (kept : RowKey × Open). kept.0) c.made.view_is ∙ c.new-made.ensures in
    told_of c.upper-own.result c.args.key.now c.made.inside.upper own.counts own.caps own.runs
    (subst (λ (k : RowKey). AreUpper k c.made.inside.upper) same c.made.invariant)
