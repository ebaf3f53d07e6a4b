use Rattle.std.proofs.Common.{◌≡◌, ◌+◌, ◌*◌, cond, ap, sym, ◌∙◌}
use Rattle.riichi_rows.proofs.RankBits.{bits_are}
use Rattle.riichi_rows.proofs.rank_set.RankSet.bits.Goals as goal
use Rattle.riichi_rows.proofs.rank_set.RankSet.bits.Goals.{then-self, else-self}

pub returns-clause-each : goal.returns-clause-each
returns-clause-each c = λ rank low. bits_are c.args.self.now _ rank (ap (λ n. n + 2 * c.args.self.now.later) first_is)
  where
    first_is : c.if-self.first ≡ cond c.args.self.now.first 1 0
    first_is = elim c.if-self.branch [
      | then-self w ↦ w.first-is ∙ ap (λ b. cond b 1 0) (sym w.if-self.true)
      | else-self w ↦ w.first-is ∙ ap (λ b. cond b 1 0) (sym w.if-self.false)
    ]
