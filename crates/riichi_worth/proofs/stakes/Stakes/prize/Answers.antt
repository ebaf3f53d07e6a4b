use Rattle.std.proofs.Common.{◌≡◌, sym, ap, ◌∙◌, arith}
use Rattle.riichi_hand.specs.Win.{win_of}
use Rattle.riichi_worth.specs.Prizes.{gain_if, gain_told, prize_of}
use Rattle.riichi_worth.proofs.PrizeLemmas.{prize_few}
use Rattle.riichi_worth.proofs.stakes.Stakes.prize.Goals as goal

pub returns-in-Ok-clause-most : goal.returns-in-Ok-clause-most
unfolding prize_of
returns-in-Ok-clause-most c =
    let value : c.gain_of.result ≡ prize_of c.args.self.now c.args.hand.now.tiles c.args.hand.now.melds c.args.kind =
    c.gain_of.ensures ∙ ap gain_told c.best.ensures.value ∙ ap gain_if (sym c.in-Ok.is ∙ c.new.ensures ∙ ap win_of c.win.ensures) in
    omega (arith, value, prize_few c.args.self.now c.args.hand.now.tiles c.args.hand.now.melds c.args.kind)
