use Rattle.std.proofs.Common.{refl, ◌++◌, subst, sym, List, ℕ}
use Rattle.riichi_game_hints.specs.Trials.{IsRestIn}
use Rattle.riichi_game_hints.specs.Hints.{nothing, tried}
use Rattle.riichi_game_hints.proofs.LineLemmas.{nothing_made, line_made}
use Rattle.riichi_game_hints.proofs.hint.Trial.push_tried.Goals as goal

pub returns-then-keeps_or_guesses-clause-made : goal.returns-then-keeps_or_guesses-clause-made
returns-then-keeps_or_guesses-clause-made c =
    let trial = c.args.self.now in let other = c.args.other.now in
    line_made (IsRestIn trial) trial.guess.now c.mark_of.result.now other c.args.text.now.bytes c.push_line.new.text.bytes nothing
    (subst (λ (mark : List ℕ). IsRestIn trial trial.guess.now (mark ++ other)) (sym c.mark_of.ensures.value) (tried other (c.requires.accepted, c.keeps_or_guesses.ensures c.if-keeps_or_guesses.true)))
    c.push_line.ensures.told

pub returns-else-keeps_or_guesses-clause-made : goal.returns-else-keeps_or_guesses-clause-made
returns-else-keeps_or_guesses-clause-made c = nothing_made (IsRestIn c.args.self.now) c.args.text.now.bytes c.args.text.now.bytes nothing refl
