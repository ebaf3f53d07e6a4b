use Rattle.std.proofs.Common.{codes}
use Rattle.riichi_game_hints.specs.Trials.{IsRestIn}
use Rattle.riichi_game_hints.specs.Hints.{nothing, pattern}
use Rattle.riichi_game_hints.proofs.LineLemmas.{line_made}
use Rattle.riichi_game_hints.proofs.hint.Trial.push_pattern.Goals as goal

pub returns-clause-made : goal.returns-clause-made
returns-clause-made c =
    let trial = c.args.self.now in
    line_made (IsRestIn trial) trial.guess.now (codes "\n  write: ") c.args.pattern.now c.args.text.now.bytes c.push_line.new.text.bytes nothing (pattern c.args.pattern.now) c.push_line.ensures.told
