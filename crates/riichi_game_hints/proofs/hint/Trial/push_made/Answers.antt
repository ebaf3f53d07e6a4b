use Rattle.std.proofs.Common.{refl}
use Rattle.riichi_game_hints.specs.Trials.{IsRestIn}
use Rattle.riichi_game_hints.specs.Hints.{nothing}
use Rattle.riichi_game_hints.proofs.LineLemmas.{nothing_made}
use Rattle.riichi_game_hints.proofs.hint.Trial.push_made.Goals as goal

pub returns-in-None-clause-made : goal.returns-in-None-clause-made
returns-in-None-clause-made c = nothing_made (IsRestIn c.args.self.now) c.args.text.now.bytes c.args.text.now.bytes nothing refl
