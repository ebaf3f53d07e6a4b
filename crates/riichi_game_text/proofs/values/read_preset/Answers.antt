use Rattle.std.proofs.Common.{rules, arith, ap}
use Rattle.std.specs.Prelude.{codes, Some}
use Rattle.std.proofs.lemmas.Slice.Eq.{text_from_reads}
use Rattle.riichi_game_text.proofs.values.read_preset.Goals as goal

pub returns-in-league : goal.returns-in-league
returns-in-league c = rw (text_from_reads c.args.value.now (codes "league") (omega arith) (search rules)) (ap (λ rules. Some rules) c.league.ensures)

pub returns-in-online : goal.returns-in-online
returns-in-online c = rw (text_from_reads c.args.value.now (codes "online") (omega arith) (search rules)) (ap (λ rules. Some rules) c.online.ensures)
