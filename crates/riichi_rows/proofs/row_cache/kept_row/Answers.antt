use Rattle.riichi_rows.proofs.Keeping.{row_there, rows_after}
use Rattle.std.proofs.Common.{refl}
use Rattle.riichi_rows.proofs.row_cache.kept_row.Goals as goal

pub returns-in-Ok-clause-row : goal.returns-in-Ok-clause-row
returns-in-Ok-clause-row c = row_there _ c.args.rows.now.entries c.args.key c.in-Ok.row.now _ refl c.requires.rows (λ made told. told) c.in-Ok.ensures.value

pub returns-in-Ok-clause-rows : goal.returns-in-Ok-clause-rows
returns-in-Ok-clause-rows c = rows_after c.args.rows.now c.get_or_insert.follows.lender-at-none c.args.key c.in-Ok.row.now c.requires.rows (returns-in-Ok-clause-row c) (rw c.in-Ok.is at c.get_or_insert.follows.holds-at-none)
