-- Keys that compare equal are the same key.
use Rattle.std.proofs.Common.{◌≡◌, Bool, true, rules}
use Rattle.std.specs.Bool.{Decides}
use Rattle.riichi_rows.specs.declared.row_key.RowKey.{RowKey}
use Rattle.riichi_rows.specs.contracts.row_key.RowKeyPartialEq.TheImpl as key

abbrev pub same : RowKey → RowKey → Bool
same = (key.eq-value).it

key_decides : (a b : RowKey) → Decides (same a b) (a ≡ b)
key_decides a b = search rules

pub same_key : (a b : RowKey) → same a b ≡ true → a ≡ b
same_key a b = (key_decides a b).0
