-- What a cache keeps after a row was asked for.
use Rattle.std.proofs.Common.{◌≡◌, ⊎_elim, List, Option, Some, None, sym, subst}
use Rattle.std.specs.Map.{lookup}
use Rattle.std.specs.Option.{UnwrapsOrElse}
use Rattle.lru.specs.LruCache.{LruCache, lru_cache, put_entries}
use Rattle.lru.proofs.CallerLemmas.{Contains-lookup, Contains-put_entries}
use Rattle.riichi_rows.specs.Marks.{IsMarkedRow}
use Rattle.riichi_rows.specs.declared.row.SuitRow.{SuitRow}
use Rattle.riichi_rows.specs.Kept.{AreRows}
use Rattle.riichi_rows.specs.declared.row_key.RowKey.{RowKey}
use Rattle.riichi_rows.proofs.Keys.{same, same_key}

abbrev pub IsRowOf : RowKey → SuitRow → Type 0
IsRowOf key row = IsMarkedRow key.runs key.counts key.caps row

-- a row that is found, or else made
pub row_there : (P : SuitRow → Type 0) (entries : List (RowKey × SuitRow)) (key : RowKey) (row : SuitRow) (found : Option SuitRow) → lookup (same key) entries ≡ found → AreRows entries → ((made : SuitRow) → P made → IsRowOf key made) → UnwrapsOrElse found P row → IsRowOf key row
row_there P entries key row None e were made is = made row is
row_there P entries key row (Some held) e were made is =
    let at = Contains-lookup (same key) entries held e in
    subst (IsRowOf key) (sym is) (subst (λ (k : RowKey). IsRowOf k held) (sym (same_key key at.0 at.2)) (were.each at.0 held at.1))

rows_with_one : (cache : LruCache RowKey SuitRow) (key : RowKey) (row : SuitRow) → AreRows cache.entries → IsRowOf key row → AreRows (put_entries same cache key row)
rows_with_one cache key row were is = record {
  each = λ k r there.
      ⊎_elim (λ old. were.each k r old)
      (λ put. subst (IsRowOf k) (sym put.0)
      (⊎_elim (λ e. subst (λ (j : RowKey). IsRowOf j row) (sym e) is) (λ held. subst (λ (j : RowKey). IsRowOf j row) (same_key key k held.2) is) put.1))
      (Contains-put_entries same cache key row (k, r) there);
}

-- after that, each kept row is the row of its key
pub rows_after : (was new : LruCache RowKey SuitRow) (key : RowKey) (row : SuitRow) → AreRows was.entries → IsRowOf key row → new ≡ lru_cache (put_entries same was key row) was.cap → AreRows new.entries
rows_after was new key row were is put = subst (λ (c : LruCache RowKey SuitRow). AreRows c.entries) (sym put) (rows_with_one was key row were is)
