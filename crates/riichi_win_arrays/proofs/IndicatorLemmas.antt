-- How many of some bytes stand for each kind, byte by byte.
use Rattle.std.proofs.Common.{◌≡◌, ◌≢◌, ℕ, ◌+◌, ◌-◌, ◌<◌, ◌≤◌, List, length, take, get_or, refl, sym, ap, ◌∙◌, eq-eqb, false, arith}
use Rattle.std.proofs.lemmas.Bool.Decides.{nat_tests}
use Rattle.std.proofs.lemmas.List.{ext_get_or}
use Rattle.std.proofs.lemmas.List.FromFn.{get_or-map-range_with_len}
use Rattle.std.proofs.lemmas.List.Sums.{count_by-le-length, count_by_more_no, count_by_more_yes}
use Rattle.std.specs.Prelude.{◌==◌, count_by, slice_set}
use Rattle.riichi_arrays.proofs.ColumnLemmas.{put_kind}
use Rattle.riichi_win_arrays.specs.WinRows.{counts_of_bytes}

abbrev copies : List ℕ → ℕ → ℕ
copies bytes kind = count_by (λ byte. byte == kind + 1) bytes

shown_at : (bytes : List ℕ) (kind : ℕ) → kind < 34 → get_or (counts_of_bytes bytes) kind 0 ≡ copies bytes kind
unfolding counts_of_bytes
shown_at bytes kind low = get_or-map-range_with_len (copies bytes) 0 34 kind kind 0 low (omega arith)

pub few_shown : (bytes : List ℕ) (kind : ℕ) → kind < 34 → get_or (counts_of_bytes bytes) kind 0 ≤ length bytes
few_shown bytes kind low = omega (arith, shown_at bytes kind low, count_by-le-length (λ byte. byte == kind + 1) bytes)

apart_test : (byte kind : ℕ) → byte ≢ kind + 1 → (byte == kind + 1) ≡ false
apart_test byte kind apart = grind (arith, nat_tests)

module _ (bytes : List ℕ) (place : ℕ) (low : place < length bytes) where
  more : (kind : ℕ) → get_or bytes place 0 ≡ kind + 1 → copies (take (place + 1) bytes) kind ≡ copies (take place bytes) kind + 1
  more kind same = count_by_more_yes (λ byte. byte == kind + 1) bytes place 0 low (eq-eqb (get_or bytes place 0) (kind + 1) same)

  no_more : (kind : ℕ) → get_or bytes place 0 ≢ kind + 1 → copies (take (place + 1) bytes) kind ≡ copies (take place bytes) kind
  no_more kind apart = count_by_more_no (λ byte. byte == kind + 1) bytes place 0 low (apart_test (get_or bytes place 0) kind apart)

  -- one that stands for a kind is one more of it
  pub shown_more : 0 < get_or bytes place 0 → get_or bytes place 0 ≤ 34 →
      slice_set (counts_of_bytes (take place bytes)) (get_or bytes place 0 - 1) (get_or (counts_of_bytes (take place bytes)) (get_or bytes place 0 - 1) 0 + 1) ≡ counts_of_bytes (take (place + 1) bytes)
  unfolding counts_of_bytes
  shown_more some few =
      let kind = get_or bytes place 0 - 1 in
      put_kind (copies (take place bytes)) (copies (take (place + 1) bytes)) kind (get_or (counts_of_bytes (take place bytes)) kind 0 + 1) (omega arith)
      (more kind (omega arith) ∙ ap (λ n. n + 1) (sym (shown_at (take place bytes) kind (omega arith))))
      (λ other apart. no_more other (λ same. apart (omega (arith, same))))

  -- another changes nothing
  pub shown_same : ((kind : ℕ) → kind < 34 → get_or bytes place 0 ≢ kind + 1) → counts_of_bytes (take place bytes) ≡ counts_of_bytes (take (place + 1) bytes)
  unfolding counts_of_bytes
  shown_same none =
      ext_get_or 0 (counts_of_bytes (take place bytes)) (counts_of_bytes (take (place + 1) bytes)) refl
      (λ kind inside. let below : kind < 34 = inside in
      shown_at (take place bytes) kind below ∙ sym (no_more kind (none kind below)) ∙ sym (shown_at (take (place + 1) bytes) kind below))
