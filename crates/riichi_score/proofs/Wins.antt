-- What the type of a win record says of its parts.
use Rattle.std.proofs.Common.{◌≡◌, ℕ, ◌+◌, ◌*◌, ◌<◌, ◌≤◌, Bool, true, false, not, ◌||◌, Option, None, List, ◌∷◌, length, drop, refl, ltb, arith, get_or, ◌∙◌, ap, sym, eqb, cond}
use Rattle.std.proofs.lemmas.Bool.{ltb-false, false_from_ne_true, true≢false}
use Rattle.std.proofs.lemmas.Bool.Decides.{nat_tests}
use Rattle.std.proofs.lemmas.List.Folds.{list_any_at}
use Rattle.std.proofs.lemmas.List.FromFn.{get_or-range_with_len, length-range_with_len}
use Rattle.std.specs.Prelude.{replicate, if◌then◌else◌}
use Rattle.std.specs.List.{sum, list_any, range_with_len}
use Rattle.riichi_tiles.specs.Melds.{tiles}
use Rattle.riichi_hand.specs.declared.fault.LineCode.TheVariants.{H4, H8, H9}
use Rattle.riichi_hand.specs.declared.fault.LineFault.{LineFault}
use Rattle.riichi_hand.specs.declared.win.WinParts.{WinParts}
use Rattle.riichi_hand.specs.Faults.{coded, first_fault}
use Rattle.riichi_score.specs.Dora.{counted_ura}
use Rattle.riichi_hand.specs.Win.{IsWinRecord, win_faults, copies_with_indicators, has_five_in, has_wrong_size, is_out_of_range}
use Rattle.riichi_hand.specs.Rules.{is_on}
use Rattle.riichi_hand.specs.declared.switch.Switch.TheVariants.{Ura}

-- none of the first three faults
pub record IsClear (a b c : Bool) : Type 0 where
  pub range : a ≡ false
  pub size : b ≡ false
  pub copies : c ≡ false

clear : (range size copies : Bool) (later : List (Option LineFault)) → first_fault (coded H4 range ∷ coded H8 size ∷ coded H9 copies ∷ later) ≡ None → IsClear range size copies
clear false false false later h = record { range = refl; size = refl; copies = refl }
clear true size copies later h = absurd (cc)
clear false true copies later h = absurd (cc)
clear false false true later h = absurd (cc)

is_clear : (win : WinParts) → IsWinRecord win → IsClear (is_out_of_range win) (has_wrong_size win) (has_five_in win)
is_clear win h = clear (is_out_of_range win) (has_wrong_size win) (has_five_in win) (drop 3 (win_faults win)) h.no_fault

few : (a : Bool) (dora ura : ℕ) → (not a || ltb 5 dora || ltb 5 ura) ≡ false → dora + ura ≤ 10
few a dora ura h = grind (arith, nat_tests)

-- at most ten indicators
pub ten_indicators : (win : WinParts) → IsWinRecord win → sum win.dora + sum win.ura ≤ 10
ten_indicators win h = few _ (sum win.dora) (sum win.ura) (is_clear win h).size

no_more : (counts : Bool) (ura : List ℕ) → sum (if counts then ura else replicate 34 0) ≤ sum ura
no_more true ura = omega arith
no_more false ura = omega arith

-- at most ten that count
pub ten_counted : (win : WinParts) → IsWinRecord win → sum win.dora + sum (counted_ura win) ≤ 10
ten_counted win h = omega (arith, ten_indicators win h, no_more (is_on Ura win.rules) win.ura)

thirteen : (held melds : ℕ) (b c : Bool) → (not (eqb (held + 3 * melds) 13) || b || c) ≡ false → melds ≤ 4
thirteen held melds b c h = grind (arith, nat_tests)

-- at most four melds
pub four_melds : (win : WinParts) → IsWinRecord win → length win.melds ≤ 4
four_melds win h = thirteen (sum win.concealed) (length win.melds) (ltb 5 (sum win.dora)) (ltb 5 (sum win.ura)) (is_clear win h).size

-- a test that no kind passes fails at each
fails_at : (test : ℕ → Bool) (kind : ℕ) → list_any test (range_with_len 0 34) ≡ false → kind < 34 → test kind ≡ true → true ≡ false
fails_at test kind none lt passed =
    let place : get_or (range_with_len 0 34) kind 0 ≡ kind = get_or-range_with_len 0 34 kind 0 lt ∙ omega arith in
    sym (list_any_at test (range_with_len 0 34) kind 0 (omega (arith, length-range_with_len 0 34)) (ap test place ∙ passed)) ∙ none

-- no kind has more than four copies
pub four_copies : (win : WinParts) (kind : ℕ) → IsWinRecord win → kind < 34 → copies_with_indicators win kind ≤ 4
four_copies win kind h lt =
    ltb-false 4 (copies_with_indicators win kind) (false_from_ne_true (ltb 4 (copies_with_indicators win kind)) (λ more. true≢false (fails_at (λ k. ltb 4 (copies_with_indicators win k)) kind (is_clear win h).copies lt more)))

self_counts : (concealed melds kind dora ura : ℕ) → concealed + melds + cond (eqb kind kind) 1 0 + dora + ura ≤ 4 → concealed < 4
self_counts concealed melds kind dora ura h = grind (arith, nat_tests)

-- the hand has room for the winning tile
pub room_for_winning : (win : WinParts) → IsWinRecord win → win.winning < 34 → get_or win.concealed win.winning 0 < 4
room_for_winning win h lt =
    self_counts (get_or win.concealed win.winning 0) (tiles win.melds win.winning) win.winning (get_or win.dora win.winning 0) (get_or win.ura win.winning 0) (four_copies win win.winning h lt)
