-- A win without its winning tile is a hand.
use Rattle.std.proofs.Common.{◌≡◌, ℕ, ◌+◌, Bool, true, false, Option, None, Ok, List, [], ◌∷◌, drop, refl, cond, ltb, eqb, arith}
use Rattle.std.specs.Prelude.{not, ◌||◌, slice_index}
use Rattle.std.specs.List.{list_any}
use Rattle.std.proofs.lemmas.Bool.{or_parts}
use Rattle.std.proofs.lemmas.Bool.Decides.{nat_tests}
use Rattle.riichi_tiles.specs.Melds.{every_kind, tiles}
use Rattle.riichi_hand.specs.declared.fault.LineCode.TheVariants.{H4, H8, H9}
use Rattle.riichi_hand.specs.declared.fault.LineFault.{LineFault}
use Rattle.riichi_hand.specs.declared.win.WinParts.{WinParts}
use Rattle.riichi_hand.specs.Faults.{coded, first_fault}
use Rattle.riichi_hand.specs.Hand.{hand_of, copies_held, has_five_copies, is_thirteen}
use Rattle.riichi_hand.specs.Win.{IsWinRecord, win_faults, copies_with_indicators, has_five_in, has_wrong_size, is_out_of_range}
use Rattle.riichi_score.specs.Limits.{waiting_hand}

clear : (range size copies : Bool) (later : List (Option LineFault)) → first_fault (coded H4 range ∷ coded H8 size ∷ coded H9 copies ∷ later) ≡ None → (size ≡ false) × (copies ≡ false)
clear false false false later h = (refl, refl)
clear true size copies later h = absurd (cc)
clear false true copies later h = absurd (cc)
clear false false true later h = absurd (cc)

right_size : (thirteen a b : Bool) → (not thirteen || a || b) ≡ false → thirteen ≡ true
right_size true a b h = refl
right_size false a b h = absurd (cc)

-- where no kind passes a test, none passes one that fewer pass
any_fewer : (more fewer : ℕ → Bool) (kinds : List ℕ) → ((kind : ℕ) → more kind ≡ false → fewer kind ≡ false) → list_any more kinds ≡ false → list_any fewer kinds ≡ false
any_fewer more fewer [] each h = refl
any_fewer more fewer (kind ∷ kinds) each h =
    let parts = or_parts (more kind) (list_any more kinds) h in
    rw (each kind parts.0) (any_fewer more fewer kinds each parts.1)

fewer_copies : (held melds winning dora ura : ℕ) → ltb 4 (held + melds + winning + dora + ura) ≡ false → ltb 4 (held + melds) ≡ false
fewer_copies held melds winning dora ura h = grind (arith, nat_tests)

pub hand_before : (win : WinParts) → IsWinRecord win → hand_of (waiting_hand win) ≡ Ok (waiting_hand win)
unfolding hand_of
hand_before win is =
    let parts = clear (is_out_of_range win) (has_wrong_size win) (has_five_in win) (drop 3 (win_faults win)) is.no_fault in
    let thirteen = right_size (is_thirteen win.concealed win.melds) _ _ parts.0 in
    let each = λ (kind : ℕ) (none : ltb 4 (copies_with_indicators win kind) ≡ false).
    fewer_copies (slice_index win.concealed kind) (tiles win.melds kind) (cond (eqb win.winning kind) 1 0) (slice_index win.dora kind) (slice_index win.ura kind) none in
    let few : has_five_copies win.concealed win.melds ≡ false =
    any_fewer (λ kind. ltb 4 (copies_with_indicators win kind)) (λ kind. ltb 4 (copies_held win.concealed win.melds kind)) every_kind each parts.1 in
    rw (thirteen, few) refl
