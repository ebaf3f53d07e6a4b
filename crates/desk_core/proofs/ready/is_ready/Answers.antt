use Rattle.std.proofs.Common.{◌≡◌, ◌↔◌, ℤ, pos, IsTrue, nat_eq, of_z, to_z, FitsSigned, sym, ap, ◌∙◌}
use Rattle.std.proofs.Common as width
use Rattle.std.proofs.lemmas.Bool.{eqb-true}
use Rattle.std.proofs.lemmas.Int.{to_z-of_z}
use Rattle.riichi_tiles.specs.Tiles.{IsCounts}
use Rattle.riichi_shape.specs.EveryWinning.{shanten_of}
use Rattle.desk_core.proofs.ReadyAndWaiting.{melded, ready_iff}
use Rattle.desk_core.proofs.ready.is_ready.Goals as goal

pub shanten-requires : goal.shanten-requires
shanten-requires c = λ kind low.
    let counts : IsCounts c.args.hand.now.concealed = rw (← c.concealed-tiles.ensures.value) c.total.ensures.counts in
    rw c.melds-melds.ensures.value (melded c.args.hand.now counts c.concealed-tiles.ensures.hand kind low)

is_zero : (z : ℤ) → FitsSigned width.w8 z → IsTrue (nat_eq (of_z width.w8 z) 0) ↔ (z ≡ pos 0)
is_zero z fits = (
  λ test. sym (to_z-of_z width.w8 z fits) ∙ ap (to_z width.w8) (eqb-true (of_z width.w8 z) 0 test),
  λ zero. ap (λ z. nat_eq (of_z width.w8 z) 0) zero,
)

pub returns-clause-shanten : goal.returns-clause-shanten
returns-clause-shanten c =
    let same = c.shanten.ensures.value ∙ ap (λ tiles. shanten_of tiles c.melds-melds.result) c.concealed-tiles.ensures.value ∙ ap (shanten_of c.args.hand.now.concealed) c.melds-melds.ensures.value in
    let test = is_zero c.shanten.result (record { sfits = c.shanten.type_inv }) in
    (λ ready. sym same ∙ test.0 ready, λ zero. test.1 (same ∙ zero))

pub returns-clause-waits : goal.returns-clause-waits
returns-clause-waits c =
    let counts : IsCounts c.args.hand.now.concealed = rw (← c.concealed-tiles.ensures.value) c.total.ensures.counts in
    let zero = returns-clause-shanten c in
    let waits = ready_iff c.args.hand.now counts c.concealed-tiles.ensures.hand in
    (λ ready. waits.0 (zero.0 ready), λ wait. zero.1 (waits.1 wait))
