-- Two rows are the same where their parts and their numbers are, and two waits where their kinds, copies and sorts are.
use Rattle.std.specs.Prelude.{◌≡◌, true}
use Rattle.std.proofs.Common.{ap, refl}
use Rattle.std.specs.Bool.{Decides}
use Rattle.std.specs.Cmp.{booleans_Decides}
use Rattle.std.proofs.lemmas.Bool.{false≢true}
use Rattle.std.proofs.lemmas.Bool.Decides.{Decides-and, Decides-eqb, Decides-like}
use Rattle.riichi_yaku.specs.contracts.decided.YakuDecided.TheImpl.Laws.{decides-law as yaku_decides}
use Rattle.riichi_explain.specs.declared.han.HanPart.{HanPart}
use Rattle.riichi_explain.specs.declared.han.HanPart.TheVariants.{Yaku, Yakuman, Dora}
use Rattle.riichi_explain.specs.declared.han.HanRow.{HanRow}
use Rattle.riichi_explain.specs.contracts.han.HanPartPartialEq.TheImpl.{ghosts as han_part}
use Rattle.riichi_explain.specs.contracts.han.HanPartEq.TheImpl.Laws.{laws-law as han_equiv}
use Rattle.riichi_explain.specs.contracts.han.HanRowPartialEq.TheImpl.{ghosts as han_row}
use Rattle.riichi_explain.specs.declared.waits.WaitSorts.{WaitSorts}
use Rattle.riichi_explain.specs.declared.waits.KindWait.{KindWait}
use Rattle.riichi_explain.specs.contracts.waits.KindWaitPartialEq.TheImpl.{ghosts as kind_wait}
use Rattle.riichi_explain.specs.contracts.waits.WaitSortsPartialEq.TheImpl.{ghosts as sorts}

same_han : (a b : HanPart) → han_part.eq a b ≡ true → a ≡ b
same_han (Yaku yaku) (Yaku other) h = ap Yaku ((yaku_decides yaku other).0 h)
same_han (Yakuman yaku) (Yakuman other) h = ap Yakuman ((yaku_decides yaku other).0 h)
same_han Dora Dora h = refl
same_han a b h = absurd (false≢true h)

pub han_parts_decide : (a b : HanPart) → Decides (han_part.eq a b) (a ≡ b)
han_parts_decide a b = (same_han a b, λ same. rw same (han_equiv.refl b))

pub han_rows_decide : (a b : HanRow) → Decides (han_row.eq a b) (a ≡ b)
han_rows_decide a b =
    Decides-like (han_row.eq a b) (λ p k. record { part = p.0 k; han = p.1 k }) (λ e. (ap (λ r. r.part) e, ap (λ r. r.han) e))
    (Decides-and _ _ (han_parts_decide a.part b.part) (Decides-eqb a.han b.han))

pub sorts_decide : (a b : WaitSorts) → Decides (sorts.eq a b) (a ≡ b)
sorts_decide a b =
    Decides-like (sorts.eq a b) (λ p k. record { two_sided = p.0 k; closed = p.1.0 k; edge = p.1.1.0 k; pair = p.1.1.1.0 k; two_pairs = p.1.1.1.1.0 k; orphans = p.1.1.1.1.1 k })
    (λ e. (ap (λ s. s.two_sided) e, (ap (λ s. s.closed) e, (ap (λ s. s.edge) e, (ap (λ s. s.pair) e, (ap (λ s. s.two_pairs) e, ap (λ s. s.orphans) e))))))
    (Decides-and _ _ (booleans_Decides a.two_sided b.two_sided) (Decides-and _ _ (booleans_Decides a.closed b.closed) (Decides-and _ _ (booleans_Decides a.edge b.edge)
    (Decides-and _ _ (booleans_Decides a.pair b.pair) (Decides-and _ _ (booleans_Decides a.two_pairs b.two_pairs) (booleans_Decides a.orphans b.orphans))))))

pub kind_waits_decide : (a b : KindWait) → Decides (kind_wait.eq a b) (a ≡ b)
kind_waits_decide a b =
    Decides-like (kind_wait.eq a b) (λ p k. record { kind = p.0 k; left = p.1.0 k; sorts = p.1.1 k }) (λ e. (ap (λ w. w.kind) e, (ap (λ w. w.left) e, ap (λ w. w.sorts) e)))
    (Decides-and _ _ (Decides-eqb a.kind b.kind) (Decides-and _ _ (Decides-eqb a.left b.left) (sorts_decide a.sorts b.sorts)))
