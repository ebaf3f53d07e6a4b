-- Two records are the same where the test of each of their parts says so.
use Rattle.std.specs.Prelude.{◌≡◌}
use Rattle.std.proofs.Common.{ap}
use Rattle.std.specs.Bool.{Decides}
use Rattle.std.specs.Cmp.{booleans_Decides}
use Rattle.std.proofs.lemmas.Bool.Decides.{Decides-and, Decides-eqb, Decides-like}
use Rattle.riichi_tiles.specs.contracts.decided.CountsDecided.TheImpl.Laws.{decides-law as counts}
use Rattle.riichi_tiles.specs.contracts.decided.MeldsDecided.TheImpl.Laws.{decides-law as melds}
use Rattle.riichi_tiles.specs.contracts.decided.RedsDecided.TheImpl.Laws.{decides-law as reds}
use Rattle.riichi_hand.specs.declared.win.Flags.{Flags}
use Rattle.riichi_hand.specs.declared.win.WinParts.{WinParts}
use Rattle.riichi_hand.specs.contracts.win.FlagsPartialEq.TheImpl.{ghosts as flags}
use Rattle.riichi_hand.specs.contracts.win.WinPartsPartialEq.TheImpl.{ghosts as parts}
use Rattle.riichi_hand.specs.contracts.decided.WindDecided.TheImpl.Laws.{decides-law as wind}
use Rattle.riichi_hand.specs.contracts.decided.ByDecided.TheImpl.Laws.{decides-law as by}
use Rattle.riichi_hand.specs.contracts.decided.RulesDecided.TheImpl.Laws.{decides-law as rules}

pub flags_decide : (a b : Flags) → Decides (flags.eq a b) (a ≡ b)
flags_decide a b =
    Decides-like (flags.eq a b) (λ p k. record { ippatsu = p.0 k; rinshan = p.1.0 k; chankan = p.1.1.0 k; last = p.1.1.1.0 k; first = p.1.1.1.1 k })
    (λ e. (ap (λ f. f.ippatsu) e, (ap (λ f. f.rinshan) e, (ap (λ f. f.chankan) e, (ap (λ f. f.last) e, ap (λ f. f.first) e)))))
    (Decides-and _ _ (booleans_Decides a.ippatsu b.ippatsu) (Decides-and _ _ (booleans_Decides a.rinshan b.rinshan) (Decides-and _ _ (booleans_Decides a.chankan b.chankan)
    (Decides-and _ _ (booleans_Decides a.last b.last) (booleans_Decides a.first b.first)))))

pub parts_decide : (a b : WinParts) → Decides (parts.eq a b) (a ≡ b)
parts_decide a b =
    Decides-like (parts.eq a b)
    (λ p k. record { rules = p.0 k; concealed = p.1.0 k; melds = p.1.1.0 k; winning = p.1.1.1.0 k; by = p.1.1.1.1.0 k; seat = p.1.1.1.1.1.0 k; round = p.1.1.1.1.1.1.0 k; riichi = p.1.1.1.1.1.1.1.0 k; flags = p.1.1.1.1.1.1.1.1.0 k; dora = p.1.1.1.1.1.1.1.1.1.0 k; ura = p.1.1.1.1.1.1.1.1.1.1.0 k; counters = p.1.1.1.1.1.1.1.1.1.1.1.0 k; sticks = p.1.1.1.1.1.1.1.1.1.1.1.1.0 k; reds = p.1.1.1.1.1.1.1.1.1.1.1.1.1 k })
    (λ e. (ap (λ w. w.rules) e, (ap (λ w. w.concealed) e, (ap (λ w. w.melds) e, (ap (λ w. w.winning) e, (ap (λ w. w.by) e, (ap (λ w. w.seat) e, (ap (λ w. w.round) e, (ap (λ w. w.riichi) e, (ap (λ w. w.flags) e, (ap (λ w. w.dora) e, (ap (λ w. w.ura) e, (ap (λ w. w.counters) e, (ap (λ w. w.sticks) e, ap (λ w. w.reds) e))))))))))))))
    (Decides-and _ _ (rules a.rules b.rules) (Decides-and _ _ (counts a.concealed b.concealed) (Decides-and _ _ (melds a.melds b.melds) (Decides-and _ _ (Decides-eqb a.winning b.winning) (Decides-and _ _ (by a.by b.by) (Decides-and _ _ (wind a.seat b.seat) (Decides-and _ _ (wind a.round b.round) (Decides-and _ _ (Decides-eqb a.riichi b.riichi) (Decides-and _ _ (flags_decide a.flags b.flags) (Decides-and _ _ (counts a.dora b.dora) (Decides-and _ _ (counts a.ura b.ura) (Decides-and _ _ (Decides-eqb a.counters b.counters) (Decides-and _ _ (Decides-eqb a.sticks b.sticks) (reds a.reds b.reds))))))))))))))
