-- All tiles of a win, kind by kind.
use Rattle.std.proofs.Common.{◌≡◌, ℕ, ◌+◌, ◌<◌, cond, nat_eq, List, length, set, get_or, ap, arith}
use Rattle.riichi_tiles.specs.Melds.{tiles}
use Rattle.riichi_hand.specs.declared.win.WinParts.{WinParts}
use Rattle.riichi_hand.specs.Win.{copies_won}
use Rattle.riichi_tiles.proofs.KindSums.{get_or-more}
use Rattle.riichi_blocks.specs.Held.{all_tiles}
use Rattle.std.proofs.lemmas.List.FromFn.{fill_by_all}

-- the concealed tiles with one more of the winning kind, and then the melds' tiles, are all tiles
pub all_tiles-from : (w : WinParts) (concealed : List ℕ) (winning : ℕ) (all : List ℕ) → concealed ≡ w.concealed → winning ≡ w.winning → winning < length concealed → length all ≡ 34 → ((kind : ℕ) → kind < 34 → get_or all kind 0 ≡ get_or (set concealed winning (get_or concealed winning 0 + 1)) kind 0 + tiles w.melds kind) → all ≡ all_tiles w
all_tiles-from w concealed winning all e f within long each =
    fill_by_all (copies_won w) all 34 0 long (λ kind h.
    let one = get_or-more concealed winning kind 1 within in
    let held : get_or concealed kind 0 ≡ get_or w.concealed kind 0 = ap (λ l. get_or l kind 0) e in
    let won : cond {A = ℕ} (nat_eq winning kind) 1 0 ≡ cond (nat_eq w.winning kind) 1 0 = ap (λ n. cond (nat_eq n kind) 1 0) f in
    omega (arith, each kind h, one, held, won))
