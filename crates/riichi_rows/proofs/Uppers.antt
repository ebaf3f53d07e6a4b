-- The upper ranks of a key are those of each key that is alike there.
use Rattle.std.proofs.Common.{◌≡◌, Bool, drop, subst}
use Rattle.riichi_rows.specs.Ranks.{AreRanks}
use Rattle.riichi_rows.specs.declared.open.Open.{Open}
use Rattle.riichi_rows.proofs.MarkedRanks.{ranks_alike}
use Rattle.riichi_rows.specs.declared.row_key.RowKey.{RowKey}

abbrev pub AreUpper : RowKey → Open → Type 0
AreUpper key upper = AreRanks key.runs 4 key.counts key.caps upper

pub told_of : (own key : RowKey) (upper : Open) → drop 4 own.counts ≡ drop 4 key.counts → drop 4 own.caps ≡ drop 4 key.caps → own.runs ≡ key.runs → AreUpper own upper → AreUpper key upper
told_of own key upper counts caps runs are =
    subst (λ (r : Bool). AreRanks r 4 key.counts key.caps upper) runs (ranks_alike own.runs 4 own.counts key.counts own.caps key.caps upper counts caps are)
