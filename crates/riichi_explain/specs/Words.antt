-- The words of what earns dora and fu and of who pays, and the Japanese names beside them; no name is an empty text.
use Rattle.std.specs.Prelude.{ℕ, List, [], if◌then◌else◌, codes}
use Rattle.riichi_explain.specs.declared.dora.DoraPart.{DoraPart}
use Rattle.riichi_explain.specs.declared.dora.DoraPart.TheVariants as dora
use Rattle.riichi_explain.specs.declared.fu.FuPart.{FuPart}
use Rattle.riichi_explain.specs.declared.fu.FuPart.TheVariants as fu
use Rattle.riichi_explain.specs.declared.payers.Payer.{Payer}
use Rattle.riichi_explain.specs.declared.payers.Payer.TheVariants as payer

unfoldable pub dora_words : DoraPart → List ℕ
dora_words dora.Indicated = codes "indicated"
dora_words dora.Below = codes "below"
dora_words dora.RedFives = codes "red fives"

unfoldable pub dora_japanese : DoraPart → List ℕ
dora_japanese dora.Indicated = []
dora_japanese dora.Below = codes "ura"
dora_japanese dora.RedFives = []

unfoldable pub fu_words : FuPart → List ℕ
fu_words fu.Base = codes "base"
fu_words fu.ConcealedRon = codes "concealed ron"
fu_words fu.SelfDraw = codes "self-draw"
fu_words (fu.Triplet kind concealed) = if concealed then codes "concealed triplet" else codes "open triplet"
fu_words (fu.Kong kind concealed) = if concealed then codes "concealed kong" else codes "open kong"
fu_words (fu.DragonPair kind) = codes "pair of dragons"
fu_words (fu.SeatWindPair kind) = codes "pair of the seat wind"
fu_words (fu.PrevalentWindPair kind) = codes "pair of the prevalent wind"
fu_words fu.ClosedWait = codes "closed wait"
fu_words fu.EdgeWait = codes "edge wait"
fu_words fu.PairWait = codes "pair wait"
fu_words fu.OpenRon = codes "open ron of 20"
fu_words fu.SevenPairs = codes "seven pairs"

unfoldable pub fu_japanese : FuPart → List ℕ
fu_japanese fu.Base = []
fu_japanese fu.ConcealedRon = codes "menzen kafu"
fu_japanese fu.SelfDraw = codes "tsumo"
fu_japanese (fu.Triplet kind concealed) = if concealed then codes "ankou" else codes "minkou"
fu_japanese (fu.Kong kind concealed) = if concealed then codes "ankan" else codes "minkan"
fu_japanese (fu.DragonPair kind) = []
fu_japanese (fu.SeatWindPair kind) = []
fu_japanese (fu.PrevalentWindPair kind) = []
fu_japanese fu.ClosedWait = codes "kanchan"
fu_japanese fu.EdgeWait = codes "penchan"
fu_japanese fu.PairWait = codes "tanki"
fu_japanese fu.OpenRon = []
fu_japanese fu.SevenPairs = []

unfoldable pub payer_words : Payer → List ℕ
payer_words payer.Discarder = codes "discarder"
payer_words payer.Dealer = codes "dealer"
payer_words payer.TwoOthers = codes "two others"
payer_words payer.ThreeOthers = codes "three others"
