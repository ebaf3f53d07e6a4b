-- What earns han, in words, and of which tiles the fu are.
use Rattle.std.specs.Prelude.{ℕ, List, [], Option, Some, None, codes}
use Rattle.riichi_names.specs.Names.{japanese}
use Rattle.riichi_yaku.specs.Table.{word}
use Rattle.riichi_explain.specs.declared.fu.FuPart.{FuPart}
use Rattle.riichi_explain.specs.declared.fu.FuPart.TheVariants as fu
use Rattle.riichi_explain.specs.declared.han.HanPart.{HanPart}
use Rattle.riichi_explain.specs.declared.han.HanPart.TheVariants.{Yaku, Yakuman, Dora}

unfoldable pub han_part_words : HanPart → List ℕ
han_part_words (Yaku yaku) = word yaku
han_part_words (Yakuman yaku) = word yaku
han_part_words Dora = codes "dora"

-- no name is an empty text
unfoldable pub han_japanese : HanPart → List ℕ
han_japanese (Yaku yaku) = japanese yaku
han_japanese (Yakuman yaku) = japanese yaku
han_japanese Dora = []

-- the kind of the tiles that earn fu, where these are of one
unfoldable pub fu_kind : FuPart → Option ℕ
fu_kind fu.Base = None
fu_kind fu.ConcealedRon = None
fu_kind fu.SelfDraw = None
fu_kind (fu.Triplet kind concealed) = Some kind
fu_kind (fu.Kong kind concealed) = Some kind
fu_kind (fu.DragonPair kind) = Some kind
fu_kind (fu.SeatWindPair kind) = Some kind
fu_kind (fu.PrevalentWindPair kind) = Some kind
fu_kind fu.ClosedWait = None
fu_kind fu.EdgeWait = None
fu_kind fu.PairWait = None
fu_kind fu.OpenRon = None
fu_kind fu.SevenPairs = None
