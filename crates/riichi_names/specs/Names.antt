-- The Japanese names of the yaku, in ASCII.
use Rattle.std.specs.Prelude.{ℕ, Bool, true, false, List, ◌++◌, codes, if◌then◌else◌}
use Rattle.riichi_yaku.specs.Table.{word}
use Rattle.riichi_yaku.specs.declared.table.Yaku.{Yaku}
use Rattle.riichi_yaku.specs.declared.table.Yaku.TheVariants.{Riichi, DoubleRiichi, Ippatsu, FullyConcealed, Pinfu, PureDoubleChow, AllSimples, WhiteDragon, GreenDragon, RedDragon, SeatWind, PrevalentWind, AfterAKong, RobbingTheKong, LastTile, MixedTripleChow, PureStraight, OutsideHand, SevenPairs, TriplePung, ThreeKongs, AllPungs, ThreeConcealedPungs, LittleThreeDragons, AllTerminalsAndHonours, HalfFlush, TerminalsInAllSets, TwicePureDoubleChow, FullFlush, ThirteenOrphans, NineGates, FourConcealedPungs, BigThreeDragons, LittleFourWinds, BigFourWinds, AllHonours, AllTerminals, AllGreen, FourKongs, BlessingOfHeaven, BlessingOfEarth, BlessingOfMan}

-- the last tile is haitei by self-draw and houtei by ron
abbrev pub japanese : Yaku → List ℕ
japanese Riichi = codes "riichi"
japanese DoubleRiichi = codes "double riichi"
japanese Ippatsu = codes "ippatsu"
japanese FullyConcealed = codes "menzen tsumo"
japanese Pinfu = codes "pinfu"
japanese PureDoubleChow = codes "iipeiko"
japanese AllSimples = codes "tanyao"
japanese WhiteDragon = codes "yakuhai haku"
japanese GreenDragon = codes "yakuhai hatsu"
japanese RedDragon = codes "yakuhai chun"
japanese SeatWind = codes "yakuhai jikaze"
japanese PrevalentWind = codes "yakuhai bakaze"
japanese AfterAKong = codes "rinshan kaiho"
japanese RobbingTheKong = codes "chankan"
japanese LastTile = codes "haitei or houtei"
japanese MixedTripleChow = codes "sanshoku doujun"
japanese PureStraight = codes "ittsu"
japanese OutsideHand = codes "chanta"
japanese SevenPairs = codes "chiitoitsu"
japanese TriplePung = codes "sanshoku doukou"
japanese ThreeKongs = codes "sankantsu"
japanese AllPungs = codes "toitoi"
japanese ThreeConcealedPungs = codes "sanankou"
japanese LittleThreeDragons = codes "shousangen"
japanese AllTerminalsAndHonours = codes "honroutou"
japanese HalfFlush = codes "honitsu"
japanese TerminalsInAllSets = codes "junchan"
japanese TwicePureDoubleChow = codes "ryanpeikou"
japanese FullFlush = codes "chinitsu"
japanese ThirteenOrphans = codes "kokushi musou"
japanese NineGates = codes "chuuren poutou"
japanese FourConcealedPungs = codes "suuankou"
japanese BigThreeDragons = codes "daisangen"
japanese LittleFourWinds = codes "shousuushii"
japanese BigFourWinds = codes "daisuushii"
japanese AllHonours = codes "tsuuiisou"
japanese AllTerminals = codes "chinroutou"
japanese AllGreen = codes "ryuuiisou"
japanese FourKongs = codes "suukantsu"
japanese BlessingOfHeaven = codes "tenhou"
japanese BlessingOfEarth = codes "chiihou"
japanese BlessingOfMan = codes "renhou"

-- the printed word is the Japanese name
abbrev pub is_japanese : Yaku → Bool
is_japanese Riichi = true
is_japanese DoubleRiichi = true
is_japanese Ippatsu = true
is_japanese Pinfu = true
is_japanese other = false

-- the Japanese name in brackets
unfoldable pub name_beside : Yaku → List ℕ
name_beside yaku = codes " (" ++ japanese yaku ++ codes ")"

-- the printed word, and beside it the Japanese name where that is another
unfoldable pub named : Yaku → List ℕ
named yaku = if is_japanese yaku then word yaku else word yaku ++ name_beside yaku
