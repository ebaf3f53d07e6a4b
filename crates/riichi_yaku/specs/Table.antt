-- The table of the yaku.
use Rattle.std.specs.Prelude.{ℕ, Bool, nat_le, List, [], ◌∷◌, codes, if◌then◌else◌}
use Rattle.riichi_yaku.specs.declared.table.Yaku.{Yaku}
use Rattle.riichi_yaku.specs.declared.table.Yaku.TheVariants.{Riichi, DoubleRiichi, Ippatsu, FullyConcealed, Pinfu, PureDoubleChow, AllSimples, WhiteDragon, GreenDragon, RedDragon, SeatWind, PrevalentWind, AfterAKong, RobbingTheKong, LastTile, MixedTripleChow, PureStraight, OutsideHand, SevenPairs, TriplePung, ThreeKongs, AllPungs, ThreeConcealedPungs, LittleThreeDragons, AllTerminalsAndHonours, HalfFlush, TerminalsInAllSets, TwicePureDoubleChow, FullFlush, ThirteenOrphans, NineGates, FourConcealedPungs, BigThreeDragons, LittleFourWinds, BigFourWinds, AllHonours, AllTerminals, AllGreen, FourKongs, BlessingOfHeaven, BlessingOfEarth, BlessingOfMan}

-- in the order of the table; the yakuman are the last, from thirteen orphans on
abbrev pub every_yaku : List Yaku
every_yaku =
    Riichi ∷ DoubleRiichi ∷ Ippatsu ∷ FullyConcealed ∷ Pinfu ∷ PureDoubleChow ∷ AllSimples ∷ WhiteDragon ∷ GreenDragon
    ∷ RedDragon ∷ SeatWind ∷ PrevalentWind ∷ AfterAKong ∷ RobbingTheKong ∷ LastTile ∷ MixedTripleChow ∷ PureStraight
    ∷ OutsideHand ∷ SevenPairs ∷ TriplePung ∷ ThreeKongs ∷ AllPungs ∷ ThreeConcealedPungs ∷ LittleThreeDragons
    ∷ AllTerminalsAndHonours ∷ HalfFlush ∷ TerminalsInAllSets ∷ TwicePureDoubleChow ∷ FullFlush ∷ ThirteenOrphans
    ∷ NineGates ∷ FourConcealedPungs ∷ BigThreeDragons ∷ LittleFourWinds ∷ BigFourWinds ∷ AllHonours ∷ AllTerminals
    ∷ AllGreen ∷ FourKongs ∷ BlessingOfHeaven ∷ BlessingOfEarth ∷ BlessingOfMan ∷ []

-- a row: the printed word, the han of a concealed hand and of an open one (0 where the hand must be concealed, and for a yakuman)
pub record Row : Type 0 where
  pub word : List ℕ
  pub concealed : ℕ
  pub melded : ℕ

abbrev row : List ℕ → ℕ → ℕ → Row
row word concealed melded = record { word = word; concealed = concealed; melded = melded }

abbrev pub row_of : Yaku → Row
row_of Riichi = row (codes "riichi") 1 0
row_of DoubleRiichi = row (codes "double-riichi") 2 0
row_of Ippatsu = row (codes "ippatsu") 1 0
row_of FullyConcealed = row (codes "fully-concealed") 1 0
row_of Pinfu = row (codes "pinfu") 1 0
row_of PureDoubleChow = row (codes "pure-double-chow") 1 0
row_of AllSimples = row (codes "all-simples") 1 1
row_of WhiteDragon = row (codes "white-dragon") 1 1
row_of GreenDragon = row (codes "green-dragon") 1 1
row_of RedDragon = row (codes "red-dragon") 1 1
row_of SeatWind = row (codes "seat-wind") 1 1
row_of PrevalentWind = row (codes "prevalent-wind") 1 1
row_of AfterAKong = row (codes "after-a-kong") 1 1
row_of RobbingTheKong = row (codes "robbing-the-kong") 1 1
row_of LastTile = row (codes "last-tile") 1 1
row_of MixedTripleChow = row (codes "mixed-triple-chow") 2 1
row_of PureStraight = row (codes "pure-straight") 2 1
row_of OutsideHand = row (codes "outside-hand") 2 1
row_of SevenPairs = row (codes "seven-pairs") 2 0
row_of TriplePung = row (codes "triple-pung") 2 2
row_of ThreeKongs = row (codes "three-kongs") 2 2
row_of AllPungs = row (codes "all-pungs") 2 2
row_of ThreeConcealedPungs = row (codes "three-concealed-pungs") 2 2
row_of LittleThreeDragons = row (codes "little-three-dragons") 2 2
row_of AllTerminalsAndHonours = row (codes "all-terminals-and-honours") 2 2
row_of HalfFlush = row (codes "half-flush") 3 2
row_of TerminalsInAllSets = row (codes "terminals-in-all-sets") 3 2
row_of TwicePureDoubleChow = row (codes "twice-pure-double-chow") 3 0
row_of FullFlush = row (codes "full-flush") 6 5
row_of ThirteenOrphans = row (codes "thirteen-orphans") 0 0
row_of NineGates = row (codes "nine-gates") 0 0
row_of FourConcealedPungs = row (codes "four-concealed-pungs") 0 0
row_of BigThreeDragons = row (codes "big-three-dragons") 0 0
row_of LittleFourWinds = row (codes "little-four-winds") 0 0
row_of BigFourWinds = row (codes "big-four-winds") 0 0
row_of AllHonours = row (codes "all-honours") 0 0
row_of AllTerminals = row (codes "all-terminals") 0 0
row_of AllGreen = row (codes "all-green") 0 0
row_of FourKongs = row (codes "four-kongs") 0 0
row_of BlessingOfHeaven = row (codes "blessing-of-heaven") 0 0
row_of BlessingOfEarth = row (codes "blessing-of-earth") 0 0
row_of BlessingOfMan = row (codes "blessing-of-man") 0 0

-- the printed word
abbrev pub word : Yaku → List ℕ
word yaku = (row_of yaku).word

-- the han of a concealed hand, or of an open one
abbrev pub han : Bool → Yaku → ℕ
han concealed yaku = if concealed then (row_of yaku).concealed else (row_of yaku).melded

-- the place in the table, from 0 on
abbrev pub number : Yaku → ℕ
number Riichi = 0
number DoubleRiichi = 1
number Ippatsu = 2
number FullyConcealed = 3
number Pinfu = 4
number PureDoubleChow = 5
number AllSimples = 6
number WhiteDragon = 7
number GreenDragon = 8
number RedDragon = 9
number SeatWind = 10
number PrevalentWind = 11
number AfterAKong = 12
number RobbingTheKong = 13
number LastTile = 14
number MixedTripleChow = 15
number PureStraight = 16
number OutsideHand = 17
number SevenPairs = 18
number TriplePung = 19
number ThreeKongs = 20
number AllPungs = 21
number ThreeConcealedPungs = 22
number LittleThreeDragons = 23
number AllTerminalsAndHonours = 24
number HalfFlush = 25
number TerminalsInAllSets = 26
number TwicePureDoubleChow = 27
number FullFlush = 28
number ThirteenOrphans = 29
number NineGates = 30
number FourConcealedPungs = 31
number BigThreeDragons = 32
number LittleFourWinds = 33
number BigFourWinds = 34
number AllHonours = 35
number AllTerminals = 36
number AllGreen = 37
number FourKongs = 38
number BlessingOfHeaven = 39
number BlessingOfEarth = 40
number BlessingOfMan = 41

abbrev pub yaku_is_yakuman : Yaku → Bool
yaku_is_yakuman yaku = nat_le (number ThirteenOrphans) (number yaku)
