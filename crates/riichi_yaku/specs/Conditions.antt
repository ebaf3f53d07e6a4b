-- What each yaku asks of a reading, and those that hold.
use Rattle.std.specs.Prelude.{ℕ, Bool, not, ◌&&◌, List, if◌then◌else◌}
use Rattle.std.specs.List.{list_any}
use Rattle.riichi_hand.specs.declared.win.WinParts.{WinParts}
use Rattle.riichi_split.specs.declared.reading.Reading.{Reading}
use Rattle.riichi_blocks.specs.declared.hand_block.HandBlock.{HandBlock}
use Rattle.riichi_blocks.specs.HandBlocks.{blocks_of, is_seven_pairs, is_thirteen_orphans}
use Rattle.riichi_blocks.specs.Held.{all_tiles}
use Rattle.riichi_yaku.specs.declared.table.Yaku.{Yaku}
use Rattle.riichi_yaku.specs.declared.table.Yaku.TheVariants.{Riichi, DoubleRiichi, Ippatsu, FullyConcealed, Pinfu, PureDoubleChow, AllSimples, WhiteDragon, GreenDragon, RedDragon, SeatWind, PrevalentWind, AfterAKong, RobbingTheKong, LastTile, MixedTripleChow, PureStraight, OutsideHand, SevenPairs, TriplePung, ThreeKongs, AllPungs, ThreeConcealedPungs, LittleThreeDragons, AllTerminalsAndHonours, HalfFlush, TerminalsInAllSets, TwicePureDoubleChow, FullFlush, ThirteenOrphans, NineGates, FourConcealedPungs, BigThreeDragons, LittleFourWinds, BigFourWinds, AllHonours, AllTerminals, AllGreen, FourKongs, BlessingOfHeaven, BlessingOfEarth, BlessingOfMan}
use Rattle.riichi_yaku.specs.Table.{every_yaku, yaku_is_yakuman}
use Rattle.riichi_yaku.specs.YakuSets.{set_of}
use Rattle.riichi_yaku.specs.Luck.{is_riichi, is_double_riichi, is_ippatsu, is_fully_concealed, is_after_a_kong, is_robbing_the_kong, is_last_tile}
use Rattle.riichi_yaku.specs.Honours.{is_white_dragon, is_green_dragon, is_red_dragon, is_seat_wind, is_prevalent_wind, is_little_three_dragons}
use Rattle.riichi_yaku.specs.Runs.{is_pinfu, is_pure_double_chow, is_mixed_triple_chow, is_pure_straight, is_twice_pure_double_chow}
use Rattle.riichi_yaku.specs.Outside.{is_outside_hand, is_terminals_in_all_sets}
use Rattle.riichi_yaku.specs.Triplets.{is_triple_pung, is_three_kongs, is_all_pungs, is_three_concealed_pungs}
use Rattle.riichi_yaku.specs.Tiles.{is_all_simples, is_all_terminals_and_honours, is_half_flush, is_full_flush}
use Rattle.riichi_yaku.specs.Yakuman.{is_nine_gates, is_four_concealed_pungs, is_big_three_dragons, is_little_four_winds, is_big_four_winds, is_all_honours, is_all_terminals, is_all_green, is_four_kongs, is_blessing_of_heaven, is_blessing_of_earth, is_blessing_of_man}

-- the condition of each, by the blocks and every tile of the hand
abbrev pub condition : List HandBlock → Reading → List ℕ → WinParts → Yaku → Bool
condition blocks reading tiles parts Riichi = is_riichi parts
condition blocks reading tiles parts DoubleRiichi = is_double_riichi parts
condition blocks reading tiles parts Ippatsu = is_ippatsu parts
condition blocks reading tiles parts FullyConcealed = is_fully_concealed parts
condition blocks reading tiles parts Pinfu = is_pinfu blocks reading parts
condition blocks reading tiles parts PureDoubleChow = is_pure_double_chow blocks parts
condition blocks reading tiles parts AllSimples = is_all_simples reading tiles parts
condition blocks reading tiles parts WhiteDragon = is_white_dragon blocks
condition blocks reading tiles parts GreenDragon = is_green_dragon blocks
condition blocks reading tiles parts RedDragon = is_red_dragon blocks
condition blocks reading tiles parts SeatWind = is_seat_wind blocks parts
condition blocks reading tiles parts PrevalentWind = is_prevalent_wind blocks parts
condition blocks reading tiles parts AfterAKong = is_after_a_kong parts
condition blocks reading tiles parts RobbingTheKong = is_robbing_the_kong parts
condition blocks reading tiles parts LastTile = is_last_tile parts
condition blocks reading tiles parts MixedTripleChow = is_mixed_triple_chow blocks
condition blocks reading tiles parts PureStraight = is_pure_straight blocks
condition blocks reading tiles parts OutsideHand = is_outside_hand blocks
condition blocks reading tiles parts SevenPairs = is_seven_pairs reading
condition blocks reading tiles parts TriplePung = is_triple_pung blocks
condition blocks reading tiles parts ThreeKongs = is_three_kongs blocks
condition blocks reading tiles parts AllPungs = is_all_pungs blocks
condition blocks reading tiles parts ThreeConcealedPungs = is_three_concealed_pungs blocks
condition blocks reading tiles parts LittleThreeDragons = is_little_three_dragons blocks
condition blocks reading tiles parts AllTerminalsAndHonours = is_all_terminals_and_honours reading tiles
condition blocks reading tiles parts HalfFlush = is_half_flush reading tiles
condition blocks reading tiles parts TerminalsInAllSets = is_terminals_in_all_sets blocks
condition blocks reading tiles parts TwicePureDoubleChow = is_twice_pure_double_chow blocks parts
condition blocks reading tiles parts FullFlush = is_full_flush reading tiles
condition blocks reading tiles parts ThirteenOrphans = is_thirteen_orphans reading
condition blocks reading tiles parts NineGates = is_nine_gates reading tiles parts
condition blocks reading tiles parts FourConcealedPungs = is_four_concealed_pungs blocks
condition blocks reading tiles parts BigThreeDragons = is_big_three_dragons blocks
condition blocks reading tiles parts LittleFourWinds = is_little_four_winds blocks
condition blocks reading tiles parts BigFourWinds = is_big_four_winds blocks
condition blocks reading tiles parts AllHonours = is_all_honours reading tiles
condition blocks reading tiles parts AllTerminals = is_all_terminals reading tiles
condition blocks reading tiles parts AllGreen = is_all_green reading tiles
condition blocks reading tiles parts FourKongs = is_four_kongs blocks
condition blocks reading tiles parts BlessingOfHeaven = is_blessing_of_heaven parts
condition blocks reading tiles parts BlessingOfEarth = is_blessing_of_earth parts
condition blocks reading tiles parts BlessingOfMan = is_blessing_of_man parts

-- the condition is met by a reading of a win
abbrev pub is_met : Reading → WinParts → Yaku → Bool
is_met reading parts = condition (blocks_of reading parts) reading (all_tiles parts) parts

abbrev pub is_yakuman_met : (Yaku → Bool) → Yaku → Bool
is_yakuman_met met yaku = yaku_is_yakuman yaku && met yaku

abbrev pub is_other_met : (Yaku → Bool) → Yaku → Bool
is_other_met met yaku = not (yaku_is_yakuman yaku) && met yaku

-- where the conditions of one or more yakuman are met, these alone count
abbrev pub counts_where : Bool → (Yaku → Bool) → Yaku → Bool
counts_where some_yakuman met yaku = if some_yakuman then is_yakuman_met met yaku else is_other_met met yaku

abbrev pub counts : (Yaku → Bool) → Yaku → Bool
counts met = counts_where (list_any (is_yakuman_met met) every_yaku) met

-- the yaku is in the set of the reading
unfoldable pub holds : Reading → WinParts → Yaku → Bool
holds reading parts = counts (is_met reading parts)

-- the set of a reading
unfoldable pub yaku_of : Reading → WinParts → ℕ
yaku_of reading parts = set_of (counts (is_met reading parts))
