use Rattle.std.proofs.Common.{arith}
use Rattle.riichi_yaku.proofs.Chains.{next}
use Rattle.riichi_yaku.proofs.conditions.others_among.Goals as goal

pub returns : goal.returns
returns c = omega (
  arith,
  c.none.ensures,
  next _ _ c.with.ensures.value c.is_riichi.ensures,
  next _ _ c.with-2.ensures.value c.is_double_riichi.ensures,
  next _ _ c.with-3.ensures.value c.is_ippatsu.ensures,
  next _ _ c.with-4.ensures.value c.is_fully_concealed.ensures,
  next _ _ c.with-5.ensures.value c.is_pinfu.ensures,
  next _ _ c.with-6.ensures.value c.is_pure_double_chow.ensures,
  next _ _ c.with-7.ensures.value c.is_all_simples.ensures,
  next _ _ c.with-8.ensures.value c.is_white_dragon.ensures,
  next _ _ c.with-9.ensures.value c.is_green_dragon.ensures,
  next _ _ c.with-10.ensures.value c.is_red_dragon.ensures,
  next _ _ c.with-11.ensures.value c.is_seat_wind.ensures,
  next _ _ c.with-12.ensures.value c.is_prevalent_wind.ensures,
  next _ _ c.with-13.ensures.value c.is_after_a_kong.ensures,
  next _ _ c.with-14.ensures.value c.is_robbing_the_kong.ensures,
  next _ _ c.with-15.ensures.value c.is_last_tile.ensures,
  next _ _ c.with-16.ensures.value c.is_mixed_triple_chow.ensures,
  next _ _ c.with-17.ensures.value c.is_pure_straight.ensures,
  next _ _ c.with-18.ensures.value c.is_outside_hand.ensures,
  next _ _ c.with-19.ensures.value c.is_seven_pairs.ensures,
  next _ _ c.with-20.ensures.value c.is_triple_pung.ensures,
  next _ _ c.with-21.ensures.value c.is_three_kongs.ensures,
  next _ _ c.with-22.ensures.value c.is_all_pungs.ensures,
  next _ _ c.with-23.ensures.value c.is_three_concealed_pungs.ensures,
  next _ _ c.with-24.ensures.value c.is_little_three_dragons.ensures,
  next _ _ c.with-25.ensures.value c.is_all_terminals_and_honours.ensures,
  next _ _ c.with-26.ensures.value c.is_half_flush.ensures,
  next _ _ c.with-27.ensures.value c.is_terminals_in_all_sets.ensures,
  next _ _ c.with-28.ensures.value c.is_twice_pure_double_chow.ensures,
  next _ _ c.with-29.ensures.value c.is_full_flush.ensures,
)
