-- Each player is level with himself.
use Rattle.std.proofs.Common.{◌≡◌, ℕ, ◌<◌, true, false, not, ◌&&◌, ◌||◌, ℤ, ap, arith}
use Rattle.std.specs.Prelude.{int_lt, nat_lt}
use Rattle.std.specs.Ordering.{int_eq}
use Rattle.std.proofs.lemmas.Int.{ints}
use Rattle.std.proofs.lemmas.Bool.Decides.{nat_tests}
use Rattle.riichi_table.specs.Players.{of_player, one_where}
use Rattle.riichi_table.specs.declared.player.Player.{Player}
use Rattle.riichi_table.specs.declared.player.Player.TheVariants.{First, Second, Third, Fourth}
use Rattle.riichi_table.specs.declared.player.ByPlayer.{ByPlayer}
use Rattle.riichi_table.specs.declared.rules.Ties.{Ties}
use Rattle.riichi_table.specs.declared.rules.Ties.TheVariants.{Share, Seat}
use Rattle.riichi_places.specs.Places.{seat_number, is_ahead, is_level, sharers_of}

no_more : (x : ℤ) → int_lt x x ≡ false
no_more x = grind (arith, ints)

not_before : (x : ℤ) (n : ℕ) → (int_lt x x || (int_eq x x && nat_lt n n)) ≡ false
not_before x n = grind (arith, ints, nat_tests)

-- nobody is ahead of himself
pub not_ahead_of_self : (ties : Ties) (points : ByPlayer ℤ) (player : Player) → is_ahead ties points player player ≡ false
not_ahead_of_self Share points player = no_more (of_player points player)
not_ahead_of_self Seat points player = not_before (of_player points player) (seat_number player)

pub level_with_self : (ties : Ties) (points : ByPlayer ℤ) (player : Player) → is_level ties points player player ≡ true
level_with_self ties points player = ap (λ ahead. not ahead && not ahead) (not_ahead_of_self ties points player)

pub some_sharer : (ties : Ties) (points : ByPlayer ℤ) (player : Player) → 0 < sharers_of ties points player
unfolding sharers_of
some_sharer ties points First = let e = ap one_where (level_with_self ties points First) in omega (arith, e)
some_sharer ties points Second = let e = ap one_where (level_with_self ties points Second) in omega (arith, e)
some_sharer ties points Third = let e = ap one_where (level_with_self ties points Third) in omega (arith, e)
some_sharer ties points Fourth = let e = ap one_where (level_with_self ties points Fourth) in omega (arith, e)
