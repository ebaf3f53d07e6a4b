-- The four players in the order of their points, and of equal points by their first seats.
use Rattle.std.proofs.Common.{◌≡◌, ℕ, ◌+◌, ◌<◌, ◌⊎◌, inl, inr, ℤ, ◌+ℤ◌, refl, arith}
use Rattle.std.specs.Prelude.{◌<ℤ◌}
use Rattle.std.proofs.lemmas.Int.{ints, by_lt_z}
use Rattle.riichi_table.specs.Players.{of_player, over_players, sum_over_players}
use Rattle.riichi_table.specs.declared.player.Player.{Player}
use Rattle.riichi_table.specs.declared.player.Player.TheVariants.{First, Second, Third, Fourth}
use Rattle.riichi_table.specs.declared.player.ByPlayer.{ByPlayer}
use Rattle.riichi_places.specs.Places.{seat_number}

-- one has more points, or as many and an earlier first seat
abbrev pub IsBefore : ByPlayer ℤ → Player → Player → Type 0
IsBefore points one other =
    (of_player points other <ℤ of_player points one)
    ⊎ ((of_player points one ≡ of_player points other) × (seat_number one < seat_number other))

-- these are the four, so that what is added up over them is added up over all
abbrev pub AreAll : Player → Player → Player → Player → Type 0
AreAll a b c d =
    ((f : Player → ℕ) → over_players f ≡ f a + f b + f c + f d)
    × ((f : Player → ℤ) → sum_over_players f ≡ f a +ℤ f b +ℤ f c +ℤ f d)

pub record Order (points : ByPlayer ℤ) : Type 0 where
  pub one : Player
  pub two : Player
  pub three : Player
  pub four : Player
  pub first : IsBefore points one two
  pub second : IsBefore points two three
  pub third : IsBefore points three four
  pub all : AreAll one two three four

either_before : (points : ByPlayer ℤ) (one other : Player) → seat_number one < seat_number other → IsBefore points one other ⊎ IsBefore points other one
either_before points one other seat =
    let x = of_player points one in
    let y = of_player points other in
    by_lt_z {P = IsBefore points one other ⊎ IsBefore points other one} x y (λ less. inr (inl less))
    (λ least. by_lt_z {P = IsBefore points one other ⊎ IsBefore points other one} y x (λ more. inl (inl more)) (λ most. inl (inr (omega (arith, ints), seat))))

swap_first : (a b c d : Player) → AreAll a b c d → AreAll b a c d
swap_first a b c d all = (λ f. omega (arith, all.0 f), λ f. omega (arith, ints, all.1 f))

swap_second : (a b c d : Player) → AreAll a b c d → AreAll a c b d
swap_second a b c d all = (λ f. omega (arith, all.0 f), λ f. omega (arith, ints, all.1 f))

swap_third : (a b c d : Player) → AreAll a b c d → AreAll a b d c
swap_third a b c d all = (λ f. omega (arith, all.0 f), λ f. omega (arith, ints, all.1 f))

order_of : (points : ByPlayer ℤ) (a b c d : Player) → IsBefore points a b → IsBefore points b c → IsBefore points c d → AreAll a b c d → Order points
order_of points a b c d first second third all = record { one = a; two = b; three = c; four = d; first = first; second = second; third = third; all = all }

-- a player before whom no first seat is, among three in order
with_first : (points : ByPlayer ℤ) (a b c d : Player) → seat_number a < seat_number b → seat_number a < seat_number c → seat_number a < seat_number d
    → IsBefore points b c → IsBefore points c d → AreAll a b c d → Order points
with_first points a b c d ab ac ad bc cd all =
    elim (either_before points a b ab) [
      | inl h ↦ order_of points a b c d h bc cd all
      | inr h ↦ elim (either_before points a c ac) [
        | inl k ↦ order_of points b a c d h k cd (swap_first a b c d all)
        | inr k ↦ elim (either_before points a d ad) [
          | inl m ↦ order_of points b c a d bc k m (swap_second b a c d (swap_first a b c d all))
          | inr m ↦ order_of points b c d a bc cd m (swap_third b c a d (swap_second b a c d (swap_first a b c d all)))
        ]
      ]
    ]

-- the first two, among two in order
with_second : (points : ByPlayer ℤ) (c d : Player) → 1 < seat_number c → 1 < seat_number d → IsBefore points c d → AreAll First Second c d → Order points
with_second points c d bc bd cd all =
    let ac : 0 < seat_number c = omega arith in
    let ad : 0 < seat_number d = omega arith in
    let ab : 0 < 1 = omega arith in
    elim (either_before points Second c bc) [
      | inl h ↦ with_first points First Second c d ab ac ad h cd all
      | inr h ↦ elim (either_before points Second d bd) [
        | inl k ↦ with_first points First c Second d ac ab ad h k (swap_second First Second c d all)
        | inr k ↦ with_first points First c d Second ac ad ab cd k (swap_third First c Second d (swap_second First Second c d all))
      ]
    ]

pub in_order : (points : ByPlayer ℤ) → Order points
in_order points =
    let all : AreAll First Second Third Fourth = (λ f. refl, λ f. refl) in
    elim (either_before points Third Fourth (omega arith)) [
      | inl h ↦ with_second points Third Fourth (omega arith) (omega arith) h all
      | inr h ↦ with_second points Fourth Third (omega arith) (omega arith) h (swap_third First Second Third Fourth all)
    ]
