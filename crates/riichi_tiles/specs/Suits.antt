-- What each suit has.
use Rattle.std.specs.Prelude.{ℕ, ◌+◌, Bool, true, false, if◌then◌else◌}
use Rattle.riichi_tiles.specs.declared.suit.Suit.{Suit}
use Rattle.riichi_tiles.specs.declared.suit.Suit.TheVariants.{Characters, Circles, Bamboos, Honours}
use Rattle.riichi_tiles.specs.declared.by_suit.BySuit.{BySuit}

abbrev pub of_suit : {T : Type 0} → BySuit T → Suit → T
of_suit by Characters = by.characters
of_suit by Circles = by.circles
of_suit by Bamboos = by.bamboos
of_suit by Honours = by.honours

-- what a function says of each suit
abbrev pub by_suits : {T : Type 0} → (Suit → T) → BySuit T
by_suits f = record { characters = f Characters; circles = f Circles; bamboos = f Bamboos; honours = f Honours }

-- the same but for one suit
abbrev pub with_suit : {T : Type 0} → BySuit T → Suit → T → BySuit T
with_suit by Characters value = record by { characters = value }
with_suit by Circles value = record by { circles = value }
with_suit by Bamboos value = record by { bamboos = value }
with_suit by Honours value = record by { honours = value }

-- a number of each suit, added up
abbrev pub over_suits : (Suit → ℕ) → ℕ
over_suits f = f Characters + f Circles + f Bamboos + f Honours

-- ---- the other three, seen from a suit

-- the characters and the circles are the lower half, the bamboos and the honours the upper
abbrev pub is_low : Suit → Bool
is_low Characters = true
is_low Circles = true
is_low Bamboos = false
is_low Honours = false

-- the other of its half
abbrev pub partner : Suit → Suit
partner Characters = Circles
partner Circles = Characters
partner Bamboos = Honours
partner Honours = Bamboos

-- the two of the other half
abbrev pub first_far : Suit → Suit
first_far suit = if is_low suit then Bamboos else Characters

abbrev pub last_far : Suit → Suit
last_far suit = partner (first_far suit)
