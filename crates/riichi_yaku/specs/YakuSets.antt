-- A set of yaku is the number whose bit n says that the yaku with number n is in it.
use Rattle.std.specs.Prelude.{ℕ, ◌+◌, ◌*◌, ◌^◌, Bool, ◌==◌, nat_le, List, [], ◌∷◌, ◌++◌, map, codes, if◌then◌else◌}
use Rattle.std.specs.Int.{bit_at}
use Rattle.std.specs.List.{filter, flat_map, sum_by}
use Rattle.riichi_yaku.specs.declared.table.Yaku.{Yaku}
use Rattle.riichi_yaku.specs.declared.table.Yaku.TheVariants.{ThirteenOrphans}
use Rattle.riichi_yaku.specs.Table.{every_yaku, number, word, han}

abbrev pub contains : ℕ → Yaku → Bool
contains set yaku = bit_at set (number yaku) == 1

-- the yaku of a set, in the order of the table
unfoldable pub yaku_in : ℕ → List Yaku
yaku_in set = filter (contains set) every_yaku

-- a yakuman is in it: the yakuman are the last of the table, and the first of them is thirteen orphans
abbrev pub is_yakuman : ℕ → Bool
is_yakuman set = nat_le (2 ^ number ThirteenOrphans) set

-- the number whose bits these are, the lowest first
abbrev pub number_of_bits : List Bool → ℕ
number_of_bits [] = 0
number_of_bits (flag ∷ flags) = (if flag then 1 else 0) + 2 * number_of_bits flags

-- the set of the yaku that are so
abbrev pub set_of : (Yaku → Bool) → ℕ
set_of is_so = number_of_bits (map is_so every_yaku)

-- The han of a set: the sum of those of its yaku.
unfoldable pub han_of : ℕ → Bool → ℕ
han_of set concealed = sum_by (han concealed) (yaku_in set)

-- The words of a set, in the order of the table, each after a space.
unfoldable pub yaku_words : ℕ → List ℕ
yaku_words set = flat_map (λ yaku. codes " " ++ word yaku) (yaku_in set)
