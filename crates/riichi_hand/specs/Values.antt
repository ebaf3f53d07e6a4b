-- The values of the keys that are no notation.
use Rattle.std.specs.Prelude.{ℕ, ◌+◌, ◌-◌, ◌*◌, List, [], ◌∷◌, Bool, ◌&&◌, Option, None, Some, nat_lt, nat_le, is_some, length, if◌then◌else◌, codes}
use Rattle.std.specs.List.{list_any, list_all, count_by, filter_map}
use Rattle.std.specs.Str.{bytes_eq}
use Rattle.riichi_tiles.specs.Notation.{is_digit}
use Rattle.riichi_tiles.specs.Melds.{meld_of}
use Rattle.riichi_tiles.specs.declared.meld.Meld.{Meld}
use Rattle.riichi_hand.specs.declared.win.By.{By}
use Rattle.riichi_hand.specs.declared.win.By.TheVariants.{Ron, Tsumo}
use Rattle.riichi_hand.specs.declared.win.Wind.{Wind}
use Rattle.riichi_hand.specs.declared.win.Wind.TheVariants.{East, South, West, North}
use Rattle.riichi_hand.specs.declared.win.Flags.{Flags}
use Rattle.riichi_hand.specs.Words.{items_of}

-- what a table has beside a word
abbrev pub value_beside : {X : Type 0} → List (List ℕ × X) → List ℕ → Option X
value_beside [] word = None
value_beside (row ∷ rows) word = if bytes_eq word row.0 then Some row.1 else value_beside rows word

abbrev pub by_of : List ℕ → Option By
by_of value = value_beside ((codes "ron", Ron) ∷ (codes "tsumo", Tsumo) ∷ []) value

abbrev pub wind_of : List ℕ → Option Wind
wind_of value = value_beside ((codes "E", East) ∷ (codes "S", South) ∷ (codes "W", West) ∷ (codes "N", North) ∷ []) value

abbrev pub riichi_of : List ℕ → Option ℕ
riichi_of value = value_beside ((codes "0", 0) ∷ (codes "1", 1) ∷ (codes "2", 2) ∷ []) value

-- one or two decimal digits
abbrev pub number_of : List ℕ → Option ℕ
number_of [] = None
number_of (ones ∷ []) = if is_digit ones then Some (ones - 48) else None
number_of (tens ∷ ones ∷ []) = if is_digit tens && is_digit ones then Some (10 * (tens - 48) + (ones - 48)) else None
number_of (first ∷ second ∷ third ∷ bytes) = None

-- The flags: one or more of five words, joined by commas, none twice.
abbrev pub flag_words : List (List ℕ)
flag_words = codes "ippatsu" ∷ codes "rinshan" ∷ codes "chankan" ∷ codes "last" ∷ codes "first" ∷ []

abbrev pub is_flag : List ℕ → Bool
is_flag item = list_any (bytes_eq item) flag_words

abbrev pub item_copies : List (List ℕ) → List ℕ → ℕ
item_copies items word = count_by (λ item. bytes_eq item word) items

abbrev pub are_flags : List (List ℕ) → Bool
are_flags items = list_all is_flag items && list_all (λ word. nat_le (item_copies items word) 1) flag_words

abbrev pub has_item : List (List ℕ) → List ℕ → Bool
has_item items word = nat_lt 0 (item_copies items word)

abbrev pub flags_in : List (List ℕ) → Flags
flags_in items = record {
  ippatsu = has_item items (codes "ippatsu");
  rinshan = has_item items (codes "rinshan");
  chankan = has_item items (codes "chankan");
  last = has_item items (codes "last");
  first = has_item items (codes "first");
}

abbrev pub flags_of_items : List (List ℕ) → Option Flags
flags_of_items items = if are_flags items then Some (flags_in items) else None

unfoldable pub flags_of : List ℕ → Option Flags
flags_of value = flags_of_items (items_of value)

-- Melds: one to four, joined by commas.
abbrev pub is_spelled : List ℕ → Bool
is_spelled item = is_some (meld_of item)

abbrev pub melds_of_items : List (List ℕ) → Option (List Meld)
melds_of_items items = if list_all is_spelled items && nat_le (length items) 4 then Some (filter_map meld_of items) else None

unfoldable pub melds_of : List ℕ → Option (List Meld)
melds_of value = melds_of_items (items_of value)
