-- The hand of a row: how many tiles of each kind it holds, its melds, a byte for each, and the tiles that are seen elsewhere.
use Rattle.std.specs.Prelude.{ℕ, ◌-◌, ◌/◌, ◌%◌, ◌==◌, ◌&&◌, if◌then◌else◌, nat_le, nat_lt, Bool, List, [], ◌∷◌, Option, Some, None, Result, Ok, Err, replicate}
use Rattle.std.specs.List.{list_all}
use Rattle.std.specs.Option.{option_map}
use Rattle.riichi_hand.specs.Hand.{hand_of, shape_of}
use Rattle.riichi_hand.specs.HandParts.{HandParts, ShapeParts}
use Rattle.riichi_hand.specs.declared.fault.LineFault.{LineFault}
use Rattle.riichi_tiles.specs.Melds.{is_meld}
use Rattle.riichi_tiles.specs.declared.meld.Meld.{Meld}
use Rattle.riichi_tiles.specs.declared.meld.Meld.TheVariants.{Chi, Pon, Kan, Ankan}

-- no kind is held more than four times
abbrev pub are_counts : List ℕ → Bool
are_counts row = list_all (λ held. nat_le held 4) row

abbrev pub counts_in : List ℕ → Option (List ℕ)
counts_in row = if are_counts row then Some row else None

-- the meld of a sort and a kind: a chow by its lowest kind, a pung, an open kong, a concealed kong
abbrev pub meld_sorted : ℕ → ℕ → Meld
meld_sorted sort kind = if sort == 0 then Chi kind else if sort == 1 then Pon kind else if sort == 2 then Kan kind else Ankan kind

-- a byte has the sort in its upper two bits, and one more than the kind in the lower six
abbrev pub meld_coded : ℕ → Meld
meld_coded byte = meld_sorted (byte / 64) (byte % 64 - 1)

abbrev pub names_meld : ℕ → Bool
names_meld byte = nat_lt 0 (byte % 64) && nat_le (byte % 64) 34 && is_meld (meld_coded byte)

abbrev pub meld_in : ℕ → Option Meld
meld_in byte = if names_meld byte then Some (meld_coded byte) else None

abbrev pub meld_before : Option Meld → Option (List Meld) → Option (List Meld)
meld_before None melds = None
meld_before (Some meld) melds = option_map (λ more. meld ∷ more) melds

-- the melds of some bytes, none where one of them is no meld; the byte 0 stands for none
abbrev pub melds_in : List ℕ → Option (List Meld)
melds_in [] = Some []
melds_in (byte ∷ bytes) = if byte == 0 then melds_in bytes else meld_before (meld_in byte) (melds_in bytes)

-- no melds, and no tiles
abbrev pub no_melds : List ℕ
no_melds = replicate 4 0

abbrev pub no_tiles : List ℕ
no_tiles = replicate 34 0

abbrev pub without_fault : {A : Type 0} → Result A LineFault → Option A
without_fault (Ok parts) = Some parts
without_fault (Err fault) = None

-- a hand of thirteen or fourteen tiles, a meld counted as three, of no kind more than four
abbrev pub shape_among : Option (List ℕ) → Option (List Meld) → Option (List ℕ) → Option ShapeParts
shape_among None melds seen = None
shape_among (Some tiles) None seen = None
shape_among (Some tiles) (Some melds) None = None
shape_among (Some tiles) (Some melds) (Some seen) = without_fault (shape_of (record { tiles = tiles; melds = melds; seen = seen }))

abbrev pub shape_in : List ℕ → List ℕ → List ℕ → Option ShapeParts
shape_in counts melds seen = shape_among (counts_in counts) (melds_in melds) (counts_in seen)

-- a hand of thirteen tiles
abbrev pub hand_among : Option (List ℕ) → Option (List Meld) → Option HandParts
hand_among None melds = None
hand_among (Some tiles) None = None
hand_among (Some tiles) (Some melds) = without_fault (hand_of (record { concealed = tiles; melds = melds }))

abbrev pub hand_in : List ℕ → List ℕ → Option HandParts
hand_in counts melds = hand_among (counts_in counts) (melds_in melds)
