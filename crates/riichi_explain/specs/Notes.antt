-- What else is to be said of a win.
use Rattle.std.specs.Prelude.{ℕ, ◌==◌, List, [], ◌++◌, Bool, true, false, ◌&&◌, ◌||◌, not, nat_le, nat_lt, sum, codes, Option, Some, None, if◌then◌else◌}
use Rattle.std.specs.List.{list_any}
use Rattle.riichi_tiles.specs.declared.meld.Meld.{Meld}
use Rattle.riichi_tiles.specs.Melds.{tiles, tiles_of, is_open, are_concealed}
use Rattle.riichi_blocks.specs.Kinds.{white, green, red}
use Rattle.riichi_hand.specs.declared.win.Wind.TheVariants.{East, South, West, North}
use Rattle.riichi_hand.specs.declared.win.WinParts.{WinParts}
use Rattle.riichi_hand.specs.Win.{copies_with_indicators, wind_kind}

-- Riichi was declared, and the line has no indicator, though each deal has one at least.
abbrev pub lacks_indicator : WinParts → Bool
lacks_indicator win = nat_lt 0 win.riichi && (sum win.dora == 0)

-- Of the tile of a robbed kong, which has the other three, there is one more.
abbrev pub is_robbed_twice : WinParts → Bool
is_robbed_twice win = win.flags.chankan && nat_lt 1 (copies_with_indicators win win.winning)

-- a meld is a triplet or a kong of an honour
abbrev pub has_set : List Meld → ℕ → Bool
has_set melds kind = nat_le 3 (tiles melds kind)

-- a meld is one, and was fed by another: a concealed kong was not
abbrev pub is_fed_set : Meld → ℕ → Bool
is_fed_set meld kind = is_open meld && nat_le 3 (tiles_of meld kind)

abbrev pub is_fed_there : Option Meld → ℕ → Bool
is_fed_there None kind = false
is_fed_there (Some meld) kind = is_fed_set meld kind

abbrev pub has_fed_set : List Meld → ℕ → Bool
has_fed_set melds kind = list_any (λ meld. is_fed_set meld kind) melds

abbrev pub has_dragons : List Meld → Bool
has_dragons melds = has_set melds white && (has_set melds green && has_set melds red)

-- the sets of all dragons are melds, and another fed one of them
abbrev pub are_dragons_called : List Meld → Bool
are_dragons_called melds = has_dragons melds && (has_fed_set melds white || (has_fed_set melds green || has_fed_set melds red))

-- the sets of all winds are the four melds of an open hand
abbrev pub are_winds_called : List Meld → Bool
are_winds_called melds =
    not (are_concealed melds)
    && (has_set melds (wind_kind East) && (has_set melds (wind_kind South) && (has_set melds (wind_kind West) && has_set melds (wind_kind North))))

abbrev pub note_if : Bool → List ℕ → List ℕ
note_if true words = words
note_if false words = []

abbrev pub no_indicator : List ℕ
no_indicator = codes "  note    riichi, and no indicator is said: dora= is missing\n"

abbrev pub robbed : List ℕ
robbed = codes "  note    this cannot be: the robbed kong has the other three tiles\n"

abbrev pub dragons_called : List ℕ
dragons_called = codes "  note    all three dragons are called: somebody may be liable (in a game: liable NAME)\n"

abbrev pub winds_called : List ℕ
winds_called = codes "  note    all four winds are called: somebody may be liable (in a game: liable NAME)\n"

-- riichi is of a concealed hand, and no hand has seven melds, so at most one of these is so
abbrev pub other_note : WinParts → List ℕ
other_note win =
    if lacks_indicator win then no_indicator
    else if are_dragons_called win.melds then dragons_called
    else if are_winds_called win.melds then winds_called else []

unfoldable pub note_lines : WinParts → List ℕ
note_lines win = note_if (is_robbed_twice win) robbed ++ other_note win
