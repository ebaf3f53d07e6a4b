-- The discards of a hand as they are kept: how many copies of each kind are live stands once for all of them, and beside
-- each discard the set of the kinds that it accepts.
use Rattle.std.specs.Prelude.{◌≡◌, ℕ, ◌+◌, ◌*◌, ◌-◌, ◌^◌, ◌<◌, ◌≤◌, ◌%◌, ◌/◌, max, nat_le, nat_lt, Bool, List, [], ◌∷◌, ◌++◌, length, map, replicate, slice_index, take}
use Rattle.riichi_tiles.specs.HeldKinds.{kinds_where}
use Rattle.riichi_tiles.specs.Melds.{every_kind}
use Rattle.riichi_tiles.specs.declared.meld.Meld.{Meld}
use Rattle.riichi_shape.specs.Accepted.{AreLiveCopies}
use Rattle.riichi_shape.specs.Discards.{discard_of, live_with}
use Rattle.riichi_shape.specs.KindBits.{HaveCopies, copies_among}
use Rattle.riichi_shape.specs.LiveCopies.{copies_in, pairs_of}
use Rattle.riichi_shape.specs.declared.discard.Discard.{Discard}
use Rattle.riichi_shape.specs.declared.discard.ShortDiscard.{ShortDiscard}
use Rattle.riichi_shape.specs.declared.kept_discard.KeptDiscard.{KeptDiscard}

-- the kinds that it accepts: those of the suits with numbers, and from bit 27 on the honours
abbrev pub accepted_kinds : KeptDiscard → ℕ
accepted_kinds kept = kept.honours * 2 ^ 27 + kept.numbers

-- a place without a discard
abbrev pub no_discard : KeptDiscard
no_discard = record { numbers = 0; honours = 0; kind = 0; live = 0 }

-- a discard that has no more live copies than this
abbrev pub gives_way : ℕ → KeptDiscard → Bool
gives_way live kept = nat_le kept.live live

-- discards in the first of fourteen places
abbrev pub in_fourteen_places : List KeptDiscard → List KeptDiscard
in_fourteen_places discards = discards ++ replicate (14 - length discards) no_discard

-- the first of fourteen places hold discards, and the others none
pub record AreFirst (count : ℕ) (places : List KeptDiscard) : Type 0 where
  pub long : length places ≡ 14
  pub few : count ≤ 14
  pub free : places ≡ in_fourteen_places (take count places)

-- the discard that is kept, beside these live copies
abbrev pub told : List ℕ → KeptDiscard → Discard
told copies kept = record { kind = kept.kind; accepted = pairs_of (copies_among copies (accepted_kinds kept)) }

-- that is the discard of a kind, whatever is seen of the copies that are not live
abbrev pub IsToldOf : List ℕ → List Meld → ℕ → List ℕ → KeptDiscard → Type 0
IsToldOf hand melds kind copies kept =
    (seen : List ℕ) → AreLiveCopies hand melds seen copies → told copies kept ≡ discard_of hand melds seen kind

-- nothing of it is lost: each kind that it accepts has a live copy, and so many are live in all
pub record IsKept (copies : List ℕ) (kept : KeptDiscard) : Type 0 where
  pub numbers_below : kept.numbers < 2 ^ 27
  pub honours_below : kept.honours < 2 ^ 7
  pub some_live : HaveCopies copies (accepted_kinds kept)
  pub live_is : kept.live ≡ live_with (told copies kept)

-- each of the discards is
abbrev pub AreKept : List ℕ → List KeptDiscard → Type 0
AreKept copies [] = Unit {0}
AreKept copies (kept ∷ rest) = IsKept copies kept × AreKept copies rest

-- the kinds of a list of pairs
abbrev pub kinds_in : List (ℕ × ℕ) → ℕ
kinds_in pairs = kinds_where (λ kind. nat_lt 0 (copies_in pairs kind))

-- what is kept of a discard
abbrev pub kept_of : Discard → KeptDiscard
kept_of discard = record { numbers = kinds_in discard.accepted % 2 ^ 27; honours = kinds_in discard.accepted / 2 ^ 27; kind = discard.kind; live = live_with discard }

-- a discard in short
abbrev pub short_of : Discard → ShortDiscard
short_of discard = record { kind = discard.kind; accepts = kinds_in discard.accepted; live = live_with discard }

-- the live copies of a kind, where some discard accepts it
unfoldable pub most_copies : List Discard → ℕ → ℕ
most_copies [] kind = 0
most_copies (discard ∷ rest) kind = max (copies_in discard.accepted kind) (most_copies rest kind)

-- those of every kind
unfoldable pub all_copies : List Discard → List ℕ
all_copies discards = map (most_copies discards) every_kind

-- the discards determine all that is kept
pub record AreTold (copies : List ℕ) (order : List KeptDiscard) : Type 0 where
  pub few : (kind : ℕ) → slice_index copies kind ≤ 4
  pub copies_are : copies ≡ all_copies (map (told copies) order)
  pub order_is : order ≡ map kept_of (map (told copies) order)
