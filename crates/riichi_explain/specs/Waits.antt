-- Why a hand waits for a kind: how many of it are left, and which sorts of wait its readings make.
use Rattle.std.specs.Prelude.{ℕ, ◌-◌, Bool, true, false, ◌||◌, List, [], ◌∷◌, ◌++◌, length, map, codes, decimal, if◌then◌else◌}
use Rattle.std.specs.List.{list_any, flat_map}
use Rattle.riichi_tiles.specs.Melds.{every_kind}
use Rattle.riichi_tiles.specs.declared.block.Block.{Block}
use Rattle.riichi_tiles.specs.declared.block.Block.TheVariants.{Run, Triplet, Pair}
use Rattle.riichi_hand.specs.Hand.{copies_held}
use Rattle.riichi_hand.specs.HandParts.{HandParts}
use Rattle.riichi_split.specs.declared.reading.Reading.{Reading}
use Rattle.riichi_split.specs.declared.reading.Reading.TheVariants.{Standard, SevenPairs, Orphans}
use Rattle.riichi_split.specs.ReadingsOf.{readings_of}
use Rattle.riichi_split.specs.Waits.{with_one, is_wait}
use Rattle.riichi_blocks.specs.Waits.{is_closed_wait, is_edge_wait, is_two_sided}
use Rattle.riichi_text.specs.Lists.{joined}
use Rattle.riichi_text.specs.Tiles.{kind_text}
use Rattle.riichi_explain.specs.declared.waits.WaitSorts.{WaitSorts}
use Rattle.riichi_explain.specs.declared.waits.KindWait.{KindWait}

-- ---- the sorts of wait

abbrev pub no_sorts : WaitSorts
no_sorts = record { two_sided = false; closed = false; edge = false; pair = false; two_pairs = false; orphans = false }

-- the sort that a completed block makes
abbrev pub block_sorts : ℕ → Block → WaitSorts
block_sorts winning (Run low) = record {
  two_sided = is_two_sided winning (Run low);
  closed = is_closed_wait low winning;
  edge = is_edge_wait low winning;
  pair = false;
  two_pairs = false;
  orphans = false;
}
block_sorts winning (Triplet kind) = record { two_sided = false; closed = false; edge = false; pair = false; two_pairs = true; orphans = false }
block_sorts winning (Pair kind) = record { two_sided = false; closed = false; edge = false; pair = true; two_pairs = false; orphans = false }

-- the sort that a reading makes: seven pairs lack one of a pair
abbrev pub sorts_by : ℕ → Reading → WaitSorts
sorts_by winning (Standard sets pair done) = block_sorts winning done
sorts_by winning SevenPairs = record { two_sided = false; closed = false; edge = false; pair = true; two_pairs = false; orphans = false }
sorts_by winning Orphans = record { two_sided = false; closed = false; edge = false; pair = false; two_pairs = false; orphans = true }

-- each sort that any of the readings makes
abbrev pub sorts_in : ℕ → List Reading → WaitSorts
sorts_in winning readings = record {
  two_sided = list_any (λ reading. (sorts_by winning reading).two_sided) readings;
  closed = list_any (λ reading. (sorts_by winning reading).closed) readings;
  edge = list_any (λ reading. (sorts_by winning reading).edge) readings;
  pair = list_any (λ reading. (sorts_by winning reading).pair) readings;
  two_pairs = list_any (λ reading. (sorts_by winning reading).two_pairs) readings;
  orphans = list_any (λ reading. (sorts_by winning reading).orphans) readings;
}

-- the sorts of two
abbrev pub both_sorts : WaitSorts → WaitSorts → WaitSorts
both_sorts first second = record {
  two_sided = first.two_sided || second.two_sided;
  closed = first.closed || second.closed;
  edge = first.edge || second.edge;
  pair = first.pair || second.pair;
  two_pairs = first.two_pairs || second.two_pairs;
  orphans = first.orphans || second.orphans;
}

-- ---- the kinds

-- the copies that neither hand nor melds hold, and the sorts of wait over all readings of the hand with one more of the kind
unfoldable pub kind_wait : HandParts → ℕ → KindWait
kind_wait hand kind = record {
  kind = kind;
  left = 4 - copies_held hand.concealed hand.melds kind;
  sorts = sorts_in kind (readings_of (with_one hand.concealed kind) (length hand.melds) kind);
}

unfoldable pub waits_at : HandParts → ℕ → List KindWait
waits_at hand kind = if is_wait hand kind then kind_wait hand kind ∷ [] else []

-- each kind that the hand waits for
abbrev pub kind_waits : HandParts → List KindWait
kind_waits hand = flat_map (waits_at hand) every_kind

-- ---- the text

unfoldable pub word_if : Bool → List ℕ → List ℕ
word_if there word = if there then word else []

unfoldable pub run_words : WaitSorts → List ℕ
run_words sorts = word_if sorts.two_sided (codes ", two-sided (ryanmen)") ++ word_if sorts.closed (codes ", closed (kanchan)") ++ word_if sorts.edge (codes ", edge (penchan)")

unfoldable pub other_words : WaitSorts → List ℕ
other_words sorts = word_if sorts.pair (codes ", pair (tanki)") ++ word_if sorts.two_pairs (codes ", two pairs (shanpon)") ++ word_if sorts.orphans (codes ", thirteen orphans")

unfoldable pub kind_left_text : ℕ → ℕ → List ℕ
kind_left_text kind left = kind_text kind ++ codes " " ++ decimal left ++ codes " left"

unfoldable pub wait_text : KindWait → List ℕ
wait_text row = kind_left_text row.kind row.left ++ run_words row.sorts ++ other_words row.sorts

unfoldable pub waits_line : List KindWait → List ℕ
waits_line [] = codes "  no tile that is left completes the hand\n"
waits_line (row ∷ rows) = codes "  " ++ joined (codes "; ") (map wait_text (row ∷ rows)) ++ codes "\n"
