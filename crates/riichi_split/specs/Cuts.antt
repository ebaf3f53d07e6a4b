-- How the search cuts tiles into sets, kind by kind from the lowest. No public clause cites this.
use Rattle.std.specs.Prelude.{◌^◌, min, ℕ, zero, suc, ◌+◌, ◌-◌, ◌*◌, ◌/◌, ◌%◌, Bool, false, ◌&&◌, not, Option, Some, None, List, [], ◌∷◌, ◌++◌, if◌then◌else◌, nat_lt, ◌==◌, replicate, slice_index, slice_set, option_and_then, ◌≡◌, ◌≤◌, length, nat_le, All, AllPairs, Contains, ◌≢◌}
use Rattle.riichi_tiles.specs.declared.block.Block.{Block}
use Rattle.riichi_tiles.specs.declared.block.Block.TheVariants.{Run, Triplet}
use Rattle.riichi_tiles.specs.Kinds.{begins_run}
use Rattle.riichi_tiles.specs.HeldKinds.{is_held}
use Rattle.riichi_split.specs.Readings.{IsSplit}
use Rattle.riichi_split.specs.declared.cutting.Choice.{Choice}
use Rattle.riichi_split.specs.declared.split.Split.{Split}

-- so many triplets and runs begin at a kind, where that many sets are wanted and runs may begin there
abbrev pub begins : ℕ → ℕ → ℕ → ℕ → ℕ → Option Choice
begins kind left triplets runs choices =
    if nat_lt left (triplets + runs) then None else
    (if nat_lt 0 runs && not (begins_run kind) then None else
    Some (record { triplets = triplets; runs = runs; choices = choices }))

-- the first two kinds have three tiles or more: three runs might begin just below them
abbrev pub may_have_runs : List ℕ → Bool
may_have_runs above = nat_le 3 (slice_index above 0) && nat_le 3 (slice_index above 1)

-- what begins at a kind with so many tiles, of which `below` belong to runs begun below. Three free tiles are a triplet; where they are in doubt, since three runs might begin there, the next bit says whether they are
abbrev pub choice_of : ℕ → ℕ → Bool → ℕ → ℕ → ℕ → Option Choice
choice_of kind held in_doubt below left choices =
    if nat_lt held below then None else
    (if nat_lt (held - below) 3 then begins kind left 0 (held - below) choices else
    (if in_doubt then begins kind left (choices % 2) (held - below - 3 * (choices % 2)) (choices / 2) else
    begins kind left 1 (held - below - 3) choices))

-- the sets that begin at a kind
abbrev pub begun : ℕ → Choice → List Block
begun kind choice = replicate choice.triplets (Triplet kind) ++ replicate choice.runs (Run kind)

abbrev pub sets_joined : List Block → Option (List Block) → Option (List Block)
sets_joined front None = None
sets_joined front (Some rest) = Some (front ++ rest)

-- the sets of the kinds from one on, where `one` runs began one kind below and `two` two kinds below
unfoldable pub cut_from : ℕ → List ℕ → ℕ → ℕ → ℕ → ℕ → Option (List Block)
cut_from kind [] one two left choices = if one + two + left + choices == 0 then Some [] else None
cut_from kind (held ∷ counts) one two left choices =
    option_and_then (λ choice. sets_joined (begun kind choice) (cut_from (kind + 1) counts choice.runs one (left - (choice.triplets + choice.runs)) choice.choices)) (choice_of kind held (may_have_runs counts) (one + two) left choices)

-- the sets that some choices leave beside a pair
abbrev pub sets_beside : List ℕ → ℕ → ℕ → ℕ → Option (List Block)
sets_beside counts wanted pair choices =
    if nat_lt (slice_index counts pair) 2 then None else
    cut_from 0 (slice_set counts pair (slice_index counts pair - 2)) 0 0 wanted choices

abbrev pub split_of : ℕ → Option (List Block) → List Split
split_of pair None = []
split_of pair (Some sets) = record { sets = sets; pair = pair } ∷ []

-- what each number below one gives, the greatest number first
unfoldable pub falling : {X : Type 0} → (ℕ → List X) → ℕ → List X
falling of_number zero = []
falling of_number (suc number) = of_number number ++ falling of_number number

-- the splits with a pair, by the choices below a number
unfoldable pub from_choices : List ℕ → ℕ → ℕ → ℕ → List Split
from_choices counts wanted pair choices = falling (λ number. split_of pair (sets_beside counts wanted pair number)) choices

-- the splits with a pair of one of so many kinds, from a kind on
unfoldable pub from_pairs : List ℕ → ℕ → ℕ → ℕ → ℕ → List Split
from_pairs counts wanted choices first kinds = falling (λ kind. from_choices counts wanted (first + kind) choices) kinds

-- the sum of the numbers of the first kinds' tiles, three kinds at a time, each number by what it leaves over by three
unfoldable pub thirds : (ℕ → ℕ) → ℕ → ℕ
thirds copies zero = 0
thirds copies (suc third) = thirds copies third + (copies (3 * third + 1) + 2 * copies (3 * third + 2))

-- what the number of the pair's kind leaves over by three, since the three numbers of a set leave nothing
abbrev pub third_of_pair : List ℕ → ℕ
third_of_pair counts = 2 * thirds (slice_index counts) 11 % 3

-- how many kinds have three tiles or more, as the two kinds above them have
unfoldable pub doubts : List ℕ → ℕ
doubts [] = 0
doubts (held ∷ counts) = doubts counts + (if nat_le 3 held && may_have_runs counts then 1 else 0)

-- how many numbers can make the choices: a bit for each such kind, four at most
abbrev pub choices_beside : List ℕ → ℕ
choices_beside counts = 2 ^ min 4 (doubts counts)

-- no kind is held but these
pub record HoldsAtMost (counts : List ℕ) (held : ℕ) : Type 0 where
  pub none : (kind : ℕ) → is_held held kind ≡ false → slice_index counts kind ≡ 0

-- what the fields of `Splits` keep
pub record IsReady (counts : List ℕ) (held wanted choices choices_left first pairs_left third : ℕ) : Type 0 where
  pub each_kind : length counts ≡ 34
  pub held_are : HoldsAtMost counts held
  pub at_most_four : wanted ≤ 4
  pub choices_few : choices ≤ 16
  pub left_few : choices_left ≤ 16
  pub pairs_few : first + pairs_left ≤ 34
  pub third_is : third ≡ third_of_pair counts

-- the list has each split once, and nothing else
pub record AreTheSplits (counts : List ℕ) (melds : ℕ) (splits : List Split) : Type 0 where
  pub sound : All (λ split. IsSplit counts melds split.sets split.pair) splits
  pub complete : (split : Split) → IsSplit counts melds split.sets split.pair → Contains splits split
  pub once : AllPairs ◌≢◌ splits
