-- The words of a study line: those with a key of its own, and the others.
use Rattle.std.specs.Prelude.{ℕ, List, [], ◌∷◌, Bool, not, Option, None, Some, Result, Ok, Err, codes, is_some, if◌then◌else◌, filter}
use Rattle.std.specs.List.{filter_map, flat_map, list_any}
use Rattle.std.specs.Str.{bytes_eq}
use Rattle.riichi_hand.specs.declared.fault.LineCode.TheVariants.{H5}
use Rattle.riichi_hand.specs.declared.fault.LineFault.{LineFault}
use Rattle.riichi_hand.specs.declared.fault.LineFault.TheVariants.{Line}
use Rattle.riichi_hand.specs.Entries.{cut_at_equals}
use Rattle.riichi_hand.specs.Values.{value_beside}
use Rattle.riichi_study.specs.declared.key.StudyKey.{StudyKey}
use Rattle.riichi_study.specs.declared.key.StudyKey.TheVariants.{Order, Tile, From, Own, Thrown, Since, Turns, Seat, Round, Dora, Rules}
use Rattle.riichi_study.specs.declared.name.StudyName.{StudyName}
use Rattle.riichi_study.specs.declared.name.StudyName.TheVariants.{Shape, Calls, Safe, Chances, Worth}

abbrev pub study_named : List ℕ → Option StudyName
study_named word = value_beside ((codes "shape", Shape) ∷ (codes "calls", Calls) ∷ (codes "safe", Safe) ∷ (codes "chances", Chances) ∷ (codes "worth", Worth) ∷ []) word

abbrev pub key_word : StudyKey → List ℕ
key_word Order = codes "order"
key_word Tile = codes "tile"
key_word From = codes "from"
key_word Own = codes "own"
key_word Thrown = codes "thrown"
key_word Since = codes "since"
key_word Turns = codes "turns"
key_word Seat = codes "seat"
key_word Round = codes "round"
key_word Dora = codes "dora"
key_word Rules = codes "rules"

-- the keys that a line of a job has beside those of a shape line
abbrev pub own_keys : StudyName → List StudyKey
own_keys Shape = Order ∷ []
own_keys Calls = Tile ∷ From ∷ []
own_keys Safe = Own ∷ Thrown ∷ Since ∷ []
own_keys Chances = Turns ∷ []
own_keys Worth = Turns ∷ Seat ∷ Round ∷ Dora ∷ Rules ∷ []

abbrev pub value_cut : StudyKey → Option (List ℕ × List ℕ) → Option (List ℕ)
value_cut key None = None
value_cut key (Some cut) = if bytes_eq cut.0 (key_word key) then Some cut.1 else None

-- what stands behind the name of the key and `=`
unfoldable pub own_value : StudyKey → List ℕ → Option (List ℕ)
own_value key word = value_cut key (cut_at_equals word)

-- the values that words give a key, in their order
abbrev pub own_values : StudyKey → List (List ℕ) → List (List ℕ)
own_values key words = filter_map (own_value key) words

abbrev pub is_own : StudyName → List ℕ → Bool
is_own job word = list_any (λ key. is_some (own_value key word)) (own_keys job)

abbrev pub shape_words : StudyName → List (List ℕ) → List (List ℕ)
shape_words job words = filter (λ word. not (is_own job word)) words

-- a space before each word
abbrev pub space_before_each : List (List ℕ) → List ℕ
space_before_each words = flat_map (λ word. 32 ∷ word) words

-- the value of a key that stands once, none where it doesn't stand there; twice is a fault
abbrev pub only_of : List (List ℕ) → Result (Option (List ℕ)) LineFault
only_of [] = Ok None
only_of (value ∷ []) = Ok (Some value)
only_of (value ∷ again ∷ values) = Err (Line H5)
