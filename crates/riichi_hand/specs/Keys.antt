-- The jobs and their keys.
use Rattle.std.specs.Prelude.{ℕ, ◌==◌, List, [], ◌∷◌, ◌++◌, Bool, Option, None, Some, codes, map}
use Rattle.std.specs.List.{list_any}
use Rattle.riichi_hand.specs.declared.fault.TextName.{TextName}
use Rattle.riichi_hand.specs.declared.fault.TextName.TheVariants as text
use Rattle.riichi_hand.specs.declared.line.job_name.JobName.{JobName}
use Rattle.riichi_hand.specs.declared.line.job_name.JobName.TheVariants.{Win, Waits, Shape}
use Rattle.riichi_hand.specs.declared.line.key.Key.{Key}
use Rattle.riichi_hand.specs.declared.line.key.Key.TheVariants.{On, By, Seat, Round, Open, Riichi, Flags, Dora, Ura, Counters, Sticks, Seen}
use Rattle.riichi_hand.specs.declared.win.By as win
use Rattle.riichi_hand.specs.declared.win.Flags as flags
use Rattle.riichi_hand.specs.declared.win.Wind.{Wind}
use Rattle.riichi_hand.specs.Values.{value_beside, by_of, wind_of, riichi_of, number_of, flags_of}

abbrev pub job_named : List ℕ → Option JobName
job_named word = value_beside ((codes "win", Win) ∷ (codes "waits", Waits) ∷ (codes "shape", Shape) ∷ []) word

-- ---- the keys, each with its name and with what its values are

abbrev pub every_key : List Key
every_key = On ∷ By ∷ Seat ∷ Round ∷ Open ∷ Riichi ∷ Flags ∷ Dora ∷ Ura ∷ Counters ∷ Sticks ∷ Seen ∷ []

abbrev pub key_name : Key → List ℕ
key_name On = codes "on"
key_name By = codes "by"
key_name Seat = codes "seat"
key_name Round = codes "round"
key_name Open = codes "open"
key_name Riichi = codes "riichi"
key_name Flags = codes "flags"
key_name Dora = codes "dora"
key_name Ura = codes "ura"
key_name Counters = codes "counters"
key_name Sticks = codes "sticks"
key_name Seen = codes "seen"

-- in words; tiles and melds have faults that are told by themselves
abbrev pub key_meaning : Key → Option (List ℕ)
key_meaning By = Some (codes "a win is by ron or tsumo")
key_meaning Seat = Some (codes "a seat is E, S, W or N")
key_meaning Round = Some (codes "a round is E, S, W or N")
key_meaning Riichi = Some (codes "riichi is 0, 1 or 2")
key_meaning Flags = Some (codes "flags are of ippatsu, rinshan, chankan, last and first, joined by commas, none twice")
key_meaning Counters = Some (codes "counters are one or two digits")
key_meaning Sticks = Some (codes "sticks are one or two digits")
key_meaning key = None

abbrev pub key_names : List (List ℕ × Key)
key_names = map (λ key. (key_name key, key)) every_key

abbrev pub key_named : List ℕ → Option Key
key_named word = value_beside key_names word

-- the key whose value a text of tiles is; the hand has none
abbrev pub text_key : TextName → Option Key
text_key text.Hand = None
text_key text.On = Some On
text_key text.Dora = Some Dora
text_key text.Ura = Some Ura
text_key text.Seen = Some Seen

-- the keys that must be there
abbrev pub needed : JobName → List Key
needed Win = On ∷ By ∷ Seat ∷ Round ∷ []
needed Waits = []
needed Shape = []

-- the keys that may be there
abbrev pub optional : JobName → List Key
optional Win = Open ∷ Riichi ∷ Flags ∷ Dora ∷ Ura ∷ Counters ∷ Sticks ∷ []
optional Waits = Open ∷ []
optional Shape = Open ∷ Seen ∷ []

abbrev pub number_of_key : Key → ℕ
number_of_key On = 0
number_of_key By = 1
number_of_key Seat = 2
number_of_key Round = 3
number_of_key Open = 4
number_of_key Riichi = 5
number_of_key Flags = 6
number_of_key Dora = 7
number_of_key Ura = 8
number_of_key Counters = 9
number_of_key Sticks = 10
number_of_key Seen = 11

abbrev pub is_same : Key → Key → Bool
is_same key other = number_of_key key == number_of_key other

-- the keys that a job can have
abbrev pub has_key : JobName → Key → Bool
has_key job key = list_any (is_same key) (needed job ++ optional job)

-- What the value of a key reads as. Notation texts and melds are read later, since they have faults of their own.
abbrev pub ValueOf : Key → Type 0
ValueOf On = List ℕ
ValueOf By = win.By
ValueOf Seat = Wind
ValueOf Round = Wind
ValueOf Open = List ℕ
ValueOf Riichi = ℕ
ValueOf Flags = flags.Flags
ValueOf Dora = List ℕ
ValueOf Ura = List ℕ
ValueOf Counters = ℕ
ValueOf Sticks = ℕ
ValueOf Seen = List ℕ

-- the value that a text is, where the key may have it
abbrev pub value_for_key : (key : Key) → List ℕ → Option (ValueOf key)
value_for_key On text = Some text
value_for_key By text = by_of text
value_for_key Seat text = wind_of text
value_for_key Round text = wind_of text
value_for_key Open text = Some text
value_for_key Riichi text = riichi_of text
value_for_key Flags text = flags_of text
value_for_key Dora text = Some text
value_for_key Ura text = Some text
value_for_key Counters text = number_of text
value_for_key Sticks text = number_of text
value_for_key Seen text = Some text

-- a value of the other key, as one of this key: only where they are the same
abbrev pub value_at : (key other : Key) → Option (ValueOf other) → Option (ValueOf key)
value_at On On value = value
value_at By By value = value
value_at Seat Seat value = value
value_at Round Round value = value
value_at Open Open value = value
value_at Riichi Riichi value = value
value_at Flags Flags value = value
value_at Dora Dora value = value
value_at Ura Ura value = value
value_at Counters Counters value = value
value_at Sticks Sticks value = value
value_at Seen Seen value = value
value_at key other value = None
