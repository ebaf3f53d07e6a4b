-- What the words after the hand say, key by key.
use Rattle.std.specs.Prelude.{◌≡◌, ◌⊎◌, ℕ, List, [], ◌∷◌, Bool, false, ◌||◌, not, Option, None, Some, is_some, if◌then◌else◌, length, nat_lt, option_and_then, option_map, unwrap_or}
use Rattle.std.specs.List.{filter_map, list_any}
use Rattle.riichi_tiles.specs.Melds.{cut_at}
use Rattle.riichi_hand.specs.declared.line.job_name.JobName.{JobName}
use Rattle.riichi_hand.specs.declared.line.key.Key.{Key}
use Rattle.riichi_hand.specs.declared.line.key.Key.TheVariants.{On, By, Seat, Round, Open, Riichi, Flags, Dora, Ura, Counters, Sticks, Seen}
use Rattle.riichi_hand.specs.declared.line.fields.Fields.{Fields}
use Rattle.riichi_hand.specs.Keys.{every_key, key_named, has_key, ValueOf, value_for_key, value_at}

-- what stands before and after the first `=`
abbrev pub cut_at_equals : List ℕ → Option (List ℕ × List ℕ)
cut_at_equals word = cut_at 61 word

-- the key of a word, where what stands before its first `=` is the name of one
abbrev pub key_in : List ℕ → Option Key
key_in word = option_and_then (λ cut. key_named cut.0) (cut_at_equals word)

abbrev pub keyed_by : JobName → Option Key → List ℕ → Option (Key × List ℕ)
keyed_by job None text = None
keyed_by job (Some key) text = if has_key job key then Some (key, text) else None

abbrev pub keyed_cut : JobName → Option (List ℕ × List ℕ) → Option (Key × List ℕ)
keyed_cut job None = None
keyed_cut job (Some cut) = keyed_by job (key_named cut.0) cut.1

-- the key and the text of its value, of a word with `=` and a key that the job can have
abbrev pub keyed_of : JobName → List ℕ → Option (Key × List ℕ)
keyed_of job word = keyed_cut job (cut_at_equals word)

-- the text is a value of the key
abbrev pub is_entry : Option (Key × List ℕ) → Bool
is_entry None = false
is_entry (Some keyed) = is_some (value_for_key keyed.0 keyed.1)

abbrev pub is_bad : JobName → List ℕ → Bool
is_bad job word = not (is_entry (keyed_of job word))

abbrev pub value_in : (key : Key) → Option (Key × List ℕ) → Option (ValueOf key)
value_in key None = None
value_in key (Some keyed) = value_at key keyed.0 (value_for_key keyed.0 keyed.1)

-- the values that words give a key, in their order
abbrev pub values_of : JobName → List (List ℕ) → (key : Key) → List (ValueOf key)
values_of job words key = filter_map (λ word. value_in key (keyed_of job word)) words

abbrev pub is_doubled : JobName → List (List ℕ) → Key → Bool
is_doubled job words key = nat_lt 1 (length (values_of job words key))

abbrev pub first_item : {X : Type 0} → List X → Option X
first_item [] = None
first_item (x ∷ xs) = Some x

-- What words say: whether one is no entry of the job, whether a key stands twice, and the value of each key.
pub record Entries : Type 0 where
  pub has_bad_word : Bool
  pub has_doubled_key : Bool
  pub value : (key : Key) → Option (ValueOf key)

abbrev pub entries_of : JobName → List (List ℕ) → Entries
entries_of job words = record {
  has_bad_word = list_any (is_bad job) words;
  has_doubled_key = list_any (is_doubled job words) every_key;
  value = λ key. first_item (values_of job words key);
}

-- the first of two values that may be missing
abbrev pub first_or : {X : Type 0} → Option X → Option X → Option X
first_or first None = first
first_or first (Some second) = Some (unwrap_or first second)

-- a value for a key that has one
abbrev pub is_again : {X : Type 0} → Option X → Option X → Bool
is_again first None = false
is_again first (Some second) = is_some first

-- a mark stays, and one that is new is this one
abbrev pub KeepsFirstMark : {X : Type 0} → Option X → X → Option X → Type 0
KeepsFirstMark (Some old) from new = new ≡ Some old
KeepsFirstMark None from new = (new ≡ None) ⊎ (new ≡ Some from)

-- Fields hold what entries say: whether a key stands twice, and the value of each key in its place.
pub record Holds (fields : Fields) (entries : Entries) : Type 0 where
  pub doubled : is_some fields.at_fault ≡ entries.has_doubled_key
  pub on : option_map (λ text. text.now) fields.on ≡ entries.value On
  pub by : fields.by ≡ entries.value By
  pub seat : fields.seat ≡ entries.value Seat
  pub round : fields.round ≡ entries.value Round
  pub melds : option_map (λ text. text.now) fields.melds ≡ entries.value Open
  pub riichi : fields.riichi ≡ entries.value Riichi
  pub flags : fields.flags ≡ entries.value Flags
  pub dora : option_map (λ text. text.now) fields.dora ≡ entries.value Dora
  pub ura : option_map (λ text. text.now) fields.ura ≡ entries.value Ura
  pub counters : fields.counters ≡ entries.value Counters
  pub sticks : fields.sticks ≡ entries.value Sticks
  pub seen : option_map (λ text. text.now) fields.seen ≡ entries.value Seen

-- what one more key with the text of its value adds to entries
abbrev pub with_keyed : Entries → Key × List ℕ → Entries
with_keyed entries keyed =
    let value = value_for_key keyed.0 keyed.1 in
    record {
      has_bad_word = entries.has_bad_word || not (is_some value);
      has_doubled_key = is_again (entries.value keyed.0) value || entries.has_doubled_key;
      value = λ key. first_or (entries.value key) (value_at key keyed.0 value);
    }
