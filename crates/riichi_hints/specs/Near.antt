-- Which name is nearest to a word.
use Rattle.std.specs.Prelude.{◌≡◌, ◌⊎◌, ℕ, ◌==◌, ◌+◌, ◌*◌, ◌<◌, ◌≤◌, List, [], ◌∷◌, ◌++◌, Bool, false, ◌&&◌, ◌||◌, Option, None, Some, length, nat_le, map, take, unwrap_or, codes, if◌then◌else◌}
use Rattle.std.specs.Str.{bytes_eq}
use Rattle.std.specs.List.{Any, filter_map, position_or_len}
use Rattle.riichi_hand.specs.declared.line.key.Key.{Key}
use Rattle.riichi_hand.specs.declared.line.key.Key.TheVariants as key
use Rattle.riichi_hand.specs.Keys.{key_name}
use Rattle.riichi_hand.specs.Words.{word_of}
use Rattle.riichi_hints.specs.declared.names.Meaning.{Meaning}
use Rattle.riichi_hints.specs.declared.names.Meaning.TheVariants as meaning
use Rattle.riichi_hints.specs.declared.names.TheConstants.{NAMES}

-- ---- how near two words are

-- the letters of a part stand in a word, in their order
abbrev pub IsPart : List ℕ → List ℕ → Type 0
IsPart [] word = Unit {0}
IsPart (letter ∷ part) [] = ⊥
IsPart (letter ∷ part) (first ∷ word) = ((letter ≡ first) × IsPart part word) ⊎ IsPart (letter ∷ part) word

-- Where at most so many letters are left out, of one word or of both, the same is left.
pub record IsWithin (edits : ℕ) (word other : List ℕ) : Type 0 where
  pub left : List ℕ
  pub in_word : IsPart left word
  pub in_other : IsPart left other
  pub few : length word + length other ≤ edits + 2 * length left

-- ---- the names

-- `=` or `:`
abbrev pub is_mark : ℕ → Bool
is_mark byte = (byte == 61) || (byte == 58)

-- a hyphen, `_`, `.` or `!`
abbrev pub is_joint : ℕ → Bool
is_joint byte = (byte == 45) || (byte == 95) || (byte == 46) || (byte == 33)

-- a letter in small, none for what joins the parts of a name
abbrev pub small_letter : ℕ → Option ℕ
small_letter byte =
    if is_joint byte then None else Some (if nat_le 65 byte && nat_le byte 90 then byte + 32 else byte)

abbrev pub plain_name : List ℕ → List ℕ
plain_name word = filter_map small_letter word

-- what stands before the first mark
abbrev pub before_mark : List ℕ → List ℕ
before_mark word = take (position_or_len is_mark word) word

-- the names that players use, each with what it means
abbrev pub names : List (List ℕ × Meaning)
names = map (λ row. (row.0.now, row.1)) NAMES

-- A name that means this is within so many edits.
abbrev pub IsReached : ℕ → List ℕ → Meaning → Type 0
IsReached edits name meaning = Any (λ row. (row.1 ≡ meaning) × IsWithin edits row.0 name) names

-- So many edits reach a name that means this, two at most and no more than half of the letters, and fewer edits reach none.
pub record IsNearest (name : List ℕ) (meaning : Meaning) : Type 0 where
  pub edits : ℕ
  pub few : edits ≤ 2
  pub half_at_most : 2 * edits ≤ length name
  pub reached : IsReached edits name meaning
  pub least : (fewer : ℕ) (other : Meaning) → fewer < edits → IsReached fewer name other → ⊥

-- ---- the keys

-- the key under which a line says this, where there is one
abbrev pub said_under : Meaning → Option Key
said_under (meaning.Job job) = None
said_under meaning.Hand = None
said_under (meaning.Key key) = Some key
said_under (meaning.By by) = Some key.By
said_under (meaning.Flag flag) = Some key.Flags
said_under meaning.DoubleRiichi = Some key.Riichi
said_under meaning.Meld = Some key.Open
said_under meaning.Red = None
said_under meaning.Unsaid = None

-- The note names the key of a name than which none is nearer to that of the word, and another than the word has.
pub record IsKeyNote (from : Option (List ℕ)) (note : List ℕ) : Type 0 where
  pub meaning : Meaning
  pub nearest : IsNearest (plain_name (before_mark (word_of (unwrap_or from [])))) meaning
  pub key : Key
  pub key_is : said_under meaning ≡ Some key
  pub is_another : bytes_eq (key_name key) (before_mark (word_of (unwrap_or from []))) ≡ false
  pub note_is : note ≡ codes "the nearest key is " ++ key_name key
