-- What became of the words of a refused line in the line that is shown below it: each stands there, is read as something else that is
-- named, or is named as left out; and each word that is shown and that no word is read as, or for which another may be meant, is named
-- as a guess.
use Rattle.std.specs.Prelude.{◌≡◌, ℕ, ◌==◌, ◌+◌, List, [], ◌∷◌, ◌++◌, Bool, true, false, ◌&&◌, ◌||◌, not, Option, None, Some, codes, drop, nat_le, if◌then◌else◌}
use Rattle.std.specs.List.{list_any}
use Rattle.std.specs.Str.{bytes_eq}
use Rattle.riichi_tiles.specs.Melds.{cut_at}
use Rattle.riichi_hand.specs.declared.line.key.Key.{Key}
use Rattle.riichi_hand.specs.declared.line.key.Key.TheVariants.{On, By, Seat, Round}
use Rattle.riichi_hand.specs.Keys.{key_name}
use Rattle.riichi_hints.specs.declared.account.Account.{Account}
use Rattle.riichi_hints.specs.declared.account.Fate.{Fate}
use Rattle.riichi_hints.specs.declared.account.Fate.TheVariants.{Kept, Read, LeftOut}
use Rattle.riichi_hints.specs.declared.role.Role.{Role}
use Rattle.riichi_hints.specs.declared.role.Role.TheVariants.{Unread, Job, Hand, Numbered, Entry, Likely, Won, Winds}
use Rattle.riichi_hints.specs.declared.role.Spot.{Spot}
use Rattle.riichi_hints.specs.declared.role.Spot.TheVariants.{First, Second, Later}

-- ---- words

abbrev pub opens_note : List ℕ → Bool
opens_note [] = false
opens_note (first ∷ word) = first == 35

-- the words of a line up to a note
abbrev pub read_words : List (List ℕ) → List (List ℕ)
read_words [] = []
read_words (word ∷ words) = if opens_note word then [] else word ∷ read_words words

-- a letter that is no capital, and `=` for a colon
abbrev pub small_byte : ℕ → ℕ
small_byte letter = if nat_le 65 letter && nat_le letter 90 then letter + 32 else if letter == 58 then 61 else letter

-- a word begins with these letters, in upper case or not
abbrev pub begins_as : List ℕ → List ℕ → Bool
begins_as word [] = true
begins_as [] (letter ∷ letters) = false
begins_as (one ∷ word) (letter ∷ letters) = (small_byte one == small_byte letter) && begins_as word letters

-- a word stands in another
abbrev pub stands_in : List ℕ → List ℕ → Bool
stands_in word [] = begins_as [] word
stands_in word (letter ∷ other) = begins_as (letter ∷ other) word || stands_in word other

-- ---- the words that are shown

abbrev pub has_name : List ℕ → Option (List ℕ × List ℕ) → Bool
has_name name None = false
has_name name (Some cut) = bytes_eq name cut.0

-- a word has a key before its `=`
abbrev pub has_key_before : Key → List ℕ → Bool
has_key_before key word = has_name (key_name key) (cut_at 61 word)

-- the first word that is shown is the job, the second the hand, and the others have keys
abbrev pub next_spot : Spot → Spot
next_spot First = Second
next_spot spot = Later

-- a word in this place is of a role
abbrev pub fits : Role → Spot → List ℕ → Bool
fits Job First word = true
fits Hand Second word = true
fits Numbered Second word = true
fits (Entry key) Later word = has_key_before key word
fits (Likely key) Later word = has_key_before key word
fits Won Later word = has_key_before On word || has_key_before By word
fits Winds Later word = has_key_before Seat word || has_key_before Round word
fits role spot word = false

-- some word is of a role, from this place on
abbrev pub is_shown : Role → Spot → List (List ℕ) → Bool
is_shown role spot [] = false
is_shown role spot (word ∷ words) = fits role spot word || is_shown role (next_spot spot) words

-- a number of a tile isn't kept, though the hand may have its digits
abbrev pub is_as_typed : Role → Bool
is_as_typed Numbered = false
is_as_typed role = true

-- a word stands in one of a role
abbrev pub stands_shown : List ℕ → Role → Spot → List (List ℕ) → Bool
stands_shown word role spot [] = false
stands_shown word role spot (other ∷ others) = (is_as_typed role && (fits role spot other && stands_in word other)) || stands_shown word role (next_spot spot) others

abbrev pub spaced_if : Bool → List ℕ → List ℕ
spaced_if false word = []
spaced_if true word = codes " " ++ word

-- the words of a role, each behind a space
abbrev pub role_text : Role → Spot → List (List ℕ) → List ℕ
role_text role spot [] = []
role_text role spot (word ∷ words) = spaced_if (fits role spot word) word ++ role_text role (next_spot spot) words

-- ---- what became of a word

-- It is kept where it stands in a word of its role, and left out where there is none.
abbrev pub fate_of : List ℕ → Role → List (List ℕ) → Fate
fate_of word role shown =
    if stands_shown word role First shown then Kept
    else if is_shown role First shown then Read role else LeftOut

-- words in a row that are left out, or read as the hand, are told together
abbrev pub goes_on : Fate → Fate → Bool
goes_on Kept Kept = true
goes_on LeftOut LeftOut = true
goes_on (Read Hand) (Read Hand) = true
goes_on (Read Numbered) (Read Numbered) = true
goes_on before fate = false

-- a word that is kept isn't told
abbrev pub named_text : Fate → List ℕ → List ℕ
named_text Kept word = []
named_text fate word = codes " " ++ word

-- what ends what is told of words that this became of
abbrev pub fate_text : Fate → List (List ℕ) → List ℕ
fate_text Kept shown = []
fate_text LeftOut shown = codes " is left out."
fate_text (Read role) shown = codes " is read as" ++ (role_text role First shown ++ codes ".")

-- where another became of the next word
abbrev pub ended_text : Fate → Fate → List (List ℕ) → List ℕ
ended_text before fate shown = if goes_on before fate then [] else fate_text before shown

-- a word without a role is left out
abbrev pub first_role : List Role → Role
first_role [] = Unread
first_role (role ∷ roles) = role

-- of each word, behind one of which this became
abbrev pub fates_told : Fate → List (List ℕ) → List Role → List (List ℕ) → List ℕ
fates_told before [] roles shown = fate_text before shown
fates_told before (word ∷ words) roles shown =
    let fate = fate_of word (first_role roles) shown in
    (ended_text before fate shown ++ named_text fate word) ++ fates_told fate words (drop 1 roles) shown

-- ---- guesses

abbrev pub is_later : Spot → Bool
is_later Later = true
is_later spot = false

-- of a role where another word may be meant as well
abbrev pub is_likely : Role → Bool
is_likely (Likely key) = true
is_likely Winds = true
is_likely role = false

abbrev pub role_doubts : Role → Spot → List ℕ → Bool
role_doubts role spot word = is_likely role && fits role spot word

-- behind the job and the hand, a word that no word is read as, or one of which another may be meant as well
abbrev pub is_guess : List Role → Spot → List ℕ → Bool
is_guess roles spot word =
    is_later spot && (not (list_any (λ role. fits role spot word) roles) || list_any (λ role. role_doubts role spot word) roles)

abbrev pub has_guess : List Role → Spot → List (List ℕ) → Bool
has_guess roles spot [] = false
has_guess roles spot (word ∷ words) = is_guess roles spot word || has_guess roles (next_spot spot) words

abbrev pub guess_text : Bool → List ℕ → List ℕ
guess_text false word = []
guess_text true word = codes " " ++ (word ++ codes " is a guess.")

abbrev pub guesses_text : List Role → Spot → List (List ℕ) → List ℕ
guesses_text roles spot [] = []
guesses_text roles spot (word ∷ words) = guess_text (is_guess roles spot word) word ++ guesses_text roles (next_spot spot) words

-- ---- the account

abbrev pub account_text : List (List ℕ) → List Role → List (List ℕ) → List ℕ
account_text words roles shown = fates_told Kept words roles shown ++ guesses_text roles First shown

-- More is told, unless something had no room.
abbrev pub IsAdded : Account → Account → List ℕ → Type 0
IsAdded old new more = new.is_whole ≡ true → (old.is_whole ≡ true) × (new.text.items ≡ old.text.items ++ more)
