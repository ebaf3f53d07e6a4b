-- Texts that are none of record lines, by their first bytes.
use Rattle.std.specs.Prelude.{ℕ, List, [], ◌∷◌, ◌++◌, take, drop, Bool, false, ◌&&◌, ◌||◌, Option, None, Some, is_some, nat_eq, codes, if◌then◌else◌}
use Rattle.std.specs.List.{starts_with}
use Rattle.std.specs.Char.{is_ascii_whitespace}
use Rattle.desk_notes.specs.declared.sign.Sign.{Sign}
use Rattle.desk_notes.specs.declared.sign.Sign.TheVariants.{Games, Mark, Wide}

abbrev pub begins_space : List ℕ → Bool
begins_space [] = false
begins_space (byte ∷ rest) = is_ascii_whitespace byte

-- the first word is `game`
abbrev pub begins_game : List ℕ → Bool
begins_game text = starts_with nat_eq text (codes "game") && begins_space (drop 4 text)

-- a byte order mark of UTF-8
abbrev pub has_byte_order_mark : List ℕ → Bool
has_byte_order_mark text = starts_with nat_eq text (239 ∷ 187 ∷ 191 ∷ [])

-- a byte order mark of UTF-16, the lower byte of each character first or the upper one
abbrev pub has_wide_mark : List ℕ → Bool
has_wide_mark text = starts_with nat_eq text (255 ∷ 254 ∷ []) || starts_with nat_eq text (254 ∷ 255 ∷ [])

abbrev pub sign_of : List ℕ → Option Sign
sign_of text =
    if begins_game text then Some Games
    else if has_byte_order_mark text then Some Mark
    else if has_wide_mark text then Some Wide
    else None

-- the sign is seen by what is read of the text, and was not before
abbrev pub sign_by : List ℕ → List ℕ → Option Sign
sign_by before read = if is_some (sign_of before) then None else sign_of (take 5 read)

abbrev pub sign_words : Sign → List ℕ
sign_words Games = codes "the first line begins a game of four players; `riichi_desk game` reads such a text"
sign_words Mark = codes "a byte order mark stands before the first line, which is not read as it looks; save the text as UTF-8 without one (in Notepad `UTF-8`, not `UTF-8 with BOM`; in PowerShell `Set-Content -Encoding ascii`)"
sign_words Wide = codes "the text is UTF-16, and no line of it can be read; save it as UTF-8 (in Notepad `UTF-8`; in PowerShell `Get-Content OLD | Set-Content -Encoding ascii NEW`)"

-- the name of the text, and what is said of it
abbrev pub sign_line : List ℕ → Sign → List ℕ
sign_line name sign = codes "riichi_desk: " ++ (name ++ (codes ": " ++ sign_words sign))
