-- A line of printable ASCII alone.
use Rattle.std.proofs.Common.{◌≡◌, ℕ, ◌<◌, true, false, List, [], ◌∷◌, refl, arith}
use Rattle.std.specs.List.{list_any}
use Rattle.std.specs.Str.{IsAscii, is_utf8}
use Rattle.std.proofs.lemmas.Bool.Decides.{nat_tests}
use Rattle.std.proofs.lemmas.Bool.{or_parts, or_from}
use Rattle.std.proofs.lemmas.Str.{IsUtf8-from_ascii, is_utf8-from_IsUtf8}
use Rattle.std.proofs.lemmas.Str.Ascii.{IsAscii-nil, IsAscii-cons}
use Rattle.riichi_hand.specs.Lines.{is_other_byte}
use Rattle.riichi_game_text.specs.Entries.{is_control}

small : (byte : ℕ) → is_other_byte byte ≡ false → byte < 128
small byte is = grind (arith, nat_tests)

uncontrolled : (byte : ℕ) → is_other_byte byte ≡ false → is_control byte ≡ false
uncontrolled byte is = grind (arith, nat_tests)

pub is_no_control : (line : List ℕ) → list_any is_other_byte line ≡ false → list_any is_control line ≡ false
is_no_control [] none = refl
is_no_control (byte ∷ line) none =
    let both = or_parts (is_other_byte byte) (list_any is_other_byte line) none in
    or_from (is_control byte) (list_any is_control line) (uncontrolled byte both.0) (is_no_control line both.1)

is_ascii : (line : List ℕ) → list_any is_other_byte line ≡ false → IsAscii line
is_ascii [] none = IsAscii-nil
is_ascii (byte ∷ line) none =
    let both = or_parts (is_other_byte byte) (list_any is_other_byte line) none in
    IsAscii-cons byte line (small byte both.0) (is_ascii line both.1)

pub is_text : (line : List ℕ) → list_any is_other_byte line ≡ false → is_utf8 line ≡ true
is_text line none = is_utf8-from_IsUtf8 line (IsUtf8-from_ascii line (is_ascii line none))
