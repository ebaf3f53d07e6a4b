-- A wrong word of a text of rules begins where a character does.
use Rattle.std.proofs.Common.{◌≡◌, ◌∙◌, ◌+◌, ◌<◌, ℕ, Bool, true, false, List, ◌++◌, Option, None, Some, inl, inr, length, get_or, refl, sym, ap, subst, arith, append_assoc, length-append}
use Rattle.std.proofs.lemmas.List.{get_or-append-add}
use Rattle.std.proofs.lemmas.Str.{IsCharBoundary-after_ascii}
use Rattle.std.specs.Prelude.{option_map, unwrap_or}
use Rattle.std.specs.Borrow.{Bor}
use Rattle.std.specs.Str.{IsUtf8, IsCharBoundary}
use Rattle.riichi_hand.specs.RulesWords.{sign}
use Rattle.riichi_hand.specs.RulesText.{IsWrongAt, rules_text}

pub text_given : (given : Option (Bor (List ℕ))) (other : Bor (List ℕ)) → (unwrap_or given other).now ≡ unwrap_or (option_map (λ text. text.now) given) other.now
text_given None other = refl
text_given (Some text) other = refl

one_byte : (on : Bool) → length (sign on) ≡ 1
one_byte true = refl
one_byte false = refl

ascii_sign : (on : Bool) (rest : List ℕ) → get_or (sign on ++ rest) 0 0 < 128
ascii_sign true rest = omega arith
ascii_sign false rest = omega arith

behind_sign : (text front rest : List ℕ) (on : Bool) (place : ℕ) → IsUtf8 text → text ≡ (front ++ sign on) ++ rest → place ≡ length (front ++ sign on) → IsCharBoundary text place
behind_sign text front rest on place utf8 text_is place_is =
    let parted : text ≡ front ++ (sign on ++ rest) = text_is ∙ append_assoc front (sign on) rest in
    let one = one_byte on in
    let lengths = length-append front (sign on) in
    let within : length front < length text = omega (arith, ap length text_is, length-append (front ++ sign on) rest) in
    let at_sign : get_or text (length front + 0) 0 ≡ get_or (sign on ++ rest) 0 0 = ap (λ bytes. get_or bytes (length front + 0) 0) parted ∙ get_or-append-add front (sign on ++ rest) 0 0 in
    let place_at : length front + 0 ≡ length front = omega arith in
    let ascii : get_or text (length front) 0 < 128 = subst (λ (byte : ℕ). byte < 128) (sym at_sign ∙ ap (λ at. get_or text at 0) place_at) (ascii_sign on rest) in
    let end : length front + 1 ≡ place = omega arith in
    subst (IsCharBoundary text) end (IsCharBoundary-after_ascii text (length front) utf8 within ascii)

pub boundary : (text : List ℕ) (place : ℕ) → IsUtf8 text → IsWrongAt text place → 0 < place → IsCharBoundary text place
boundary text place utf8 (inl lacks) some = let start = lacks.place_is in absurd (omega arith)
boundary text place utf8 (inr lacks) some = behind_sign text (rules_text lacks.profile lacks.changes) lacks.rest lacks.is_on place utf8 lacks.text_is lacks.place_is
