use Rattle.std.proofs.Common.{◌≡◌, ℕ, zero, suc, false, ltb, List, [], ◌∷◌, ◌++◌, Some, refl, sym, ap, ◌∙◌, codes, arith}
use Rattle.std.specs.List.{list_any}
use Rattle.std.specs.Str.{IsAscii}
use Rattle.std.proofs.lemmas.Bool.{ltb-false, or_parts}
use Rattle.std.proofs.lemmas.Str.{IsUtf8-from_ascii}
use Rattle.riichi_hand.specs.Lines.{is_other_byte}
use Rattle.riichi_text.proofs.Pieces.{pushed-three}
use Rattle.riichi_hints.proofs.hint.push_line.Goals as goal

-- printable bytes are ASCII
plain : (words : List ℕ) → list_any is_other_byte words ≡ false → IsAscii words
plain [] e i = omega arith
plain (byte ∷ words) e zero = omega (arith, ltb-false 126 byte (or_parts (ltb byte 32) (ltb 126 byte) (or_parts (is_other_byte byte) (list_any is_other_byte words) e).0).1)
plain (byte ∷ words) e (suc i) = plain words (or_parts (is_other_byte byte) (list_any is_other_byte words) e).1 i

pub returns-in-Ok-clause-room : goal.returns-in-Ok-clause-room
returns-in-Ok-clause-room c = λ printable fits.
    let pushed = c.push_str-in-Ok.ensures.bytes ∙ ap (λ (t : List ℕ). c.push_str.new.self.bytes ++ t) c.in-Ok.ensures.cases.0 in
    pushed-three c.args.text.now.bytes c.args.before.now c.args.words.now (codes "\n") c.push_str.ensures.bytes pushed c.push_str-in-Ok-2.ensures.bytes

pub returns-in-Ok-clause-line : goal.returns-in-Ok-clause-line
returns-in-Ok-clause-line c =
    let words = c.args.words.now in
    let pushed = c.push_str-in-Ok.ensures.bytes ∙ ap (λ (t : List ℕ). c.push_str.new.self.bytes ++ t) c.in-Ok.ensures.cases.0 in (
      Some words,
      (refl, sym c.has_other_byte.ensures ∙ c.if-has_other_byte.false),
      tt,
      pushed-three c.args.text.now.bytes c.args.before.now words (codes "\n") c.push_str.ensures.bytes pushed c.push_str-in-Ok-2.ensures.bytes,
    )

pub returns-in_default-clause-room : goal.returns-in_default-clause-room
returns-in_default-clause-room c = λ printable fits. absurd (c.in_default.ensures.cases.0 (IsUtf8-from_ascii c.args.words.now (plain c.args.words.now printable)))

pub returns-in_default-clause-line : goal.returns-in_default-clause-line
returns-in_default-clause-line c =
    let printable = sym c.has_other_byte.ensures ∙ c.if-has_other_byte.false in
    absurd (c.in_default.ensures.cases.0 (IsUtf8-from_ascii c.args.words.now (plain c.args.words.now printable)))
