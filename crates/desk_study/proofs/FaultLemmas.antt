-- A refusal's object without the brace that begins it.
use Rattle.std.proofs.Common.{◌≡◌, ℕ, ◌<◌, List, ◌∷◌, ◌++◌, drop, length, take, refl, sym, ap, ◌∙◌, arith}
use Rattle.std.proofs.lemmas.Str.{encode_ascii, encode_same}
use Rattle.std.specs.Prelude.{encode_utf8}
use Rattle.riichi_hand.specs.declared.fault.LineFault.{LineFault}
use Rattle.riichi_hand.specs.declared.fault.LineFault.TheVariants.{Line, Notation}
use Rattle.desk_json.specs.Parts.{code_json}

begins : (fault : LineFault) → code_json fault ≡ 123 ∷ drop 1 (code_json fault)
unfolding code_json
begins (Line code) = refl
begins (Notation name fault) = refl

pub has_brace : (object : List ℕ) (fault : LineFault) → object ≡ code_json fault → 0 < length object
has_brace object fault is = omega (arith, ap length (is ∙ begins fault))

pub without_brace : (c : ℕ) (object rest after : List ℕ) (fault : LineFault) → object ≡ code_json fault → drop 0 object ≡ encode_utf8 c ++ rest → after ≡ take 0 object ++ rest → after ≡ drop 1 (code_json fault)
without_brace c object rest after fault is removed left = left ∙ (encode_same c 123 rest (drop 1 (code_json fault)) (sym removed ∙ is ∙ begins fault ∙ ap (λ (e : List ℕ). e ++ drop 1 (code_json fault)) (sym (encode_ascii 123 (omega arith))))).1
