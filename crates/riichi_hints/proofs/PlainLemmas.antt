-- A plain line, byte by byte.
use Rattle.std.proofs.Common.{◌≡◌, ◌∙◌, ℕ, ◌+◌, ◌-◌, ◌<◌, ◌≤◌, List, [], ◌∷◌, ◌++◌, Bool, true, length, get_or, refl, sym, ap, arith, append_assoc, length-append}
use Rattle.std.specs.Prelude.{not}
use Rattle.std.proofs.lemmas.Bool.{and_parts}
use Rattle.std.proofs.Math.Seq.{get_or-append_seam}
use Rattle.riichi_hints.proofs.NearLemmas.{rest, rest_is}
use Rattle.riichi_hints.specs.Plain.{begins_mark, stays_plain, is_plain_behind}

abbrev last_of : List ℕ → ℕ
last_of text = get_or text (length text - 1) 0

last_is : (text : List ℕ) (byte : ℕ) → last_of (text ++ byte ∷ []) ≡ byte
last_is text byte =
    let parts = length-append text (byte ∷ []) in
    let at : length (text ++ byte ∷ []) - 1 ≡ length text = omega (arith, parts) in
    ap (λ (place : ℕ). get_or (text ++ byte ∷ []) place 0) at ∙ get_or-append_seam text byte [] 0

-- one byte more
plain_more : (old one new : List ℕ) (byte : ℕ) (rest : List ℕ) → is_plain_behind (last_of old) (byte ∷ rest) ≡ true → length old + length (byte ∷ rest) ≤ 512
    → (stays_plain (last_of old) byte ≡ true → length old < 512 → one ≡ old ++ byte ∷ [])
    → (is_plain_behind (last_of one) rest ≡ true → length one + length rest ≤ 512 → new ≡ one ++ rest)
    → new ≡ old ++ byte ∷ rest
plain_more old one new byte rest is few adds goes_on =
    let parts = and_parts (not (begins_mark (byte ∷ rest))) _ is in
    let both = and_parts (stays_plain (last_of old) byte) (is_plain_behind byte rest) parts.1 in
    let added : one ≡ old ++ byte ∷ [] = adds both.0 (omega (arith, few)) in
    let last : last_of one ≡ byte = ap last_of added ∙ last_is old byte in
    let long = ap length added in
    let whole = length-append old (byte ∷ []) in
    goes_on (ap (λ (before : ℕ). is_plain_behind before rest) last ∙ both.1) (omega (arith, few, long, whole))
    ∙ (ap (λ (text : List ℕ). text ++ rest) added ∙ append_assoc old (byte ∷ []) rest)

-- the same of a text by its places
pub plain_more_at : (old one new line : List ℕ) → 0 < length line → is_plain_behind (last_of old) line ≡ true → length old + length line ≤ 512
    → (stays_plain (last_of old) (get_or line 0 0) ≡ true → length old < 512 → one ≡ old ++ get_or line 0 0 ∷ [])
    → (is_plain_behind (last_of one) (rest line) ≡ true → length one + length (rest line) ≤ 512 → new ≡ one ++ rest line)
    → new ≡ old ++ line
plain_more_at old one new [] some is few adds goes_on = absurd (omega arith)
plain_more_at old one new (byte ∷ after) some is few adds goes_on =
    plain_more old one new byte after is few adds (rw (rest_is byte after) at goes_on)
