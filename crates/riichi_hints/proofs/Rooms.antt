-- What is added to a text of limited length, where there is room for the whole.
use Rattle.std.proofs.Common.{◌≡◌, ◌∙◌, ◌≤◌, ◌+◌, ◌++◌, ℕ, List, length, ap, append_assoc, arith, length-append}

-- one part more
pub part_more : (room : ℕ) (text new given bytes rest whole : List ℕ) → given ≡ bytes → (length text + length given ≤ room → new ≡ text ++ given) → text ++ (bytes ++ rest) ≡ whole → length whole ≤ room → new ++ rest ≡ whole
part_more room text new given bytes rest whole same adds is fits =
    let all = ap length is in
    let one = length-append text (bytes ++ rest) in
    let two = length-append bytes rest in
    let as_long = ap length same in
    ap (λ (t : List ℕ). t ++ rest) (adds (omega (arith, all, one, two, as_long, fits)) ∙ ap (λ (b : List ℕ). text ++ b) same) ∙ append_assoc text bytes rest ∙ is

-- of two parts
pub two_parts : (room : ℕ) (old one new a b : List ℕ)
    → (length old + length a ≤ room → one ≡ old ++ a) → (length one + length b ≤ room → new ≡ one ++ b)
    → length old + length (a ++ b) ≤ room → new ≡ old ++ (a ++ b)
two_parts room old one new a b first second fits =
    let parts = length-append a b in
    let is = first (omega (arith, parts, fits)) in
    let as_long = ap length is in
    let whole = length-append old a in
    second (omega (arith, as_long, whole, parts, fits)) ∙ (ap (λ (t : List ℕ). t ++ b) is ∙ append_assoc old a b)

-- of three
pub three_parts : (room : ℕ) (old one two new a b c : List ℕ)
    → (length old + length a ≤ room → one ≡ old ++ a) → (length one + length b ≤ room → two ≡ one ++ b) → (length two + length c ≤ room → new ≡ two ++ c)
    → length old + length (a ++ (b ++ c)) ≤ room → new ≡ old ++ (a ++ (b ++ c))
three_parts room old one two new a b c first second third = two_parts room old one new a (b ++ c) first (two_parts room one two new b c second third)

-- of four
pub four_parts : (room : ℕ) (old one two three new a b c d : List ℕ)
    → (length old + length a ≤ room → one ≡ old ++ a) → (length one + length b ≤ room → two ≡ one ++ b) → (length two + length c ≤ room → three ≡ two ++ c)
    → (length three + length d ≤ room → new ≡ three ++ d)
    → length old + length (a ++ (b ++ (c ++ d))) ≤ room → new ≡ old ++ (a ++ (b ++ (c ++ d)))
four_parts room old one two three new a b c d first second third fourth = two_parts room old one new a (b ++ (c ++ d)) first (three_parts room one two three new b c d second third fourth)
