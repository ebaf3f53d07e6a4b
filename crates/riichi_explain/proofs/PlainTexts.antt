-- Texts without a line feed, and lines that begin with two spaces.
use Rattle.std.proofs.Common.{◌≡◌, ℕ, zero, suc, ◌+◌, ◌<◌, ◌%◌, ◌/◌, List, [], ◌∷◌, ◌++◌, Bool, true, false, cond, nat_eq, nat_lt, map, replicate, refl, ap, ◌∙◌, arith}
use Rattle.std.specs.Prelude.{not, ◌&&◌, codes, decimal}
use Rattle.std.specs.Fmt.{digits, digits_onto, digit_glyph}
use Rattle.std.specs.List.{list_all, flat_map}
use Rattle.std.proofs.lemmas.Bool.{ne_eqb, and_parts}
use Rattle.std.proofs.lemmas.List.Folds.{list_all-append}
use Rattle.riichi_tiles.specs.Printing.{tiles_text, group}
use Rattle.riichi_tiles.specs.Printing as printing
use Rattle.riichi_text.specs.Lists.{joined}
use Rattle.riichi_text.specs.Tiles.{kind_text, letter_of}
use Rattle.riichi_text.proofs.Letters.{letter_high}
use Rattle.riichi_yaku.specs.declared.table.Yaku.{Yaku}
use Rattle.riichi_yaku.specs.declared.table.Yaku.TheVariants.{Riichi}
use Rattle.riichi_names.specs.Names.{japanese, is_japanese, name_beside, named}
use Rattle.riichi_yaku.specs.Table.{word}

abbrev pub plain : List ℕ → Bool
plain text = list_all (λ byte. not (nat_eq byte 10)) text

pub after : (text rest : List ℕ) → plain text ≡ true → plain rest ≡ true → plain (text ++ rest) ≡ true
after text rest p q = list_all-append (λ byte. not (nat_eq byte 10)) text rest ∙ ap (λ b. b && plain rest) p ∙ q

pub after3 : (a b c : List ℕ) → plain a ≡ true → plain b ≡ true → plain c ≡ true → plain (a ++ b ++ c) ≡ true
after3 a b c p q r = after (a ++ b) c (after a b p q) r

pub after4 : (a b c d : List ℕ) → plain a ≡ true → plain b ≡ true → plain c ≡ true → plain d ≡ true → plain (a ++ b ++ c ++ d) ≡ true
after4 a b c d p q r s = after (a ++ b ++ c) d (after3 a b c p q r) s

pub after5 : (a b c d e : List ℕ) → plain a ≡ true → plain b ≡ true → plain c ≡ true → plain d ≡ true → plain e ≡ true → plain (a ++ b ++ c ++ d ++ e) ≡ true
after5 a b c d e p q r s t = after (a ++ b ++ c ++ d) e (after4 a b c d p q r s) t

pub byte-plain : (byte : ℕ) (rest : List ℕ) → 10 < byte → plain rest ≡ true → plain (byte ∷ rest) ≡ true
byte-plain byte rest big p = rw (ne_eqb byte 10 (λ same. omega (arith, same, big))) p

pub flat_map-plain : {X : Type 0} (f : X → List ℕ) (xs : List X) → ((x : X) → plain (f x) ≡ true) → plain (flat_map f xs) ≡ true
flat_map-plain f [] p = refl
flat_map-plain f (x ∷ xs) p = after (f x) (flat_map f xs) (p x) (flat_map-plain f xs p)

-- a list of plain texts
pub joined-plain : {X : Type 0} (separator : List ℕ) (text : X → List ℕ) (xs : List X) → plain separator ≡ true → ((x : X) → plain (text x) ≡ true) → plain (joined separator (map text xs)) ≡ true
joined-plain separator text [] p q = refl
joined-plain separator text (x ∷ xs) p q = after (text x) (flat_map (λ next. separator ++ next) (map text xs)) (q x) (later xs)
  where
    later : (ys : List _) → plain (flat_map (λ next. separator ++ next) (map text ys)) ≡ true
    later [] = refl
    later (y ∷ ys) = after (separator ++ text y) (flat_map (λ next. separator ++ next) (map text ys)) (after separator (text y) p (q y)) (later ys)

-- ---- numbers

glyph_big : (d : ℕ) → 10 < digit_glyph false d
glyph_big d = elim (nat_lt d 10) as (λ test. 10 < cond test (48 + d) (87 + d)) [ true ↦ omega arith | false ↦ omega arith ]

digits_onto-plain : (k n : ℕ) (acc : List ℕ) → plain acc ≡ true → plain (digits_onto k 10 false n acc) ≡ true
digits_onto-plain zero n acc p = p
digits_onto-plain (suc k) n acc p =
    let digit = digit_glyph false (n % 10) in
    let more = byte-plain digit acc (glyph_big (n % 10)) p in
    elim (nat_eq (n / 10) 0) as (λ test. plain (cond test (digit ∷ acc) (digits_onto k 10 false (n / 10) (digit ∷ acc))) ≡ true)
    [ true ↦ more | false ↦ digits_onto-plain k (n / 10) (digit ∷ acc) more ]

pub decimal-plain : (n : ℕ) → plain (decimal n) ≡ true
unfolding digits
decimal-plain n = digits_onto-plain 64 n [] refl

-- ---- tiles

pub kind_text-plain : (kind : ℕ) → plain (kind_text kind) ≡ true
kind_text-plain kind = byte-plain (49 + kind % 9) (letter_of kind ∷ []) (omega arith) (byte-plain (letter_of kind) [] (omega (arith, letter_high kind)) refl)

pub replicate-plain : (n byte : ℕ) → 10 < byte → plain (replicate n byte) ≡ true
replicate-plain zero byte big = refl
replicate-plain (suc n) byte big = byte-plain byte (replicate n byte) big (replicate-plain n byte big)

digits-plain : (copies : ℕ → ℕ) (first numbers : ℕ) → plain (printing.digits copies first numbers) ≡ true
unfolding printing.digits
digits-plain copies first zero = refl
digits-plain copies first (suc number) = after (printing.digits copies first number) (replicate (copies (first + number)) (49 + number)) (digits-plain copies first number)
    (replicate-plain (copies (first + number)) (49 + number) (omega arith))

group-plain : (bytes : List ℕ) (letter : ℕ) → 10 < letter → plain bytes ≡ true → plain (group bytes letter) ≡ true
group-plain [] letter big p = refl
group-plain (byte ∷ rest) letter big p = after (byte ∷ rest) (letter ∷ []) p (byte-plain letter [] big refl)

pub tiles_text-plain : (copies : ℕ → ℕ) → plain (tiles_text copies) ≡ true
unfolding tiles_text
tiles_text-plain copies =
    let m = printing.digits copies 0 9 in
    let p = printing.digits copies 9 9 in
    let s = printing.digits copies 18 9 in
    let z = printing.digits copies 27 7 in
    after4 (group m 109) (group p 112) (group s 115) (group z 122) (group-plain m 109 (omega arith) (digits-plain copies 0 9)) (group-plain p 112 (omega arith) (digits-plain copies 9 9))
    (group-plain s 115 (omega arith) (digits-plain copies 18 9)) (group-plain z 122 (omega arith) (digits-plain copies 27 7))

-- ---- the words of the yaku

pub word-plain : (yaku : Yaku) → plain (word yaku) ≡ true
word-plain Riichi = refl
word-plain other = refl

japanese-plain : (yaku : Yaku) → plain (japanese yaku) ≡ true
japanese-plain Riichi = refl
japanese-plain other = refl

name_beside-plain : (yaku : Yaku) → plain (name_beside yaku) ≡ true
unfolding name_beside
name_beside-plain yaku = after3 (codes " (") (japanese yaku) (codes ")") refl (japanese-plain yaku) refl

pub either-plain : (test : Bool) (a b : List ℕ) → plain a ≡ true → plain b ≡ true → plain (cond test a b) ≡ true
either-plain true a b p q = p
either-plain false a b p q = q

-- a word with its name in brackets
pub named-plain : (yaku : Yaku) → plain (named yaku) ≡ true
unfolding named
named-plain yaku =
    either-plain (is_japanese yaku) (word yaku) (word yaku ++ name_beside yaku) (word-plain yaku) (after (word yaku) (name_beside yaku) (word-plain yaku) (name_beside-plain yaku))

-- ---- lines that begin with two spaces, each with its line feed

-- a text of such lines, from the beginning of one, and from within one
abbrev pub within : Bool → List ℕ → Bool
within starts [] = starts
within true (byte ∷ []) = false
within true (byte ∷ next ∷ text) = nat_eq byte 32 && (nat_eq next 32 && within false text)
within false (byte ∷ text) = within (nat_eq byte 10) text

abbrev pub are_indented : List ℕ → Bool
are_indented text = within true text

-- what has no line feed stays within the line
pub pass : (text rest : List ℕ) → plain text ≡ true → within false (text ++ rest) ≡ within false rest
pass [] rest p = refl
pass (byte ∷ text) rest p =
    let parts = and_parts (not (nat_eq byte 10)) (plain text) p in
    ap (λ feed. within feed (text ++ rest)) (not_true (nat_eq byte 10) parts.0) ∙ pass text rest parts.1
  where
    not_true : (b : Bool) → not b ≡ true → b ≡ false
    not_true true p = cc
    not_true false p = refl

-- lines after lines
pub within-append : (starts : Bool) (text more : List ℕ) → within starts text ≡ true → are_indented more ≡ true → within starts (text ++ more) ≡ true
within-append true [] more p q = q
within-append false [] more p q = cc
within-append true (byte ∷ []) more p q = cc
within-append true (byte ∷ next ∷ text) more p q =
    let first = and_parts (nat_eq byte 32) (nat_eq next 32 && within false text) p in
    let second = and_parts (nat_eq next 32) (within false text) first.1 in
    rw (first.0, second.0) (within-append false text more second.1 q)
within-append false (byte ∷ text) more p q = within-append (nat_eq byte 10) text more p q

pub lines-append : (text more : List ℕ) → are_indented text ≡ true → are_indented more ≡ true → are_indented (text ++ more) ≡ true
lines-append text more p q = within-append true text more p q

pub flat_map-lines : {X : Type 0} (f : X → List ℕ) (xs : List X) → ((x : X) → are_indented (f x) ≡ true) → are_indented (flat_map f xs) ≡ true
flat_map-lines f [] p = refl
flat_map-lines f (x ∷ xs) p = lines-append (f x) (flat_map f xs) (p x) (flat_map-lines f xs p)
