-- A space adds a column to a text, whatever stands before it and behind it.
use Rattle.std.proofs.Common.{◌≡◌, ℕ, zero, suc, ◌+◌, List, [], ◌∷◌, ◌++◌, Bool, true, false, not, refl, sym, ap, ◌∙◌, add-one, arith}
use Rattle.std.specs.Prelude.{replicate, if◌then◌else◌}
use Rattle.std.specs.List.{list_all}
use Rattle.std.specs.Str.{IsUtf8, chars}
use Rattle.std.proofs.lemmas.Str.{chars-append}
use Rattle.unicode_width.specs.declared.state.State.{State}
use Rattle.unicode_width.specs.Width.{plain, is_emoji_variation_base, past_emoji, step, Reading, read_before, str_width}
use Rattle.unicode_width.proofs.Computing.{unicode_width}
use Rattle.unicode_width.proofs.Rules.{is_simple, str_width-append_simple}
use Rattle.riichi_game_sheet.specs.Cells.{spaces, width_of}

-- ---- one step back

no_base : is_emoji_variation_base 32 ≡ false
unfolding unicode_width
no_base = refl

past_space : (total : ℕ) (s : State) → past_emoji false 32 total s ≡ (total + 1, plain)
unfolding past_emoji
past_space total s = refl

either_way : (emoji base : Bool) (one other next last : Reading) → base ≡ false → one ≡ last → next ≡ last → (if not emoji then one else if base then other else next) ≡ last
either_way false base one other next last plainly first second = first
either_way true false one other next last plainly first second = second
either_way true true one other next last plainly first second = absurd (cc)

space_step : (r : Reading) → step false 32 r ≡ (r.0 + 1, plain)
unfolding step
space_step (total, s) = either_way s.emoji (is_emoji_variation_base 32) _ _ _ (total + 1, plain) no_base (past_space total s) (past_space total _)

-- ---- texts of characters

read_append : (xs ys : List ℕ) (r : Reading) → read_before false (xs ++ ys) r ≡ read_before false xs (read_before false ys r)
read_append [] ys r = refl
read_append (x ∷ xs) ys r = ap (step false x) (read_append xs ys r)

read_spaces : (n : ℕ) → read_before false (replicate n 32) (0, plain) ≡ (n, plain)
read_spaces zero = refl
read_spaces (suc n) = ap (step false 32) (read_spaces n) ∙ space_step (n, plain) ∙ ap (λ (k : ℕ). (k, plain)) (add-one n)

simple_spaces : (n : ℕ) → list_all is_simple (replicate n 32) ≡ true
simple_spaces zero = refl
simple_spaces (suc n) = simple_spaces n

before_space : (ys : List ℕ) → read_before false (32 ∷ ys) (0, plain) ≡ (str_width false ys + 1, plain)
unfolding str_width
before_space ys = space_step (read_before false ys (0, plain))

wide_spaces : (n : ℕ) → str_width false (replicate n 32) ≡ n
unfolding str_width
wide_spaces n = ap (λ (r : Reading). r.0) (read_spaces n)

-- a text that ends with so many spaces is as wide as one behind whose first space stands what is as wide as the others
same_behind : (xs ys : List ℕ) → str_width false (xs ++ 32 ∷ ys) ≡ str_width false (xs ++ replicate (str_width false ys + 1) 32)
unfolding str_width
same_behind xs ys =
    ap (λ (r : Reading). r.0)
    (read_append xs (32 ∷ ys) (0, plain) ∙ ap (read_before false xs) (before_space ys ∙ sym (read_spaces (str_width false ys + 1)))
    ∙ sym (read_append xs (replicate (str_width false ys + 1) 32) (0, plain)))

wide_around_space : (xs ys : List ℕ) → str_width false (xs ++ 32 ∷ ys) ≡ str_width false xs + (str_width false ys + 1)
wide_around_space xs ys =
    let n = str_width false ys + 1 in
    same_behind xs ys ∙ str_width-append_simple false xs (replicate n 32) (simple_spaces n) ∙ ap (λ (k : ℕ). str_width false xs + k) (wide_spaces n)

wide_behind_space : (ys : List ℕ) → str_width false (32 ∷ ys) ≡ str_width false ys + 1
unfolding str_width
wide_behind_space ys = ap (λ (r : Reading). r.0) (before_space ys)

-- ---- texts of bytes

space_chars : (bs : List ℕ) → chars (32 ∷ bs) ≡ 32 ∷ chars bs
unfolding chars
space_chars [] = refl
space_chars (b ∷ bs) = refl

pub width_behind_space : (bs : List ℕ) → width_of (32 ∷ bs) ≡ width_of bs + 1
width_behind_space bs = ap (str_width false) (space_chars bs) ∙ wide_behind_space (chars bs)

pub width_behind_spaces : (n : ℕ) (bs : List ℕ) → width_of (spaces n ++ bs) ≡ n + width_of bs
width_behind_spaces zero bs = omega arith
width_behind_spaces (suc n) bs =
    let one = width_behind_space (spaces n ++ bs) in
    let others = width_behind_spaces n bs in
    one ∙ omega (arith, others)

pub width_around_space : (text bs : List ℕ) → IsUtf8 text → width_of (text ++ 32 ∷ bs) ≡ width_of text + width_of (32 ∷ bs)
width_around_space text bs is =
    ap (str_width false) (chars-append text (32 ∷ bs) is ∙ ap (λ (cs : List ℕ). chars text ++ cs) (space_chars bs))
    ∙ wide_around_space (chars text) (chars bs) ∙ ap (λ (k : ℕ). width_of text + k) (sym (width_behind_space bs))
