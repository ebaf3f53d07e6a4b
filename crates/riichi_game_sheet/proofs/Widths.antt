-- A row takes 80 columns.
use Rattle.std.proofs.Common.{◌≡◌, ℕ, zero, suc, ◌+◌, ◌-◌, ◌≤◌, List, [], ◌∷◌, ◌++◌, take, Bool, true, false, ◌⊎◌, inl, inr, refl, sym, ap, subst, ◌∙◌, arith, append_assoc, append-nil}
use Rattle.std.specs.Prelude.{nat_le, ◌&&◌, if◌then◌else◌}
use Rattle.std.specs.List.{list_all}
use Rattle.std.specs.Str.{IsUtf8, chars, is_utf8}
use Rattle.std.proofs.lemmas.Bool.{and_parts}
use Rattle.std.proofs.lemmas.Bool.Decides.{nat_tests}
use Rattle.std.proofs.lemmas.Str.{IsUtf8-from_is_utf8, IsUtf8-append, IsUtf8-nil, chars-append, chars-nil}
use Rattle.unicode_width.specs.Width.{str_width}
use Rattle.unicode_width.proofs.Computing.{unicode_width}
use Rattle.unicode_width.proofs.Rules.{is_simple, str_width-append_simple, str_width-printable}
use Rattle.riichi_table.specs.declared.player.Player.{Player}
use Rattle.riichi_table.specs.declared.player.Player.TheVariants.{First, Second, Third, Fourth}
use Rattle.riichi_game_sheet.specs.Cells.{spaces, width_of, fits_in, front_within, front, ellipsis, cut, left_cell, right_cell}
use Rattle.riichi_game_sheet.specs.Laws.{RowsTakeEightyColumns}
use Rattle.riichi_game_sheet.specs.declared.rows.TheConstants.{LABEL, TOLD, COLUMN}
use Rattle.riichi_game_sheet.proofs.Spaces.{width_behind_space, width_behind_spaces, width_around_space}

-- a text that takes so many columns at most
record IsWithin (columns : ℕ) (bytes : List ℕ) : Type 0 where
  is_text : IsUtf8 bytes
  within : width_of bytes ≤ columns

-- ---- what is cut

nothing_wide : width_of [] ≡ 0
nothing_wide = ap (str_width false) chars-nil ∙ str_width-printable false [] refl

fitting : (columns : ℕ) (bytes : List ℕ) → fits_in columns bytes ≡ true → IsWithin columns bytes
unfolding fits_in
fitting columns bytes is =
    let parts = and_parts (is_utf8 bytes) (nat_le (width_of bytes) columns) is in
    record { is_text = IsUtf8-from_is_utf8 bytes parts.0; within = grind (arith, nat_tests, parts.1) }

front_is_within : (columns : ℕ) (text : List ℕ) (n : ℕ) → IsWithin columns (front_within columns text n)
unfolding front_within
front_is_within columns text zero = record { is_text = IsUtf8-nil; within = omega (arith, nothing_wide) }
front_is_within columns text (suc n) = by_test (fits_in columns (take (suc n) text)) refl (front_is_within columns text n)
  where
    by_test : (does : Bool) → fits_in columns (take (suc n) text) ≡ does → IsWithin columns (front_within columns text n)
        → IsWithin columns (if does then take (suc n) text else front_within columns text n)
    by_test true is shorter = fitting columns (take (suc n) text) is
    by_test false is shorter = shorter

ellipsis_chars : chars ellipsis ≡ 0x2026 ∷ []
unfolding unicode_width
ellipsis_chars = refl

ellipsis_text : is_utf8 ellipsis ≡ true
unfolding unicode_width is_utf8
ellipsis_text = refl

ellipsis_wide : str_width false (0x2026 ∷ []) ≡ 1
unfolding unicode_width
ellipsis_wide = refl

ellipsis_simple : list_all is_simple (0x2026 ∷ []) ≡ true
unfolding unicode_width
ellipsis_simple = refl

width_before_ellipsis : (text : List ℕ) → IsUtf8 text → width_of (text ++ ellipsis) ≡ width_of text + 1
width_before_ellipsis text is =
    ap (str_width false) (chars-append text ellipsis is ∙ ap (λ (cs : List ℕ). chars text ++ cs) ellipsis_chars)
    ∙ str_width-append_simple false (chars text) (0x2026 ∷ []) ellipsis_simple ∙ ap (λ (k : ℕ). width_of text + k) ellipsis_wide

cut_is_within : (columns : ℕ) (text : List ℕ) → 1 ≤ columns → is_utf8 text ≡ true → IsWithin columns (cut columns text)
unfolding cut
cut_is_within columns text some is = by_test (nat_le (width_of text) columns) refl
  where
    by_test : (does : Bool) → nat_le (width_of text) columns ≡ does → IsWithin columns (if does then text else front (columns - 1) text ++ ellipsis)
    by_test true fit = record { is_text = IsUtf8-from_is_utf8 text is; within = grind (arith, nat_tests, fit) }
    by_test false wide =
        let before = front_is_within (columns - 1) text _ in
        record {
          is_text = IsUtf8-append (front (columns - 1) text) ellipsis before.is_text (IsUtf8-from_is_utf8 ellipsis ellipsis_text);
          within = omega (arith, some, before.within, width_before_ellipsis (front (columns - 1) text) before.is_text);
        }

-- ---- cells before other texts

-- nothing, or a space and more
abbrev Begins : List ℕ → Type 0
Begins [] = Unit {0}
Begins (b ∷ bs) = b ≡ 32

spaces_begin : (n : ℕ) (bs : List ℕ) → 1 ≤ n → Begins (spaces n ++ bs)
spaces_begin zero bs some = absurd (omega (arith, some))
spaces_begin (suc n) bs some = refl

around : (text rest : List ℕ) (n : ℕ) → IsUtf8 text → 1 ≤ n → width_of ((text ++ spaces n) ++ rest) ≡ width_of text + (n + width_of rest)
around text rest zero is some = absurd (omega (arith, some))
around text rest (suc n) is some =
    ap width_of (append_assoc text (spaces (suc n)) rest) ∙ width_around_space text (spaces n ++ rest) is
    ∙ ap (λ (k : ℕ). width_of text + k) (width_behind_spaces (suc n) rest)

beside : (text rest : List ℕ) → IsUtf8 text → Begins rest → width_of (text ++ rest) ≡ width_of text + width_of rest
beside text [] is begins = let same = ap width_of (append-nil text) in omega (arith, same, nothing_wide)
beside text (b ∷ bs) is begins =
    subst (λ (k : ℕ). width_of (text ++ k ∷ bs) ≡ width_of text + width_of (k ∷ bs)) (sym begins) (width_around_space text bs is)

left_takes : (columns : ℕ) (text rest : List ℕ) → 2 ≤ columns → is_utf8 text ≡ true → width_of (left_cell columns text ++ rest) ≡ columns + width_of rest
unfolding left_cell
left_takes columns text rest some is =
    let told = cut (columns - 1) text in
    let of_cut = cut_is_within (columns - 1) text (omega (arith, some)) is in
    let within = of_cut.within in
    let all = around told rest (columns - width_of told) of_cut.is_text (omega (arith, some, within)) in
    omega (arith, some, within, all)

right_takes : (columns : ℕ) (text rest : List ℕ) → 2 ≤ columns → is_utf8 text ≡ true → Begins rest → width_of (right_cell columns text ++ rest) ≡ columns + width_of rest
unfolding right_cell
right_takes columns text rest some is begins =
    let told = cut (columns - 1) text in
    let of_cut = cut_is_within (columns - 1) text (omega (arith, some)) is in
    let within = of_cut.within in
    let n = columns - width_of told in
    let grouped = ap width_of (append_assoc (spaces n) told rest) in
    let behind = width_behind_spaces n (told ++ rest) in
    let both = beside told rest of_cut.is_text begins in
    omega (arith, some, within, grouped, behind, both)

right_begins : (columns : ℕ) (text rest : List ℕ) → 2 ≤ columns → is_utf8 text ≡ true → Begins (right_cell columns text ++ rest)
unfolding right_cell
right_begins columns text rest some is =
    let told = cut (columns - 1) text in
    let within = (cut_is_within (columns - 1) text (omega (arith, some)) is).within in
    let n = columns - width_of told in
    subst Begins (sym (append_assoc (spaces n) told rest)) (spaces_begin n (told ++ rest) (omega (arith, some, within)))

-- ---- rows

regroup : (a b c d e f : List ℕ) → (a ++ b) ++ (((c ++ d) ++ e) ++ f) ≡ a ++ (b ++ (c ++ (d ++ (e ++ (f ++ [])))))
regroup a b c d e f = simp (append_assoc, append-nil)

pub rows_take_eighty_columns : RowsTakeEightyColumns
rows_take_eighty_columns label told cell label_is told_is cell_is =
    let right = λ (player : Player). right_cell COLUMN (cell player) in
    let fourth = right Fourth ++ [] in
    let third = right Third ++ fourth in
    let second = right Second ++ third in
    let first = right First ++ second in
    let four = right_takes COLUMN (cell Fourth) [] (omega arith) (cell_is Fourth) tt in
    let three = right_takes COLUMN (cell Third) fourth (omega arith) (cell_is Third) (right_begins COLUMN (cell Fourth) [] (omega arith) (cell_is Fourth)) in
    let two = right_takes COLUMN (cell Second) third (omega arith) (cell_is Second) (right_begins COLUMN (cell Third) fourth (omega arith) (cell_is Third)) in
    let one = right_takes COLUMN (cell First) second (omega arith) (cell_is First) (right_begins COLUMN (cell Second) third (omega arith) (cell_is Second)) in
    let behind = left_takes TOLD told first (omega arith) told_is in
    let whole = left_takes LABEL label (left_cell TOLD told ++ first) (omega arith) label_is in
    let grouped = ap width_of (regroup (left_cell LABEL label) (left_cell TOLD told) (right First) (right Second) (right Third) (right Fourth)) in
    omega (arith, grouped, whole, behind, one, two, three, four, nothing_wide)
