-- One more row of an array of texts that is answered into a room.
use Rattle.std.proofs.Common.{◌≡◌, ℕ, ◌+◌, ◌-◌, ◌<◌, ◌≤◌, min, false, true, List, [], ◌∷◌, ◌++◌, length, length-append, length-drop, take, drop, refl, sym, ap, ◌∙◌, append_assoc, add-one, arith}
use Rattle.std.proofs.lemmas.Bool.Decides.{nat_tests}
use Rattle.std.proofs.lemmas.List.{append-nil, drop-drop, drop_all, take-append-le, take_all}
use Rattle.std.proofs.lemmas.Slice.{drop-append-drop}
use Rattle.std.specs.List.{range_with_len}
use Rattle.std.specs.Prelude.{◌==◌, map, slice_set}
use borrow.Rule.Slice.PartMut.{mid_of, put_mid, put_same}
use Rattle.riichi_arrays.specs.Columns.{IsFilled}
use Rattle.riichi_desk_c.specs.Replies.{reply_to}
use Rattle.riichi_desk_c.specs.Rows.{answer_place, replies_to, row_text}

pub some_there : (n : ℕ) → false ≡ (n == 0) → 0 < n
some_there n is = grind (arith, nat_tests)

pub none_there : (n : ℕ) → true ≡ (n == 0) → n ≡ 0
none_there n is = grind (arith, nat_tests)

pub no_places : (value : ℕ → ℕ) (places : List ℕ) → length places ≡ 0 → IsFilled value (min (0 + 1) (length places)) places places
no_places value [] none = refl
no_places value (place ∷ places) none = absurd (omega (arith, none))

pub first_place : (places : List ℕ) → 0 < length places → slice_set places 0 0 ≡ 0 ∷ drop 1 places
first_place [] some = absurd (omega (arith, some))
first_place (place ∷ places) some = refl

pub so_many : (value : ℕ → ℕ) (rows : ℕ) (before after : List ℕ) → rows ≤ length before → IsFilled value rows before after → IsFilled value (min rows (length before)) before after
so_many value rows before after few is = let same : rows ≡ min rows (length before) = omega arith in is ∙ ap (λ n. map value (range_with_len 0 n) ++ drop n before) same

pub replies_next : (number : ℕ) (bytes offsets : List ℕ) (row : ℕ) → replies_to number bytes offsets (row + 1) ≡ replies_to number bytes offsets row ++ reply_to number (row_text bytes offsets row)
replies_next number bytes offsets row = ap (replies_to number bytes offsets) (add-one row)

pub place_next : (number : ℕ) (bytes offsets : List ℕ) (row : ℕ) → answer_place number bytes offsets (row + 1) ≡ answer_place number bytes offsets row + length (reply_to number (row_text bytes offsets row))
place_next number bytes offsets row = ap length (replies_next number bytes offsets row) ∙ length-append (replies_to number bytes offsets row) (reply_to number (row_text bytes offsets row))

-- a room whose front is filled, and what is behind that
module _ (told before room : List ℕ) (filled k : ℕ) (is : filled ≡ length told) (within : filled ≤ length before) (room_is : room ≡ told ++ drop filled before) (all : k ≡ length room - filled) where
  behind : drop filled room ≡ drop filled before
  behind = ap (drop filled) room_is ∙ drop-append-drop filled before told filled (omega arith) (sym is)

  pub left : mid_of filled k room ≡ drop filled before
  left = take_all k (drop filled room) (omega (arith, length-drop filled room)) ∙ behind

  pub left_long : length (mid_of filled k room) ≡ k
  left_long = ap length left ∙ length-drop filled before ∙ (let same : length before - filled ≡ k = omega (arith, ap length room_is, length-append told (drop filled before), length-drop filled before) in same)

  pub kept_room : (new : List ℕ) → new ≡ mid_of filled k room → put_mid filled k room new ≡ told ++ drop filled before
  kept_room new same = ap (put_mid filled k room) same ∙ put_same filled k room ∙ room_is

  pub longer_room : (new more : List ℕ) → length more ≤ k → new ≡ more ++ drop (length more) (mid_of filled k room) → put_mid filled k room new ≡ (told ++ more) ++ drop (filled + length more) before
  longer_room new more few put =
      let front : take filled room ≡ told = ap (take filled) room_is ∙ take-append-le filled told (drop filled before) (omega arith) ∙ take_all filled told (omega arith) in
      let rest : drop k (drop filled room) ≡ [] = drop_all k (drop filled room) (omega (arith, length-drop filled room)) in
      ap (λ f. f ++ (new ++ drop k (drop filled room))) front ∙ ap (λ r. told ++ (new ++ r)) rest ∙ ap (λ t. told ++ t) (append-nil new ∙ put)
      ∙ ap (λ l. told ++ (more ++ drop (length more) l)) left ∙ ap (λ l. told ++ (more ++ l)) (drop-drop (length more) filled before)
      ∙ sym (append_assoc told more (drop (filled + length more) before))

pub ruleset riichi_answer_rows_facts = (first_place, kept_room, left_long, longer_room, no_places, none_there, place_next, replies_next, so_many, some_there)
