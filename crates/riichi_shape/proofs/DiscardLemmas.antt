-- Discards in the first of fourteen places.
use Rattle.std.proofs.Common.{◌≡◌, ℕ, zero, suc, ◌+◌, ◌-◌, ◌<◌, ◌≤◌, Bool, true, false, cond, List, [], ◌∷◌, ◌++◌, not, set, Option, Some, None, replicate, length, take, drop, refl, sym, ap, ◌∙◌, arith}
use Rattle.std.proofs.lemmas.List.{append-nil, drop_all, length-append, length-drop, length-replicate, length-take-le, set-append_right, take_all}
use Rattle.std.proofs.Math.Seq.{take-append_seam}
use borrow.Rule.Slice.PartMut.{put_mid}
use Rattle.std.proofs.lemmas.Bool.Decides.{nat_tests}
use Rattle.std.specs.Prelude.{nat_le, nat_lt, unwrap_or}
use Rattle.std.specs.List.{position, position_or_len}
use Rattle.riichi_shape.specs.declared.kept_discard.KeptDiscard.{KeptDiscard}
use Rattle.riichi_shape.specs.Discards.{inserted_by}
use Rattle.riichi_shape.specs.KeptDiscards.{AreFirst, gives_way, no_discard, in_fourteen_places}

module _ {A : Type 0} (key : A → ℕ) (item : A) where
  pub inserted_length : (items : List A) → length (inserted_by key item items) ≡ length items + 1
  unfolding inserted_by
  inserted_length [] = omega arith
  inserted_length (next ∷ items) = by_test (nat_le (key next) (key item)) (inserted_by key item items) (inserted_length items)
    where
      by_test : (t : Bool) (rest : List A) → length rest ≡ length items + 1 → length (cond t (item ∷ next ∷ items) (next ∷ rest)) ≡ length (next ∷ items) + 1
      by_test true rest e = omega arith
      by_test false rest e = omega (arith, e)

-- so many free places after the discards
abbrev then_free : List KeptDiscard → ℕ → List KeptDiscard
then_free discards free = discards ++ replicate free no_discard

length_then_free : (discards : List KeptDiscard) (free : ℕ) → length (then_free discards free) ≡ length discards + free
length_then_free discards free = omega (arith, length-append discards (replicate free no_discard), length-replicate free no_discard)

-- all but the last place, which is free
take_free : (discards : List KeptDiscard) (free : ℕ) → take (length discards + free) (then_free discards (suc free)) ≡ then_free discards free
take_free [] zero = refl
take_free [] (suc free) = at_front (0 + suc free) (suc (0 + free)) (omega arith) ∙ ap (λ ps. no_discard ∷ ps) (take_free [] free)
  where
    at_front : (m n : ℕ) → m ≡ n → take m (then_free [] (suc (suc free))) ≡ take n (then_free [] (suc (suc free)))
    at_front m n e = ap (λ k. take k (then_free [] (suc (suc free)))) e
take_free (discard ∷ discards) free = at_front (length (discard ∷ discards) + free) (suc (length discards + free)) (omega arith) ∙ ap (λ ps. discard ∷ ps) (take_free discards free)
  where
    at_front : (m n : ℕ) → m ≡ n → take m (then_free (discard ∷ discards) (suc free)) ≡ take n (then_free (discard ∷ discards) (suc free))
    at_front m n e = ap (λ k. take k (then_free (discard ∷ discards) (suc free))) e

-- the place of the first that gives way
abbrev pub first_place : ℕ → List KeptDiscard → ℕ
first_place live discards = position_or_len (gives_way live) discards

abbrev pub put_in : KeptDiscard → List KeptDiscard → List KeptDiscard
put_in discard discards = inserted_by (λ kept. kept.live) discard discards

pub put_length : (discard : KeptDiscard) (discards : List KeptDiscard) → length (put_in discard discards) ≡ length discards + 1
put_length discard discards = inserted_length (λ (kept : KeptDiscard). kept.live) discard discards

module _ (discard next : KeptDiscard) (discards : List KeptDiscard) (free n place : ℕ) where
  abbrev others : List KeptDiscard
  others = then_free discards (suc free)

  abbrev put_from : ℕ → List KeptDiscard
  put_from k = take k (next ∷ others) ++ discard ∷ take n (drop k (next ∷ others))

  put_next : (t : Bool) → n ≡ suc (length discards) + free - cond (not t) (1 + place) 0 →
      (t ≡ false → take place others ++ discard ∷ take n (drop place others) ≡ then_free (put_in discard discards) free) →
      put_from (cond (not t) (1 + place) 0) ≡ then_free (cond t (discard ∷ next ∷ discards) (next ∷ put_in discard discards)) free
  put_next true e later = ap (λ k. discard ∷ take k (next ∷ others)) count ∙ ap (λ ps. discard ∷ ps) (take_free (next ∷ discards) free)
    where
      count : n ≡ length (next ∷ discards) + free
      count = omega arith
  put_next false e later = ap put_from one_more ∙ ap (λ ps. next ∷ ps) (later refl)
    where
      one_more : 1 + place ≡ suc place
      one_more = omega arith

put_where : (discard : KeptDiscard) (discards : List KeptDiscard) (free n : ℕ) → n ≡ length discards + free - first_place discard.live discards →
    take (first_place discard.live discards) (then_free discards (suc free)) ++ discard ∷ take n (drop (first_place discard.live discards) (then_free discards (suc free))) ≡ then_free (put_in discard discards) free
unfolding inserted_by
put_where discard [] free n e = ap (λ k. discard ∷ take k (then_free [] (suc free))) (count n e) ∙ ap (λ ps. discard ∷ ps) (take_free [] free)
  where
    count : (n : ℕ) → n ≡ length {A = KeptDiscard} [] + free - 0 → n ≡ 0 + free
    count n e = omega (arith, e)
put_where discard (next ∷ discards) free n e =
    put_next discard next discards free n (first_place discard.live discards) (nat_le next.live discard.live) (omega (arith, e))
    (λ less. put_where discard discards free n (omega (arith, e, fewer (nat_le next.live discard.live) (first_place discard.live discards) less)))
  where
    fewer : (t : Bool) (k : ℕ) → t ≡ false → cond (not t) (1 + k) 0 ≡ 1 + k
    fewer true k h = cc
    fewer false k h = refl

-- ---- a discard put in its place

pub first_within : (live : ℕ) (discards : List KeptDiscard) → first_place live discards ≤ length discards
first_within live [] = omega arith
first_within live (next ∷ discards) = by_test (nat_le next.live live) (first_place live discards) (first_within live discards)
  where
    by_test : (t : Bool) (k : ℕ) → k ≤ length discards → cond (not t) (1 + k) 0 ≤ length (next ∷ discards)
    by_test true k h = omega arith
    by_test false k h = omega (arith, h)

-- the place of the first, or the one behind them all
pub found : (live : ℕ) (discards : List KeptDiscard) → unwrap_or (position (gives_way live) discards) (length discards) ≡ first_place live discards
found live discards = by_place (first_place live discards) (length discards) (nat_lt (first_place live discards) (length discards)) refl (first_within live discards)
  where
    by_place : (i n : ℕ) (t : Bool) → nat_lt i n ≡ t → i ≤ n → unwrap_or (cond t (Some i) None) n ≡ i
    by_place i n true e h = refl
    by_place i n false e h = grind (arith, nat_tests)

module _ (places now : List KeptDiscard) (discards : List KeptDiscard) (discard : KeptDiscard) (place n : ℕ) (room : length discards < 14) (placed_are : places ≡ in_fourteen_places discards)
    (place_is : place ≡ first_place discard.live discards) (now_is : now ≡ take place places ++ discard ∷ take n (drop place places)) (n_is : n ≡ 13 - place) where
  abbrev free : ℕ
  free = 13 - length discards

  are_free : places ≡ then_free discards (suc free)
  are_free = placed_are ∙ ap (then_free discards) more
    where
      more : 14 - length discards ≡ suc free
      more = omega arith

  now_free : now ≡ then_free (put_in discard discards) free
  now_free = now_is ∙ ap (λ ps. take place ps ++ discard ∷ take n (drop place ps)) are_free ∙ ap (λ k. take k (then_free discards (suc free)) ++ discard ∷ take n (drop k (then_free discards (suc free)))) place_is
      ∙ put_where discard discards free n (omega (arith, n_is, place_is))

  now_told : (count : ℕ) → count ≡ length discards + 1 → take count now ≡ put_in discard discards
  now_told count is = ap (take count) now_free ∙ ap (λ k. take k (then_free (put_in discard discards) free)) (is ∙ sym (put_length discard discards)) ∙ take-append_seam (put_in discard discards) (replicate free no_discard)

  now_first : (count : ℕ) → count ≡ length discards + 1 → AreFirst count now
  now_first count is = record {
    long = omega (arith, ap length now_free, length_then_free (put_in discard discards) free, put_length discard discards);
    few = omega (arith, is);
    free = now_free ∙ ap (then_free (put_in discard discards)) rest ∙ ap in_fourteen_places (sym (now_told count is));
  }
    where
      rest : free ≡ 14 - length (put_in discard discards)
      rest = omega (arith, put_length discard discards)

-- the discards that are seen are so many
pub seen_are : (count : ℕ) (places seen : List KeptDiscard) → AreFirst count places → take count places ≡ seen → (length seen ≡ count) × (places ≡ in_fourteen_places seen)
seen_are count places seen first view = (omega (arith, ap length view, length-take-le count places (omega (arith, first.few, first.long))), first.free ∙ ap in_fourteen_places view)

module _ (count : ℕ) (places seen : List KeptDiscard) (live place : ℕ) (found_at : Option ℕ) (first : AreFirst count places) (view : take count places ≡ seen)
    (at_is : found_at ≡ position (gives_way live) (take count places)) (place_is : place ≡ unwrap_or found_at count) where
  place_of : place ≡ first_place live seen
  place_of =
      place_is ∙ ap (λ o. unwrap_or o count) at_is ∙ ap (λ ks. unwrap_or (position (gives_way live) ks) count) view
      ∙ ap (unwrap_or (position (gives_way live) seen)) (sym ((seen_are count places seen first view).0)) ∙ found live seen

  pub place_within : place ≤ count
  place_within = omega (arith, place_of, first_within live seen, (seen_are count places seen first view).0)

  -- with a discard put at the place that was found
  pub put_first : (discard : KeptDiscard) (now : List KeptDiscard) → live ≡ discard.live → length seen < 14 → now ≡ take place places ++ discard ∷ take (length places - 1 - place) (drop place places) → AreFirst (count + 1) now × (take (count + 1) now ≡ put_in discard seen)
  put_first discard now live_is room now_is =
      let are = seen_are count places seen first view in
      let at = place_of ∙ ap (λ l. first_place l seen) live_is in
      let rest : length places - 1 - place ≡ 13 - place = omega (arith, first.long) in
      let more : count + 1 ≡ length seen + 1 = omega (arith, are.0) in (
        now_first places now seen discard place (length places - 1 - place) room are.1 at now_is rest (count + 1) more,
        now_told places now seen discard place (length places - 1 - place) room are.1 at now_is rest (count + 1) more,
      )

-- ---- a part of a slice turned by one

module _ {A : Type 0} where
  set_first : (u v : List A) (d : A) → length u ≡ 1 → set (u ++ v) 0 d ≡ d ∷ v
  set_first [] v d one = absurd (omega arith)
  set_first (x ∷ []) v d one = refl
  set_first (x ∷ y ∷ u) v d one = absurd (omega arith)

pub put_turned : {A : Type 0} (xs ys : List A) (place n : ℕ) (d : A) → place < length xs → n ≡ length xs - place → (let q = take n (drop place xs) in ys ≡ drop (length q - 1) q ++ take (length q - 1) q) →
    set (put_mid place n xs ys) place d ≡ take place xs ++ d ∷ take (length xs - 1 - place) (drop place xs)
put_turned {A} xs ys place n d inside n_is turned =
    ap (λ zs. set (take place xs ++ zs) place d) (ap (λ r. ys ++ r) none_after ∙ append-nil ys ∙ turned ∙ ap (λ q. drop (length q - 1) q ++ take (length q - 1) q) whole)
    ∙ set-append_right (take place xs) (last ++ others) place place d (length-take-le place xs (omega arith)) (omega arith)
    ∙ ap (λ k. take place xs ++ set (last ++ others) k d) at_first ∙ ap (λ zs. take place xs ++ zs) (set_first last others d last_one) ∙ ap (λ k. take place xs ++ d ∷ take k (drop place xs)) count
  where
    long : length (drop place xs) ≡ length xs - place
    long = length-drop place xs

    none_after : drop n (drop place xs) ≡ []
    none_after = drop_all n (drop place xs) (omega (arith, long))

    whole : take n (drop place xs) ≡ drop place xs
    whole = take_all n (drop place xs) (omega (arith, long))

    last : List A
    last = drop (length (drop place xs) - 1) (drop place xs)

    others : List A
    others = take (length (drop place xs) - 1) (drop place xs)

    last_one : length last ≡ 1
    last_one = omega (arith, long, length-drop (length (drop place xs) - 1) (drop place xs))

    at_first : place - place ≡ 0
    at_first = omega arith

    count : length (drop place xs) - 1 ≡ length xs - 1 - place
    count = omega (arith, long)
