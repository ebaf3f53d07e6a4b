-- What is told of discards, one by one.
use Rattle.std.proofs.Common.{◌≡◌, ◌≢◌, ℕ, zero, suc, ◌-◌, ◌<◌, ℤ, Bool, true, false, cond, Option, Some, None, List, [], ◌∷◌, map, drop, refl, subst, sym, ap, ◌∙◌, inl, inr, eq-eqb, arith}
use Rattle.std.proofs.lemmas.Bool.{cases_eq, cases_lt}
use Rattle.std.proofs.lemmas.Bool.Decides.{nat_tests}
use Rattle.std.specs.Prelude.{◌==◌, ◌||◌, nat_lt, slice_get, slice_set}
use Rattle.std.specs.Option.{option_map}
use Rattle.riichi_shape.specs.KeptDiscards.{kinds_in, short_of}
use Rattle.riichi_shape.specs.LiveCopies.{copies_in, live_in}
use Rattle.riichi_shape.specs.declared.discard.Discard.{Discard}
use Rattle.riichi_shape.specs.declared.discard.ShortDiscard.{ShortDiscard}
use Rattle.riichi_tiles.specs.HeldKinds.{is_held, kinds_where, with_kind}
use Rattle.riichi_tiles.specs.Melds.{every_kind}
use Rattle.riichi_tiles.proofs.KindSets.{none_at, past_at, same_members, same_set, where_at, where_low, with_kind_other, with_kind_same}
use Rattle.riichi_arrays.specs.Columns.{accepted_after, discards_row, has_discard}
use Rattle.riichi_arrays.specs.Hands.{no_tiles}
use Rattle.riichi_arrays.specs.declared.discard_columns.DiscardsRow.{DiscardsRow}
use Rattle.riichi_arrays.proofs.ColumnLemmas.{put_kind}

pub same_row : {shanten s : ℤ} {kinds k : ℕ} {accepts a live l : List ℕ} → shanten ≡ s → kinds ≡ k → accepts ≡ a → live ≡ l →
    ◌≡◌ {A = DiscardsRow} (record { shanten = shanten; kinds = kinds; accepts = accepts; live = live }) (record { shanten = s; kinds = k; accepts = a; live = l })
same_row first second third fourth = cc

-- ---- no discard

no_kinds : (test : ℕ → Bool) → ((kind : ℕ) → test kind ≡ false) → 0 ≡ kinds_where test
no_kinds test none = same_members 34 0 (kinds_where test) (omega arith) (where_low test) (λ kind inside. none_at kind ∙ sym (none kind) ∙ sym (where_at test kind inside))

pub none_told : (shanten s : ℤ) (kinds : ℕ) → s ≡ shanten → kinds ≡ 0 → ◌≡◌ {A = DiscardsRow} (record { shanten = s; kinds = kinds; accepts = no_tiles; live = no_tiles }) (discards_row shanten [])
none_told shanten s kinds same none =
    same_row same (none ∙ no_kinds (has_discard []) (λ kind. refl)) (ap (λ n. map (λ (kind : ℕ). n) every_kind) (no_kinds (λ kind. nat_lt 0 (copies_in [] kind)) (λ kind. refl))) refl

-- ---- one more

apart_test : (a b : ℕ) → b ≢ a → (a == b) ≡ false
apart_test a b apart = grind (arith, nat_tests)

module _ (discard : Discard) (rest : List Discard) (low : discard.kind < 34) where
  here : (discard.kind == discard.kind) ≡ true
  here = eq-eqb discard.kind discard.kind refl

  kinds_more : kinds_where (has_discard (discard ∷ rest)) ≡ with_kind (kinds_where (has_discard rest)) discard.kind
  kinds_more = same_set (kinds_where (has_discard (discard ∷ rest))) (with_kind (kinds_where (has_discard rest)) discard.kind) each
    where
      after : (kind : ℕ) → kind ≢ discard.kind → is_held (kinds_where (has_discard (discard ∷ rest))) kind ≡ is_held (kinds_where (has_discard rest)) kind
      after kind apart = elim (cases_lt kind 34) [
        | inl inside ↦ where_at (has_discard (discard ∷ rest)) kind inside ∙ ap (λ b. b || has_discard rest kind) (apart_test discard.kind kind apart) ∙ sym (where_at (has_discard rest) kind inside)
        | inr past ↦ past_at (kinds_where (has_discard (discard ∷ rest))) kind (where_low (has_discard (discard ∷ rest))) past ∙ sym (past_at (kinds_where (has_discard rest)) kind (where_low (has_discard rest)) past)
      ]

      each : (kind : ℕ) → is_held (kinds_where (has_discard (discard ∷ rest))) kind ≡ is_held (with_kind (kinds_where (has_discard rest)) discard.kind) kind
      each kind = elim (cases_eq kind discard.kind) [
        | inl same ↦ ap (is_held (kinds_where (has_discard (discard ∷ rest)))) same ∙ where_at (has_discard (discard ∷ rest)) discard.kind low ∙ ap (λ b. b || has_discard rest discard.kind) here
            ∙ sym (with_kind_same (kinds_where (has_discard rest)) discard.kind) ∙ ap (is_held (with_kind (kinds_where (has_discard rest)) discard.kind)) (sym same)
        | inr apart ↦ after kind apart ∙ sym (with_kind_other (kinds_where (has_discard rest)) discard.kind kind apart)
      ]

  after_here : accepted_after (discard ∷ rest) discard.kind ≡ discard.accepted
  after_here = ap (λ b. cond b discard.accepted (accepted_after rest discard.kind)) here

  after_other : (kind : ℕ) → kind ≢ discard.kind → accepted_after (discard ∷ rest) kind ≡ accepted_after rest kind
  after_other kind apart = ap (λ b. cond b discard.accepted (accepted_after rest kind)) (apart_test discard.kind kind apart)

  -- some number for what is accepted after each discard
  column_more : (number : List (ℕ × ℕ) → ℕ) → slice_set (map (λ kind. number (accepted_after rest kind)) every_kind) discard.kind (number discard.accepted) ≡ map (λ kind. number (accepted_after (discard ∷ rest) kind)) every_kind
  column_more number =
      put_kind (λ kind. number (accepted_after rest kind)) (λ kind. number (accepted_after (discard ∷ rest) kind)) discard.kind (number discard.accepted) low (ap number after_here) (λ kind apart. ap number (after_other kind apart))

drop_at : {A : Type 0} (xs : List A) (place : ℕ) (x : A) → slice_get xs place ≡ Some x → drop place xs ≡ x ∷ drop (suc place) xs
drop_at [] place x is = cc
drop_at (y ∷ ys) zero x is = ap (λ z. z ∷ ys) (same is)
  where
    same : Some y ≡ Some x → y ≡ x
    same e = cc
drop_at (y ∷ ys) (suc place) x is = drop_at ys place x is

-- the discard at the place before
pub one_more_told : (shanten : ℤ) (discards : List Discard) (place : ℕ) (discard : Discard) (before after : DiscardsRow) → 0 < place → slice_get discards (place - 1) ≡ Some discard → discard.kind < 34 →
    before ≡ discards_row shanten (drop place discards) →
    after ≡ (let put : DiscardsRow = record { shanten = before.shanten; kinds = with_kind before.kinds discard.kind; accepts = slice_set before.accepts discard.kind (kinds_in discard.accepted); live = slice_set before.live discard.kind (live_in discard.accepted) } in put) →
    after ≡ discards_row shanten (drop (place - 1) discards)
one_more_told shanten discards place discard before after some there low is put =
    let rest = drop place discards in
    put
    ∙ ap (λ (row : DiscardsRow). let told : DiscardsRow = record { shanten = row.shanten; kinds = with_kind row.kinds discard.kind; accepts = slice_set row.accepts discard.kind (kinds_in discard.accepted); live = slice_set row.live discard.kind (live_in discard.accepted) } in told) is
    ∙ same_row refl (sym (kinds_more discard rest low)) (column_more discard rest low kinds_in) (column_more discard rest low live_in)
    ∙ ap (discards_row shanten) (sym (drop_at discards (place - 1) discard there ∙ ap (λ n. discard ∷ drop n discards) (let next : suc (place - 1) ≡ place = omega arith in next)))

abbrev pub with_short : DiscardsRow → ShortDiscard → DiscardsRow
with_short before short = record { shanten = before.shanten; kinds = with_kind before.kinds short.kind; accepts = slice_set before.accepts short.kind short.accepts; live = slice_set before.live short.kind short.live }

-- the same in short
pub one_more_short : (shanten : ℤ) (discards : List Discard) (place : ℕ) (short : ShortDiscard) (before after : DiscardsRow) → 0 < place → option_map short_of (slice_get discards (place - 1)) ≡ Some short → short.kind < 34 →
    before ≡ discards_row shanten (drop place discards) → after ≡ with_short before short → after ≡ discards_row shanten (drop (place - 1) discards)
one_more_short shanten discards place short before after some there low is put = by_discard (slice_get discards (place - 1)) refl there
  where
    by_discard : (o : Option Discard) → slice_get discards (place - 1) ≡ o → option_map short_of o ≡ Some short → after ≡ discards_row shanten (drop (place - 1) discards)
    by_discard None e at = cc
    by_discard (Some discard) e at =
        one_more_told shanten discards place discard before after some e (subst (λ (s : ShortDiscard). s.kind < 34) (sym (same at)) low) is (put ∙ ap (with_short before) (sym (same at)))
      where
        same : Some (short_of discard) ≡ Some short → short_of discard ≡ short
        same e' = cc
