-- The discards that are kept, and those that they stand for.
use Rattle.std.proofs.Common.{◌≡◌, ℕ, zero, suc, ◌+◌, ◌*◌, ◌^◌, ◌/◌, ◌%◌, ◌<◌, ◌≤◌, Bool, true, false, cond, Option, Some, None, List, [], ◌∷◌, map, get_or, length, max, refl, sym, ap, ◌∙◌, arith}
use Rattle.std.proofs.lemmas.Bool.{or_left, or_right, lt-ltb}
use Rattle.std.proofs.lemmas.List.FromFn.{get_or-map-range_with_len, length-map-range_with_len}
use Rattle.std.proofs.lemmas.Option.{slice_get-map}
use Rattle.std.specs.List.{list_any}
use Rattle.std.specs.Prelude.{◌||◌, nat_le, nat_lt, slice_get, slice_index}
use Rattle.std.specs.Option.{option_map}
use Rattle.riichi_shape.specs.Discards.{inserted, inserted_by, live_with}
use Rattle.riichi_shape.specs.KeptDiscards.{AreKept, AreTold, IsKept, all_copies, kept_of, kinds_in, accepted_kinds, most_copies, short_of, told}
use Rattle.riichi_tiles.specs.HeldKinds.{is_held}
use Rattle.riichi_shape.specs.KindBits.{copies_among, copies_at}
use Rattle.riichi_shape.specs.LiveCopies.{copies_in, pairs_of}
use Rattle.riichi_shape.specs.declared.discard.Discard.{Discard}
use Rattle.riichi_shape.specs.declared.discard.ShortDiscard.{ShortDiscard}
use Rattle.riichi_shape.specs.declared.kept_discard.KeptDiscard.{KeptDiscard}
use Rattle.riichi_shape.proofs.DiscardLemmas.{put_in}
use Rattle.riichi_shape.proofs.KindLemmas.{among_at, among_same, are_among, few_among}
use Rattle.riichi_tiles.proofs.KindSets.{same_members, where_at, where_low}
use Rattle.riichi_shape.proofs.LiveLemmas.{copies_told}

pub same_discard : {number kind : ℕ} {list other : List (ℕ × ℕ)} → number ≡ kind → list ≡ other → ◌≡◌ {A = Discard} (record { kind = number; accepted = list }) (record { kind = kind; accepted = other })
same_discard e e' = cc

-- ---- the set of a discard, out of the kinds of its pairs

some_at : (h : Bool) (c : ℕ) → (h ≡ true → 0 < c) → nat_lt 0 (cond h c 0) ≡ h
some_at true c some = lt-ltb 0 c (some refl)
some_at false c some = refl

copies_of : (copies : List ℕ) (set kind : ℕ) → kind < 34 → copies_in (pairs_of (copies_among copies set)) kind ≡ copies_at copies set kind
copies_of copies set kind low = copies_told (copies_among copies set) kind low ∙ among_at copies set kind low

kinds_back : (copies : List ℕ) (set : ℕ) → set < 2 ^ 34 → ((kind : ℕ) → kind < 34 → is_held set kind ≡ true → 0 < slice_index copies kind) → kinds_in (pairs_of (copies_among copies set)) ≡ set
kinds_back copies set low some =
    same_members 34 (kinds_in (pairs_of (copies_among copies set))) set (where_low (λ kind. nat_lt 0 (copies_in (pairs_of (copies_among copies set)) kind))) low
    (λ kind inside. where_at (λ kind. nat_lt 0 (copies_in (pairs_of (copies_among copies set)) kind)) kind inside ∙ ap (nat_lt 0) (copies_of copies set kind inside) ∙ some_at (is_held set kind) (slice_index copies kind) (some kind inside))

all_long : (discards : List Discard) → length (all_copies discards) ≡ 34
unfolding all_copies
all_long discards = length-map-range_with_len (most_copies discards) 0 34

all_at : (discards : List Discard) (kind : ℕ) → kind < 34 → get_or (all_copies discards) kind 0 ≡ most_copies discards kind
unfolding all_copies
all_at discards kind low = get_or-map-range_with_len (most_copies discards) 0 34 kind kind 0 low (omega arith)

pub set_low : (kept : KeptDiscard) → kept.numbers < 2 ^ 27 → kept.honours < 2 ^ 7 → accepted_kinds kept < 2 ^ 34
set_low kept low low' = omega (arith, low, low')

module _ (copies : List ℕ) where
  kept_back : (kept : KeptDiscard) → IsKept copies kept → kept_of (told copies kept) ≡ kept
  kept_back kept is = same_kept (sym is.live_is) (remainder (kinds_in (told copies kept).accepted) kept.honours kept.numbers back is.numbers_below) (quotient (kinds_in (told copies kept).accepted) kept.honours kept.numbers back is.numbers_below)
    where
      same_kept : {live numbers honours : ℕ} → live ≡ kept.live → numbers ≡ kept.numbers → honours ≡ kept.honours → ◌≡◌ {A = KeptDiscard} (record { kind = kept.kind; live = live; numbers = numbers; honours = honours }) (record { kind = kept.kind; live = kept.live; numbers = kept.numbers; honours = kept.honours })
      same_kept e e' e'' = cc

      back : kinds_in (told copies kept).accepted ≡ kept.honours * 2 ^ 27 + kept.numbers
      back = kinds_back copies (accepted_kinds kept) (set_low kept is.numbers_below is.honours_below) is.some_live

      remainder : (n a b : ℕ) → n ≡ a * 2 ^ 27 + b → b < 2 ^ 27 → n % 2 ^ 27 ≡ b
      remainder n a b e low = omega (arith, e, low)

      quotient : (n a b : ℕ) → n ≡ a * 2 ^ 27 + b → b < 2 ^ 27 → n / 2 ^ 27 ≡ a
      quotient n a b e low = omega (arith, e, low)

  all_back : (order : List KeptDiscard) → AreKept copies order → map kept_of (map (told copies) order) ≡ order
  all_back [] all = refl
  all_back (kept ∷ order) all = ap (λ k. k ∷ map kept_of (map (told copies) order)) (kept_back kept all.0) ∙ ap (λ ks. kept ∷ ks) (all_back order all.1)

  pub all_low : (order : List KeptDiscard) → AreKept copies order → (place : ℕ) (other : KeptDiscard) → place < length order → accepted_kinds (get_or order place other) < 2 ^ 34
  all_low [] all place other low = absurd (omega arith)
  all_low (kept ∷ order) all zero other low = set_low kept all.0.numbers_below all.0.honours_below
  all_low (kept ∷ order) all (suc place) other low = all_low order all.1 place other (omega arith)

  -- ---- all copies that the discards name

  greater : (a b : Bool) (c : ℕ) → max (cond a c 0) (cond b c 0) ≡ cond (a || b) c 0
  greater a b c = grind arith

  most_told : (order : List KeptDiscard) (kind : ℕ) → kind < 34 → most_copies (map (told copies) order) kind ≡ cond (list_any (λ kept. is_held (accepted_kinds kept) kind) order) (slice_index copies kind) 0
  unfolding most_copies
  most_told [] kind low = refl
  most_told (kept ∷ order) kind low =
      ap (λ n. max n (most_copies (map (told copies) order) kind)) (copies_of copies (accepted_kinds kept) kind low)
      ∙ ap (max (copies_at copies (accepted_kinds kept) kind)) (most_told order kind low)
      ∙ greater (is_held (accepted_kinds kept) kind) (list_any (λ kept. is_held (accepted_kinds kept) kind) order) (slice_index copies kind)

  -- the copies that are shown of the kinds of a set in which each discard's kinds are
  module _ (set : ℕ) where
    abbrev Within : KeptDiscard → Type 0
    Within kept = (kind : ℕ) → kind < 34 → is_held (accepted_kinds kept) kind ≡ true → is_held set kind ≡ true

    abbrev AllWithin : List KeptDiscard → Type 0
    AllWithin [] = Unit {0}
    AllWithin (kept ∷ order) = Within kept × AllWithin order

    all_within : (order : List KeptDiscard) → ((kind : ℕ) → list_any (λ kept. is_held (accepted_kinds kept) kind) order ≡ true → is_held set kind ≡ true) → AllWithin order
    all_within [] any = tt
    all_within (kept ∷ order) any = (λ kind low h. any kind (or_left (is_held (accepted_kinds kept) kind) (list_any (λ kept. is_held (accepted_kinds kept) kind) order) h), all_within order (λ kind h. any kind (or_right (is_held (accepted_kinds kept) kind) (list_any (λ kept. is_held (accepted_kinds kept) kind) order) h)))

    same_told : (kept : KeptDiscard) → Within kept → told (copies_among copies set) kept ≡ told copies kept
    same_told kept within = same_discard refl (ap pairs_of (among_same (copies_among copies set) copies (accepted_kinds kept) (accepted_kinds kept) each))
      where
        shown : (h t : Bool) (c : ℕ) → (h ≡ true → t ≡ true) → cond h (cond t c 0) 0 ≡ cond h c 0
        shown true true c there = refl
        shown true false c there = let t = there refl in cc
        shown false t c there = refl

        each : (kind : ℕ) → kind < 34 → copies_at (copies_among copies set) (accepted_kinds kept) kind ≡ copies_at copies (accepted_kinds kept) kind
        each kind low = ap (λ c. cond (is_held (accepted_kinds kept) kind) c 0) (among_at copies set kind low) ∙ shown (is_held (accepted_kinds kept) kind) (is_held set kind) (slice_index copies kind) (within kind low)

    all_same : (order : List KeptDiscard) → AllWithin order → map (told (copies_among copies set)) order ≡ map (told copies) order
    all_same [] all = refl
    all_same (kept ∷ order) all = ap (λ d. d ∷ map (told (copies_among copies set)) order) (same_told kept all.0) ∙ ap (λ ds. told copies kept ∷ ds) (all_same order all.1)

    module _ (order : List KeptDiscard) (set_is : (kind : ℕ) → is_held set kind ≡ list_any (λ kept. is_held (accepted_kinds kept) kind) order) where
      pub shown_same : map (told (copies_among copies set)) order ≡ map (told copies) order
      shown_same = all_same order (all_within order (λ kind h. set_is kind ∙ h))

      pub are_told : ((kind : ℕ) → slice_index copies kind ≤ 4) → AreKept copies order → AreTold (copies_among copies set) order
      are_told few all = record {
        few = few_among copies set few;
        copies_are = sym (are_among (all_copies (map (told copies) order)) copies set (all_long (map (told copies) order)) each) ∙ ap all_copies (sym shown_same);
        order_is = sym (all_back order all) ∙ ap (map kept_of) (sym shown_same);
      }
        where
          each : (kind : ℕ) → kind < 34 → get_or (all_copies (map (told copies) order)) kind 0 ≡ copies_at copies set kind
          each kind low = all_at (map (told copies) order) kind low ∙ most_told order kind low ∙ ap (λ t. cond t (slice_index copies kind) 0) (sym (set_is kind))

-- ---- a discard of the list

module _ (copies : List ℕ) (order : List KeptDiscard) (are : AreTold copies order) (kept : KeptDiscard) (place : ℕ) (there : slice_get order place ≡ Some kept) where
  pub kept_low : accepted_kinds kept < 2 ^ 34
  kept_low = by_discard (slice_get (map (told copies) order) place) (sym (slice_get-map kept_of (map (told copies) order) place) ∙ ap (λ ks. slice_get ks place) (sym are.order_is) ∙ there)
    where
      by_discard : (o : Option Discard) → option_map kept_of o ≡ Some kept → accepted_kinds kept < 2 ^ 34
      by_discard None e = cc
      by_discard (Some discard) e = omega (arith, where_low (λ kind. nat_lt 0 (copies_in discard.accepted kind)), ap (λ (k : KeptDiscard). k.numbers) (same e), ap (λ (k : KeptDiscard). k.honours) (same e))
        where
          same : Some (kept_of discard) ≡ Some kept → kept_of discard ≡ kept
          same e = cc

  pub kept_told : slice_get (map (told copies) order) place ≡ Some (told copies kept)
  kept_told = slice_get-map (told copies) order place ∙ ap (option_map (told copies)) there

  kept_same : kept_of (told copies kept) ≡ kept
  kept_same = same (sym (slice_get-map kept_of (map (told copies) order) place ∙ ap (option_map kept_of) kept_told) ∙ ap (λ ks. slice_get ks place) (sym are.order_is) ∙ there)
    where
      same : Some (kept_of (told copies kept)) ≡ Some kept → kept_of (told copies kept) ≡ kept
      same e = cc

  pub kept_short : (accepts : ℕ) → accepts ≡ accepted_kinds kept → ◌≡◌ {A = ShortDiscard} (record { kind = kept.kind; accepts = accepts; live = kept.live }) (short_of (told copies kept))
  kept_short accepts is = same_short (is ∙ sym (ap accepted_kinds kept_same) ∙ whole) (sym (ap (λ (k : KeptDiscard). k.live) kept_same))
    where
      set : ℕ
      set = kinds_in (told copies kept).accepted

      whole : set / 2 ^ 27 * 2 ^ 27 + set % 2 ^ 27 ≡ set
      whole = omega arith

      same_short : {kinds set live all : ℕ} → kinds ≡ set → live ≡ all → ◌≡◌ {A = ShortDiscard} (record { kind = kept.kind; accepts = kinds; live = live }) (record { kind = kept.kind; accepts = set; live = all })
      same_short e e' = cc

pub none_told : (copies : List ℕ) (order : List KeptDiscard) (place : ℕ) → slice_get order place ≡ None → slice_get (map (told copies) order) place ≡ None
none_told copies order place e = slice_get-map (told copies) order place ∙ ap (option_map (told copies)) e

pub told_is : (copies taken : List ℕ) (kept : KeptDiscard) (kind set : ℕ) (list : List (ℕ × ℕ)) → kind ≡ kept.kind → list ≡ pairs_of taken → taken ≡ copies_among copies set → set ≡ accepted_kinds kept → ◌≡◌ {A = Discard} (record { kind = kind; accepted = list }) (told copies kept)
told_is copies taken kept kind set list kind_is list_is taken_is set_is = same_discard kind_is (list_is ∙ ap pairs_of (taken_is ∙ ap (copies_among copies) set_is))

-- ---- a discard put in its place

module _ (copies : List ℕ) (kept : KeptDiscard) (is : IsKept copies kept) where
  pub told_put : (order : List KeptDiscard) → AreKept copies order → map (told copies) (put_in kept order) ≡ inserted (told copies kept) (map (told copies) order)
  unfolding inserted_by
  told_put [] all = refl
  told_put (next ∷ order) all =
      by_test (nat_le next.live kept.live) (nat_le (live_with (told copies next)) (live_with (told copies kept))) (ap (λ n. nat_le n kept.live) all.0.live_is ∙ ap (nat_le (live_with (told copies next))) is.live_is) (told_put order all.1)
    where
      by_test : (t u : Bool) → t ≡ u → map (told copies) (put_in kept order) ≡ inserted (told copies kept) (map (told copies) order) →
          map (told copies) (cond t (kept ∷ next ∷ order) (next ∷ put_in kept order)) ≡ cond u (told copies kept ∷ told copies next ∷ map (told copies) order) (told copies next ∷ inserted (told copies kept) (map (told copies) order))
      by_test true true e later = refl
      by_test true false e later = cc
      by_test false true e later = cc
      by_test false false e later = ap (λ ds. told copies next ∷ ds) later

  pub all_put : (order : List KeptDiscard) → AreKept copies order → AreKept copies (put_in kept order)
  unfolding inserted_by
  all_put [] all = (is, tt)
  all_put (next ∷ order) all = by_test (nat_le next.live kept.live) (all_put order all.1)
    where
      by_test : (t : Bool) → AreKept copies (put_in kept order) → AreKept copies (cond t (kept ∷ next ∷ order) (next ∷ put_in kept order))
      by_test true later = (is, all)
      by_test false later = (all.0, later)

pub ruleset new_facts = (all_low, are_told, shown_same)

pub ruleset get_facts = (kept_low, kept_told, none_told)

pub ruleset short_at_facts = (kept_low, kept_short, kept_told, none_told)
