-- A call brings a hand nearer exactly where the program says so.
use Rattle.std.proofs.Common.{◌≡◌, ℕ, ◌<◌, ◌≤◌, Bool, true, false, max, List, [], ◌∷◌, ◌++◌, Option, Some, None, refl, sym, ap, ◌∙◌, arith}
use Rattle.std.proofs.lemmas.Bool.{lt-ltb, ltb-false, ltb-true}
use Rattle.std.proofs.lemmas.Bool.Decides.{nat_tests}
use Rattle.std.specs.List.{filter}
use Rattle.std.specs.Prelude.{nat_lt, slice_index, ◌&&◌, if◌then◌else◌}
use Rattle.riichi_hand.specs.Hand.{size}
use Rattle.riichi_hand.specs.HandParts.{ShapeParts}
use Rattle.riichi_tiles.specs.Melds.{is_kong, tiles, tiles_of}
use Rattle.riichi_tiles.specs.declared.meld.Meld.{Meld}
use Rattle.riichi_tiles.specs.declared.meld.Meld.TheVariants.{Chi, Pon, Kan, Ankan}
use Rattle.riichi_tiles.specs.Melds.{every_kind}
use Rattle.riichi_tiles.specs.Tiles.{has_tile}
use Rattle.riichi_tiles.proofs.Members.{any-from, any-in, in-filter, in-filter-inv, in-range, in-range-inv}
use Rattle.riichi_shape.specs.Accepted.{with_one}
use Rattle.riichi_shape.specs.Discards.{discards_of, distance_without}
use Rattle.riichi_shape.specs.Answer.{shape_answer_of}
use Rattle.riichi_shape.specs.EveryWinning.{distance_of}
use Rattle.riichi_shape.specs.declared.discard.Discard.{Discard}
use Rattle.riichi_shape.specs.declared.shape_answer.ShapeAnswer.{ShapeAnswer}
use Rattle.riichi_deeper.specs.declared.gains.Call.{Call}
use Rattle.riichi_deeper.specs.declared.thrown.Claim.{Claim}
use Rattle.riichi_deeper.specs.declared.thrown.Thrown.{Thrown}
use Rattle.riichi_shape.proofs.LeastLeft.{least_is}
use Rattle.riichi_shape.proofs.RemovalLemmas.{IsLeastLeft}
use Rattle.riichi_deeper.specs.Calls.{call_of, call_with, called, gaining_call, has_meld, is_gain, is_nearer, kong_of, laid_down, parts_after}
use Rattle.riichi_deeper.specs.CallLaws.{CanCall}
use Rattle.riichi_deeper.proofs.AfterLemmas.{few_after, left_long, meld_size, size_after}

-- ---- after a call for a run or a triplet

three_laid : (meld : Meld) → is_kong meld ≡ false → meld_size meld ≡ 3
three_laid (Chi low) plain = refl
three_laid (Pon held) plain = refl
three_laid (Kan held) plain = absurd (cc)
three_laid (Ankan held) plain = absurd (cc)

module _ (parts : ShapeParts) (tile : ℕ) (meld : Meld) (can : CanCall parts tile meld) where
  abbrev hand : List ℕ
  hand = laid_down (with_one parts.tiles tile) meld

  abbrev melds : List Meld
  melds = parts.melds ++ meld ∷ []

  pub fourteen_after : is_kong meld ≡ false → size hand melds ≡ 14
  fourteen_after plain = omega (arith, size_after parts tile meld can, three_laid meld plain)

  melds_after : (kind : ℕ) → kind < 34 → tiles melds kind ≤ 4
  melds_after kind low = omega (arith, few_after parts tile meld can kind low)

  module _ (plain : is_kong meld ≡ false) where
    abbrev least : ℕ
    least = max (distance_of hand melds) 1

    left : IsLeastLeft hand melds least
    left = least_is hand melds (left_long (with_one parts.tiles tile) meld) (fourteen_after plain) melds_after (distance_of hand melds) least refl refl

    -- some discard leaves the hand nearer exactly where the least that any leaves is nearer
    nearer_is : is_nearer parts (parts_after parts tile meld) ≡ nat_lt least (distance_of parts.tiles parts.melds)
    nearer_is = by_test (nat_lt least (distance_of parts.tiles parts.melds)) refl
      where
        by_test : (t : Bool) → nat_lt least (distance_of parts.tiles parts.melds) ≡ t → is_nearer parts (parts_after parts tile meld) ≡ t
        by_test true e =
            any-from (λ kind. nat_lt (distance_without hand melds kind) (distance_of parts.tiles parts.melds)) (filter (has_tile hand) every_kind) left.place
            (in-filter (has_tile hand) left.place every_kind (in-range 34 0 left.place (omega arith) (omega (arith, left.is_kind))) (lt-ltb 0 (slice_index hand left.place) left.held))
            (ap (λ n. nat_lt n (distance_of parts.tiles parts.melds)) left.reached ∙ e)
        by_test false e = by_other (is_nearer parts (parts_after parts tile meld)) refl
          where
            by_other : (t : Bool) → is_nearer parts (parts_after parts tile meld) ≡ t → is_nearer parts (parts_after parts tile meld) ≡ false
            by_other false f = f
            by_other true f =
                let some = any-in (λ kind. nat_lt (distance_without hand melds kind) (distance_of parts.tiles parts.melds)) (filter (has_tile hand) every_kind) f in
                let kept = in-filter-inv (has_tile hand) some.0 every_kind some.1 in
                let inside = in-range-inv 34 0 some.0 kept.0 in
                absurd (omega (arith, left.bound some.0 (omega (arith, inside.1)) (ltb-true 0 (slice_index hand some.0) kept.1), ltb-true (distance_without hand melds some.0) (distance_of parts.tiles parts.melds) some.2, ltb-false least (distance_of parts.tiles parts.melds) e))

    pub gain_is : is_gain parts tile meld ≡ nat_lt least (distance_of parts.tiles parts.melds)
    unfolding is_gain
    gain_is = ap (λ t. t && is_nearer parts (parts_after parts tile meld)) can.held ∙ nearer_is

-- ---- what the program answers

pub gain_none : (parts : ShapeParts) (tile : ℕ) (meld : Meld) → None ≡ (if has_meld (with_one parts.tiles tile) meld then Some (parts_after parts tile meld) else None) → None ≡ gaining_call parts tile (Some meld)
unfolding is_gain
gain_none parts tile meld e = by_test (has_meld (with_one parts.tiles tile) meld) (is_nearer parts (parts_after parts tile meld)) e
  where
    by_test : (has nearer : Bool) → None ≡ (if has then Some (parts_after parts tile meld) else None) → None ≡ (if has && nearer then Some (call_with parts tile meld) else None)
    by_test false nearer e = refl
    by_test true nearer e = absurd (cc)

abbrev pub call_by : Meld → List Discard → Call
call_by meld discards = record { meld = meld; discards = discards }

module _ (parts : ShapeParts) (tile : ℕ) (meld : Meld) (can : CanCall parts tile meld) (plain : is_kong meld ≡ false) where
  abbrev pub least_after : ℕ
  least_after = max (distance_of (parts_after parts tile meld).tiles (parts_after parts tile meld).melds) 1

  pub no_gain : nat_lt least_after (distance_of parts.tiles parts.melds) ≡ false → None ≡ gaining_call parts tile (Some meld)
  no_gain e = ap (λ t. if t then Some (call_with parts tile meld) else None) (sym (gain_is parts tile meld can plain ∙ e))

  pub some_gain : nat_lt least_after (distance_of parts.tiles parts.melds) ≡ true → (discards : List Discard) → discards ≡ discards_of (parts_after parts tile meld).tiles (parts_after parts tile meld).melds (parts_after parts tile meld).seen
      → Some (call_by meld discards) ≡ gaining_call parts tile (Some meld)
  some_gain e discards is = ap (λ (ds : List Discard). Some (call_by meld ds)) is ∙ ap (λ t. if t then Some (call_with parts tile meld) else None) (sym (gain_is parts tile meld can plain ∙ e))

-- ---- a claim

pub claim_none : (parts : ShapeParts) (thrown : Thrown) (claim : Claim) → None ≡ called claim thrown → None ≡ call_of parts thrown claim
unfolding call_of
claim_none parts thrown claim e = ap (gaining_call parts thrown.tile) e

pub claim_some : (parts : ShapeParts) (thrown : Thrown) (claim : Claim) (meld : Meld) (answer : Option Call) → Some meld ≡ called claim thrown → answer ≡ gaining_call parts thrown.tile (Some meld) → answer ≡ call_of parts thrown claim
unfolding call_of
claim_some parts thrown claim meld answer e is = is ∙ ap (gaining_call parts thrown.tile) e

-- ---- a kong

pub has_kong_tile : (tile : ℕ) → 0 < tiles_of (Kan tile) tile
has_kong_tile tile = grind (arith, nat_tests)

pub kong_none : (parts : ShapeParts) (tile : ℕ) → None ≡ (if has_meld (with_one parts.tiles tile) (Kan tile) then Some (parts_after parts tile (Kan tile)) else None) → None ≡ kong_of parts tile
unfolding kong_of
kong_none parts tile e = by_test (has_meld (with_one parts.tiles tile) (Kan tile)) e
  where
    by_test : (has : Bool) → None ≡ (if has then Some (parts_after parts tile (Kan tile)) else None) → None ≡ (if has then Some (shape_answer_of (parts_after parts tile (Kan tile))) else None)
    by_test false e = refl
    by_test true e = absurd (cc)

pub kong_some : (parts : ShapeParts) (tile : ℕ) (after : ShapeParts) (answer : ShapeAnswer) → Some after ≡ (if has_meld (with_one parts.tiles tile) (Kan tile) then Some (parts_after parts tile (Kan tile)) else None) → answer ≡ shape_answer_of after → Some answer ≡ kong_of parts tile
unfolding kong_of
kong_some parts tile after answer e is = by_test (has_meld (with_one parts.tiles tile) (Kan tile)) e
  where
    by_test : (has : Bool) → Some after ≡ (if has then Some (parts_after parts tile (Kan tile)) else None) → Some answer ≡ (if has then Some (shape_answer_of (parts_after parts tile (Kan tile))) else None)
    by_test true e = let same : after ≡ parts_after parts tile (Kan tile) = cc in ap Some (is ∙ ap shape_answer_of same)
    by_test false e = absurd (cc)

pub after_is_parts : (parts : ShapeParts) (tile : ℕ) (meld : Meld) (after : ShapeParts) → Some after ≡ (if has_meld (with_one parts.tiles tile) meld then Some (parts_after parts tile meld) else None) → after ≡ parts_after parts tile meld
after_is_parts parts tile meld after e = by_test (has_meld (with_one parts.tiles tile) meld) e
  where
    by_test : (has : Bool) → Some after ≡ (if has then Some (parts_after parts tile meld) else None) → after ≡ parts_after parts tile meld
    by_test true e = cc
    by_test false e = absurd (cc)
