-- The chances of each number of turns, one number more at a time.
use Rattle.std.proofs.Common.{◌≡◌, ℕ, ◌+◌, ◌-◌, ◌<◌, ◌≤◌, true, cond, List, [], ◌∷◌, ◌++◌, map, take, Some, length, length-append, slice_set, get_or-set_same, get_or-set_other, length-set, refl, sym, ap, subst, ◌∙◌, ⊎_elim, arith}
use Rattle.std.proofs.lemmas.Bool.{cases_eq}
use Rattle.std.proofs.lemmas.List.{get_or-map, get_or_append_left, get_or_default, get_or_push, length-map, map_push, take_more}
use Rattle.std.proofs.lemmas.List.Sums.{sum_by-set}
use Rattle.std.specs.Option.{option_map}
use Rattle.std.specs.Prelude.{min, slice_get, slice_index, slice_index_or}
use Rattle.riichi_hand.specs.HandParts.{ShapeParts}
use Rattle.riichi_shape.specs.Accepted.{with_one, without_one}
use Rattle.riichi_shape.specs.Choosing.{LeavesLeast}
use Rattle.riichi_shape.specs.Discards.{discards_of}
use Rattle.riichi_shape.specs.EveryWinning.{distance_of}
use Rattle.riichi_shape.specs.KeptDiscards.{short_of}
use Rattle.riichi_shape.specs.declared.discard.Discard.{Discard}
use Rattle.riichi_shape.specs.declared.discard.ShortDiscard.{ShortDiscard}
use Rattle.riichi_shape.proofs.Choices.{is_chosen}
use Rattle.riichi_deeper.specs.Drawn.{parts_without}
use Rattle.riichi_chances.specs.Chances.{AreAfter, AreAfterAtMost, AreAllCounted, AreAtMost, AreChances, AreCounted, AreAllTold, AreLong, IsNoPlayAbove, IsNoPlayAboveAfter, IsTold, parts_told}
use Rattle.riichi_chances.specs.Aims.{HasRows, counted_in, numbers_for}
use Rattle.riichi_chances.specs.AtMost.{most_of_all}
use Rattle.riichi_chances.specs.Counted.{counted_draws, parts_less}
use Rattle.riichi_chances.specs.Draws.{all_draws, draws, is_there, unseen_of}
use Rattle.riichi_chances.specs.Graph.{AreBefore, AreLeft, AreRows, HandGraph, IsPlaceOf, discard_kinds, no_rows, placed_hand}
use Rattle.riichi_chances.specs.Laws.{IsFourteen, IsThirteen}
use Rattle.riichi_chances.specs.declared.chances.Chances.{Chances}
use Rattle.riichi_chances.specs.declared.discards.DiscardChances.{DiscardChances}
use Rattle.riichi_chances.specs.Plays.{DrawPlay, draws_by}
use Rattle.riichi_chances.specs.declared.rows.Column.{Column}
use Rattle.riichi_chances.specs.declared.rows.Column.TheVariants.{Ready, Win, ReadyAtMost, WinAtMost}
use Rattle.riichi_chances.specs.Rows.{Rows}
use Rattle.riichi_chances.proofs.ChanceLemmas.{chance_law}
use Rattle.riichi_chances.proofs.CountedLemmas.{counted_law, discard_counted, discard_unseen, knows_left}
use Rattle.riichi_chances.proofs.CountingLemmas.{best_listed, kinds_more}
use Rattle.riichi_chances.proofs.NearestLemmas.{less_long, more_long}
use Rattle.riichi_chances.proofs.PlayLemmas.{NoMore, counted_less, play_law, plays_most}
use Rattle.riichi_chances.proofs.RowLemmas.{not_won}
use Rattle.riichi_chances.proofs.UnseenLemmas.{all_turns}

pub record CountedBelow (parts : ShapeParts) (unseen count : ℕ) (chances : Chances) : Type 0 where
  pub ready : (k : ℕ) → k < count → slice_index chances.ready k ≡ counted_draws 1 parts unseen k
  pub win : (k : ℕ) → k < count → slice_index chances.win k ≡ counted_draws 0 parts unseen k
  pub ready_at_most : (k : ℕ) → k < count → slice_index chances.ready_at_most k ≡ most_of_all 1 parts unseen k
  pub win_at_most : (k : ℕ) → k < count → slice_index chances.win_at_most k ≡ most_of_all 0 parts unseen k
  pub all : (k : ℕ) → k < count → slice_index chances.all k ≡ all_draws unseen k

pub none_below : (parts : ShapeParts) (unseen : ℕ) (chances : Chances) → CountedBelow parts unseen 0 chances
none_below parts unseen chances = record { ready = λ k low. absurd (omega (arith, low)); win = λ k low. absurd (omega (arith, low)); ready_at_most = λ k low. absurd (omega (arith, low)); win_at_most = λ k low. absurd (omega (arith, low)); all = λ k low. absurd (omega (arith, low)) }

-- a number is put at the next place
put_next : (value : ℕ → ℕ) (row after : List ℕ) (n v : ℕ) → n < length row → ((k : ℕ) → k < n → slice_index row k ≡ value k) → v ≡ value n → after ≡ slice_set row n v → (k : ℕ) → k < n + 1 → slice_index after k ≡ value k
put_next value row after n v long before here is k low = ap (λ (ns : List ℕ). slice_index ns k) is ∙ ⊎_elim at_last (λ ne. get_or-set_other row n k v 0 ne ∙ before k (omega (arith, low, ne))) (cases_eq k n)
  where
    at_last : k ≡ n → slice_index (slice_set row n v) k ≡ value k
    at_last e = subst (λ (m : ℕ). slice_index (slice_set row n v) m ≡ value m) (sym e) (get_or-set_same row n v 0 long ∙ here)

pub told_long : (turns : ℕ) (rows : Rows) (all : ℕ) (before after : Chances) → IsTold turns rows all before after → AreLong before → AreLong after
told_long turns rows all before after told long = record {
  ready = ap length told.ready ∙ length-set before.ready turns (slice_index rows.ready turns) ∙ long.ready;
  win = ap length told.win ∙ length-set before.win turns (slice_index rows.win turns) ∙ long.win;
  ready_at_most = ap length told.ready_at_most ∙ length-set before.ready_at_most turns (min (slice_index rows.ready_at_most turns) all) ∙ long.ready_at_most;
  win_at_most = ap length told.win_at_most ∙ length-set before.win_at_most turns (min (slice_index rows.win_at_most turns) all) ∙ long.win_at_most;
  all = ap length told.all ∙ length-set before.all turns all ∙ long.all;
}

pub next_below : (parts : ShapeParts) (unseen n : ℕ) (before after : Chances) (rows : Rows) (all : ℕ) → n < 19 → AreLong before → CountedBelow parts unseen n before →
    HasRows (record { unseen = unseen; turns = n }) parts rows → all ≡ all_draws (unseen - (n - n)) n → IsTold n rows all before after → CountedBelow parts unseen (n + 1) after
next_below parts unseen n before after rows all small long so_far has g told = record {
  ready = put_next (counted_draws 1 parts unseen) before.ready after.ready n (slice_index rows.ready n) (omega (arith, long.ready, small)) so_far.ready (of_column Ready) told.ready;
  win = put_next (counted_draws 0 parts unseen) before.win after.win n (slice_index rows.win n) (omega (arith, long.win, small)) so_far.win (of_column Win) told.win;
  ready_at_most = put_next (most_of_all 1 parts unseen) before.ready_at_most after.ready_at_most n (min (slice_index rows.ready_at_most n) all) (omega (arith, long.ready_at_most, small)) so_far.ready_at_most (lesser (of_column ReadyAtMost)) told.ready_at_most;
  win_at_most = put_next (most_of_all 0 parts unseen) before.win_at_most after.win_at_most n (min (slice_index rows.win_at_most n) all) (omega (arith, long.win_at_most, small)) so_far.win_at_most (lesser (of_column WinAtMost)) told.win_at_most;
  all = put_next (all_draws unseen) before.all after.all n all (omega (arith, long.all, small)) so_far.all all_is told.all;
}
  where
    all_is : all ≡ all_draws unseen n
    all_is = g ∙ ap (λ m. all_draws m n) (all_turns unseen n unseen refl)

    lesser : {a b : ℕ} → a ≡ b → min a all ≡ min b (all_draws unseen n)
    lesser {a} {b} e = ap (λ m. min m all) e ∙ ap (min b) all_is

    of_column : (column : Column) → slice_index (numbers_for column rows) n ≡ counted_in column parts unseen n
    of_column column = has column n (omega arith) ∙ ap (λ m. counted_in column parts m n) (all_turns unseen n unseen refl)

-- ---- the hands at some places, one number of turns more

module _ (turns number : ℕ) (rows : List Rows) (places : List ℕ) (first each : List Chances) (at : ℕ) (new : Chances) (row : Rows) (none : Chances) (low : at < length each) (inside : slice_index places at < length rows) (row_is : row ≡ slice_index_or rows (slice_index places at) row) (told : IsTold turns row number (slice_index_or each at none) new)
    (later : (k : ℕ) (chances : Chances) → at ≤ k → slice_index_or each k chances ≡ slice_index_or first k chances) where
  abbrev ToldAt : List Chances → ℕ → Rows → Chances → Type 0
  ToldAt after k r chances = IsTold turns (slice_index_or rows (slice_index places k) r) number (slice_index_or first k chances) (slice_index_or after k chances)

  pub told_next : ((k : ℕ) (r : Rows) (chances : Chances) → k < at → ToldAt each k r chances) → (k : ℕ) (r : Rows) (chances : Chances) → k < at + 1 → ToldAt (slice_set each at new) k r chances
  told_next before k r chances small = ⊎_elim at_last (λ ne. subst (IsTold turns (slice_index_or rows (slice_index places k) r) number (slice_index_or first k chances)) (sym (get_or-set_other each at k new chances ne)) (before k r chances (omega (arith, small, ne)))) (cases_eq k at)
    where
      here : IsTold turns (slice_index_or rows (slice_index places at) r) number (slice_index_or first at chances) new
      here = subst (λ (it : Rows). IsTold turns it number (slice_index_or first at chances) new) (get_or_default rows (slice_index places at) row r inside)
          (subst (λ (it : Chances). IsTold turns (slice_index_or rows (slice_index places at) row) number it new) (get_or_default each at none chances low ∙ later at chances (omega arith)) (subst (λ (it : Rows). IsTold turns it number (slice_index_or each at none) new) row_is told))

      at_last : k ≡ at → ToldAt (slice_set each at new) k r chances
      at_last e = subst (λ (m : ℕ). ToldAt (slice_set each at new) m r chances) (sym e) (subst (IsTold turns (slice_index_or rows (slice_index places at) r) number (slice_index_or first at chances)) (sym (get_or-set_same each at new chances low)) here)

  pub stay_next : (k : ℕ) (chances : Chances) → at + 1 ≤ k → slice_index_or (slice_set each at new) k chances ≡ slice_index_or first k chances
  stay_next k chances past = get_or-set_other each at k new chances (λ e. omega (arith, e, past)) ∙ later k chances (omega (arith, past))

module _ (places : List ℕ) (unseen count : ℕ) (before after : List Chances) (rows : List Rows) (number : ℕ) (small : count < 19) (told : AreAllTold count places rows number before after) (long : (at : ℕ) (chances : Chances) → at < length places → AreLong (slice_index_or before at chances)) where
  pub long_next : (at : ℕ) (chances : Chances) → at < length places → AreLong (slice_index_or after at chances)
  long_next at chances low = told_long count (slice_index_or rows (slice_index places at) no_rows) number (slice_index_or before at chances) (slice_index_or after at chances) (told at no_rows chances low) (long at chances low)

  pub turns_next : (root : ShapeParts) (hands : List (List ℕ)) (most : ℕ) → AreBefore most places → AreRows (record { unseen = unseen; turns = count }) root hands most rows → number ≡ all_draws (unseen - (count - count)) count
      → ((at : ℕ) (chances : Chances) → at < length places → CountedBelow (placed_hand root hands (slice_index places at)) unseen count (slice_index_or before at chances))
      → (at : ℕ) (chances : Chances) → at < length places → CountedBelow (placed_hand root hands (slice_index places at)) unseen (count + 1) (slice_index_or after at chances)
  turns_next root hands most inside are all_is so_far at chances low =
      let place = slice_index places at in
      next_below (placed_hand root hands place) unseen count (slice_index_or before at chances) (slice_index_or after at chances) (slice_index_or rows place no_rows) number small (long at chances low) (so_far at chances low)
      (are place (inside at low)) all_is (told at no_rows chances low)

pub counted_all : (parts : ShapeParts) (unseen turns count : ℕ) (chances : Chances) → turns < count → CountedBelow parts unseen count chances → AreCounted parts unseen turns chances
counted_all parts unseen turns count chances more so_far = record { ready = λ k low. so_far.ready k (omega (arith, low, more)); win = λ k low. so_far.win k (omega (arith, low, more)); ready_at_most = λ k low. so_far.ready_at_most k (omega (arith, low, more)); win_at_most = λ k low. so_far.win_at_most k (omega (arith, low, more)); all = λ k low. so_far.all k (omega (arith, low, more)) }

-- they are those of the definition
pub are_chances : (parts place : ShapeParts) (unseen turns : ℕ) (chances : Chances) → IsThirteen parts → ((goal count : ℕ) → draws goal parts count ≡ counted_draws goal place unseen count) → unseen ≡ unseen_of parts → AreCounted place unseen turns chances → AreChances parts turns chances
are_chances parts place unseen turns chances is law unseen_is are = record {
  ready = ready;
  win = win;
  all = all;
  ready_few = λ k low. omega (arith, ready k low, all k low, chance_law 1 parts k is);
  win_few = λ k low. omega (arith, win k low, all k low, chance_law 0 parts k is);
}
  where
    ready : (k : ℕ) → k ≤ turns → slice_index chances.ready k ≡ draws 1 parts k
    ready k low = are.ready k low ∙ sym (law 1 k)

    win : (k : ℕ) → k ≤ turns → slice_index chances.win k ≡ draws 0 parts k
    win k low = are.win k low ∙ sym (law 0 k)

    all : (k : ℕ) → k ≤ turns → slice_index chances.all k ≡ all_draws (unseen_of parts) k
    all k low = are.all k low ∙ ap (λ n. all_draws n k) unseen_is

pub are_at_most : (parts : ShapeParts) (unseen turns : ℕ) (chances : Chances) (n : ℕ) → unseen ≡ n → AreCounted parts unseen turns chances → AreAtMost parts n turns chances
are_at_most parts unseen turns chances n unseen_is are = record {
  ready = λ k low. are.ready_at_most k low ∙ ap (λ m. most_of_all 1 parts m k) unseen_is;
  win = λ k low. are.win_at_most k low ∙ ap (λ m. most_of_all 0 parts m k) unseen_is;
}

pub thirteen_most : (parts place : ShapeParts) (unseen turns : ℕ) (chances : Chances) → place ≡ parts → unseen ≡ unseen_of parts → AreCounted place unseen turns chances → AreAtMost parts (unseen_of parts) turns chances
thirteen_most parts place unseen turns chances place_is unseen_is are = are_at_most parts unseen turns chances (unseen_of parts) unseen_is (subst (λ (p : ShapeParts). AreCounted p unseen turns chances) place_is are)

-- no play has more
pub no_play_above : (parts place : ShapeParts) (unseen turns : ℕ) (chances : Chances) → ((play : DrawPlay) (goal count : ℕ) → draws_by play [] goal parts count ≤ most_of_all goal place unseen count) → ((goal count : ℕ) → counted_draws goal place unseen count ≤ all_draws unseen count)
    → AreCounted place unseen turns chances → IsNoPlayAbove parts turns chances
no_play_above parts place unseen turns chances law few are = record {
  ready = λ play k low. omega (arith, are.ready_at_most k low, law play 1 k);
  win = λ play k low. omega (arith, are.win_at_most k low, law play 0 k);
  ready_reached = λ k low. omega (arith, are.ready k low, are.ready_at_most k low, counted_less 1 k unseen place, few 1 k);
  win_reached = λ k low. omega (arith, are.win k low, are.win_at_most k low, counted_less 0 k unseen place, few 0 k);
}

pub thirteen_plays : (parts place : ShapeParts) (unseen turns : ℕ) (chances : Chances) → IsThirteen parts → place ≡ parts → unseen ≡ unseen_of parts → AreCounted place unseen turns chances → IsNoPlayAbove parts turns chances
thirteen_plays parts place unseen turns chances is place_is unseen_is =
    no_play_above parts place unseen turns chances
    (λ play goal count. omega (arith, play_law play goal parts count is, ap (λ (p : ShapeParts). most_of_all goal p unseen count) place_is, ap (λ n. most_of_all goal parts n count) unseen_is))
    (λ goal count. omega (arith, chance_law goal parts count is, counted_law goal parts count is, ap (λ (p : ShapeParts). counted_draws goal p unseen count) place_is, ap (λ n. counted_draws goal parts n count) unseen_is, ap (λ n. all_draws n count) unseen_is))

pub of_thirteen : (parts place : ShapeParts) (unseen turns : ℕ) (chances : Chances) → IsThirteen parts → place ≡ parts → unseen ≡ unseen_of parts → AreCounted place unseen turns chances → AreChances parts turns chances
of_thirteen parts place unseen turns chances is place_is unseen_is =
    are_chances parts place unseen turns chances is (λ goal count. counted_law goal parts count is ∙ ap (λ (p : ShapeParts). counted_draws goal p (unseen_of parts) count) (sym place_is) ∙ ap (λ n. counted_draws goal place n count) (sym unseen_is)) unseen_is

pub placed : (graph : HandGraph) (parts : ShapeParts) (place : ℕ) → IsPlaceOf graph parts place → placed_hand parts graph.hands place ≡ parts
placed graph parts place there = ap (λ (tiles : List ℕ). same tiles) there.is
  where
    same : List ℕ → ShapeParts
    same tiles = record { tiles = tiles; melds = parts.melds; seen = parts.seen }

-- ---- discard after discard

abbrev pub told_kinds : List DiscardChances → List ℕ
told_kinds each = map (λ (one : DiscardChances). one.kind) each

abbrev pub told_chances : List DiscardChances → List Chances
told_chances each = map (λ (one : DiscardChances). one.chances) each

pub told_more : (each after : List DiscardChances) (one : DiscardChances) (discards : List Discard) (at : ℕ) (short : ShortDiscard) → Some short ≡ option_map short_of (slice_get discards at) → one.kind ≡ short.kind → after ≡ each ++ one ∷ [] → told_kinds each ≡ discard_kinds (take at discards) → told_kinds after ≡ discard_kinds (take (at + 1) discards)
told_more each after one discards at short e kind_is after_is so_far =
    ap told_kinds after_is ∙ map_push (λ (it : DiscardChances). it.kind) each one ∙ ap (λ (ks : List ℕ). ks ++ one.kind ∷ []) so_far ∙ ap (λ k. discard_kinds (take at discards) ++ k ∷ []) kind_is ∙ sym (kinds_more discards at short e)

-- the chances of one discard more
pub chances_more : (each after : List DiscardChances) (chances : List Chances) (at kind : ℕ) (none : Chances) → at < length chances → after ≡ each ++ (record { kind = kind; chances = slice_index_or chances at none }) ∷ [] → told_chances each ≡ take at chances → told_chances after ≡ take (at + 1) chances
chances_more each after chances at kind none low after_is so_far =
    ap told_chances after_is ∙ map_push (λ (it : DiscardChances). it.chances) each (record { kind = kind; chances = slice_index_or chances at none }) ∙ ap (λ (cs : List Chances). cs ++ slice_index_or chances at none ∷ []) so_far ∙ sym (take_more chances at none low)

module _ (P : ℕ → Chances → Type 0) where
  pub after_none : (place : ℕ) (one : DiscardChances) → place < 0 → P (slice_index_or [] place one).kind (slice_index_or [] place one).chances
  after_none place one low = absurd (omega (arith, low))

  pub after_more : (each after : List DiscardChances) (one : DiscardChances) → ((place : ℕ) (it : DiscardChances) → place < length each → P (slice_index_or each place it).kind (slice_index_or each place it).chances) → P one.kind one.chances → after ≡ each ++ one ∷ [] → (place : ℕ) (it : DiscardChances) → place < length after → P (slice_index_or after place it).kind (slice_index_or after place it).chances
  after_more each after one so_far are after_is = subst (λ (all : List DiscardChances). (place : ℕ) (it : DiscardChances) → place < length all → P (slice_index_or all place it).kind (slice_index_or all place it).chances) (sym after_is) all_of
    where
      all_of : (place : ℕ) (it : DiscardChances) → place < length (each ++ one ∷ []) → P (slice_index_or (each ++ one ∷ []) place it).kind (slice_index_or (each ++ one ∷ []) place it).chances
      all_of p it low = ⊎_elim here (λ ne. other (omega (arith, low, ne, length-append each (one ∷ [])))) (cases_eq p (length each))
        where
          other : p < length each → P (slice_index_or (each ++ one ∷ []) p it).kind (slice_index_or (each ++ one ∷ []) p it).chances
          other less = subst (λ (x : DiscardChances). P x.kind x.chances) (sym (get_or_append_left each (one ∷ []) it p less)) (so_far p it less)

          here : p ≡ length each → P (slice_index_or (each ++ one ∷ []) p it).kind (slice_index_or (each ++ one ∷ []) p it).chances
          here e = subst (λ (x : DiscardChances). P x.kind x.chances) (sym (get_or_push each one it p (sym e))) are

pub told_alone : (parts rest : ShapeParts) (kind turns : ℕ) (chances : Chances) → is_there 0 parts ≡ true → rest ≡ parts_without parts kind → AreAtMost rest (unseen_of rest) turns chances → AreAtMost (parts_told parts kind) (unseen_of (parts_without parts kind)) turns chances
told_alone parts rest kind turns chances won rest_is =
    λ are. subst (λ (p : ShapeParts). AreAtMost p (unseen_of (parts_without parts kind)) turns chances) (sym (ap (λ t. cond t (parts_without parts kind) (parts_less parts kind)) won)) (subst (λ (p : ShapeParts). AreAtMost p (unseen_of p) turns chances) rest_is are)

-- ---- all discards of fourteen tiles that are not complete

module _ (drawn : ShapeParts) (is : IsFourteen drawn) (far : 0 < distance_of drawn.tiles drawn.melds) where
  module _ (kind : ℕ) (best : LeavesLeast drawn.tiles drawn.melds kind) where
    pub thirteen_left : IsThirteen (parts_without drawn kind)
    thirteen_left = record {
      each_kind = less_long drawn.tiles kind is.each_kind;
      each_seen = more_long drawn.seen kind is.each_seen;
      thirteen = omega (arith, sum_by-set (λ (n : ℕ). n) drawn.tiles kind (slice_index drawn.tiles kind - 1) 0 (omega (arith, is.each_kind, best.is_kind)), is.fourteen, best.held);
      melded = is.melded;
    }

    of_discard : (unseen turns : ℕ) (chances : Chances) → unseen ≡ unseen_of drawn → AreCounted (parts_less drawn kind) unseen turns chances → AreChances (parts_without drawn kind) turns chances
    of_discard unseen turns chances unseen_is =
        are_chances (parts_without drawn kind) (parts_less drawn kind) unseen turns chances thirteen_left
        (λ goal count. discard_counted goal count kind drawn is far best.is_kind (is_chosen drawn.tiles drawn.melds kind best) ∙ ap (λ n. counted_draws goal (parts_less drawn kind) n count) (sym unseen_is)) (unseen_is ∙ discard_unseen drawn is kind best.is_kind best.held)

    plays_after : (unseen turns : ℕ) (chances : Chances) → unseen ≡ unseen_of drawn → AreCounted (parts_less drawn kind) unseen turns chances → IsNoPlayAbove (parts_without drawn kind) turns chances
    plays_after unseen turns chances unseen_is =
        no_play_above (parts_without drawn kind) (parts_less drawn kind) unseen turns chances
        (λ play goal count. plays_most drawn.melds is.melded play goal count [] (without_one drawn.tiles kind) (with_one drawn.seen kind) drawn.seen unseen
        (knows_left drawn.melds is.melded NoMore drawn.tiles drawn.seen drawn.seen is.each_kind is.each_seen is.each_seen is.fourteen far kind best.is_kind (is_chosen drawn.tiles drawn.melds kind best) (λ other small lacked. omega arith)) (unseen_is ∙ discard_unseen drawn is kind best.is_kind best.held))
        (λ goal count. omega (
          arith,
          chance_law goal (parts_without drawn kind) count thirteen_left,
          discard_counted goal count kind drawn is far best.is_kind (is_chosen drawn.tiles drawn.melds kind best),
          ap (λ n. counted_draws goal (parts_less drawn kind) n count) unseen_is,
          ap (λ n. all_draws n count) (unseen_is ∙ discard_unseen drawn is kind best.is_kind best.held),
        ))

    most_after : (unseen turns : ℕ) (chances : Chances) → unseen ≡ unseen_of drawn → AreCounted (parts_less drawn kind) unseen turns chances → AreAtMost (parts_told drawn kind) (unseen_of (parts_without drawn kind)) turns chances
    most_after unseen turns chances unseen_is are =
        subst (λ (p : ShapeParts). AreAtMost p (unseen_of (parts_without drawn kind)) turns chances) (sym (ap (λ t. cond t (parts_without drawn kind) (parts_less drawn kind)) (not_won (distance_of drawn.tiles drawn.melds) far)))
        (are_at_most (parts_less drawn kind) unseen turns chances (unseen_of (parts_without drawn kind)) (unseen_is ∙ discard_unseen drawn is kind best.is_kind best.held) are)

  module _ (discards : List Discard) (discards_is : discards ≡ discards_of drawn.tiles drawn.melds drawn.seen) (hands : List (List ℕ)) (places : List ℕ) (left : AreLeft hands places drawn.tiles (discard_kinds discards)) where
    pub as_many : length places ≡ length discards
    as_many = sym (length-map places (λ (place : ℕ). slice_index_or hands place [])) ∙ ap length left ∙ length-map (discard_kinds discards) (without_one drawn.tiles) ∙ length-map discards (λ (discard : Discard). discard.kind)

    hand_left : (place : ℕ) → place < length discards → placed_hand drawn hands (slice_index places place) ≡ parts_less drawn (slice_index (discard_kinds discards) place)
    hand_left place low =
        ap (λ (tiles : List ℕ). with_tiles tiles)
        (sym (get_or-map (λ p. slice_index_or hands p []) places place 0 [] (omega (arith, low, as_many))) ∙ ap (λ (hs : List (List ℕ)). slice_index_or hs place []) left ∙ get_or-map (without_one drawn.tiles) (discard_kinds discards) place 0 [] (omega (arith, low, length-map discards (λ (discard : Discard). discard.kind))))
      where
        with_tiles : List ℕ → ShapeParts
        with_tiles tiles = record { tiles = tiles; melds = drawn.melds; seen = drawn.seen }

    module _ (unseen turns : ℕ) (chances : List Chances) (each : List DiscardChances) (unseen_is : unseen ≡ unseen_of drawn) (counted : AreAllCounted drawn hands places unseen turns chances) (kinds_are : told_kinds each ≡ discard_kinds discards) (chances_are : told_chances each ≡ chances)
        (P : ℕ → Chances → Type 0) (of_one : (kind : ℕ) → LeavesLeast drawn.tiles drawn.melds kind → (one : Chances) → AreCounted (parts_less drawn kind) unseen turns one → P kind one) where
      pub each_after : (place : ℕ) (one : DiscardChances) → place < length each → P (slice_index_or each place one).kind (slice_index_or each place one).chances
      each_after place one low = subst (λ k. P k (slice_index_or each place one).chances) (sym kind_is)
          (of_one (slice_index (discard_kinds discards) place) (best_listed drawn discards place discards_is inside) (slice_index_or each place one).chances
          (subst (λ (it : Chances). AreCounted (parts_less drawn (slice_index (discard_kinds discards) place)) unseen turns it) (sym chance_is)
          (subst (λ (p : ShapeParts). AreCounted p unseen turns (slice_index_or chances place one.chances)) (hand_left place inside) (counted place one.chances (omega (arith, inside, as_many))))))
        where
          inside : place < length discards
          inside = omega (arith, low, length-map each (λ (it : DiscardChances). it.kind), ap length kinds_are, length-map discards (λ (discard : Discard). discard.kind))

          kind_is : (slice_index_or each place one).kind ≡ slice_index (discard_kinds discards) place
          kind_is = sym (get_or-map (λ (it : DiscardChances). it.kind) each place one 0 low) ∙ ap (λ (ks : List ℕ). slice_index ks place) kinds_are

          chance_is : (slice_index_or each place one).chances ≡ slice_index_or chances place one.chances
          chance_is = sym (get_or-map (λ (it : DiscardChances). it.chances) each place one one.chances low) ∙ ap (λ (cs : List Chances). slice_index_or cs place one.chances) chances_are

    module _ (unseen turns : ℕ) (chances : List Chances) (each : List DiscardChances) (unseen_is : unseen ≡ unseen_of drawn) (counted : AreAllCounted drawn hands places unseen turns chances) (kinds_are : told_kinds each ≡ discard_kinds discards) (chances_are : told_chances each ≡ chances) where
      pub after_all : AreAfter drawn turns each
      after_all = each_after unseen turns chances each unseen_is counted kinds_are chances_are (λ kind. AreChances (parts_without drawn kind) turns) (λ kind best one. of_discard kind best unseen turns one unseen_is)

      pub after_most : AreAfterAtMost drawn turns each
      after_most = each_after unseen turns chances each unseen_is counted kinds_are chances_are (λ kind. AreAtMost (parts_told drawn kind) (unseen_of (parts_without drawn kind)) turns) (λ kind best one. most_after kind best unseen turns one unseen_is)

      pub after_plays : IsNoPlayAboveAfter drawn turns each
      after_plays = each_after unseen turns chances each unseen_is counted kinds_are chances_are (λ kind. IsNoPlayAbove (parts_without drawn kind) turns) (λ kind best one. plays_after kind best unseen turns one unseen_is)
