-- The points of the game are those that the accepted kinds tell, and no more than the dearest win for each draw.
use Rattle.std.proofs.Common.{◌≡◌, ℕ, zero, suc, ◌+◌, ◌-◌, ◌*◌, ◌<◌, ◌≤◌, Bool, true, false, List, refl, sym, ap, ◌∙◌, arith}
use Rattle.std.specs.Prelude.{sum_by}
use Rattle.riichi_hand.specs.HandParts.{ShapeParts}
use Rattle.riichi_tiles.specs.Melds.{every_kind, tiles}
use Rattle.riichi_tiles.specs.declared.meld.Meld.{Meld}
use Rattle.riichi_shape.specs.Accepted.{live_of, with_one, without_one}
use Rattle.riichi_shape.specs.Discards.{is_discard}
use Rattle.riichi_shape.specs.EveryWinning.{distance_of}
use Rattle.riichi_shape.proofs.Choices.{leaves_least}
use Rattle.riichi_deeper.specs.Drawn.{parts_without}
use Rattle.riichi_chances.specs.Counted.{parts_less}
use Rattle.riichi_chances.specs.Draws.{all_draws, is_there, unseen_of, value_behind}
use Rattle.riichi_chances.specs.Laws.{IsFourteen, IsThirteen}
use Rattle.riichi_chances.proofs.BoundLemmas.{times_few}
use Rattle.riichi_chances.proofs.ChanceLemmas.{sum_few}
use Rattle.riichi_chances.proofs.CountedLemmas.{AgreeOnLacked, AreSame, discard_unseen, knows_left, one_turn, parts_of}
use Rattle.riichi_chances.proofs.RowLemmas.{not_won, some_lack}
use Rattle.riichi_chances.proofs.SpanLemmas.{all_more}
use Rattle.riichi_worth.specs.CountedPoints.{counted_points}
use Rattle.riichi_worth.specs.Laws.{CountedLaw, FewLaw}
use Rattle.riichi_worth.specs.Prizes.{prize_of}
use Rattle.riichi_worth.specs.Worths.{total_points}
use Rattle.riichi_worth.specs.declared.stakes.Stakes.{Stakes}
use Rattle.riichi_worth.proofs.PrizeLemmas.{prize_few}

module _ (stakes : Stakes) (melds : List Meld) (melded : (kind : ℕ) → kind < 34 → tiles melds kind ≤ 4) where
  far_away : (hand seen told : List ℕ) → AgreeOnLacked hand melds seen told → is_there 0 (parts_of hand melds seen) ≡ false
  far_away hand seen told know = not_won (distance_of hand melds) (some_lack (parts_of hand melds seen) (record { each_kind = know.long; each_seen = know.seen_long; thirteen = know.thirteen; melded = melded }))

  -- what a kind brings, where so many tiles are unseen
  abbrev prize_at : List ℕ → ℕ → ℕ → ℕ → ℕ
  prize_at hand left m kind = prize_of stakes hand melds kind * all_draws (m - 1) left

  abbrev one_turn_of : List ℕ → List ℕ → ℕ → ℕ → ℕ
  one_turn_of hand seen left m = sum_by (λ kind. live_of hand melds seen kind * value_behind 0 (prize_at hand left m kind) (λ rest. total_points stakes rest left) (parts_of hand melds seen) kind) every_kind

  pub points_counted : (turns : ℕ) (hand seen told : List ℕ) (n : ℕ) → AgreeOnLacked hand melds seen told → n ≡ unseen_of (parts_of hand melds seen) → total_points stakes (parts_of hand melds seen) turns ≡ counted_points stakes (parts_of hand melds told) n turns
  unfolding total_points counted_points
  points_counted zero hand seen told n know n_is = refl
  points_counted (suc left) hand seen told n know n_is =
      ap (one_turn_of hand seen left) (sym n_is)
      ∙ one_turn melds melded 0 (prize_at hand left n) (λ rest. total_points stakes rest left) (λ rest. counted_points stakes rest (n - 1) left) hand seen told know n n_is (far_away hand seen told know) (λ h s t. points_counted left h s t (n - 1))

  pub points_few : (turns : ℕ) (hand seen told : List ℕ) (n : ℕ) → AgreeOnLacked hand melds seen told → n ≡ unseen_of (parts_of hand melds seen) → total_points stakes (parts_of hand melds seen) turns ≤ 5000000 * all_draws n turns
  unfolding total_points
  points_few zero hand seen told n know n_is = omega arith
  points_few (suc left) hand seen told n know n_is =
      omega (
        arith,
        ap (one_turn_of hand seen left) n_is,
        sum_few melds melded 0 (5000000 * all_draws (n - 1) left) (prize_at hand left n) (λ rest. total_points stakes rest left) hand seen told know n n_is (λ kind. times_all (prize_of stakes hand melds kind) (all_draws (n - 1) left) (prize_few stakes hand melds kind)) (λ h s t. points_few left h s t (n - 1)),
        all_more n left,
      )
    where
      times_all : (p a : ℕ) → p ≤ 5000000 → p * a ≤ 5000000 * a
      times_all p a few = times_few p 5000000 a a few (omega arith)

known : (parts : ShapeParts) → IsThirteen parts → AgreeOnLacked parts.tiles parts.melds parts.seen parts.seen
known parts is = record { long = is.each_kind; seen_long = is.each_seen; told_long = is.each_seen; thirteen = is.thirteen; alike = λ kind low lacked. refl }

pub counted_law : CountedLaw
counted_law stakes parts turns is = points_counted stakes parts.melds is.melded turns parts.tiles parts.seen parts.seen (unseen_of parts) (known parts is) refl

pub few_law : FewLaw
few_law stakes parts turns is = points_few stakes parts.melds is.melded turns parts.tiles parts.seen parts.seen (unseen_of parts) (known parts is) refl

-- after a best discard of fourteen tiles that are not complete, which is seen then: what it took is accepted no more
pub discard_points : (stakes : Stakes) (turns kind : ℕ) (drawn : ShapeParts) → IsFourteen drawn → 0 < distance_of drawn.tiles drawn.melds → kind < 34 → is_discard drawn.tiles drawn.melds kind ≡ true →
    total_points stakes (parts_without drawn kind) turns ≡ counted_points stakes (parts_less drawn kind) (unseen_of drawn) turns
discard_points stakes turns kind drawn is far low best =
    points_counted stakes drawn.melds is.melded turns (without_one drawn.tiles kind) (with_one drawn.seen kind) drawn.seen (unseen_of drawn) (knows_left drawn.melds is.melded AreSame drawn.tiles drawn.seen drawn.seen is.each_kind is.each_seen is.each_seen is.fourteen far kind low best (λ other small lacked. refl))
    (discard_unseen drawn is kind low (leaves_least drawn.tiles drawn.melds kind low best).held)
