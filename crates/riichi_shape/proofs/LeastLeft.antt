-- What a discard leaves: of a hand that is not complete some tile can go without loss, and of a complete one each leaves one lacking.
use Rattle.std.proofs.Common.{◌≡◌, ℕ, ◌-◌, ◌<◌, ◌≤◌, List, length, length-set, max, inl, inr, ◌⊎◌, refl, sym, ap, subst, ◌∙◌, ⊎_elim, arith}
use Rattle.std.proofs.lemmas.Bool.{cases_lt}
use Rattle.std.proofs.lemmas.List.Sums.{sum_by-set}
use Rattle.std.specs.Prelude.{slice_index}
use Rattle.riichi_hand.specs.Hand.{size}
use Rattle.riichi_tiles.specs.Melds.{tiles}
use Rattle.riichi_tiles.specs.declared.meld.Meld.{Meld}
use Rattle.riichi_rows.specs.Lacked.{IsOneMore}
use Rattle.riichi_rows.proofs.Spread.{Falls, spread, sum_range}
use Rattle.riichi_shape.specs.Accepted.{without_one}
use Rattle.riichi_shape.specs.Discards.{distance_without}
use Rattle.riichi_shape.specs.Distance.{IsDistance}
use Rattle.riichi_shape.specs.EveryWinning.{distance_of}
use Rattle.riichi_shape.specs.Winning.{lacking}
use Rattle.riichi_shape.proofs.Distances.{some_place}
use Rattle.riichi_shape.proofs.Nearer.{distance_reached}
use Rattle.riichi_shape.proofs.OneMore.{hand_falls, one_less}
use Rattle.riichi_shape.proofs.PairLemmas.{sum_spread}
use Rattle.riichi_shape.proofs.ReadyLemmas.{balance, ready_is, tiles_of_winning}
use Rattle.riichi_shape.proofs.RemovalLemmas.{IsLeastLeft}

module _ (hand : List ℕ) (melds : List Meld) (long : length hand ≡ 34) (fourteen : size hand melds ≡ 14) (of_a_kind : (kind : ℕ) → kind < 34 → tiles melds kind ≤ 4) where
  few : length melds ≤ 4
  few = omega (arith, fourteen)

  before : IsDistance hand melds (distance_of hand melds)
  before = distance_reached hand melds few of_a_kind

  -- as many tiles are left over as are lacking
  left_over : spread (λ k. slice_index hand k - slice_index before.wanted k) 0 34 ≡ distance_of hand melds
  left_over =
      omega (arith, balance (slice_index before.wanted) (slice_index hand) 0 34, tiles_of_winning melds before.wanted few before.is_winning, sum_spread hand long, fourteen, sum_range (λ k. slice_index before.wanted k - slice_index hand k) 0 34, before.reached)

  module _ (kind : ℕ) (inside : kind < 34) (held : 0 < slice_index hand kind) where
    one : IsOneMore kind (without_one hand kind) hand
    one = one_less hand (without_one hand kind) kind (slice_index hand kind - 1) (omega (arith, long, inside)) refl (omega (arith, held))

    falls : (wanted : List ℕ) → Falls (slice_index (without_one hand kind)) (slice_index wanted) kind (lacking (without_one hand kind) wanted) (lacking hand wanted)
    falls wanted = hand_falls (without_one hand kind) hand wanted kind inside one

    after : IsDistance (without_one hand kind) melds (distance_without hand melds kind)
    after = distance_reached (without_one hand kind) melds few of_a_kind

    thirteen : size (without_one hand kind) melds ≡ 13
    thirteen = omega (arith, sum_by-set (λ (n : ℕ). n) hand kind (slice_index hand kind - 1) 0 (omega (arith, long, inside)), fourteen, held)

    some_left : 0 < distance_without hand melds kind
    some_left = (ready_is (without_one hand kind) melds (distance_without hand melds kind) (length-set hand kind (slice_index hand kind - 1) ∙ long) thirteen after).0

    none_less : max (distance_of hand melds) 1 ≤ distance_without hand melds kind
    none_less =
        let bound = before.none_less after.wanted after.is_winning in
        ⊎_elim (λ lacks. (let e = lacks.1 in omega (arith, e, after.reached, bound, some_left))) (λ not. (let e = not.1 in omega (arith, e, after.reached, bound, some_left))) (falls after.wanted)

    -- without a tile that is left over no more is lacking, and without another one more
    reached : (slice_index before.wanted kind < slice_index hand kind) ⊎ (distance_of hand melds ≡ 0) → distance_without hand melds kind ≡ max (distance_of hand melds) 1
    reached why =
        let bound = after.none_less before.wanted before.is_winning in
        ⊎_elim (λ lacks. (let e = lacks.1 in let short = lacks.0 in ⊎_elim (λ over. absurd (omega (arith, over, short, one.here))) (λ none. omega (arith, e, before.reached, bound, none_less, none)) why))
        (λ not. (let e = not.1 in omega (arith, e, before.reached, bound, none_less))) (falls before.wanted)

  least_left : IsLeastLeft hand melds (max (distance_of hand melds) 1)
  least_left = ⊎_elim incomplete complete (cases_lt 0 (distance_of hand melds))
    where
      at : (place : ℕ) (low : place < 34) (held : 0 < slice_index hand place) → (slice_index before.wanted place < slice_index hand place) ⊎ (distance_of hand melds ≡ 0) → IsLeastLeft hand melds (max (distance_of hand melds) 1)
      at place low held why = record { bound = none_less; place = place; is_kind = low; held = held; reached = reached place low held why }

      incomplete : 0 < distance_of hand melds → IsLeastLeft hand melds (max (distance_of hand melds) 1)
      incomplete some =
          let p = some_place (λ k. slice_index hand k - slice_index before.wanted k) 0 34 (omega (arith, left_over, some)) in
          at p.place (omega (arith, p.high)) (omega (arith, p.some)) (inl (omega (arith, p.some)))

      complete : distance_of hand melds ≤ 0 → IsLeastLeft hand melds (max (distance_of hand melds) 1)
      complete none =
          let p = some_place (slice_index hand) 0 34 (omega (arith, sum_spread hand long, fourteen, few)) in
          at p.place (omega (arith, p.high)) p.some (inr (omega (arith, none)))

  pub least_is : (distance least : ℕ) → distance ≡ distance_of hand melds → least ≡ max distance 1 → IsLeastLeft hand melds least
  least_is distance least distance_is e = subst (IsLeastLeft hand melds) (sym (e ∙ ap (λ n. max n 1) distance_is)) least_left
