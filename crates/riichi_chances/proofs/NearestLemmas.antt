-- What a hand lacks after a tile that brought it nearer and a best discard, it lacked before; and it is not the tile that was thrown.
use Rattle.std.proofs.Common.{◌≡◌, ◌≢◌, ℕ, ◌+◌, ◌-◌, ◌<◌, ◌≤◌, true, max, List, length, length-set, refl, ap, ◌∙◌, ⊎_elim, arith}
use Rattle.std.proofs.lemmas.Bool.{cases_eq, eqb-true}
use Rattle.std.specs.Prelude.{slice_index}
use Rattle.riichi_hand.specs.Hand.{size}
use Rattle.riichi_tiles.specs.Melds.{tiles}
use Rattle.riichi_tiles.specs.declared.meld.Meld.{Meld}
use Rattle.riichi_rows.specs.Lacked.{IsOneMore}
use Rattle.riichi_shape.specs.Accepted.{with_one, without_one}
use Rattle.riichi_shape.specs.Discards.{distance_without, is_discard}
use Rattle.riichi_shape.specs.Distance.{IsDistance}
use Rattle.riichi_shape.specs.EveryWinning.{distance_of}
use Rattle.riichi_shape.specs.Lacked.{WinningLacks}
use Rattle.riichi_shape.specs.Winning.{IsWinning, lacking}
use Rattle.riichi_shape.proofs.Choices.{leaves_least}
use Rattle.riichi_shape.proofs.LeastLeft.{least_is}
use Rattle.riichi_shape.proofs.Nearer.{distance_reached}
use Rattle.riichi_shape.proofs.OneMore.{accepted, hand_falls, one_less}
use Rattle.riichi_shape.proofs.RemovalLemmas.{chosen_is}
use Rattle.riichi_deeper.proofs.DrawnLemmas.{more_here, more_other}

pub one_more_of : (hand : List ℕ) (kind : ℕ) → length hand ≡ 34 → kind < 34 → IsOneMore kind hand (with_one hand kind)
one_more_of hand kind long inside = record { here = more_here hand kind (omega (arith, long, inside)); elsewhere = λ other ne. more_other hand kind other ne }

pub more_long : (hand : List ℕ) (kind : ℕ) → length hand ≡ 34 → length (with_one hand kind) ≡ 34
more_long hand kind long = length-set hand kind (slice_index hand kind + 1) ∙ long

pub less_long : (hand : List ℕ) (kind : ℕ) → length hand ≡ 34 → length (without_one hand kind) ≡ 34
less_long hand kind long = length-set hand kind (slice_index hand kind - 1) ∙ long

-- a best discard of a hand that is not complete keeps the distance
pub best_keeps : (hand : List ℕ) (melds : List Meld) → length hand ≡ 34 → size hand melds ≡ 14 → ((kind : ℕ) → kind < 34 → tiles melds kind ≤ 4) →
    (kind : ℕ) → kind < 34 → is_discard hand melds kind ≡ true → 0 < distance_of hand melds → distance_without hand melds kind ≡ distance_of hand melds
best_keeps hand melds long fourteen melded kind inside best some =
    let held = (leaves_least hand melds kind inside best).held in
    let least = max (distance_of hand melds) 1 in
    let left = least_is hand melds long fourteen melded (distance_of hand melds) least refl refl in
    omega (arith, eqb-true (distance_without hand melds kind) least (chosen_is hand melds least left kind inside held ∙ best), some)

-- a best discard of fourteen tiles
module _ (more : List ℕ) (melds : List Meld) (few : length melds ≤ 4) (melded : (kind : ℕ) → kind < 34 → tiles melds kind ≤ 4) (long : length more ≡ 34) (thrown : ℕ) (thrown_in : thrown < 34)
    (held : 0 < slice_index more thrown) (keeps : distance_without more melds thrown ≡ distance_of more melds) where
  abbrev rest : List ℕ
  rest = without_one more thrown

  reached : (h : List ℕ) → IsDistance h melds (distance_of h melds)
  reached h = distance_reached h melds few melded

  pub lost : IsOneMore thrown rest more
  lost = one_less more rest thrown (slice_index more thrown - 1) (omega (arith, long, thrown_in)) refl (omega (arith, held))

  module _ (kind : ℕ) (inside : kind < 34) (lowers : distance_of (with_one rest kind) melds < distance_of rest melds) where
    pub lacks : WinningLacks rest melds (distance_of rest melds) kind
    lacks =
        (accepted rest (with_one rest kind) melds (distance_of rest melds) (distance_of (with_one rest kind) melds) kind inside (one_more_of rest kind (less_long more thrown long) inside) (reached rest) (reached (with_one rest kind))).0 lowers

    pub wins : IsWinning melds lacks.wanted
    wins = record { form = lacks.is_form; within_four = lacks.within_four }

    -- the discard took nothing that this multiset wants
    left_over : slice_index lacks.wanted thrown ≤ slice_index rest thrown
    left_over =
        ⊎_elim (λ short. absurd (let e = short.1 in omega (arith, e, lacks.lacks, (reached more).none_less lacks.wanted wins, keeps))) (λ over. over.0) (hand_falls rest more lacks.wanted thrown thrown_in lost)

    pub same_lack : lacking more lacks.wanted ≡ distance_of more melds
    same_lack =
        ⊎_elim (λ short. absurd (let e = short.1 in omega (arith, e, lacks.lacks, (reached more).none_less lacks.wanted wins, keeps))) (λ over. (let e = over.1 in omega (arith, e, lacks.lacks, keeps))) (hand_falls rest more lacks.wanted thrown thrown_in lost)

    pub not_thrown : kind ≢ thrown
    not_thrown same = omega (arith, lacks.lacks_kind, left_over, ap (slice_index rest) same, ap (slice_index lacks.wanted) same)

-- the same once a tile that brings it nearer has come
module _ (hand : List ℕ) (melds : List Meld) (few : length melds ≤ 4) (melded : (kind : ℕ) → kind < 34 → tiles melds kind ≤ 4) (long : length hand ≡ 34) (drawn thrown : ℕ) (drawn_in : drawn < 34) (thrown_in : thrown < 34)
    (held : 0 < slice_index (with_one hand drawn) thrown) (nearer : distance_of (with_one hand drawn) melds < distance_of hand melds) (keeps : distance_without (with_one hand drawn) melds thrown ≡ distance_of (with_one hand drawn) melds)
    (kind : ℕ) (inside : kind < 34) (lowers : distance_of (with_one (without_one (with_one hand drawn) thrown) kind) melds < distance_of (without_one (with_one hand drawn) thrown) melds) where
  gained : IsOneMore drawn hand (with_one hand drawn)
  gained = one_more_of hand drawn long drawn_in

  abbrev wanted : WinningLacks (without_one (with_one hand drawn) thrown) melds (distance_of (without_one (with_one hand drawn) thrown) melds) kind
  wanted = lacks (with_one hand drawn) melds few melded (more_long hand drawn long) thrown thrown_in held keeps kind inside lowers

  differs : kind ≢ thrown
  differs = not_thrown (with_one hand drawn) melds few melded (more_long hand drawn long) thrown thrown_in held keeps kind inside lowers

  -- so it was one of the nearest before
  was_nearest : lacking hand wanted.wanted ≡ distance_of hand melds
  was_nearest =
      let bound = (distance_reached hand melds few melded).none_less wanted.wanted (record { form = wanted.is_form; within_four = wanted.within_four }) in
      let same = same_lack (with_one hand drawn) melds few melded (more_long hand drawn long) thrown thrown_in held keeps kind inside lowers in
      ⊎_elim (λ short. (let e = short.1 in omega (arith, e, same, nearer, bound))) (λ over. absurd (let e = over.1 in omega (arith, e, same, nearer, bound))) (hand_falls hand (with_one hand drawn) wanted.wanted drawn drawn_in gained)

  lacked_before : slice_index hand kind < slice_index wanted.wanted kind
  lacked_before =
      let same = (lost (with_one hand drawn) melds few melded (more_long hand drawn long) thrown thrown_in held keeps).elsewhere kind differs in
      ⊎_elim (λ here. omega (arith, same, wanted.lacks_kind, gained.here, ap (slice_index hand) here, ap (slice_index (with_one hand drawn)) here)) (λ ne. omega (arith, same, wanted.lacks_kind, gained.elsewhere kind ne)) (cases_eq kind drawn)

  pub lowered_before : distance_of (with_one hand kind) melds < distance_of hand melds
  lowered_before =
      (accepted hand (with_one hand kind) melds (distance_of hand melds) (distance_of (with_one hand kind) melds) kind inside (one_more_of hand kind long inside) (distance_reached hand melds few melded) (distance_reached (with_one hand kind) melds few melded)).1
      (record { wanted = wanted.wanted; is_form = wanted.is_form; within_four = wanted.within_four; lacks = was_nearest; lacks_kind = lacked_before })
