-- A hand with a winning form has a reading, whichever of its tiles wins.
use Rattle.std.proofs.Common.{◌≡◌, ℕ, ◌+◌, ◌-◌, ◌<◌, ◌≤◌, ◌⊎◌, ◌↔◌, true, List, [], ◌∷◌, ◌++◌, length, get_or, inl, inr, refl, arith, eqb, ltb, cond, IsTrue}
use Rattle.std.specs.Prelude.{sum_by}
use Rattle.std.proofs.lemmas.Bool.{cases_lt}
use Rattle.std.proofs.lemmas.Bool.Decides.{nat_tests}
use Rattle.std.proofs.lemmas.List.Sums.{sum_by-cons}
use Rattle.riichi_tiles.specs.Blocks.{copies, total}
use Rattle.riichi_tiles.specs.Forms.{HasWinningForm, IsSetsAndPair, IsSevenPairs, IsThirteenOrphans, orphan_copies}
use Rattle.riichi_tiles.specs.Kinds.{is_orphan}
use Rattle.riichi_tiles.specs.Melds.{every_kind}
use Rattle.riichi_tiles.specs.declared.block.Block.{Block}
use Rattle.riichi_tiles.specs.declared.block.Block.TheVariants.{Pair}
use Rattle.riichi_split.specs.declared.reading.Reading.{Reading}
use Rattle.riichi_split.specs.declared.reading.Reading.TheVariants.{Standard, SevenPairs, Orphans}
use Rattle.riichi_split.specs.Readings.{IsSplit, IsDone, IsReading, AreTheReadings}
use Rattle.riichi_split.specs.Winning.{HasReading, HasSplit, IsWin}
use Rattle.riichi_tiles.proofs.Members.{Contains-in, IsIn, in-All, in-Contains, in-left, in-right}
use Rattle.riichi_split.proofs.MadeOf.{adds-everywhere, each-set, made-of}
use Rattle.riichi_split.proofs.Orders.{length-sorted, order-sorted, sets-sorted, sorted, total-sorted}

-- ---- a block with the tile

block_with : (blocks : List Block) (w : ℕ) → 0 < total blocks w → (b : Block) × IsIn b blocks × (0 < copies b w)
block_with [] w h = absurd (omega arith)
block_with (b ∷ blocks) w h =
    elim (cases_lt 0 (copies b w)) [
      | inl l ↦ (b, inl refl, l)
      | inr g ↦ let i = block_with blocks w (omega arith) in (i.0, inr i.1, i.2)
    ]

pair_last : (b pair : Block) (sets : List Block) → IsIn b (pair ∷ sets) → IsIn b (sets ++ pair ∷ [])
pair_last b pair sets (inl e) = in-right b sets (pair ∷ []) (inl e)
pair_last b pair sets (inr h) = in-left b sets (pair ∷ []) h

done_for : (c : List ℕ) (melds w : ℕ) (sets : List Block) (p : ℕ) → length c ≡ 34 → IsSplit c melds sets p → 0 < get_or c w 0 → (d : Block) × IsDone w sets p d
done_for c melds w sets p long s h =
    let a : total (Pair p ∷ sets) w ≡ get_or c w 0 = adds-everywhere c sets p long s.made_of w in
    let i = block_with (Pair p ∷ sets) w (omega arith) in
    (i.0, record { is_there = Contains-in i.0 (sets ++ Pair p ∷ []) (pair_last i.0 (Pair p) sets i.1); has_winning = i.2 })

-- ---- the three forms, with the sets in order

abbrev pub HasShape : List ℕ → ℕ → Type 0
HasShape c melds = HasSplit c melds ⊎ ((melds ≡ 0) × IsSevenPairs c) ⊎ ((melds ≡ 0) × IsThirteenOrphans c)

split-of : (c : List ℕ) (melds : ℕ) → melds ≤ 4 → IsSetsAndPair (4 - melds) c → HasSplit c melds
split-of c melds few is = (
  sorted is.blocks,
  is.pair,
  record {
    four = omega (arith, length-sorted is.blocks, is.has_sets, few);
    made_of = made-of c (sorted is.blocks) is.pair (sets-sorted is.blocks (each-set c is.blocks is.pair is.made_of)) is.made_of.is_kind (λ k low. omega (arith, is.made_of.adds_up k low, total-sorted k is.blocks));
    in_order = order-sorted is.blocks;
  },
)

sets-of : (c : List ℕ) (melds : ℕ) → HasSplit c melds → IsSetsAndPair (4 - melds) c
sets-of c melds has = record { blocks = has.0; pair = has.1; made_of = has.2.made_of; has_sets = omega (arith, has.2.four) }

-- a winning form is one whose sets can be put in order
pub form-iff : (c : List ℕ) (melds : ℕ) → HasShape c melds ↔ ((melds ≤ 4) × HasWinningForm melds c)
form-iff c melds = (from, back)
  where
    from : HasShape c melds → (melds ≤ 4) × HasWinningForm melds c
    from (inl split) = (omega (arith, split.2.four), inl (sets-of c melds split))
    from (inr (inl seven)) = (omega (arith, seven.0), inr (inl seven))
    from (inr (inr orphans)) = (omega (arith, orphans.0), inr (inr orphans))

    back : (melds ≤ 4) × HasWinningForm melds c → HasShape c melds
    back (few, inl sets) = inl (split-of c melds few sets)
    back (few, inr special) = inr special

-- ---- any tile wins

reading-from : (c : List ℕ) (melds w : ℕ) → length c ≡ 34 → 0 < get_or c w 0 → HasShape c melds → HasReading c melds w
reading-from c melds w long h (inl s) = let d = done_for c melds w s.0 s.1 long s.2 h in (Standard s.0 s.1 d.0, (s.2, d.1))
reading-from c melds w long h (inr (inl s)) = (SevenPairs, s)
reading-from c melds w long h (inr (inr o)) = (Orphans, o)

shape-of : (c : List ℕ) (melds w : ℕ) (r : Reading) → IsReading c melds w r → HasShape c melds
shape-of c melds w (Standard sets p d) h = inl (sets, p, h.0)
shape-of c melds w SevenPairs h = inr (inl h)
shape-of c melds w Orphans h = inr (inr h)

pub reading-iff : (c : List ℕ) (melds w : ℕ) → length c ≡ 34 → 0 < get_or c w 0 → HasShape c melds ↔ HasReading c melds w
reading-iff c melds w long h = (reading-from c melds w long h, λ r. shape-of c melds w r.0 r.1)

-- ---- a tile of the hand

some-held : (f : ℕ → ℕ) (kinds : List ℕ) → 0 < sum_by f kinds → (k : ℕ) × (0 < f k)
some-held f [] some = absurd (omega (arith, some))
some-held f (k ∷ kinds) some = elim (cases_lt 0 (f k)) [
  | inl held ↦ (k, held)
  | inr none ↦ some-held f kinds (omega (arith, some, none, sum_by-cons f k kinds))
]

orphan_held : (d : ℕ) → is_orphan d ≡ true → 0 < orphan_copies d d
orphan_held d o = grind (arith, nat_tests)

some_tile : (c : List ℕ) (melds : ℕ) → HasShape c melds → (w : ℕ) × (0 < get_or c w 0)
some_tile c melds (inl s) =
    let p = s.1 in
    let a : get_or c p 0 ≡ cond (eqb p p) 2 0 + total s.0 p = s.2.made_of.adds_up p s.2.made_of.is_kind in
    (p, grind (arith, nat_tests))
some_tile c melds (inr (inl s)) = some-held (λ k. get_or c k 0) every_kind (omega (arith, s.1.fourteen))
some_tile c melds (inr (inr o)) =
    let d = o.1.doubled in
    let e = o.1.at d o.1.is_kind in
    let h = orphan_held d o.1.doubles_orphan in
    (d, omega (arith, e, h))

pub win-iff : (c : List ℕ) (melds : ℕ) → length c ≡ 34 → HasShape c melds ↔ IsWin c melds
win-iff c melds long = (
  λ s. let t = some_tile c melds s in (t.0, t.1, reading-from c melds t.0 long t.1 s),
  λ w. shape-of c melds w.0 w.2.0 w.2.1,
)

-- ---- a list of readings that is not empty

pub some-reading : (c : List ℕ) (melds w : ℕ) (readings : List Reading) → AreTheReadings c melds w readings → IsTrue (ltb 0 (length readings)) ↔ HasReading c melds w
some-reading c melds w [] are = (λ t. absurd (cc), λ h. absurd (in-Contains h.0 [] (are.complete h.0 h.1)))
some-reading c melds w (r ∷ rs) are = (λ t. (r, in-All (IsReading c melds w) (r ∷ rs) are.sound r (inl refl)), λ h. grind (arith, nat_tests))
