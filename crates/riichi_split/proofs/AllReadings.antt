-- All readings of a hand, the special shapes among them.
use Rattle.std.proofs.Common.{◌≡◌, ℕ, ◌↔◌, Bool, ◌⊎◌, inl, inr, List, [], ◌∷◌, ◌++◌, refl, sym, ap, ◌∙◌, subst, IsTrue}
use Rattle.std.specs.List.{flat_map}
use Rattle.riichi_tiles.specs.declared.block.Block.{Block}
use Rattle.riichi_split.specs.declared.split.Split.{Split}
use Rattle.riichi_split.specs.declared.reading.Reading.{Reading}
use Rattle.riichi_split.specs.declared.reading.Reading.TheVariants.{Standard, SevenPairs, Orphans}
use Rattle.riichi_tiles.specs.Forms.{IsSevenPairs, IsThirteenOrphans}
use Rattle.riichi_split.specs.Readings.{IsSplit, IsDone, IsReading, AreTheReadings}
use Rattle.riichi_split.specs.Cuts.{AreTheSplits}
use Rattle.riichi_split.specs.Dones.{flagged, dones, split_blocks, read_with, readings_with}
use Rattle.riichi_tiles.proofs.Members.{All-in, Contains-in, IsIn, in-All, in-Contains, in-cases, in-flat_map, in-flat_map-inv, in-left, in-map, in-map-inv, in-right}
use Rattle.riichi_split.proofs.Lists.{Differ, Differ-append, AllPairs-differ, differ-AllPairs, Differ-map, Differ-flat_map}
use Rattle.riichi_split.proofs.Collections.{in-when, in-when-inv, Differ-when}
use Rattle.riichi_split.proofs.Dones.{dones-inv, in-dones, Differ-dones}

flagged-inv : (b : Bool) (x r : Reading) → IsIn r (flagged b x) → IsTrue b × (x ≡ r)
flagged-inv b x r h = let i = in-when-inv b r (x ∷ []) h in (i.0, elim i.1 [ inl e ↦ e | inr z ↦ absurd z ])

-- ---- the readings of splits

read_with-sets : (s t : Split) (d e : Block) → read_with s d ≡ read_with t e → s ≡ t
read_with-sets s t d e h =
    let sets : s.sets ≡ t.sets = cc in
    let pair : s.pair ≡ t.pair = cc in
    ap (λ z. record { sets = z; pair = s.pair }) sets ∙ ap (λ z. record { sets = t.sets; pair = z }) pair

read_with-done : (s : Split) (d e : Block) → read_with s d ≡ read_with s e → d ≡ e
read_with-done s d e h = cc

Differ-readings_with : (w : ℕ) (s : Split) → Differ (readings_with w s)
Differ-readings_with w s = Differ-map (read_with s) (dones w (split_blocks s)) (read_with-done s) (Differ-dones w (split_blocks s))

one_split : (w : ℕ) (s t : Split) (r : Reading) → IsIn r (readings_with w s) → IsIn r (readings_with w t) → s ≡ t
one_split w s t r a b =
    let i = in-map-inv (read_with s) r (dones w (split_blocks s)) a in
    let j = in-map-inv (read_with t) r (dones w (split_blocks t)) b in
    read_with-sets s t i.0 j.0 (i.2 ∙ sym j.2)

-- the list has each reading of sets and a pair once, and nothing else
record AreStandard (c : List ℕ) (melds w : ℕ) (standard : List Reading) : Type 0 where
  sound : (r : Reading) → IsIn r standard → IsReading c melds w r × ((sets : List Block) × (p : ℕ) × (d : Block) × (r ≡ Standard sets p d))
  complete : (sets : List Block) (p : ℕ) (d : Block) → IsSplit c melds sets p → IsDone w sets p d → IsIn (Standard sets p d) standard
  once : Differ standard

standard-inv : (c : List ℕ) (melds w : ℕ) (splits : List Split) (r : Reading) → AreTheSplits c melds splits → IsIn r (flat_map (readings_with w) splits) → IsReading c melds w r × ((sets : List Block) × (p : ℕ) × (d : Block) × (r ≡ Standard sets p d))
standard-inv c melds w splits r are h =
    let i = in-flat_map-inv (readings_with w) r splits h in
    let j = in-map-inv (read_with i.0) r (dones w (split_blocks i.0)) i.2 in
    let d = dones-inv w j.0 (split_blocks i.0) j.1 in
    let P : Reading → Type 0 = λ z. IsReading c melds w z in
    (subst P j.2 (in-All (λ s. IsSplit c melds s.sets s.pair) splits are.sound i.0 i.1, record { is_there = Contains-in j.0 (split_blocks i.0) d.0; has_winning = d.1 }), (i.0.sets, i.0.pair, j.0, sym j.2))

in-standard : (c : List ℕ) (melds w : ℕ) (splits : List Split) (sets : List Block) (p : ℕ) (d : Block) → AreTheSplits c melds splits → IsSplit c melds sets p → IsDone w sets p d → IsIn (Standard sets p d) (flat_map (readings_with w) splits)
in-standard c melds w splits sets p d are s h =
    let split : Split = record { sets = sets; pair = p } in
    in-flat_map (readings_with w) split (Standard sets p d) splits (in-Contains split splits (are.complete split s)) (in-map (read_with split) d (dones w (split_blocks split)) (in-dones w d (split_blocks split) (in-Contains d (split_blocks split) h.is_there) h.has_winning))

splits-standard : (c : List ℕ) (melds w : ℕ) (splits : List Split) → AreTheSplits c melds splits → AreStandard c melds w (flat_map (readings_with w) splits)
splits-standard c melds w splits are = record {
  sound = λ r h. standard-inv c melds w splits r are h;
  complete = λ sets p d s h. in-standard c melds w splits sets p d are s h;
  once = Differ-flat_map (readings_with w) splits (Differ-readings_with w) (one_split w) (differ-AllPairs splits are.once);
}

-- ---- all readings

abbrev all_of : List Reading → Bool → Bool → List Reading
all_of standard seven orphans = flagged seven SevenPairs ++ (flagged orphans Orphans ++ standard)

all-cases : (standard : List Reading) (seven orphans : Bool) (r : Reading) → IsIn r (all_of standard seven orphans) → (IsTrue seven × (SevenPairs ≡ r)) ⊎ ((IsTrue orphans × (Orphans ≡ r)) ⊎ IsIn r standard)
all-cases standard seven orphans r h =
    elim (in-cases r (flagged seven SevenPairs) (flagged orphans Orphans ++ standard) h) [
      | inl a ↦ inl (flagged-inv seven SevenPairs r a)
      | inr b ↦ inr (elim (in-cases r (flagged orphans Orphans) standard b) [ inl x ↦ inl (flagged-inv orphans Orphans r x) | inr y ↦ inr y ])
    ]

sound-all : (c : List ℕ) (melds w : ℕ) (standard : List Reading) (seven orphans : Bool) (r : Reading) → AreStandard c melds w standard → (IsTrue seven ↔ ((melds ≡ 0) × IsSevenPairs c)) → (IsTrue orphans ↔ ((melds ≡ 0) × IsThirteenOrphans c)) → IsIn r (all_of standard seven orphans) → IsReading c melds w r
sound-all c melds w standard seven orphans r are s o h =
    let P : Reading → Type 0 = λ x. IsReading c melds w x in
    elim (all-cases standard seven orphans r h) [
      | inl a ↦ subst P a.1 (s.0 a.0)
      | inr b ↦ elim b [ inl x ↦ subst P x.1 (o.0 x.0) | inr y ↦ (are.sound r y).0 ]
    ]

complete-all : (c : List ℕ) (melds w : ℕ) (standard : List Reading) (seven orphans : Bool) (r : Reading) → AreStandard c melds w standard → (IsTrue seven ↔ ((melds ≡ 0) × IsSevenPairs c)) → (IsTrue orphans ↔ ((melds ≡ 0) × IsThirteenOrphans c)) → IsReading c melds w r → IsIn r (all_of standard seven orphans)
complete-all c melds w standard seven orphans (Standard sets p d) are s o h =
    in-right _ (flagged seven SevenPairs) _ (in-right _ (flagged orphans Orphans) _ (are.complete sets p d h.0 h.1))
complete-all c melds w standard seven orphans SevenPairs are s o h = in-left _ _ _ (in-when seven SevenPairs (SevenPairs ∷ []) (s.1 h) (inl refl))
complete-all c melds w standard seven orphans Orphans are s o h = in-right _ (flagged seven SevenPairs) _ (in-left _ _ _ (in-when orphans Orphans (Orphans ∷ []) (o.1 h) (inl refl)))

pub the_readings : (c : List ℕ) (melds w : ℕ) (splits : List Split) (seven orphans : Bool) → AreTheSplits c melds splits → (IsTrue seven ↔ ((melds ≡ 0) × IsSevenPairs c)) → (IsTrue orphans ↔ ((melds ≡ 0) × IsThirteenOrphans c)) → AreTheReadings c melds w (all_of (flat_map (readings_with w) splits) seven orphans)
the_readings c melds w splits seven orphans the_splits s o = let standard = flat_map (readings_with w) splits in let are = splits-standard c melds w splits the_splits in record {
  sound = All-in (IsReading c melds w) (all_of standard seven orphans) (λ r h. sound-all c melds w standard seven orphans r are s o h);
  complete = λ r h. Contains-in r (all_of standard seven orphans) (complete-all c melds w standard seven orphans r are s o h);
  once = AllPairs-differ (all_of standard seven orphans)
      (Differ-append (flagged seven SevenPairs) (flagged orphans Orphans ++ standard) (Differ-when seven (SevenPairs ∷ []) (λ h. h, tt))
      (Differ-append (flagged orphans Orphans) standard (Differ-when orphans (Orphans ∷ []) (λ h. h, tt)) are.once
      (λ r a b. let x = (flagged-inv orphans Orphans r a).1 in let y = (are.sound r b).1.3 in absurd (cc)))
      (λ r a b. let x = (flagged-inv seven SevenPairs r a).1 in
      elim (in-cases r (flagged orphans Orphans) standard b) [
        | inl i ↦ let z = (flagged-inv orphans Orphans r i).1 in absurd (cc)
        | inr j ↦ let y = (are.sound r j).1.3 in absurd (cc)
      ]));
}
