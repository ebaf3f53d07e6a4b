-- Seven pairs and thirteen orphans, which stand beside no meld.
use Rattle.std.specs.Prelude.{◌≡◌, ◌==◌, ℕ, ◌<◌, ◌≤◌, ◌↔◌, ◌⊎◌, ◌&&◌, ◌||◌, Bool, false, IsTrue, if◌then◌else◌, List, length, slice_index}
use Rattle.riichi_tiles.specs.Melds.{tiles}
use Rattle.riichi_tiles.specs.declared.meld.Meld.{Meld}
use Rattle.riichi_shape.specs.Distance.{OrphansReached, PairsReached}
use Rattle.riichi_shape.specs.Lacked.{FormLacks}
use Rattle.riichi_tiles.specs.Forms.{IsSevenPairs, IsThirteenOrphans}
use Rattle.riichi_tiles.specs.Kinds.{is_orphan}
use Rattle.riichi_shape.specs.Winning.{lacking}
use Rattle.riichi_shape.specs.declared.nearest_form.NearestForm.{NearestForm}
use Rattle.riichi_shape.specs.declared.lacked_held.LackedHeld.{LackedHeld}
use Rattle.riichi_shape.specs.declared.special.SpecialForms.{SpecialForms}
use Rattle.riichi_shape.specs.declared.special.SpecialLacked.{SpecialLacked}

-- beside so many melds: without any meld seven different pairs or thirteen orphans
abbrev pub HasSpecialForm : ℕ → List ℕ → Type 0
HasSpecialForm melds wanted = ((melds ≡ 0) × IsSevenPairs wanted) ⊎ ((melds ≡ 0) × IsThirteenOrphans wanted)

-- no multiset of these forms lacks fewer than n tiles
pub record SpecialLacks (hand : List ℕ) (melds : List Meld) (n : ℕ) : Type 0 where
  pub bound : (wanted : List ℕ) → HasSpecialForm (length melds) wanted → n ≤ lacking hand wanted

-- some such multiset lacks n and none fewer; beside melds, where there is none, n is more than any distance
pub record IsSpecialDistance (hand : List ℕ) (melds : List Meld) (n : ℕ) : Type 0 where
  pub none_less : SpecialLacks hand melds n
  pub reached : length melds ≡ 0 → PairsReached hand n ⊎ OrphansReached hand n
  pub beside : 0 < length melds → n ≡ 255

-- a kind of which so many are held is lacked
abbrev pub lacks_held : LackedHeld → ℕ → Bool
lacks_held lacked held = (held == 0 && lacked.missing) || (held == 1 && lacked.single)

-- no kind is
abbrev pub no_kind : LackedHeld
no_kind = record { missing = false; single = false }

-- the kinds that are lacked, where the form lacks just n tiles
abbrev pub lacked_at : NearestForm → ℕ → LackedHeld
lacked_at form n = if form.lack == n then form.lacked else no_kind

abbrev pub special_lacks : SpecialLacked → ℕ → ℕ → Bool
special_lacks lacked kind held = lacks_held lacked.pairs held || (lacks_held lacked.orphans held && is_orphan kind)

-- melds without any tile
abbrev pub AreNoMelds : List Meld → Type 0
AreNoMelds melds = (kind : ℕ) → kind < 34 → tiles melds kind ≡ 0

-- what a hand lacks of seven pairs, and the kinds that the nearest lack
pub record AreNearestPairs (hand : List ℕ) (form : NearestForm) : Type 0 where
  pub bound : (wanted : List ℕ) → IsSevenPairs wanted → form.lack ≤ lacking hand wanted
  pub reached : PairsReached hand form.lack
  pub lacked : (melds : List Meld) → AreNoMelds melds → (kind : ℕ) → kind < 34 →
      IsTrue (lacks_held form.lacked (slice_index hand kind)) ↔ FormLacks IsSevenPairs hand melds form.lack kind

-- the same of thirteen orphans
pub record AreNearestOrphans (hand : List ℕ) (form : NearestForm) : Type 0 where
  pub bound : (wanted : List ℕ) → IsThirteenOrphans wanted → form.lack ≤ lacking hand wanted
  pub reached : OrphansReached hand form.lack
  pub lacked : (melds : List Meld) → AreNoMelds melds → (kind : ℕ) → kind < 34 →
      IsTrue (lacks_held form.lacked (slice_index hand kind) && is_orphan kind) ↔ FormLacks IsThirteenOrphans hand melds form.lack kind

-- what a hand lacks of both, where no meld stands; beside melds more than any distance
pub record AreSpecialForms (hand : List ℕ) (melds : List Meld) (forms : SpecialForms) : Type 0 where
  pub pairs : length melds ≡ 0 → AreNearestPairs hand forms.pairs
  pub orphans : length melds ≡ 0 → AreNearestOrphans hand forms.orphans
  pub no_pairs : 0 < length melds → forms.pairs.lack ≡ 255
  pub no_orphans : 0 < length melds → forms.orphans.lack ≡ 255

-- the kinds that some of these forms lacks which lacks n tiles
pub record AreSpecialLacked (hand : List ℕ) (melds : List Meld) (n : ℕ) (lacked : SpecialLacked) : Type 0 where
  pub at : (kind : ℕ) → kind < 34 → IsTrue (special_lacks lacked kind (slice_index hand kind)) ↔
      (((length melds ≡ 0) × FormLacks IsSevenPairs hand melds n kind) ⊎ ((length melds ≡ 0) × FormLacks IsThirteenOrphans hand melds n kind))
