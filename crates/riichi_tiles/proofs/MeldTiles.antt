-- The tiles of melds: those of one meld more.
use Rattle.std.proofs.Common.{◌≡◌, ℕ, zero, suc, ◌+◌, ◌<◌, ◌≤◌, List, [], ◌∷◌, Bool, true, false, Some, None, nat_eq, take, length, ap, ◌∙◌, arith, lit≤}
use Rattle.std.specs.Prelude.{◌&&◌, if◌then◌else◌, nat_le, slice_get}
use Rattle.std.specs.List.{list_all}
use Rattle.std.proofs.lemmas.List.Folds.{list_all_more}
use Rattle.std.proofs.lemmas.List.FromFn.{get_or-range_with_len}
use Rattle.std.proofs.lemmas.Bool.{and_parts}
use Rattle.riichi_tiles.specs.declared.meld.Meld.{Meld}
use Rattle.riichi_tiles.specs.declared.meld.Meld.TheVariants.{Chi, Pon, Kan, Ankan}
use Rattle.riichi_tiles.specs.Melds.{every_kind, tiles, tiles_of, is_meld}

-- the tiles of the melds so far, and of the next
pub tiles_more : (melds : List Meld) (place : ℕ) (meld : Meld) (kind : ℕ) → Some meld ≡ slice_get melds place → tiles (take (suc place) melds) kind ≡ tiles (take place melds) kind + tiles_of meld kind
tiles_more [] place meld kind is = absurd (cc)
tiles_more (first ∷ melds) zero meld kind is = let e : first ≡ meld = cc in rw e (omega arith)
tiles_more (first ∷ melds) (suc place) meld kind is = let e = tiles_more melds place meld kind is in omega (arith, e)

pub tiles_of_most : (meld : Meld) (kind : ℕ) → tiles_of meld kind ≤ 4
tiles_of_most (Chi low) kind = elim (nat_le low kind && nat_le kind (low + 2)) as (λ b. (if b then 1 else 0) ≤ 4) [ true ↦ lit≤ tt | false ↦ lit≤ tt ]
tiles_of_most (Pon held) kind = elim (nat_eq held kind) as (λ b. (if b then 3 else 0) ≤ 4) [ true ↦ lit≤ tt | false ↦ lit≤ tt ]
tiles_of_most (Kan held) kind = elim (nat_eq held kind) as (λ b. (if b then 4 else 0) ≤ 4) [ true ↦ lit≤ tt | false ↦ lit≤ tt ]
tiles_of_most (Ankan held) kind = elim (nat_eq held kind) as (λ b. (if b then 4 else 0) ≤ 4) [ true ↦ lit≤ tt | false ↦ lit≤ tt ]

pub within_melds : (melds : List Meld) (place : ℕ) → place < length melds → None ≡ slice_get melds place → ⊥
within_melds [] place within none = omega (arith, within)
within_melds (first ∷ melds) zero within none = absurd (cc)
within_melds (first ∷ melds) (suc place) within none = within_melds melds place (omega (arith, within)) none

pub is_meld_get : (melds : List Meld) (place : ℕ) (meld : Meld) → list_all is_meld melds ≡ true → Some meld ≡ slice_get melds place → is_meld meld ≡ true
is_meld_get [] place meld all is = absurd (cc)
is_meld_get (first ∷ melds) zero meld all is = let e : first ≡ meld = cc in rw e at (and_parts (is_meld first) (list_all is_meld melds) all).0
is_meld_get (first ∷ melds) (suc place) meld all is = is_meld_get melds place meld (and_parts (is_meld first) (list_all is_meld melds) all).1 is

-- a test of the kinds so far, and of the next
pub all_kinds_more : (p : ℕ → Bool) (n : ℕ) → n < 34 → list_all p (take (n + 1) every_kind) ≡ (list_all p (take n every_kind) && p n)
all_kinds_more p n within =
    list_all_more p every_kind n 0 within ∙ ap (λ kind. list_all p (take n every_kind) && p kind) (get_or-range_with_len 0 34 n 0 within ∙ omega arith)

pub ruleset add_melds_facts = (tiles_more, tiles_of_most, within_melds, is_meld_get)
