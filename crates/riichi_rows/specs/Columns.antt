-- A choice of blocks rank by rank, which is how the rows are computed. No public contract names it.
use Rattle.std.specs.Prelude.{◌≡◌, ℕ, ◌+◌, ◌-◌, ◌*◌, ◌<◌, ◌≤◌, Bool, IsTrue, ◌⊎◌, List, [], ◌∷◌}

-- how many runs, triplets and pairs begin at one rank
pub record Column : Type 0 where
  pub runs : ℕ
  pub triplets : ℕ
  pub pairs : ℕ

-- the tiles of the rank, where a runs began one rank before and b two ranks before
abbrev pub held : ℕ → ℕ → Column → ℕ
held a b x = a + b + x.runs + 3 * x.triplets + 2 * x.pairs

-- runs begin only where there are runs
abbrev pub MayRun : Bool → ℕ → Type 0
MayRun runs n = (n ≡ 0) ⊎ IsTrue runs

-- the columns keep within the caps, and leave no run open
abbrev pub Fits : Bool → List ℕ → ℕ → ℕ → List Column → Type 0
Fits runs [] a b [] = (a ≡ 0) × (b ≡ 0)
Fits runs [] a b (x ∷ xs) = ⊥
Fits runs (cap ∷ caps) a b [] = ⊥
Fits runs (cap ∷ caps) a b (x ∷ xs) = (held a b x ≤ cap) × MayRun runs x.runs × Fits runs caps x.runs a xs

abbrev pub lack_from : List ℕ → ℕ → ℕ → List Column → ℕ
lack_from counts a b [] = 0
lack_from [] a b (x ∷ xs) = 0
lack_from (have ∷ counts) a b (x ∷ xs) = (held a b x - have) + lack_from counts x.runs a xs

abbrev pub sets_in : List Column → ℕ
sets_in [] = 0
sets_in (x ∷ xs) = x.runs + x.triplets + sets_in xs

abbrev pub pairs_in : List Column → ℕ
pairs_in [] = 0
pairs_in (x ∷ xs) = x.pairs + pairs_in xs

-- some columns of so many sets and pairs lack v tiles
pub record Reaches (runs : Bool) (counts caps : List ℕ) (a b s p v : ℕ) : Type 0 where
  pub columns : List Column
  pub fits : Fits runs caps a b columns
  pub has_sets : sets_in columns ≡ s
  pub has_pairs : pairs_in columns ≡ p
  pub lacks : lack_from counts a b columns ≡ v

-- v is the least lack, or 255 where no columns fit
pub record LeastFrom (runs : Bool) (counts caps : List ℕ) (a b s p v : ℕ) : Type 0 where
  pub least : (xs : List Column) → Fits runs caps a b xs → sets_in xs ≡ s → pairs_in xs ≡ p → v ≤ lack_from counts a b xs
  pub reached : v < 255 → Reaches runs counts caps a b s p v

-- each value of a table, for up to four sets and one pair, is the least lack
pub record AreLeast (runs : Bool) (counts caps : List ℕ) (a b : ℕ) (values : ℕ → ℕ → ℕ) : Type 0 where
  pub at : (s p : ℕ) → s < 5 → p < 2 → LeastFrom runs counts caps a b s p (values s p)
