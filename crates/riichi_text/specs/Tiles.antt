-- The text of a kind, of blocks and of melds.
use Rattle.std.specs.Prelude.{ℕ, ◌+◌, ◌%◌, nat_lt, if◌then◌else◌, List, [], ◌∷◌, ◌++◌, codes}
use Rattle.riichi_tiles.specs.declared.block.Block.{Block}
use Rattle.riichi_tiles.specs.declared.block.Block.TheVariants.{Run, Triplet, Pair}
use Rattle.riichi_tiles.specs.declared.meld.Meld.{Meld}
use Rattle.riichi_tiles.specs.declared.meld.Meld.TheVariants.{Chi, Pon, Kan, Ankan}

-- the digit of a kind within its suit
abbrev pub digit_of : ℕ → ℕ
digit_of kind = 49 + kind % 9

-- the letter of a kind's suit: m, p, s or z
abbrev pub letter_of : ℕ → ℕ
letter_of kind = if nat_lt kind 9 then 109 else (if nat_lt kind 18 then 112 else (if nat_lt kind 27 then 115 else 122))

-- a kind is its digit and its letter
abbrev pub kind_text : ℕ → List ℕ
kind_text kind = digit_of kind ∷ letter_of kind ∷ []

unfoldable pub two_text : ℕ → List ℕ
two_text kind = digit_of kind ∷ digit_of kind ∷ letter_of kind ∷ []

unfoldable pub three_text : ℕ → List ℕ
three_text kind = digit_of kind ∷ two_text kind

unfoldable pub four_text : ℕ → List ℕ
four_text kind = digit_of kind ∷ three_text kind

-- three successive numbers
unfoldable pub run_text : ℕ → List ℕ
run_text low = digit_of low ∷ (digit_of low + 1) ∷ (digit_of low + 2) ∷ letter_of low ∷ []

unfoldable pub block_text : Block → List ℕ
block_text (Run low) = run_text low
block_text (Triplet kind) = three_text kind
block_text (Pair kind) = two_text kind

-- a meld as in a line's `open`
unfoldable pub meld_text : Meld → List ℕ
meld_text (Chi low) = codes "chi:" ++ run_text low
meld_text (Pon kind) = codes "pon:" ++ three_text kind
meld_text (Kan kind) = codes "kan:" ++ four_text kind
meld_text (Ankan kind) = codes "ankan:" ++ four_text kind
