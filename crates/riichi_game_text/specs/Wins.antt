-- What a line says that a player wins.
use Rattle.std.specs.Prelude.{ℕ, List, [], ◌∷◌, codes, Option, None, Some, option_map}
use Rattle.riichi_tiles.specs.Melds.{cut_at}
use Rattle.riichi_game_text.specs.Words.{said_in}
use Rattle.riichi_game_text.specs.Numbers.{number_in}
use Rattle.riichi_game_text.specs.Forms.{part_at}
use Rattle.riichi_game_text.specs.HandLines.{words_with_equals, behind_entries}
use Rattle.riichi_game_text.specs.Written.{written_value}
use Rattle.riichi_game_text.specs.declared.value.WrittenValue.{WrittenValue}
use Rattle.riichi_game_text.specs.declared.value.WrittenValue.TheVariants.{Hand}
use Rattle.riichi_game_text.specs.declared.win.WrittenLiable.{WrittenLiable}
use Rattle.riichi_game_text.specs.declared.win.WrittenWin.{WrittenWin}

-- who is liable, and for how many limits where that is said
pub record SaidLiable : Type 0 where
  pub name : List ℕ
  pub limits : Option ℕ

-- who wins, the value by its first word and the words with `=` behind that, and who is liable
pub record SaidWin : Type 0 where
  pub name : List ℕ
  pub value : WrittenValue
  pub hand : List ℕ
  pub words : List (List ℕ)
  pub liable : Option SaidLiable

abbrev pub said_liable : WrittenLiable → SaidLiable
said_liable liable = record { name = liable.name.now; limits = liable.limits }

abbrev pub said_win : WrittenWin → SaidWin
said_win win = record {
  name = win.name.now;
  value = win.value;
  hand = win.hand.now;
  words = words_with_equals (said_in win.words.now);
  liable = option_map said_liable win.liable;
}

-- ---- `liable NAME`, `liable NAME:LIMITS` or nothing

abbrev pub with_limits : List ℕ → Option ℕ → Option (Option SaidLiable)
with_limits name None = None
with_limits name (Some limits) = Some (Some (record { name = name; limits = Some limits }))

abbrev pub liable_cut : List ℕ → Option (List ℕ × List ℕ) → Option (Option SaidLiable)
liable_cut word None = Some (Some (record { name = word; limits = None }))
liable_cut word (Some cut) = with_limits cut.0 (number_in cut.1)

unfoldable pub liable_said : Option (List ℕ) → Option (Option SaidLiable)
liable_said None = Some None
liable_said (Some word) = liable_cut word (cut_at 58 word)

-- ---- a value, and who is liable

abbrev pub behind_value : WrittenValue → List (List ℕ) → List (List ℕ)
behind_value Hand words = behind_entries words
behind_value other words = words

abbrev pub win_with_liable : SaidWin → List (List ℕ) → Option (Option SaidLiable) → Option (SaidWin × List (List ℕ))
win_with_liable win rest None = None
win_with_liable win rest (Some liable) = Some (record win { liable = liable }, rest)

abbrev pub liable_behind : SaidWin → Option (Option (List ℕ) × List (List ℕ)) → Option (SaidWin × List (List ℕ))
liable_behind win None = None
liable_behind win (Some part) = win_with_liable win part.1 (liable_said part.0)

abbrev pub value_behind : List ℕ → List ℕ → List (List ℕ) → Option WrittenValue → Option (SaidWin × List (List ℕ))
value_behind name word words None = None
value_behind name word words (Some value) =
    liable_behind (record { name = name; value = value; hand = word; words = words_with_equals words; liable = None })
    (part_at (codes "liable") (behind_value value words))

-- `VALUE [liable NAME]` behind the name of a winner, and the words that are left; none where no value stands there
unfoldable pub win_at : List ℕ → List (List ℕ) → Option (SaidWin × List (List ℕ))
win_at name [] = None
win_at name (word ∷ words) = value_behind name word words (written_value word)
