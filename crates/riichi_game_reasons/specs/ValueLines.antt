-- What a hand is worth, in words.
use Rattle.std.specs.Prelude.{ℕ, List, ◌++◌, codes, decimal}
use Rattle.riichi_score.specs.Best.{best_of}
use Rattle.riichi_score.specs.Text.{win_text}
use Rattle.riichi_game_text.specs.declared.won_value.WonValue.{WonValue}
use Rattle.riichi_game_text.specs.declared.won_value.WonValue.TheVariants.{Counted, Hand}

-- `1 han 30 fu`
abbrev pub han_and_fu_words : ℕ → ℕ → List ℕ
han_and_fu_words han fu = decimal han ++ codes " han " ++ decimal fu ++ codes " fu"

-- of a hand what the same win is answered, with its yaku
abbrev pub value_words : WonValue → List ℕ
value_words (Counted han fu) = han_and_fu_words han fu
value_words (Hand hand) = win_text (best_of hand)

abbrev pub value_line : List ℕ → WonValue → List ℕ
value_line name value = codes "  " ++ name ++ codes "'s hand: " ++ value_words value
