use Rattle.std.proofs.Common.{ℕ, List, ap, ◌∙◌}
use Rattle.riichi_hand.specs.Words.{words_of}
use Rattle.riichi_game_text.specs.Names.{names_in}
use Rattle.riichi_game_hints.specs.Keeping as spec
use Rattle.riichi_game_hints.proofs.keeping.times_named.Goals as goal

pub returns : goal.returns
returns c = c.times_in.ensures ∙ ap (λ (text : List ℕ). spec.times_in (names_in c.args.names.now) c.args.player (words_of text)) (c.as_slice.ensures.value ∙ c.parted-words.ensures)
