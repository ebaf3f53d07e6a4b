use Rattle.std.proofs.Common.{ap, sym, ◌∙◌}
use Rattle.riichi_hand.specs.Words.{words_of}
use Rattle.riichi_game_hints.proofs.keeping.keeps_numbers.Goals as goal

pub returns : goal.returns
returns c = λ is.
    ap words_of (sym (c.as_slice.ensures.value ∙ c.digits_alone-numbers.ensures)) ∙ c.same_words.ensures is
    ∙ ap words_of (c.as_slice-2.ensures.value ∙ c.digits_alone-others.ensures)
