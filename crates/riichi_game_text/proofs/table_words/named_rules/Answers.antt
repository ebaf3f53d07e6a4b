use Rattle.riichi_game_text.proofs.table_words.named_rules.Goals as goal

pub returns-in-Err : goal.returns-in-Err
returns-in-Err c = λ rules names. c.in-Err.ensures.only rules names
