use Rattle.std.proofs.Common.{◌++◌, codes, Option, ap, ◌∙◌}
use Rattle.riichi_table.specs.declared.player.Player.{Player}
use Rattle.riichi_text.proofs.Pieces.{pushed-three}
use Rattle.riichi_game_text.specs.Names.{names_in}
use Rattle.riichi_game_drafts.specs.Nearest.{nearest_player}
use Rattle.riichi_game_hints.specs.Reasons.{nearest_words}
use Rattle.riichi_game_hints.proofs.reason.push_stranger.Goals as goal

pub returns-clause-bytes : goal.returns-clause-bytes
returns-clause-bytes c =
    let names = names_in c.args.names.now in let word = c.args.word.now in
    pushed-three c.args.text.now.bytes word (codes " is no player: ") (nearest_words names (nearest_player names word))
    c.push_str.ensures.bytes c.push_str-2.ensures.bytes
    (c.push_nearest.ensures.bytes
    ∙ ap (λ (nearest : Option Player). c.push_str-2.new.self.bytes ++ nearest_words names nearest) (c.nearest_player.ensures ∙ ap (nearest_player names) c.as_bytes.ensures.value))
