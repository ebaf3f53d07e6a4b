use Rattle.std.proofs.Common.{◌∙◌, ap}
use Rattle.std.specs.Prelude.{position, string_bytes}
use Rattle.std.specs.Str.{bytes_eq}
use Rattle.riichi_standings.proofs.NameLemmas.{position-map}
use Rattle.riichi_standings.proofs.names.PlayerNames.number_of.Goals as goal

pub returns : goal.returns
returns c =
    c.get_index_of.ensures.index ∙ position-map c.self.inside.names.keys string_bytes (bytes_eq c.args.name.now) ∙ ap (position (bytes_eq c.args.name.now)) c.self.view_is
