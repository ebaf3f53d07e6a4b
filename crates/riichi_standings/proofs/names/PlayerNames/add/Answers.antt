use Rattle.std.proofs.Common.{◌≡◌, ◌∙◌, sym, ap, length}
use Rattle.std.specs.Prelude.{string_bytes}
use Rattle.std.proofs.lemmas.List.{length-map}
use Rattle.riichi_standings.proofs.NameLemmas.{names-added}
use Rattle.riichi_standings.proofs.names.PlayerNames.add.Goals as goal

pub returns-clause-added : goal.returns-clause-added
returns-clause-added c =
    let keys = c.self.inside.names.keys in
    let count : c.len-number.result ≡ length c.args.self.now = c.len-number.ensures.len ∙ sym (length-map keys string_bytes) ∙ ap length c.self.view_is in (
      count,
      names-added keys c.insert.new.self.keys c.in_ok-name.name string_bytes c.args.name.now c.args.self.now c.self.view_is c.in_ok-name.ensures.ok c.requires c.in_ok-insert.ensures.keys,
    )
