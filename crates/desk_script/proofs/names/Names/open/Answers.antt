use Rattle.std.proofs.Common.{◌≡◌, ◌∙◌, sym, ap, length, arith}
use Rattle.std.proofs.lemmas.List.{length-map}
use Rattle.desk_script.proofs.NameLemmas.{names-added}
use Rattle.desk_script.proofs.names.Names.open.Goals as goal

pub returns-clause-full : goal.returns-clause-full
returns-clause-full c =
    let keys = c.self.inside.names.keys in
    let count : c.len-number.result ≡ length c.args.self.now = c.len-number.ensures.len ∙ sym (length-map keys (λ name. name.items)) ∙ ap length c.self.view_is in (
      (let small = c.if-number-ge-MOST_TABLES.false in omega arith),
      count,
      names-added keys c.insert.new.self.keys c.in_ok-name.name (λ name. name.items) c.args.name.now c.args.self.now c.self.view_is c.in_ok-name.ensures.items c.requires c.in_ok-insert.ensures.keys,
    )
