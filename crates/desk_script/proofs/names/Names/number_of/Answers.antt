use Rattle.std.proofs.Common.{◌∙◌, sym, ap}
use Rattle.std.specs.Prelude.{position}
use Rattle.std.specs.Str.{bytes_eq}
use Rattle.desk_script.proofs.NameLemmas.{position-map}
use Rattle.desk_script.proofs.names.Names.number_of.Goals as goal

pub returns-in-None : goal.returns-in-None
returns-in-None c =
    sym c.in-None.is ∙ c.get_index_of.ensures.index ∙ position-map c.self.inside.names.keys (λ name. name.items) (bytes_eq c.args.name.now) ∙ ap (position (bytes_eq c.args.name.now)) c.self.view_is

pub returns-in-Some : goal.returns-in-Some
returns-in-Some c =
    sym c.in-Some.is ∙ c.get_index_of.ensures.index ∙ position-map c.self.inside.names.keys (λ name. name.items) (bytes_eq c.args.name.now) ∙ ap (position (bytes_eq c.args.name.now)) c.self.view_is
