-- One name more, which is none of those before it.
use Rattle.std.proofs.Common.{sym, ap, ◌∙◌}
use Rattle.std.specs.List.{list_any}
use Rattle.riichi_seats_text.proofs.NameLemmas.{pushed_once}
use Rattle.riichi_seats_text.proofs.names.add_line.Goals as goal

pub returns-clause-seated : goal.returns-clause-seated
returns-clause-seated c =
    pushed_once _ c.args.names.now.items c.push_name.new.names.items c.in-Some.name c.as_bytes.result.now c.requires.seated
    (rw c.in-Some.is at c.in_ok-name.ensures) (c.as_bytes.ensures.value ∙ c.as_str.ensures.value)
    (ap (list_any _) (sym c.as_slice.ensures.value) ∙ sym c.is_among.ensures ∙ c.if-is_among.false) c.in_ok-push_name.ensures
