use Rattle.std.proofs.Common.{◌++◌, sym, ap, ◌∙◌, append_assoc}
use Rattle.std.specs.Prelude.{codes}
use Rattle.desk_json.specs.Parts.{open_win_json, win_json}
use Rattle.desk_json.proofs.Pieces.{win_written}
use Rattle.desk_json.proofs.win.push_open_win.Goals as goal

pub returns-clause-bytes : goal.returns-clause-bytes
unfolding win_json
returns-clause-bytes c =
    let win = c.args.answer.now in
    ap (λ t. t ++ codes "}") c.push_members.ensures.bytes
    ∙ append_assoc c.args.text.now.bytes (open_win_json c.args.rules win) (codes "}")
    ∙ ap (λ t. c.args.text.now.bytes ++ t) (sym (win_written c.args.rules win))
