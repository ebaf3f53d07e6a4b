use Rattle.std.proofs.Common.{◌≡◌, length, take, arith}
use Rattle.std.proofs.lemmas.List.{take_all}
use Rattle.desk_lines.proofs.LineLemmas.{plain_before}
use Rattle.desk_lines.proofs.first_line.cut_text.Goals as goal

pub returns-in-None : goal.returns-in-None
returns-in-None c =
    let text = c.args.text.now in
    let all : take (length text) text ≡ text = take_all (length text) text (omega arith) in
    rw all at (plain_before text (length text) (omega arith) (λ k l t. c.in-None.ensures k (omega arith) l t))
