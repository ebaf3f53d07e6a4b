use Rattle.std.proofs.Common.{◌∙◌, ◌∷◌, map, length, ap, sym, arith, length-append}
use Rattle.desk_lines.specs.Lines.{Cut, cut_of, ended_lines, without_return}
use Rattle.desk_lines.proofs.CutLemmas.{cut_of_first}
use Rattle.desk_lines.proofs.first_line.first_line.Goals as goal

pub returns : goal.returns
returns c =
    let bytes = c.in_ok-bytes.bytes.now in
    let after = c.in_ok-bytes.after.now in
    let found = c.in_ok-bytes.ensures in
    let cut = ap cut_of found.0 ∙ cut_of_first bytes after found.1 in (
      ap (λ (cut : Cut). map without_return cut.ended) cut ∙ ap (λ line. line ∷ ended_lines after) (sym c.without_return.ensures),
      ap (λ (cut : Cut). cut.rest) cut,
      omega (arith, ap length found.0, length-append bytes (10 ∷ after)),
    )
