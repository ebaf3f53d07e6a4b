use Rattle.std.proofs.Common.{codes}
use Rattle.riichi_explain.specs.Waits.{word_if, run_words}
use Rattle.riichi_text.proofs.Pieces.{pushed-three}
use Rattle.riichi_explain.proofs.waits_text.push_run_words.Goals as goal

pub returns-clause-bytes : goal.returns-clause-bytes
unfolding run_words
returns-clause-bytes c =
    let sorts = c.args.sorts.now in
    pushed-three c.args.text.now.bytes (word_if sorts.two_sided (codes ", two-sided (ryanmen)")) (word_if sorts.closed (codes ", closed (kanchan)")) (word_if sorts.edge (codes ", edge (penchan)"))
    c.push_if.ensures.bytes c.push_if-2.ensures.bytes c.push_if-3.ensures.bytes
