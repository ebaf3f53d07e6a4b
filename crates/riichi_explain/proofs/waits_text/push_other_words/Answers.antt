use Rattle.std.proofs.Common.{codes}
use Rattle.riichi_explain.specs.Waits.{word_if, other_words}
use Rattle.riichi_text.proofs.Pieces.{pushed-three}
use Rattle.riichi_explain.proofs.waits_text.push_other_words.Goals as goal

pub returns-clause-bytes : goal.returns-clause-bytes
unfolding other_words
returns-clause-bytes c =
    let sorts = c.args.sorts.now in
    pushed-three c.args.text.now.bytes (word_if sorts.pair (codes ", pair (tanki)")) (word_if sorts.two_pairs (codes ", two pairs (shanpon)")) (word_if sorts.orphans (codes ", thirteen orphans"))
    c.push_if.ensures.bytes c.push_if-2.ensures.bytes c.push_if-3.ensures.bytes
