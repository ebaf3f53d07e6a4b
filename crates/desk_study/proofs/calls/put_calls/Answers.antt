use Rattle.std.proofs.Common.{◌++◌, ◌∙◌, FitsSigned, List, ℕ, ap, rules, arith}
use Rattle.std.proofs.Common as width
use Rattle.std.proofs.Math.Facts.{to_z-of_z}
use mir.Syntax.{w8}
use mir.Val.{of_z, to_z}
use Rattle.riichi_tiles.specs.Melds.{tiles}
use Rattle.riichi_tiles.specs.declared.meld.Meld.{Meld}
use Rattle.riichi_shape.proofs.ShapeFacts.{melds_few}
use Rattle.riichi_shape.specs.EveryWinning.{shanten_of}
use Rattle.riichi_study.specs.Findings.{Finding}
use Rattle.desk_study.specs.Answers.{told_in}
use Rattle.desk_study.proofs.FindingLemmas.{calls_found}
use Rattle.desk_study.proofs.calls.put_calls.Goals as goal

pub shanten_with-shanten-requires : goal.shanten_with-shanten-requires
shanten_with-shanten-requires g c = λ kind low. omega (arith, melds_few c.hand-hand.result c.tiles.ensures.shape kind low, ap (λ m. tiles m kind) c.melds.ensures)

pub returns-clause-bytes : goal.returns-clause-bytes
returns-clause-bytes g c =
    let before = c.args.outbox.now.bytes.items in
    let hand = c.hand-hand.result in
    let fits : FitsSigned width.w8 c.shanten_with-shanten.result = search rules in
    c.put_found.ensures.bytes
    ∙ ap (λ (found : Finding). before ++ told_in c.args.form found) (calls_found c.args.asked.now hand c.thrown-thrown.result (to_z w8 (of_z w8 c.shanten_with-shanten.result)) c.calls-found.result c.kong-led.result c.hand-hand.ensures.value c.thrown-thrown.ensures
    (to_z-of_z fits ∙ c.shanten_with-shanten.ensures.value ∙ ap (λ (ts : List ℕ). shanten_of ts c.melds.result) c.tiles.ensures.value ∙ ap (λ (ms : List Meld). shanten_of hand.tiles ms) c.melds.ensures)
    c.calls-found.ensures.value c.kong-led.ensures.value)
