use Rattle.std.proofs.Common.{List, refl, ◌∙◌, ap, ◌++◌}
use Rattle.riichi_explain.specs.declared.ranked.RankedReading.{RankedReading}
use Rattle.riichi_explain.specs.Others.{others_text}
use Rattle.desk_lines.proofs.explained.put_others.Goals as goal

pub returns-in-Some : goal.returns-in-Some
returns-in-Some c =
    let w = c.args.win.now in
    let ranked = c.ranked_readings.result.items in
    let told = λ (readings : List RankedReading). others_text c.in-Some.best readings w in
    rw c.in-Some.is (
      told ranked,
      record { ranked = ranked; are_ranked = c.ranked_readings.ensures.ranked; text_is = refl },
      c.put_each.ensures ∙ ap (λ (readings : List RankedReading). c.args.outbox.now.bytes.items ++ told readings) c.as_slice.ensures.value,
    )
