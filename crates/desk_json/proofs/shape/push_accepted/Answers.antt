use Rattle.std.proofs.Common.{◌++◌, sym, ap, ◌∙◌, decimal}
use Rattle.std.specs.Prelude.{codes}
use Rattle.riichi_shape.specs.LiveCopies.{live_in}
use Rattle.desk_json.specs.Parts.{accepted_json, pairs_json}
use Rattle.desk_json.proofs.Behind.{five}
use Rattle.desk_json.proofs.shape.push_accepted.Goals as goal

pub returns-clause-bytes : goal.returns-clause-bytes
unfolding accepted_json
returns-clause-bytes c =
    let pairs = c.args.accepted.now in
    c.push_str-2.ensures.bytes
    ∙ ap (λ t. t ++ codes "}") (c.push_after.ensures.bytes
    ∙ ap (λ n. (c.push_pairs.new.text.bytes ++ codes "],\"live\":") ++ decimal n) c.live.ensures.value
    ∙ ap (λ t. (t ++ codes "],\"live\":") ++ decimal (live_in pairs)) (c.push_pairs.ensures.bytes
    ∙ ap (λ ps. c.push_str.new.self.bytes ++ pairs_json ps) (sym c.copies.ensures.value)
    ∙ ap (λ t. t ++ pairs_json pairs) c.push_str.ensures.bytes))
    ∙ five c.args.text.now.bytes (codes "\"accepts\":[") (pairs_json pairs) (codes "],\"live\":") (decimal (live_in pairs)) (codes "}")
