use Rattle.std.proofs.Common.{◌++◌, ap, ◌∙◌}
use Rattle.std.specs.Prelude.{codes}
use Rattle.riichi_chances.specs.declared.fraction.Fraction.{Fraction}
use Rattle.riichi_text.proofs.Pieces.{pushed_four}
use Rattle.riichi_chances_text.specs.OddsTexts.{member_json, part_of}
use Rattle.riichi_chances_text.proofs.members.push_odds_members.Goals as goal

pub returns-clause-bytes : goal.returns-clause-bytes
returns-clause-bytes g c =
    let odds = c.args.odds.now in
    pushed_four c.args.text.now.bytes (member_json (codes "\"ready\":") (part_of odds.ready odds)) (member_json (codes ",\"ready_at_most\":") (part_of odds.ready_at_most odds)) (member_json (codes ",\"win\":") (part_of odds.win odds)) (member_json (codes ",\"win_at_most\":") (part_of odds.win_at_most odds))
    (c.push_member.ensures.bytes ∙ ap (λ (given : Fraction). c.args.text.now.bytes ++ member_json (codes "\"ready\":") given) c.part_of.ensures)
    (c.push_member-2.ensures.bytes ∙ ap (λ (given : Fraction). c.push_member.new.text.bytes ++ member_json (codes ",\"ready_at_most\":") given) c.part_of-2.ensures)
    (c.push_member-3.ensures.bytes ∙ ap (λ (given : Fraction). c.push_member-2.new.text.bytes ++ member_json (codes ",\"win\":") given) c.part_of-3.ensures)
    (c.push_member-4.ensures.bytes ∙ ap (λ (given : Fraction). c.push_member-3.new.text.bytes ++ member_json (codes ",\"win_at_most\":") given) c.part_of-4.ensures)
