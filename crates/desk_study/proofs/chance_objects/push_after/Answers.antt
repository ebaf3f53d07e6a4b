use Rattle.std.proofs.Common.{◌++◌, ◌∙◌, List, ℕ, ap, append_assoc, sym, subst, arith}
use Rattle.std.specs.Prelude.{codes}
use Rattle.riichi_text.proofs.Pieces.{pushed_five}
use Rattle.riichi_chances.specs.Odds.{ArePartsOfAll, odds_at}
use Rattle.riichi_chances.specs.declared.odds.Odds.{Odds}
use Rattle.riichi_chances_text.specs.OddsTexts.{by_turn_member}
use Rattle.desk_json.specs.Parts.{comma_if}
use Rattle.desk_study.specs.ChanceObjects.{after_json, beaten_json, discard_json}
use Rattle.desk_study.specs.Found.{one_json}
use Rattle.desk_study.proofs.chance_objects.push_after.Goals as goal

pub push_discard-requires-clause-parts : goal.push_discard-requires-clause-parts
push_discard-requires-clause-parts c = subst ArePartsOfAll (sym c.at-odds.ensures) (c.requires.parts c.args.turns (omega arith))

pub returns-clause-bytes : goal.returns-clause-bytes
unfolding after_json
returns-clause-bytes c =
    let before : List ℕ = c.args.text.now.bytes ++ comma_if c.args.later in
    let one = c.args.one.now in
    let others = c.args.others.now in
    let odds = c.at-odds.result in
    let by_turn : List ℕ = by_turn_member (odds_at one.chances) c.args.turns in
    pushed_five before (discard_json one.kind odds) (beaten_json odds others) (codes "]") by_turn (codes "}") c.push_discard.ensures.bytes c.push_beaten.ensures.bytes c.push_str.ensures.bytes c.push_by_turn.ensures.bytes c.push_str-2.ensures.bytes
    ∙ ap (λ (o : Odds). before ++ (discard_json one.kind o ++ beaten_json o others ++ codes "]" ++ by_turn ++ codes "}")) c.at-odds.ensures
    ∙ append_assoc c.args.text.now.bytes (comma_if c.args.later) (one_json others c.args.turns one)
