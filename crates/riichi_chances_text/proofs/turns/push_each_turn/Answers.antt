use Rattle.std.proofs.Common.{◌≡◌, ◌+◌, ◌++◌, suc, ◌∙◌, List, ℕ, sym, ap, arith}
use Rattle.std.specs.Prelude.{nat_lt}
use Rattle.riichi_text.proofs.Pieces.{pushed-two}
use Rattle.riichi_chances.specs.Odds.{odds_at}
use Rattle.riichi_chances.specs.declared.odds.Odds.{Odds}
use Rattle.riichi_chances_text.specs.OddsTexts.{comma_if, each_turn, turn_json}
use Rattle.riichi_chances_text.proofs.turns.push_each_turn.Goals as goal

pub loop-before-preserved : goal.loop-before-preserved
loop-before-preserved g c =
    let before = c.loop-before.before in
    let odds = odds_at c.args.chances.now in
    let so_far = c.loop-before.invariant in
    let one_more : suc before ≡ before + 1 = omega arith in
    record {
      bytes =
          pushed-two c.args.text.now.bytes (each_turn odds before) (comma_if (nat_lt 0 before) ++ turn_json (odds (suc before))) so_far.bytes
          (c.push_turn.ensures.bytes ∙ ap (λ (o : Odds). c.loop-before.text.bytes ++ (comma_if (nat_lt 0 before) ++ turn_json o)) (c.at-odds.ensures ∙ ap odds (sym one_more)))
          ∙ ap (λ (count : ℕ). c.args.text.now.bytes ++ each_turn odds count) one_more;
      few = omega (arith, c.push_turn.ensures.len, so_far.few);
    }
