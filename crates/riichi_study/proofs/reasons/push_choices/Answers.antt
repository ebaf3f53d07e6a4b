use Rattle.std.proofs.Common.{◌∙◌, ◌++◌, sym, arith, false}
use Rattle.riichi_study.specs.Reasons.{choices_from}
use Rattle.riichi_study.proofs.ChoiceLemmas.{choice_put, choices_put}
use Rattle.riichi_study.proofs.reasons.push_choices.Goals as goal

pub loop-place-preserved : goal.loop-place-preserved
loop-place-preserved c =
    let so_far = c.loop-place.invariant in record {
      written = choice_put c.args.discards.now c.loop-place.place c.in-Some.discard (sym c.get.ensures ∙ c.in-Some.is) c.len-count.result (c.args.text.now.bytes ++ choices_from false c.args.discards.now) c.loop-place.text.bytes c.push_choice.new.text.bytes
          c.len-count.ensures.value so_far.written c.push_choice.ensures.bytes;
      few = omega (arith, c.push_choice.ensures.len, so_far.few);
    }

pub returns-clause-bytes : goal.returns-clause-bytes
returns-clause-bytes c =
    choices_put c.args.discards.now c.loop-place.place (c.args.text.now.bytes ++ choices_from false c.args.discards.now) c.loop-place.text.bytes (omega (arith, c.loop-place-test.false, c.len-count.ensures.value)) c.loop-place.invariant.written
