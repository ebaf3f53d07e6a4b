use Rattle.std.proofs.Common.{◌≡◌, ◌∙◌, Some, true, false, ap, arith, sym, refl}
use Rattle.riichi_hand.specs.Keys.{has_key}
use Rattle.riichi_hand.proofs.EntryLemmas.{entry_long, name_ends, refused, taken_at}
use Rattle.riichi_hand.proofs.line.entry.Entry.first.Goals as goal
use Rattle.riichi_hand.proofs.line.entry.Entry.first.Goals.{then-len-text-via-then-len-text, then-len-text-via-else-len-text+then-text-len-ne61}

pub returns-then-text-lt2 : goal.returns-then-text-lt2
returns-then-text-lt2 c =
    refused c.args.job c.args.text.now (λ begins. omega (arith, entry_long c.args.job c.args.text.now begins))

pub returns-then-len-text : goal.returns-then-len-text
returns-then-len-text c =
    refused c.args.job c.args.text.now (λ begins.
    let ends = name_ends c.args.job c.args.text.now c.name_len-len.result c.name_len-len.ensures begins in
    elim c.then-len-text.branch [
      | then-len-text-via-then-len-text w ↦ omega (arith, ends.0)
      | then-len-text-via-else-len-text+then-text-len-ne61 w ↦ omega (arith, ends.1)
    ])

pub returns-in_default : goal.returns-in_default
returns-in_default c =
    refused c.args.job c.args.text.now (λ begins.
    let ends = name_ends c.args.job c.args.text.now c.name_len-len.result c.name_len-len.ensures begins in
    cc)

pub returns-then-not-has_key : goal.returns-then-not-has_key
returns-then-not-has_key c =
    refused c.args.job c.args.text.now (λ begins.
    let ends = name_ends c.args.job c.args.text.now c.name_len-len.result c.name_len-len.ensures begins in
    let found : Some c.in-Some.key ≡ Some begins.key = c.in-Some.ensures ∙ ends.2 in
    let same : begins.key ≡ c.in-Some.key = cc in
    let bad : true ≡ false = sym begins.has ∙ ap (has_key c.args.job) same ∙ sym c.has_key.ensures ∙ c.if-not-has_key.true in
    cc)

pub returns : goal.returns
returns c =
    taken_at c.args.job c.args.text.now c.name_len-len.result c.word_len.result c.in-Some.key (omega arith) c.if-text-len-ne61.false (sym c.in-Some.ensures) (sym c.has_key.ensures ∙ c.if-not-has_key.false)
    _ c.split_at.result.0.now c.split_at.result.1.now refl c.split_at.ensures.front c.split_at.ensures.back c.word_len.ensures.word c.word_len.ensures.rest
