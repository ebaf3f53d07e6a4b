use Rattle.std.proofs.Common.{◌≡◌, ◌∙◌, Some, ap, sym, refl}
use Rattle.std.specs.Prelude.{unwrap_or}
use Rattle.riichi_hand.specs.declared.win.WinParts.{WinParts}
use Rattle.riichi_hand.specs.Win.{win_of}
use Rattle.riichi_hand.specs.Parts.{parts_in}
use Rattle.riichi_hand.specs.Texts.{only_kind}
use Rattle.riichi_hand.specs.Jobs.{win_parts, win_of_line}
use Rattle.riichi_hand.proofs.OutcomeLemmas.{win_step}
use Rattle.riichi_hand.proofs.RedLemmas.{win_of_line_reds}
use Rattle.riichi_hand.proofs.line.jobs.make_win.Goals as goal

pub returns : goal.returns
returns c =
    let rules = c.args.rules in
    let parts = parts_in c.args.words.now in
    let texts = c.args.texts.now in
    let holds = c.requires.holds in
    let win = win_parts rules parts texts c.in-Some.winning c.args.keys in
    let only : only_kind texts.on ≡ Some c.in-Some.winning = sym c.in-Some.ensures in
    let line : win_of_line rules parts texts ≡ Some win = rw (only, c.requires.needed.1) refl in
    let riichi : c.unwrap_or.result ≡ win.riichi = c.unwrap_or.ensures ∙ ap (λ n. unwrap_or n 0) holds.riichi in
    let flags : c.unwrap_or-2.result ≡ win.flags = rw (c.unwrap_or-2.ensures, c.none.ensures, holds.flags) refl in
    let counters : c.unwrap_or-3.result ≡ win.counters = c.unwrap_or-3.ensures ∙ ap (λ n. unwrap_or n 0) holds.counters in
    let sticks : c.unwrap_or-4.result ≡ win.sticks = c.unwrap_or-4.ensures ∙ ap (λ n. unwrap_or n 0) holds.sticks in
    let given : WinParts = record win { reds = c.reds_under.result } in
    let made : c.new.result ≡ win_of given = rw (c.new.ensures, riichi, flags, counters, sticks) refl in
    let told = win_of_line_reds rules parts texts c.in-Some.winning c.args.keys c.reds_under.result c.requires.texts only c.requires.spelled c.reds_under.ensures in
    win_step (only_kind texts.on) (win_of_line rules parts texts) rules c.in-Some.winning win c.new.result only line (made ∙ told)
