use Rattle.riichi_split.proofs.AnyTile.{form-iff, reading-iff, win-iff}
use Rattle.riichi_split.proofs.winning.is_win.Goals as goal

pub returns-clause-wins : goal.returns-clause-wins
returns-clause-wins c =
    let found = c.has_winning_form.ensures in
    let form = form-iff c.args.counts.now c.args.melds in
    let win = win-iff c.args.counts.now c.args.melds found.counts.each_kind in
    (λ t. win.0 (form.1 (found.form.0 t)), λ h. found.form.1 (form.0 (win.1 h)))

pub returns-clause-by_any : goal.returns-clause-by_any
returns-clause-by_any c = λ winning held.
    let found = c.has_winning_form.ensures in
    let form = form-iff c.args.counts.now c.args.melds in
    let reading = reading-iff c.args.counts.now c.args.melds winning found.counts.each_kind held in
    (λ t. reading.0 (form.1 (found.form.0 t)), λ h. found.form.1 (form.0 (reading.1 h)))
