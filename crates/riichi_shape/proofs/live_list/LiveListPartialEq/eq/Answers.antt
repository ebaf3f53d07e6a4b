use Rattle.std.proofs.Common.{◌≡◌, ap, sym, ◌∙◌}
use Rattle.std.proofs.lemmas.Bool.Decides.{Decides-eqb, Decides-like, same_from_decides}
use Rattle.std.proofs.lemmas.Slice.Eq.{slice_eq-Decides}
use Rattle.riichi_shape.specs.Equality.{live_decides, live_eq}
use Rattle.riichi_shape.specs.LiveCopies.{copies_from, pairs_of}
use Rattle.riichi_shape.proofs.live_list.LiveListPartialEq.eq.Goals as goal

pub returns : goal.returns
returns c =
    let a = c.self.inside.copies in
    let b = c.other.inside.copies in
    let pairs : pairs_of a ≡ pairs_of b → a ≡ b = λ e. c.self.invariant.told ∙ ap copies_from e ∙ sym c.other.invariant.told in
    same_from_decides c.eq.result (live_eq c.args.self.now c.args.other.now)
    (slice_eq-Decides Decides-eqb a b c.eq.result c.eq.ensures)
    (Decides-like (live_eq c.args.self.now c.args.other.now) (λ e. pairs (c.self.view_is ∙ e ∙ sym c.other.view_is)) (λ e. sym c.self.view_is ∙ ap pairs_of e ∙ c.other.view_is) (live_decides c.args.self.now c.args.other.now))
