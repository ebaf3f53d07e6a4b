use Rattle.std.proofs.Common.{rules, ◌≡◌, ◌∙◌, ap, sym, subst}
use Rattle.std.proofs.lemmas.Bool.{both_ways}
use Rattle.riichi_tiles.specs.HeldKinds.{is_held}
use Rattle.riichi_tiles.specs.declared.by_suit.BySuit.{BySuit}
use Rattle.riichi_tiles.proofs.KindSets.{none_at}
use Rattle.riichi_tiles.proofs.Suits.{same_by_suits}
use Rattle.riichi_split.specs.SuitTiles.{OneSuit, Completes, suits_of, tiles_of_suit}
use Rattle.riichi_split.proofs.SplitSuits.{completes-iff}
use Rattle.riichi_cuts.proofs.waiting.standard_waits.Goals as goal

pub returns-then-may_complete-clause-kinds : goal.returns-then-may_complete-clause-kinds
returns-then-may_complete-clause-kinds g c = λ kind.
    let T : BySuit OneSuit → Type 0 = λ suits. Completes suits kind in
    let suits : c.of-suits.result ≡ suits_of c.args.counts.now = same_by_suits c.of-suits.result (tiles_of_suit c.args.counts.now) (λ suit. (let post = c.of-suits.ensures suit in search rules)) in
    let m = c.completing.ensures c.of-suits.result c.cuts_of.ensures.cuts kind in
    let i = completes-iff c.args.counts.now c.args.melds kind (search rules) c.requires in
    (λ t. i.0 (subst T suits (m.0 t)), λ h. m.1 (subst T (sym suits) (i.1 h)))

pub returns-else-may_complete-clause-kinds : goal.returns-else-may_complete-clause-kinds
returns-else-may_complete-clause-kinds g c = λ kind.
    let T : BySuit OneSuit → Type 0 = λ suits. Completes suits kind in
    let suits : c.of-suits.result ≡ suits_of c.args.counts.now = same_by_suits c.of-suits.result (tiles_of_suit c.args.counts.now) (λ suit. (let post = c.of-suits.ensures suit in search rules)) in
    let i = completes-iff c.args.counts.now c.args.melds kind (search rules) c.requires in (
      λ t. absurd (both_ways _ (ap (λ n. is_held n kind) c.new.ensures ∙ none_at kind) t),
      λ h. absurd (both_ways _ c.if-may_complete.false (c.may_complete.ensures kind (subst T (sym suits) (i.1 h)))),
    )
