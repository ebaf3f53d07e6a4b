use Rattle.std.proofs.Common.{◌≡◌, ◌∙◌, List, ℕ, Option, Some, None, refl, sym}
use Rattle.std.specs.Prelude.{IfSome}
use Rattle.riichi_tiles.specs.Melds.{SpellsMeld}
use Rattle.riichi_tiles.specs.declared.meld.Meld.{Meld}
use Rattle.riichi_tiles.proofs.MeldText.{meld_of_spelled, meld_of_read, meld_of_refused, found_spells}
use Rattle.riichi_tiles.proofs.meld.Meld.read.Goals as goal

each_found : (text : List ℕ) (found : Option Meld) → ((meld : Meld) → found ≡ Some meld → SpellsMeld text meld) → IfSome found (λ meld. SpellsMeld text meld)
each_found text None each = tt
each_found text (Some meld) each = each meld refl

pub returns-in-Ok-clause-spelled : goal.returns-in-Ok-clause-spelled
returns-in-Ok-clause-spelled c =
    each_found c.args.text.now c.find_meld.result (λ meld is.
    found_spells c.args.text.now c.in_ok-name.name c.in_ok-name.tiles.now c.read_into.new.counts meld c.in_ok-name.ensures c.in-Ok.ensures.ok (sym c.find_meld.ensures.value ∙ is))

pub returns-in-Ok-clause-only : goal.returns-in-Ok-clause-only
returns-in-Ok-clause-only c = λ meld spells.
    c.find_meld.ensures.value
    ∙ sym (meld_of_read c.args.text.now c.in_ok-name.name c.in_ok-name.tiles.now c.read_into.new.counts c.in_ok-name.ensures c.in-Ok.ensures.value)
    ∙ meld_of_spelled c.args.text.now meld spells

pub returns-in-Err-clause-only : goal.returns-in-Err-clause-only
returns-in-Err-clause-only c = λ meld spells.
    sym (meld_of_refused c.args.text.now c.in_ok-name.name c.in_ok-name.tiles.now c.in-Err.field-0 c.in_ok-name.ensures c.in-Err.ensures.value)
    ∙ meld_of_spelled c.args.text.now meld spells
