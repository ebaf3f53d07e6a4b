use Rattle.std.proofs.Common.{◌≡◌, ◌==◌, ◌∙◌, ℕ, List, [], ◌∷◌, Option, None, Some, is_some, refl, ap, take, inl, inr}
use Rattle.std.specs.List.{list_any}
use Rattle.std.proofs.lemmas.Bool.{cases_Bool}
use Rattle.std.proofs.lemmas.List.{take_all}
use Rattle.riichi_tiles.specs.Melds.{cut_at, in_front}
use Rattle.riichi_hand.proofs.line.cuts.has_mark.Goals as goal

front_some : (byte : ℕ) (cut : Option (List ℕ × List ℕ)) → is_some (in_front byte cut) ≡ is_some cut
front_some byte None = refl
front_some byte (Some cut) = refl

-- a text is cut just where the mark stands
marked : (mark : ℕ) (text : List ℕ) → list_any (λ byte. byte == mark) text ≡ is_some (cut_at mark text)
marked mark [] = refl
marked mark (byte ∷ text) =
    elim (cases_Bool (byte == mark)) [
      | inl here ↦ rw here refl
      | inr other ↦ rw (other, front_some byte (cut_at mark text)) (marked mark text)
    ]

pub returns : goal.returns
returns c =
    let text = c.args.text.now in
    let all : take c.loop-byte.byte-index text ≡ text = take_all c.loop-byte.byte-index text c.loop-byte-test.false in
    c.loop-byte.invariant ∙ ap (list_any (λ byte. byte == c.args.mark)) all ∙ marked c.args.mark text
