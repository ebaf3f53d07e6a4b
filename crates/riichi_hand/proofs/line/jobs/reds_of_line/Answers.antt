use Rattle.std.proofs.Common.{◌≡◌, ◌∙◌, List, ℕ, [], Option, Some, None, ap, refl}
use Rattle.std.specs.Prelude.{option_map, unwrap_or}
use Rattle.riichi_hand.specs.declared.line.key.Key.TheVariants.{On, Open}
use Rattle.riichi_hand.specs.Parts.{parts_in, value}
use Rattle.riichi_hand.proofs.line.jobs.reds_of_line.Goals as goal

-- the bytes of a text, where it is there
bytes_or : {X : Type 0} (bytes : X → List ℕ) (held : Option X) (other : X) (value : Option (List ℕ)) → option_map bytes held ≡ value → bytes (unwrap_or held other) ≡ unwrap_or value (bytes other)
bytes_or bytes None other value is = rw (← is) refl
bytes_or bytes (Some text) other value is = rw (← is) refl

pub returns : goal.returns
returns c =
    let parts = parts_in c.args.words.now in
    let on : c.unwrap_or.result.now ≡ unwrap_or (value On parts) [] = ap (λ text. text.now) c.unwrap_or.ensures ∙ bytes_or (λ text. text.now) c.args.fields.now.on _ _ c.requires.on in
    let melds : c.unwrap_or-2.result.now ≡ unwrap_or (value Open parts) [] = ap (λ text. text.now) c.unwrap_or-2.ensures ∙ bytes_or (λ text. text.now) c.args.fields.now.melds _ _ c.requires.melds in
    rw (c.joined-2.ensures, c.joined.ensures, c.reds_of.ensures.value, c.reds_of-2.ensures.value, c.reds_of-3.ensures.value, on, melds) refl
