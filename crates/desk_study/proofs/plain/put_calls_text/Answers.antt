use Rattle.std.proofs.Common.{◌++◌, ◌∙◌, List, ℕ, ap}
use Rattle.std.proofs.Math.Facts.{to_z-of_z}
use Rattle.std.specs.Prelude.{codes}
use Rattle.std.specs.List.{flat_map}
use mir.Syntax.{w8}
use mir.Val.{of_z, to_z}
use Rattle.riichi_text.proofs.Pieces.{pushed-three}
use Rattle.riichi_study.specs.Texts.{call_text, kong_text, none_text}
use Rattle.desk_study.proofs.plain.put_calls_text.Goals as goal

pub returns-clause-bytes : goal.returns-clause-bytes
returns-clause-bytes c =
    let before = c.args.outbox.now.bytes.items in
    let calls = c.args.calls.now in
    let front : List ℕ = codes "calls" ++ none_text calls in
    let led : List ℕ = kong_text c.args.tile c.args.kong.now in
    pushed-three before front (flat_map (call_text (to_z w8 (of_z w8 c.args.shanten))) calls) led
    (c.put_piece.ensures.bytes ∙ ap (λ (t : List ℕ). before ++ t) (c.push_calls.ensures.bytes ∙ ap (λ (t : List ℕ). t ++ front) c.clear.ensures)) c.put_each.ensures.bytes c.put_kong.ensures.bytes
    ∙ ap (λ z. before ++ (front ++ flat_map (call_text z) calls ++ led)) (to_z-of_z {w = w8} {z = c.args.shanten} (record { sfits = c.ranges.shanten.sfits }))
