use Rattle.std.proofs.Common.{◌≡◌, ◌++◌, ◌∙◌, List, ℕ, ap, append_assoc}
use Rattle.std.proofs.Math.Facts.{to_z-of_z}
use Rattle.std.specs.Prelude.{codes}
use Rattle.std.specs.Fmt.{signed_decimal}
use mir.Syntax.{w8}
use mir.Val.{of_z, to_z}
use Rattle.riichi_text.proofs.Pieces.{pushed-three}
use Rattle.desk_study.specs.Objects.{calls_json, kong_json}
use Rattle.desk_study.proofs.members.put_calls_members.Goals as goal

regroup : (x k g e : List ℕ) → x ++ (k ++ g ++ e) ≡ x ++ k ++ g ++ e
regroup x k g e = simp append_assoc

pub returns-clause-bytes : goal.returns-clause-bytes
returns-clause-bytes c =
    let before = c.args.outbox.now.bytes.items in
    let front : List ℕ = codes "\"answer\":\"calls\",\"shanten\":" ++ signed_decimal (to_z w8 (of_z w8 c.args.shanten)) ++ codes ",\"calls\":[" in
    let listed : List ℕ = calls_json c.args.calls.now in
    let led : List ℕ = kong_json c.args.tile c.args.kong.now in
    pushed-three before front listed (codes "],\"kong\":" ++ led ++ codes "}") c.put_calls_front.ensures.bytes c.put_each.ensures.bytes c.put_kong_member.ensures.bytes
    ∙ ap (λ (t : List ℕ). before ++ t) (regroup (front ++ listed) (codes "],\"kong\":") led (codes "}"))
    ∙ ap (λ z. before ++ (codes "\"answer\":\"calls\",\"shanten\":" ++ signed_decimal z ++ codes ",\"calls\":[" ++ listed ++ codes "],\"kong\":" ++ led ++ codes "}")) (to_z-of_z {w = w8} {z = c.args.shanten} (record { sfits = c.ranges.shanten.sfits }))
