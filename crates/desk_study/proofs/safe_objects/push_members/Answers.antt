use Rattle.std.proofs.Common.{◌++◌, ◌∙◌, List, ℕ, ap}
use Rattle.std.specs.Prelude.{Option}
use Rattle.riichi_text.proofs.Pieces.{pushed-three}
use Rattle.riichi_safe.specs.Safe.{furiten_of, safe_kinds}
use Rattle.desk_study.specs.SafeObjects.{behind_json, every_wait_json, front_json}
use Rattle.desk_study.proofs.safe_objects.push_members.Goals as goal

pub returns-clause-bytes : goal.returns-clause-bytes
returns-clause-bytes c =
    let parts = c.args.asked.now in
    let before : List ℕ = c.args.text.now.bytes in
    pushed-three before (front_json (safe_kinds parts)) (every_wait_json parts) (behind_json (furiten_of parts))
    (c.push_front.ensures.bytes ∙ ap (λ (set : ℕ). before ++ front_json set) c.cannot_win-safe.ensures)
    c.push_every_wait.ensures.bytes
    (c.push_behind.ensures.bytes ∙ ap (λ (kinds : Option ℕ). c.push_every_wait.new.text.bytes ++ behind_json kinds) c.furiten.ensures)
