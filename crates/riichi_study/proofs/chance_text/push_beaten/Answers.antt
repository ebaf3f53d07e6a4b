use Rattle.std.proofs.Common.{◌≡◌, ◌++◌, ◌∙◌, Bool, List, ℕ, [], true, ap, sym}
use Rattle.std.specs.Prelude.{codes, if◌then◌else◌}
use Rattle.std.specs.List.{flat_map, list_any}
use Rattle.riichi_text.proofs.Pieces.{pushed-two}
use Rattle.riichi_study.specs.ChanceTexts.{beaten_word, is_beaten}
use Rattle.riichi_study.proofs.chance_text.push_beaten.Goals as goal

pub returns-then-beats_any-clause-bytes : goal.returns-then-beats_any-clause-bytes
returns-then-beats_any-clause-bytes c =
    let front : List ℕ = codes ", surely oftener than after" in
    let kinds = flat_map (beaten_word c.args.odds.now) c.args.others.now in
    let any : list_any (is_beaten c.args.odds.now) c.args.others.now ≡ true = sym c.beats_any.ensures ∙ c.if-beats_any.true in
    pushed-two c.args.text.now.bytes front kinds c.push_str.ensures.bytes c.push_beaten_kinds.ensures.bytes ∙ sym (ap (λ (t : Bool). c.args.text.now.bytes ++ (if t then front ++ kinds else [])) any)
