use Rattle.std.proofs.Common.{◌∙◌, ◌+◌, ◌&&◌, ◌||◌, ap, cond, refl}
use Rattle.riichi_tiles.specs.HeldKinds.{is_held, with_kind}
use Rattle.riichi_blocks.proofs.Tally.{IsTally_after, as_number}
use Rattle.riichi_blocks.proofs.blocks.Blocks.push.Goals as goal

pub invariant_of-self : goal.invariant_of-self
invariant_of-self c =
    let s = c.self.inside in
    let kind = c.kind-kind.result in
    let run = c.is_run-is_run.result in
    let triplet = c.is_triplet-is_triplet.result in
    IsTally_after s.list.items c.args.block s.runs_from s.runs_again s.triplets_of s.runs s.triplets s.concealed s.kongs s.outer s.honours s.fu
    kind run triplet c.is_concealed.result c.is_kong.result c.set_fu.result
    _ _ _ _ _ _ _ _ _ _ _
    (rw c.self.view_is c.requires) c.self.invariant
    c.kind-kind.ensures c.is_run-is_run.ensures c.is_triplet-is_triplet.ensures c.is_concealed.ensures c.is_kong.ensures c.set_fu.ensures.value c.set_fu.ensures.most
    c.push.ensures.items
    c.insert_if-2.ensures
    (c.insert_if.ensures ∙ ap (λ held. cond (run && held) (with_kind s.runs_again kind) s.runs_again) (c.has.ensures ∙ ap (is_held s.runs_from) c.index.ensures.value))
    c.insert_if-3.ensures
    (ap (λ n. s.runs + n) (c.from.ensures ∙ as_number run))
    (ap (λ n. s.triplets + n) (c.from-2.ensures ∙ as_number triplet))
    (ap (λ n. s.concealed + n) (c.from-3.ensures ∙ as_number c.is_concealed.result))
    (ap (λ n. s.kongs + n) (c.from-4.ensures ∙ as_number c.is_kong.result))
    (ap (λ b. s.outer && b) c.has_orphan.ensures)
    (ap (λ b. s.honours || b) c.has_honour.ensures)
    refl
