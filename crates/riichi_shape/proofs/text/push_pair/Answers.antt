use Rattle.std.proofs.Common.{◌≡◌, ℕ, ◌+◌, ◌*◌, ◌-◌, ◌++◌, [], ◌∷◌, take, drop, ap, ◌∙◌, append_assoc, arith}
use Rattle.std.proofs.lemmas.Str.{IsCharBoundary-from_ascii}
use Rattle.std.specs.Prelude.{codes}
use Rattle.riichi_shape.proofs.TextLemmas.{digit_at, front, front_at, fronts, fronts_ascii}
use Rattle.riichi_shape.proofs.text.push_pair.Goals as goal

pub range-requires-clause-start_boundary : goal.range-requires-clause-start_boundary
range-requires-clause-start_boundary c = λ some. IsCharBoundary-from_ascii (fronts 0 34) (4 * c.args.kind) (fronts_ascii 0 34) (omega (arith, c.requires.kind))

pub range-requires-clause-end_boundary : goal.range-requires-clause-end_boundary
range-requires-clause-end_boundary c = IsCharBoundary-from_ascii (fronts 0 34) (4 * c.args.kind + 4) (fronts_ascii 0 34) (omega (arith, c.requires.kind))

pub returns-clause-bytes : goal.returns-clause-bytes
returns-clause-bytes c =
    let before = c.args.text.now.bytes in
    let kind = c.args.kind in
    let live = c.args.live in
    let four : 4 * kind + 4 - 4 * kind ≡ 4 = omega arith in
    let one : live + 1 - live ≡ 1 = omega arith in
    let digit = c.range-2.ensures.value ∙ ap (λ n. take n (drop live (codes "01234"))) one ∙ digit_at live c.requires.live in
    c.push_str-2.ensures.bytes ∙ ap (λ t. c.push_str.new.self.bytes ++ t) digit
    ∙ ap (λ t. t ++ (48 + live) ∷ []) (c.push_str.ensures.bytes ∙ ap (λ t. before ++ t) (c.range.ensures.value ∙ ap (λ n. take n (drop (4 * kind) (fronts 0 34))) four ∙ front_at 0 34 kind c.requires.kind ∙ ap front (from_none kind)))
    ∙ append_assoc before (front kind) ((48 + live) ∷ [])
  where
    from_none : (kind : ℕ) → 0 + kind ≡ kind
    from_none kind = omega arith
