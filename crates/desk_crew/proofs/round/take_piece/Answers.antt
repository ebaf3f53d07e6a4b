use Rattle.std.proofs.Common.{◌≡◌, ◌∙◌, ◌+◌, ◌<◌, ℕ, List, Option, None, Some, false, inl, inr, get_or, length, sym, subst, ap, arith}
use Rattle.std.specs.Prelude.{IfNone, is_some}
use Rattle.std.proofs.lemmas.Bool.{cases_lt}
use Rattle.std.proofs.lemmas.List.{get_or_default, get_or-set_other}
use Rattle.std.proofs.lemmas.List.Elements.{All-set}
use Rattle.desk_lines.specs.declared.tally.Tally.{Tally}
use Rattle.desk_crew.specs.declared.share.Share.{Share}
use Rattle.desk_crew.specs.Pieces.{HaveAnswers, IsWithout}
use Rattle.desk_crew.proofs.round.take_piece.Goals as goal

none_is : (P : Type 0) (taken : Option Tally) → is_some taken ≡ false → IfNone taken P → P
none_is P None is given = given
none_is P (Some tally) is given = cc

-- one share more had nothing
one_more : (number place : ℕ) (given now : List Share) (share : Share) → place < length now → ((d : Share) → get_or now place d ≡ get_or given place d) → IsWithout number (get_or now place share)
    → ((k : ℕ) (d : Share) → k < place → IsWithout number (get_or given k d)) → (k : ℕ) (d : Share) → k < place + 1 → IsWithout number (get_or given k d)
one_more number place given now share within others this before k d next = elim (cases_lt k place) as (λ _. IsWithout number (get_or given k d)) [
  | inl below ↦ before k d below
  | inr above ↦
      let at : k ≡ place = omega (arith, above, next) in
      let same : get_or now place share ≡ get_or given k d = get_or_default now place share d within ∙ others d ∙ ap (λ (n : ℕ). get_or given n d) (sym at) in
      subst (IsWithout number) same this
]

pub loop-place-preserved : goal.loop-place-preserved
loop-place-preserved g c =
    let place = c.loop-place.place in
    let shares = c.loop-place.shares in
    let so_far = c.loop-place.invariant in
    let within : place < length shares = let test = c.loop-place-test.true in let same = c.loop-place.auto.shares in omega (arith, test, same) in
    let this = none_is (IsWithout c.args.number (get_or shares place c.index-shares-place.result)) c.take-taken.result (sym c.is_some.ensures ∙ c.if-is_some.false) c.take-taken.ensures.none in
    record {
      answered = All-set (HaveAnswers g.A.Responder.may_tell c.args.rules c.args.text.now c.args.size) shares place c.take-taken.new.self c.take-taken.ensures.left so_far.answered;
      without = one_more c.args.number place c.args.shares.now shares c.index-shares-place.result within (λ d. so_far.others place d (omega arith)) this so_far.without;
      others = λ k d beyond. get_or-set_other shares place k c.take-taken.new.self d (omega (arith, beyond)) ∙ so_far.others k d (omega (arith, beyond));
    }

pub returns-clause-none : goal.returns-clause-none
returns-clause-none g c = λ k d within. c.loop-place.invariant.without k d (let test = c.loop-place-test.false in omega (arith, within, test))
