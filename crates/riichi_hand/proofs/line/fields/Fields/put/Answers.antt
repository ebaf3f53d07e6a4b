use Rattle.std.proofs.Common.{◌≡◌, ◌∙◌, List, ℕ, Bool, Option, Some, None, ap}
use Rattle.std.specs.Prelude.{◌||◌, option_map, is_some}
use Rattle.riichi_hand.specs.Entries.{first_or, is_again}
use Rattle.riichi_hand.proofs.line.fields.Fields.put.Goals as goal

-- A text is kept by its bytes, and where one was held before, its key is doubled.
kept : {X : Type 0} (bytes : X → List ℕ) (held : Option X) (text : X) {new : Option X} {value : Option (List ℕ)} {was before now : Bool}
    → new ≡ first_or held (Some text) → now ≡ (is_some held || was) → option_map bytes held ≡ value → was ≡ before
    → (now ≡ (is_some value || before)) × (option_map bytes new ≡ first_or value (Some (bytes text)))
kept bytes None text first doubled is same = (rw (← is) (doubled ∙ same), rw (← is) (ap (option_map bytes) first))
kept bytes (Some held) text first doubled is same = (rw (← is) doubled, rw (← is) (ap (option_map bytes) first))

-- So is a value that was read.
read : {X : Type 0} {held given new value told : Option X} {was before now : Bool}
    → new ≡ first_or held given → now ≡ (is_again held given || was) → given ≡ told → held ≡ value → was ≡ before
    → (now ≡ (is_again value told || before)) × (new ≡ first_or value told)
read first doubled given is same = (cc, cc)

pub returns-in-On-clause-answer : goal.returns-in-On-clause-answer
returns-in-On-clause-answer c = rw c.in-On.is c.keep.ensures.answer

pub returns-in-On-clause-holds : goal.returns-in-On-clause-holds
returns-in-On-clause-holds c =
    rw c.in-On.is (λ entries h.
    let value = kept (λ text. text.now) _ _ c.keep.ensures.first c.keep.ensures.again h.on h.doubled in
    record { doubled = value.0; on = value.1; by = h.by; seat = h.seat; round = h.round; melds = h.melds; riichi = h.riichi; flags = h.flags; dora = h.dora; ura = h.ura; counters = h.counters; sticks = h.sticks; seen = h.seen })

pub returns-in-By-clause-answer : goal.returns-in-By-clause-answer
returns-in-By-clause-answer c = rw c.in-By.is (c.keep-in-By.ensures.answer ∙ ap is_some c.read_by.ensures)

pub returns-in-By-clause-holds : goal.returns-in-By-clause-holds
returns-in-By-clause-holds c =
    rw c.in-By.is (λ entries h.
    let value = read c.keep-in-By.ensures.first c.keep-in-By.ensures.again c.read_by.ensures h.by h.doubled in
    record { doubled = value.0; on = h.on; by = value.1; seat = h.seat; round = h.round; melds = h.melds; riichi = h.riichi; flags = h.flags; dora = h.dora; ura = h.ura; counters = h.counters; sticks = h.sticks; seen = h.seen })

pub returns-in-Seat-clause-answer : goal.returns-in-Seat-clause-answer
returns-in-Seat-clause-answer c = rw c.in-Seat.is (c.keep-in-Seat.ensures.answer ∙ ap is_some c.read_wind.ensures)

pub returns-in-Seat-clause-holds : goal.returns-in-Seat-clause-holds
returns-in-Seat-clause-holds c =
    rw c.in-Seat.is (λ entries h.
    let value = read c.keep-in-Seat.ensures.first c.keep-in-Seat.ensures.again c.read_wind.ensures h.seat h.doubled in
    record { doubled = value.0; on = h.on; by = h.by; seat = value.1; round = h.round; melds = h.melds; riichi = h.riichi; flags = h.flags; dora = h.dora; ura = h.ura; counters = h.counters; sticks = h.sticks; seen = h.seen })

pub returns-in-Round-clause-answer : goal.returns-in-Round-clause-answer
returns-in-Round-clause-answer c = rw c.in-Round.is (c.keep-in-Round.ensures.answer ∙ ap is_some c.read_wind-in-Round.ensures)

pub returns-in-Round-clause-holds : goal.returns-in-Round-clause-holds
returns-in-Round-clause-holds c =
    rw c.in-Round.is (λ entries h.
    let value = read c.keep-in-Round.ensures.first c.keep-in-Round.ensures.again c.read_wind-in-Round.ensures h.round h.doubled in
    record { doubled = value.0; on = h.on; by = h.by; seat = h.seat; round = value.1; melds = h.melds; riichi = h.riichi; flags = h.flags; dora = h.dora; ura = h.ura; counters = h.counters; sticks = h.sticks; seen = h.seen })

pub returns-in-Open-clause-answer : goal.returns-in-Open-clause-answer
returns-in-Open-clause-answer c = rw c.in-Open.is c.keep-in-Open.ensures.answer

pub returns-in-Open-clause-holds : goal.returns-in-Open-clause-holds
returns-in-Open-clause-holds c =
    rw c.in-Open.is (λ entries h.
    let value = kept (λ text. text.now) _ _ c.keep-in-Open.ensures.first c.keep-in-Open.ensures.again h.melds h.doubled in
    record { doubled = value.0; on = h.on; by = h.by; seat = h.seat; round = h.round; melds = value.1; riichi = h.riichi; flags = h.flags; dora = h.dora; ura = h.ura; counters = h.counters; sticks = h.sticks; seen = h.seen })

pub returns-in-Riichi-clause-answer : goal.returns-in-Riichi-clause-answer
returns-in-Riichi-clause-answer c = rw c.in-Riichi.is (c.keep-in-Riichi.ensures.answer ∙ ap is_some c.read_riichi.ensures)

pub returns-in-Riichi-clause-holds : goal.returns-in-Riichi-clause-holds
returns-in-Riichi-clause-holds c =
    rw c.in-Riichi.is (λ entries h.
    let value = read c.keep-in-Riichi.ensures.first c.keep-in-Riichi.ensures.again c.read_riichi.ensures h.riichi h.doubled in
    record { doubled = value.0; on = h.on; by = h.by; seat = h.seat; round = h.round; melds = h.melds; riichi = value.1; flags = h.flags; dora = h.dora; ura = h.ura; counters = h.counters; sticks = h.sticks; seen = h.seen })

pub returns-in-Flags-clause-answer : goal.returns-in-Flags-clause-answer
returns-in-Flags-clause-answer c = rw c.in-Flags.is (c.keep-in-Flags.ensures.answer ∙ ap is_some c.read_flags.ensures)

pub returns-in-Flags-clause-holds : goal.returns-in-Flags-clause-holds
returns-in-Flags-clause-holds c =
    rw c.in-Flags.is (λ entries h.
    let value = read c.keep-in-Flags.ensures.first c.keep-in-Flags.ensures.again c.read_flags.ensures h.flags h.doubled in
    record { doubled = value.0; on = h.on; by = h.by; seat = h.seat; round = h.round; melds = h.melds; riichi = h.riichi; flags = value.1; dora = h.dora; ura = h.ura; counters = h.counters; sticks = h.sticks; seen = h.seen })

pub returns-in-Dora-clause-answer : goal.returns-in-Dora-clause-answer
returns-in-Dora-clause-answer c = rw c.in-Dora.is c.keep-in-Dora.ensures.answer

pub returns-in-Dora-clause-holds : goal.returns-in-Dora-clause-holds
returns-in-Dora-clause-holds c =
    rw c.in-Dora.is (λ entries h.
    let value = kept (λ text. text.now) _ _ c.keep-in-Dora.ensures.first c.keep-in-Dora.ensures.again h.dora h.doubled in
    record { doubled = value.0; on = h.on; by = h.by; seat = h.seat; round = h.round; melds = h.melds; riichi = h.riichi; flags = h.flags; dora = value.1; ura = h.ura; counters = h.counters; sticks = h.sticks; seen = h.seen })

pub returns-in-Ura-clause-answer : goal.returns-in-Ura-clause-answer
returns-in-Ura-clause-answer c = rw c.in-Ura.is c.keep-in-Ura.ensures.answer

pub returns-in-Ura-clause-holds : goal.returns-in-Ura-clause-holds
returns-in-Ura-clause-holds c =
    rw c.in-Ura.is (λ entries h.
    let value = kept (λ text. text.now) _ _ c.keep-in-Ura.ensures.first c.keep-in-Ura.ensures.again h.ura h.doubled in
    record { doubled = value.0; on = h.on; by = h.by; seat = h.seat; round = h.round; melds = h.melds; riichi = h.riichi; flags = h.flags; dora = h.dora; ura = value.1; counters = h.counters; sticks = h.sticks; seen = h.seen })

pub returns-in-Counters-clause-answer : goal.returns-in-Counters-clause-answer
returns-in-Counters-clause-answer c = rw c.in-Counters.is (c.keep-in-Counters.ensures.answer ∙ ap is_some c.read_number.ensures)

pub returns-in-Counters-clause-holds : goal.returns-in-Counters-clause-holds
returns-in-Counters-clause-holds c =
    rw c.in-Counters.is (λ entries h.
    let value = read c.keep-in-Counters.ensures.first c.keep-in-Counters.ensures.again c.read_number.ensures h.counters h.doubled in
    record { doubled = value.0; on = h.on; by = h.by; seat = h.seat; round = h.round; melds = h.melds; riichi = h.riichi; flags = h.flags; dora = h.dora; ura = h.ura; counters = value.1; sticks = h.sticks; seen = h.seen })

pub returns-in-Sticks-clause-answer : goal.returns-in-Sticks-clause-answer
returns-in-Sticks-clause-answer c = rw c.in-Sticks.is (c.keep-in-Sticks.ensures.answer ∙ ap is_some c.read_number-in-Sticks.ensures)

pub returns-in-Sticks-clause-holds : goal.returns-in-Sticks-clause-holds
returns-in-Sticks-clause-holds c =
    rw c.in-Sticks.is (λ entries h.
    let value = read c.keep-in-Sticks.ensures.first c.keep-in-Sticks.ensures.again c.read_number-in-Sticks.ensures h.sticks h.doubled in
    record { doubled = value.0; on = h.on; by = h.by; seat = h.seat; round = h.round; melds = h.melds; riichi = h.riichi; flags = h.flags; dora = h.dora; ura = h.ura; counters = h.counters; sticks = value.1; seen = h.seen })

pub returns-in-Seen-clause-answer : goal.returns-in-Seen-clause-answer
returns-in-Seen-clause-answer c = rw c.in-Seen.is c.keep-in-Seen.ensures.answer

pub returns-in-Seen-clause-holds : goal.returns-in-Seen-clause-holds
returns-in-Seen-clause-holds c =
    rw c.in-Seen.is (λ entries h.
    let value = kept (λ text. text.now) _ _ c.keep-in-Seen.ensures.first c.keep-in-Seen.ensures.again h.seen h.doubled in
    record { doubled = value.0; on = h.on; by = h.by; seat = h.seat; round = h.round; melds = h.melds; riichi = h.riichi; flags = h.flags; dora = h.dora; ura = h.ura; counters = h.counters; sticks = h.sticks; seen = value.1 })
