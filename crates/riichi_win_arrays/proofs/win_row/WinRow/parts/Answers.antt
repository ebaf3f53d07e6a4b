use Rattle.std.proofs.Common.{◌≡◌, ◌<◌, ℕ, Bool, true, false, Option, Some, None, [], refl, sym, ap, arith}
use Rattle.std.specs.Prelude.{◌==◌, ◌&&◌, nat_lt, is_some, unwrap_or, if◌then◌else◌}
use Rattle.riichi_arrays.specs.Hands.{melds_in}
use Rattle.riichi_win_arrays.specs.WinRows.{is_sound, row_parts, wind_numbered}
use Rattle.riichi_win_arrays.proofs.win_row.WinRow.parts.Goals as goal

-- What is none failed its test, and a test that fails after others fails them all.
none : {A : Type 0} (b : Bool) (x : A) {o : Option A} → o ≡ (if b then Some x else None) → o ≡ None → b ≡ false
none true x is gone = cc
none false x is gone = refl

failed : (before : Bool) → (before && false) ≡ false
failed true = refl
failed false = refl

pub returns-in_err-wind_in : goal.returns-in_err-wind_in
returns-in_err-wind_in c = rw (none _ _ c.wind_in.ensures c.in_err-wind_in.was, failed) c.from_residual-in_err-wind_in.ensures

pub returns-in_err-wind_in-2 : goal.returns-in_err-wind_in-2
returns-in_err-wind_in-2 c = rw (none _ _ c.wind_in-2.ensures c.in_err-wind_in-2.was, failed) c.from_residual-in_err-wind_in-2.ensures

pub returns-in_err-indicators_in : goal.returns-in_err-indicators_in
returns-in_err-indicators_in c = rw (none _ _ c.indicators_in.ensures c.in_err-indicators_in.was, failed) c.from_residual-in_err-indicators_in.ensures

pub returns-in_err-indicators_in-2 : goal.returns-in_err-indicators_in-2
returns-in_err-indicators_in-2 c = rw (none _ _ c.indicators_in-2.ensures c.in_err-indicators_in-2.was, failed) c.from_residual-in_err-indicators_in-2.ensures

pub returns-in_err-reds_in : goal.returns-in_err-reds_in
returns-in_err-reds_in c = rw (none _ _ c.reds_in.ensures c.in_err-reds_in.was, failed) c.from_residual-in_err-reds_in.ensures

-- What is some passed its test, and is its value.
some : {A : Type 0} (b : Bool) (x y : A) → Some y ≡ (if b then Some x else None) → (b ≡ true) × (y ≡ x)
some true x y is = (refl, cc)
some false x y is = cc

kept : {A : Type 0} (b : Bool) (x y : A) → b ≡ true → y ≡ x → Some y ≡ (if b then Some x else None)
kept true x y passed same = ap Some same
kept false x y passed same = cc

both : (one other : Bool) → one ≡ true → other ≡ true → (one && other) ≡ true
both true true first next = refl
both true false first next = next
both false other first next = first

below : (number bound : ℕ) → number < bound → nat_lt number bound ≡ true
below number bound is = grind (arith, is)

pub returns : goal.returns
returns c =
    let row = c.args.self.now in
    let zero : (row.zero == 0) ≡ true = ap (λ (n : ℕ). n == 0) c.if-self-ne0.false in
    let concealed = some _ _ _ c.in_ok-counts_in.ensures in
    let is_melds : is_some (melds_in row.melds) ≡ true = ap is_some (sym c.in_ok-melds_in.ensures) in
    let melds = ap (λ o. unwrap_or o []) c.in_ok-melds_in.ensures in
    let winning = c.in_ok-new.ensures in
    let by = some _ _ _ c.in_ok-won_by.ensures in
    let seat = some (nat_lt row.seat 4) (wind_numbered row.seat) _ c.in_ok-wind_in.ensures in
    let round = some (nat_lt row.round 4) (wind_numbered row.round) _ c.in_ok-wind_in-2.ensures in
    let dora = some _ _ _ c.in_ok-indicators_in.ensures in
    let ura = some _ _ _ c.in_ok-indicators_in-2.ensures in
    let reds = some _ _ _ c.in_ok-reds_in.ensures in
    let sound : is_sound row ≡ true =
    both _ _ (both _ _ (both _ _ (both _ _ (both _ _ (both _ _ (both _ _ (both _ _ (both _ _ zero concealed.0) is_melds) (below _ _ winning.0)) by.0) seat.0) round.0) dora.0) ura.0) reds.0 in
    kept (is_sound row) (row_parts c.args.rules row) _ sound (λ i. record {
      rules = c.args.rules;
      concealed = concealed.1 i;
      melds = melds i;
      winning = winning.1 i;
      by = by.1 i;
      seat = seat.1 i;
      round = round.1 i;
      riichi = row.riichi;
      flags = c.flags.ensures i;
      dora = dora.1 i;
      ura = ura.1 i;
      counters = row.counters;
      sticks = row.sticks;
      reds = reds.1 i;
    })
