-- What no hidden hand can do.
use Rattle.std.proofs.Common.{◌≡◌, ◌∙◌, ℕ, ◌+◌, ◌-◌, ◌<◌, Bool, true, false, cond, [], ◌∷◌, Option, Some, None, refl, sym, subst, ⊎_elim, arith}
use Rattle.std.proofs.lemmas.List.Elements.{All-cons, All-contains, All-nil}
use Rattle.std.proofs.lemmas.Bool.{eqb-true, ltb-true, or_cases}
use Rattle.std.specs.Prelude.{◌&&◌, ◌||◌, Contains, nat_le, slice_index}
use Rattle.riichi_tiles.specs.Tiles.{has_tile}
use Rattle.riichi_hand.specs.HandParts.{HandParts}
use Rattle.riichi_split.specs.Waits.{IsWait}
use Rattle.riichi_safe.specs.declared.sides.TwoSided.{TwoSided}
use Rattle.riichi_safe.specs.declared.sides.WaitState.TheVariants.{Open, Suji, Wall}
use Rattle.riichi_safe.specs.Records.{copies_seen}
use Rattle.riichi_safe.specs.Safe.{state_of, are_two_sided, is_passed, is_wall, two_sided_of, wait_by, wait_from_above, wait_from_below}
use Rattle.riichi_safe.specs.SafeLaws.{KeepsToFour, MayWinOn, PassedLaw, SujiLaw, WallLaw}
use Rattle.riichi_safe.specs.SafeParts.{SafeParts}

-- who waits for a kind that was passed wins on none
none_won : (parts : SafeParts) (hidden : HandParts) (kind other : ℕ) → is_passed parts other ≡ true → IsWait hidden other → MayWinOn hidden parts.thrown parts.since kind → ⊥
none_won parts hidden kind other is waits may =
    ⊎_elim
    (λ thrown. omega (arith, may.none_thrown other waits, ltb-true 0 (slice_index parts.thrown other) thrown))
    (λ since. omega (arith, may.none_passed other waits, ltb-true 0 (slice_index parts.since other) since))
    (or_cases (has_tile parts.thrown other) (has_tile parts.since other) is)

pub passed : PassedLaw
passed parts hidden kind is may = none_won parts hidden kind kind is may.waits may

-- ---- what a state says

state_suji : (passed wall : Bool) → cond passed Suji (cond wall Wall Open) ≡ Suji → passed ≡ true
state_suji true wall e = refl
state_suji false true e = absurd (cc)
state_suji false false e = absurd (cc)

state_wall : (passed wall : Bool) → cond passed Suji (cond wall Wall Open) ≡ Wall → wall ≡ true
state_wall true wall e = absurd (cc)
state_wall false true e = refl
state_wall false false e = absurd (cc)

chosen : (t : Bool) (wait made : TwoSided) → cond t (Some made) None ≡ Some wait → made ≡ wait
chosen true wait made e = cc
chosen false wait made e = absurd (cc)

-- what stands in a place says of its wait what is known
IsWaitOf : SafeParts → Option TwoSided → Type 0
IsWaitOf parts place = (wait : TwoSided) → place ≡ Some wait → wait.state ≡ state_of parts wait.low wait.other

from_below : (parts : SafeParts) (kind : ℕ) → IsWaitOf parts (wait_from_below parts kind)
unfolding IsWaitOf wait_from_below
from_below parts kind wait e =
    subst (λ (w : TwoSided). w.state ≡ state_of parts w.low w.other) (chosen (nat_le 3 kind && are_two_sided (kind - 3)) wait (wait_by parts (kind - 2) (kind - 3)) e) refl

from_above : (parts : SafeParts) (kind : ℕ) → IsWaitOf parts (wait_from_above parts kind)
unfolding IsWaitOf wait_from_above
from_above parts kind wait e =
    subst (λ (w : TwoSided). w.state ≡ state_of parts w.low w.other) (chosen (are_two_sided kind) wait (wait_by parts (kind + 1) (kind + 3)) e) refl

each_wait : (parts : SafeParts) (kind : ℕ) (wait : TwoSided) → Contains (two_sided_of parts kind) (Some wait) → wait.state ≡ state_of parts wait.low wait.other
unfolding IsWaitOf
each_wait parts kind wait among =
    All-contains (IsWaitOf parts) (two_sided_of parts kind) (Some wait)
    (All-cons (IsWaitOf parts) (wait_from_below parts kind) (wait_from_above parts kind ∷ []) (from_below parts kind) (All-cons (IsWaitOf parts) (wait_from_above parts kind) [] (from_above parts kind) (All-nil (IsWaitOf parts))))
    among wait refl

pub suji : SujiLaw
suji parts hidden kind wait among is waits may =
    none_won parts hidden kind wait.other (state_suji (is_passed parts wait.other) (is_wall parts wait.low || is_wall parts (wait.low + 1)) (sym (each_wait parts kind wait among) ∙ is)) waits may

-- all four are seen
no_more : (parts : SafeParts) (hidden : HandParts) (kind : ℕ) → KeepsToFour parts hidden → is_wall parts kind ≡ true → 0 < slice_index hidden.concealed kind → ⊥
no_more parts hidden kind keeps all held = omega (arith, keeps.at kind, eqb-true (copies_seen parts kind) 4 all, held)

pub wall : WallLaw
wall parts hidden kind wait among is keeps low_held high_held =
    let seen = state_wall (is_passed parts wait.other) (is_wall parts wait.low || is_wall parts (wait.low + 1)) (sym (each_wait parts kind wait among) ∙ is) in
    ⊎_elim (λ low. no_more parts hidden wait.low keeps low low_held) (λ high. no_more parts hidden (wait.low + 1) keeps high high_held) (or_cases (is_wall parts wait.low) (is_wall parts (wait.low + 1)) seen)
