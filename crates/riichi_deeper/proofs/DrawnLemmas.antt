-- A hand with a tile more or less is a shape again, and what the parts of its answer are.
use Rattle.std.proofs.Common.{◌≡◌, ◌≢◌, ℕ, ◌+◌, ◌-◌, ◌<◌, ◌≤◌, inl, inr, Bool, true, false, List, [], ◌∷◌, length, Result, Ok, Err, get_or-set_same, get_or-set_other, length-set, refl, sym, ap, ◌∙◌, ⊎_elim, arith}
use Rattle.std.proofs.lemmas.Bool.{cases_eq, eqb-true, ne_eqb}
use Rattle.std.proofs.lemmas.Bool.Decides.{nat_tests}
use Rattle.std.proofs.lemmas.List.Sums.{sum_by-set}
use Rattle.std.specs.List.{list_any}
use Rattle.std.specs.Prelude.{nat_lt, not, slice_index, ◌==◌, ◌||◌}
use Rattle.riichi_hand.specs.Faults.{coded, fault_or, first_fault}
use Rattle.riichi_hand.specs.Hand.{IsShape, copies_with, has_five_seen, is_thirteen, is_thirteen_or_more, shape_of, size}
use Rattle.riichi_hand.specs.HandParts.{ShapeParts}
use Rattle.riichi_hand.specs.declared.fault.LineCode.TheVariants.{H8, H9}
use Rattle.riichi_hand.specs.declared.fault.LineFault.{LineFault}
use Rattle.riichi_tiles.specs.Melds.{every_kind}
use Rattle.riichi_tiles.specs.declared.meld.Meld.{Meld}
use Rattle.riichi_tiles.proofs.Members.{IsIn, in-range-inv}
use Rattle.riichi_shape.specs.Accepted.{accepted_of, with_one, without_one}
use Rattle.riichi_shape.specs.Answer.{accepts_of, shape_answer_of}
use Rattle.riichi_shape.specs.Discards.{discards_of}
use Rattle.riichi_shape.specs.EveryWinning.{shanten_of}
use Rattle.riichi_shape.specs.declared.accepts.Accepts.TheVariants.{Thirteen, Fourteen}
use Rattle.riichi_shape.specs.declared.discard.Discard.{Discard}
use Rattle.riichi_shape.specs.declared.shape_answer.ShapeAnswer.{ShapeAnswer}
use Rattle.riichi_shape.proofs.ShapeFacts.{copies_few}
use Rattle.riichi_deeper.specs.Drawn.{parts_with, parts_without}

-- ---- parts without fault

fine : (sized five : Bool) (parts : ShapeParts) → sized ≡ true → five ≡ false → fault_or (first_fault (coded H8 (not sized) ∷ coded H9 five ∷ [])) parts ≡ Ok parts
fine true false parts e f = refl
fine true true parts e f = absurd (cc)
fine false five parts e f = absurd (cc)

none_from : (p : ℕ → Bool) (xs : List ℕ) → ((x : ℕ) → IsIn x xs → p x ≡ false) → list_any p xs ≡ false
none_from p [] h = refl
none_from p (x ∷ xs) h = both (p x) (list_any p xs) (h x (inl refl)) (none_from p xs (λ y i. h y (inr i)))
  where
    both : (a b : Bool) → a ≡ false → b ≡ false → (a || b) ≡ false
    both false false e f = refl
    both false true e f = f
    both true b e f = e

no_more : (n : ℕ) → n ≤ 4 → nat_lt 4 n ≡ false
no_more n few = grind (arith, nat_tests)

few_seen : (parts : ShapeParts) → ((kind : ℕ) → kind < 34 → copies_with parts kind ≤ 4) → has_five_seen parts ≡ false
few_seen parts few = none_from (λ kind. nat_lt 4 (copies_with parts kind)) every_kind (λ kind i. no_more (copies_with parts kind) (few kind (omega (arith, (in-range-inv 34 0 kind i).1))))

thirteen_sized : (n : ℕ) → n ≡ 13 → ((n == 13) || (n == 14)) ≡ true
thirteen_sized n e = grind (arith, nat_tests)

fourteen_sized : (n : ℕ) → n ≡ 14 → ((n == 13) || (n == 14)) ≡ true
fourteen_sized n e = grind (arith, nat_tests)

is_sized : (n : ℕ) → (n == 13) ≡ true → n ≡ 13
is_sized n e = eqb-true n 13 e

pub thirteen_is : (tiles : List ℕ) (melds : List Meld) → is_thirteen tiles melds ≡ true → size tiles melds ≡ 13
thirteen_is tiles melds e = is_sized (size tiles melds) e

pub is_thirteen_by : (tiles : List ℕ) (melds : List Meld) → size tiles melds ≡ 13 → is_thirteen tiles melds ≡ true
is_thirteen_by tiles melds e = told (size tiles melds) e
  where
    told : (n : ℕ) → n ≡ 13 → (n == 13) ≡ true
    told n e = grind (arith, nat_tests)

pub shape_thirteen : (parts : ShapeParts) → size parts.tiles parts.melds ≡ 13 → ((kind : ℕ) → kind < 34 → copies_with parts kind ≤ 4) → shape_of parts ≡ Ok parts
unfolding shape_of
shape_thirteen parts sized few = fine (is_thirteen_or_more parts.tiles parts.melds) (has_five_seen parts) parts (thirteen_sized (size parts.tiles parts.melds) sized) (few_seen parts few)

pub shape_fourteen : (parts : ShapeParts) → size parts.tiles parts.melds ≡ 14 → ((kind : ℕ) → kind < 34 → copies_with parts kind ≤ 4) → shape_of parts ≡ Ok parts
unfolding shape_of
shape_fourteen parts sized few = fine (is_thirteen_or_more parts.tiles parts.melds) (has_five_seen parts) parts (fourteen_sized (size parts.tiles parts.melds) sized) (few_seen parts few)

-- ---- one tile more, and one less

pub more_here : (counts : List ℕ) (kind : ℕ) → kind < length counts → slice_index (with_one counts kind) kind ≡ slice_index counts kind + 1
more_here counts kind inside = get_or-set_same counts kind (slice_index counts kind + 1) 0 inside

pub more_other : (counts : List ℕ) (kind other : ℕ) → other ≢ kind → slice_index (with_one counts kind) other ≡ slice_index counts other
more_other counts kind other ne = get_or-set_other counts kind other (slice_index counts kind + 1) 0 ne

less_here : (counts : List ℕ) (kind : ℕ) → kind < length counts → slice_index (without_one counts kind) kind ≡ slice_index counts kind - 1
less_here counts kind inside = get_or-set_same counts kind (slice_index counts kind - 1) 0 inside

less_other : (counts : List ℕ) (kind other : ℕ) → other ≢ kind → slice_index (without_one counts kind) other ≡ slice_index counts other
less_other counts kind other ne = get_or-set_other counts kind other (slice_index counts kind - 1) 0 ne

pub size_with : (tiles : List ℕ) (melds : List Meld) (kind : ℕ) → kind < length tiles → size (with_one tiles kind) melds ≡ size tiles melds + 1
size_with tiles melds kind inside = omega (arith, sum_by-set (λ (n : ℕ). n) tiles kind (slice_index tiles kind + 1) 0 inside)

size_without : (tiles : List ℕ) (melds : List Meld) (kind : ℕ) → kind < length tiles → 0 < slice_index tiles kind → size (without_one tiles kind) melds + 1 ≡ size tiles melds
size_without tiles melds kind inside held = omega (arith, sum_by-set (λ (n : ℕ). n) tiles kind (slice_index tiles kind - 1) 0 inside, held)

module _ (parts : ShapeParts) (is : IsShape parts) (long : length parts.tiles ≡ 34) (kind : ℕ) (inside : kind < 34) where
  module _ (thirteen : is_thirteen parts.tiles parts.melds ≡ true) (left : copies_with parts kind < 4) where
    pub sized_with : size (with_one parts.tiles kind) parts.melds ≡ 14
    sized_with = omega (arith, size_with parts.tiles parts.melds kind (omega (arith, long, inside)), thirteen_is parts.tiles parts.melds thirteen)

    few_with : (other : ℕ) → other < 34 → copies_with (parts_with parts kind) other ≤ 4
    few_with other low = ⊎_elim (λ same. at_kind same) (λ ne. omega (arith, more_other parts.tiles kind other ne, copies_few parts is other low)) (cases_eq other kind)
      where
        at_kind : other ≡ kind → copies_with (parts_with parts kind) other ≤ 4
        at_kind same = omega (arith, ap (copies_with (parts_with parts kind)) same, more_here parts.tiles kind (omega (arith, long, inside)), left)

    pub drawn_is : shape_of (parts_with parts kind) ≡ Ok (parts_with parts kind)
    drawn_is = shape_fourteen (parts_with parts kind) sized_with few_with

  module _ (seen_long : length parts.seen ≡ 34) (fourteen : size parts.tiles parts.melds ≡ 14) (held : 0 < slice_index parts.tiles kind) where
    pub sized_without : size (without_one parts.tiles kind) parts.melds ≡ 13
    sized_without = omega (arith, size_without parts.tiles parts.melds kind (omega (arith, long, inside)) held, fourteen)

    few_without : (other : ℕ) → other < 34 → copies_with (parts_without parts kind) other ≤ 4
    few_without other low = ⊎_elim (λ same. at_kind same) (λ ne. omega (arith, less_other parts.tiles kind other ne, more_other parts.seen kind other ne, copies_few parts is other low)) (cases_eq other kind)
      where
        at_kind : other ≡ kind → copies_with (parts_without parts kind) other ≤ 4
        at_kind same =
            omega (arith, ap (copies_with (parts_without parts kind)) same, less_here parts.tiles kind (omega (arith, long, inside)), more_here parts.seen kind (omega (arith, seen_long, inside)), held, copies_few parts is kind inside)

    pub thrown_is : shape_of (parts_without parts kind) ≡ Ok (parts_without parts kind)
    thrown_is = shape_thirteen (parts_without parts kind) sized_without few_without

-- ---- what the program makes of these parts

pub never : (fault : LineFault) (r : Result ShapeParts LineFault) (parts : ShapeParts) → r ≡ Err fault → r ≡ Ok parts → ⊥
never fault r parts e f = differ (sym e ∙ f)
  where
    differ : Err fault ≡ Ok parts → ⊥
    differ h = cc

same_ok : (made parts : ShapeParts) → ◌≡◌ {A = Result ShapeParts LineFault} (Ok made) (Ok parts) → made ≡ parts
same_ok made parts h = cc

pub made_is : (made : ShapeParts) (r : Result ShapeParts LineFault) (parts : ShapeParts) → r ≡ Ok made → r ≡ Ok parts → made ≡ parts
made_is made r parts e f = same_ok made parts (sym e ∙ f)

module _ (parts : ShapeParts) (is : IsShape parts) (kind : ℕ) (inside : kind < 34) (tiles : List ℕ) (tiles_is : tiles ≡ parts.tiles) where
  module _ (more : List ℕ) (melds : List Meld) (seen : List ℕ) (more_is : more ≡ with_one tiles kind) (long : length more ≡ 34) (melds_is : melds ≡ parts.melds) (seen_is : seen ≡ parts.seen)
      (thirteen : is_thirteen parts.tiles parts.melds ≡ true) (left : copies_with parts kind < 4) where
    drawn_long : length parts.tiles ≡ 34
    drawn_long = ap length (sym tiles_is) ∙ sym (length-set tiles kind (slice_index tiles kind + 1)) ∙ ap length (sym more_is) ∙ long

    drawn_parts : ◌≡◌ {A = ShapeParts} (record { tiles = more; melds = melds; seen = seen }) (parts_with parts kind)
    drawn_parts = same_parts (more_is ∙ ap (λ (counts : List ℕ). with_one counts kind) tiles_is)
      where
        same_parts : more ≡ with_one parts.tiles kind → ◌≡◌ {A = ShapeParts} (record { tiles = more; melds = melds; seen = seen }) (parts_with parts kind)
        same_parts e = cc

    pub drawn_answer : (r : Result ShapeParts LineFault) → r ≡ shape_of (record { tiles = more; melds = melds; seen = seen }) → r ≡ Ok (parts_with parts kind)
    drawn_answer r e = e ∙ ap shape_of drawn_parts ∙ drawn_is parts is drawn_long kind inside thirteen left

    pub drawn_size : size (parts_with parts kind).tiles (parts_with parts kind).melds ≡ 14
    drawn_size = sized_with parts is drawn_long kind inside thirteen left

  module _ (less : List ℕ) (melds : List Meld) (seen more : List ℕ) (less_is : less ≡ without_one tiles kind) (long : length less ≡ 34) (melds_is : melds ≡ parts.melds) (seen_is : seen ≡ parts.seen)
      (more_is : more ≡ with_one seen kind) (seen_long : length more ≡ 34) (fourteen : size parts.tiles parts.melds ≡ 14) (held : 0 < slice_index parts.tiles kind) where
    thrown_long : length parts.tiles ≡ 34
    thrown_long = ap length (sym tiles_is) ∙ sym (length-set tiles kind (slice_index tiles kind - 1)) ∙ ap length (sym less_is) ∙ long

    thrown_seen : length parts.seen ≡ 34
    thrown_seen = ap length (sym seen_is) ∙ sym (length-set seen kind (slice_index seen kind + 1)) ∙ ap length (sym more_is) ∙ seen_long

    thrown_parts : ◌≡◌ {A = ShapeParts} (record { tiles = less; melds = melds; seen = more }) (parts_without parts kind)
    thrown_parts = same_parts (less_is ∙ ap (λ (counts : List ℕ). without_one counts kind) tiles_is) (more_is ∙ ap (λ (counts : List ℕ). with_one counts kind) seen_is)
      where
        same_parts : less ≡ without_one parts.tiles kind → more ≡ with_one parts.seen kind → ◌≡◌ {A = ShapeParts} (record { tiles = less; melds = melds; seen = more }) (parts_without parts kind)
        same_parts e f = cc

    pub thrown_answer : (r : Result ShapeParts LineFault) → r ≡ shape_of (record { tiles = less; melds = melds; seen = more }) → r ≡ Ok (parts_without parts kind)
    thrown_answer r e = e ∙ ap shape_of thrown_parts ∙ thrown_is parts is thrown_long kind inside thrown_seen fourteen held

    pub thrown_size : is_thirteen (parts_without parts kind).tiles (parts_without parts kind).melds ≡ true
    thrown_size = is_thirteen_by (without_one parts.tiles kind) parts.melds (sized_without parts is thrown_long kind inside thrown_seen fourteen held)

-- one more is seen, since a tile of the kind is held
pub seen_few : (parts : ShapeParts) (is : IsShape parts) (kind : ℕ) → kind < 34 → 0 < slice_index parts.tiles kind → slice_index parts.seen kind < 4
seen_few parts is kind inside held = omega (arith, copies_few parts is kind inside, held)

-- ---- the parts of an answer

pub shanten_is : (parts : ShapeParts) → (shape_answer_of parts).shanten ≡ shanten_of parts.tiles parts.melds
unfolding shape_answer_of
shanten_is parts = refl

pub accepts_thirteen : (parts : ShapeParts) → is_thirteen parts.tiles parts.melds ≡ true → (shape_answer_of parts).accepts ≡ Thirteen (accepted_of parts.tiles parts.melds parts.seen)
unfolding shape_answer_of accepts_of
accepts_thirteen parts thirteen = rw thirteen refl

pub accepts_fourteen : (parts : ShapeParts) → size parts.tiles parts.melds ≡ 14 → (shape_answer_of parts).accepts ≡ Fourteen (discards_of parts.tiles parts.melds parts.seen)
unfolding shape_answer_of accepts_of
accepts_fourteen parts fourteen = rw (ne_eqb (size parts.tiles parts.melds) 13 (λ e. omega (arith, e, fourteen))) refl

pub never_thirteen : (parts : ShapeParts) (answer : ShapeAnswer) (list : List (ℕ × ℕ)) → answer ≡ shape_answer_of parts → size parts.tiles parts.melds ≡ 14 → answer.accepts ≡ Thirteen list → ⊥
never_thirteen parts answer list e fourteen is = differ (sym is ∙ ap (λ (a : ShapeAnswer). a.accepts) e ∙ accepts_fourteen parts fourteen)
  where
    differ : Thirteen list ≡ Fourteen (discards_of parts.tiles parts.melds parts.seen) → ⊥
    differ h = cc

pub never_fourteen : (parts : ShapeParts) (answer : ShapeAnswer) (list : List Discard) → answer ≡ shape_answer_of parts → is_thirteen parts.tiles parts.melds ≡ true → answer.accepts ≡ Fourteen list → ⊥
never_fourteen parts answer list e thirteen is = differ (sym is ∙ ap (λ (a : ShapeAnswer). a.accepts) e ∙ accepts_thirteen parts thirteen)
  where
    differ : Fourteen list ≡ Thirteen (accepted_of parts.tiles parts.melds parts.seen) → ⊥
    differ h = cc

pub list_of_fourteen : (parts : ShapeParts) (answer : ShapeAnswer) (list : List Discard) → answer ≡ shape_answer_of parts → size parts.tiles parts.melds ≡ 14 → answer.accepts ≡ Fourteen list → list ≡ discards_of parts.tiles parts.melds parts.seen
list_of_fourteen parts answer list e fourteen is = same (sym is ∙ ap (λ (a : ShapeAnswer). a.accepts) e ∙ accepts_fourteen parts fourteen)
  where
    same : Fourteen list ≡ Fourteen (discards_of parts.tiles parts.melds parts.seen) → list ≡ discards_of parts.tiles parts.melds parts.seen
    same h = cc

pub list_of_thirteen : (parts : ShapeParts) (answer : ShapeAnswer) (list : List (ℕ × ℕ)) → answer ≡ shape_answer_of parts → is_thirteen parts.tiles parts.melds ≡ true → answer.accepts ≡ Thirteen list → list ≡ accepted_of parts.tiles parts.melds parts.seen
list_of_thirteen parts answer list e thirteen is = same (sym is ∙ ap (λ (a : ShapeAnswer). a.accepts) e ∙ accepts_thirteen parts thirteen)
  where
    same : Thirteen list ≡ Thirteen (accepted_of parts.tiles parts.melds parts.seen) → list ≡ accepted_of parts.tiles parts.melds parts.seen
    same h = cc

pub shanten_told : (parts : ShapeParts) (answer : ShapeAnswer) → answer ≡ shape_answer_of parts → answer.shanten ≡ shanten_of parts.tiles parts.melds
shanten_told parts answer e = ap (λ (a : ShapeAnswer). a.shanten) e ∙ shanten_is parts
