-- Each reading of sets and a pair is among the ways.
use Rattle.std.proofs.Common.{◌≡◌, ◌∙◌, ◌⊎◌, ℕ, zero, suc, ◌+◌, ◌-◌, ◌*◌, ◌≤◌, ◌<◌, Bool, true, false, ◌&&◌, ◌||◌, not, cond, inl, inr, Option, Some, None, List, [], ◌∷◌, ◌++◌, length, map, flat_map, replicate, get_or, set, ltb, leb, eqb, refl, sym, ap, subst, arith}
use Rattle.std.specs.List.{AllByRecursion}
use Rattle.std.proofs.lemmas.Bool.{and_from, cases_eq, eq-eqb, ne_eqb, le-leb, lt-ltb}
use Rattle.std.proofs.lemmas.Bool.Decides.{nat_tests}
use Rattle.std.proofs.lemmas.List.{length-set}
use Rattle.riichi_tiles.specs.Blocks.{copies, total}
use Rattle.riichi_tiles.specs.declared.block.Block.{Block}
use Rattle.riichi_tiles.specs.declared.block.Block.TheVariants.{Run, Triplet, Pair}
use Rattle.riichi_tiles.proofs.Members.{IsIn, in-Contains, in-cases, in-flat_map, in-left, in-map, in-right}
use Rattle.riichi_split.specs.Readings.{IsSplit, IsDone}
use Rattle.riichi_split.specs.ReadingsOf.{when}
use Rattle.riichi_split.proofs.AllSplits.{cut-beside, without}
use Rattle.riichi_split.proofs.Collections.{in-when}
use Rattle.riichi_split.proofs.Complete.{IsPeeled, peel, no_more, cut-behind}
use Rattle.riichi_split.proofs.Sound.{IsCut, none_below}
use Rattle.riichi_split.proofs.Ways.{At, Begun, Way, needed, may_begin, beginning, beginnings, next, completed, dones_here, done_or, extended, is_over, ways}

-- the pair's tiles of a kind
abbrev pub taken : Option ℕ → ℕ → ℕ
taken None kind = 0
taken (Some pair) kind = cond (eqb kind pair) 2 0

-- the pair is still to come, of one of so many kinds, where it wasn't taken
abbrev pub IsPairFrom : ℕ → ℕ → Bool → Option ℕ → Type 0
IsPairFrom kind many true pair = pair ≡ None
IsPairFrom kind many false pair = (p : ℕ) × (pair ≡ Some p) × (kind ≤ p) × (p < kind + many)

-- a block of a run that goes on, or one that is still to come
pub data IsOpen (kind : ℕ) (at : At) (way : Way) (done : Block) : Type 0 where
  begun_one_below : (low : ℕ) → done ≡ Run low → low + 1 ≡ kind → 0 < at.one → IsOpen kind at way done
  begun_two_below : (low : ℕ) → done ≡ Run low → low + 2 ≡ kind → 0 < at.two → IsOpen kind at way done
  a_set : IsIn done way.sets → IsOpen kind at way done
  the_pair : (p : ℕ) → way.pair ≡ Some p → done ≡ Pair p → IsOpen kind at way done

pub record IsStillDone (kind winning : ℕ) (at : At) (way : Way) : Type 0 where
  pub ahead : kind ≤ winning
  pub block : Block
  pub is : way.done ≡ Some block
  pub has_winning : 0 < copies block winning
  pub open_at : IsOpen kind at way block

abbrev pub IsDoneFrom : ℕ → ℕ → At → Way → Type 0
IsDoneFrom kind winning at way = ((winning < kind) × (way.done ≡ None)) ⊎ IsStillDone kind winning at way

-- the way uses up the counts from the kind on; `rest` are these without the pair
pub record IsWay (kind winning : ℕ) (counts rest : List ℕ) (at : At) (way : Way) : Type 0 where
  pub cut : IsCut kind rest at.one at.two at.left way.sets
  pub as_many : length counts ≡ length rest
  pub few : AllByRecursion (λ n. n ≤ 4) counts
  pub adds : (j : ℕ) → get_or counts j 0 ≡ get_or rest j 0 + taken way.pair (kind + j)
  pub pair_is : IsPairFrom kind (length counts) at.paired way.pair
  pub done_is : IsDoneFrom kind winning at way

-- ---- past the last kind

no-pair-left : (kind : ℕ) (paired : Bool) (pair : Option ℕ) → IsPairFrom kind 0 paired pair → (paired ≡ true) × (pair ≡ None)
no-pair-left kind true pair h = (refl, h)
no-pair-left kind false pair h = absurd (omega (arith, h.2, h.3))

none-open : (kind : ℕ) (at : At) (way : Way) (done : Block) → at.one + at.two ≡ 0 → way.sets ≡ [] → way.pair ≡ None → IsOpen kind at way done → ⊥
none-open kind at way done idle sets pair (begun_one_below low e f h) = omega arith
none-open kind at way done idle sets pair (begun_two_below low e f h) = omega arith
none-open kind at way done idle sets pair (a_set i) = subst (λ (bs : List Block). IsIn done bs) sets i
none-open kind at way done idle sets pair (the_pair p e f) = absurd (let z = sym pair ∙ e in cc)

none-done : (kind winning : ℕ) (at : At) (way : Way) → at.one + at.two ≡ 0 → way.sets ≡ [] → way.pair ≡ None → IsDoneFrom kind winning at way → way.done ≡ None
none-done kind winning at way idle sets pair (inl h) = h.1
none-done kind winning at way idle sets pair (inr h) = absurd (none-open kind at way h.block idle sets pair h.open_at)

same-way : (a b : Way) → a.sets ≡ b.sets → a.pair ≡ b.pair → a.done ≡ b.done → a ≡ b
same-way a b sets pair done =
    ap (λ s. record { sets = s; pair = a.pair; done = a.done }) sets ∙ ap (λ p. record { sets = b.sets; pair = p; done = a.done }) pair ∙ ap (λ d. record { sets = b.sets; pair = b.pair; done = d }) done

over-way : (kind winning : ℕ) (at : At) (way : Way) → IsWay kind winning [] [] at way → IsIn way (ways kind winning [] at)
unfolding ways
over-way kind winning at way h =
    let sets = no_more way.sets kind at.one at.two at.left h.cut in
    let first : 0 ≡ at.one + at.two + 0 = h.cut.adds 0 ∙ ap (λ bs. at.one + at.two + total bs (kind + 0)) sets in
    let none : length way.sets ≡ 0 = ap length sets in
    let pair = no-pair-left kind at.paired way.pair h.pair_is in
    let done = none-done kind winning at way (omega arith) sets pair.1 h.done_is in
    let over = and_from (eqb (at.one + at.two + at.left) 0) at.paired (eq-eqb (at.one + at.two + at.left) 0 (omega (arith, h.cut.many))) pair.0 in
    let end : Way = record { sets = []; pair = None; done = None } in
    in-when (is_over at) way (end ∷ []) over (inl (same-way end way (sym sets) (sym pair.1) (sym done)))

-- ---- the pair at a kind, or a later one

record IsPairHere (kind many : ℕ) (paired : Bool) (pair : Option ℕ) (here : Bool) (later : Option ℕ) : Type 0 where
  is : cond here (Some kind) later ≡ pair
  later_is : IsPairFrom (kind + 1) many (paired || here) later
  once : not (paired && here) ≡ true
  own : taken pair (kind + 0) ≡ cond here 2 0
  behind : (j : ℕ) → taken pair (kind + suc j) ≡ taken later (kind + 1 + j)
  which : (p : ℕ) → pair ≡ Some p → ((here ≡ true) × (p ≡ kind)) ⊎ (later ≡ Some p)

some-same : (p q : ℕ) → Some p ≡ Some q → p ≡ q
some-same p q e = cc

pair-here : (kind many : ℕ) (paired : Bool) (pair : Option ℕ) → IsPairFrom kind (suc many) paired pair → (here : Bool) × (later : Option ℕ) × IsPairHere kind many paired pair here later
pair-here kind many true pair h = (
  false,
  None,
  record {
    is = sym h;
    later_is = refl;
    once = refl;
    own = ap (λ p. taken p (kind + 0)) h;
    behind = λ j. ap (λ p. taken p (kind + suc j)) h;
    which = λ p e. absurd (let z = sym h ∙ e in cc);
  },
)
pair-here kind many false pair h =
    elim (cases_eq h.0 kind) [
      | inl e ↦ (
        true,
        None,
        record {
          is = ap Some (sym e) ∙ sym h.1;
          later_is = refl;
          once = refl;
          own = ap (λ p. taken p (kind + 0)) h.1 ∙ grind (arith, nat_tests);
          behind = λ j. ap (λ p. taken p (kind + suc j)) h.1 ∙ grind (arith, nat_tests);
          which = λ p f. inl (refl, sym (some-same h.0 p (sym h.1 ∙ f)) ∙ e);
        },
      )
      | inr other ↦ (
        false,
        Some h.0,
        record {
          is = sym h.1;
          later_is = (h.0, refl, omega (arith, h.2), omega (arith, h.3));
          once = refl;
          own = ap (λ p. taken p (kind + 0)) h.1 ∙ grind (arith, nat_tests);
          behind = λ j. ap (λ p. taken p (kind + suc j)) h.1 ∙ ap (λ k. cond (eqb k h.0) 2 0) (omega arith);
          which = λ p f. inr (sym h.1 ∙ f);
        },
      )
    ]

-- ---- what begins at a kind

begins-here : (held n t r : ℕ) (here : Bool) (at : At) → n ≡ at.one + at.two + 3 * t + r → held ≡ n + cond here 2 0 → t + r ≤ at.left → not (at.paired && here) ≡ true → IsIn (record { triplets = t; runs = r; pair = here }) (beginning held at t here)
begins-here held n t r here at uses e room once =
    let left : held - needed at t here ≡ r = omega arith in
    let two = and_from (leb (t + (held - needed at t here)) at.left) (not (at.paired && here)) (le-leb (t + (held - needed at t here)) at.left (omega arith)) once in
    let may = and_from (leb (needed at t here) held) (leb (t + (held - needed at t here)) at.left && not (at.paired && here)) (le-leb (needed at t here) held (omega arith)) two in
    in-when (may_begin held at t here) (record { triplets = t; runs = r; pair = here }) (record { triplets = t; runs = held - needed at t here; pair = here } ∷ []) may
    (inl (ap (λ n. record { triplets = t; runs = n; pair = here }) left))

begun-among : (held n t r : ℕ) (here : Bool) (at : At) → held ≤ 4 → n ≡ at.one + at.two + 3 * t + r → held ≡ n + cond here 2 0 → t + r ≤ at.left → not (at.paired && here) ≡ true → IsIn (record { triplets = t; runs = r; pair = here }) (beginnings held at)
unfolding beginnings
begun-among held n zero r false at small uses e room once = in-left _ (beginning held at 0 false) _ (begins-here held n 0 r false at uses e room once)
begun-among held n zero r true at small uses e room once = in-right _ (beginning held at 0 false) _ (in-right _ (beginning held at 1 false) _ (begins-here held n 0 r true at uses e room once))
begun-among held n (suc zero) r false at small uses e room once = in-right _ (beginning held at 0 false) _ (in-left _ (beginning held at 1 false) _ (begins-here held n 1 r false at uses e room once))
begun-among held n (suc zero) r true at small uses e room once = absurd (omega arith)
begun-among held n (suc (suc t)) r here at small uses e room once = absurd (omega arith)

-- ---- the block that the winning kind completes

in-replicate : {X : Type 0} (n : ℕ) (x y : X) → IsIn y (replicate n x) → (0 < n) × (y ≡ x)
in-replicate zero x y h = absurd h
in-replicate (suc n) x y (inl e) = (omega arith, sym e)
in-replicate (suc n) x y (inr h) = (omega arith, (in-replicate n x y h).1)

-- a set of a peeled kind, or one that begins later
peeled-cases : (kind t r : ℕ) (bs rest : List Block) (done : Block) → IsPeeled kind t r bs rest → IsIn done bs → ((0 < t) × (done ≡ Triplet kind)) ⊎ (((0 < r) × (done ≡ Run kind)) ⊎ IsIn done rest)
peeled-cases kind t r bs rest done p i =
    elim (in-cases done (replicate t (Triplet kind) ++ replicate r (Run kind)) rest (subst (λ (xs : List Block). IsIn done xs) p.parts i)) [
      | inr later ↦ inr (inr later)
      | inl now ↦ elim (in-cases done (replicate t (Triplet kind)) (replicate r (Run kind)) now) [
        | inl triplet ↦ inl (in-replicate t (Triplet kind) done triplet)
        | inr run ↦ inr (inl (in-replicate r (Run kind) done run))
      ]
    ]

in-total : (kind : ℕ) (done : Block) (bs : List Block) → IsIn done bs → copies done kind ≤ total bs kind
in-total kind done [] i = absurd i
in-total kind done (b ∷ bs) (inl e) = omega (arith, ap (λ (x : Block). copies x kind) e)
in-total kind done (b ∷ bs) (inr i) = omega (arith, in-total kind done bs i)

run-reaches : (low kind : ℕ) (done : Block) → done ≡ Run low → 0 < copies done kind → (low ≤ kind) × (kind < low + 3)
run-reaches low kind done e h = let f : copies done kind ≡ copies (Run low) kind = ap (λ (b : Block). copies b kind) e in (grind (arith, nat_tests), grind (arith, nat_tests))

triplet-reaches : (own kind : ℕ) (done : Block) → done ≡ Triplet own → 0 < copies done kind → kind ≡ own
triplet-reaches own kind done e h = let f : copies done kind ≡ copies (Triplet own) kind = ap (λ (b : Block). copies b kind) e in grind (arith, nat_tests)

pair-reaches : (own kind : ℕ) (done : Block) → done ≡ Pair own → 0 < copies done kind → kind ≡ own
pair-reaches own kind done e h = let f : copies done kind ≡ copies (Pair own) kind = ap (λ (b : Block). copies b kind) e in grind (arith, nat_tests)

-- a pair that is still to come is of no kind below
later-pair : (kind many : ℕ) (paired : Bool) (later : Option ℕ) (p : ℕ) → IsPairFrom (kind + 1) many paired later → later ≡ Some p → kind ≡ p → ⊥
later-pair kind many true later p h e same = absurd (let z = sym h ∙ e in cc)
later-pair kind many false later p h e same = omega (arith, h.2, some-same h.0 p (sym h.1 ∙ e))

module _ (kind many t r : ℕ) (at : At) (way : Way) (rest : List Block) (here : Bool) (later : Option ℕ) (peeled : IsPeeled kind t r way.sets rest) (pair : IsPairHere kind many at.paired way.pair here later) where
  abbrev begun : Begun
  begun = record { triplets = t; runs = r; pair = here }

  in-two : (done : Block) (low : ℕ) → done ≡ Run low → low + 2 ≡ kind → 0 < at.two → IsIn done (completed kind at begun)
  unfolding completed
  in-two done low e f h =
      let same : Run (kind - 2) ≡ done = ap Run (omega arith) ∙ sym e in
      in-left done (when (ltb 0 at.two) (Run (kind - 2) ∷ [])) _ (in-when (ltb 0 at.two) done (Run (kind - 2) ∷ []) (lt-ltb 0 at.two h) (inl same))

  in-one : (done : Block) (low : ℕ) → done ≡ Run low → low + 1 ≡ kind → 0 < at.one → IsIn done (completed kind at begun)
  unfolding completed
  in-one done low e f h =
      let same : Run (kind - 1) ≡ done = ap Run (omega arith) ∙ sym e in
      in-right done (when (ltb 0 at.two) (Run (kind - 2) ∷ [])) _ (in-left done (when (ltb 0 at.one) (Run (kind - 1) ∷ [])) _ (in-when (ltb 0 at.one) done (Run (kind - 1) ∷ []) (lt-ltb 0 at.one h) (inl same)))

  in-run : (done : Block) → 0 < r → done ≡ Run kind → IsIn done (completed kind at begun)
  unfolding completed
  in-run done h e =
      in-right done (when (ltb 0 at.two) (Run (kind - 2) ∷ [])) _ (in-right done (when (ltb 0 at.one) (Run (kind - 1) ∷ [])) _ (in-left done (when (ltb 0 r) (Run kind ∷ [])) _ (in-when (ltb 0 r) done (Run kind ∷ []) (lt-ltb 0 r h) (inl (sym e)))))

  in-triplet : (done : Block) → 0 < t → done ≡ Triplet kind → IsIn done (completed kind at begun)
  unfolding completed
  in-triplet done h e =
      in-right done (when (ltb 0 at.two) (Run (kind - 2) ∷ [])) _ (in-right done (when (ltb 0 at.one) (Run (kind - 1) ∷ [])) _ (in-right done (when (ltb 0 r) (Run kind ∷ [])) _ (in-left done (when (ltb 0 t) (Triplet kind ∷ [])) _ (in-when (ltb 0 t) done (Triplet kind ∷ []) (lt-ltb 0 t h) (inl (sym e))))))

  in-pair : (done : Block) → here ≡ true → done ≡ Pair kind → IsIn done (completed kind at begun)
  unfolding completed
  in-pair done h e =
      in-right done (when (ltb 0 at.two) (Run (kind - 2) ∷ [])) _ (in-right done (when (ltb 0 at.one) (Run (kind - 1) ∷ [])) _ (in-right done (when (ltb 0 r) (Run kind ∷ [])) _ (in-right done (when (ltb 0 t) (Triplet kind ∷ [])) _ (in-when here done (Pair kind ∷ []) h (inl (sym e))))))

  completed-here : (done : Block) → 0 < copies done kind → IsOpen kind at way done → IsIn done (completed kind at begun)
  completed-here done h (begun_one_below low e f g) = in-one done low e f g
  completed-here done h (begun_two_below low e f g) = in-two done low e f g
  completed-here done h (a_set i) =
      elim (peeled-cases kind t r way.sets rest done peeled i) [
        | inl triplet ↦ in-triplet done triplet.0 triplet.1
        | inr more ↦ elim more [
          | inl run ↦ in-run done run.0 run.1
          | inr behind ↦ absurd (omega (arith, in-total kind done rest behind, none_below rest (2 * kind + 2) kind peeled.sets peeled.order (omega arith)))
        ]
      ]
  completed-here done h (the_pair p e f) =
      elim (pair.which p e) [
        | inl now ↦ in-pair done now.0 (f ∙ ap Pair now.1)
        | inr behind ↦ absurd (later-pair kind many (at.paired || here) later p pair.later_is behind (pair-reaches p kind done f h))
      ]

  -- open at the next kind
  open-later : (done : Block) (winning : ℕ) (completes : Option Block) → kind < winning → 0 < copies done winning → IsOpen kind at way done → IsOpen (kind + 1) (next at begun) (record { sets = rest; pair = later; done = completes }) done
  open-later done winning completes before h (begun_one_below low e f g) = begun_two_below low e (omega arith) g
  open-later done winning completes before h (begun_two_below low e f g) = absurd (omega (arith, (run-reaches low winning done e h).1))
  open-later done winning completes before h (a_set i) =
      elim (peeled-cases kind t r way.sets rest done peeled i) [
        | inl triplet ↦ absurd (omega (arith, triplet-reaches kind winning done triplet.1 h))
        | inr more ↦ elim more [
          | inl run ↦ begun_one_below kind run.1 refl run.0
          | inr behind ↦ a_set behind
        ]
      ]
  open-later done winning completes before h (the_pair p e f) =
      elim (pair.which p e) [
        | inl now ↦ absurd (omega (arith, now.1, pair-reaches p winning done f h))
        | inr behind ↦ the_pair p behind f
      ]

  -- what is completed at the kind, and what later
  done-here : (winning : ℕ) → IsDoneFrom kind winning at way
      → (now : Option Block) × (behind : Option Block) × IsIn now (dones_here (eqb kind winning) kind at begun) × (done_or now behind ≡ way.done) × IsDoneFrom (kind + 1) winning (next at begun) (record { sets = rest; pair = later; done = behind })
  unfolding dones_here
  done-here winning (inl h) =
      let here_not : eqb kind winning ≡ false = ne_eqb kind winning (λ e. absurd (omega arith)) in
      let P : Bool → Type 0 = λ b. IsIn None (dones_here b kind at begun) in
      (None, None, subst P (sym here_not) (inl refl), sym h.1, inl (omega arith, refl))
  done-here winning (inr h) =
      elim (cases_eq kind winning) [
        | inl e ↦
            let is_here : eqb kind winning ≡ true = eq-eqb kind winning e in
            let P : Bool → Type 0 = λ b. IsIn (Some h.block) (dones_here b kind at begun) in
            let own : 0 < copies h.block kind = subst (λ (k : ℕ). 0 < copies h.block k) (sym e) h.has_winning in
            (Some h.block, None, subst P (sym is_here) (in-map Some h.block (completed kind at begun) (completed-here h.block own h.open_at)), sym h.is, inl (omega arith, refl))
        | inr other ↦
            let here_not : eqb kind winning ≡ false = ne_eqb kind winning other in
            let before : kind < winning = omega (arith, h.ahead) in
            let P : Bool → Type 0 = λ b. IsIn None (dones_here b kind at begun) in (
              None,
              Some h.block,
              subst P (sym here_not) (inl refl),
              sym h.is,
              inr (record {
                ahead = omega arith;
                block = h.block;
                is = refl;
                has_winning = h.has_winning;
                open_at = open-later h.block winning (Some h.block) before h.has_winning h.open_at;
              }),
            )
      ]

-- ---- each way is among them

in-step : (kind winning held : ℕ) (counts : List ℕ) (at : At) (way other : Way) (begun : Begun) (now : Option Block) → IsIn begun (beginnings held at) → IsIn now (dones_here (eqb kind winning) kind at begun) → IsIn other (ways (kind + 1) winning counts (next at begun)) → extended kind begun now other ≡ way → IsIn way (ways kind winning (held ∷ counts) at)
unfolding ways
in-step kind winning held counts at way other begun now b d o e =
    in-flat_map (λ begun. flat_map (λ done. map (extended kind begun done) (ways (kind + 1) winning counts (next at begun))) (dones_here (eqb kind winning) kind at begun)) begun way (beginnings held at) b
    (in-flat_map (λ done. map (extended kind begun done) (ways (kind + 1) winning counts (next at begun))) now way (dones_here (eqb kind winning) kind at begun) d
    (subst (λ (w : Way). IsIn w (map (extended kind begun now) (ways (kind + 1) winning counts (next at begun)))) e (in-map (extended kind begun now) other (ways (kind + 1) winning counts (next at begun)) o)))

next-adds : (kind held n : ℕ) (counts rest : List ℕ) (pair later : Option ℕ) (j : ℕ) → get_or (held ∷ counts) (suc j) 0 ≡ get_or (n ∷ rest) (suc j) 0 + taken pair (kind + suc j) → taken pair (kind + suc j) ≡ taken later (kind + 1 + j) → get_or counts j 0 ≡ get_or rest j 0 + taken later (kind + 1 + j)
next-adds kind held n counts rest pair later j h e = omega arith

pub in-ways : (counts rest : List ℕ) (kind winning : ℕ) (at : At) (way : Way) → IsWay kind winning counts rest at way → IsIn way (ways kind winning counts at)
in-ways [] [] kind winning at way h = over-way kind winning at way h
in-ways [] (n ∷ rest) kind winning at way h = absurd (omega (arith, h.as_many))
in-ways (held ∷ counts) [] kind winning at way h = absurd (omega (arith, h.as_many))
in-ways (held ∷ counts) (n ∷ rest) kind winning at way h =
    let peeled = peel way.sets kind h.cut.sets h.cut.order in
    let t = peeled.0 in let r = peeled.1 in let sets = peeled.2 in
    let behind = cut-behind n rest kind at.one at.two at.left t r way.sets sets h.cut peeled.3 in
    let pair = pair-here kind (length counts) at.paired way.pair h.pair_is in
    let here = pair.0 in let later = pair.1 in
    let begun : Begun = record { triplets = t; runs = r; pair = here } in
    let done = done-here kind (length counts) t r at way sets here later peeled.3 pair.2 winning h.done_is in
    let other : Way = record { sets = sets; pair = later; done = done.1 } in
    let own : held ≡ n + cond here 2 0 = h.adds 0 ∙ ap (λ x. n + x) pair.2.own in
    in-step kind winning held counts at way other begun done.0
    (begun-among held n t r here at h.few.0 behind.uses own behind.room pair.2.once) done.2
    (in-ways counts rest (kind + 1) winning (next at begun) other (record {
      cut = behind.cut;
      as_many = omega (arith, h.as_many);
      few = h.few.1;
      adds = λ j. next-adds kind held n counts rest way.pair later j (h.adds (suc j)) (pair.2.behind j);
      pair_is = pair.2.later_is;
      done_is = done.4;
    }))
    (same-way (extended kind begun done.0 other) way (sym peeled.3.parts) pair.2.is done.3)

-- ---- each reading of sets and a pair

abbrev pub start : ℕ → At
start wanted = record { one = 0; two = 0; left = wanted; paired = false }

done-open : (winning p : ℕ) (sets : List Block) (done : Block) → IsIn done (sets ++ Pair p ∷ []) → IsOpen 0 (start (length sets)) (record { sets = sets; pair = Some p; done = Some done }) done
done-open winning p sets done h =
    elim (in-cases done sets (Pair p ∷ []) h) [
      | inl i ↦ a_set i
      | inr i ↦ elim i [ inl e ↦ the_pair p refl (sym e) | inr z ↦ absurd z ]
    ]

pub reading-way : (c : List ℕ) (wanted melds winning p : ℕ) (sets : List Block) (done : Block) → length c ≡ 34 → AllByRecursion (λ n. n ≤ 4) c → wanted + melds ≡ 4 → IsSplit c melds sets p → IsDone winning sets p done → IsIn (record { sets = sets; pair = Some p; done = Some done }) (ways 0 winning c (start wanted))
reading-way c wanted melds winning p sets done long few w split is =
    let beside = cut-beside c wanted melds p sets long w split in
    let many : length sets ≡ wanted = omega (arith, split.four) in
    let rest = set c p (get_or c p 0 - 2) in
    let way : Way = record { sets = sets; pair = Some p; done = Some done } in
    let opened = done-open winning p sets done (in-Contains done (sets ++ Pair p ∷ []) is.is_there) in
    in-ways c rest 0 winning (start wanted) way (record {
      cut = beside.cut;
      as_many = simp length-set refl;
      few = few;
      adds = λ j. let v = without c p j beside.in_range beside.has_two in let e : taken (Some p) (0 + j) ≡ cond (eqb j p) 2 0 = ap (λ k. cond (eqb k p) 2 0) (omega arith) in omega arith;
      pair_is = (p, refl, omega arith, omega (arith, beside.in_range));
      done_is = inr (record {
        ahead = omega arith;
        block = done;
        is = refl;
        has_winning = is.has_winning;
        open_at = subst (λ (n : ℕ). IsOpen 0 (start n) way done) many opened;
      });
    })
