-- The sorts of wait of readings, one reading after another.
use Rattle.std.proofs.Common.{◌≡◌, ◌≤◌, ◌<◌, ℕ, List, [], ◌∷◌, Bool, true, cond, length, sym, ap, ◌∙◌}
use Rattle.std.proofs.lemmas.Bool.{and_parts, ltb-true}
use Rattle.std.proofs.lemmas.Bool.Decides.{same_from_decides}
use Rattle.std.specs.List.{list_any}
use Rattle.std.proofs.Math.Bool.{or-false, or_assoc}
use Rattle.riichi_split.specs.declared.reading.Reading.{Reading}
use Rattle.riichi_split.specs.Readings.{IsReading, AreTheReadings}
use Rattle.riichi_split.specs.ReadingsOf.{readings_of}
use Rattle.riichi_tiles.specs.HeldKinds.{is_held}
use Rattle.riichi_hand.specs.Hand.{copies_held}
use Rattle.riichi_hand.specs.HandParts.{HandParts}
use Rattle.riichi_split.specs.Waits.{waits_of, is_wait}
use Rattle.riichi_tiles.proofs.Members.{IsIn, any-from, any-in, in-All, in-Contains}
use Rattle.riichi_split.proofs.EveryReading.{every_reading}
use Rattle.riichi_split.proofs.Marks.{mark_of}
use Rattle.riichi_explain.specs.declared.waits.WaitSorts.{WaitSorts}
use Rattle.riichi_explain.specs.Waits.{sorts_by, sorts_in, both_sorts, kind_wait, waits_at}

-- sorts by their six marks
abbrev made : Bool → Bool → Bool → Bool → Bool → Bool → WaitSorts
made a b c d e f = record { two_sided = a; closed = b; edge = c; pair = d; two_pairs = e; orphans = f }

made-same : (a b c d e f g h i j k l : Bool) → a ≡ g → b ≡ h → c ≡ i → d ≡ j → e ≡ k → f ≡ l → made a b c d e f ≡ made g h i j k l
made-same a b c d e f g h i j k l p q r s t u =
    ap (λ x. made x b c d e f) p ∙ ap (λ x. made g x c d e f) q ∙ ap (λ x. made g h x d e f) r ∙ ap (λ x. made g h i x e f) s ∙ ap (λ x. made g h i j x f) t
    ∙ ap (λ x. made g h i j k x) u

-- ---- one reading more

pub both_more : (w : ℕ) (sorts : WaitSorts) (reading : Reading) (rest : List Reading) → both_sorts sorts (sorts_in w (reading ∷ rest)) ≡ both_sorts (both_sorts sorts (sorts_by w reading)) (sorts_in w rest)
both_more w sorts reading rest =
    let one = sorts_by w reading in
    let others = sorts_in w rest in
    made-same _ _ _ _ _ _ _ _ _ _ _ _
    (sym (or_assoc sorts.two_sided one.two_sided others.two_sided)) (sym (or_assoc sorts.closed one.closed others.closed)) (sym (or_assoc sorts.edge one.edge others.edge))
    (sym (or_assoc sorts.pair one.pair others.pair)) (sym (or_assoc sorts.two_pairs one.two_pairs others.two_pairs)) (sym (or_assoc sorts.orphans one.orphans others.orphans))

pub both_none : (w : ℕ) (sorts : WaitSorts) → both_sorts sorts (sorts_in w []) ≡ sorts
both_none w sorts =
    made-same _ _ _ _ _ _ _ _ _ _ _ _ (or-false sorts.two_sided) (or-false sorts.closed) (or-false sorts.edge) (or-false sorts.pair) (or-false sorts.two_pairs) (or-false sorts.orphans)

-- ---- the same readings in another order

any-same : (p : Reading → Bool) (xs ys : List Reading) → ((r : Reading) → IsIn r xs → IsIn r ys) → ((r : Reading) → IsIn r ys → IsIn r xs) → list_any p xs ≡ list_any p ys
any-same p xs ys f g =
    same_from_decides (list_any p xs) (list_any p ys)
    (λ e. let i = any-in p xs e in any-from p ys i.0 (f i.0 i.1) i.2, λ e. let i = any-in p ys e in any-from p xs i.0 (g i.0 i.1) i.2) (λ e. e, λ e. e)

sorts_in-same : (w : ℕ) (xs ys : List Reading) → ((r : Reading) → IsIn r xs → IsIn r ys) → ((r : Reading) → IsIn r ys → IsIn r xs) → sorts_in w xs ≡ sorts_in w ys
sorts_in-same w xs ys f g =
    made-same _ _ _ _ _ _ _ _ _ _ _ _
    (any-same (λ r. (sorts_by w r).two_sided) xs ys f g) (any-same (λ r. (sorts_by w r).closed) xs ys f g) (any-same (λ r. (sorts_by w r).edge) xs ys f g)
    (any-same (λ r. (sorts_by w r).pair) xs ys f g) (any-same (λ r. (sorts_by w r).two_pairs) xs ys f g) (any-same (λ r. (sorts_by w r).orphans) xs ys f g)

pub sorts_of_all : (c : List ℕ) (melds w : ℕ) (all : List Reading) → length c ≡ 34 → melds ≤ 4 → AreTheReadings c melds w all → sorts_in w all ≡ sorts_in w (readings_of c melds w)
sorts_of_all c melds w all long few are =
    let every = every_reading c melds w long few in
    sorts_in-same w all (readings_of c melds w)
    (λ r i. in-Contains r (readings_of c melds w) (every.complete r (in-All (IsReading c melds w) all are.sound r i)))
    (λ r i. in-Contains r all (are.complete r (in-All (IsReading c melds w) (readings_of c melds w) every.sound r i)))

-- ---- the kinds

-- the set of the waits says whether the hand waits for the kind
pub is_wait_marked : (hand : HandParts) (kinds kind : ℕ) (held : Bool) → kind < 34 → kinds ≡ waits_of hand → held ≡ is_held kinds kind → held ≡ is_wait hand kind
is_wait_marked hand kinds kind held low same member = member ∙ ap (λ (set : ℕ). is_held set kind) same ∙ mark_of hand kind low

pub copies_below : (hand : HandParts) (kind : ℕ) → is_wait hand kind ≡ true → copies_held hand.concealed hand.melds kind < 4
copies_below hand kind e = ltb-true (copies_held hand.concealed hand.melds kind) 4 (and_parts _ _ e).0

-- the rows of a kind, by whether it is marked
pub waits_at_told : (hand : HandParts) (kinds kind : ℕ) (held : Bool) → kind < 34 → kinds ≡ waits_of hand → held ≡ is_held kinds kind → waits_at hand kind ≡ cond held (kind_wait hand kind ∷ []) []
unfolding waits_at
waits_at_told hand kinds kind held low same member = ap (λ (waits : Bool). cond waits (kind_wait hand kind ∷ []) []) (sym (is_wait_marked hand kinds kind held low same member))

pub ruleset push_kind_wait_facts = (is_wait_marked, copies_below, waits_at_told)

pub ruleset sorts_of_facts = (both_more, both_none, sorts_of_all)
