-- The greatest of some scores.
use Rattle.std.proofs.Common.{◌≡◌, ℕ, ◌≤◌, Bool, true, false, cond, Option, Some, None, List, [], ◌∷◌, ◌++◌, length, append_assoc, append-nil, refl, sym, ap, ◌∙◌, subst, inl, inr, ltb, arith, Contains}
use Rattle.std.specs.List.{fold}
use Rattle.std.proofs.lemmas.Bool.Decides.{nat_tests}
use Rattle.std.proofs.lemmas.List.Elements.{All-contains, Contains-push, Contains-push_cases, Contains-append_left, Contains-append_right}
use Rattle.riichi_tiles.specs.Tiles.{IsCounts}
use Rattle.riichi_tiles.specs.declared.meld.Meld.{Meld}
use Rattle.riichi_hand.specs.declared.win.WinParts.{WinParts}
use Rattle.riichi_hand.specs.Win.{IsWinRecord}
use Rattle.riichi_split.specs.declared.reading.Reading.{Reading}
use Rattle.riichi_split.specs.declared.reading.Reading.TheVariants.{Standard, SevenPairs, Orphans}
use Rattle.riichi_split.specs.Readings.{AreTheReadings}
use Rattle.riichi_score.specs.declared.score.Score.{Score}
use Rattle.riichi_score.specs.declared.answer.WinAnswer.{WinAnswer}
use Rattle.riichi_score.specs.declared.answer.WinAnswer.TheVariants.{Won, NoYaku, NoWin}
use Rattle.riichi_score.specs.Fu.{HasFourSets}
use Rattle.riichi_score.specs.Scores.{score_of, completed_hand, IsReadingOf}
use Rattle.riichi_split.specs.ReadingsOf.{readings_of}
use Rattle.riichi_score.specs.Best.{rank, is_above, IsBestOf, IsBest, better, best_among, best_of}
use Rattle.riichi_split.proofs.EveryReading.{every_reading}
use Rattle.riichi_score.proofs.Uniqueness.{same_best}
use Rattle.riichi_score.proofs.Wins.{four_melds}

-- not above is transitive, for lists of one length
below-step : (x y z : ℕ) (a b c : Bool) → cond (ltb y x) true (cond (ltb x y) false a) ≡ false → cond (ltb z y) true (cond (ltb y z) false b) ≡ false → (a ≡ false → b ≡ false → c ≡ false) → cond (ltb z x) true (cond (ltb x z) false c) ≡ false
below-step x y z a b c h i f = grind (arith, nat_tests)

below : (xs ys zs : List ℕ) → length xs ≡ length ys → length ys ≡ length zs → is_above xs ys ≡ false → is_above ys zs ≡ false → is_above xs zs ≡ false
below [] ys zs l m h i = refl
below (x ∷ xs) [] zs l m h i = absurd (omega arith)
below (x ∷ xs) (y ∷ ys) [] l m h i = absurd (omega arith)
below (x ∷ xs) (y ∷ ys) (z ∷ zs) l m h i =
    below-step x y z (is_above xs ys) (is_above ys zs) (is_above xs zs) h i (λ a b. below xs ys zs (omega arith) (omega arith) a b)

itself-step : (x : ℕ) (a : Bool) → a ≡ false → cond (ltb x x) true (cond (ltb x x) false a) ≡ false
itself-step x a h = grind (arith, nat_tests)

-- no list is above itself
itself : (xs : List ℕ) → is_above xs xs ≡ false
itself [] = refl
itself (x ∷ xs) = itself-step x (is_above xs xs) (itself xs)

reverse-step : (x y : ℕ) (a b : Bool) → cond (ltb y x) true (cond (ltb x y) false a) ≡ true → (a ≡ true → b ≡ false) → cond (ltb x y) true (cond (ltb y x) false b) ≡ false
reverse-step x y a b h f = grind (arith, nat_tests)

-- of two lists at most one is above the other
reverse : (xs ys : List ℕ) → is_above xs ys ≡ true → is_above ys xs ≡ false
reverse [] ys h = absurd (cc)
reverse (x ∷ xs) [] h = absurd (cc)
reverse (x ∷ xs) (y ∷ ys) h = reverse-step x y (is_above xs ys) (is_above ys xs) h (λ a. reverse xs ys a)

-- ---- one reading more

-- what holds of the readings before and of one more holds of all
each : (before : List Reading) (r : Reading) (P : Reading → Type 0) → ((x : Reading) → Contains before x → P x) → P r → (x : Reading) → Contains (before ++ r ∷ []) x → P x
each before r P f p x h = elim (Contains-push_cases before r x h) [ inl a ↦ f x a | inr e ↦ subst P e p ]

-- a reading has one score
one-score : (r : Reading) (w : WinParts) (t u : Score) (P : Score → Type 0) → score_of r w ≡ Some t → P t → score_of r w ≡ Some u → P u
one-score r w t u P e p f = let same : t ≡ u = cc in subst P same p

chosen : (w : WinParts) (before : List Reading) (r : Reading) (s t : Score) (b : Bool) → b ≡ is_above (rank t) (rank s) → score_of r w ≡ Some t → IsBestOf (Contains before) w (Won s) → IsBestOf (Contains (before ++ r ∷ [])) w (cond b (Won t) (Won s))
chosen w before r s t true e f h = (
  (r, Contains-push before r, f),
  λ x u i g. each before r (λ y. score_of y w ≡ Some u → is_above (rank u) (rank t) ≡ false)
      (λ y j k. below (rank u) (rank s) (rank t) refl refl (h.1 y u j k) (reverse (rank t) (rank s) (sym e)))
      (one-score r w t u (λ z. is_above (rank z) (rank t) ≡ false) f (itself (rank t))) x i g,
)
chosen w before r s t false e f h = (
  (h.0.0, Contains-append_left before (r ∷ []) h.0.0 h.0.1, h.0.2),
  λ x u i g. each before r (λ y. score_of y w ≡ Some u → is_above (rank u) (rank s) ≡ false)
      (λ y j k. h.1 y u j k) (one-score r w t u (λ z. is_above (rank z) (rank s) ≡ false) f (sym e)) x i g,
)

first : (w : WinParts) (before : List Reading) (r : Reading) (t : Score) → score_of r w ≡ Some t → ((x : Reading) (u : Score) → Contains before x → score_of x w ≡ Some u → ⊥) → IsBestOf (Contains (before ++ r ∷ [])) w (Won t)
first w before r t f none = (
  (r, Contains-push before r, f),
  λ x u i g. each before r (λ y. score_of y w ≡ Some u → is_above (rank u) (rank t) ≡ false)
      (λ y j k. absurd (none y u j k)) (one-score r w t u (λ z. is_above (rank z) (rank t) ≡ false) f (itself (rank t))) x i g,
)

best-more : (w : WinParts) (before : List Reading) (r : Reading) (a : WinAnswer) (o : Option Score) → score_of r w ≡ o → IsBestOf (Contains before) w a → IsBestOf (Contains (before ++ r ∷ [])) w (better a o)
best-more w before r NoWin None e h = ((r, Contains-push before r), each before r (λ y. score_of y w ≡ None) (λ y j. absurd (h y j)) e)
best-more w before r NoWin (Some t) e h = first w before r t e (λ x u i g. h x i)
best-more w before r NoYaku None e h = ((h.0.0, Contains-append_left before (r ∷ []) h.0.0 h.0.1), each before r (λ y. score_of y w ≡ None) h.1 e)
best-more w before r NoYaku (Some t) e h = first w before r t e (λ x u i g. let a = h.1 x i in cc)
best-more w before r (Won s) None e h = (
  (h.0.0, Contains-append_left before (r ∷ []) h.0.0 h.0.1, h.0.2),
  λ x u i g. each before r (λ y. score_of y w ≡ Some u → is_above (rank u) (rank s) ≡ false) (λ y j k. h.1 y u j k) (λ k. absurd (cc)) x i g,
)
best-more w before r (Won s) (Some t) e h = chosen w before r s t (is_above (rank t) (rank s)) refl e h

-- ---- the loop of `best`

pub record IsSoFar (w : WinParts) (all before left : List Reading) (a : WinAnswer) : Type 0 where
  pub parts : all ≡ before ++ left
  pub best : IsBestOf (Contains before) w a

pub so_far-more : (w : WinParts) (all before left rest : List Reading) (r : Reading) (a : WinAnswer) (o : Option Score) → IsSoFar w all before left a → left ≡ r ∷ rest → o ≡ score_of r w → IsSoFar w all (before ++ r ∷ []) rest (better a o)
so_far-more w all before left rest r a o h e f = record {
  parts = h.parts ∙ ap (λ x. before ++ x) e ∙ sym (append_assoc before (r ∷ []) rest);
  best = best-more w before r a o (sym f) h.best;
}

weaker : (P Q : Reading → Type 0) (w : WinParts) (a : WinAnswer) → ((r : Reading) → P r → Q r) → ((r : Reading) → Q r → P r) → IsBestOf P w a → IsBestOf Q w a
weaker P Q w NoWin f g h = λ r q. h r (g r q)
weaker P Q w NoYaku f g h = ((h.0.0, f h.0.0 h.0.1), λ r q. h.1 r (g r q))
weaker P Q w (Won s) f g h = ((h.0.0, f h.0.0 h.0.1, h.0.2), λ r t q e. h.1 r t (g r q) e)

-- the readings of this hand, beside so many melds, won by this tile
abbrev pub AreReadingsOf : WinParts → List Reading → Type 0
AreReadingsOf w readings = AreTheReadings (completed_hand w) (length w.melds) w.winning readings

best-all : (w : WinParts) (all : List Reading) (a : WinAnswer) → AreReadingsOf w all → IsBestOf (Contains all) w a → IsBest w a
best-all w all a readings h = weaker (Contains all) (IsReadingOf w) w a (λ r i. All-contains (IsReadingOf w) all r readings.sound i) readings.complete h

pub AreReadingsOf-from : (w : WinParts) (hand : List ℕ) (melds : List Meld) (winning : ℕ) (readings all : List Reading) → hand ≡ completed_hand w → melds ≡ w.melds → winning ≡ w.winning → all ≡ readings → AreTheReadings hand (length melds) winning readings → AreReadingsOf w all
AreReadingsOf-from w hand melds winning readings all a b c d h =
    subst (λ (x : List ℕ). AreTheReadings x (length w.melds) w.winning all) a
    (subst (λ (x : List Meld). AreTheReadings hand (length x) w.winning all) b
    (subst (λ (x : ℕ). AreTheReadings hand (length melds) x all) c
    (subst (λ (x : List Reading). AreTheReadings hand (length melds) winning x) (sym d) h)))

pub four_sets : (w : WinParts) (r : Reading) → IsReadingOf w r → HasFourSets r w
four_sets w (Standard sets pair done) h = h.0.four
four_sets w SevenPairs h = tt
four_sets w Orphans h = tt

-- the next reading is one of the hand
pub next_is_reading : (w : WinParts) (all before left rest : List Reading) (r : Reading) (a : WinAnswer) → AreReadingsOf w all → IsSoFar w all before left a → left ≡ r ∷ rest → IsReadingOf w r
next_is_reading w all before left rest r a readings h e =
    let there : Contains (before ++ r ∷ rest) r = Contains-append_right before (r ∷ rest) r (0, omega arith, refl) in
    All-contains (IsReadingOf w) all r readings.sound (subst (λ (x : List Reading). Contains x r) (sym (h.parts ∙ ap (λ x. before ++ x) e)) there)

pub next_has_four_sets : (w : WinParts) (all before left rest : List Reading) (r : Reading) (a : WinAnswer) → AreReadingsOf w all → IsSoFar w all before left a → left ≡ r ∷ rest → HasFourSets r w
next_has_four_sets w all before left rest r a readings h e = four_sets w r (next_is_reading w all before left rest r a readings h e)

-- ---- a list of readings

-- the best of the readings before, and of those that follow
among-more : (w : WinParts) (before rest : List Reading) (a : WinAnswer) → IsBestOf (Contains before) w a → IsBestOf (Contains (before ++ rest)) w (fold (λ best reading. better best (score_of reading w)) a rest)
among-more w before [] a h = subst (λ (x : List Reading). IsBestOf (Contains x) w a) (sym (append-nil before)) h
among-more w before (r ∷ rest) a h =
    let all = among-more w (before ++ r ∷ []) rest (better a (score_of r w)) (best-more w before r a (score_of r w) refl h) in
    subst (λ (x : List Reading). IsBestOf (Contains x) w (fold (λ best reading. better best (score_of reading w)) a (r ∷ rest))) (append_assoc before (r ∷ []) rest) all

-- the list of every reading
pub best_of-IsBest : (w : WinParts) → IsCounts (completed_hand w) → length w.melds ≤ 4 → IsBest w (best_of w)
unfolding best_of
best_of-IsBest w counts melds =
    let all = readings_of (completed_hand w) (length w.melds) w.winning in
    best-all w all (best_among w all) (every_reading (completed_hand w) (length w.melds) w.winning counts.each_kind melds) (among-more w [] all NoWin (λ r h. absurd (omega (arith, h.1))))

-- what is best when none is left is the best of every reading
pub best-end : (w : WinParts) (all before left : List Reading) (a : WinAnswer) → IsCounts (completed_hand w) → IsWinRecord w → AreReadingsOf w all → IsSoFar w all before left a → left ≡ [] → (a ≡ best_of w) × IsBest w a
best-end w all before left a counts win readings h e =
    let same : before ≡ all = sym (h.parts ∙ ap (λ x. before ++ x) e ∙ append-nil before) in
    let greatest = best-all w all a readings (subst (λ (x : List Reading). IsBestOf (Contains x) w a) same h.best) in
    (same_best w a (best_of w) greatest (best_of-IsBest w counts (four_melds w win)), greatest)
