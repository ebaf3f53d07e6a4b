-- The kinds that the least thirteen orphans lack.
use Rattle.std.proofs.Common.{◌≡◌, ℕ, ◌+◌, ◌-◌, ◌<◌, ◌≤◌, Bool, true, false, cond, IsTrue, ◌⊎◌, inl, inr, List, map, eqb, refl, sym, ap, ◌∙◌, ⊎_elim, subst, arith}
use Rattle.std.proofs.lemmas.Bool.{cases_lt, false≢true, and_parts, and_from}
use Rattle.std.proofs.lemmas.Bool.Decides.{nat_tests}
use Rattle.std.specs.Prelude.{count_by, nat_le, slice_index, ◌==◌, ◌&&◌}
use Rattle.riichi_tiles.specs.Melds.{tiles}
use Rattle.riichi_tiles.specs.declared.meld.Meld.{Meld}
use Rattle.riichi_shape.specs.Distance.{OrphansReached}
use Rattle.riichi_shape.specs.Lacked.{FormLacks, OrphansLaw}
use Rattle.riichi_tiles.specs.Forms.{IsThirteenOrphans, orphan_copies, orphan_kinds}
use Rattle.riichi_tiles.specs.Kinds.{is_orphan}
use Rattle.riichi_shape.specs.Special.{AreNearestOrphans, AreNoMelds, lacks_held}
use Rattle.riichi_shape.specs.Winning.{lacking}
use Rattle.riichi_shape.specs.declared.nearest_form.NearestForm.{NearestForm}
use Rattle.riichi_tiles.proofs.EverySet.{few-orphans}
use Rattle.riichi_shape.proofs.OrphanLemmas.{lack_is, orphans_at, orphans_wanted, extra, bound_doubled, reached_doubled, bound_single, reached_single, orphan_doubled, orphan_single, missing_count}
use Rattle.riichi_shape.proofs.PairLemmas.{nil as missing_one, total_of}
use Rattle.riichi_shape.proofs.SpecialLemmas.{lacks_back, lacks_there}

-- what a hand with h tiles of x says, where the orphans with the kind t twice have more
some_missing : (t x h : ℕ) (here : Bool) → h < cond here (cond (eqb x t) 2 1) 0 → (here ≡ true) × ((h ≡ 0) ⊎ ((h ≡ 1) × (x ≡ t)))
some_missing t x h true less = (refl, by_test (eqb x t) refl)
  where
    by_test : (b : Bool) → eqb x t ≡ b → (h ≡ 0) ⊎ ((h ≡ 1) × (x ≡ t))
    by_test b e = grind (arith, nat_tests)
some_missing t x h false less = absurd (omega (arith, less))

at_least_one : (t x : ℕ) → is_orphan x ≡ true → 0 < orphan_copies t x
at_least_one t x is = ap_less (is_orphan x) (eqb x t) is
  where
    ap_less : (b c : Bool) → b ≡ true → 0 < cond b (cond c 2 1) 0
    ap_less b c e = grind arith

two_of : (x : ℕ) → is_orphan x ≡ true → orphan_copies x x ≡ 2
two_of x is = two_there (is_orphan x) (eqb x x) is (same x) (orphan_copies x x) refl
  where
    same : (x : ℕ) → eqb x x ≡ true
    same x = grind (arith, nat_tests)

    two_there : (b c : Bool) → b ≡ true → c ≡ true → (n : ℕ) → n ≡ cond b (cond c 2 1) 0 → n ≡ 2
    two_there true true e e' n is = is
    two_there true false e e' n is = absurd (grind arith)
    two_there false c e e' n is = absurd (grind arith)

extra_one : (h : ℕ) → h < 2 → extra h ≡ 1
extra_one h low = grind (arith, nat_tests)

extra_none : (h : ℕ) → 2 ≤ h → extra h ≡ 0
extra_none h high = grind (arith, nat_tests)

module _ (hand : List ℕ) (melds : List Meld) (n x : ℕ) (inside : x < 34) (no_melds : (k : ℕ) → k < 34 → tiles melds k ≡ 0) (reached : OrphansReached hand n) (bound : (wanted : List ℕ) → IsThirteenOrphans wanted → n ≤ lacking hand wanted) where
  abbrev missing : ℕ
  missing = total_of missing_one (map (slice_index hand) orphan_kinds)

  n_is : n ≡ missing + extra (slice_index hand reached.thirteen_orphans.doubled)
  n_is = sym reached.lacks ∙ lack_is hand reached.thirteen_orphans.doubled reached.thirteen_orphans.is_kind reached.thirteen_orphans.doubles_orphan reached.wanted reached.thirteen_orphans.at

  with_kind : (k : ℕ) → k < 34 → is_orphan k ≡ true → n ≤ missing + extra (slice_index hand k)
  with_kind k low is =
      subst (λ (lack : ℕ). n ≤ lack) (lack_is hand k low is (orphans_wanted hand k) (orphans_at hand k))
      (bound (orphans_wanted hand k) (record { doubled = k; is_kind = low; doubles_orphan = is; at = orphans_at hand k }))

  there : FormLacks IsThirteenOrphans hand melds n x → IsTrue (is_orphan x) × ((slice_index hand x ≡ 0) ⊎ ((slice_index hand x ≡ 1) × ((k : ℕ) → k < 34 → IsTrue (is_orphan k) → slice_index hand k ≤ 1)))
  there w =
      let e : n ≡ missing + extra (slice_index hand w.is_form.doubled) = sym w.lacks ∙ lack_is hand w.is_form.doubled w.is_form.is_kind w.is_form.doubles_orphan w.wanted w.is_form.at in
      let less : slice_index hand x < orphan_copies w.is_form.doubled x =
      subst (λ (copies : ℕ). slice_index hand x < copies) (w.is_form.at x inside) w.lacks_kind in
      let m = some_missing w.is_form.doubled x (slice_index hand x) (is_orphan x) less in
      (m.0, ⊎_elim (λ none. inl none) (λ one. inr (one.0, λ k low is. single k low is e (extra_one (slice_index hand w.is_form.doubled) (same one.0 one.1)))) m.1)
    where
      same : {t : ℕ} → slice_index hand x ≡ 1 → x ≡ t → slice_index hand t < 2
      same {t} one at = omega (arith, one, ap (slice_index hand) at)

      single : {v : ℕ} → (k : ℕ) → k < 34 → is_orphan k ≡ true → n ≡ missing + v → v ≡ 1 → slice_index hand k ≤ 1
      single {v} k inside is e one = ⊎_elim (λ low. omega (arith, low)) (λ high. absurd (contradict (extra (slice_index hand k)) v missing (with_kind k inside is) e one (extra_none (slice_index hand k) high))) (cases_lt (slice_index hand k) 2)
        where
          contradict : (z v m : ℕ) → n ≤ m + z → n ≡ m + v → v ≡ 1 → z ≡ 0 → ⊥
          contradict z v m h e one none = omega arith

  pub orphans_back : IsTrue (is_orphan x) × ((slice_index hand x ≡ 0) ⊎ ((slice_index hand x ≡ 1) × ((k : ℕ) → k < 34 → IsTrue (is_orphan k) → slice_index hand k ≤ 1))) → FormLacks IsThirteenOrphans hand melds n x
  orphans_back lacked = ⊎_elim (λ none. as_reached none) (λ one. with_x one.0 (one.1 reached.thirteen_orphans.doubled reached.thirteen_orphans.is_kind reached.thirteen_orphans.doubles_orphan)) lacked.1
    where
      few : (k t w : ℕ) → k < 34 → w ≡ orphan_copies t k → w + tiles melds k ≤ 4
      few k t w low e = sum_few w (orphan_copies t k) (tiles melds k) e (few-orphans t k) (no_melds k low)
        where
          sum_few : (w o m : ℕ) → w ≡ o → o ≤ 2 → m ≡ 0 → w + m ≤ 4
          sum_few w o m e h z = omega arith

      more : {w o : ℕ} → w ≡ o → slice_index hand x < o → slice_index hand x < w
      more e less = rw e less

      as_reached : slice_index hand x ≡ 0 → FormLacks IsThirteenOrphans hand melds n x
      as_reached none = record {
        wanted = reached.wanted;
        is_form = reached.thirteen_orphans;
        within_four = record { at = λ k low. few k reached.thirteen_orphans.doubled (slice_index reached.wanted k) low (reached.thirteen_orphans.at k low) };
        lacks = reached.lacks;
        lacks_kind = more (reached.thirteen_orphans.at x inside) (rw none (at_least_one reached.thirteen_orphans.doubled x lacked.0));
      }

      with_x : slice_index hand x ≡ 1 → slice_index hand reached.thirteen_orphans.doubled ≤ 1 → FormLacks IsThirteenOrphans hand melds n x
      with_x one single = record {
        wanted = orphans_wanted hand x;
        is_form = record { doubled = x; is_kind = inside; doubles_orphan = lacked.0; at = orphans_at hand x };
        within_four = record { at = λ k low. few k x (slice_index (orphans_wanted hand x) k) low (orphans_at hand x k low) };
        lacks = lack_is hand x inside lacked.0 (orphans_wanted hand x) (orphans_at hand x)
            ∙ ap (λ more. missing + more) (extra_one (slice_index hand x) (below (slice_index hand x) one)
            ∙ sym (extra_one (slice_index hand reached.thirteen_orphans.doubled) (omega (arith, single)))) ∙ sym n_is;
        lacks_kind = more (orphans_at hand x x inside) (one_less (slice_index hand x) (orphan_copies x x) one (two_of x lacked.0));
      }
        where
          below : (h : ℕ) → h ≡ 1 → h < 2
          below h e = omega arith

          one_less : (h o : ℕ) → h ≡ 1 → o ≡ 2 → h < o
          one_less h o e e' = omega arith

  pub orphans_there : FormLacks IsThirteenOrphans hand melds n x → IsTrue (is_orphan x) × ((slice_index hand x ≡ 0) ⊎ ((slice_index hand x ≡ 1) × ((k : ℕ) → k < 34 → IsTrue (is_orphan k) → slice_index hand k ≤ 1)))
  orphans_there w = there w

pub orphans_lacked : OrphansLaw
orphans_lacked hand melds n x inside no_melds reached bound = (orphans_there hand melds n x inside no_melds reached bound, orphans_back hand melds n x inside no_melds reached bound)

-- ---- the nearest orphans, by counts

module _ (hand held : List ℕ) (held_are : held ≡ map (slice_index hand) orphan_kinds) (kinds doubled : ℕ) (kinds_are : kinds ≡ count_by (λ x. nat_le 1 x) held) (doubled_are : doubled ≡ count_by (λ x. nat_le 2 x) held) where
  abbrev not_held : ℕ
  not_held = 13 - kinds

  not_held_are : not_held ≡ count_by (λ x. x == 0) held
  not_held_are = missing_count hand held kinds held_are kinds_are

  module _ (form : NearestForm) (reached : OrphansReached hand form.lack) (bound : (wanted : List ℕ) → IsThirteenOrphans wanted → form.lack ≤ lacking hand wanted) (missing_is : form.lacked.missing ≡ true)
      (single_none : form.lacked.single ≡ true → (k : ℕ) → k < 34 → IsTrue (is_orphan k) → slice_index hand k ≤ 1) (none_single : ((k : ℕ) → k < 34 → IsTrue (is_orphan k) → slice_index hand k ≤ 1) → form.lacked.single ≡ true) where
    module _ (melds : List Meld) (no_melds : AreNoMelds melds) (kind : ℕ) (inside : kind < 34) where
      counted_there : (lacks_held form.lacked (slice_index hand kind) && is_orphan kind) ≡ true → FormLacks IsThirteenOrphans hand melds form.lack kind
      counted_there e =
          let both = and_parts (lacks_held form.lacked (slice_index hand kind)) (is_orphan kind) e in
          orphans_back hand melds form.lack kind inside no_melds reached bound (both.1, ⊎_elim (λ none. inl none.0) (λ one. inr (one.0, single_none one.1)) (lacks_there (slice_index hand kind) form.lacked both.0))

      counted_back : FormLacks IsThirteenOrphans hand melds form.lack kind → (lacks_held form.lacked (slice_index hand kind) && is_orphan kind) ≡ true
      counted_back w =
          let h = orphans_there hand melds form.lack kind inside no_melds reached bound w in
          and_from (lacks_held form.lacked (slice_index hand kind)) (is_orphan kind) (lacks_back (slice_index hand kind) form.lacked (⊎_elim (λ none. inl (none, missing_is)) (λ one. inr (one.0, none_single one.1)) h.1)) h.0

    nearest_are : AreNearestOrphans hand form
    nearest_are = record { bound = bound; reached = reached; lacked = λ melds no_melds kind inside. (counted_there melds no_melds kind inside, counted_back melds no_melds kind inside) }

  pub nearest_doubled : (form : NearestForm) → 0 < doubled → form.lack ≡ not_held → form.lacked.missing ≡ true → form.lacked.single ≡ false → AreNearestOrphans hand form
  nearest_doubled form some lack_is missing_is single_is =
      let reached = subst (λ (n : ℕ). OrphansReached hand n) (sym lack_is) (reached_doubled hand held held_are not_held doubled not_held_are doubled_are some) in
      nearest_are form reached (λ wanted is. (let b = bound_doubled hand held held_are not_held doubled not_held_are doubled_are wanted is in omega (arith, b, lack_is))) missing_is
      (λ e. absurd (false≢true (sym single_is ∙ e))) (λ few. absurd (contradict few))
    where
      contradict : ((k : ℕ) → k < 34 → IsTrue (is_orphan k) → slice_index hand k ≤ 1) → ⊥
      contradict few = let d = orphan_doubled hand held held_are not_held doubled not_held_are doubled_are some in omega (arith, few d.0 d.1 d.2, d.3)

  pub nearest_single : (form : NearestForm) → doubled ≤ 0 → form.lack ≡ not_held + 1 → form.lacked.missing ≡ true → form.lacked.single ≡ true → AreNearestOrphans hand form
  nearest_single form none lack_is missing_is single_is =
      let reached = subst (λ (n : ℕ). OrphansReached hand n) (sym lack_is) (reached_single hand held held_are not_held doubled not_held_are doubled_are none) in
      nearest_are form reached (λ wanted is. (let b = bound_single hand held held_are not_held doubled not_held_are doubled_are none wanted is in omega (arith, b, lack_is))) missing_is
      (λ e. orphan_single hand held held_are not_held doubled not_held_are doubled_are none) (λ few. single_is)
