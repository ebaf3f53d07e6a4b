-- `readings_of` has each reading of the definition once, and nothing else.
use Rattle.std.proofs.Common.{◌≡◌, ℕ, ◌-◌, ◌<◌, ◌≤◌, ◌↔◌, true, List, [], ◌∷◌, length, get_or, flat_map, inl, inr, refl, sym, ap, ◌∙◌, subst, arith, eqb, IsTrue}
use Rattle.std.specs.List.{list_all, list_any}
use Rattle.std.proofs.lemmas.Bool.{and_from, and_parts, eqb-true, eq-eqb}
use Rattle.riichi_tiles.specs.Melds.{every_kind}
use Rattle.riichi_tiles.specs.Blocks.{total}
use Rattle.riichi_tiles.specs.Forms.{AreMadeOf, IsThirteenOrphans, orphan_copies}
use Rattle.riichi_tiles.specs.declared.block.Block.{Block}
use Rattle.riichi_tiles.specs.declared.block.Block.TheVariants.{Pair}
use Rattle.riichi_split.specs.declared.split.Split.{Split}
use Rattle.riichi_tiles.specs.Kinds.{is_orphan}
use Rattle.riichi_split.specs.Readings.{IsSplit, AreTheReadings}
use Rattle.riichi_split.specs.Cuts.{AreTheSplits}
use Rattle.riichi_split.specs.ReadingsOf.{adds_up, split_with, splits_of, are_seven_pairs, are_orphans_with, are_orphans, collections, readings_of}
use Rattle.riichi_tiles.proofs.Members.{All-in, Contains-in, IsIn, all-from, all-in, any-from, any-in, in-flat_map, in-flat_map-inv, in-range, in-range-inv}
use Rattle.riichi_split.proofs.Lists.{Differ-flat_map, Differ-range, AllPairs-differ}
use Rattle.riichi_split.proofs.Collections.{in-when, in-when-inv, Differ-when, in-collections, collections-inv, Differ-collections}
use Rattle.riichi_split.proofs.AllReadings.{the_readings}
use Rattle.riichi_split.proofs.MadeOf.{each-set, made-of}
use Rattle.riichi_split.proofs.PairCounts.{seven-iff}

-- ---- what adds up

-- two functions are the same at each kind just where the test says so
same-kinds : (f g : ℕ → ℕ) → list_all (λ k. eqb (f k) (g k)) every_kind ≡ true → (k : ℕ) → k < 34 → f k ≡ g k
same-kinds f g t k l = eqb-true (f k) (g k) (all-in (λ n. eqb (f n) (g n)) every_kind t k (in-range 34 0 k (omega arith) (omega arith)))

kinds-same : (f g : ℕ → ℕ) → ((k : ℕ) → k < 34 → f k ≡ g k) → list_all (λ k. eqb (f k) (g k)) every_kind ≡ true
kinds-same f g h = all-from (λ n. eqb (f n) (g n)) every_kind (λ k i. eq-eqb (f k) (g k) (h k (omega (arith, (in-range-inv 34 0 k i).1))))

adds_up-from : (c : List ℕ) (sets : List Block) (p : ℕ) → AreMadeOf c sets p → adds_up c sets p ≡ true
adds_up-from c sets p made = kinds-same (total (Pair p ∷ sets)) (λ n. get_or c n 0) (λ k low. sym (made.adds_up k low))

-- ---- sets and a pair

split_with-inv : (c : List ℕ) (sets : List Block) (p : ℕ) (s : Split) → IsIn s (split_with c sets p) → (adds_up c sets p ≡ true) × (sets ≡ s.sets) × (p ≡ s.pair)
split_with-inv c sets p s h =
    let i = in-when-inv (adds_up c sets p) s (record { sets = sets; pair = p } ∷ []) h in
    elim i.1 [ inl e ↦ (i.0, ap (λ (z : Split). z.sets) e, ap (λ (z : Split). z.pair) e) | inr z ↦ absurd z ]

pairs-inv : (c : List ℕ) (sets : List Block) (s : Split) → IsIn s (flat_map (split_with c sets) every_kind) → (sets ≡ s.sets) × (s.pair < 34) × (adds_up c sets s.pair ≡ true)
pairs-inv c sets s h =
    let i = in-flat_map-inv (split_with c sets) s every_kind h in
    let j = split_with-inv c sets i.0 s i.2 in
    (j.1, omega (arith, (in-range-inv 34 0 i.0 i.1).1, j.2), ap (λ p. adds_up c sets p) (sym j.2) ∙ j.0)

sound-split : (c : List ℕ) (melds : ℕ) (s : Split) → melds ≤ 4 → IsIn s (splits_of c melds) → IsSplit c melds s.sets s.pair
sound-split c melds s m h =
    let i = in-flat_map-inv (λ sets. flat_map (split_with c sets) every_kind) s (collections 0 (4 - melds)) h in
    let k = collections-inv (4 - melds) 0 i.0 i.1 in
    let q = pairs-inv c i.0 s i.2 in
    subst (λ (sets : List Block). IsSplit c melds sets s.pair) q.0 (record {
      four = omega (arith, k.many);
      made_of = made-of c i.0 s.pair k.each_a_set q.1 (same-kinds (total (Pair s.pair ∷ i.0)) (λ n. get_or c n 0) q.2);
      in_order = k.in_order;
    })

complete-split : (c : List ℕ) (melds : ℕ) (s : Split) → IsSplit c melds s.sets s.pair → IsIn s (splits_of c melds)
complete-split c melds s is =
    let many : length s.sets ≡ 4 - melds = omega (arith, is.four) in
    in-flat_map (λ sets. flat_map (split_with c sets) every_kind) s.sets s (collections 0 (4 - melds)) (subst (λ (n : ℕ). IsIn s.sets (collections 0 n)) many (in-collections s.sets 0 (each-set c s.sets s.pair is.made_of) is.in_order))
    (in-flat_map (split_with c s.sets) s.pair s every_kind (in-range 34 0 s.pair (omega arith) (omega (arith, is.made_of.is_kind)))
    (in-when (adds_up c s.sets s.pair) s (record { sets = s.sets; pair = s.pair } ∷ []) (adds_up-from c s.sets s.pair is.made_of) (inl refl)))

every_split : (c : List ℕ) (melds : ℕ) → melds ≤ 4 → AreTheSplits c melds (splits_of c melds)
every_split c melds m = record {
  sound = All-in (λ s. IsSplit c melds s.sets s.pair) (splits_of c melds) (λ s h. sound-split c melds s m h);
  complete = λ s is. Contains-in s (splits_of c melds) (complete-split c melds s is);
  once = AllPairs-differ (splits_of c melds) (Differ-flat_map (λ sets. flat_map (split_with c sets) every_kind) (collections 0 (4 - melds))
      (λ sets. Differ-flat_map (split_with c sets) every_kind (λ p. Differ-when (adds_up c sets p) (record { sets = sets; pair = p } ∷ []) (λ h. h, tt))
      (λ p q s a b. (split_with-inv c sets p s a).2 ∙ sym (split_with-inv c sets q s b).2) (Differ-range 34 0))
      (λ x y s a b. (pairs-inv c x s a).0 ∙ sym (pairs-inv c y s b).0) (Differ-collections (4 - melds) 0));
}

-- ---- thirteen orphans

pub orphans-iff : (c : List ℕ) (melds : ℕ) → IsTrue (are_orphans c melds) ↔ ((melds ≡ 0) × IsThirteenOrphans c)
orphans-iff c melds =
    let all = λ (d : ℕ). list_all (λ k. eqb (get_or c k 0) (orphan_copies d k)) every_kind in
    let some = list_any (are_orphans_with c) every_kind in (
      λ t. let p = and_parts (eqb melds 0) some t in let i = any-in (are_orphans_with c) every_kind p.1 in let o = and_parts (is_orphan i.0) (all i.0) i.2 in (
        eqb-true melds 0 p.0,
        record { doubled = i.0; is_kind = omega (arith, (in-range-inv 34 0 i.0 i.1).1); doubles_orphan = o.0; at = same-kinds (λ k. get_or c k 0) (orphan_copies i.0) o.1 },
      ),
      λ h. let d = h.1.doubled in and_from (eqb melds 0) some (eq-eqb melds 0 h.0)
          (any-from (are_orphans_with c) every_kind d (in-range 34 0 d (omega arith) (omega (arith, h.1.is_kind))) (and_from (is_orphan d) (all d) h.1.doubles_orphan (kinds-same (λ k. get_or c k 0) (orphan_copies d) h.1.at))),
    )

pub every_reading : (c : List ℕ) (melds w : ℕ) → length c ≡ 34 → melds ≤ 4 → AreTheReadings c melds w (readings_of c melds w)
unfolding readings_of
every_reading c melds w l m = the_readings c melds w (splits_of c melds) (are_seven_pairs c melds) (are_orphans c melds) (every_split c melds m) (seven-iff c melds l) (orphans-iff c melds)
