-- The tables of a rank: their values are few, the same tables add up the same, and the least follow from the counts.
use Rattle.std.proofs.Common.{Bool, true, false, ℕ, zero, suc, min, sym, ◌∙◌, refl, arith}
use Rattle.riichi_rows.specs.Lanes.{Agree, IsFew, with_set, with_pair, where_runs}
use Rattle.riichi_rows.specs.Open.{Added, AreFew, Begun, FewAdded, FewBegun, IsAdded, SameAdded, SameBegun}

-- ---- few

few_set : (f : ℕ → ℕ → ℕ) → AreFew f → AreFew (with_set f)
few_set f few zero p hs hp low = absurd (omega (arith, low))
few_set f few (suc s) p hs hp low = few s p (omega arith) hp low

few_pair : (f : ℕ → ℕ → ℕ) → AreFew f → AreFew (with_pair f)
few_pair f few s zero hs hp low = absurd (omega (arith, low))
few_pair f few s (suc p) hs hp low = few s p hs (omega arith) low

few_runs : (runs : Bool) (f : ℕ → ℕ → ℕ) → AreFew f → AreFew (where_runs runs f)
few_runs true f few s p hs hp low = few s p hs hp low
few_runs false f few s p hs hp low = absurd (omega (arith, low))

few_min : (f g : ℕ → ℕ → ℕ) → AreFew f → AreFew g → AreFew (λ s p. min (f s p) (g s p))
few_min f g ff gg s p hs hp = lesser (f s p) (g s p) (ff s p hs hp) (gg s p hs hp)
  where
    lesser : (a b : ℕ) → IsFew a → IsFew b → IsFew (min a b)
    lesser a b fa fb = grind arith

few_same : (f g : ℕ → ℕ → ℕ) → Agree f g → AreFew g → AreFew f
few_same f g same few s p hs hp low = (let e = same s p hs hp in omega (arith, e, few s p hs hp (omega (arith, e, low))))

pub few_added : (runs : Bool) (later : Begun) (x : Added) → IsAdded runs later x → FewBegun later → FewAdded x
few_added runs later x is few = record {
  zero = few_same _ _ is.no_tile few.zero;
  one = few_same _ _ is.one_tile (few_runs runs _ (few_set _ few.one));
  two = few_same _ _ is.two_tiles (few_min _ _ (few_pair _ few.zero) (few_runs runs _ (few_set _ (few_set _ few.two))));
  three = few_same _ _ is.three_tiles (few_min _ _ (few_set _ few.zero) (few_pair _ (few_runs runs _ (few_set _ few.one))));
  four = few_same _ _ is.four_tiles (few_min _ _ (few_set _ (few_runs runs _ (few_set _ few.one))) (few_pair _ (few_runs runs _ (few_set _ (few_set _ few.two)))));
}

-- ---- the same tables

pub set_same : (f g : ℕ → ℕ → ℕ) → Agree f g → Agree (with_set f) (with_set g)
set_same f g same zero p hs hp = refl
set_same f g same (suc s) p hs hp = same s p (omega arith) hp

pub pair_same : (f g : ℕ → ℕ → ℕ) → Agree f g → Agree (with_pair f) (with_pair g)
pair_same f g same s zero hs hp = refl
pair_same f g same s (suc p) hs hp = same s p hs (omega arith)

pub runs_same : (runs : Bool) (f g : ℕ → ℕ → ℕ) → Agree f g → Agree (where_runs runs f) (where_runs runs g)
runs_same true f g same s p hs hp = same s p hs hp
runs_same false f g same s p hs hp = refl

pub min_same : (f g h k : ℕ → ℕ → ℕ) → Agree f h → Agree g k → Agree (λ s p. min (f s p) (g s p)) (λ s p. min (h s p) (k s p))
min_same f g h k one other s p hs hp = (let a = one s p hs hp in let b = other s p hs hp in cc)

pub follow : (f g h : ℕ → ℕ → ℕ) → Agree f g → Agree g h → Agree f h
follow f g h one other s p hs hp = one s p hs hp ∙ other s p hs hp

through : (f g h k : ℕ → ℕ → ℕ) → Agree f g → Agree h k → Agree g k → Agree f h
through f g h k one other same s p hs hp = one s p hs hp ∙ same s p hs hp ∙ sym (other s p hs hp)

pub same_added : (runs : Bool) (later later' : Begun) (x x' : Added) → IsAdded runs later x → IsAdded runs later' x' → SameBegun later later' → SameAdded x x'
same_added runs later later' x x' is is' same = record {
  zero = through _ _ _ _ is.no_tile is'.no_tile same.zero;
  one = through _ _ _ _ is.one_tile is'.one_tile (runs_same runs _ _ (set_same _ _ same.one));
  two = through _ _ _ _ is.two_tiles is'.two_tiles (min_same _ _ _ _ (pair_same _ _ same.zero) (runs_same runs _ _ (set_same _ _ (set_same _ _ same.two))));
  three = through _ _ _ _ is.three_tiles is'.three_tiles (min_same _ _ _ _ (set_same _ _ same.zero) (pair_same _ _ (runs_same runs _ _ (set_same _ _ same.one))));
  four = through _ _ _ _ is.four_tiles is'.four_tiles (min_same _ _ _ _ (set_same _ _ (runs_same runs _ _ (set_same _ _ same.one))) (pair_same _ _ (runs_same runs _ _ (set_same _ _ (set_same _ _ same.two)))));
}
