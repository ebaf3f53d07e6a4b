-- Pieces that are written behind a text, one after another.
use Rattle.std.proofs.Common.{◌≡◌, ℕ, ◌≤◌, ◌-◌, List, [], ◌∷◌, ◌++◌, length, get_or, take, drop, map, flat_map, refl, arith}
use Rattle.riichi_text.specs.Lists.{joined}
use Rattle.riichi_text.proofs.Items.{joined_items}
use Rattle.riichi_text.proofs.Pieces.{pushed-two, pushed_five}

pub pushed_six : (old a b c d e f : List ℕ) {s t u v w x : List ℕ} → s ≡ old ++ a → t ≡ s ++ b → u ≡ t ++ c → v ≡ u ++ d → w ≡ v ++ e → x ≡ w ++ f → x ≡ old ++ (a ++ b ++ c ++ d ++ e ++ f)
pushed_six old a b c d e f p q r s t u = pushed-two old (a ++ b ++ c ++ d ++ e) f (pushed_five old a b c d e p q r s t) u

pub pushed_seven : (old a b c d e f g : List ℕ) {s t u v w x y : List ℕ} → s ≡ old ++ a → t ≡ s ++ b → u ≡ t ++ c → v ≡ u ++ d → w ≡ v ++ e → x ≡ w ++ f → y ≡ x ++ g
    → y ≡ old ++ (a ++ b ++ c ++ d ++ e ++ f ++ g)
pushed_seven old a b c d e f g p q r s t u v = pushed-two old (a ++ b ++ c ++ d ++ e ++ f) g (pushed_six old a b c d e f p q r s t u) v

-- the first of some items, and the others behind separators
pub joined_first : {X : Type 0} (separator : List ℕ) (text : X → List ℕ) (items : List X) (none : X) → 1 ≤ length items
    → joined separator (map text items) ≡ text (get_or items 0 none) ++ flat_map (λ next. separator ++ text next) (take (length items - 1) (drop 1 items))
joined_first separator text [] none some = absurd (omega (arith, some))
joined_first separator text (x ∷ xs) none some = joined_items separator text (x ∷ xs) x some refl
