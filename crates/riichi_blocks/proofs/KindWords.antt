-- What holds of every tile, and of some tile, by the set of the kinds that are held.
use Rattle.std.proofs.Common.{◌≡◌, ◌∙◌, ◌<◌, ℕ, zero, suc, Bool, not, ◌&&◌, ◌||◌, nat_eq, nat_lt, List, refl, ap, arith}
use Rattle.std.specs.Prelude.{slice_index}
use Rattle.std.specs.List.{list_all, list_any}
use Rattle.std.proofs.lemmas.Bool.Decides.{nat_tests}
use Rattle.riichi_tiles.specs.HeldKinds.{is_held, AreHeldOf, kinds_where}
use Rattle.riichi_tiles.specs.Melds.{every_kind}
use Rattle.riichi_tiles.proofs.KindSets.{where_at}
use Rattle.riichi_tiles.proofs.Members.{IsIn, all-agree, any-agree, in-range-inv}
use Rattle.riichi_blocks.specs.Held.{every, some}

none_held : (n : ℕ) → not (nat_lt 0 n) ≡ nat_eq n 0
none_held zero = refl
none_held (suc n) = grind (arith, nat_tests)

below : (kind : ℕ) → IsIn kind every_kind → kind < 34
below kind inside = (in-range-inv 34 0 kind inside).1

pub every_where : (tiles : List ℕ) (held : ℕ) → AreHeldOf tiles held → (is_so : ℕ → Bool) →
    list_all (λ kind. is_held (kinds_where is_so) kind || not (is_held held kind)) every_kind ≡ every is_so tiles
every_where tiles held are is_so = all-agree (λ kind. is_held (kinds_where is_so) kind || not (is_held held kind)) (λ kind. is_so kind || nat_eq (slice_index tiles kind) 0) every_kind
    (λ kind inside. ap (λ b. b || not (is_held held kind)) (where_at is_so kind (below kind inside)) ∙ ap (λ b. is_so kind || b) (ap not (are.each kind) ∙ none_held (slice_index tiles kind)))

pub some_where : (tiles : List ℕ) (held : ℕ) → AreHeldOf tiles held → (is_so : ℕ → Bool) →
    list_any (λ kind. is_held (kinds_where is_so) kind && is_held held kind) every_kind ≡ some is_so tiles
some_where tiles held are is_so = any-agree (λ kind. is_held (kinds_where is_so) kind && is_held held kind) (λ kind. is_so kind && nat_lt 0 (slice_index tiles kind)) every_kind
    (λ kind inside. ap (λ b. b && is_held held kind) (where_at is_so kind (below kind inside)) ∙ ap (λ b. is_so kind && b) (are.each kind))
