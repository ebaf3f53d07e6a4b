use Rattle.std.proofs.Common.{◌≡◌, ◌∙◌, ℕ, Bool, take, ap, sym, refl, arith, nat_eq, get_or}
use Rattle.std.specs.Prelude.{◌&&◌, slice_index}
use Rattle.std.specs.List.{list_all}
use Rattle.riichi_tiles.specs.Melds.{every_kind, tiles_of}
use Rattle.riichi_tiles.proofs.Reading.{zero_at}
use Rattle.riichi_tiles.proofs.MeldTiles.{all_kinds_more}
use Rattle.riichi_tiles.proofs.meld.has_just.Goals as goal

pub add_meld-requires-clause-few : goal.add_meld-requires-clause-few
add_meld-requires-clause-few c = λ kind. omega (arith, zero_at 34 kind)

pub loop-number-preserved : goal.loop-number-preserved
loop-number-preserved c =
    let same_at : ℕ → Bool = λ kind. nat_eq (slice_index c.args.counts.now kind) (tiles_of c.args.meld.now kind) in
    let number = c.loop-number.number in
    let tiles : slice_index c.add_meld.new.held number ≡ tiles_of c.args.meld.now number = omega (arith, c.add_meld.ensures number, zero_at 34 number) in
    let here : nat_eq c.get.result (get_or c.add_meld.new.held number 0) ≡ same_at number = rw (c.get.ensures.value, c.at.ensures, tiles) refl in
    ap (λ same. same && nat_eq c.get.result (get_or c.add_meld.new.held number 0)) c.loop-number.invariant
    ∙ ap (λ same. list_all same_at (take number every_kind) && same) here ∙ sym (all_kinds_more same_at number (omega arith))

pub returns : goal.returns
returns c =
    let all : c.loop-number.number ≡ 34 = omega arith in
    let same_at : ℕ → Bool = λ kind. nat_eq (slice_index c.args.counts.now kind) (tiles_of c.args.meld.now kind) in
    c.loop-number.invariant ∙ ap (λ n. list_all same_at (take n every_kind)) all
