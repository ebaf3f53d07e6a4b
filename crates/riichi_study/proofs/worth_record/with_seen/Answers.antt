use Rattle.std.proofs.Common.{◌≡◌, ◌∙◌, List, ℕ, ap, sym}
use Rattle.std.specs.Prelude.{nat_le}
use Rattle.std.specs.List.{list_all}
use Rattle.riichi_hand.specs.Hand.{shape_of}
use Rattle.riichi_study.specs.Records.{both_counts}
use Rattle.riichi_study.proofs.WorthRecordLemmas.{counts_are, too_many_are, too_many_seen}
use Rattle.riichi_study.proofs.worth_record.with_seen.Goals as goal

pub returns-in-Some : goal.returns-in-Some
returns-in-Some c =
    let hand = c.args.hand.now in
    let tiles = c.args.tiles.now in
    let few = list_all (λ count. nat_le count 4) c.both.result in
    let seen : c.in-Some.seen ≡ both_counts hand.seen tiles = counts_are few c.both.result c.in-Some.seen c.in-Some.ensures ∙ c.both.ensures ∙ ap (λ (one : List ℕ). both_counts one tiles) c.seen.ensures in
    c.new.ensures
    ∙ ap (λ (held : List ℕ). shape_of (record { tiles = held; melds = c.melds.result; seen = c.in-Some.seen })) c.tiles.ensures.value
    ∙ ap (λ melds. shape_of (record { tiles = hand.tiles; melds = melds; seen = c.in-Some.seen })) c.melds.ensures
    ∙ ap (λ (counts : List ℕ). shape_of (record { tiles = hand.tiles; melds = hand.melds; seen = counts })) seen

pub returns-in-None : goal.returns-in-None
returns-in-None c =
    let hand = c.args.hand.now in
    let tiles = c.args.tiles.now in
    let few = λ (counts : List ℕ). list_all (λ count. nat_le count 4) counts in
    let both : c.both.result ≡ both_counts hand.seen tiles = c.both.ensures ∙ ap (λ (one : List ℕ). both_counts one tiles) c.seen.ensures in
    sym (too_many_seen hand tiles c.tiles-shape.ensures.shape (sym (ap few both) ∙ too_many_are (few c.both.result) c.both.result c.in-None.ensures))
