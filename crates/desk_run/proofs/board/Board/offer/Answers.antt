use Rattle.std.proofs.Common.{rules, arith, ℕ, ◌≡◌, ◌+◌, ◌∷◌, List, ap, ◌∙◌}
use Rattle.atomic_table.specs.Table.{rest}
use Rattle.desk_run.specs.Plays.{table_seen, SeatState}
use Rattle.desk_run.specs.declared.content.Content.{Content}
use Rattle.desk_run.specs.declared.content.Content.TheVariants.{Offer}
use Rattle.desk_run.specs.declared.view.View.TheVariants.{Table}
use Rattle.desk_run.proofs.Allowed.{may_offer}
use Rattle.desk_run.proofs.Fronts.{offered_from}
use Rattle.desk_run.proofs.board.Board.offer.Goals as goal

-- the seat after the exchange
offered_at : (old new : SeatState) (state place : ℕ) (content : Content) → new ≡ (old.0, (place, content) ∷ rest old.1) → old.0 ≡ Table (table_seen old.0) → place ≡ (table_seen old.0).base + state
    → new ≡ (Table (table_seen old.0), ((table_seen old.0).base + state, content) ∷ rest old.1)
offered_at old new state place content e t p =
    e ∙ ap (λ v. let n : SeatState = (v, (place, content) ∷ rest old.1) in n) t ∙ ap (λ (q : ℕ). let n : SeatState = (Table (table_seen old.0), (q, content) ∷ rest old.1) in n) p

pub store-requires : goal.store-requires
store-requires c =
    let old : SeatState = c.args.seat.now.me in let more : List (ℕ × Content) = rest old.1 in
    let is = offered_at old c.lay_offer.new.seat.me c.args._offset c.args.place (Offer c.args.ticket c.args.job.now) c.lay_offer.ensures.me c.requires.table.0 c.requires.table.1 in (
      search rules,
      omega arith,
      may_offer _ c.args.self.now.size _ _ _ _ c.args.self.now.keyed c.args.self.now.sized.1 c.args._offset (table_seen old.0) c.args.ticket c.args.job.now more is (omega arith) c.requires.vacant c.requires.ticket.0 c.requires.ticket.1,
    )

pub returns-clause-me : goal.returns-clause-me
returns-clause-me c =
    let old : SeatState = c.args.seat.now.me in let more : List (ℕ × Content) = rest old.1 in
    let is = offered_at old c.lay_offer.new.seat.me c.args._offset c.args.place (Offer c.args.ticket c.args.job.now) c.lay_offer.ensures.me c.requires.table.0 c.requires.table.1 in
    offered_from c.lay_offer.new.seat.me _ (table_seen old.0) c.args._offset (2 + c.args.place) c.args.ticket c.args.job.now more is (omega arith) c.store.ensures.2
