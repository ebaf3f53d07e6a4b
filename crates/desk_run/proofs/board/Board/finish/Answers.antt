use Rattle.std.proofs.Common.{rules, arith, refl}
use Rattle.desk_run.specs.Plays.{worker_seen}
use Rattle.desk_run.specs.Views.{holding}
use Rattle.desk_run.proofs.Allowed.{may_finish}
use Rattle.desk_run.proofs.Fronts.{finished_from}
use Rattle.desk_run.proofs.board.Board.finish.Goals as goal

pub store-requires : goal.store-requires
store-requires c = let t = c.requires.judged in let x = c.args._ticket in let p = c.args.place in let job = t.1.0 in
    (search rules, omega arith, may_finish _ c.args.self.now.size _ _ _ _ c.args.self.now.keyed c.args.self.now.sized.1 p (holding (worker_seen t.0.0) p x job) (record { place = p; ticket = x; job = job }) (record { ticket = x; job = job }) t.0.1 t.1.1 refl refl refl refl refl (search rules))

pub returns-clause-me : goal.returns-clause-me
returns-clause-me c m judges = (finished_from m c.args.seat.now.me c.store.new.seat.me c.args.place c.args._ticket judges c.store.ensures.2).0

pub returns-clause-once : goal.returns-clause-once
returns-clause-once c m judges = (finished_from m c.args.seat.now.me c.store.new.seat.me c.args.place c.args._ticket judges c.store.ensures.2).1
