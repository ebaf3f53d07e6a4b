use Rattle.std.proofs.Common.{◌≡◌, ◌∙◌, ◌<◌, ◌≤◌, ℕ, ◌+◌, ◌*◌, List, [], ◌++◌, map, ap, sym, subst, refl, take, length, arith}
use Rattle.std.specs.List.{concat}
use Rattle.std.proofs.lemmas.List.{take_all}
use Rattle.desk_lines.specs.Lines.{ended_lines}
use Rattle.desk_lines.specs.Records.{AreTold}
use Rattle.desk_lines.specs.declared.tally.Tally.{Tally}
use Rattle.desk_lines.specs.Slips.{both_tallies, tally_of}
use Rattle.desk_lines.specs.Telling.{text_of}
use Rattle.desk_lines.proofs.TellingLemmas.{text_of_append}
use Rattle.desk_crew.specs.Pieces.{AreCounted, edge, lines_between}
use Rattle.desk_crew.proofs.PieceLemmas.{tally-none, tallies-assoc, tally-append, lines_to, piece_on, joined_set}
use Rattle.desk_crew.proofs.rooms.Rooms.gather.Goals as goal

pub loop-number-init : goal.loop-number-init
loop-number-init g c =
    let none : edge c.args.text.now c.args.size 0 ≡ 0 = omega arith in (
      [],
      record {
        answered = c.requires.answered;
        are_told = subst (λ (n : ℕ). AreTold g.A.Responder.may_tell c.args.rules (ended_lines (take n c.args.text.now)) []) (sym none) refl;
        answers = refl;
        tally = tally-none c.args.tally.now ∙ ap (λ (n : ℕ). both_tallies c.args.tally.now (tally_of c.args.rules (ended_lines (take n c.args.text.now)))) (sym none);
      },
    )

pub loop-number-preserved : goal.loop-number-preserved
loop-number-preserved g c =
    let so_far = c.loop-number.invariant in
    let may = g.A.Responder.may_tell in
    let rules = c.args.rules in
    let text = c.args.text.now in
    let size = c.args.size in
    let number = c.loop-number.number in
    let rooms = c.loop-number.self.rooms.items in
    let within : number < length rooms = let test = c.loop-number-test.true in let end = c.len-number-end.ensures in let all = c.loop-number.self.all in let first = c.args.self.now.all in omega (arith, test, end, all, first) in
    let more : AreCounted may rules (lines_between text (edge text size number) (edge text size (number + 1))) c.take_piece.new.room.items c.in-Some.more = c.in-Some.ensures.taken in
    let before = c.args.tally.now in
    let come_to : List (List ℕ) → Tally = tally_of rules in
    let done = ended_lines (take (edge text size number) text) in
    let next = lines_between text (edge text size number) (edge text size (number + 1)) in
    let sum : c.in_ok-tally.field-0 ≡ both_tallies c.loop-number.tally c.in-Some.more = c.in_ok-tally.ensures.ok in (
      so_far.0 ++ more.told,
      record {
        answered = c.in-Some.ensures.left;
        are_told = piece_on may rules text size number so_far.0 more.told so_far.1.are_told more.are_told;
        answers = joined_set (λ room. room.items) rooms number c.take_piece.new.room within ∙ ap (λ (t : List ℕ). concat (map (λ room. room.items) (take number rooms)) ++ t) more.text_is
            ∙ ap (λ (t : List ℕ). t ++ text_of more.told) so_far.1.answers ∙ sym (text_of_append so_far.0 more.told);
        tally = sum ∙ ap (λ (t : Tally). both_tallies t c.in-Some.more) so_far.1.tally ∙ tallies-assoc before (come_to done) c.in-Some.more
            ∙ ap (λ (t : Tally). both_tallies before (both_tallies (come_to done) t)) more.tally_is ∙ ap (both_tallies before) (sym (tally-append rules done next))
            ∙ ap (λ ls. both_tallies before (come_to ls)) (sym (lines_to text size number));
      },
    )

pub returns-clause-ok : goal.returns-clause-ok
returns-clause-ok g c =
    let so_far = c.loop-number.invariant in
    let text = c.args.text.now in
    let number = c.loop-number.number in
    let rooms = c.loop-number.self.rooms.items in
    let last : number ≡ 64 = let test = c.loop-number-test.false in let end = c.len-number-end.ensures in let before = c.loop-number.auto.number-end in let first = c.args.self.now.all in omega (arith, test, end, before, first) in
    let past : length rooms ≤ number = let all = c.loop-number.self.all in omega (arith, last, all) in
    let all : length text ≤ number * c.args.size = subst (λ (n : ℕ). length text ≤ n * c.args.size) (sym last) c.requires.all in
    let whole : take (edge text c.args.size number) text ≡ text = take_all (edge text c.args.size number) text (omega (arith, all)) in
    record {
      told = so_far.0;
      are_told = subst (λ (t : List ℕ). AreTold g.A.Responder.may_tell c.args.rules (ended_lines t) so_far.0) whole so_far.1.are_told;
      text_is = ap (λ l. concat (map (λ room. room.items) l)) (sym (take_all number rooms past)) ∙ so_far.1.answers;
      tally_is = so_far.1.tally ∙ ap (λ (t : List ℕ). both_tallies c.args.tally.now (tally_of c.args.rules (ended_lines t))) whole;
    }
