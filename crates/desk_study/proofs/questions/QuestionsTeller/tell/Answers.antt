use Rattle.desk_study.specs.Answers.{question_answer}
use Rattle.desk_study.proofs.QuestionLemmas.{tells_more}
use Rattle.desk_study.proofs.questions.QuestionsTeller.tell.Goals as goal

pub returns-clause-told : goal.returns-clause-told
returns-clause-told g c =
    let now = c.args.self.now in
    let taken = c.in_ok-kind in record {
      answer = question_answer now.manner c.args.number c.args.line.now;
      put = taken.ensures.put;
      tells_more = λ first lines told report next counted as_this tells.
          tells_more first now c.take.new.self c.args.number c.args.line.now taken.kind lines told report next taken.ensures.kind counted as_this taken.ensures.manner tells;
    }
