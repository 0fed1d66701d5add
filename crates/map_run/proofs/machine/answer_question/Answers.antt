use Rattle.script_text.specs.Meanings.{question_meaning}
use Rattle.map_run.specs.Lines.{answer_meaning}
use Rattle.map_run.proofs.LineFacts.{AnswersLine-said}
use Rattle.map_run.proofs.machine.answer_question.Goals as goal

pub returns-clause-answered : goal.returns-clause-answered
returns-clause-answered g c = λ words read.
    AnswersLine-said answer_meaning (g.H.Hook.hook c.args.map.now.hook) (g.S.Sink.written c.args.out.now) (g.S.Sink.written c.say.new.out) c.args.map.now.state c.args.map.now.state words (question_meaning c.args.line.now) c.ask.result c.say.result
    read c.ask.ensures c.say.ensures.said c.say.ensures.unsaid
