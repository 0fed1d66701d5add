use Rattle.map_defs.specs.TextWords.{words_of}
use Rattle.script_text.specs.Meanings.{change_meaning}
use Rattle.std.proofs.Common.{lit<}
use Rattle.map_run.specs.Lines.{IsTold}
use Rattle.map_run.proofs.LineFacts.{AnswersLine-made, AnswersLine-refused, AnswersLine-blank}
use Rattle.map_run.proofs.machine.obey_line.Goals as goal

pub change-requires : goal.change-requires
unfolding IsTold
change-requires g c = (lit< tt, (c.requires, (words_of c.args.line.now, rw (c.in-Ok-Some-Change.field-0-is, c.in-Ok-Some-Change.field-0-0-is) at c.in-Ok-Some-Change.ensures.told)))

pub returns-in-Ok-Some-Change-clause-answered : goal.returns-in-Ok-Some-Change-clause-answered
returns-in-Ok-Some-Change-clause-answered g c =
    let read = rw (c.in-Ok-Some-Change.field-0-is, c.in-Ok-Some-Change.field-0-0-is) at c.in-Ok-Some-Change.ensures.told in
    AnswersLine-made (g.H.Hook.hook c.args.map.now.hook) (g.S.Sink.written c.args.out.now) (g.S.Sink.written c.say_made.new.out) c.args.map.now.state c.change.new.map.state (words_of c.args.line.now) (change_meaning c.in-Ok-Some-Change.line) c.change.result c.say_made.result
    read c.change.ensures.does c.say_made.ensures.said

pub returns-in-Ok-Some-Question-clause-answered : goal.returns-in-Ok-Some-Question-clause-answered
returns-in-Ok-Some-Question-clause-answered g c =
    c.answer_question.ensures.answered (words_of c.args.line.now) (rw (c.in-Ok-Some-Question.field-0-is, c.in-Ok-Some-Question.field-0-0-is) at c.in-Ok-Some-Question.ensures.told)

pub returns-in-Err-clause-answered : goal.returns-in-Err-clause-answered
returns-in-Err-clause-answered g c =
    AnswersLine-refused (g.H.Hook.hook c.args.map.now.hook) (g.S.Sink.written c.args.out.now) (g.S.Sink.written c.say_refused.new.out) c.args.map.now.state (words_of c.args.line.now) c.in-Err.refused c.say_refused.result
    c.in-Err.ensures.refused c.say_refused.ensures.said

pub returns-in-Ok-None-clause-answered : goal.returns-in-Ok-None-clause-answered
returns-in-Ok-None-clause-answered g c =
    AnswersLine-blank (g.H.Hook.hook c.args.map.now.hook) (g.S.Sink.written c.args.out.now) c.args.map.now.state (words_of c.args.line.now) (rw c.in-Ok-None.field-0-is at c.in-Ok-None.ensures.blank)
