use Rattle.std.proofs.Common.{◌-◌, drop, arith, take_all, length-drop}
use Rattle.machine_defs.specs.Text.{done_text}
use Rattle.script_text.specs.ReplyEnds.{reply-ends}
use Rattle.script_text.specs.declared.reply.Reply.TheVariants.{Done}
use Rattle.script_text.proofs.PutLines.{Writes-put}
use Rattle.script_text.proofs.reply.put_done.Goals as goal

pub returns-clause-written : goal.returns-clause-written
returns-clause-written g c =
    let done = c.args.done in
    let w = c.write_done-start in
    let all = take_all (25 - w.result) (drop w.result w.new.line) (omega (arith, length-drop w.result w.new.line)) in
    let put = rw (all, w.ensures.written) at c.put.ensures.appended in
    Writes-put (g.S.Sink.written c.args.out.now) (g.S.Sink.written c.put.new.self) (done_text done.first done.count) c.put.result (reply-ends (Done done)) put
