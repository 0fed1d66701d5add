use Rattle.std.proofs.Common.{◌≡◌, codes, inr, refl, rules}
use Rattle.machine_defs.specs.Text.{truth_text}
use Rattle.script_text.specs.ReplyEnds.{reply-ends}
use Rattle.script_text.specs.declared.reply.Reply.TheVariants.{Truth}
use Rattle.script_text.proofs.PutLines.{Writes-put}
use Rattle.script_text.proofs.reply.Reply.put_over.Goals as goal

pub returns-in-Done-eq0-clause-written : goal.returns-in-Done-eq0-clause-written
returns-in-Done-eq0-clause-written g c =
    let none : c.in-Done-eq0.field-0.count ≡ 0 = search rules in
    rw (c.in-Done-eq0.is, none) (Writes-put (g.S.Sink.written c.args.out.now) (g.S.Sink.written c.put.new.self) (codes "ok\n") c.put.result (inr (codes "ok", refl)) c.put.ensures.appended)

pub returns-in-Truth-clause-written : goal.returns-in-Truth-clause-written
returns-in-Truth-clause-written g c =
    let answer = c.in-Truth.answer in
    let put = rw c.truth.ensures at c.put-in-Truth.ensures.appended in
    rw c.in-Truth.is (Writes-put (g.S.Sink.written c.args.out.now) (g.S.Sink.written c.put-in-Truth.new.self) (truth_text answer) c.put-in-Truth.result (reply-ends (Truth answer)) put)
