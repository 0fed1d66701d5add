use Rattle.std.proofs.Common.{lit≤}
use Rattle.machine_defs.specs.Auditing.{AuditAnswer}
use Rattle.machine_defs.specs.Outside.{Rose}
use Rattle.machine_defs.specs.Text.{replies_text}
use Rattle.map_run.specs.Audits.{line_of, shows}
use Rattle.map_run.proofs.AnswerFacts.{put-ends, refused-ends}
use Rattle.map_run.proofs.AuditFacts.{shown-answer}
use Rattle.map_run.proofs.audit.audit_bytes.Goals as goal

pub returns-in-Ok-clause-ends : goal.returns-in-Ok-clause-ends
returns-in-Ok-clause-ends g c =
    let l = c.in-Ok.listing in
    let counts = c.in-Ok.counts.items in
    rw c.put_status.ensures
    (put-ends (AuditAnswer c.args.bytes.now) (Rose (g.S.Sink.faults c.args.out.now) (g.S.Sink.faults c.put_audit.new.out)) (g.S.Sink.written c.args.out.now) (g.S.Sink.written c.put_audit.new.out)
    (replies_text (shows l counts)) 0 (shown-answer c.args.bytes.now l counts c.in-Ok.ensures.0 c.in-Ok.ensures.1) (lit≤ tt) c.put_audit.result c.put_audit.ensures.written c.put_audit.ensures.cause.rose)

pub returns-in-Err-clause-ends : goal.returns-in-Err-clause-ends
returns-in-Err-clause-ends g c =
    refused-ends (AuditAnswer c.args.bytes.now) (Rose (g.S.Sink.faults c.args.out.now) (g.S.Sink.faults c.refuse_listing.new.out)) (g.S.Sink.written c.args.out.now) (g.S.Sink.written c.refuse_listing.new.out)
    (line_of c.in-Err.fault) c.refuse_listing.result c.in-Err.ensures c.refuse_listing.ensures.refused
