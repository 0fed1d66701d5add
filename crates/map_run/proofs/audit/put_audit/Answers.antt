use Rattle.std.proofs.Common.{Err, sym, subst}
use Rattle.std.proofs.lemmas.Result.{err_from_is_err_and}
use Rattle.machine_defs.specs.Text.{Shown, Counts, reply_text}
use Rattle.text_lines.specs.Writing.{WritesText}
use Rattle.text_lines.proofs.WritingFacts.{Writes-then, Writes-cut}
use Rattle.map_run.proofs.AuditFacts.{shown-text}
use Rattle.map_run.proofs.audit.put_audit.Goals as goal

pub returns-in_err-put_listing-clause-written : goal.returns-in_err-put_listing-clause-written
returns-in_err-put_listing-clause-written g c =
    let l = c.args.listing.now in
    let cut = c.in_err-put_listing.ensures.written in
    let p = err_from_is_err_and c.from_residual.result c.from_residual.ensures.1 in
    rw (p.1, p.2)
    (subst (WritesText (g.S.Sink.written c.args.out.now) (g.S.Sink.written c.put_listing.new.out) (Err c.in_err-put_listing.field-0.0)) (sym (shown-text l c.args.counts.items))
    (Writes-cut (g.S.Sink.written c.args.out.now) (g.S.Sink.written c.put_listing.new.out) c.in_err-put_listing.field-0.0 (reply_text (Shown l)) (reply_text (Counts c.args.counts.items)) cut))

pub returns-clause-written : goal.returns-clause-written
returns-clause-written g c =
    let l = c.args.listing.now in
    subst (WritesText (g.S.Sink.written c.args.out.now) (g.S.Sink.written c.put_line.new.out) c.put_line.result) (sym (shown-text l c.args.counts.items))
    (Writes-then (g.S.Sink.written c.args.out.now) (g.S.Sink.written c.put_listing.new.out) (g.S.Sink.written c.put_line.new.out) c.put_line.result c.in_ok-put_listing.field-0
    (reply_text (Shown l)) (reply_text (Counts c.args.counts.items)) c.in_ok-put_listing.ensures.written c.put_line.ensures.written)
