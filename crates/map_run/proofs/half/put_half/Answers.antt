use Rattle.std.proofs.Common.{codes}
use Rattle.std.proofs.lemmas.Result.{err_from_is_err_and}
use Rattle.machine_defs.specs.Text.{listing_text, numbers_text}
use Rattle.text_lines.proofs.WritingFacts.{Writes-then, Writes-cut}
use Rattle.map_run.proofs.half.put_half.Goals as goal

pub returns-in_err-put_listing-clause-written : goal.returns-in_err-put_listing-clause-written
returns-in_err-put_listing-clause-written g c =
    let p = err_from_is_err_and c.from_residual.result c.from_residual.ensures.1 in
    rw (p.1, p.2)
    (Writes-cut (g.S.Sink.written c.args.out.now) (g.S.Sink.written c.put_listing.new.out) c.in_err-put_listing.field-0.0 (listing_text c.args.half.listing)
    (numbers_text (codes "from") c.args.half.origins.items) c.in_err-put_listing.ensures.written)

pub returns-clause-written : goal.returns-clause-written
returns-clause-written g c =
    Writes-then (g.S.Sink.written c.args.out.now) (g.S.Sink.written c.put_listing.new.out) (g.S.Sink.written c.put_line.new.out) c.put_line.result c.in_ok-put_listing.field-0
    (listing_text c.args.half.listing) (numbers_text (codes "from") c.args.half.origins.items) c.in_ok-put_listing.ensures.written c.put_line.ensures.written
