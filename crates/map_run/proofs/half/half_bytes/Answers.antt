use Rattle.std.proofs.Common.{refl, inl, inr, arith}
use Rattle.machine_defs.specs.Halving.{HalfAnswer}
use Rattle.machine_defs.specs.Outside.{Rose}
use Rattle.row_laws.proofs.RowBytes.{rows-short}
use Rattle.map_run.specs.Audits.{line_of}
use Rattle.map_run.specs.Halves.{ListingHalfAnswer}
use Rattle.map_run.proofs.AnswerFacts.{Ends-by, refused-ends}
use Rattle.map_run.proofs.ListingFacts.{fault-line}
use Rattle.map_run.proofs.half.half_bytes.Goals as goal

pub returns-in-Ok-clause-ends : goal.returns-in-Ok-clause-ends
returns-in-Ok-clause-ends g c =
    Ends-by (ListingHalfAnswer c.in-Ok.listing) (HalfAnswer c.args.bytes.now) (Rose (g.S.Sink.faults c.args.out.now) (g.S.Sink.faults c.half_listing.new.out))
    (g.S.Sink.written c.args.out.now) (g.S.Sink.written c.half_listing.new.out) c.half_listing.result
    (λ text status answer. inr (c.in-Ok.listing, c.in-Ok.ensures.read, answer)) c.half_listing.ensures.ends

pub returns-in-Err-clause-ends : goal.returns-in-Err-clause-ends
returns-in-Err-clause-ends g c =
    refused-ends (HalfAnswer c.args.bytes.now) (Rose (g.S.Sink.faults c.args.out.now) (g.S.Sink.faults c.refuse_listing.new.out)) (g.S.Sink.written c.args.out.now) (g.S.Sink.written c.refuse_listing.new.out)
    (line_of c.in-Err.fault) c.refuse_listing.result
    (λ line is. let found = fault-line c.args.bytes.now c.in-Err.fault c.in-Err.ensures.read line is in inl (found.0, found.1, found.2, refl)) c.refuse_listing.ensures.refused

pub half_listing-requires-clause-few : goal.half_listing-requires-clause-few
half_listing-requires-clause-few g c = let short = rows-short c.args.bytes.now c.in-Ok.listing c.in-Ok.ensures.read in omega (arith, short, c.requires)
