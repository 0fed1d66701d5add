use Rattle.std.proofs.Common.{ℕ, sym, arith}
use Rattle.std.proofs.lemmas.List.FromFn.{map-range_with_len_more}
use Rattle.map_defs.specs.Rows.{links_of}
use Rattle.list_text.proofs.rows.entries.Goals as goal

pub loop-link-preserved : goal.loop-link-preserved
loop-link-preserved g c =
    let entry : ℕ → ℕ = λ i. links_of c.args.links.now.rows i c.args.dart in
    let more = map-range_with_len_more entry 0 c.loop-link.link c.loop-link.link (omega arith) in
    rw (c.in_ok-push.ensures.items, c.loop-link.invariant, c.number_at.ensures) (sym more)
