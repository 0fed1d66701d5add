use Rattle.std.proofs.Common.{ℕ, List, sym, ◌∙◌, arith}
use Rattle.std.proofs.lemmas.List.{ext_get_or}
use Rattle.dart_arena.proofs.row.Row.put_all.Goals as goal

pub returns : goal.returns
returns g c =
    let new : List ℕ = c.loop-link.self in
    let long = c.loop-link.invariant.0 in
    ext_get_or 0 new c.args.links.now (long ∙ sym c.requires) (λ i h. c.loop-link.invariant.1 i (omega (arith, c.width-link-end.ensures.width)))
