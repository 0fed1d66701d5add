use Rattle.cell_walk.proofs.CellRounds.{two-either}
use Rattle.cell_walk.proofs.surface.surface_words.Goals as goal

pub returns : goal.returns
returns g c = λ w.
    let same = c.surface_ways-ways.ensures.same w in
    let either = two-either c.surface_ways-ways.result.forth.next c.surface_ways-ways.result.back.next w in
    (λ has. same.1 (either.0 has), λ is. either.1 (same.0 is))
