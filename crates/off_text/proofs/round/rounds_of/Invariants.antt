use Rattle.std.specs.Prelude.{take}
use Rattle.std.specs.List.{AllZip}
use Rattle.map_defs.specs.Rows.{links_of}
use Rattle.map_defs.specs.OffOfMap.{IsRound}
use Rattle.off_text.proofs.round.rounds_of.Given as goal

abbrev pub invariant-loop-first : goal.invariant-loop-first
invariant-loop-first g l = AllZip (IsRound g.K.Kind.kind (links_of l.links.rows)) (take l.first-index l.first-items) l.rounds
