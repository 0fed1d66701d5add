use Rattle.std.proofs.Common.{◌↔◌, Contains, lit<, refl, inl, inr}
use Rattle.std.proofs.lemmas.List.Filters.{dedup_is}
use Rattle.std.proofs.lemmas.List.Kept.{Contains-dedup_nat, Contains-from_dedup}
use Rattle.std.proofs.lemmas.List.Sorted.{Contains-permutation, IsPermutation-sym}
use Rattle.std.proofs.lemmas.Map.Keys.{IsStrictlyIncreasing-dedup}
use Rattle.map_defs.specs.Rows.{links_of}
use Rattle.map_defs.specs.Cells.{InOrbit, Leads}
use Rattle.cell_walk.specs.Ways.{IsEither}
use Rattle.cell_walk.proofs.rounds.round.Goals.{in-Some+in_ok-darts-in-Some, in-None+in_ok-darts-in-None}
use Rattle.cell_walk.proofs.rounds.round.Goals as goal

pub short_ring-requires : goal.short_ring-requires
short_ring-requires g c = (lit< tt, (c.requires.within c.args.ways.now.forth.next (inl refl), c.requires.within c.args.ways.now.back.next (inr refl)))

pub returns-clause-members : goal.returns-clause-members
returns-clause-members g c = λ y.
    let found : Contains c.match-short_ring.darts.items y ↔ InOrbit (Leads (links_of c.args.links.now.rows) (IsEither c.args.ways.now.forth.next c.args.ways.now.back.next)) c.args.dart y =
    elim c.match-short_ring.branch [
      | in-Some+in_ok-darts-in-Some w ↦ rw w.darts-is (rw w.in_ok-darts-in-Some.ensures (w.in-Some.ensures y))
      | in-None+in_ok-darts-in-None w ↦ rw w.darts-is (w.in_ok-darts-in-None.ensures y)
    ] in
    let moved = c.sort_unstable.ensures.permutation in
    let is = dedup_is _ _ _ c.dedup.ensures.filtered in (
      λ has. found.0 (Contains-permutation _ _ y (IsPermutation-sym _ _ moved) (Contains-from_dedup _ _ y (rw is at has))),
      λ o. rw is (Contains-dedup_nat _ y (Contains-permutation _ _ y moved (found.1 o))),
    )

pub returns-clause-ascending : goal.returns-clause-ascending
returns-clause-ascending g c =
    let is = dedup_is _ _ _ c.dedup.ensures.filtered in
    rw is (IsStrictlyIncreasing-dedup _ c.sort_unstable.ensures.sorted)
