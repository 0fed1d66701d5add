use Rattle.std.proofs.Common.{ℕ, List, length, drop, Contains, sym, ap, ◌∙◌, arith}
use Rattle.std.proofs.lemmas.Bool.{false≢true}
use Rattle.std.proofs.lemmas.List.{length-append}
use Rattle.flat_lists.proofs.CutLists.{ends-push}
use Rattle.map_defs.specs.Cells.{InOrbit, Leads}
use Rattle.map_defs.specs.Rows.{links_of, IsLive}
use Rattle.cell_walk.proofs.SurveyFacts.{surveyed-dead, surveyed-met, surveyed-least}
use Rattle.cell_walk.proofs.ListedCells.{lists-cut, found-before, found-since, orbit-grown}
use Rattle.cell_walk.proofs.RowSteps.{rows-walkable}
use Rattle.cell_walk.proofs.whole_map.take_orbit.Goals as goal

pub returns-then-contains-clause-surveyed : goal.returns-then-contains-clause-surveyed
returns-then-contains-clause-surveyed g c =
    surveyed-met (Leads (links_of c.args.links.now.rows) (Contains c.args.words.now)) (IsLive c.args.links.now.rows)
    (rows-walkable g.K.Kind.kind g.row.DIM c.args.links.now.rows (Contains c.args.words.now) c.requires.sound c.requires.turns)
    c.args.dart c.args.found.now c.args.least.now.items
    (c.contains.ensures.0 c.if-contains.true) c.requires.before

pub returns-then-not-is_live-clause-surveyed : goal.returns-then-not-is_live-clause-surveyed
returns-then-not-is_live-clause-surveyed g c =
    surveyed-dead (Leads (links_of c.args.links.now.rows) (Contains c.args.words.now)) (IsLive c.args.links.now.rows)
    (rows-walkable g.K.Kind.kind g.row.DIM c.args.links.now.rows (Contains c.args.words.now) c.requires.sound c.requires.turns)
    c.args.dart c.args.found.now c.args.least.now.items
    (λ live. false≢true (sym c.if-not-is_live.true ∙ c.is_live.ensures.live.1 live)) c.requires.before

pub returns-clause-surveyed : goal.returns-clause-surveyed
returns-clause-surveyed g c =
    let Step = Leads (links_of c.args.links.now.rows) (Contains c.args.words.now) in
    let orbit =
    found-since Step (IsLive c.args.links.now.rows)
    (rows-walkable g.K.Kind.kind g.row.DIM c.args.links.now.rows (Contains c.args.words.now) c.requires.sound c.requires.turns)
    c.args.dart c.len-known.result c.args.found.now c.walk.new.found c.sort_since.new.self c.args.least.now.items
    (c.is_live.ensures.live.0 c.if-not-is_live.false)
    (λ known. false≢true (sym c.if-contains.false ∙ c.contains.ensures.1 known)) c.requires.before c.len-known.ensures
    c.in_ok-walk.ensures.before c.in_ok-walk.ensures.members c.sort_since.ensures.before c.sort_since.ensures.members in
    rw c.in_ok-push.ensures.items
    (surveyed-least Step (IsLive c.args.links.now.rows)
    (rows-walkable g.K.Kind.kind g.row.DIM c.args.links.now.rows (Contains c.args.words.now) c.requires.sound c.requires.turns)
    c.args.dart c.args.found.now c.args.least.now.items c.sort_since.new.self
    (c.is_live.ensures.live.0 c.if-not-is_live.false)
    (λ known. false≢true (sym c.if-contains.false ∙ c.contains.ensures.1 known))
    (orbit-grown Step c.args.dart c.args.found.now c.sort_since.new.self (drop c.len-known.result c.sort_since.new.self) orbit) c.requires.before)

pub returns-clause-ends : goal.returns-clause-ends
returns-clause-ends g c =
    let rest : List ℕ = drop c.len-known.result c.sort_since.new.self in
    let behind = found-before c.len-known.result c.args.found.now c.walk.new.found c.sort_since.new.self c.len-known.ensures c.in_ok-walk.ensures.before c.sort_since.ensures.before in
    rw (c.in_ok-push-2.ensures.items, c.len.ensures)
    (ends-push 0 c.args.ends.now.items (length c.args.found.now) (length c.sort_since.new.self) c.requires.ends
    (omega (arith, ap length behind, length-append c.args.found.now rest)))

pub returns-clause-lists : goal.returns-clause-lists
returns-clause-lists g c =
    let Step = Leads (links_of c.args.links.now.rows) (Contains c.args.words.now) in
    let orbit =
    found-since Step (IsLive c.args.links.now.rows)
    (rows-walkable g.K.Kind.kind g.row.DIM c.args.links.now.rows (Contains c.args.words.now) c.requires.sound c.requires.turns)
    c.args.dart c.len-known.result c.args.found.now c.walk.new.found c.sort_since.new.self c.args.least.now.items
    (c.is_live.ensures.live.0 c.if-not-is_live.false)
    (λ known. false≢true (sym c.if-contains.false ∙ c.contains.ensures.1 known)) c.requires.before c.len-known.ensures
    c.in_ok-walk.ensures.before c.in_ok-walk.ensures.members c.sort_since.ensures.before c.sort_since.ensures.members in
    rw (c.in_ok-push.ensures.items, c.in_ok-push-2.ensures.items)
    (lists-cut (InOrbit Step) c.args.least.now.items c.args.dart c.args.found.now c.sort_since.new.self (drop c.len-known.result c.sort_since.new.self) c.args.ends.now.items c.len.result
    orbit.behind c.len.ensures c.requires.ends orbit.orbit c.sort_since.ensures.ascending c.requires.lists)
