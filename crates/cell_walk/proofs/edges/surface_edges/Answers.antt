use Rattle.std.proofs.Common.{◌≡◌, ℕ, ◌+◌, sym, subst, arith}
use Rattle.map_defs.specs.Rows.{links_of, IsLive}
use Rattle.map_defs.specs.Cells.{NamesCell}
use Rattle.cell_walk.proofs.EdgeDarts.{AreListed, listed-next, listed-all}
use Rattle.cell_walk.proofs.RowSteps.{live-made}
use Rattle.cell_walk.proofs.edges.surface_edges.Goals as goal

pub loop-number-preserved : goal.loop-number-preserved
loop-number-preserved g c =
    let Named : ℕ → Type 0 = λ d. IsLive c.args.links.now.rows d × NamesCell g.K.Kind.kind (links_of c.args.links.now.rows) 1 d in
    let same : c.unwrap-dart.result ≡ c.loop-number.number = rw c.unwrap-dart.ensures at c.new.ensures.same in
    subst (λ (n : ℕ). AreListed Named (n + 1) c.push_if.new.darts.items) same
    (listed-next Named c.unwrap-dart.result c.loop-number.least.items c.push_if.new.darts.items c.in-Some.wanted c.in-Some.ensures c.in_ok-push_if.ensures
    (subst (λ (n : ℕ). AreListed Named n c.loop-number.least.items) (sym same) c.loop-number.invariant))

pub returns-clause-members : goal.returns-clause-members
returns-clause-members g c =
    listed-all (λ d. IsLive c.args.links.now.rows d × NamesCell g.K.Kind.kind (links_of c.args.links.now.rows) 1 d) c.loop-number.number c.loop-number.least.items
    (λ d named. omega (arith, live-made c.args.links.now.rows d named.0, c.made-number-end.ensures.made)) c.loop-number.invariant
