use Rattle.std.proofs.Common.{ℕ, ◌≡◌, ◌+◌, sym, subst, arith}
use Rattle.map_defs.specs.Rows.{made, links_of, IsLive}
use Rattle.orient_half.specs.Marks.{Marks}
use Rattle.orient_half.specs.Searches.{IsSurveyed}
use Rattle.orient_half.proofs.Surveyed.{surveyed-none}
use Rattle.orient_half.proofs.ReachedSigns.{signs-all}
use Rattle.orient_half.proofs.WholeLinks.{rows-dart, rows-low}
use Rattle.orient_half.proofs.orienting.sign_all.Goals as goal

pub loop-number-init : goal.loop-number-init
loop-number-init g c =
    subst (λ (marks : Marks). IsSurveyed g.row.DIM (IsLive c.args.links.now.rows) (links_of c.args.links.now.rows) 1 marks) (sym c.in_ok-search.ensures)
    (surveyed-none g.row.DIM (IsLive c.args.links.now.rows) (links_of c.args.links.now.rows) (c.made-made.result + 1)
    (rows-dart g.row.DIM c.args.links.now.rows c.made-made.ensures.sound)
    (λ d live. omega (arith, rows-low c.args.links.now.rows d live, c.made-made.ensures.made)))

pub returns-clause-signs : goal.returns-clause-signs
returns-clause-signs g c =
    let end : c.loop-number.number + 1 ≡ made c.args.links.now.rows + 1 = omega (arith, c.made-made.ensures.made) in
    signs-all g.row.DIM (IsLive c.args.links.now.rows) (links_of c.args.links.now.rows) (made c.args.links.now.rows + 1) c.loop-number.search.marks.items c.in_ok-signs_of.field-0.items
    (rows-low c.args.links.now.rows)
    (subst (λ (next : ℕ). IsSurveyed g.row.DIM (IsLive c.args.links.now.rows) (links_of c.args.links.now.rows) next c.loop-number.search.marks.items) end c.loop-number.invariant)
    c.in_ok-signs_of.ensures
