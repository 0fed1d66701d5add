use Rattle.std.proofs.Common.{◌≢◌, lit<, arith}
use Rattle.map_defs.specs.Rows.{links_of}
use Rattle.beta_edit.specs.Crossing.{IsCellOf}
use Rattle.beta_edit.proofs.SameCells.{cell-nothing}
use Rattle.beta_edit.proofs.removal.removable.Goals as goal

pub can_remove-requires : goal.can_remove-requires
can_remove-requires g c =
    let some : c.args.dart ≢ 0 = omega (arith, c.number.ensures.some, c.number.ensures.same) in
    let cell : IsCellOf (links_of c.args.links.now.rows) c.args.dim c.in_ok-darts.darts.items c.args.dart = (some, c.in_ok-darts.ensures.members) in
    rw c.deref.ensures.value
    (lit< tt, (c.requires.dim, (c.in_ok-darts.ensures.ascending, (cell-nothing (links_of c.args.links.now.rows) c.args.dim c.args.dart c.in_ok-darts.darts.items cell, c.requires.laws))))

pub returns : goal.returns
returns g c =
    let some : c.args.dart ≢ 0 = omega (arith, c.number.ensures.some, c.number.ensures.same) in
    (rw c.deref.ensures.value at c.can_remove.ensures) c.args.dart (some, c.in_ok-darts.ensures.members)
