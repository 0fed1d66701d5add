use Rattle.std.proofs.Common.{ℕ, ◌≢◌, ◌↔◌, Contains, lit<, refl, sym, ◌∙◌, arith}
use Rattle.std.proofs.lemmas.Bool.{false≢true}
use Rattle.map_defs.specs.Kind.{beta}
use Rattle.map_defs.specs.Rows.{links_of}
use Rattle.map_defs.specs.Cells.{InCell}
use Rattle.map_defs.specs.Contraction.{IsContractible}
use Rattle.cell_edit.proofs.Premises.{live-dart}
use Rattle.beta_edit.specs.Crossing.{IsCellOf}
use Rattle.beta_edit.proofs.SameCells.{cell-nothing}
use Rattle.beta_edit.proofs.HighEnds.{above-vertex, contraction-can, contraction-ends}
use Rattle.beta_edit.proofs.DrawnEnds.{edge-contraction-can, edge-contraction-ends}
use Rattle.beta_edit.proofs.contraction.contract_plan.Goals as goal

pub can_contract-requires : goal.can_contract-requires
can_contract-requires g c =
    let cell : IsCellOf (links_of c.args.links.now.rows) c.args.dim c.in_ok-darts.darts.items c.args.dart =
    (live-dart beta g.row.DIM c.args.links.now.rows c.see_sound.ensures.sound c.args.dart c.requires.dart, c.in_ok-darts.ensures.members) in
    rw c.deref.ensures.value
    (lit< tt, (c.requires.dim, (c.in_ok-darts.ensures.ascending, (cell-nothing (links_of c.args.links.now.rows) c.args.dim c.args.dart c.in_ok-darts.darts.items cell, c.requires.laws))))

pub returns-then-not-can_contract : goal.returns-then-not-can_contract
returns-then-not-can_contract g c =
    let cell : IsCellOf (links_of c.args.links.now.rows) c.args.dim c.in_ok-darts.darts.items c.args.dart =
    (live-dart beta g.row.DIM c.args.links.now.rows c.see_sound.ensures.sound c.args.dart c.requires.dart, c.in_ok-darts.ensures.members) in
    (refl, λ can. false≢true (sym c.if-not-can_contract.true ∙ ((rw c.deref.ensures.value at c.can_contract.ensures) c.args.dart cell).1 can))

pub drawn_edit-requires : goal.drawn_edit-requires
drawn_edit-requires g c =
    let cell : IsCellOf (links_of c.args.links.now.rows) c.args.dim c.in_ok-darts.darts.items c.args.dart =
    (live-dart beta g.row.DIM c.args.links.now.rows c.see_sound.ensures.sound c.args.dart c.requires.dart, c.in_ok-darts.ensures.members) in
    let can : IsContractible beta (links_of c.args.links.now.rows) c.args.dim c.args.dart = ((rw c.deref.ensures.value at c.can_contract.ensures) c.args.dart cell).0 c.if-not-can_contract.false in
    let members : (x : ℕ) → Contains c.in_ok-darts.darts.items x ↔ InCell beta (links_of c.args.links.now.rows) 1 c.args.dart x = rw c.in-1.is at c.in_ok-darts.ensures.members in
    let can1 : IsContractible beta (links_of c.args.links.now.rows) 1 c.args.dart = rw c.in-1.is at can in
    (lit< tt, (edge-contraction-can g.row.DIM c.args.links.now.rows c.see_sound.ensures.sound c.requires.laws c.args.dart c.requires.dart c.in_ok-darts.darts.items members c.in_ok-darts.ensures.ascending can1, c.requires.laws))

pub returns-in_ok-drawn_edit-in-1 : goal.returns-in_ok-drawn_edit-in-1
returns-in_ok-drawn_edit-in-1 g c =
    let cell : IsCellOf (links_of c.args.links.now.rows) c.args.dim c.in_ok-darts.darts.items c.args.dart =
    (live-dart beta g.row.DIM c.args.links.now.rows c.see_sound.ensures.sound c.args.dart c.requires.dart, c.in_ok-darts.ensures.members) in
    let can : IsContractible beta (links_of c.args.links.now.rows) c.args.dim c.args.dart = ((rw c.deref.ensures.value at c.can_contract.ensures) c.args.dart cell).0 c.if-not-can_contract.false in
    let members : (x : ℕ) → Contains c.in_ok-darts.darts.items x ↔ InCell beta (links_of c.args.links.now.rows) 1 c.args.dart x = rw c.in-1.is at c.in_ok-darts.ensures.members in
    let can1 : IsContractible beta (links_of c.args.links.now.rows) 1 c.args.dart = rw c.in-1.is at can in
    rw c.in-1.is (can1, edge-contraction-ends g.row.DIM c.args.links.now.rows c.see_sound.ensures.sound c.requires.laws c.args.dart c.requires.dart c.in_ok-darts.darts.items members c.in_ok-drawn_edit-in-1.field-0 c.in_ok-drawn_edit-in-1.ensures)

pub link_beside-requires : goal.link_beside-requires
link_beside-requires g c =
    let cell : IsCellOf (links_of c.args.links.now.rows) c.args.dim c.in_ok-darts.darts.items c.args.dart =
    (live-dart beta g.row.DIM c.args.links.now.rows c.see_sound.ensures.sound c.args.dart c.requires.dart, c.in_ok-darts.ensures.members) in
    let can : IsContractible beta (links_of c.args.links.now.rows) c.args.dim c.args.dart = ((rw c.deref.ensures.value at c.can_contract.ensures) c.args.dart cell).0 c.if-not-can_contract.false in
    let some : c.args.dim ≢ 0 = above-vertex (links_of c.args.links.now.rows) c.args.dim c.args.dart can in
    let more : c.args.dim ≢ 1 = omega arith in
    omega (arith, some, more)

pub ending_edit-requires : goal.ending_edit-requires
ending_edit-requires g c =
    let cell : IsCellOf (links_of c.args.links.now.rows) c.args.dim c.in_ok-darts.darts.items c.args.dart =
    (live-dart beta g.row.DIM c.args.links.now.rows c.see_sound.ensures.sound c.args.dart c.requires.dart, c.in_ok-darts.ensures.members) in
    let can : IsContractible beta (links_of c.args.links.now.rows) c.args.dim c.args.dart = ((rw c.deref.ensures.value at c.can_contract.ensures) c.args.dart cell).0 c.if-not-can_contract.false in
    let some : c.args.dim ≢ 0 = above-vertex (links_of c.args.links.now.rows) c.args.dim c.args.dart can in
    let more : c.args.dim ≢ 1 = omega arith in
    rw c.link_beside.ensures (
      lit< tt,
      (
        c.requires.dim,
        (
          contraction-can g.row.DIM c.args.links.now.rows c.args.dart c.in_ok-darts.darts.items c.see_sound.ensures.sound c.requires.laws c.requires.dart c.in_ok-darts.ensures.ascending
              c.args.dim some more c.in_ok-darts.ensures.members can,
          c.requires.laws,
        ),
      ),
    )

pub returns-in_ok-ending_edit-in_default : goal.returns-in_ok-ending_edit-in_default
returns-in_ok-ending_edit-in_default g c =
    let cell : IsCellOf (links_of c.args.links.now.rows) c.args.dim c.in_ok-darts.darts.items c.args.dart =
    (live-dart beta g.row.DIM c.args.links.now.rows c.see_sound.ensures.sound c.args.dart c.requires.dart, c.in_ok-darts.ensures.members) in
    let can : IsContractible beta (links_of c.args.links.now.rows) c.args.dim c.args.dart = ((rw c.deref.ensures.value at c.can_contract.ensures) c.args.dart cell).0 c.if-not-can_contract.false in
    let some : c.args.dim ≢ 0 = above-vertex (links_of c.args.links.now.rows) c.args.dim c.args.dart can in
    let more : c.args.dim ≢ 1 = omega arith in
    (can, contraction-ends g.row.DIM c.args.links.now.rows c.args.dart c.in_ok-darts.darts.items c.in_ok-ending_edit-in_default.field-0 c.args.dim some more c.in_ok-darts.ensures.members (rw c.link_beside.ensures at c.in_ok-ending_edit-in_default.ensures))
