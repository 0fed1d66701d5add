use Rattle.std.proofs.Common.{lit<, refl, sym, ◌∙◌}
use Rattle.std.proofs.lemmas.Bool.{false≢true}
use Rattle.map_defs.specs.Kind.{alpha}
use Rattle.map_defs.specs.Rows.{links_of}
use Rattle.map_defs.specs.Cells.{here}
use Rattle.map_defs.specs.Contraction.{IsContractible}
use Rattle.alpha_edit.proofs.CellPlans.{some-listed, contractible-tells, contracted-ends, above-vertex, contraction-can}
use Rattle.alpha_edit.proofs.contraction.contract_plan.Goals as goal

pub can_contract-requires : goal.can_contract-requires
can_contract-requires g c = rw c.deref.ensures.value (lit< tt, some-listed c.in_ok-darts.darts.items c.args.dart ((c.in_ok-darts.ensures.members c.args.dart).1 here))

pub ending_edit-requires : goal.ending_edit-requires
ending_edit-requires g c =
    let can : IsContractible alpha (links_of c.args.links.now.rows) c.args.dim c.args.dart =
    (contractible-tells (links_of c.args.links.now.rows) c.args.dart c.in_ok-darts.darts.items c.args.dim c.can_contract.result c.in_ok-darts.ensures.members (rw c.deref.ensures.value at c.can_contract.ensures.meets)).0 c.if-not-can_contract.false in (
      lit< tt,
      (
        c.requires.dim,
        (
          contraction-can g.row.DIM c.args.links.now.rows c.see_sound.ensures.sound c.requires.laws c.args.dim c.args.dart c.requires.dart c.in_ok-darts.darts.items
              c.in_ok-darts.ensures.members c.in_ok-darts.ensures.ascending can,
          c.requires.laws,
        ),
      ),
    )

pub returns : goal.returns
returns g c =
    let can : IsContractible alpha (links_of c.args.links.now.rows) c.args.dim c.args.dart =
    (contractible-tells (links_of c.args.links.now.rows) c.args.dart c.in_ok-darts.darts.items c.args.dim c.can_contract.result c.in_ok-darts.ensures.members (rw c.deref.ensures.value at c.can_contract.ensures.meets)).0 c.if-not-can_contract.false in (
      can,
      contracted-ends g.row.DIM c.args.links.now.rows c.args.dart c.in_ok-darts.darts.items c.in_ok-ending_edit.field-0 c.args.dim (above-vertex (links_of c.args.links.now.rows) c.args.dim c.args.dart can)
          c.in_ok-darts.ensures.members c.in_ok-ending_edit.ensures,
    )

pub returns-then-not-can_contract : goal.returns-then-not-can_contract
returns-then-not-can_contract g c =
    let tells = contractible-tells (links_of c.args.links.now.rows) c.args.dart c.in_ok-darts.darts.items c.args.dim c.can_contract.result c.in_ok-darts.ensures.members (rw c.deref.ensures.value at c.can_contract.ensures.meets) in
    (refl, λ can. false≢true (sym c.if-not-can_contract.true ∙ tells.1 can))
