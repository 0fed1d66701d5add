use Rattle.std.proofs.Common.{lit<, refl, sym, ◌∙◌}
use Rattle.std.proofs.lemmas.Bool.{false≢true}
use Rattle.map_defs.specs.Kind.{alpha}
use Rattle.map_defs.specs.Rows.{links_of}
use Rattle.map_defs.specs.Removal.{IsRemovable}
use Rattle.alpha_edit.proofs.CellEnds.{removal-ends}
use Rattle.alpha_edit.proofs.CellPlans.{removable-tells, removed-ends}
use Rattle.alpha_edit.proofs.removal.remove_plan.Goals as goal

pub ending_edit-requires : goal.ending_edit-requires
ending_edit-requires g c =
    let can : IsRemovable alpha (links_of c.args.links.now.rows) c.args.dim c.args.dart =
    (removable-tells (links_of c.args.links.now.rows) c.args.dart c.in_ok-darts.darts.items c.args.dim c.are_commuting.result c.in_ok-darts.ensures.members (rw c.deref.ensures.value at c.are_commuting.ensures)).0 c.if-not-are_commuting.false in (
      lit< tt,
      (
        c.requires.dim,
        (
          removal-ends g.row.DIM c.args.links.now.rows c.see_sound.ensures.sound c.requires.laws c.args.dim c.args.dart c.requires.dart c.in_ok-darts.darts.items
              c.in_ok-darts.ensures.members c.in_ok-darts.ensures.ascending can,
          c.requires.laws,
        ),
      ),
    )

pub returns : goal.returns
returns g c = (
  (removable-tells (links_of c.args.links.now.rows) c.args.dart c.in_ok-darts.darts.items c.args.dim c.are_commuting.result c.in_ok-darts.ensures.members (rw c.deref.ensures.value at c.are_commuting.ensures)).0 c.if-not-are_commuting.false,
  removed-ends g.row.DIM c.args.links.now.rows c.args.dart c.in_ok-darts.darts.items c.in_ok-ending_edit.field-0 c.args.dim c.in_ok-darts.ensures.members c.in_ok-ending_edit.ensures,
)

pub returns-then-not-are_commuting : goal.returns-then-not-are_commuting
returns-then-not-are_commuting g c =
    let tells = removable-tells (links_of c.args.links.now.rows) c.args.dart c.in_ok-darts.darts.items c.args.dim c.are_commuting.result c.in_ok-darts.ensures.members (rw c.deref.ensures.value at c.are_commuting.ensures) in
    (refl, λ can. false≢true (sym c.if-not-are_commuting.true ∙ tells.1 can))
