use Rattle.std.proofs.Common.{◌↔◌, ℕ, List, Contains, subst, lit<, arith}
use Rattle.map_defs.specs.Kind.{alpha}
use Rattle.map_defs.specs.Rows.{Rows, links_of, IsLive}
use Rattle.map_defs.specs.Laws.{Laws}
use Rattle.map_defs.specs.Cells.{NamesCell}
use Rattle.map_calls.proofs.calls.load_edit.Goals as goal

pub load-requires : goal.load-requires
load-requires g c =
    let least : List ℕ = c.in_ok-vertices.vertices.items in
    let laws = subst (λ (r : Rows). Laws alpha (links_of r)) c.in_ok-edit.ensures.rows c.in_ok-edit.ensures.laws in
    let members = subst (λ (r : Rows). (d : ℕ) → Contains least d ↔ (IsLive r d × NamesCell alpha (links_of r) 0 d)) c.in_ok-edit.ensures.rows c.in_ok-vertices.ensures.members in
    rw (c.deref-2.ensures.value, c.in_ok-places.ensures, c.deref.ensures.value) (
      lit< tt,
      (c.requires, (c.in_ok-edit.ensures.fits, (omega (arith, c.in_ok-edit.ensures.few), (laws, (members, c.in_ok-vertices.ensures.ascending))))),
    )
