use Rattle.std.proofs.Common.{ℕ, ◌≢◌, List, Contains, lit<, sym, ◌∙◌, arith}
use Rattle.std.proofs.lemmas.Bool.{false≢true}
use Rattle.std.specs.Prelude.{All}
use Rattle.map_defs.specs.Kind.{alpha}
use Rattle.map_defs.specs.Rows.{links_of, IsLive}
use Rattle.map_defs.specs.Insertion.{AlphaEdgeDarts, AlphaEdgePairs}
use Rattle.sewing.specs.Triples.{Lists, Triple}
use Rattle.cell_edit.proofs.Premises.{inserts-same, live-dart, all-live}
use Rattle.alpha_edit.proofs.EdgePlan.{corner-members, corners-live, edge-insertable, edge-pairs-of}
use Rattle.alpha_edit.proofs.edge.edge_plan.Goals as goal

pub insertion_edit-requires : goal.insertion_edit-requires
insertion_edit-requires g c =
    let rows = c.args.links.now.rows in
    let sound = c.see_sound.ensures.sound in
    let keys : List ℕ = c.in_ok-darts-in-Ok.darts.items in
    let pairs : List Triple = c.in-Ok.pairs.items in
    let one : c.args.one ≢ 0 = live-dart alpha g.row.DIM rows sound c.args.one c.requires.one in
    let other : c.args.other ≢ 0 = live-dart alpha g.row.DIM rows sound c.args.other c.requires.other in
    let members = corner-members (links_of rows) c.args.one c.args.other one other c.in-Ok.ensures.paired keys pairs c.in-Ok.ensures.members (rw c.deref.ensures.value at c.in_ok-darts-in-Ok.ensures.members) in
    let live : All (λ (d : ℕ). IsLive rows d) keys = all-live rows (AlphaEdgeDarts (links_of rows) c.args.one c.args.other) keys members (corners-live g.row.DIM rows sound c.args.one c.args.other c.requires.one c.requires.other) in
    rw c.deref-in-Ok.ensures.value (
      lit< tt,
      (
        omega (arith, c.see_sound.ensures.low),
        (
          c.in_ok-darts-in-Ok.ensures.ascending,
          (
            live,
            (
              c.in-Ok.ensures.ascending,
              (
                edge-pairs-of (links_of rows) c.args.one c.args.other one other c.in-Ok.ensures.paired keys members pairs c.in-Ok.ensures.members,
                (edge-insertable (links_of rows) c.args.one c.args.other one other c.in-Ok.ensures.paired keys members pairs c.in-Ok.ensures.members, c.requires.laws),
              ),
            ),
          ),
        ),
      ),
    )

pub returns-in_ok-insertion_edit-in-Ok : goal.returns-in_ok-insertion_edit-in-Ok
returns-in_ok-insertion_edit-in-Ok g c =
    let rows = c.args.links.now.rows in
    let one : c.args.one ≢ 0 = live-dart alpha g.row.DIM rows c.see_sound.ensures.sound c.args.one c.requires.one in
    let other : c.args.other ≢ 0 = live-dart alpha g.row.DIM rows c.see_sound.ensures.sound c.args.other c.requires.other in
    let members = corner-members (links_of rows) c.args.one c.args.other one other c.in-Ok.ensures.paired c.in_ok-darts-in-Ok.darts.items c.in-Ok.pairs.items c.in-Ok.ensures.members (rw c.deref.ensures.value at c.in_ok-darts-in-Ok.ensures.members) in (
      c.in_ok-are_on_one_side.ensures.0 c.if-not-branch.false,
      λ same. false≢true (sym c.if-branch.false ∙ c.in_ok-are_in_one_alpha_corner.ensures.1 same),
      c.in-Ok.ensures.paired,
      inserts-same g.row.DIM rows (AlphaEdgeDarts (links_of rows) c.args.one c.args.other) (Contains c.in_ok-darts-in-Ok.darts.items) alpha 1
          (AlphaEdgePairs (links_of rows) c.args.one c.args.other) (Lists c.in-Ok.pairs.items) c.in_ok-insertion_edit-in-Ok.field-0 members c.in-Ok.ensures.members
          (rw c.deref-in-Ok.ensures.value at c.in_ok-insertion_edit-in-Ok.ensures),
    )
