use Rattle.std.proofs.Common.{ℕ, ◌≢◌, List, Contains, lit<, refl, ap, Err, inr}
use Rattle.std.specs.Prelude.{All}
use Rattle.map_defs.specs.Rows.{links_of, IsLive}
use Rattle.map_defs.specs.Insertion.{FaceDarts, FacePairs, IsClosedPath}
use Rattle.sewing.specs.Triples.{Lists, Triple}
use Rattle.cell_edit.proofs.Premises.{inserts-same, all-live}
use Rattle.cell_edit.proofs.PathSides.{closed-volume}
use Rattle.cell_edit.proofs.FacePlan.{path-darts, face-live, face-insertable, face-pairs-of}
use Rattle.cell_edit.proofs.face.face_plan.Goals as goal

pub insertion_edit-requires : goal.insertion_edit-requires
insertion_edit-requires g c =
    let rows = c.args.links.now.rows in
    let sound = c.see_sound.ensures.sound in
    let keys : List ℕ = c.in_ok-darts-in-Ok.darts.items in
    let pairs : List Triple = c.in-Ok.pairs.items in
    let members = c.in_ok-darts-in-Ok.ensures.members in
    let closed : IsClosedPath g.K.Kind.kind (links_of c.args.links.now.rows) c.args.path.now = c.in_ok-is_closed.ensures.0 c.if-not-branch.false in
    let darts : (b : ℕ) → Contains c.args.path.now b → b ≢ 0 = path-darts g.K.Kind.kind g.row.DIM rows sound c.args.path.now c.requires.live in
    let live : All (λ (d : ℕ). IsLive rows d) keys = all-live rows (FaceDarts g.K.Kind.kind (links_of rows) c.args.path.now) keys members (face-live g.K.Kind.kind g.row.DIM rows sound c.args.path.now c.requires.live) in
    rw c.deref.ensures.value (
      lit< tt,
      (
        c.requires.dim,
        (
          c.in_ok-darts-in-Ok.ensures.ascending,
          (
            live,
            (
              c.in-Ok.ensures.ascending,
              (
                face-pairs-of g.K.Kind.kind (links_of rows) c.requires.laws c.args.path.now darts closed c.in-Ok.ensures.paired.good keys members pairs c.in-Ok.ensures.members,
                (face-insertable g.K.Kind.kind (links_of rows) c.requires.laws c.args.path.now darts closed c.in-Ok.ensures.paired.good keys members pairs c.in-Ok.ensures.members, c.requires.laws),
              ),
            ),
          ),
        ),
      ),
    )

pub returns-in_ok-insertion_edit-in-Ok : goal.returns-in_ok-insertion_edit-in-Ok
returns-in_ok-insertion_edit-in-Ok g c =
    let rows = c.args.links.now.rows in
    let closed : IsClosedPath g.K.Kind.kind (links_of rows) c.args.path.now = c.in_ok-is_closed.ensures.0 c.if-not-branch.false in (
      closed-volume g.K.Kind.kind (links_of rows) c.requires.laws c.args.path.now (path-darts g.K.Kind.kind g.row.DIM rows c.see_sound.ensures.sound c.args.path.now c.requires.live) closed,
      closed,
      c.in-Ok.ensures.paired,
      inserts-same g.row.DIM rows (FaceDarts g.K.Kind.kind (links_of rows) c.args.path.now) (Contains c.in_ok-darts-in-Ok.darts.items) g.K.Kind.kind 2
          (FacePairs g.K.Kind.kind (links_of rows) c.args.path.now) (Lists c.in-Ok.pairs.items) c.in_ok-insertion_edit-in-Ok.field-0 c.in_ok-darts-in-Ok.ensures.members c.in-Ok.ensures.members
          (rw c.deref.ensures.value at c.in_ok-insertion_edit-in-Ok.ensures),
    )

pub returns-in-Err-Unpaired : goal.returns-in-Err-Unpaired
returns-in-Err-Unpaired g c =
    let rows = c.args.links.now.rows in
    let closed : IsClosedPath g.K.Kind.kind (links_of rows) c.args.path.now = c.in_ok-is_closed.ensures.0 c.if-not-branch.false in
    inr (inr (
      refl,
      closed-volume g.K.Kind.kind (links_of rows) c.requires.laws c.args.path.now (path-darts g.K.Kind.kind g.row.DIM rows c.see_sound.ensures.sound c.args.path.now c.requires.live) closed,
      closed,
      c.in-Err-Unpaired.ensures.unpaired (ap Err c.in-Err-Unpaired.field-0-is),
    ))
