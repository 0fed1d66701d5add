use Rattle.std.proofs.Common.{ℕ, subst, lit<}
use Rattle.map_defs.specs.Rows.{Rows}
use Rattle.map_core.specs.Made.{IsMadeOf}
use Rattle.map_run.proofs.MeshFacts.{made-mesh}
use Rattle.map_run.proofs.mesh.load_mesh.Goals as goal

pub load_links-requires : goal.load_links-requires
load_links-requires g c =
    let m = c.in_ok-built.ensures.built.3 in
    let rows = c.in_ok-built.ensures.built.4 in
    let cells = rw rows at c.in_ok-built.ensures.cells in
    rw (c.deref.ensures.value, rows) (lit< tt, (lit< tt, (c.requires.new, (m.laws, (m.located.members, (m.located.ascending, cells))))))

pub returns-in-Ok-clause-loaded : goal.returns-in-Ok-clause-loaded
returns-in-Ok-clause-loaded g c =
    let n : ℕ = g.row.DIM in
    let built = c.in_ok-built.ensures.built in
    let made = rw c.deref.ensures.value at c.in-Ok.ensures.loaded in
    record {
      mesh = built.0;
      read = built.1.0;
      sound = built.1.1;
      content = made.0;
      is = made-mesh g.K.Kind.kind n c.requires.low built.0 built.2 c.in_ok-built.built.places.items built.3 made.0
          (subst (λ (rows : Rows). IsMadeOf g.K.Kind.kind n rows c.in_ok-built.built.places.items made.0) built.4 made.1);
      begun = made.2;
    }
