use Rattle.trail_laws.specs.Told.{told}
use Rattle.map_core.proofs.MeshSteps.{off-answered}
use Rattle.map_core.proofs.map.Map.off_rows.Goals as goal

pub returns : goal.returns
returns g c =
    rw (← c.self.view_is)
    (off-answered (g.H.Hook.hook c.self.inside.hook.now) (told c.self.inside.present.content c.self.inside.journal.trail) c.off_rows.result c.off_rows.ensures.rows c.off_rows.ensures.answered c.off_rows.ensures.refused)
