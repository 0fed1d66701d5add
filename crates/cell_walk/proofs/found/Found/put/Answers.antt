use Rattle.cell_walk.proofs.FoundDarts.{put-once}
use Rattle.cell_walk.proofs.found.Found.put.Goals as goal

pub invariant_of-self : goal.invariant_of-self
invariant_of-self g c =
    put-once (g.S.Seen.tells c.self.inside.seen) (g.S.Seen.tells c.put.new.self) c.self.inside.darts.items c.put.new.found.items c.args.dart c.put.result
    (λ known. c.requires (rw c.self.view_is at known)) c.put.ensures.put c.put.ensures.kept c.put.ensures.told c.self.invariant
