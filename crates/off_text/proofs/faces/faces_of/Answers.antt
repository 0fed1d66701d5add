use Rattle.std.proofs.Common.{[], ◌<◌, All, length, map, slice_index, sym, subst, arith}
use Rattle.off_text.proofs.RoundLists.{faces-more}
use Rattle.off_text.proofs.faces.faces_of.Goals as goal

pub face_of-requires : goal.face_of-requires
face_of-requires c =
    subst (All (λ d. d < length c.args.places.now)) (sym c.list.ensures) (c.requires c.loop-face.face [] (omega (arith, c.len-face-end.ensures, c.loop-face-test.true)))

pub loop-face-preserved : goal.loop-face-preserved
loop-face-preserved c =
    faces-more (map (slice_index c.args.places.now)) c.args.rounds.now c.loop-face.face c.list.result.now c.loop-face.faces.items c.push.new.self.items c.in_ok-face_of.field-0
    (omega (arith, c.len-face-end.ensures, c.loop-face-test.true)) c.list.ensures c.in_ok-push.ensures.items c.in_ok-face_of.ensures c.loop-face.invariant
