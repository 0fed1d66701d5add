use Rattle.map_io.proofs.Handed.{put-kept, put-handed, Appended-after}
use Rattle.map_io.proofs.writer_sink.WriterSinkSink.put.Goals as goal

pub returns-then-piece-len-clause-appended :
    goal.returns-then-piece-len-clause-appended
returns-then-piece-len-clause-appended g c =
    rw c.keep.ensures.writer (put-kept _ _ _ _ _ c.keep.ensures.ok c.keep.ensures.err)

pub returns-clause-appended : goal.returns-clause-appended
returns-clause-appended g c =
    let put = put-handed _ _ _ _ _ _ c.in_ok-hand_on_kept.ensures.ok.0 c.hand_on_now.ensures.taken c.hand_on_now.ensures.err in
    (put.0, Appended-after _ _ _ _ c.in_ok-hand_on_kept.ensures.text (rw c.hand_on_now.ensures.kept put.1), put.2)
