use Rattle.std.proofs.Common.{refl}
use Rattle.list_text.proofs.LiveRows.{live_row-links}
use Rattle.list_text.proofs.rows.list_row.Goals as goal

pub returns : goal.returns
returns g c =
    let row = live_row-links g.row.DIM c.args.links.now.rows c.args.dart c.is_live.ensures.sound.wide (c.if-not-is_live.ensures.live.0 refl) in
    rw (c.in_ok-push.ensures.items, c.in_ok-links.ensures, ← row) refl
