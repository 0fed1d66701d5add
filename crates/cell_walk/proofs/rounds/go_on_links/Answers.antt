use Rattle.std.proofs.Common.{◌∙◌}
use Rattle.map_defs.specs.Rows.{links_of}
use Rattle.map_defs.specs.LinkWords.{one_link}
use Rattle.cell_walk.proofs.CellDarts.{links-nothing}
use Rattle.cell_walk.proofs.OnWays.{on_way-none, on_way-more, on_way-back}
use Rattle.cell_walk.proofs.RoundDarts.{led-on, led-back}
use Rattle.cell_walk.proofs.rounds.go_on_links.Goals as goal

pub loop-middle-init : goal.loop-middle-init
loop-middle-init g c =
    (c.number_at-number.ensures, on_way-none g.K.Kind.kind (links_of c.args.links.now.rows) (one_link c.args.next) (one_link c.args.after) c.args.dart c.args.darts.now.items c.requires.met)

-- the walk has come one step further, to the dart in between
pub returns-in_default-onward : goal.returns-in_default-onward
returns-in_default-onward g c =
    let L = links_of c.args.links.now.rows in
    let led = led-on c.loop-middle.number c.in-Some.middle (L c.args.next c.loop-middle.at) c.loop-middle.invariant.0 c.in-Some.ensures.some.0 c.in-Some.ensures.some.1 in
    let half = on_way-more g.K.Kind.kind L (links-nothing g.K.Kind.kind g.row.DIM c.args.links.now.rows c.see_sound.ensures.sound) c.see_sound.ensures.sound.back
    (one_link c.args.next) (one_link c.args.after) c.args.dart c.args.darts.now.items (one_link c.args.next) (one_link c.args.after) c.loop-middle.at c.in-Some.middle c.loop-middle.darts.items
    led.0 led.1 c.loop-middle.invariant.1 in
    on_way-back g.K.Kind.kind L (one_link c.args.next) (one_link c.args.after) c.args.dart c.args.end c.args.darts.now.items (one_link c.args.after) (one_link c.args.next) c.in-Some.middle c.push.new.self.items
    c.requires.end
    (led-back c.entry.result (L c.args.after c.in-Some.middle) c.in-Some.middle c.args.end (c.entry.ensures ∙ c.live_row.ensures c.args.after) c.in_default-onward.ensures.none)
    (rw c.in_ok-push.ensures.items half)

pub loop-middle-preserved : goal.loop-middle-preserved
loop-middle-preserved g c =
    let L = links_of c.args.links.now.rows in
    let nothing = links-nothing g.K.Kind.kind g.row.DIM c.args.links.now.rows c.see_sound.ensures.sound in
    let led = led-on c.loop-middle.number c.in-Some.middle (L c.args.next c.loop-middle.at) c.loop-middle.invariant.0 c.in-Some.ensures.some.0 c.in-Some.ensures.some.1 in
    let half = on_way-more g.K.Kind.kind L nothing c.see_sound.ensures.sound.back
    (one_link c.args.next) (one_link c.args.after) c.args.dart c.args.darts.now.items (one_link c.args.next) (one_link c.args.after) c.loop-middle.at c.in-Some.middle c.loop-middle.darts.items
    led.0 led.1 c.loop-middle.invariant.1 in
    let then = led-on c.entry.result c.in-Some-onward.reached (L c.args.after c.in-Some.middle) (c.entry.ensures ∙ c.live_row.ensures c.args.after) c.in-Some-onward.ensures.some.0 c.in-Some-onward.ensures.some.1 in
    let whole = on_way-more g.K.Kind.kind L nothing c.see_sound.ensures.sound.back
    (one_link c.args.next) (one_link c.args.after) c.args.dart c.args.darts.now.items (one_link c.args.after) (one_link c.args.next) c.in-Some.middle c.in-Some-onward.reached c.push.new.self.items
    then.0 then.1 (rw c.in_ok-push.ensures.items half) in
    (c.entry-number.ensures ∙ c.live_row-in-Some.ensures c.args.next, rw c.in_ok-push-2.ensures.items whole)

pub returns : goal.returns
returns g c =
    let L = links_of c.args.links.now.rows in
    on_way-back g.K.Kind.kind L (one_link c.args.next) (one_link c.args.after) c.args.dart c.args.end c.args.darts.now.items (one_link c.args.next) (one_link c.args.after) c.loop-middle.at c.loop-middle.darts.items
    c.requires.end
    (led-back c.loop-middle.number (L c.args.next c.loop-middle.at) c.loop-middle.at c.args.end c.loop-middle.invariant.0 c.in_default.ensures.none)
    c.loop-middle.invariant.1
