use Rattle.std.proofs.Common.{◌≤◌, ◌<◌, length, arith, rules}
use Rattle.cell_walk.proofs.SeenDarts.{put-first, put-rest, kept-rest}
use Rattle.cell_walk.proofs.seen.FewSeen.put.Goals as goal
use Rattle.cell_walk.proofs.seen.FewSeen.put.Goals.{then-len-ge-FEW+in_ok-insert, else-len-ge-FEW}

pub returns-in_err-make_room-clause-told : goal.returns-in_err-make_room-clause-told
returns-in_err-make_room-clause-told c = rw c.make_room.ensures.items c.requires

pub returns-in_err-insert-clause-told : goal.returns-in_err-insert-clause-told
returns-in_err-insert-clause-told c =
    rw c.make_room.ensures.items (kept-rest c.args.self.now.more.keys c.insert.new.self.keys c.args.found.now.items (search rules) c.requires)

pub returns-clause-told : goal.returns-clause-told
returns-clause-told c = rw (c.push_reserved.ensures.items, c.make_room.ensures.items) (elim c.if-len-ge-FEW.branch [
  | then-len-ge-FEW+in_ok-insert w ↦
      let held : 16 ≤ length c.make_room.new.darts.items = omega (arith, c.len.ensures, c.make_room.new.darts.ok.0, w.if-len-ge-FEW.true) in
      let many : 16 ≤ length c.args.found.now.items = rw c.make_room.ensures.items at held in
      rw w.self-is (put-rest c.args.found.now.items c.args.self.now.more w.insert.new.self c.args.dart many w.in_ok-insert.ensures.updates c.requires)
  | else-len-ge-FEW w ↦
      let held : length c.make_room.new.darts.items < 16 = omega (arith, c.len.ensures, c.make_room.new.darts.ok.0, w.if-len-ge-FEW.false) in
      let few : length c.args.found.now.items < 16 = rw c.make_room.ensures.items at held in
      rw w.self-is (put-first c.args.self.now.more.keys c.args.found.now.items c.args.dart few c.requires)
])
