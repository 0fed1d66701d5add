use Rattle.std.proofs.Common.{◌≡◌, ◌≤◌, true, false, length, get_or, sym, refl, ◌<◌, ◌∙◌, arith}
use Rattle.std.proofs.lemmas.List.{get_or_past, get_or_read}
use Rattle.dart_arena.proofs.KeyLemmas.{keys-at}
use Rattle.dart_arena.proofs.places.key_in_order.Goals as goal
use Rattle.dart_arena.proofs.places.key_in_order.Goals.{else-place-len-via-then-place-len+else-index, else-place-len-via-else-place-len}

pub returns-then-index : goal.returns-then-index
returns-then-index c =
    let within : c.args.place < length c.args.live.now.items = omega (arith, c.args.live.now.ok.0, c.len.ensures) in
    let lives : get_or c.args.live.now.items c.args.place false ≡ true = sym (get_or_read c.args.live.now.items c.args.place c.index.result.now within c.index.ensures false) ∙ c.if-index.true in
    rw (keys-at 0 c.args.live.now.items c.args.place, lives) (omega arith)

pub returns-else-place-len : goal.returns-else-place-len
returns-else-place-len c = elim c.else-place-len.branch [
  | else-place-len-via-then-place-len+else-index w ↦
      let within : c.args.place < length c.args.live.now.items = omega (arith, c.args.live.now.ok.0, c.len.ensures, w.if-place-len.true) in
      let dead : get_or c.args.live.now.items c.args.place false ≡ false = sym (get_or_read c.args.live.now.items c.args.place w.index.result.now within w.index.ensures false) ∙ w.if-index.false in
      rw (keys-at 0 c.args.live.now.items c.args.place, dead) refl
  | else-place-len-via-else-place-len w ↦
      let past : length c.args.live.now.items ≤ c.args.place = omega (arith, c.args.live.now.ok.0, c.len.ensures, w.if-place-len.false) in
      rw (keys-at 0 c.args.live.now.items c.args.place, get_or_past c.args.live.now.items c.args.place false past) refl
]
