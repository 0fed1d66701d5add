use Rattle.std.proofs.Common.{arith}
use Rattle.std.proofs.lemmas.List.{drop-set, drop_all}
use Rattle.script_text.proofs.done_line.write_done.Goals as goal

pub write_numbers-numbers-requires : goal.write_numbers-numbers-requires
write_numbers-numbers-requires c =
    let line = c.args.line.now in
    rw (drop-set line 24 10 (omega arith), drop_all 25 line (omega arith))
