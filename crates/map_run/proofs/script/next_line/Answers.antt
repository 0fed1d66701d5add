use Rattle.std.proofs.Common.{ℕ, ◌+◌, List, ◌∷◌, take, sym, ap, ◌∙◌}
use Rattle.std.proofs.lemmas.List.{take_rest}
use Rattle.machine_defs.specs.Script.{lines_of}
use Rattle.map_run.proofs.FirstLines.{split_at, split_none}
use Rattle.map_run.proofs.script.next_line.Goals as goal

pub returns-in-Some-clause-lines : goal.returns-in-Some-clause-lines
returns-in-Some-clause-lines c =
    split_at c.args.text.now c.in-Some.end (sym c.in-Some.ensures.place)
    ∙ ap (λ (rest : List ℕ). take c.in-Some.end c.args.text.now ∷ lines_of rest) (sym (take_rest c.args.text.now (c.in-Some.end + 1)))

pub returns-in-None-clause-lines : goal.returns-in-None-clause-lines
returns-in-None-clause-lines c = split_none c.args.text.now (sym c.in-None.ensures.place)
