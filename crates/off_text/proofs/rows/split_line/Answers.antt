use Rattle.std.proofs.Common.{◌≡◌, ◌+◌, ◌≤◌, [], ◌∷◌, length, take, drop, ap, ap₂, ◌∙◌, arith}
use Rattle.std.proofs.lemmas.List.{take_rest, take_all, drop_all}
use Rattle.map_defs.specs.Off.{lines_of}
use Rattle.off_text.proofs.Cuts.{lines_of-first}
use Rattle.off_text.proofs.rows.split_line.Goals as goal

pub returns-then-end-text-clause-lines : goal.returns-then-end-text-clause-lines
returns-then-end-text-clause-lines c =
    let text = c.args.text.now in
    let end = c.line_end-end.result in
    rw (take_rest text (end + 1), c.line_end-end.ensures.place) (lines_of-first text c.requires)

pub returns-else-end-text-clause-lines : goal.returns-else-end-text-clause-lines
returns-else-end-text-clause-lines c =
    let text = c.args.text.now in
    let end = c.line_end-end.result in
    let past : length text ≤ end = c.if-end-text.false in
    let whole : take end text ≡ text = take_all end text past in
    let none : drop end text ≡ [] = drop_all end text past in
    let none_more : drop (end + 1) text ≡ [] = drop_all (end + 1) text (omega arith) in
    let first : lines_of text ≡ take end text ∷ lines_of (drop (end + 1) text) = rw c.line_end-end.ensures.place (lines_of-first text c.requires) in
    rw (take_rest text end, none) (first ∙ ap₂ ◌∷◌ whole (ap lines_of none_more))
