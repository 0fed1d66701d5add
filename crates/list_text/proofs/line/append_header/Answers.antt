use Rattle.std.proofs.Common.{[], ◌∷◌, codes, append_assoc}
use Rattle.machine_defs.specs.Text.{spaced}
use Rattle.text_lines.proofs.AppendFacts.{AppendsFront-nothing, AppendsFront-then, AppendsFront-cut, Appends-at_err}
use Rattle.list_text.proofs.Gathered.{six}
use Rattle.list_text.proofs.line.append_header.Goals as goal

pub returns-in_err-append_spaced : goal.returns-in_err-append_spaced
returns-in_err-append_spaced c =
    simp append_assoc (Appends-at_err _ _ c.from_residual-in_err-append_spaced.ensures.1
    (AppendsFront-then _ c.in_ok-extend_from_slice.ensures.items
    (AppendsFront-then _ c.in_ok-push.ensures.items
    (AppendsFront-cut _ c.in_err-append_spaced.ensures))))

pub returns-in_err-append_spaced-2 : goal.returns-in_err-append_spaced-2
returns-in_err-append_spaced-2 c =
    simp append_assoc (Appends-at_err _ _ c.from_residual-in_err-append_spaced-2.ensures.1
    (AppendsFront-then _ c.in_ok-extend_from_slice.ensures.items
    (AppendsFront-then _ c.in_ok-push.ensures.items
    (AppendsFront-then _ c.in_ok-append_spaced.ensures
    (AppendsFront-cut _ c.in_err-append_spaced-2.ensures)))))

pub returns-in_err-append_spaced-3 : goal.returns-in_err-append_spaced-3
returns-in_err-append_spaced-3 c =
    simp append_assoc (Appends-at_err _ _ c.from_residual-in_err-append_spaced-3.ensures.1
    (AppendsFront-then _ c.in_ok-extend_from_slice.ensures.items
    (AppendsFront-then _ c.in_ok-push.ensures.items
    (AppendsFront-then _ c.in_ok-append_spaced.ensures
    (AppendsFront-then _ c.in_ok-append_spaced-2.ensures
    (AppendsFront-cut _ c.in_err-append_spaced-3.ensures))))))

pub returns-in_err-push-2 : goal.returns-in_err-push-2
returns-in_err-push-2 c =
    simp append_assoc (Appends-at_err _ _ c.from_residual-in_err-push-2.ensures.1
    (AppendsFront-then _ c.in_ok-extend_from_slice.ensures.items
    (AppendsFront-then _ c.in_ok-push.ensures.items
    (AppendsFront-then _ c.in_ok-append_spaced.ensures
    (AppendsFront-then _ c.in_ok-append_spaced-2.ensures
    (AppendsFront-then _ c.in_ok-append_spaced-3.ensures
    (AppendsFront-nothing _ c.in_err-push-2.ensures.items)))))))

pub returns : goal.returns
returns c =
    rw (c.in_ok-push-2.ensures.items, c.in_ok-append_spaced-3.ensures, c.in_ok-append_spaced-2.ensures, c.in_ok-append_spaced.ensures, c.in_ok-push.ensures.items, c.in_ok-extend_from_slice.ensures.items)
    (six c.args.text.now.items (codes "cellmap 2 ") (c.args.letter ∷ []) (spaced c.args.dim) (spaced c.args.made) (spaced c.args.live) (10 ∷ []))
