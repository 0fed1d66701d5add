use Rattle.std.proofs.Common.{◌≡◌, ℕ, List, ◌++◌, ◌∷◌, w64, append_assoc}
use Rattle.std.specs.Fmt.{signed_decimal}
use Rattle.std.proofs.lemmas.Int.{to_z-of_z}
use Rattle.machine_defs.specs.Text.{spaced_signed}
use Rattle.text_lines.proofs.AppendFacts.{AppendsFront-then, AppendsFront-cut, Appends-at_err}
use Rattle.script_text.proofs.log_line.append_triple.Goals as goal

-- the pieces of the text, one behind another
joined : (before a b c : List ℕ) → ((before ++ a) ++ b) ++ c ≡ before ++ (a ++ b ++ c)
joined before a b c = simp append_assoc

pub returns : goal.returns
returns c =
    rw (
      c.in_ok-append_further-2.ensures,
      c.in_ok-append_further.ensures,
      c.in_ok-append_spaced.ensures,
      to_z-of_z w64 c.args.a c.ranges.a,
      to_z-of_z w64 c.args.b c.ranges.b,
      to_z-of_z w64 c.args.c c.ranges.c,
    )
    (joined c.args.text.now.items (spaced_signed c.args.a) (44 ∷ signed_decimal c.args.b) (44 ∷ signed_decimal c.args.c))

pub returns-in_err-append_spaced : goal.returns-in_err-append_spaced
returns-in_err-append_spaced c =
    simp append_assoc (Appends-at_err _ _ c.from_residual.ensures.1
    (AppendsFront-cut _ (rw (to_z-of_z w64 c.args.a c.ranges.a) at c.in_err-append_spaced.ensures)))

pub returns-in_err-append_further : goal.returns-in_err-append_further
returns-in_err-append_further c =
    simp append_assoc (Appends-at_err _ _ c.from_residual-in_err-append_further.ensures.1
    (AppendsFront-then _ (rw (to_z-of_z w64 c.args.a c.ranges.a) at c.in_ok-append_spaced.ensures)
    (AppendsFront-cut _ (rw (to_z-of_z w64 c.args.b c.ranges.b) at c.in_err-append_further.ensures))))

pub returns-in_err-append_further-2 : goal.returns-in_err-append_further-2
returns-in_err-append_further-2 c =
    simp append_assoc (Appends-at_err _ _ c.from_residual-in_err-append_further-2.ensures.1
    (AppendsFront-then _ (rw (to_z-of_z w64 c.args.a c.ranges.a) at c.in_ok-append_spaced.ensures)
    (AppendsFront-then _ (rw (to_z-of_z w64 c.args.b c.ranges.b) at c.in_ok-append_further.ensures)
    (rw (to_z-of_z w64 c.args.c c.ranges.c) at c.in_err-append_further-2.ensures))))
