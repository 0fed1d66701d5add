use Rattle.std.proofs.Common.{◌≡◌, ℕ, ◌++◌, ◌∷◌, [], List, codes, w64, append_assoc}
use Rattle.std.proofs.lemmas.Int.{to_z-of_z}
use Rattle.machine_defs.specs.Text.{spaced_signed}
use Rattle.text_lines.proofs.AppendFacts.{AppendsFront-nothing, AppendsFront-then, AppendsFront-cut, Appends-at_err}
use Rattle.script_text.proofs.reply.append_numbers.Goals as goal

-- the pieces of the reply, one behind another
joined : (before word a b c : List ℕ) → ((((before ++ word) ++ a) ++ b) ++ c) ++ 10 ∷ [] ≡ before ++ ((word ++ a ++ b ++ c) ++ 10 ∷ [])
joined before word a b c = simp append_assoc

pub returns : goal.returns
returns c =
    rw (
      c.in_ok-push.ensures.items,
      c.in_ok-append_spaced-3.ensures,
      c.in_ok-append_spaced-2.ensures,
      c.in_ok-append_spaced.ensures,
      c.in_ok-extend_from_slice.ensures.items,
      to_z-of_z w64 c.args.a c.ranges.a,
      to_z-of_z w64 c.args.b c.ranges.b,
      to_z-of_z w64 c.args.c c.ranges.c,
    )
    (joined c.args.text.now.items (codes "value") (spaced_signed c.args.a) (spaced_signed c.args.b) (spaced_signed c.args.c))

pub returns-in_err-append_spaced : goal.returns-in_err-append_spaced
returns-in_err-append_spaced c =
    simp append_assoc (Appends-at_err _ _ c.from_residual-in_err-append_spaced.ensures.1
    (AppendsFront-then _ c.in_ok-extend_from_slice.ensures.items
    (AppendsFront-cut _ (rw (to_z-of_z w64 c.args.a c.ranges.a) at c.in_err-append_spaced.ensures))))

pub returns-in_err-append_spaced-2 : goal.returns-in_err-append_spaced-2
returns-in_err-append_spaced-2 c =
    simp append_assoc (Appends-at_err _ _ c.from_residual-in_err-append_spaced-2.ensures.1
    (AppendsFront-then _ c.in_ok-extend_from_slice.ensures.items
    (AppendsFront-then _ (rw (to_z-of_z w64 c.args.a c.ranges.a) at c.in_ok-append_spaced.ensures)
    (AppendsFront-cut _ (rw (to_z-of_z w64 c.args.b c.ranges.b) at c.in_err-append_spaced-2.ensures)))))

pub returns-in_err-append_spaced-3 : goal.returns-in_err-append_spaced-3
returns-in_err-append_spaced-3 c =
    simp append_assoc (Appends-at_err _ _ c.from_residual-in_err-append_spaced-3.ensures.1
    (AppendsFront-then _ c.in_ok-extend_from_slice.ensures.items
    (AppendsFront-then _ (rw (to_z-of_z w64 c.args.a c.ranges.a) at c.in_ok-append_spaced.ensures)
    (AppendsFront-then _ (rw (to_z-of_z w64 c.args.b c.ranges.b) at c.in_ok-append_spaced-2.ensures)
    (AppendsFront-cut _ (rw (to_z-of_z w64 c.args.c c.ranges.c) at c.in_err-append_spaced-3.ensures))))))

pub returns-in_err-push : goal.returns-in_err-push
returns-in_err-push c =
    simp append_assoc (Appends-at_err _ _ c.from_residual-in_err-push.ensures.1
    (AppendsFront-then _ c.in_ok-extend_from_slice.ensures.items
    (AppendsFront-then _ (rw (to_z-of_z w64 c.args.a c.ranges.a) at c.in_ok-append_spaced.ensures)
    (AppendsFront-then _ (rw (to_z-of_z w64 c.args.b c.ranges.b) at c.in_ok-append_spaced-2.ensures)
    (AppendsFront-then _ (rw (to_z-of_z w64 c.args.c c.ranges.c) at c.in_ok-append_spaced-3.ensures)
    (AppendsFront-nothing _ c.in_err-push.ensures.items))))))
