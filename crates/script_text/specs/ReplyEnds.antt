-- The text of a reply ends with a line feed.
use Rattle.std.specs.Prelude.{ℕ, ◌==◌, Bool, true, false, cond, List, ◌∷◌, ◌++◌, Option, Some, None, codes, refl}
use Rattle.std.proofs.Common.{inr}
use Rattle.std.specs.List.{flat_map}
use Rattle.map_defs.specs.Values.{Value}
use Rattle.map_defs.specs.Refusal.{number, name}
use Rattle.map_kind.specs.Refusals.{meaning}
use Rattle.machine_defs.specs.Program.{EndsLine}
use Rattle.machine_defs.specs.Text.{ended, spaced, spaced_signed, truth_text, cell_value_text, reply_text}
use Rattle.script_text.specs.declared.reply.Reply.{Reply}
use Rattle.script_text.specs.declared.reply.Reply.TheVariants as given
use Rattle.script_text.specs.Meanings.{reply_meaning}

either-ends : (b : Bool) (one other : List ℕ) → EndsLine (cond b (ended one) (ended other))
either-ends true one other = inr (one, refl)
either-ends false one other = inr (other, refl)

truth-ends : (answer : Bool) → EndsLine (truth_text answer)
truth-ends true = inr (codes "true", refl)
truth-ends false = inr (codes "false", refl)

value-ends : (value : Option Value) → EndsLine (cell_value_text value)
value-ends None = inr (codes "value none", refl)
value-ends (Some v) = inr (codes "value" ++ spaced_signed v.a ++ spaced_signed v.b ++ spaced_signed v.c, refl)

pub reply-ends : (reply : Reply) → EndsLine (reply_text (reply_meaning reply))
reply-ends (given.Done done) = either-ends (done.count == 0) (codes "ok") (codes "ok" ++ spaced done.first ++ spaced done.count)
reply-ends (given.Truth answer) = truth-ends answer
reply-ends (given.Cell darts) = inr (codes "cell" ++ flat_map spaced darts.items, refl)
reply-ends (given.Count counts) = inr (codes "count" ++ flat_map spaced counts.items, refl)
reply-ends (given.Value value) = value-ends value
reply-ends (given.No refusal) = inr (codes "no" ++ spaced (number (meaning refusal)) ++ 32 ∷ name (meaning refusal), refl)
