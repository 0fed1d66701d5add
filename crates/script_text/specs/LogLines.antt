-- The texts of the lines of a log.
use Rattle.std.specs.Prelude.{ℕ, ◌==◌, Bool, true, false, cond, List, [], ◌∷◌, ◌++◌, codes, refl}
use Rattle.std.proofs.Common.{inl, inr}
use Rattle.std.specs.List.{flat_map}
use Rattle.machine_defs.specs.TextLines.{ended, spaced}
use Rattle.machine_defs.specs.LogText.{logged_value, logged_rule, born_text, dead_text, link_change_text, value_change_text, rule_change_text}
use Rattle.machine_defs.specs.Program.{EndsLine}
use Rattle.script_text.specs.declared.log_line.LogLine.{LogLine}
use Rattle.script_text.specs.declared.log_line.LogLine.TheVariants as line

abbrev pub line_text : LogLine → List ℕ
line_text (line.Log steps) = ended (codes "log" ++ spaced steps)
line_text (line.Step number) = ended (codes "step" ++ spaced number)
line_text (line.Born first births) = born_text first births
line_text (line.Dead darts) = dead_text darts.now
line_text (line.Link change) = link_change_text change.now
line_text (line.Value change) = value_change_text change.now
line_text (line.Rule change) = rule_change_text change.now
line_text line.End = ended (codes "end")

-- where there is something to say, it ends with a line feed
some-ends : (b : Bool) (text : List ℕ) → EndsLine (cond b [] (ended text))
some-ends true text = inl refl
some-ends false text = inr (text, refl)

dead-ends : (darts : List ℕ) → EndsLine (dead_text darts)
dead-ends [] = inl refl
dead-ends (dart ∷ darts) = inr (codes "dead" ++ flat_map spaced (dart ∷ darts), refl)

-- each of them ends with a line feed, or is empty
pub line-ends : (one : LogLine) → EndsLine (line_text one)
line-ends (line.Log steps) = inr (codes "log" ++ spaced steps, refl)
line-ends (line.Step number) = inr (codes "step" ++ spaced number, refl)
line-ends (line.Born first births) = some-ends (births == 0) (codes "born" ++ spaced first ++ spaced births)
line-ends (line.Dead darts) = dead-ends darts.now
line-ends (line.Link change) =
    inr (codes "link" ++ spaced change.now.dart ++ spaced change.now.link ++ spaced change.now.old ++ spaced change.now.new, refl)
line-ends (line.Value change) =
    inr (codes "val" ++ spaced change.now.dim ++ spaced change.now.dart ++ 32 ∷ logged_value change.now.old ++ 32 ∷ logged_value change.now.new, refl)
line-ends (line.Rule change) = inr (codes "rule" ++ spaced change.now.dim ++ 32 ∷ logged_rule change.now.old ++ 32 ∷ logged_rule change.now.new, refl)
line-ends line.End = inr (codes "end", refl)
