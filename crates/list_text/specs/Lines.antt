-- The texts of the lines of a listing.
use Rattle.std.specs.Prelude.{ℕ, List, [], ◌∷◌, ◌++◌, codes, refl}
use Rattle.std.proofs.Common.{inr}
use Rattle.std.specs.Fmt.{decimal}
use Rattle.std.specs.List.{flat_map}
use Rattle.map_defs.specs.RuleNames.{merge_name, split_name}
use Rattle.machine_defs.specs.Text.{header_line, row_text, rule_text, value_text, mark_text, ended, spaced, spaced_signed}
use Rattle.machine_defs.specs.Program.{EndsLine}
use Rattle.list_text.specs.declared.line.ListLine.{ListLine}
use Rattle.list_text.specs.declared.line.ListLine.TheVariants.{Header, Row, Rule, Value, Mark, End}

abbrev pub line_text : ListLine → List ℕ
line_text (Header letter dim made live) = header_line letter dim made live
line_text (Row row) = row_text row.now
line_text (Rule rule) = rule_text rule.now
line_text (Value value) = value_text value.now
line_text (Mark name) = mark_text name.now
line_text End = ended (codes "end")

-- each of them ends with a line feed
pub line-ends : (line : ListLine) → EndsLine (line_text line)
line-ends (Header letter dim made live) =
    inr (codes "cellmap 2 " ++ letter ∷ [] ++ spaced dim ++ spaced made ++ spaced live, refl)
line-ends (Row row) = inr (decimal row.now.dart ++ 58 ∷ [] ++ flat_map spaced row.now.links, refl)
line-ends (Rule rule) =
    inr (codes "rule" ++ spaced rule.now.dim ++ 32 ∷ merge_name rule.now.rule.merge ++ 32 ∷ split_name rule.now.rule.split, refl)
line-ends (Value value) =
    inr (codes "val" ++ spaced value.now.dim ++ spaced value.now.dart ++ spaced_signed value.now.value.a ++ spaced_signed value.now.value.b ++ spaced_signed value.now.value.c, refl)
line-ends (Mark name) = inr (codes "mark " ++ name.now, refl)
line-ends End = inr (codes "end", refl)
