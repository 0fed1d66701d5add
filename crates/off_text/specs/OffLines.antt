-- The texts of the lines of a map's OFF text.
use Rattle.std.specs.Prelude.{ℕ, List, ◌++◌, length, codes, refl}
use Rattle.std.proofs.Common.{inr}
use Rattle.std.specs.Fmt.{decimal, signed_decimal}
use Rattle.std.specs.List.{flat_map}
use Rattle.machine_defs.specs.TextLines.{ended, spaced, spaced_signed}
use Rattle.machine_defs.specs.OffText.{off_counts_text, off_point_text, off_face_text}
use Rattle.machine_defs.specs.Program.{EndsLine}
use Rattle.off_text.specs.declared.line.OffLine.{OffLine}
use Rattle.off_text.specs.declared.line.OffLine.TheVariants.{Header, Counts, Point, Face}

abbrev pub line_text : OffLine → List ℕ
line_text Header = ended (codes "OFF")
line_text (Counts points faces edges) = off_counts_text points faces edges
line_text (Point point) = off_point_text point.now
line_text (Face corners) = off_face_text corners.now.items

-- each of them ends with a line feed
pub line-ends : (line : OffLine) → EndsLine (line_text line)
line-ends Header = inr (codes "OFF", refl)
line-ends (Counts points faces edges) = inr (decimal points ++ spaced faces ++ spaced edges, refl)
line-ends (Point point) = inr (signed_decimal point.now.a ++ spaced_signed point.now.b ++ spaced_signed point.now.c, refl)
line-ends (Face corners) = inr (decimal (length corners.now.items) ++ flat_map spaced corners.now.items, refl)
