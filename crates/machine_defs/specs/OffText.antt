-- The text of a map in the OFF format. Source: the ASCII OFF format; spaces and line feeds are this project's.
use Rattle.std.specs.Prelude.{ℕ, List, ◌++◌, length, codes}
use Rattle.std.specs.Fmt.{decimal, signed_decimal}
use Rattle.std.specs.List.{flat_map}
use Rattle.map_defs.specs.Values.{Value}
use Rattle.map_defs.specs.OffOfMap.{OffRows}
use Rattle.machine_defs.specs.TextLines.{ended, spaced, spaced_signed}

-- how many points, faces and edges there are
abbrev pub off_counts_text : ℕ → ℕ → ℕ → List ℕ
off_counts_text points faces edges = ended (decimal points ++ spaced faces ++ spaced edges)

-- a point is its three numbers
abbrev pub off_point_text : Value → List ℕ
off_point_text v = ended (signed_decimal v.a ++ spaced_signed v.b ++ spaced_signed v.c)

-- a face is how many corners it has, and the places of their points
abbrev pub off_face_text : List ℕ → List ℕ
off_face_text corners = ended (decimal (length corners) ++ flat_map spaced corners)

abbrev pub off_text : OffRows → List ℕ
off_text off =
    ended (codes "OFF") ++ off_counts_text (length off.points) (length off.faces) off.edges
    ++ flat_map off_point_text off.points ++ flat_map off_face_text off.faces
