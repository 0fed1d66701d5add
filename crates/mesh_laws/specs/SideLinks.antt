-- The links of sides as a function, and the edit that makes them.
use Rattle.std.specs.Prelude.{ℕ, zero, suc, ◌-◌, ◌*◌, ◌/◌, ◌%◌, ◌==◌, nat_le, ◌&&◌, List, [], ◌∷◌, ◌++◌, length, Option, Some, None, if◌then◌else◌}
use Rattle.std.specs.List.{flat_map, range_with_len}
use Rattle.map_defs.specs.Kind.{Kind, alpha, beta}
use Rattle.map_defs.specs.Links.{Links}
use Rattle.map_defs.specs.Edits.{Change, Edit}
use Rattle.map_defs.specs.Polygon.{per_side}
use Rattle.map_defs.specs.MeshMap.{Side, start, finish}
use Rattle.mesh_laws.specs.Sides.{side_of, partner_of}

-- the links 0, 1 and 2 of a dart
pub record Entries : Type 0 where
  pub zeroth : ℕ
  pub first : ℕ
  pub second : ℕ

-- the dart that link 2 joins with the dart at the start of side s, and with the one at its end
abbrev pub start_to : Kind → List Side → ℕ → Option ℕ → ℕ
start_to k sides s None = 0
start_to alpha sides s (Some t) = if (side_of sides s).from == (side_of sides t).from then start alpha t else finish t
start_to beta sides s (Some t) = start beta t

abbrev pub finish_to : List Side → ℕ → Option ℕ → ℕ
finish_to sides s None = 0
finish_to sides s (Some t) = if (side_of sides s).from == (side_of sides t).from then finish t else start alpha t

abbrev pub start_across : Kind → List Side → List (Option ℕ) → ℕ → ℕ
start_across k sides partners s = start_to k sides s (partner_of partners s)

abbrev pub finish_across : List Side → List (Option ℕ) → ℕ → ℕ
finish_across sides partners s = finish_to sides s (partner_of partners s)

-- the links of the dart at the start of side s, and of the one at its end
abbrev pub start_entries : Kind → List Side → List (Option ℕ) → ℕ → Entries
start_entries alpha sides partners s =
    record { zeroth = finish s; first = finish (side_of sides s).previous; second = start_across alpha sides partners s }
start_entries beta sides partners s =
    record { zeroth = start beta (side_of sides s).previous; first = start beta (side_of sides s).next; second = start_across beta sides partners s }

abbrev pub finish_entries : List Side → List (Option ℕ) → ℕ → Entries
finish_entries sides partners s =
    record { zeroth = start alpha s; first = start alpha (side_of sides s).next; second = finish_across sides partners s }

abbrev pub dart_entries : Kind → List Side → List (Option ℕ) → ℕ → Entries
dart_entries alpha sides partners d =
    if d % 2 == 1 then start_entries alpha sides partners ((d - 1) / 2) else finish_entries sides partners ((d - 1) / 2)
dart_entries beta sides partners d = start_entries beta sides partners (d - 1)

abbrev pub entry : Entries → ℕ → ℕ
entry e zero = e.zeroth
entry e (suc zero) = e.first
entry e (suc (suc zero)) = e.second
entry e (suc (suc (suc i))) = 0

-- the darts of sides are numbered from 1
abbrev pub dart_count : Kind → List Side → ℕ
dart_count k sides = per_side k * length sides

abbrev pub mesh_links : Kind → List Side → List (Option ℕ) → Links
mesh_links k sides partners i d =
    if nat_le 1 d && nat_le d (dart_count k sides) then entry (dart_entries k sides partners d) i else 0

-- the change of a link that is not free
abbrev pub entry_change : ℕ → ℕ → ℕ → List Change
entry_change d link new = if new == 0 then [] else record { dart = d; link = link; old = 0; new = new } ∷ []

abbrev pub entry_changes : ℕ → Entries → List Change
entry_changes d e = entry_change d 0 e.zeroth ++ entry_change d 1 e.first ++ entry_change d 2 e.second

abbrev pub mesh_changes : Kind → List Side → List (Option ℕ) → ℕ → List Change
mesh_changes k sides partners d = entry_changes d (dart_entries k sides partners d)

abbrev pub mesh_edit : Kind → List Side → List (Option ℕ) → Edit
mesh_edit k sides partners =
    record { births = dart_count k sides; deaths = []; changes = flat_map (mesh_changes k sides partners) (range_with_len 1 (dart_count k sides)) }

-- the point at which a dart lies
abbrev pub point_of : Kind → List Side → ℕ → ℕ
point_of alpha sides d = if d % 2 == 1 then (side_of sides ((d - 1) / 2)).from else (side_of sides ((d - 1) / 2)).to
point_of beta sides d = (side_of sides (d - 1)).from
