-- What the values of a dimension add up to, and the lines that keep it. Source: this project's.
use Rattle.std.specs.Prelude.{ℕ, ◌≡◌, ◌⊎◌, List, [], ◌∷◌, Some}
use Rattle.map_defs.specs.Rows.{IsLive, links_of}
use Rattle.map_defs.specs.Values.{Value, Hook, Sum, Share}
use Rattle.map_defs.specs.Totals.{sum_share, NoSumLeaves}
use Rattle.map_defs.specs.TextWords.{words_of}
use Rattle.machine_defs.specs.State.{Content, State, value_at, rule_at}
use Rattle.machine_defs.specs.Listing.{ListValue, ListsValuesIn, listed_total}
use Rattle.machine_defs.specs.Text.{Reply}
use Rattle.machine_defs.specs.Script.{Line, Polygon, Dart, Sew, Unsew, Vertex, Edge, Face, Close, Dangle, Center, line_of}
use Rattle.machine_defs.specs.Machine.{Obeys}

-- the values of the cells of dimension i add up to this, each of the three numbers by itself
abbrev pub HasTotal : Content → ℕ → Value → Type 0
HasTotal c i total = (values : List ListValue) × ListsValuesIn c i values × (total ≡ listed_total i values)

-- the rule of dimension i is `sum share`: values add up where cells join, and are dealt out where a cell falls apart
abbrev pub IsSumShare : Content → ℕ → Type 0
IsSumShare c i = rule_at c i ≡ Some (record { merge = Sum; split = Share })

-- the lines that only make darts, linked among each other alone
abbrev pub OnlyMakesDarts : Line → Type 0
OnlyMakesDarts (Polygon sides) = Unit {0}
OnlyMakesDarts Dart = Unit {0}
OnlyMakesDarts line = ⊥

-- the lines that make darts or change links, and by which no dart ends
abbrev pub KeepsTotals : Line → Type 0
KeepsTotals (Polygon sides) = Unit {0}
KeepsTotals Dart = Unit {0}
KeepsTotals (Sew i d e) = Unit {0}
KeepsTotals (Unsew i d) = Unit {0}
KeepsTotals (Vertex d) = Unit {0}
KeepsTotals (Edge d e) = Unit {0}
KeepsTotals (Face path) = Unit {0}
KeepsTotals (Close i) = Unit {0}
KeepsTotals (Dangle d) = Unit {0}
KeepsTotals (Center d) = Unit {0}
KeepsTotals line = ⊥

-- where the values of dimension i go over from one content to the next, no sum of parts leaves 64 bits in any cell
abbrev pub SumsStayWithin : Hook → ℕ → Content → Content → Type 0
SumsStayWithin hook i c next = NoSumLeaves c.kind i (sum_share hook) (links_of c.rows) (IsLive c.rows) (value_at c i) (links_of next.rows) (IsLive next.rows)

-- Of the lines of a script each that changes the present content is one that keeps totals, and no sum of parts leaves 64
-- bits by it.
abbrev pub EachKeepsTotals : Hook → ℕ → State → List (List ℕ) → Type 0
EachKeepsTotals hook i s [] = Unit {0}
EachKeepsTotals hook i s (line ∷ lines) = (replies : List Reply) (new : State) → Obeys hook s (words_of line) replies new
    → ((new.present ≡ s.present) ⊎ (((told : Line) → line_of (words_of line) ≡ Some told → KeepsTotals told) × SumsStayWithin hook i s.present new.present))
    × EachKeepsTotals hook i new lines
