-- The command `soak`: lines that a generator of numbers makes, which the machine obeys, and a summary of them. Source: this
-- project's.
use Rattle.std.specs.Prelude.{ℕ, zero, suc, ◌≡◌, ◌+◌, ◌*◌, ◌/◌, ◌%◌, ℤ, pos, List, [], ◌∷◌, ◌++◌, length, filter, not, Option, Some, None, codes, slice_index_or}
use Rattle.map_defs.specs.Kind.{Kind, alpha, beta}
use Rattle.map_defs.specs.Rows.{made}
use Rattle.map_defs.specs.Counts.{AreCounts}
use Rattle.map_defs.specs.Values.{Hook}
use Rattle.machine_defs.specs.State.{State, empty_state}
use Rattle.machine_defs.specs.Script.{Line, Polygon, Sew, Set, Vertex, Edge, Dart, Remove, Rule}
use Rattle.machine_defs.specs.Machine.{Step}
use Rattle.machine_defs.specs.Listing.{ListValue, ListsValuesIn, listed_total}
use Rattle.machine_defs.specs.Text.{Reply, Counts, reply_text, ended, spaced, spaced_signed, is_refused, any_refused, run_status}

-- the generator's next number, and what is drawn from it
abbrev pub next_seed : ℕ → ℕ
next_seed x = (x * 1103515245 + 12345) % 2147483648

abbrev pub drawn : ℕ → ℕ
drawn x = x / 65536

-- the first side of a new square sewn to a side of the square before it, which do not touch each other
abbrev pub joining : Kind → Option ℕ → ℕ → List Line
joining kind None first = []
joining alpha (Some before) first = Sew 2 (before + 4) (first + 1) ∷ []
joining beta (Some before) first = Sew 2 (before + 2) first ∷ []

-- a diagonal of the new square
abbrev pub diagonal : Kind → ℕ → Line
diagonal alpha first = Edge first (first + 3)
diagonal beta first = Edge first (first + 2)

-- what may be done at the new square
abbrev pub changes : Kind → ℕ → List Line
changes kind first = Vertex first ∷ diagonal kind first ∷ Dart ∷ Remove 1 first ∷ []

-- The lines for a square: it is made, where a square came before it is sewn to that one, its face gets a value, and one of
-- the changes follows.
abbrev pub square_lines : Kind → Option ℕ → ℕ → ℕ → ℕ → List Line
square_lines kind before first worth choice =
    Polygon 4 ∷ joining kind before first
    ++ Set 2 first (record { a = pos worth; b = pos 0; c = pos 0 }) ∷ slice_index_or (changes kind first) choice Dart ∷ []

-- the machine takes these steps one after another
abbrev pub Takes : Hook → State → List Line → List Reply → State → Type 0
Takes hook s [] replies new = (replies ≡ []) × (new ≡ s)
Takes hook s (line ∷ lines) replies new = (reply : Reply) × (more : List Reply) × (mid : State)
    × Step hook s line reply mid × Takes hook mid lines more new × (replies ≡ reply ∷ more)

-- So many squares more: for each, two numbers are drawn, below 1000 for the value and below 4 for the change. The first dart
-- of a square is the next one that is made.
abbrev pub TakesSquares : Hook → Kind → Option ℕ → ℕ → ℕ → State → List Reply → State → Type 0
TakesSquares hook kind before seed zero s replies new = (replies ≡ []) × (new ≡ s)
TakesSquares hook kind before seed (suc more) s replies new = (here : List Reply) × (later : List Reply) × (mid : State)
    × Takes hook s
    (square_lines kind before (made s.present.rows + 1) (drawn (next_seed seed) % 1000) (drawn (next_seed (next_seed seed)) % 4)) here mid
    × TakesSquares hook kind (Some (made s.present.rows + 1)) (next_seed (next_seed seed)) more mid later new × (replies ≡ here ++ later)

-- the rule `sum share` for faces, and then so many squares
abbrev pub Soaks : Hook → Kind → ℕ → ℕ → List Reply → State → Type 0
Soaks hook kind seed count replies new = (ruled : Reply) × (more : List Reply) × (begun : State)
    × Step hook (empty_state kind 2) (Rule 2 (codes "sum") (codes "share")) ruled begun
    × TakesSquares hook kind None seed count begun more new × (replies ≡ ruled ∷ more)

-- how many lines were accepted
abbrev pub accepted : List Reply → ℕ
accepted replies = length (filter (λ reply. not (is_refused reply)) replies)

-- how many lines there were, how many of them were accepted, and what the first numbers of the values of all faces add up to
abbrev pub soak_line : ℕ → ℕ → ℤ → List ℕ
soak_line lines accepted total = ended (codes "soak" ++ spaced lines ++ spaced accepted ++ spaced_signed total)

-- The summary of all lines, and the counts of the map that they left; and the status.
abbrev pub SoakAnswer : Hook → Kind → ℕ → ℕ → List ℕ → ℕ → Type 0
SoakAnswer hook kind seed count text status =
    (replies : List Reply) × (new : State) × (values : List ListValue) × (counts : List ℕ)
    × Soaks hook kind seed count replies new × ListsValuesIn new.present 2 values
    × AreCounts new.present.kind new.present.dim new.present.rows counts
    × (text ≡ soak_line (length replies) (accepted replies) (listed_total 2 values).a ++ reply_text (Counts counts))
    × (status ≡ run_status (any_refused replies))
