-- The outside: files that are held, text that is appended, and counts of faults. This project's own.
use Rattle.std.specs.Prelude.{◌≡◌, ℕ, ◌+◌, ◌-◌, ◌^◌, ◌≤◌, min, List, [], ◌∷◌, ◌++◌, Option, Some, None, if◌then◌else◌, bytes_eq}

-- files, each a name and its bytes
abbrev pub Files : Type 0
Files = List (List ℕ × List ℕ)

-- the bytes that files hold under a name; where a name stands twice, its first bytes
abbrev pub held : Files → List ℕ → Option (List ℕ)
held [] name = None
held (file ∷ files) name = (if bytes_eq file.0 name then Some file.1 else held files name)

-- A count rose in a call: it is greater after than before, or it stands at the last number of 64 bits.
abbrev pub Rose : ℕ → ℕ → Type 0
Rose before now = min (before + 1) (2 ^ 64 - 1) ≤ now

-- what is said of a value that is not always told; where it is not, nothing is said
abbrev pub WhereTold : {X : Type 0} → Option X → (X → Type 0) → Type 0
WhereTold None P = Unit {0}
WhereTold (Some x) P = P x

-- Text was appended, where what was written is told.
abbrev pub Appended : Option (List ℕ) → Option (List ℕ) → List ℕ → Type 0
Appended None after text = Unit {0}
Appended (Some before) after text = after ≡ Some (before ++ text)

-- a list begins with another
abbrev pub IsFront : List ℕ → List ℕ → Type 0
IsFront front text = (rest : List ℕ) × (text ≡ front ++ rest)
