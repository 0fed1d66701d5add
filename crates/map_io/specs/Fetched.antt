-- What a fetched file is. This project's own.
use Rattle.std.specs.Prelude.{ℕ, ◌≡◌, ◌<◌, ◌≤◌, List, length, Option, Some, Result, Ok, Err, Vec}
use Rattle.std.specs.declared.alloc.Global.{Global}
use Rattle.machine_defs.specs.Outside.{Files, held, WhereTold}
use Rattle.map_io.specs.declared.shelf.FetchFault.{FetchFault}
use Rattle.map_io.specs.declared.shelf.FetchFault.TheVariants.{Failed, TooLong, NoMemory}

-- The answer to a fetch: the whole file, if it is no longer than the limit; or how much of it was seen, if it is
-- longer. A shelf that tells what it holds answers of the files that it tells.
abbrev pub IsFetched : Option Files → List ℕ → ℕ → Result (Vec ℕ Global) FetchFault → Type 0
IsFetched holds name limit (Ok bytes) =
    (length bytes.items ≤ limit) × WhereTold holds (λ files. held files name ≡ Some bytes.items)
IsFetched holds name limit (Err (TooLong seen)) =
    (limit < seen) × WhereTold holds (λ files. (bytes : List ℕ) × (held files name ≡ Some bytes) × (limit < length bytes))
IsFetched holds name limit (Err Failed) = Unit {0}
IsFetched holds name limit (Err NoMemory) = Unit {0}

-- the answer of a reader to the end: all the bytes that were left, where those are told
abbrev pub IsReadWhole : Option (List ℕ) → ℕ → Result (Vec ℕ Global) FetchFault → Type 0
IsReadWhole left limit (Ok bytes) = (length bytes.items ≤ limit) × WhereTold left (λ all. bytes.items ≡ all)
IsReadWhole left limit (Err (TooLong seen)) = (limit < seen) × WhereTold left (λ all. limit < length all)
IsReadWhole left limit (Err Failed) = Unit {0}
IsReadWhole left limit (Err NoMemory) = Unit {0}

-- A file was opened: what is left of it to read is what the files hold under the name, where they are told.
abbrev pub IsOpened : Option Files → List ℕ → Option (List ℕ) → Type 0
IsOpened files name left = WhereTold files (λ all. (bytes : List ℕ) × (held all name ≡ Some bytes) × (left ≡ Some bytes))
