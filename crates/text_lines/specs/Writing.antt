-- What a writing function has written, whole or cut short.
use Rattle.std.specs.Prelude.{ℕ, ◌≡◌, ◌++◌, List, Option, Result, Ok, Err}
use Rattle.std.specs.declared.alloc.AllocError.{AllocError}
use Rattle.map_io.specs.declared.sink.PutFault.{PutFault}
use Rattle.map_io.specs.declared.sink.PutFault.TheVariants.{Failed, NoMemory}
use Rattle.machine_defs.specs.Outside.{Appended, IsFront}
use Rattle.machine_defs.specs.Program.{EndsLine}

-- the whole text, which ends with a line; or a front of it; or for want of memory a front that ends with a line
abbrev pub IsWritten : List ℕ → Result (Unit {0}) PutFault → List ℕ → Type 0
IsWritten text (Ok done) piece = EndsLine piece × (piece ≡ text)
IsWritten text (Err Failed) piece = IsFront piece text
IsWritten text (Err NoMemory) piece = EndsLine piece × IsFront piece text

pub record WritesText (before after : Option (List ℕ)) (result : Result (Unit {0}) PutFault) (text : List ℕ) : Type 0 where
  pub piece : List ℕ
  pub appended : Appended before after piece
  pub is : IsWritten text result piece

-- What was there stays, and a front of the line stands behind it.
pub record AppendsFront (old new line : List ℕ) : Type 0 where
  pub part : List ℕ
  pub appended : new ≡ old ++ part
  pub front : IsFront part line

-- What was there stays, and the whole line stands behind it; after want of memory a front of the line.
abbrev pub Appends : List ℕ → List ℕ → List ℕ → Result (Unit {0}) AllocError → Type 0
Appends old new line (Ok done) = new ≡ old ++ line
Appends old new line (Err fault) = AppendsFront old new line
