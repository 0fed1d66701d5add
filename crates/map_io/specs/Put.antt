-- What was appended by a put. This project's own.
use Rattle.std.specs.Prelude.{ℕ, ◌≡◌, List, [], Result, Ok, Err}
use Rattle.machine_defs.specs.Outside.{IsFront}
use Rattle.map_io.specs.declared.sink.PutFault.{PutFault}
use Rattle.map_io.specs.declared.sink.PutFault.TheVariants.{Failed, NoMemory}

-- the whole piece, or at a fault a front of it, or for want of memory nothing
abbrev pub IsPut : List ℕ → Result (Unit {0}) PutFault → List ℕ → Type 0
IsPut piece (Ok done) text = text ≡ piece
IsPut piece (Err Failed) text = IsFront text piece
IsPut piece (Err NoMemory) text = text ≡ []
