-- A line that was put in one piece.
use Rattle.std.proofs.Common.{ℕ, List, Option, Result, Ok, Err, sym, subst, inl}
use Rattle.map_io.specs.declared.sink.PutFault.{PutFault}
use Rattle.map_io.specs.declared.sink.PutFault.TheVariants.{Failed, NoMemory}
use Rattle.map_io.specs.Put.{IsPut}
use Rattle.machine_defs.specs.Outside.{Appended, IsFront}
use Rattle.machine_defs.specs.Program.{EndsLine}
use Rattle.text_lines.specs.Writing.{WritesText, IsWritten}
use Rattle.text_lines.proofs.WritingFacts.{IsFront-nothing}

put-is : (line piece : List ℕ) (result : Result (Unit {0}) PutFault) → EndsLine line → IsPut line result piece → IsWritten line result piece
put-is line piece (Ok done) ends put = (subst EndsLine (sym put) ends, put)
put-is line piece (Err Failed) ends put = put
put-is line piece (Err NoMemory) ends put = (inl put, subst (λ (p : List ℕ). IsFront p line) (sym put) (IsFront-nothing line))

pub Writes-put : (before after : Option (List ℕ)) (line : List ℕ) (result : Result (Unit {0}) PutFault) → EndsLine line
    → (piece : List ℕ) × Appended before after piece × IsPut line result piece → WritesText before after result line
Writes-put before after line result ends put = record { piece = put.0; appended = put.1; is = put-is line put.0 result ends put.2 }
