-- What a sink over a writer took: what the writer holds, and then what the sink keeps back.
use Rattle.std.proofs.Common.{◌≡◌, ℕ, List, [], ◌++◌, length, take, drop, Option, None, Some, Result, Ok, Err, OnOk, IfErr, refl, sym, ap, ◌∙◌, append_assoc, append-nil, take-append-drop, take_all, arith}
use Rattle.std.specs.Io.KnownBytes.{Appends, Keeps, append_known}
use Rattle.machine_defs.specs.Outside.{Appended}
use Rattle.map_io.specs.Put.{IsPut}
use Rattle.map_io.specs.declared.sink.PutFault.{PutFault}
use Rattle.map_io.specs.declared.sink.PutFault.TheVariants.{Failed, NoMemory}

-- what is appended after known text stayed is appended to that text
pub Appended-after : (first mid : Option (List ℕ)) (last : Option (List ℕ)) (text : List ℕ) → Keeps first mid → Appended mid last text → Appended first last text
Appended-after None mid last text kept more = tt
Appended-after (Some before) None last text kept more = absurd kept
Appended-after (Some before) (Some same) last text kept more = more ∙ ap (λ front. Some (front ++ text)) kept

-- more is kept back
pub Appended-kept : (held : Option (List ℕ)) (old new piece : List ℕ) → new ≡ old ++ piece → Appended (append_known held old) (append_known held new) piece
Appended-kept None old new piece more = tt
Appended-kept (Some text) old new piece more = ap Some (ap (λ kept. text ++ kept) more ∙ sym (append_assoc text old piece))

-- more is handed on, where nothing is kept back
pub Appended-handed : (old new : Option (List ℕ)) (kept piece : List ℕ) → kept ≡ [] → Appends old new piece → Appended (append_known old kept) (append_known new kept) piece
Appended-handed None new kept piece none more = tt
Appended-handed (Some text) None kept piece none more = absurd more
Appended-handed (Some text) (Some after) kept piece none more =
    ap Some (ap (λ rest. after ++ rest) none ∙ append-nil after ∙ more ∙ ap (λ front. front ++ piece) (sym (append-nil text) ∙ ap (λ rest. text ++ rest) (sym none)))

-- a piece that is kept back, or is not for want of memory
pub put-kept : (held : Option (List ℕ)) (old new piece : List ℕ) (r : Result (Unit {0}) PutFault) → OnOk r (new ≡ old ++ piece) →
    IfErr r (λ fault. (fault ≡ NoMemory) × (new ≡ old)) → (text : List ℕ) × Appended (append_known held old) (append_known held new) text × IsPut piece r text
put-kept held old new piece (Ok done) more same = (piece, Appended-kept held old new piece more, refl)
put-kept held old new piece (Err NoMemory) more same = ([], Appended-kept held old new [] (same.1 ∙ sym (append-nil old)), refl)
put-kept held old new piece (Err Failed) more same = absurd (cc (same.0))

-- a piece that is handed on, or a front of it
pub put-handed : (old new : Option (List ℕ)) (kept piece : List ℕ) (r : Result (Unit {0}) PutFault) (Q : Type 0) → kept ≡ [] →
    ((taken : ℕ) × Appends old new (take taken piece) × OnOk r (taken ≡ length piece)) → IfErr r (λ fault. (fault ≡ Failed) × Q) →
    (text : List ℕ) × Appended (append_known old kept) (append_known new kept) text × IsPut piece r text
put-handed old new kept piece (Ok done) Q none took failed =
    (take took.0 piece, Appended-handed old new kept (take took.0 piece) none took.1, take_all took.0 piece (omega (arith, took.2)))
put-handed old new kept piece (Err Failed) Q none took failed =
    (take took.0 piece, Appended-handed old new kept (take took.0 piece) none took.1, (drop took.0 piece, sym (take-append-drop took.0 piece)))
put-handed old new kept piece (Err NoMemory) Q none took failed = absurd (cc (failed.0))
