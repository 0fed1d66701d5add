-- What the faults of the code stand for, and what a call answers of a text.
use Rattle.std.specs.Prelude.{ℕ, ◌≡◌, List, Result, Ok, Err}
use Rattle.machine_defs.specs.Listing as machine
use Rattle.machine_defs.specs.ListingForm as text
use Rattle.machine_defs.specs.ListingFaults.{Reads}
use Rattle.list_text.specs.declared.fault.ListWhat.{ListWhat}
use Rattle.list_text.specs.declared.fault.ListWhat.TheVariants as told
use Rattle.list_text.specs.declared.fault.ListFault.{ListFault}
use Rattle.list_text.specs.declared.fault.ListFault.TheVariants as outcome

abbrev pub meaning : ListWhat → text.ListingWhat
meaning told.Form = text.Form
meaning told.Order = text.Order
meaning told.Laws = text.Laws
meaning told.Values = text.Values

-- Want of memory is free.
abbrev pub IsFault : {Y : Type 0} → ListFault → Result Y text.ListingFault → Type 0
IsFault (outcome.Bad line what) read = read ≡ text.bad line (meaning what)
IsFault outcome.NoMemory read = Unit {0}

-- what a call returned, seen by view, is what reading gives
abbrev pub Gives : {X Y : Type 0} → (X → Y) → Result X ListFault → Result Y text.ListingFault → Type 0
Gives view (Ok x) read = read ≡ Ok (view x)
Gives view (Err fault) read = IsFault fault read

-- The text is that of the listing, or has the fault first. Want of memory is free.
abbrev pub IsReadAs : List ℕ → Result machine.Listing ListFault → Type 0
IsReadAs bytes (Ok listing) = Reads bytes (Ok listing)
IsReadAs bytes (Err (outcome.Bad line what)) = Reads bytes (text.bad line (meaning what))
IsReadAs bytes (Err outcome.NoMemory) = Unit {0}
