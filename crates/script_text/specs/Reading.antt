-- What is read of words: exactly what they tell, or a refusal as Syntax where they tell nothing.
use Rattle.std.specs.Prelude.{ℕ, ◌≡◌, List, Option, Some, None, Result, Ok, Err, Vec}
use Rattle.std.specs.Borrow.{Bor}
use Rattle.std.specs.declared.alloc.Global.{Global}
use Rattle.map_kind.specs.declared.refusal.Refused.{Refused}
use Rattle.map_kind.specs.declared.refusal.Refused.TheVariants as outcome
use Rattle.map_kind.specs.declared.refusal.Refusal.TheVariants as why

-- what a word is
abbrev pub now_of : Bor (List ℕ) → List ℕ
now_of word = word.now

abbrev pub items_of : Vec ℕ Global → List ℕ
items_of v = v.items

-- Want of memory is free.
abbrev pub Reads : {A B : Type 0} → (A → B) → Option B → Result A Refused → Type 0
Reads view told (Ok x) = told ≡ Some (view x)
Reads view told (Err (outcome.Line refusal)) = (refusal ≡ why.Syntax) × (told ≡ None)
Reads view told (Err outcome.NoMemory) = Unit {0}
