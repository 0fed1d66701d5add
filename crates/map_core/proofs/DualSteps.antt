-- What the machine does where no dual is taken.
use Rattle.std.proofs.Common.{◌≡◌, Result, Err, refl, inl}
use Rattle.map_kind.specs.declared.refusal.Refused.{Refused}
use Rattle.map_kind.specs.declared.refusal.Refused.TheVariants as why
use Rattle.map_defs.specs.Values.{Hook}
use Rattle.machine_defs.specs.State.{Content}
use Rattle.machine_defs.specs.Script.{Dual}
use Rattle.trail_laws.specs.Trails.{Trail}
use Rattle.trail_laws.specs.Told.{told}
use Rattle.valued_map.specs.TakingDual.{BecomesDual}
use Rattle.map_core.specs.Calls.{Does}
use Rattle.map_kind.specs.declared.done.Done.{Done}

-- the map is as it was
pub dual-unmade : (old new : Content) (r : Refused) → BecomesDual old new (Err r) → new ≡ old
dual-unmade old new (why.Line refusal) taken = taken.2
dual-unmade old new why.NoMemory taken = taken

-- the line is refused, or memory lacks
pub dual-refused : (hook : Hook) (old new : Content) (t : Trail) (r : Refused) → BecomesDual old new (Err r) → (result : Result Done Refused) → result ≡ Err r → Does hook (told old t) Dual result (told new t)
dual-refused hook old new t (why.Line refusal) taken result is = rw (is, taken.0, taken.2) (inl (taken.1, refl, refl))
dual-refused hook old new t why.NoMemory taken result is = rw (is, taken) refl
