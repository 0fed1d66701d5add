-- The trail of a map after a change.
use Rattle.std.specs.Prelude.{Option, Some, None}
use Rattle.machine_defs.specs.Difference.{Difference}
use Rattle.trail_laws.specs.Trails.{Trail, noted}

-- the trail with a further step, if there is one
abbrev pub advanced : Trail → Option Difference → Trail
advanced trail None = trail
advanced trail (Some step) = noted trail step
