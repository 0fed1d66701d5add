-- What a contract sees of a map: the state of the plain map machine, and the hook beside it.
use Rattle.machine_defs.specs.State.{State}

pub record MapView (H : Type 0) : Type 0 where
  pub state : State
  pub hook : H
