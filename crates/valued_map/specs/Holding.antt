-- What a contract sees of a map with values: its content, and how many darts can live in it without further memory, those
-- that live now among them.
use Rattle.std.specs.Prelude.{ℕ}
use Rattle.machine_defs.specs.State.{Content}

pub record Holding : Type 0 where
  pub content : Content
  pub places : ℕ
