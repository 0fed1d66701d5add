-- What an insertion and a removal leave. Source: this project's.
use Rattle.std.specs.Prelude.{ℕ, ◌≡◌, ◌+◌, ◌↔◌}
use Rattle.map_defs.specs.Rows.{Rows, IsLive, links_of, made}

-- The old rows are back, with the places of so many darts that ended behind them.
pub record AreBack (old : Rows) (births : ℕ) (new : Rows) : Type 0 where
  pub counted : made new ≡ made old + births
  -- the darts that lived live, and no other
  pub live : (d : ℕ) → IsLive new d ↔ IsLive old d
  pub links : (i d : ℕ) → links_of new i d ≡ links_of old i d
