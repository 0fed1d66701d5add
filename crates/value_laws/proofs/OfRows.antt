-- Rows tell which darts live.
use Rattle.std.proofs.Common.{ℕ, ◌≡◌, ◌⊎◌, inl, inr}
use Rattle.map_defs.specs.Rows.{Rows, IsLive, links_of}
use Rattle.link_laws.proofs.RowFacts.{live_or_free}

pub told_live : (rows : Rows) (x : ℕ) → IsLive rows x ⊎ (IsLive rows x → ⊥)
told_live rows x = go (live_or_free rows x)
  where
    go : IsLive rows x ⊎ ((IsLive rows x → ⊥) × ((i : ℕ) → links_of rows i x ≡ 0)) → IsLive rows x ⊎ (IsLive rows x → ⊥)
    go (inl l) = inl l
    go (inr f) = inr f.0
