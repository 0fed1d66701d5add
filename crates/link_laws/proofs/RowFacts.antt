-- What rows say of their links: the darts that are not live have none, and links lead to live darts.
use Rattle.std.proofs.Common.{ℕ, ◌≡◌, ◌≢◌, ◌⊎◌, ◌≤◌, ◌-◌, inl, inr, refl, sym, ap, ◌∙◌, List, length, Option, Some, None, IsSome, arith}
use Rattle.std.proofs.lemmas.List.{get_or_past}
use Rattle.map_defs.specs.Kind.{Kind, inverse}
use Rattle.map_defs.specs.Links.{IsMadeUpTo, HasDimension, LeadsToLive}
use Rattle.map_defs.specs.Laws.{Laws}
use Rattle.map_defs.specs.Rows.{Rows, made, row_at, entry_of, IsLive, AreWide, links_of}
use Rattle.link_laws.proofs.LawFacts.{dart_of_link}

-- a dart is live, or it has no links
pub live_or_free : (rows : Rows) (d : ℕ) → IsLive rows d ⊎ ((IsLive rows d → ⊥) × ((i : ℕ) → links_of rows i d ≡ 0))
live_or_free rows d = go (row_at rows d)
  where
    go : (row : Option (List ℕ)) → IsSome row ⊎ ((IsSome row → ⊥) × ((i : ℕ) → entry_of row i ≡ 0))
    go None = inr ((λ h. cc (h)), λ i. refl)
    go (Some row) = inl refl

pub linked_live : (rows : Rows) (i d : ℕ) → links_of rows i d ≢ 0 → IsLive rows d
linked_live rows i d h = go (live_or_free rows d)
  where
    go : IsLive rows d ⊎ ((IsLive rows d → ⊥) × ((i : ℕ) → links_of rows i d ≡ 0)) → IsLive rows d
    go (inl l) = l
    go (inr f) = absurd (h (f.1 i))

-- only the darts that were made have links
pub rows_made : (rows : Rows) → IsMadeUpTo (made rows) (links_of rows)
rows_made rows i d h = go (low_or_past (length rows) d)
  where
    low_or_past : (n e : ℕ) → (e ≤ n - 1) ⊎ (n ≤ e)
    low_or_past n e = grind arith

    go : (d ≤ length rows - 1) ⊎ (length rows ≤ d) → d ≤ length rows - 1
    go (inl l) = l
    go (inr p) = absurd (h (ap (λ row. entry_of row i) (get_or_past rows d None p)))

-- the links above the last entry are free
pub rows_dimension : (n : ℕ) (rows : Rows) → AreWide n rows → HasDimension n (links_of rows)
rows_dimension n rows wide i d h = go (row_at rows d) refl
  where
    go : (row : Option (List ℕ)) → row_at rows d ≡ row → entry_of row i ≡ 0
    go None e = refl
    go (Some row) e = get_or_past row i 0 (let w = wide d row e in omega arith)

-- links lead to live darts, since they lead back
pub rows_lead_to_live : (k : Kind) (rows : Rows) → Laws k (links_of rows) → LeadsToLive (IsLive rows) (links_of rows)
rows_lead_to_live k rows w i d h = linked_live rows (inverse k i) (links_of rows i d) (λ z. dart_of_link k (links_of rows) w i d h (sym (w.back i d h) ∙ z))
