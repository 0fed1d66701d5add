-- What stands between the links of a combinatorial map and those of its dual, while it is made two darts at a time.
use Rattle.std.specs.Prelude.{ℕ, ◌≡◌, ◌≢◌, ◌-◌, ◌<◌, ◌≤◌, length, None, is_some}
use Rattle.map_defs.specs.Kind.{beta}
use Rattle.map_defs.specs.Links.{Links}
use Rattle.map_defs.specs.Rows.{Rows, row_at, AreWide}
use Rattle.link_rows.specs.DualLinks.{dual_link}

-- the same darts live, under the same numbers, in rows with the entries 0 to n
pub record HaveSameDarts (n : ℕ) (old new : Rows) : Type 0 where
  pub live : (d : ℕ) → is_some (row_at new d) ≡ is_some (row_at old d)
  pub nothing : row_at new 0 ≡ None
  pub wide : AreWide n new
  pub length : length new ≡ length old

-- the links of the darts d and e have become those of the dual, and no others
pub record AreTurned (n : ℕ) (L N : Links) (d e : ℕ) : Type 0 where
  pub one : (i : ℕ) → i ≤ n → N i d ≡ dual_link beta n L i d
  pub two : (i : ℕ) → i ≤ n → N i e ≡ dual_link beta n L i e
  pub others : (i x : ℕ) → x ≢ d → x ≢ e → N i x ≡ L i x

-- each link i of d between 0 and n has been exchanged with link n - i of e, and no others
pub record AreExchanged (n : ℕ) (L N : Links) (d e : ℕ) : Type 0 where
  pub one : (i : ℕ) → 1 ≤ i → i < n → N i d ≡ L (n - i) e
  pub two : (i : ℕ) → 1 ≤ i → i < n → N i e ≡ L (n - i) d
  pub ends : (i x : ℕ) → (1 ≤ i → i < n → ⊥) → N i x ≡ L i x
  pub others : (i x : ℕ) → x ≢ d → x ≢ e → N i x ≡ L i x
