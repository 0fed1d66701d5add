-- Links and cells of live darts: they hold live darts alone, whose numbers go up to made, and so the new darts of a cell are fresh.
use Rattle.std.proofs.Common.{ℕ, ◌≡◌, ◌≢◌, ◌≤◌, sym, subst, ⊎_elim, ◌∙◌, arith, List, Option, Some, None}
use Rattle.map_defs.specs.Kind.{Kind}
use Rattle.map_defs.specs.Links.{Links, LeadsToLive}
use Rattle.map_defs.specs.Laws.{Laws}
use Rattle.map_defs.specs.LinkWords.{LinkWord, through, through_second}
use Rattle.map_defs.specs.Cells.{InOrbit, here, onward, Leads}
use Rattle.map_defs.specs.Births.{IsCounted, IsNumbered, IsFresh}
use Rattle.map_defs.specs.Insertion.{IsLinkedBy}
use Rattle.link_laws.proofs.Basics.{same_or_not}
use Rattle.insert_laws.proofs.Numbers.{numbered_fresh}
use Rattle.insert_laws.proofs.ClosedFree.{live_bound}

module _ (Live : ℕ → Type 0) (L : Links) (to : LeadsToLive Live L) where
  -- a word of links that lead to live darts leads to one
  pub led-live : (v : LinkWord) (x y : ℕ) → through L v x ≡ y → y ≢ 0 → Live y
  led-live v x y e n = go v.second e
    where
      go : (s : Option ℕ) → through_second L s (L v.first x) ≡ y → Live y
      go None f = subst Live f (to v.first x (λ z. n (sym f ∙ z)))
      go (Some j) f = subst Live f (to j (L v.first x) (λ z. n (sym f ∙ z)))

  -- the orbit of a live dart along words holds live darts alone
  pub orbit-live : (W : LinkWord → Type 0) (d x : ℕ) → Live d → InOrbit (Leads L W) d x → Live x
  orbit-live W d x h here = h
  orbit-live W d x h (onward {x = u} {y = y} o s) = led-live s.0 u y s.2 s.3

  -- and so does its orbit along links
  pub links-live : (J : ℕ → Type 0) (d x : ℕ) → Live d → InOrbit (IsLinkedBy L J) d x → Live x
  links-live J d x h here = h
  links-live J d x h (onward {x = u} {y = v} o (j, a, e, n)) = subst Live e (to j u (λ z. n (sym e ∙ z)))

  module _ (made : ℕ) (counted : IsCounted made Live) where
    -- no link leads above made
    pub link-low : (t x : ℕ) → L t x ≤ made
    link-low t x = ⊎_elim (λ (e : L t x ≡ 0). omega arith) (λ (n : L t x ≢ 0). (counted (L t x) (to t x n)).1) (same_or_not (L t x) 0)

    -- the orbit of a live dart lies below too
    pub orbit-low : (W : LinkWord → Type 0) (d x : ℕ) → Live d → InOrbit (Leads L W) d x → x ≤ made
    orbit-low W d x l o = (counted x (orbit-live W d x l o)).1

    -- so the darts of an orbit, numbered on from made, get fresh darts
    pub orbit-fresh : (k : Kind) → Laws k L → (W : LinkWord → Type 0) (d : ℕ) → Live d → (keys : List ℕ) (star : ℕ → ℕ)
        → IsNumbered (InOrbit (Leads L W) d) keys made star → IsFresh L (InOrbit (Leads L W) d) star
    orbit-fresh k w W d l keys star numbers = numbered_fresh (InOrbit (Leads L W) d) keys made star numbers L
        (λ x o. orbit-low W d x l o)
        (live_bound k L w Live to made counted)
