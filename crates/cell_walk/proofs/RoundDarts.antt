-- The darts of a path or a ring, found both ways from a dart, besides none.
use Rattle.std.proofs.Common.{◌≡◌, ◌≢◌, ℕ, ◌<◌, ◌⊎◌, ◌↔◌, List, [], ◌∷◌, ◌++◌, length, get_or, Contains, sym, ap, ◌∙◌, subst, inr}
use Rattle.std.proofs.lemmas.List.Elements.{Contains-push}
use Rattle.map_defs.specs.Kind.{Kind}
use Rattle.map_defs.specs.Links.{Links}
use Rattle.map_defs.specs.LinkWords.{LinkWord}
use Rattle.map_defs.specs.Cells.{InOrbit, Leads}
use Rattle.cell_walk.specs.Ways.{IsEither, AreWays, IsFollowed}
use Rattle.cell_walk.proofs.OnWays.{gone-round}
use Rattle.cell_walk.proofs.Walks.{Contains-before, closed-none, orbit-alone}

pub begun-alone : (none start : List ℕ) (d : ℕ) → none ≡ [] → start ≡ none ++ d ∷ [] → start ≡ d ∷ []
begun-alone none start d empty is = is ∙ ap (λ xs. xs ++ d ∷ []) empty

pub begun-has : (start : List ℕ) (d : ℕ) → start ≡ d ∷ [] → Contains start d
begun-has start d is = subst (λ xs. Contains xs d) (sym is) (Contains-push [] d)

pub listed-has : (half : List ℕ) (last at : ℕ) → at < length half → last ≡ get_or half at last → Contains half last
listed-has half last at low is = (at, low, sym is)

module _ (k : Kind) (L : Links) (f g b c : LinkWord) (d : ℕ) (start half : List ℕ) (is : start ≡ d ∷ []) (one : IsFollowed k L f g d start half) where
  pub half-has : Contains half d
  half-has = Contains-before start half one.before d (begun-has start d is)

  pub round-found : (new : List ℕ) → AreWays k f g b c → IsFollowed k L b c d half new → (y : ℕ) → Contains new y ↔ InOrbit (Leads L (IsEither f b)) d y
  round-found new ways other y =
      let found = gone-round k L f g b c d [] half new ways (closed-none (Leads L (IsEither f b))) (subst (λ xs. IsFollowed k L f g d xs half) is one) other y in
      (λ has. orbit-alone (Leads L (IsEither f b)) d y (found.0 has), λ o. found.1 (inr o))

-- a word leads on to the dart of a number
pub led-on : (number next to : ℕ) → number ≡ to → next ≡ number → number ≢ 0 → (to ≡ next) × (next ≢ 0)
led-on number next to leads is dart = (sym (is ∙ leads), λ none. dart (sym is ∙ none))

-- a word leads back
pub led-back : (number to at end : ℕ) → number ≡ to → (number ≢ 0 → (number ≡ end) ⊎ (number ≡ at)) → (y : ℕ) → to ≡ y → y ≢ 0 → (y ≡ end) ⊎ (y ≡ at)
led-back number to at end leads back y is dart =
    subst (λ m. (m ≡ end) ⊎ (m ≡ at)) (leads ∙ is) (back (λ none. dart (sym (leads ∙ is) ∙ none)))
