-- What signs say of single darts: all links of a live dart lead on and back, and each flips the sign.
use Rattle.std.proofs.Common.{ℕ, ◌≡◌, ◌≢◌, ◌⊎◌, ◌≤◌, ◌<◌, inl, inr, refl, sym, ap, ap₂, subst, ◌∙◌, List, length, get_or, Contains, Bool, true, false, not, true≢false, arith}
use Rattle.std.proofs.lemmas.List.{get_or-map, length-map}
use Rattle.std.proofs.lemmas.List.Elements.{Contains-get_or}
use Rattle.map_defs.specs.Kind.{alpha}
use Rattle.map_defs.specs.Links.{Links, LeadsToLive}
use Rattle.map_defs.specs.Laws.{Laws}
use Rattle.half_defs.specs.Orientation.{Sign, darts_of, IsPositive, IsOriented}

abbrev pub plus : ℕ → Sign
plus d = record { dart = d; positive = true }

abbrev dart_in : Sign → ℕ
dart_in sign = sign.dart

pub sign_is : (s t : Sign) → s.dart ≡ t.dart → s.positive ≡ t.positive → s ≡ t
sign_is s t e f = ap₂ sign_with e f
  where
    sign_with : ℕ → Bool → Sign
    sign_with d b = record { dart = d; positive = b }

pub dart_listed : (signs : List Sign) (s : Sign) → Contains signs s → Contains (darts_of signs) s.dart
dart_listed signs s h = (h.0, omega (arith, length-map signs dart_in, h.1), get_or-map dart_in signs h.0 s s.dart h.1 ∙ ap dart_in h.2)

pub sign_at : (signs : List Sign) (d : ℕ) → Contains (darts_of signs) d → (s : Sign) × Contains signs s × (s.dart ≡ d)
sign_at signs d h = (get_or signs h.0 (plus d), Contains-get_or signs h.0 (plus d) low, sym (get_or-map dart_in signs h.0 (plus d) d low) ∙ h.2)
  where
    low : h.0 < length signs
    low = omega (arith, length-map signs dart_in, h.1)

-- d is a live dart, or 0
abbrev pub IsLiveOrNone : (ℕ → Type 0) → ℕ → Type 0
IsLiveOrNone Live d = (d ≡ 0) ⊎ Live d

module _ (n : ℕ) (Live : ℕ → Type 0) (L : Links) (w : Laws alpha L) (to : LeadsToLive Live L) (signs : List Sign) (o : IsOriented n Live L signs) where
  pub live_some : (d : ℕ) → Live d → d ≢ 0
  live_some d h e = o.closed (d, 0, h, omega arith, ap (L 0) e ∙ w.nil 0)

  -- all links of a live dart lead on
  pub leads_on : (i d : ℕ) → i ≤ n → Live d → L i d ≢ 0
  leads_on i d l h e = o.closed (d, i, h, l, e)

  pub led_live : (i d : ℕ) → i ≤ n → Live d → Live (L i d)
  led_live i d l h = to i d (leads_on i d l h)

  -- and each of them leads back
  pub twice : (i d : ℕ) → i ≤ n → IsLiveOrNone Live d → L i (L i d) ≡ d
  twice i d l (inl e) = let z = w.nil i in cc
  twice i d l (inr h) = w.back i d (leads_on i d l h)

  pub led : (i d : ℕ) → i ≤ n → IsLiveOrNone Live d → IsLiveOrNone Live (L i d)
  led i d l (inl e) = inl (ap (L i) e ∙ w.nil i)
  led i d l (inr h) = inr (led_live i d l h)

  pub positive_lives : (d : ℕ) → IsPositive signs d → Live d
  positive_lives d p = (o.signed.members d).0 (dart_listed signs (plus d) p)

  -- a link of a positive dart leads to a dart that is not positive
  pub flipped : (i d : ℕ) → i ≤ n → IsPositive signs d → IsPositive signs (L i d) → ⊥
  flipped i d l p q = true≢false (o.signed.flips (plus d) (plus (L i d)) i p q l refl)

  -- and two links lead to a positive dart again
  pub flipped_twice : (i j d : ℕ) → i ≤ n → j ≤ n → IsPositive signs d → IsPositive signs (L j (L i d))
  flipped_twice i j d li lj p =
      let hs : (s : Sign) × Contains signs s × (s.dart ≡ L i d) = sign_at signs (L i d) ((o.signed.members (L i d)).1 there) in
      let ht : (t : Sign) × Contains signs t × (t.dart ≡ L j (L i d)) = sign_at signs (L j (L i d)) ((o.signed.members (L j (L i d))).1 (led_live j (L i d) lj there)) in
      let minus : hs.0.positive ≡ false = o.signed.flips (plus d) hs.0 i p hs.1 li (sym hs.2) in
      let again : ht.0.positive ≡ not hs.0.positive = o.signed.flips hs.0 ht.0 j hs.1 ht.1 lj (ap (L j) hs.2 ∙ sym ht.2) in
      subst (Contains signs) (sign_is ht.0 (plus (L j (L i d))) ht.2 (again ∙ ap not minus)) ht.1
    where
      there : Live (L i d)
      there = led_live i d li (positive_lives d p)
