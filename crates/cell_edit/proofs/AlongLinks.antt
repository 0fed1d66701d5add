-- Steps along single links, told by words, by lists of links and by sets of links.
use Rattle.std.proofs.Common.{ℕ, zero, suc, ◌≡◌, ◌≢◌, ◌<◌, ◌≤◌, ◌⊎◌, ◌↔◌, List, [], ◌∷◌, map, length, get_or, Contains, refl, sym, ap, ◌∙◌, inl, inr, arith}
use Rattle.std.specs.Prelude.{All}
use Rattle.std.proofs.lemmas.Bool.{cases_lt}
use Rattle.std.proofs.lemmas.List.{get_or-map, length-map}
use Rattle.std.proofs.lemmas.List.Elements.{All-map, Contains-get_or}
use Rattle.map_defs.specs.Links.{Links, HasDimension}
use Rattle.map_defs.specs.LinkWords.{one_link, through, IsWithin}
use Rattle.map_defs.specs.Cells.{InOrbit, here, onward, Leads}
use Rattle.map_defs.specs.Insertion.{IsLinkedBy}

-- an orbit grows with its steps
pub orbit-wider : (Step Other : ℕ → ℕ → Type 0) → ((x y : ℕ) → Step x y → Other x y) → (d y : ℕ) → InOrbit Step d y → InOrbit Other d y
orbit-wider Step Other f d y here = here
orbit-wider Step Other f d y (onward {x = u} {y = v} o s) = onward (orbit-wider Step Other f d u o) (f u v s)

-- ---- words of one link
pub one-links-within : (n : ℕ) (js : List ℕ) → All (λ (j : ℕ). j ≤ n) js → All (IsWithin n) (map one_link js)
one-links-within n js low = All-map (IsWithin n) one_link js (λ p d h. (low p d h, tt))

words-step : (L : Links) (js : List ℕ) (x y : ℕ) → Leads L (Contains (map one_link js)) x y → IsLinkedBy L (Contains js) x y
words-step L js x y (w, (p, low, is), leads, dart) =
    let within : p < length js = omega (arith, length-map js one_link) in
    let word : one_link (get_or js p 0) ≡ w = sym (get_or-map one_link js p 0 w within) ∙ is in
    (get_or js p 0, Contains-get_or js p 0 within, ap (λ v. through L v x) word ∙ leads, dart)

step-words : (L : Links) (js : List ℕ) (x y : ℕ) → IsLinkedBy L (Contains js) x y → Leads L (Contains (map one_link js)) x y
step-words L js x y (j, (p, low, is), leads, dart) =
    (one_link j, (p, omega (arith, length-map js one_link), get_or-map one_link js p j (one_link j) low ∙ ap one_link is), leads, dart)

pub words-orbit : (L : Links) (js : List ℕ) (d y : ℕ) → InOrbit (Leads L (Contains (map one_link js))) d y ↔ InOrbit (IsLinkedBy L (Contains js)) d y
words-orbit L js d y = (
  orbit-wider (Leads L (Contains (map one_link js))) (IsLinkedBy L (Contains js)) (words-step L js) d y,
  orbit-wider (IsLinkedBy L (Contains js)) (Leads L (Contains (map one_link js))) (step-words L js) d y,
)

-- ---- sets of links that agree where links are not free
linked-along : (L : Links) (J H : ℕ → Type 0) → ((j x : ℕ) → J j → L j x ≢ 0 → H j) → (x y : ℕ) → IsLinkedBy L J x y → IsLinkedBy L H x y
linked-along L J H f x y (j, among, is, dart) = (j, f j x among (λ none. dart (sym is ∙ none)), is, dart)

pub links-orbit : (L : Links) (J H : ℕ → Type 0) → ((j x : ℕ) → J j → L j x ≢ 0 → H j) → ((j x : ℕ) → H j → L j x ≢ 0 → J j)
    → (d y : ℕ) → InOrbit (IsLinkedBy L J) d y ↔ InOrbit (IsLinkedBy L H) d y
links-orbit L J H to from d y = (
  orbit-wider (IsLinkedBy L J) (IsLinkedBy L H) (linked-along L J H to) d y,
  orbit-wider (IsLinkedBy L H) (IsLinkedBy L J) (linked-along L H J from) d y,
)

-- a link that is not free is one of the map
pub linked-within : (n : ℕ) (L : Links) → HasDimension n L → (j x : ℕ) → L j x ≢ 0 → j ≤ n
linked-within n L above j x some = elim (cases_lt n j) [ inl high ↦ absurd (some (above j x high)) | inr low ↦ low ]

-- the orbits along the links of a set up to the dimension
pub listed-orbit : (n : ℕ) (L : Links) → HasDimension n L → (J : ℕ → Type 0) (js : List ℕ) → ((j : ℕ) → Contains js j ↔ ((j ≤ n) × J j))
    → (d y : ℕ) → InOrbit (IsLinkedBy L (Contains js)) d y ↔ InOrbit (IsLinkedBy L J) d y
listed-orbit n L above J js listed = links-orbit L (Contains js) J (λ j x has some. ((listed j).0 has).1) (λ j x among some. (listed j).1 (linked-within n L above j x some, among))

pub listed-low : (n : ℕ) (J : ℕ → Type 0) (js : List ℕ) → ((j : ℕ) → Contains js j ↔ ((j ≤ n) × J j)) → All (λ (j : ℕ). j ≤ n) js
listed-low n J js listed p d h = ((listed (get_or js p d)).0 (Contains-get_or js p d h)).0

-- ---- short lists of links
pub zero-one : (j : ℕ) → Contains (0 ∷ 1 ∷ []) j ↔ (j ≤ 1)
zero-one j = (to, λ low. from j low)
  where
    to : Contains (0 ∷ 1 ∷ []) j → j ≤ 1
    to (zero, low, is) = omega arith
    to (suc zero, low, is) = omega arith
    to (suc (suc p), low, is) = absurd (omega arith)

    from : (i : ℕ) → i ≤ 1 → Contains (0 ∷ 1 ∷ []) i
    from zero low = (0, omega arith, refl)
    from (suc zero) low = (1, omega arith, refl)
    from (suc (suc i)) low = absurd (omega arith)

pub one-two : (j : ℕ) → Contains (1 ∷ 2 ∷ []) j ↔ ((j ≡ 1) ⊎ (j ≡ 2))
one-two j = (to, from)
  where
    to : Contains (1 ∷ 2 ∷ []) j → (j ≡ 1) ⊎ (j ≡ 2)
    to (zero, low, is) = inl (sym is)
    to (suc zero, low, is) = inr (sym is)
    to (suc (suc p), low, is) = absurd (omega arith)

    from : (j ≡ 1) ⊎ (j ≡ 2) → Contains (1 ∷ 2 ∷ []) j
    from (inl e) = rw e (0, omega arith, refl)
    from (inr e) = rw e (1, omega arith, refl)

pub up-to-two : (j : ℕ) → Contains (0 ∷ 1 ∷ 2 ∷ []) j ↔ (j ≤ 2)
up-to-two j = (to, λ low. from j low)
  where
    to : Contains (0 ∷ 1 ∷ 2 ∷ []) j → j ≤ 2
    to (zero, low, is) = omega arith
    to (suc zero, low, is) = omega arith
    to (suc (suc zero), low, is) = omega arith
    to (suc (suc (suc p)), low, is) = absurd (omega arith)

    from : (i : ℕ) → i ≤ 2 → Contains (0 ∷ 1 ∷ 2 ∷ []) i
    from zero low = (0, omega arith, refl)
    from (suc zero) low = (1, omega arith, refl)
    from (suc (suc zero)) low = (2, omega arith, refl)
    from (suc (suc (suc i))) low = absurd (omega arith)
