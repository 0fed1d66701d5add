-- Walks of a generalized map: they follow each other, lead back, and reach the darts of a component.
use Rattle.std.proofs.Common.{ℕ, suc, ◌≡◌, ◌≢◌, ◌+◌, ◌≤◌, ◌%◌, List, [], ◌∷◌, ◌++◌, length, length-append, refl, sym, ap, ◌∙◌, subst, inl, inr, arith}
use Rattle.std.specs.Prelude.{All}
use Rattle.std.proofs.lemmas.Bool.{cases_lt}
use Rattle.std.proofs.lemmas.List.Elements.{All-nil, All-cons, All-head, All-tail, All-append}
use Rattle.map_defs.specs.Kind.{alpha}
use Rattle.map_defs.specs.Links.{Links, HasDimension, LeadsToLive}
use Rattle.map_defs.specs.Laws.{Laws}
use Rattle.map_defs.specs.Cells.{here, onward, IsLinked, InComponent}
use Rattle.half_defs.specs.Orientation.{walked, IsOddWalk}
use Rattle.link_laws.proofs.Orbits.{orbit_trans}

-- some walk of so many links leads from d to x
pub record Walks (n : ℕ) (L : Links) (d count x : ℕ) : Type 0 where
  pub links : List ℕ
  pub within : All (λ i. i ≤ n) links
  pub ends : walked L d links ≡ x
  pub counted : length links ≡ count

pub walked_on : (L : Links) (d : ℕ) (first second : List ℕ) → walked L d (first ++ second) ≡ walked L (walked L d first) second
walked_on L d [] second = refl
walked_on L d (i ∷ first) second = walked_on L (L i d) first second

module _ (n : ℕ) (L : Links) where
  pub stays : (d : ℕ) → Walks n L d 0 d
  stays d = record { links = []; within = All-nil (λ i. i ≤ n); ends = refl; counted = refl }

  pub walk_link : (i d : ℕ) → i ≤ n → Walks n L d 1 (L i d)
  walk_link i d low = record { links = i ∷ []; within = All-cons (λ j. j ≤ n) i [] low (All-nil (λ j. j ≤ n)); ends = refl; counted = refl }

  pub walk_on : (d a x b y : ℕ) → Walks n L d a x → Walks n L x b y → Walks n L d (a + b) y
  walk_on d a x b y p q = record {
    links = p.links ++ q.links;
    within = All-append (λ i. i ≤ n) p.links q.links p.within q.within;
    ends = walked_on L d p.links q.links ∙ (ap (λ z. walked L z q.links) p.ends ∙ q.ends);
    counted = (let l = length-append p.links q.links in let a_is = p.counted in let b_is = q.counted in omega (arith, l, a_is, b_is));
  }

  module _ (w : Laws alpha L) where
    pub walked_none : (links : List ℕ) → walked L 0 links ≡ 0
    walked_none [] = refl
    walked_none (i ∷ links) = ap (λ z. walked L z links) (w.nil i) ∙ walked_none links

    back : (links : List ℕ) (d : ℕ) → All (λ i. i ≤ n) links → walked L d links ≢ 0 → Walks n L (walked L d links) (length links) d
    back [] d within dart = stays d
    back (i ∷ links) d within dart =
        let round : L i (L i d) ≡ d = w.back i d (λ free. dart (ap (λ z. walked L z links) free ∙ walked_none links)) in
        let rest = back links (L i d) (All-tail (λ j. j ≤ n) i links within) dart in
        let last : Walks n L (L i d) 1 d = subst (λ z. Walks n L (L i d) 1 z) round (walk_link i (L i d) (All-head (λ j. j ≤ n) i links within)) in
        let whole = walk_on (walked L d (i ∷ links)) (length links) (L i d) 1 d rest last in
        subst (λ k. Walks n L (walked L d (i ∷ links)) k d) (let e : length links + 1 ≡ suc (length links) = omega arith in e) whole

    pub walk_back : (d count x : ℕ) → x ≢ 0 → Walks n L d count x → Walks n L x count d
    walk_back d count x dart p =
        subst (λ z. Walks n L z count d) p.ends
        (subst (λ k. Walks n L (walked L d p.links) k d) p.counted (back p.links d p.within (λ none. dart (sym p.ends ∙ none))))

  -- the darts of a component are those to which walks lead
  component_along : (w : Laws alpha L) (links : List ℕ) (d : ℕ) → walked L d links ≢ 0 → InComponent L d (walked L d links)
  component_along w [] d dart = here
  component_along w (i ∷ links) d dart =
      let linked : L i d ≢ 0 = λ free. dart (ap (λ z. walked L z links) free ∙ walked_none w links) in
      orbit_trans (IsLinked L) d (L i d) (walked L d (i ∷ links)) (onward here (i, refl, linked)) (component_along w links (L i d) dart)

  pub walk_component : (w : Laws alpha L) (d count x : ℕ) → x ≢ 0 → Walks n L d count x → InComponent L d x
  walk_component w d count x dart p = subst (λ z. InComponent L d z) p.ends (component_along w p.links d (λ none. dart (sym p.ends ∙ none)))

  pub component_walk : HasDimension n L → (d x : ℕ) → InComponent L d x → (count : ℕ) × Walks n L d count x
  component_walk high d x here = (0, stays d)
  component_walk high d x (onward {x = u} {y = v} o (i, led, dart)) =
      let before = component_walk high d u o in
      (before.0 + 1, walk_on d before.0 u 1 v before.1 (subst (λ z. Walks n L u 1 z) led (walk_link i u (low led dart))))
    where
      low : L i u ≡ v → v ≢ 0 → i ≤ n
      low e some = elim (cases_lt n i) [ inl up ↦ absurd (some (sym e ∙ high i u up)) | inr within ↦ within ]

  pub component_live : (Live : ℕ → Type 0) → LeadsToLive Live L → (d x : ℕ) → Live d → InComponent L d x → Live x
  component_live Live leads d x live here = live
  component_live Live leads d x live (onward {x = u} {y = v} o (i, led, dart)) = subst Live led (leads i u (λ free. dart (sym led ∙ free)))

-- a walk of an odd number of links back to where it starts
pub odd_walk : (n : ℕ) (L : Links) (d count : ℕ) → Walks n L d count d → count % 2 ≡ 1 → (links : List ℕ) × IsOddWalk n L d links
odd_walk n L d count p odd = (p.links, record { within = p.within; closed = p.ends; odd = ap (λ k. k % 2) p.counted ∙ odd })

pub walk_odd : (n : ℕ) (L : Links) (d : ℕ) (links : List ℕ) → IsOddWalk n L d links → Walks n L d (length links) d
walk_odd n L d links odd = record { links = links; within = odd.within; ends = odd.closed; counted = refl }
