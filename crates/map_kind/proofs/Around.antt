-- The words of a vertex of a combinatorial map, collected from its nearest links outwards; and the words of its cells.
use Rattle.std.proofs.Common.{◌≡◌, ◌≢◌, ℕ, zero, suc, ◌+◌, ◌≤◌, ◌<◌, ◌↔◌, ◌⊎◌, List, [], ◌∷◌, ◌++◌, Contains, refl, sym, ap, ap₂, ◌∙◌, subst, inl, inr, arith}
use Rattle.std.proofs.lemmas.Bool.{cases_lt}
use Rattle.std.proofs.lemmas.List.Elements.{Contains-append_left, Contains-push, Contains-push_cases}
use Rattle.map_defs.specs.Kind.{beta, inverse}
use Rattle.map_defs.specs.LinkWords.{LinkWord, one_link, two_links, inverse_word, RunsAlong, IsCellWord, IsWithin}
use Rattle.map_kind.specs.KindLaws.{inverse-inverse}
use Rattle.map_kind.specs.VertexWords.{IsVertexWordOf, IsVertexWordTo, IsVertexWordBelow}

-- the words before, and those of a vertex up to a farther link and a nearer one below a bound
pub record HasNear (before : List LinkWord) (far bound : ℕ) (words : List LinkWord) : Type 0 where
  pub sound : (w : LinkWord) → Contains words w → Contains before w ⊎ IsVertexWordTo bound far w
  pub old : (w : LinkWord) → Contains before w → Contains words w
  pub whole : (w : LinkWord) → IsVertexWordTo bound far w → Contains words w

pub near-none : (before : List LinkWord) (far : ℕ) → HasNear before far 1 before
near-none before far = record { sound = λ w has. inl has; old = λ w has. has; whole = λ w s. absurd (omega (arith, s.1, s.2)) }

pub near-more : (before : List LinkWord) (far near : ℕ) (words : List LinkWord) → 1 ≤ near → HasNear before far near words
    → HasNear before far (near + 1) ((words ++ two_links far near ∷ []) ++ two_links (inverse beta near) far ∷ [])
near-more before far near words low h = record {
  sound = λ w has. last w (Contains-push_cases (words ++ two_links far near ∷ []) (two_links (inverse beta near) far) w has);
  old = λ w has. kept w (h.old w has);
  whole = λ w s. whole w s (cases_lt s.0 near);
}
  where
    kept : (w : LinkWord) → Contains words w → Contains ((words ++ two_links far near ∷ []) ++ two_links (inverse beta near) far ∷ []) w
    kept w has = Contains-append_left (words ++ two_links far near ∷ []) (two_links (inverse beta near) far ∷ []) w (Contains-append_left words (two_links far near ∷ []) w has)

    further : (w : LinkWord) → Contains before w ⊎ IsVertexWordTo near far w → Contains before w ⊎ IsVertexWordTo (near + 1) far w
    further w (inl has) = inl has
    further w (inr s) = inr (s.0, s.1, omega (arith, s.2), s.3)

    first : (w : LinkWord) → Contains words w ⊎ (two_links far near ≡ w) → Contains before w ⊎ IsVertexWordTo (near + 1) far w
    first w (inl has) = further w (h.sound w has)
    first w (inr is) = inr (near, low, omega arith, inl (sym is))

    last : (w : LinkWord) → Contains (words ++ two_links far near ∷ []) w ⊎ (two_links (inverse beta near) far ≡ w) → Contains before w ⊎ IsVertexWordTo (near + 1) far w
    last w (inl has) = first w (Contains-push_cases words (two_links far near) w has)
    last w (inr is) = inr (near, low, omega arith, inr (sym is))

    new : (m : ℕ) → m ≡ near → (w : LinkWord) → IsVertexWordOf m far w → Contains ((words ++ two_links far near ∷ []) ++ two_links (inverse beta near) far ∷ []) w
    new m here w (inl is) =
        subst (Contains ((words ++ two_links far near ∷ []) ++ two_links (inverse beta near) far ∷ [])) (sym (is ∙ ap (two_links far) here))
        (Contains-append_left (words ++ two_links far near ∷ []) (two_links (inverse beta near) far ∷ []) (two_links far near) (Contains-push words (two_links far near)))
    new m here w (inr is) =
        subst (Contains ((words ++ two_links far near ∷ []) ++ two_links (inverse beta near) far ∷ [])) (sym (is ∙ ap (λ j. two_links (inverse beta j) far) here))
        (Contains-push (words ++ two_links far near ∷ []) (two_links (inverse beta near) far))

    whole : (w : LinkWord) (s : IsVertexWordTo (near + 1) far w) → (s.0 < near) ⊎ (near ≤ s.0) → Contains ((words ++ two_links far near ∷ []) ++ two_links (inverse beta near) far ∷ []) w
    whole w s (inl below) = kept w (h.whole w (s.0, s.1, below, s.3))
    whole w s (inr from) = let here : s.0 ≡ near = omega (arith, from, s.2) in new s.0 here w s.3

pub near-all : (before : List LinkWord) (far bound : ℕ) (words : List LinkWord) → bound ≡ far → HasNear before far bound words
    → (w : LinkWord) → Contains words w ↔ (Contains before w ⊎ IsVertexWordTo far far w)
near-all before far bound words is h w = (λ has. subst (λ b. Contains before w ⊎ IsVertexWordTo b far w) is (h.sound w has), λ s. back s)
  where
    back : Contains before w ⊎ IsVertexWordTo far far w → Contains words w
    back (inl has) = h.old w has
    back (inr s) = h.whole w (subst (λ b. IsVertexWordTo b far w) (sym is) s)

-- the words of a vertex whose farther link is below a bound
abbrev pub AreBelow : ℕ → List LinkWord → Type 0
AreBelow bound words = (w : LinkWord) → Contains words w ↔ IsVertexWordBelow bound w

pub below-none : AreBelow 2 []
below-none w = (λ has. absurd (omega (arith, has.1)), λ s. absurd (let low = s.2.1 in let near = s.2.2 in omega (arith, s.1, low, near)))

pub below-more : (far : ℕ) (words more : List LinkWord) → AreBelow far words → ((w : LinkWord) → Contains more w ↔ (Contains words w ⊎ IsVertexWordTo far far w)) → AreBelow (far + 1) more
below-more far words more below adds w = (λ has. to ((adds w).0 has), λ s. (adds w).1 (from s (cases_lt s.0 far)))
  where
    to : Contains words w ⊎ IsVertexWordTo far far w → IsVertexWordBelow (far + 1) w
    to (inl has) = let s = (below w).0 has in (s.0, omega (arith, s.1), s.2)
    to (inr s) = (far, omega arith, s)

    from : (s : IsVertexWordBelow (far + 1) w) → (s.0 < far) ⊎ (far ≤ s.0) → Contains words w ⊎ IsVertexWordTo far far w
    from s (inl lower) = inl ((below w).1 (s.0, lower, s.2))
    from s (inr at) = inr (let here : s.0 ≡ far = omega (arith, at, s.1) in subst (λ f. IsVertexWordTo f f w) here s.2)

-- a bound of at most 2 leaves no words
pub below-all : (far bound : ℕ) (words : List LinkWord) → bound ≤ far → (far ≤ bound) ⊎ (far ≤ 2) → AreBelow far words → AreBelow bound words
below-all far bound words least end below w = (λ has. to ((below w).0 has) end, λ s. (below w).1 (s.0, omega (arith, least, s.1), s.2))
  where
    to : IsVertexWordBelow far w → (far ≤ bound) ⊎ (far ≤ 2) → IsVertexWordBelow bound w
    to s (inl most) = (s.0, omega (arith, most, s.1), s.2)
    to s (inr low) = absurd (let first = s.2.1 in let next = s.2.2 in omega (arith, low, s.1, first, next))
