-- The sides of a path, place by place.
use Rattle.std.proofs.Common.{ℕ, zero, suc, Bool, true, ◌≡◌, ◌≢◌, ◌+◌, ◌<◌, ◌≤◌, ◌⊎◌, ◌↔◌, List, [], ◌∷◌, ◌++◌, length, slice_index, Contains, refl, sym, ap, ◌∙◌, subst, inl, inr, eq-eqb, arith}
use Rattle.std.proofs.lemmas.Bool.{cases_lt, ne_eqb}
use Rattle.std.proofs.lemmas.List.Elements.{Contains-append_left, Contains-push, Contains-push_cases}
use Rattle.map_defs.specs.Kind.{Kind, alpha, beta, inverse}
use Rattle.map_defs.specs.Links.{Links}
use Rattle.map_defs.specs.Laws.{Laws}
use Rattle.map_defs.specs.LinkWords.{LinkWord, through, inverse_word}
use Rattle.map_defs.specs.Cells.{InOrbit, here, onward, Leads}
use Rattle.map_defs.specs.Insertion.{IsNext, inside, around, IsLinkedBy, IsVertexWord, FaceSeed, IsJoining, IsClosedPath, IsOnOneVolume}
use Rattle.link_laws.proofs.Basics.{same_or_not}
use Rattle.link_laws.proofs.Orbits.{orbit_back, orbit_trans, orbit_dart, orbit_map}
use Rattle.link_laws.proofs.CellFacts.{word_back}
use Rattle.insert_laws.proofs.Paths.{held_is, next_held, has_next}
use Rattle.sewing.specs.Triples.{Triple, Lists}
use Rattle.cell_edit.specs.Circles.{next_place, vertex_words, side_seed}
use Rattle.cell_edit.proofs.AlongLinks.{orbit-wider, links-orbit, words-orbit, one-two, up-to-two}

-- ---- the side after each side
place-on : (count p : ℕ) → p + 1 ≢ count → next_place count p ≡ suc p
place-on count p inner = rw (ne_eqb (p + 1) count inner) (omega arith)

place-round : (count p : ℕ) → p + 1 ≡ count → next_place count p ≡ 0
place-round count p last = rw (eq-eqb (p + 1) count last) refl

pub next-at : (path : List ℕ) (p : ℕ) → p < length path → IsNext path (slice_index path p) (slice_index path (next_place (length path) p))
next-at path p low = elim (same_or_not (p + 1) (length path)) [
  | inl last ↦ rw (place-round (length path) p last) (around p (omega arith))
  | inr inner ↦ rw (place-on (length path) p inner) (inside p (omega arith))
]

pub at-next : (path : List ℕ) (b c : ℕ) → IsNext path b c → (p : ℕ) × (p < length path) × (b ≡ slice_index path p) × (c ≡ slice_index path (next_place (length path) p))
at-next path b c (inside p low) = (p, omega arith, refl, ap (slice_index path) (sym (place-on (length path) p (omega arith))))
at-next path b c (around p last) = (p, omega arith, refl, ap (slice_index path) (sym (place-round (length path) p (omega arith))))

-- ---- a path is closed where each place is
module _ (k : Kind) (L : Links) (path : List ℕ) where
  pub closed-at : IsClosedPath k L path → (p : ℕ) → p < length path → IsJoining k L (slice_index path p) (slice_index path (next_place (length path) p))
  closed-at closed p low = closed (slice_index path p) (slice_index path (next_place (length path) p)) (next-at path p low)

pub closed-ends : (L : Links) (path : List ℕ) → IsClosedPath alpha L path → (b : ℕ) → Contains path b → L 0 b ≢ 0
closed-ends L path closed b has = let next = has_next path b has in (closed b next.0 next.1).0

-- ---- the vertices of a volume
word-listed : (w : LinkWord) → IsVertexWord w → Contains (vertex_words beta) w
word-listed w (inl is) = (0, omega arith, sym is)
word-listed w (inr is) = (1, omega arith, sym is)

listed-word : (w : LinkWord) → Contains (vertex_words beta) w → IsVertexWord w
listed-word w (zero, low, is) = inl (sym is)
listed-word w (suc zero, low, is) = inr (sym is)
listed-word w (suc (suc p), low, is) = absurd (omega arith)

-- where the words lead around the vertex
AroundVertex : Kind → Links → ℕ → ℕ → Type 0
AroundVertex alpha L = InOrbit (IsLinkedBy L (λ j. (j ≡ 1) ⊎ (j ≡ 2)))
AroundVertex beta L = InOrbit (Leads L IsVertexWord)

vertex-orbit : (k : Kind) (L : Links) (d y : ℕ) → InOrbit (Leads L (Contains (vertex_words k))) d y ↔ AroundVertex k L d y
unfolding AroundVertex
vertex-orbit alpha L d y =
    let words = words-orbit L (1 ∷ 2 ∷ []) d y in
    let links = links-orbit L (Contains (1 ∷ 2 ∷ [])) (λ j. (j ≡ 1) ⊎ (j ≡ 2)) (λ j x has some. (one-two j).0 has) (λ j x among some. (one-two j).1 among) d y in
    (λ o. links.0 (words.0 o), λ o. words.1 (links.1 o))
vertex-orbit beta L d y = (
  orbit-wider (Leads L (Contains (vertex_words beta))) (Leads L IsVertexWord) (λ u v s. (s.0, listed-word s.0 s.1, s.2, s.3)) d y,
  orbit-wider (Leads L IsVertexWord) (Leads L (Contains (vertex_words beta))) (λ u v s. (s.0, word-listed s.0 s.1, s.2, s.3)) d y,
)

-- a side that joins another ends, and words lead around the vertex there
joining-parts : (k : Kind) (L : Links) (b c : ℕ) → IsJoining k L b c ↔ ((L (inverse k 0) b ≢ 0) × AroundVertex k L c (L (inverse k 0) b))
unfolding AroundVertex
joining-parts alpha L b c = (λ j. j, λ j. j)
joining-parts beta L b c = (λ j. j, λ j. j)

pub joining-end : (k : Kind) (L : Links) (b c : ℕ) → IsJoining k L b c → L (inverse k 0) b ≢ 0
joining-end k L b c j = ((joining-parts k L b c).0 j).0

pub joining-tells : (k : Kind) (L : Links) (b c e : ℕ) (r : Bool) → e ≡ L (inverse k 0) b → e ≢ 0 → ((r ≡ true) ↔ InOrbit (Leads L (Contains (vertex_words k))) c e) → (r ≡ true) ↔ IsJoining k L b c
joining-tells k L b c e r is some tells = (
  λ yes. (joining-parts k L b c).1 (λ none. some (is ∙ none), subst (AroundVertex k L c) is ((vertex-orbit k L c e).0 (tells.0 yes))),
  λ j. tells.1 ((vertex-orbit k L c e).1 (subst (AroundVertex k L c) (sym is) ((joining-parts k L b c).0 j).1)),
)

-- ---- a closed path lies on one side of one volume
-- from a dart around a vertex back, along links of the volume
around-back : (k : Kind) (L : Links) → Laws k L → (c e : ℕ) → c ≢ 0 → AroundVertex k L c e → InOrbit (IsLinkedBy L (λ j. j ≤ 2)) e c
unfolding AroundVertex
around-back alpha L w c e dart o =
    orbit-wider (IsLinkedBy L (λ j. (j ≡ 1) ⊎ (j ≡ 2))) (IsLinkedBy L (λ j. j ≤ 2)) wider e c
    (orbit_back (IsLinkedBy L (λ j. (j ≡ 1) ⊎ (j ≡ 2))) (λ x y s. s.3) back c e dart o)
  where
    vertex : (j : ℕ) → (j ≡ 1) ⊎ (j ≡ 2) → j ≤ 2
    vertex j (inl e) = omega arith
    vertex j (inr e) = omega arith

    wider : (x y : ℕ) → IsLinkedBy L (λ j. (j ≡ 1) ⊎ (j ≡ 2)) x y → IsLinkedBy L (λ j. j ≤ 2) x y
    wider x y (j, among, is, some) = (j, vertex j among, is, some)

    back : (x y : ℕ) → x ≢ 0 → IsLinkedBy L (λ j. (j ≡ 1) ⊎ (j ≡ 2)) x y → IsLinkedBy L (λ j. (j ≡ 1) ⊎ (j ≡ 2)) y x
    back x y some (j, among, is, there) = (j, among, ap (L j) (sym is) ∙ w.back j x (λ none. there (sym is ∙ none)), some)
around-back beta L w c e dart o =
    orbit_map (Leads L IsVertexWord) (IsLinkedBy L (λ j. j ≤ 2)) (λ x y s. s.3) two_steps e c (orbit_dart (Leads L IsVertexWord) (λ x y s. s.3) c e dart o)
    (orbit_back (Leads L IsVertexWord) (λ x y s. s.3) back c e dart o)
  where
    turned_word : (v : LinkWord) → IsVertexWord v → IsVertexWord (inverse_word beta v)
    turned_word v (inl is) = inr (ap (inverse_word beta) is)
    turned_word v (inr is) = inl (ap (inverse_word beta) is)

    back : (x y : ℕ) → x ≢ 0 → Leads L IsVertexWord x y → Leads L IsVertexWord y x
    back x y some (v, word, leads, there) = (inverse_word beta v, turned_word v word, word_back beta L w v x y leads there, some)

    -- first link i, and then link j
    along_two : (i j x y : ℕ) → i ≤ 2 → j ≤ 2 → L j (L i x) ≡ y → y ≢ 0 → InOrbit (IsLinkedBy L (λ t. t ≤ 2)) x y
    along_two i j x y first second is there =
        onward (onward here (i, first, refl, λ none. there (sym is ∙ ap (L j) none ∙ w.nil j))) (j, second, is, there)

    two_steps : (x y : ℕ) → x ≢ 0 → Leads L IsVertexWord x y → InOrbit (IsLinkedBy L (λ j. j ≤ 2)) x y
    two_steps x y some (v, inl is, leads, there) = along_two 2 1 x y (omega arith) (omega arith) (ap (λ u. through L u x) (sym is) ∙ leads) there
    two_steps x y some (v, inr is, leads, there) = along_two 0 2 x y (omega arith) (omega arith) (ap (λ u. through L u x) (sym is) ∙ leads) there

end-low : (k : Kind) → inverse k 0 ≤ 2
end-low alpha = omega arith
end-low beta = omega arith

pub closed-volume : (k : Kind) (L : Links) → Laws k L → (path : List ℕ) → ((b : ℕ) → Contains path b → b ≢ 0) → IsClosedPath k L path → IsOnOneVolume L path
closed-volume k L w path darts closed b has = subst (InOrbit (IsLinkedBy L (λ j. j ≤ 2)) (slice_index path 0)) (held_is path b has) (reach has.0 has.1)
  where
    on : (a c : ℕ) → IsNext path a c → InOrbit (IsLinkedBy L (λ j. j ≤ 2)) (slice_index path 0) a → InOrbit (IsLinkedBy L (λ j. j ≤ 2)) (slice_index path 0) c
    on a c next reached =
        let join = (joining-parts k L a c).0 (closed a c next) in
        orbit_trans (IsLinkedBy L (λ j. j ≤ 2)) (slice_index path 0) (L (inverse k 0) a) c (onward reached (inverse k 0, end-low k, refl, join.0))
        (around-back k L w c (L (inverse k 0) a) (darts c (next_held path a c next).1) join.1)

    reach : (p : ℕ) → p < length path → InOrbit (IsLinkedBy L (λ j. j ≤ 2)) (slice_index path 0) (slice_index path p)
    reach zero low = here
    reach (suc p) low = on (slice_index path p) (slice_index path (suc p)) (inside p low) (reach p (omega arith))

-- ---- the seeds of the sides before a place
abbrev pub IsSeedBelow : Kind → Links → List ℕ → ℕ → ℕ → ℕ → ℕ → Type 0
IsSeedBelow k L path q x y t = (p : ℕ) × (p < q) × (side_seed k L (slice_index path p) (slice_index path (next_place (length path) p)) ≡ record { x = x; y = y; t = t })

pub seeds-more : (k : Kind) (L : Links) (path : List ℕ) (q : ℕ) (s : Triple) (seeds : List Triple) → s ≡ side_seed k L (slice_index path q) (slice_index path (next_place (length path) q))
    → ((x y t : ℕ) → Lists seeds x y t ↔ IsSeedBelow k L path q x y t)
    → (x y t : ℕ) → Lists (seeds ++ s ∷ []) x y t ↔ IsSeedBelow k L path (q + 1) x y t
seeds-more k L path q s seeds at same x y t = (λ has. to (Contains-push_cases seeds s (record { x = x; y = y; t = t }) has), λ below. from below (cases_lt below.0 q))
  where
    to : Lists seeds x y t ⊎ (◌≡◌ {A = Triple} s (record { x = x; y = y; t = t })) → IsSeedBelow k L path (q + 1) x y t
    to (inl has) = let e = (same x y t).0 has in (e.0, omega (arith, e.1), e.2)
    to (inr is) = (q, omega arith, sym at ∙ is)

    from : (below : IsSeedBelow k L path (q + 1) x y t) → (below.0 < q) ⊎ (q ≤ below.0) → Lists (seeds ++ s ∷ []) x y t
    from below (inl low) = Contains-append_left seeds (s ∷ []) (record { x = x; y = y; t = t }) ((same x y t).1 (below.0, low, below.2))
    from below (inr past) =
        let e : q ≡ below.0 = omega (arith, below.1) in
        let here_is : s ≡ record { x = x; y = y; t = t } = at ∙ ap (λ p. side_seed k L (slice_index path p) (slice_index path (next_place (length path) p))) e ∙ below.2 in
        subst (Contains (seeds ++ s ∷ [])) here_is (Contains-push seeds s)

seed-first : (a b : Triple) → a ≡ b → b.x ≡ a.x
seed-first a b is = sym (ap (λ (q : Triple). q.x) is)

seed-second : (a b : Triple) → a ≡ b → b.y ≡ a.y
seed-second a b is = sym (ap (λ (q : Triple). q.y) is)

seed-link : (a b : Triple) → a ≡ b → b.t ≡ a.t
seed-link a b is = sym (ap (λ (q : Triple). q.t) is)

triple-is : (x y t u v s : ℕ) → x ≡ u → y ≡ v → t ≡ s → ◌≡◌ {A = Triple} (record { x = u; y = v; t = s }) (record { x = x; y = y; t = t })
triple-is x y t u v s a b c = cc

pub seeds-all : (k : Kind) (L : Links) (path : List ℕ) (q : ℕ) → q ≡ length path → (x y t : ℕ) → IsSeedBelow k L path q x y t ↔ FaceSeed k L path x y t
seeds-all alpha L path q past x y t = (to, from)
  where
    to : IsSeedBelow alpha L path q x y t → FaceSeed alpha L path x y t
    to (p, low, is) = (slice_index path p, rw (seed-second _ _ is) (next-at path p (omega arith)), seed-first _ _ is, seed-link _ _ is)

    from : FaceSeed alpha L path x y t → IsSeedBelow alpha L path q x y t
    from (b, next, from_is, link) =
        let at = at-next path b y next in
        (at.0, omega (arith, at.1), triple-is x y t (L 0 (slice_index path at.0)) (slice_index path (next_place (length path) at.0)) 1 (from_is ∙ ap (L 0) at.2) at.3 link)
seeds-all beta L path q past x y t = (to, from)
  where
    to : IsSeedBelow beta L path q x y t → FaceSeed beta L path x y t
    to (p, low, is) = (rw (seed-second _ _ is, seed-first _ _ is) (next-at path p (omega arith)), seed-link _ _ is)

    from : FaceSeed beta L path x y t → IsSeedBelow beta L path q x y t
    from (next, link) =
        let at = at-next path y x next in
        (at.0, omega (arith, at.1), triple-is x y t (slice_index path (next_place (length path) at.0)) (slice_index path at.0) 1 at.3 at.2 link)

-- ---- the darts of the volume of the first side
pub volume-of : (L : Links) (path volume : List ℕ) (start : ℕ) → start ≡ slice_index path 0
    → ((y : ℕ) → Contains volume y ↔ ((d : ℕ) × Contains (start ∷ []) d × InOrbit (IsLinkedBy L (Contains (0 ∷ 1 ∷ 2 ∷ []))) d y))
    → (y : ℕ) → Contains volume y ↔ InOrbit (IsLinkedBy L (λ j. j ≤ 2)) (slice_index path 0) y
volume-of L path volume start is members y = (
  λ has. to ((members y).0 has),
  λ o. (members y).1 (start, (0, omega arith, refl), subst (λ d. InOrbit (IsLinkedBy L (Contains (0 ∷ 1 ∷ 2 ∷ []))) d y) (sym is) ((orbit (slice_index path 0)).1 o)),
)
  where
    orbit : (d : ℕ) → InOrbit (IsLinkedBy L (Contains (0 ∷ 1 ∷ 2 ∷ []))) d y ↔ InOrbit (IsLinkedBy L (λ j. j ≤ 2)) d y
    orbit d = links-orbit L (Contains (0 ∷ 1 ∷ 2 ∷ [])) (λ j. j ≤ 2) (λ j x has some. (up-to-two j).0 has) (λ j x low some. (up-to-two j).1 low) d y

    to : (d : ℕ) × Contains (start ∷ []) d × InOrbit (IsLinkedBy L (Contains (0 ∷ 1 ∷ 2 ∷ []))) d y → InOrbit (IsLinkedBy L (λ j. j ≤ 2)) (slice_index path 0) y
    to (d, (zero, low, same), o) = subst (λ e. InOrbit (IsLinkedBy L (λ j. j ≤ 2)) e y) (sym same ∙ is) ((orbit d).0 o)
    to (d, (suc p, low, same), o) = absurd (omega arith)

pub listed-more : (volume path : List ℕ) (k : ℕ) → ((p : ℕ) → p < k → Contains volume (slice_index path p)) → Contains volume (slice_index path k) → (p : ℕ) → p < k + 1 → Contains volume (slice_index path p)
listed-more volume path k before now p low = elim (cases_lt p k) [
  | inl below ↦ before p below
  | inr past ↦ let e : k ≡ p = omega arith in subst (λ q. Contains volume (slice_index path q)) e now
]

pub listed-volume : (L : Links) (path volume : List ℕ) (k : ℕ) → length path ≤ k → ((y : ℕ) → Contains volume y ↔ InOrbit (IsLinkedBy L (λ j. j ≤ 2)) (slice_index path 0) y)
    → ((p : ℕ) → p < k → Contains volume (slice_index path p)) → IsOnOneVolume L path
listed-volume L path volume k past members each b has =
    (members b).0 (subst (Contains volume) (held_is path b has) (each has.0 (omega (arith, has.1))))
