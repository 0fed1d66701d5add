-- What the walk of a pairing has found so far.
use Rattle.std.specs.Prelude.{ℕ, ◌≡◌, ◌≢◌, ◌⊎◌, ◌↔◌, Bool, nat_eq, ◌&&◌, List, [], ◌∷◌, ◌++◌, length, take, drop, Contains, Option, Some}
use Rattle.std.specs.List.{AllPairs, IsDistinct}
use Rattle.map_defs.specs.Kind.{Kind, inverse}
use Rattle.map_defs.specs.Links.{Links}
use Rattle.map_defs.specs.Pairs.{InPairs, IsGood}
use Rattle.sewing.specs.Triples.{Triple, Lists}

-- a dart's partner at a link is told exactly where the list has the triple
abbrev pub TellsTriples : (ℕ × ℕ → Option ℕ) → List Triple → Type 0
TellsTriples partner triples = (x y t : ℕ) → (partner (x, t) ≡ Some y) ↔ Lists triples x y t

-- whether a triple is that of dart x at link t
abbrev pub is_of : ℕ → ℕ → Triple → Bool
is_of x t triple = nat_eq triple.x x && nat_eq triple.t t

-- No two triples are of one dart and link, and the partners are told of just the triples beyond the first 16.
pub record IsKept (partner : ℕ × ℕ → Option ℕ) (triples : List Triple) : Type 0 where
  pub apart : IsDistinct (λ p q. is_of p.x p.t q) triples
  pub told : TellsTriples partner (drop 16 triples)

-- no two triples are of one dart and link
abbrev pub AreApart : List Triple → Type 0
AreApart triples = AllPairs (λ p q. p.x ≡ q.x → p.t ≡ q.t → ⊥) triples

-- the same said of the other dart
abbrev pub turn : Kind → Triple → Triple
turn k p = record { x = p.y; y = p.x; t = inverse k p.t }

-- Behind each triple stands the triple turned round, and no link that is its own inverse joins a dart to itself.
pub data IsTwofold (k : Kind) : List Triple → Type 0 where
  empty : IsTwofold k []
  both : {triples : List Triple} (p : Triple) → (inverse k p.t ≡ p.t → p.x ≢ p.y) → IsTwofold k triples → IsTwofold k (p ∷ turn k p ∷ triples)

-- the triple stands at the end of the list and the triple turned round behind it, unless the list had it
abbrev pub IsPairAdded : Kind → List Triple → List Triple → Triple → Type 0
IsPairAdded k old new p =
    (Contains old p × (new ≡ old)) ⊎ ((inverse k p.t ≡ p.t → p.x ≢ p.y) × (new ≡ old ++ p ∷ turn k p ∷ []))

-- the list gives dart x another partner than y at link t
abbrev pub HasOther : List Triple → ℕ → ℕ → ℕ → Type 0
HasOther triples x y t = (z : ℕ) × Lists triples x z t × (z ≢ y)

-- The list gives dart x another partner, or the triple joins a dart to itself, or the list gives dart y a partner there and
-- has not the triple.
abbrev pub FailsToPair : Kind → List Triple → ℕ → ℕ → ℕ → Type 0
FailsToPair k triples x y t =
    HasOther triples x y t
    ⊎ (((x ≡ y) × (inverse k t ≡ t)) ⊎ ((z : ℕ) × Lists triples y z (inverse k t) × (Lists triples x y t → ⊥)))

-- the pairs that grow from the seeds along the links of J can be joined
abbrev pub IsPairable : Kind → Links → (ℕ → Type 0) → (ℕ → ℕ → ℕ → Type 0) → Type 0
IsPairable k L J Seed = IsGood k L J (InPairs k L J Seed)

-- The list has the seeds, each with the seed turned round, and nothing else.
pub record IsListed (k : Kind) (seeds found : List Triple) : Type 0 where
  pub only : (x y t : ℕ) → Lists found x y t → Lists seeds x y t ⊎ Lists seeds y x (inverse k t)
  pub begun : (x y t : ℕ) → Lists seeds x y t → Lists found x y t
  pub twofold : IsTwofold k found

-- A seed cannot be added to a list of some seeds.
pub record FailsListed (k : Kind) (seeds : List Triple) : Type 0 where
  pub found : List Triple
  pub only : (x y t : ℕ) → Lists found x y t → Lists seeds x y t ⊎ Lists seeds y x (inverse k t)
  pub twofold : IsTwofold k found
  pub one : Triple
  pub listed : Contains seeds one
  pub fails : FailsToPair k found one.x one.y one.t

-- The links J are one link at most, which is its own inverse.
abbrev pub LeadsBack : Kind → (ℕ → Type 0) → Type 0
LeadsBack k J = (i j : ℕ) → J i → J j → (i ≡ j) × (inverse k j ≡ j)

-- link i is link j
abbrev pub IsLink : ℕ → ℕ → Type 0
IsLink j i = i ≡ j

-- link i is link j, or its inverse where the inverse is none of the links J
abbrev pub IsNewLink : Kind → (ℕ → Type 0) → ℕ → ℕ → Type 0
IsNewLink k J j i = (i ≡ j) ⊎ ((i ≡ inverse k j) × (J i → ⊥))

-- link i or its inverse is one of the links J
abbrev pub OrInverse : Kind → (ℕ → Type 0) → ℕ → Type 0
OrInverse k J i = J i ⊎ J (inverse k i)

-- The darts of a triple are alike free at link j, and where they are not, the triple across it is there.
pub record IsCrossed (k : Kind) (L : Links) (j : ℕ) (Has : ℕ → ℕ → ℕ → Type 0) (x y t : ℕ) : Type 0 where
  pub even : (L j x ≡ 0) ↔ (L (inverse k j) y ≡ 0)
  pub across : L j x ≢ 0 → L (inverse k j) y ≢ 0 → Has (L j x) (L (inverse k j) y) (inverse k t)

-- A triple was crossed along the links J: what stands across was added behind, and nothing that is not of its pairing.
pub record IsStepped (k : Kind) (L : Links) (J : ℕ → Type 0) (p : Triple) (old new : List Triple) : Type 0 where
  pub before : take (length old) new ≡ old
  pub only : (x y t : ℕ) → Lists new x y t → InPairs k L J (Lists old) x y t
  pub twofold : IsTwofold k new
  pub crossed : (j : ℕ) → J j → IsCrossed k L j (Lists new) p.x p.y p.t
