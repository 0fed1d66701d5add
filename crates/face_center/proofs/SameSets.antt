-- New darts for one set that is told in two ways.
use Rattle.std.proofs.Common.{ℕ, ◌↔◌, List}
use Rattle.map_defs.specs.Links.{Links}
use Rattle.map_defs.specs.Births.{IsNumbered, IsFresh}

pub numbered-same : (K P : ℕ → Type 0) (keys : List ℕ) (made : ℕ) (star : ℕ → ℕ) → ((x : ℕ) → K x ↔ P x) → IsNumbered K keys made star → IsNumbered P keys made star
numbered-same K P keys made star same m = record {
  nothing = m.nothing;
  ascending = m.ascending;
  members = λ x. (λ has. (same x).0 ((m.members x).0 has), λ p. (m.members x).1 ((same x).1 p));
  numbers = m.numbers;
}

pub fresh-same : (L : Links) (K P : ℕ → Type 0) (star : ℕ → ℕ) → ((x : ℕ) → K x ↔ P x) → IsFresh L K star → IsFresh L P star
fresh-same L K P star same f = record {
  nothing = f.nothing;
  dart = λ x p. f.dart x ((same x).1 p);
  one = λ x y p q. f.one x y ((same x).1 p) ((same y).1 q);
  outside = λ x p q. f.outside x ((same x).1 p) ((same (star x)).1 q);
  unlinked = λ t x p. f.unlinked t x ((same x).1 p);
}
