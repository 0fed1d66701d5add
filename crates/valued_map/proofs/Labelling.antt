-- Where place for ids is made.
use Rattle.std.proofs.Common.{ℕ, ◌≡◌, arith}
use Rattle.store_defs.specs.Labelings.{Labeling, KeepsPlaces}
use Rattle.store_defs.specs.Groups.{Group}
use Rattle.label_laws.specs.Touching.{CanLabel}

-- it stays where places and darts stay
pub can-label-kept : (n : ℕ) (l m : Labeling) (g : Group) → m.made ≡ l.made → KeepsPlaces l m → CanLabel n l g → CanLabel n m g
can-label-kept n l m g made places can = record {
  low = can.low;
  places = (places g.dim).1 can.places;
  darts_in = λ d here. omega (arith, can.darts_in d here, made);
}
