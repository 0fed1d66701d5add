-- The fault that a `?` hands on.
use Rattle.std.proofs.Common.{◌≡◌, Result, Err, IsErrOf, sym, ◌∙◌}

Err-one : {T E : Type 0} (r : Result T E) (y z : E) → r ≡ Err y → r ≡ Err z → y ≡ z
Err-one r y z p q = cc

pub handed_on : {T E : Type 0} (r : Result T E) (z u : E) → (y : E) × (r ≡ Err y) × (y ≡ z) → IsErrOf r u → z ≡ u
handed_on r z u p is = sym p.2 ∙ Err-one r p.0 u p.1 is
