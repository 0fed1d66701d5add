use Rattle.std.proofs.Common.{ℕ, ◌≡◌, ◌<◌, lit<, Option, Some, IsSome, inl, inr, refl, sym, ap, subst, ◌∙◌, arith}
use Rattle.std.proofs.lemmas.Bool.{cases_lt, false≢true}
use Rattle.std.proofs.lemmas.List.{get_or_past}
use Rattle.std.specs.Prelude.{None}
use Rattle.map_defs.specs.Rows.{IsLive}
use Rattle.map_defs.specs.Cells.{here}
use Rattle.map_defs.specs.Values.{Value}
use Rattle.store_defs.specs.Stores.{Store, value_of, IsHeld, IsPut}
use Rattle.store_defs.specs.Groups.{rule_at}
use Rattle.text_calls.proofs.transport_tests.carried.Goals as goal

-- an id that is held stays so where another is made
held-on : (old new : Store) (id other : ℕ) (value : Option Value) → IsHeld old id → value_of old other ≡ None → IsPut old new other value → IsHeld new id
held-on old new id other value held fresh put =
    subst (λ o. IsSome o) (sym (put.others id (λ same. false≢true (subst (λ o. IsSome o) (ap (value_of old) same ∙ fresh) held)))) held

held-made : (old new : Store) (id : ℕ) (value : Value) → IsPut old new id (Some value) → IsHeld new id
held-made old new id value put = subst (λ o. IsSome o) (sym put.here) refl

pub labels_of-requires-clause-three : goal.labels_of-requires-clause-three
labels_of-requires-clause-three g c =
    let one = held-made _ _ _ _ c.make-three.ensures.made in
    let two = held-on _ _ _ _ _ one c.make-two.ensures.fresh c.make-two.ensures.made in
    held-on _ _ _ _ _ two c.make-other.ensures.fresh c.make-other.ensures.made

pub labels_of-requires-clause-two : goal.labels_of-requires-clause-two
labels_of-requires-clause-two g c =
    let one = held-made _ _ _ _ c.make-two.ensures.made in
    held-on _ _ _ _ _ one c.make-other.ensures.fresh c.make-other.ensures.made

pub carry-requires : goal.carry-requires
carry-requires g c = (
  lit< tt,
  (
    lit< tt,
    (
      tt,
      (
        c.in_ok-rules.ensures,
        (
          c.in_ok-touched.ensures.live,
          (
            λ i d id live. c.in_ok-labels.ensures i d id,
            λ i ruled d live none. absurd (none d here (c.in_ok-touched.ensures.all i d (low i ruled) live)),
          ),
        ),
      ),
    ),
  ),
)
  where
    low : (i : ℕ) → IsSome (rule_at c.in_ok-rules.rules i) → i < 3
    low i ruled = elim (cases_lt i 3) [
      | inl lt ↦ lt
      | inr high ↦ absurd (false≢true (subst (λ o. IsSome o) (get_or_past c.in_ok-rules.rules i None (omega (arith, high, c.in_ok-rules.ensures))) ruled))
    ]
