use Rattle.std.proofs.Common.{ℕ, zero, suc, ◌≡◌, ◌∙◌, ◌<◌, ◌++◌, List, [], ◌∷◌, Contains, map, sym, ap, subst, arith}
use Rattle.map_defs.specs.Rows.{IsLive}
use Rattle.store_defs.specs.Groups.{darts_in}
use Rattle.text_calls.proofs.transport_tests.all_touched.Goals as goal

one-of-three : (a b e : List ℕ) (i d : ℕ) → i < 3 → Contains a d → Contains b d → Contains e d → Contains (darts_in (a ∷ b ∷ e ∷ []) i) d
one-of-three a b e zero d low x y z = x
one-of-three a b e (suc zero) d low x y z = y
one-of-three a b e (suc (suc zero)) d low x y z = z
one-of-three a b e (suc (suc (suc i))) d low x y z = absurd (omega arith)

from-one-of-three : (a b e : List ℕ) (Live : ℕ → Type 0) → ((d : ℕ) → Contains a d → Live d) → ((d : ℕ) → Contains b d → Live d) → ((d : ℕ) → Contains e d → Live d) → (i d : ℕ)
    → Contains (darts_in (a ∷ b ∷ e ∷ []) i) d → Live d
from-one-of-three a b e Live x y z zero d h = x d h
from-one-of-three a b e Live x y z (suc zero) d h = y d h
from-one-of-three a b e Live x y z (suc (suc zero)) d h = z d h
from-one-of-three a b e Live x y z (suc (suc (suc i))) d h = let lt : h.0 < 0 = h.1 in absurd (omega arith)

pub returns-clause-live : goal.returns-clause-live
returns-clause-live g c = λ i d here.
    let one = c.in_ok-live_darts.field-0 in
    let two = c.in_ok-live_darts-2.field-0 in
    let three = c.in_ok-live_darts-3.field-0 in
    let first = c.in_ok-push.ensures.items ∙ ap (λ xs. xs ++ one ∷ []) c.new-by_dim.ensures.items in
    let second = c.in_ok-push-2.ensures.items ∙ ap (λ xs. xs ++ two ∷ []) first in
    let all = c.in_ok-push-3.ensures.items ∙ ap (λ xs. xs ++ three ∷ []) second in
    from-one-of-three one.items two.items three.items (IsLive c.args.links.now.rows)
    (λ x h. (c.in_ok-live_darts.ensures x).0 h) (λ x h. (c.in_ok-live_darts-2.ensures x).0 h) (λ x h. (c.in_ok-live_darts-3.ensures x).0 h) i d
    (subst (λ xs. Contains (darts_in (map (λ darts. darts.items) xs) i) d) all here)

pub returns-clause-all : goal.returns-clause-all
returns-clause-all g c = λ i d low live.
    let one = c.in_ok-live_darts.field-0 in
    let two = c.in_ok-live_darts-2.field-0 in
    let three = c.in_ok-live_darts-3.field-0 in
    let first = c.in_ok-push.ensures.items ∙ ap (λ xs. xs ++ one ∷ []) c.new-by_dim.ensures.items in
    let second = c.in_ok-push-2.ensures.items ∙ ap (λ xs. xs ++ two ∷ []) first in
    let all = c.in_ok-push-3.ensures.items ∙ ap (λ xs. xs ++ three ∷ []) second in
    subst (λ xs. Contains (darts_in (map (λ darts. darts.items) xs) i) d) (sym all)
    (one-of-three one.items two.items three.items i d low ((c.in_ok-live_darts.ensures d).1 live) ((c.in_ok-live_darts-2.ensures d).1 live) ((c.in_ok-live_darts-3.ensures d).1 live))
