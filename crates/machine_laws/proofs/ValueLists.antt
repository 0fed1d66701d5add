-- The valued cells of a content are one list.
use Rattle.std.proofs.Common.{◌≡◌, ℕ, zero, suc, ◌<◌, ◌⊎◌, List, [], ◌∷◌, length, get_or, refl, sym, ap, ◌∙◌, subst, inl, inr, arith, Contains}
use Rattle.machine_defs.specs.State.{Content}
use Rattle.machine_defs.specs.Listing.{ListValue, ListsValues, ListsValuesIn, IsBefore}

abbrev Value' : Type 0
Value' = ListValue

-- a list whose elements come one before another
abbrev IsOrdered : List ListValue → Type 0
IsOrdered values = (j k : ℕ) (d : ListValue) → j < k → k < length values → IsBefore (get_or values j d) (get_or values k d)

contains-cons : (v w : ListValue) (vs : List ListValue) → Contains (v ∷ vs) w → (w ≡ v) ⊎ Contains vs w
contains-cons v w vs (zero, h, e) = inl (sym e)
contains-cons v w vs (suc k, h, e) = inr (k, omega arith, e)

contains-here : (v : ListValue) (vs : List ListValue) → Contains (v ∷ vs) v
contains-here v vs = (zero, omega arith, refl)

contains-there : (v w : ListValue) (vs : List ListValue) → Contains vs w → Contains (v ∷ vs) w
contains-there v w vs (k, h, e) = (suc k, omega arith, e)

before-irreflexive : (v : ListValue) → IsBefore v v → ⊥
before-irreflexive v (inl h) = omega arith
before-irreflexive v (inr h) = let below = h.1 in omega arith

before-asymmetric : (v w : ListValue) → IsBefore v w → IsBefore w v → ⊥
before-asymmetric v w (inl h) (inl k) = omega arith
before-asymmetric v w (inl h) (inr k) = let e = k.0 in omega arith
before-asymmetric v w (inr h) (inl k) = let e = h.0 in omega arith
before-asymmetric v w (inr h) (inr k) = let p = h.1 in let q = k.1 in omega arith

tail-ordered : (v : ListValue) (vs : List ListValue) → IsOrdered (v ∷ vs) → IsOrdered vs
tail-ordered v vs o = λ j k d h within. o (suc j) (suc k) d (omega arith) (omega arith)

head-before : (v w : ListValue) (vs : List ListValue) → IsOrdered (v ∷ vs) → Contains vs w → IsBefore v w
head-before v w vs o (k, h, e) = subst (IsBefore v) e (o zero (suc k) w (omega arith) (omega arith))

same-head : (v w : ListValue) (vs ws : List ListValue) → IsOrdered (v ∷ vs) → IsOrdered (w ∷ ws)
    → (v ≡ w) ⊎ Contains ws v → (w ≡ v) ⊎ Contains vs w → v ≡ w
same-head v w vs ws o p (inl e) k = e
same-head v w vs ws o p (inr h) (inl e) = sym e
same-head v w vs ws o p (inr h) (inr k) = absurd (before-asymmetric w v (head-before w v ws p h) (head-before v w vs o k))

tail-member : (v x : ListValue) (vs ws : List ListValue) → IsOrdered (v ∷ vs) → Contains vs x → (x ≡ v) ⊎ Contains ws x → Contains ws x
tail-member v x vs ws o h (inr k) = k
tail-member v x vs ws o h (inl e) = absurd (before-irreflexive v (subst (IsBefore v) e (head-before v x vs o h)))

pub one-list : (vs ws : List ListValue) → IsOrdered vs → IsOrdered ws → ((x : ListValue) → Contains vs x → Contains ws x) → ((x : ListValue) → Contains ws x → Contains vs x) → vs ≡ ws
one-list [] [] o p f g = refl
one-list [] (w ∷ ws) o p f g = absurd (let h = (g w (contains-here w ws)).1 in omega arith)
one-list (v ∷ vs) [] o p f g = absurd (let h = (f v (contains-here v vs)).1 in omega arith)
one-list (v ∷ vs) (w ∷ ws) o p f g =
    let e : v ≡ w = same-head v w vs ws o p (contains-cons w v ws (f v (contains-here v vs))) (contains-cons v w vs (g w (contains-here w ws))) in
    let to : (x : ListValue) → Contains vs x → Contains ws x = λ x h. tail-member v x vs ws o h (subst (λ (u : ListValue). (x ≡ u) ⊎ Contains ws x) (sym e) (contains-cons w x ws (f x (contains-there v x vs h)))) in
    let back : (x : ListValue) → Contains ws x → Contains vs x = λ x h. tail-member w x ws vs p h (subst (λ (u : ListValue). (x ≡ u) ⊎ Contains vs x) e (contains-cons v x vs (g x (contains-there w x ws h)))) in
    ap (λ (u : ListValue). u ∷ vs) e ∙ ap (λ (us : List ListValue). w ∷ us) (one-list vs ws (tail-ordered v vs o) (tail-ordered w ws p) to back)

pub one-listing : (c : Content) (vs ws : List ListValue) → ListsValues c vs → ListsValues c ws → vs ≡ ws
one-listing c vs ws a b =
    one-list vs ws (λ j k d. a.ordered j k d) (λ j k d. b.ordered j k d) (λ x h. (b.members x).1 ((a.members x).0 h)) (λ x h. (a.members x).1 ((b.members x).0 h))

pub one-dimension : (c : Content) (i : ℕ) (vs ws : List ListValue) → ListsValuesIn c i vs → ListsValuesIn c i ws → vs ≡ ws
one-dimension c i vs ws a b =
    one-list vs ws (λ j k d. a.ordered j k d) (λ j k d. b.ordered j k d) (λ x h. (b.members x).1 ((a.members x).0 h)) (λ x h. (a.members x).1 ((b.members x).0 h))
