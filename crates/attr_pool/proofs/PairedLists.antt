-- The values of a pool and which of them are live, as one list.
use Rattle.std.proofs.Common.{◌≡◌, ℕ, zero, suc, List, [], ◌∷◌, ◌++◌, length, get_or, set, Bool, true, false, Option, None, Some, cond, All, refl, ap, subst, arith}
use Rattle.std.proofs.lemmas.Bool.{false≢true}
use Rattle.map_defs.specs.Values.{Value}
use Rattle.map_defs.specs.Carry.{known}
use Rattle.attr_pool.specs.Pools.{slots_of}

pub length-slots : (vs : List Value) (ls : List Bool) → length ls ≡ length vs → length (slots_of vs ls) ≡ length vs
length-slots [] ls h = refl
length-slots (v ∷ vs) [] h = absurd (omega arith)
length-slots (v ∷ vs) (l ∷ ls) h = let deep = length-slots vs ls (omega arith) in omega arith

pub get_or-slots : (vs : List Value) (ls : List Bool) (p : ℕ) (d : Value) → length ls ≡ length vs → get_or (slots_of vs ls) p None ≡ cond (get_or ls p false) (Some (get_or vs p d)) None
get_or-slots [] [] p d h = refl
get_or-slots [] (l ∷ ls) p d h = absurd (omega arith)
get_or-slots (v ∷ vs) [] p d h = absurd (omega arith)
get_or-slots (v ∷ vs) (l ∷ ls) zero d h = refl
get_or-slots (v ∷ vs) (l ∷ ls) (suc p) d h = get_or-slots vs ls p d (omega arith)

pub set-slots : (vs : List Value) (ls : List Bool) (p : ℕ) (v : Value) (l : Bool) → slots_of (set vs p v) (set ls p l) ≡ set (slots_of vs ls) p (cond l (Some v) None)
set-slots [] ls p v l = refl
set-slots (u ∷ vs) [] zero v l = refl
set-slots (u ∷ vs) [] (suc p) v l = refl
set-slots (u ∷ vs) (k ∷ ls) zero v l = refl
set-slots (u ∷ vs) (k ∷ ls) (suc p) v l = ap (λ (xs : List (Option Value)). cond k (Some u) None ∷ xs) (set-slots vs ls p v l)

-- another value at a live place
pub set-slots_value : (vs : List Value) (ls : List Bool) (p : ℕ) (v : Value) → get_or ls p false ≡ true → slots_of (set vs p v) ls ≡ set (slots_of vs ls) p (Some v)
set-slots_value [] ls p v h = refl
set-slots_value (u ∷ vs) [] p v h = absurd (false≢true h)
set-slots_value (u ∷ vs) (k ∷ ls) zero v h = rw h refl
set-slots_value (u ∷ vs) (k ∷ ls) (suc p) v h = ap (λ (xs : List (Option Value)). cond k (Some u) None ∷ xs) (set-slots_value vs ls p v h)

-- one more value, which is live
pub slots-push : (vs : List Value) (ls : List Bool) (v : Value) → length ls ≡ length vs → slots_of (vs ++ v ∷ []) (ls ++ true ∷ []) ≡ slots_of vs ls ++ Some v ∷ []
slots-push [] [] v h = refl
slots-push [] (l ∷ ls) v h = absurd (omega arith)
slots-push (u ∷ vs) [] v h = absurd (omega arith)
slots-push (u ∷ vs) (k ∷ ls) v h = ap (λ (xs : List (Option Value)). cond k (Some u) None ∷ xs) (slots-push vs ls v (omega arith))

-- what holds of all values holds of those at live places
pub held-slots : (P : Value → Type 0) (vs : List Value) (ls : List Bool) → All P vs → (id : ℕ) (v : Value) → get_or (None ∷ slots_of vs ls) id None ≡ Some v → P v
held-slots P vs ls all zero v is = cc (is)
held-slots P vs ls all (suc p) v is = go vs ls all p is
  where
    go : (xs : List Value) (bs : List Bool) → All P xs → (p : ℕ) → get_or (slots_of xs bs) p None ≡ Some v → P v
    go [] bs all p is = cc (is)
    go (x ∷ xs) [] all p is = cc (is)
    go (x ∷ xs) (b ∷ bs) all (suc p) is = go xs bs (λ i d h. all (suc i) d (omega (arith, h))) p is
    go (x ∷ xs) (true ∷ bs) all zero is = subst P (ap known is) (all 0 x (omega arith))
    go (x ∷ xs) (false ∷ bs) all zero is = cc (is)
