-- On a closed path each dart has a next one, and comes next after one.
use Rattle.std.proofs.Common.{ℕ, zero, suc, ◌≡◌, ◌≢◌, ◌-◌, ◌<◌, ⊎_elim, ◌∙◌, arith, List, length, slice_index, Contains}
use Rattle.std.proofs.lemmas.List.{get_or_default}
use Rattle.map_defs.specs.Insertion.{IsNext, inside, around}
use Rattle.link_laws.proofs.Basics.{same_or_not}

-- the dart at a place, whatever stands past the end
pub held_at : (path : List ℕ) (p : ℕ) → p < length path → Contains path (slice_index path p)
held_at path p l = (p, l, get_or_default path p (slice_index path p) 0 l)

pub held_is : (path : List ℕ) (b : ℕ) (h : Contains path b) → slice_index path h.0 ≡ b
held_is path b h = get_or_default path h.0 0 b h.1 ∙ h.2

pub next_held : (path : List ℕ) (b c : ℕ) → IsNext path b c → Contains path b × Contains path c
next_held path b c (inside p l) = (held_at path p (omega arith), held_at path (suc p) l)
next_held path b c (around p l) = (held_at path p (omega arith), held_at path 0 (omega arith))

pub has_next : (path : List ℕ) (b : ℕ) → Contains path b → (c : ℕ) × IsNext path b c
has_next path b h = ⊎_elim
    (λ (e : suc h.0 ≡ length path). (slice_index path 0, rw (← held_is path b h) (around h.0 e)))
    (λ (n : suc h.0 ≢ length path). (slice_index path (suc h.0), rw (← held_is path b h) (inside h.0 (let l : h.0 < length path = h.1 in omega arith))))
    (same_or_not (suc h.0) (length path))

before : (path : List ℕ) (p : ℕ) → p < length path → (a : ℕ) × IsNext path a (slice_index path p)
before path zero l = (slice_index path (length path - 1), around (length path - 1) (omega arith))
before path (suc p) l = (slice_index path p, inside p l)

pub is_next : (path : List ℕ) (b : ℕ) → Contains path b → (a : ℕ) × IsNext path a b
is_next path b h = let q : (a : ℕ) × IsNext path a (slice_index path h.0) = before path h.0 h.1 in (q.0, rw (held_is path b h) at q.1)
