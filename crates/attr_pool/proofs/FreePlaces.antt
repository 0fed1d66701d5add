-- The free places of a pool as ids come and go.
use Rattle.std.proofs.Common.{◌≡◌, ◌≢◌, ℕ, zero, suc, ◌<◌, List, [], ◌∷◌, length, get_or, set, drop, Option, None, Some, IsSome, refl, ◌∙◌, sym, ap, arith, length-set, get_or-set_other, get_or-set_same, ◌≤◌, ◌⊎◌, inl, inr}
use Rattle.std.specs.Prelude.{pos}
use Rattle.std.proofs.Math.IntN.{nat_abs}
use Rattle.std.proofs.lemmas.Bool.{false≢true}
use Rattle.std.proofs.lemmas.List.{get_or_past}
use Rattle.map_defs.specs.Values.{Value}
use Rattle.dart_arena.proofs.RowLemmas.{some-within}
use Rattle.attr_pool.specs.Pools.{AreFree, AreLinked, no_value}

-- a live place is none of the free ones
live_apart : (xs : List (Option Value)) (gs : List ℕ) (p k : ℕ) → AreFree xs gs → IsSome (get_or xs p None) → k < length gs → get_or gs k 0 ≢ p
live_apart xs gs p k f s h e = let b = f.bare k h in let c = rw e at b in false≢true (rw c at s)

-- the first free place gets a value
pub free_popped : (xs : List (Option Value)) (first : ℕ) (gs : List ℕ) (v : Value) → AreFree xs gs → first ≡ get_or gs 0 0 → 0 < length gs → AreFree (set xs first (Some v)) (drop 1 gs)
free_popped xs first [] v f b h = absurd (omega arith)
free_popped xs first (p ∷ gs) v f b h = rw b (record { bare = bare; within = within; once = λ j k l m. f.once (suc j) (suc k) (omega arith) (omega arith) })
  where
    apart : (k : ℕ) → k < length gs → get_or gs k 0 ≢ p
    apart k l e = f.once 0 (suc k) (omega arith) (omega arith) (sym e)

    bare : (k : ℕ) → k < length gs → get_or (set xs p (Some v)) (get_or gs k 0) None ≡ None
    bare k l = get_or-set_other xs p (get_or gs k 0) (Some v) None (apart k l) ∙ f.bare (suc k) (omega arith)

    within : (k : ℕ) → k < length gs → get_or gs k 0 < length (set xs p (Some v))
    within k l = let w = f.within (suc k) (omega arith) in rw length-set w

pub linked_popped : (xs : List (Option Value)) (vs : List Value) (first next : ℕ) (gs : List ℕ) (v : Value) → AreFree xs gs → AreLinked vs first gs → 0 < length gs
    → pos next ≡ (get_or vs first no_value).a → AreLinked (set vs first v) next (drop 1 gs)
linked_popped xs vs first next [] v f l h e = absurd (omega arith)
linked_popped xs vs first next (p ∷ gs) v f l h e = rw l.begun (record { begun = same (e ∙ ap (λ n. (get_or vs n no_value).a) l.begun ∙ l.next 0 h); next = further })
  where
    same : pos next ≡ pos (get_or gs 0 0) → next ≡ get_or gs 0 0
    same w = ap nat_abs w

    apart : (k : ℕ) → k < length gs → get_or gs k 0 ≢ p
    apart k m w = f.once 0 (suc k) (omega arith) (omega arith) (sym w)

    further : (k : ℕ) → k < length gs → (get_or (set vs p v) (get_or gs k 0) no_value).a ≡ pos (get_or gs (suc k) 0)
    further k m = ap (λ (o : Value). o.a) (get_or-set_other vs p (get_or gs k 0) v no_value (apart k m)) ∙ l.next (suc k) (omega arith)

-- a live place becomes free
pub free_pushed : (xs : List (Option Value)) (gs : List ℕ) (p : ℕ) → AreFree xs gs → IsSome (get_or xs p None) → AreFree (set xs p None) (p ∷ gs)
free_pushed xs gs p f s = record { bare = bare; within = within; once = once }
  where
    bare : (k : ℕ) → k < suc (length gs) → get_or (set xs p None) (get_or (p ∷ gs) k 0) None ≡ None
    bare zero h = get_or-set_same xs p None None (some-within xs p s)
    bare (suc k) h = get_or-set_other xs p (get_or gs k 0) None None (live_apart xs gs p k f s (omega arith)) ∙ f.bare k (omega arith)

    within : (k : ℕ) → k < suc (length gs) → get_or (p ∷ gs) k 0 < length (set xs p None)
    within zero h = let w = some-within xs p s in rw length-set w
    within (suc k) h = let w = f.within k (omega arith) in rw length-set w

    once : (j k : ℕ) → j < k → k < suc (length gs) → get_or (p ∷ gs) j 0 ≢ get_or (p ∷ gs) k 0
    once j zero l h = absurd (omega arith)
    once zero (suc k) l h = λ e. live_apart xs gs p k f s (omega arith) (sym e)
    once (suc j) (suc k) l h = f.once j k (omega arith) (omega arith)

pub linked_pushed : (xs : List (Option Value)) (vs : List Value) (first p : ℕ) (gs : List ℕ) (v : Value) → AreFree xs gs → AreLinked vs first gs → IsSome (get_or xs p None) → p < length vs
    → v.a ≡ pos first → AreLinked (set vs p v) p (p ∷ gs)
linked_pushed xs vs first p gs v f l s w e = record { begun = refl; next = next }
  where
    next : (k : ℕ) → k < suc (length gs) → (get_or (set vs p v) (get_or (p ∷ gs) k 0) no_value).a ≡ pos (get_or gs k 0)
    next zero h = ap (λ (o : Value). o.a) (get_or-set_same vs p v no_value w) ∙ e ∙ ap pos l.begun
    next (suc k) h = ap (λ (o : Value). o.a) (get_or-set_other vs p (get_or gs k 0) v no_value (live_apart xs gs p k f s (omega arith))) ∙ l.next k (omega arith)

-- a live place gets another value
pub free_replaced : (xs : List (Option Value)) (gs : List ℕ) (p : ℕ) (v : Value) → AreFree xs gs → IsSome (get_or xs p None) → AreFree (set xs p (Some v)) gs
free_replaced xs gs p v f s = record {
  bare = λ k h. let a = live_apart xs gs p k f s h in let b = f.bare k h in rw get_or-set_other b;
  within = λ k h. let w = f.within k h in rw length-set w;
  once = f.once;
}

pub linked_replaced : (xs : List (Option Value)) (vs : List Value) (first p : ℕ) (gs : List ℕ) (v : Value) → AreFree xs gs → AreLinked vs first gs → IsSome (get_or xs p None) → AreLinked (set vs p v) first gs
linked_replaced xs vs first p gs v f l s = record {
  begun = l.begun;
  next = λ k h. ap (λ (o : Value). o.a) (get_or-set_other vs p (get_or gs k 0) v no_value (live_apart xs gs p k f s h)) ∙ l.next k h;
}

-- no place is free
pub free_none : (xs : List (Option Value)) → AreFree xs []
free_none xs = record { bare = λ k h. absurd (omega arith); within = λ k h. absurd (omega arith); once = λ j k l h. absurd (omega arith) }

pub linked_none : (vs : List Value) → AreLinked vs 0 []
linked_none vs = record { begun = refl; next = λ k h. absurd (omega arith) }

pub free_end : (gs : List ℕ) → length gs ≡ 0 → gs ≡ []
free_end [] h = refl
free_end (g ∷ gs) h = absurd (omega arith)

-- what stands at the first free place
pub record FirstFree (xs : List (Option Value)) (vs : List Value) (first : ℕ) : Type 0 where
  pub within : first < length xs
  pub bare : get_or xs first None ≡ None
  pub next : ℕ
  pub written : (get_or vs first no_value).a ≡ pos next
  pub small : next ≤ length xs

pub first_free : (xs : List (Option Value)) (vs : List Value) (first : ℕ) (gs : List ℕ) → AreFree xs gs → AreLinked vs first gs → 0 < length gs → FirstFree xs vs first
first_free xs vs first gs f l h = rw l.begun (record { within = f.within 0 h; bare = f.bare 0 h; next = get_or gs 1 0; written = l.next 0 h; small = elim case [ inl a ↦ (let w = f.within 1 a in omega arith) | inr a ↦ (let e = get_or_past gs 1 0 a in omega arith) ] })
  where
    case : (1 < length gs) ⊎ (length gs ≤ 1)
    case = grind arith
