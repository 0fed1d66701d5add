-- What the type of a pool keeps, as ids come and go.
use Rattle.std.proofs.Common.{◌≡◌, ◌≢◌, ℕ, zero, suc, ◌+◌, ◌-◌, ◌<◌, ◌≤◌, List, [], ◌∷◌, ◌++◌, length, get_or, set, drop, Bool, true, false, Option, None, Some, IsSome, cond, refl, ◌∙◌, sym, ap, subst, arith, length-set, length-append, length-drop, get_or-set_other, get_or-set_same}
use Rattle.std.specs.Prelude.{filter, is_some, pos}
use Rattle.std.proofs.lemmas.Bool.{false≢true}
use Rattle.std.specs.Option.{unwrap_or}
use Rattle.std.proofs.lemmas.Grind.{common_steps}
use Rattle.std.proofs.lemmas.List.Elements.{filter-append}
use Rattle.map_defs.specs.Values.{Value}
use Rattle.dart_arena.proofs.RowLemmas.{row_behind, set_behind, some-within, count-buried, count-revived, count-replaced}
use Rattle.store_defs.specs.Stores.{IsPut}
use Rattle.store_defs.specs.Labelings.{as_id}
use Rattle.attr_pool.specs.Pools.{slots_of, no_value, ArePoolParts}
use Rattle.attr_pool.proofs.PairedLists.{length-slots, get_or-slots, set-slots, set-slots_value, slots-push}
use Rattle.attr_pool.proofs.FreePlaces.{free_popped, linked_popped, free_pushed, linked_pushed, free_replaced, linked_replaced, free_none, linked_none, free_end, FirstFree, first_free}

-- a place of the slots, as the ids see it
pub is_put : (xs ys : List (Option Value)) (m n id p : ℕ) (o : Option Value) → ys ≡ set xs p o → p < length xs → p + 1 ≡ id
    → IsPut (record { slots = None ∷ xs; spare = m }) (record { slots = None ∷ ys; spare = n }) id o
is_put xs ys m n id p o e w h = rw (e, ← set_behind xs id p o h) (record {
  here = get_or-set_same (None ∷ xs) id o None (omega arith);
  others = λ other a. get_or-set_other (None ∷ xs) id other o None a;
})

-- one more place than there were
pub is_put_last : (xs ys : List (Option Value)) (m n id : ℕ) (o : Option Value) → ys ≡ xs ++ o ∷ [] → id ≡ length xs + 1
    → IsPut (record { slots = None ∷ xs; spare = m }) (record { slots = None ∷ ys; spare = n }) id o
is_put_last xs ys m n id o e h = rw (e, h) (record { here = here; others = others })
  where
    here : get_or (None ∷ xs ++ o ∷ []) (length xs + 1) None ≡ o
    here = grind (arith, common_steps)

    others : (other : ℕ) → other ≢ length xs + 1 → get_or (None ∷ xs ++ o ∷ []) other None ≡ get_or (None ∷ xs) other None
    others other a = grind (arith, common_steps)

-- what an id says of its place
pub record Held (vs : List Value) (ls : List Bool) (id p : ℕ) : Type 0 where
  pub found : IsSome (get_or (slots_of vs ls) p None)
  pub live : get_or ls p false ≡ true
  pub within : p < length vs
  pub read : (d : Value) → get_or (None ∷ slots_of vs ls) id None ≡ Some (get_or vs p d)

pub held : (vs : List Value) (ls : List Bool) (id p : ℕ) → length ls ≡ length vs → p + 1 ≡ id → IsSome (get_or (None ∷ slots_of vs ls) id None) → Held vs ls id p
held vs ls id p same h s = record {
  found = found;
  live = live;
  within = (let w = some-within (slots_of vs ls) p found in rw (length-slots vs ls same) at w);
  read = λ d. row_behind (slots_of vs ls) id p h ∙ get_or-slots vs ls p d same ∙ ap (λ b. cond b (Some (get_or vs p d)) None) live;
}
  where
    found : IsSome (get_or (slots_of vs ls) p None)
    found = subst IsSome (row_behind (slots_of vs ls) id p h) s

    told : (b : Bool) (v : Value) → IsSome (cond b (Some v) None) → b ≡ true
    told true v t = refl
    told false v t = absurd (false≢true t)

    live : get_or ls p false ≡ true
    live = told (get_or ls p false) (get_or vs p no_value) (subst IsSome (get_or-slots vs ls p no_value same) found)

-- the same, where the id is live
pub is_put_at : (vs : List Value) (ls : List Bool) (ys : List (Option Value)) (m n id p : ℕ) (o : Option Value) → length ls ≡ length vs → Held vs ls id p → ys ≡ set (slots_of vs ls) p o → p + 1 ≡ id
    → IsPut (record { slots = None ∷ slots_of vs ls; spare = m }) (record { slots = None ∷ ys; spare = n }) id o
is_put_at vs ls ys m n id p o same h e i = is_put (slots_of vs ls) ys m n id p o e (rw (length-slots vs ls same) h.within) i

pub kept_none : ArePoolParts [] [] 0 0 []
kept_none = record { paired = refl; free = free_none []; linked = linked_none []; count = refl; all = refl }

-- the first free place becomes live
pub kept_reused : (vs : List Value) (ls : List Bool) (first live next : ℕ) (gs : List ℕ) (v : Value) → ArePoolParts vs ls first live gs → live < length vs
    → pos next ≡ (get_or vs first no_value).a → ArePoolParts (set vs first v) (set ls first true) next (live + 1) (drop 1 gs)
kept_reused vs ls first live next gs v k few e = record {
  paired = rw (length-set, length-set) k.paired;
  free = rw (set-slots vs ls first v true) (free_popped (slots_of vs ls) first gs v k.free k.linked.begun some);
  linked = linked_popped (slots_of vs ls) vs first next gs v k.free k.linked some e;
  count = rw (set-slots vs ls first v true) (omega (arith, k.count, count-revived (slots_of vs ls) first v f.within f.bare));
  all = rw (length-set, length-drop) (omega (arith, k.all));
}
  where
    some : 0 < length gs
    some = omega (arith, k.all)

    f : FirstFree (slots_of vs ls) vs first
    f = first_free (slots_of vs ls) vs first gs k.free k.linked some

-- a live place is added
pub kept_pushed : (vs : List Value) (ls : List Bool) (first live : ℕ) (gs : List ℕ) (v : Value) → ArePoolParts vs ls first live gs → length vs ≤ live
    → ArePoolParts (vs ++ v ∷ []) (ls ++ true ∷ []) first (live + 1) gs
kept_pushed vs ls first live gs v k full = record {
  paired = rw (length-append, length-append) (ap (λ n. n + 1) k.paired);
  free = rw none (free_none (slots_of (vs ++ v ∷ []) (ls ++ true ∷ [])));
  linked = rw (none, begun) (linked_none (vs ++ v ∷ []));
  count = rw (slots-push vs ls v k.paired, filter-append, length-append) (omega (arith, k.count));
  all = rw length-append (omega (arith, k.all));
}
  where
    none : gs ≡ []
    none = free_end gs (omega (arith, k.all))

    begun : first ≡ 0
    begun = k.linked.begun ∙ ap (λ (hs : List ℕ). get_or hs 0 0) none

-- a live place becomes free
pub kept_released : (vs : List Value) (ls : List Bool) (first live id p : ℕ) (gs : List ℕ) (v : Value) → ArePoolParts vs ls first live gs → Held vs ls id p → v.a ≡ pos first
    → ArePoolParts (set vs p v) (set ls p false) p (live - 1) (p ∷ gs)
kept_released vs ls first live id p gs v k h e = record {
  paired = rw (length-set, length-set) k.paired;
  free = rw (set-slots vs ls p v false) (free_pushed (slots_of vs ls) gs p k.free h.found);
  linked = linked_pushed (slots_of vs ls) vs first p gs v k.free k.linked h.found h.within e;
  count = rw (set-slots vs ls p v false) (omega (arith, k.count, count-buried (slots_of vs ls) p h.found));
  all = rw length-set (omega (arith, k.all, k.count, count-buried (slots_of vs ls) p h.found));
}

-- a live place gets another value
pub kept_replaced : (vs : List Value) (ls : List Bool) (first live id p : ℕ) (gs : List ℕ) (v : Value) → ArePoolParts vs ls first live gs → Held vs ls id p
    → ArePoolParts (set vs p v) ls first live gs
kept_replaced vs ls first live id p gs v k h = record {
  paired = rw length-set k.paired;
  free = rw (set-slots_value vs ls p v h.live) (free_replaced (slots_of vs ls) gs p v k.free h.found);
  linked = linked_replaced (slots_of vs ls) vs first p gs v k.free k.linked h.found;
  count = rw (set-slots_value vs ls p v h.live) (omega (arith, k.count, count-replaced (slots_of vs ls) p v h.found));
  all = rw length-set k.all;
}

-- no id has a value
pub bare_none : (id : ℕ) → get_or {A = Option Value} (None ∷ []) id None ≡ None
bare_none zero = refl
bare_none (suc id) = refl

-- what the two lists say of an id
pub told_value : (vs : List Value) (ls : List Bool) (id p : ℕ) (b : Bool) (d : Value) → length ls ≡ length vs → p + 1 ≡ id → b ≡ get_or ls p false
    → cond b (Some (get_or vs p d)) None ≡ get_or (None ∷ slots_of vs ls) id None
told_value vs ls id p b d same h e = ap (λ (t : Bool). cond t (Some (get_or vs p d)) None) e ∙ sym (row_behind (slots_of vs ls) id p h ∙ get_or-slots vs ls p d same)

-- what stands at the first free place, where some place is free
pub reusable : (vs : List Value) (ls : List Bool) (first live : ℕ) (gs : List ℕ) → ArePoolParts vs ls first live gs → live < length vs → FirstFree (slots_of vs ls) vs first
reusable vs ls first live gs k few = first_free (slots_of vs ls) vs first gs k.free k.linked (omega (arith, k.all))

pub count-pushed : (xs : List (Option Value)) (v : Value) → length (filter is_some (xs ++ Some v ∷ [])) ≡ length (filter is_some xs) + 1
count-pushed xs v = rw (filter-append, length-append) refl

-- the id that a number is
pub given_id : (n id : ℕ) (o : Option ℕ) → 0 < n → o ≡ as_id n → o ≡ Some id → n ≡ id
given_id zero id o h a s = absurd (omega arith)
given_id (suc n) id o h a s = ap (λ (g : Option ℕ). unwrap_or g 0) (sym a ∙ s)
