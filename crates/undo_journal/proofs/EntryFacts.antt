-- The marks of a trail, and what a journal holds after each call.
use Rattle.std.proofs.Common.{ℕ, zero, suc, ◌≡◌, ◌≢◌, ◌+◌, ◌-◌, ◌<◌, List, [], ◌∷◌, ◌++◌, length, get_or, take, map, Option, Some, None, IfSome, true, Bor, slice_get, slice_index, refl, sym, ap, subst, ◌∙◌, arith}
use Rattle.std.proofs.lemmas.List.{length-take, length_push, take_all, take_at, take_more, take-map, same_from_push}
use Rattle.std.proofs.lemmas.Option.{slice_get_within, get_or_from_slice_get, same_Some}
use Rattle.std.specs.Option.{option_map}
use Rattle.machine_defs.specs.Script.{is_name}
use Rattle.machine_defs.specs.Difference.{Difference}
use Rattle.trail_laws.specs.Trails.{Placed, Ahead, Trail, mark_names, IsMark, HasMark, IsMarkOf, IsLastAhead, CanGoForth, place_of, noted, marked, back, forth, IsOrdered}
use Rattle.trail_laws.proofs.TrailFacts.{mark_is_named}
use Rattle.undo_journal.specs.Entries.{trail_of}

-- the names of the marks, as bytes
abbrev pub names_of : List Placed → List (List ℕ)
names_of ms = map (λ (m : Placed). m.name) ms

-- the names of a trail's standing marks
pub standing_names : (steps : List Difference) (at : ℕ) (ms : List Placed) (s : ℕ) (us : List Ahead) → mark_names (trail_of steps at ms s us) ≡ take s (names_of ms)
standing_names steps at ms s us = sym (take-map (λ (m : Placed). m.name) s ms)

-- the place of a mark
pub place_listed : (ms : List Placed) (k v : ℕ) → slice_get (map (λ (m : Placed). m.place) ms) k ≡ Some v → v ≡ slice_index (map (λ (m : Placed). m.place) ms) k
place_listed ms k v h = sym (get_or_from_slice_get (map (λ (m : Placed). m.place) ms) k v 0 h)

-- an element of a front is one of the list, and the other way round
front_get : (ns : List (List ℕ)) (s k : ℕ) → k < s → slice_get (take s ns) k ≡ slice_get ns k
front_get [] zero k below = absurd (omega (arith, below))
front_get [] (suc s) k below = refl
front_get (n ∷ ns) zero k below = absurd (omega (arith, below))
front_get (n ∷ ns) (suc s) zero below = refl
front_get (n ∷ ns) (suc s) (suc k) below = front_get ns s k (omega (arith, below))

front_is : (ns : List (List ℕ)) (s k : ℕ) (n : List ℕ) → slice_get (take s ns) k ≡ Some n → (k < s) × (slice_get ns k ≡ Some n)
front_is ns s k n h =
    let within = slice_get_within (take s ns) k n h in
    let short = length-take s ns in
    let below : k < s = grind (arith, within, short) in
    (below, sym (front_get ns s k below) ∙ h)

is_front : (ns : List (List ℕ)) (s k : ℕ) (n : List ℕ) → k < s → slice_get ns k ≡ Some n → slice_get (take s ns) k ≡ Some n
is_front ns s k n below h = front_get ns s k below ∙ h

module _ (steps : List Difference) (at : ℕ) (ms : List Placed) (s : ℕ) (us : List Ahead) (n : List ℕ) where
  -- a mark before the first that does not stand is a standing mark
  pub mark_found : (k : ℕ) → IsMarkOf ms n k → k < s → IsMark (trail_of steps at ms s us) n k
  mark_found k there below = rw (standing_names steps at ms s us) (is_front (names_of ms) s k n below there)

  -- a standing mark is such a mark
  pub found_mark : HasMark (trail_of steps at ms s us) n → (k : ℕ) × IsMarkOf ms n k × (k < s)
  found_mark m =
      let shown : slice_get (take s (names_of ms)) m.0 ≡ Some n = rw (standing_names steps at ms s us) at m.1 in
      let front = front_is (names_of ms) s m.0 n shown in
      (m.0, front.1, front.0)

-- what is read of a mark before the first that does not stand is what a standing mark is named
pub name_shown : (steps : List Difference) (at : ℕ) (ms : List Placed) (s : ℕ) (us : List Ahead) (k : ℕ) → k < s → slice_get (mark_names (trail_of steps at ms s us)) k ≡ slice_get (names_of ms) k
name_shown steps at ms s us k below = rw (standing_names steps at ms s us) (front_get (names_of ms) s k below)

-- what is read of the names of an ordered trail is a name
pub read_is_named : (t : Trail) (k : ℕ) (read : Option (Bor (List ℕ))) → IsOrdered t → option_map (λ n. n.now) read ≡ slice_get (mark_names t) k → IfSome read (λ n. is_name n.now ≡ true)
read_is_named t k None ordered h = tt
read_is_named t k (Some n) ordered h = mark_is_named t n.now k ordered (sym h)

-- what a journal holds after a step and after a mark
pub noted_is : (steps more : List Difference) (at further : ℕ) (ms kept : List Placed) (s : ℕ) (us none : List Ahead) (step : Difference)
    → more ≡ take at steps ++ step ∷ [] → further ≡ at + 1 → kept ≡ take s ms → none ≡ [] → trail_of more further kept s none ≡ noted (trail_of steps at ms s us) step
noted_is steps more at further ms kept s us none step e f g gone = λ i. record { steps = e i; at = f i; marks = g i; standing = s; undone = gone i }

pub marked_is : (steps kept : List Difference) (at : ℕ) (ms more : List Placed) (s further : ℕ) (us none : List Ahead) (name : List ℕ)
    → kept ≡ take at steps → more ≡ take s ms ++ record { name = name; place = at } ∷ [] → further ≡ s + 1 → none ≡ []
    → trail_of kept at more further none ≡ marked (trail_of steps at ms s us) name
marked_is steps kept at ms more s further us none name e f g gone = λ i. record { steps = e i; at = at; marks = f i; standing = g i; undone = gone i }

-- the undo that was read last, and the name of its mark
module _ (steps : List Difference) (at : ℕ) (ms : List Placed) (s : ℕ) (us : List Ahead) (n : ℕ) (u : Ahead) (long : n ≡ length us) (some : n ≢ 0)
    (is : u ≡ get_or us (n - 1) u) (known : List ℕ) (named : IsMarkOf ms known u.mark) (name : List ℕ) where
  last_there : us ≡ take (n - 1) us ++ u ∷ []
  last_there =
      let whole : n - 1 + 1 ≡ n = omega arith in
      sym (take_all n us (omega arith)) ∙ ap (λ m. take m us) (sym whole) ∙ take_more us (n - 1) u (omega arith) ∙ ap (λ (w : Ahead). take (n - 1) us ++ w ∷ []) (sym is)

  pub last_found : known ≡ name → IsLastAhead (trail_of steps at ms s us) name (take (n - 1) us) u
  last_found same = record { there = last_there; named = subst (λ (m : List ℕ). IsMarkOf ms m u.mark) same named }

  pub last_other : (known ≡ name → ⊥) → CanGoForth (trail_of steps at ms s us) name → ⊥
  last_other other (others, last, one) =
      let same : last ≡ u = (same_from_push others (take (n - 1) us) last u (sym one.there ∙ last_there)).1 in
      let here : IsMarkOf ms name u.mark = subst (λ (w : Ahead). IsMarkOf ms name w.mark) same one.named in
      other (same_Some known name (sym named ∙ here))

-- what a journal holds after an undo, and after the last one was taken back
pub back_is : (steps : List Difference) (at : ℕ) (ms : List Placed) (s : ℕ) (us more : List Ahead) (k place : ℕ)
    → place ≡ place_of (trail_of steps at ms s us) k → more ≡ us ++ record { mark = k; at = at; standing = s } ∷ []
    → trail_of steps place ms (k + 1) more ≡ back (trail_of steps at ms s us) k
back_is steps at ms s us more k place here kept = λ i. record { steps = steps; at = here i; marks = ms; standing = k + 1; undone = kept i }

pub forth_is : (steps : List Difference) (at : ℕ) (ms : List Placed) (s : ℕ) (us : List Ahead) (name : List ℕ) (others : List Ahead) (last : Ahead)
    → IsLastAhead (trail_of steps at ms s us) name others last → (left : List Ahead) (n : ℕ) → left ≡ take n us → n ≡ length us - 1
    → trail_of steps last.at ms last.standing left ≡ forth (trail_of steps at ms s us) others last
forth_is steps at ms s us name others last is left n kept fewer =
    let whole : length us ≡ length others + 1 = ap (λ (ws : List Ahead). length ws) is.there ∙ length_push others last in
    let front : left ≡ others = kept ∙ ap (λ (ws : List Ahead). take n ws) is.there ∙ take_at others (last ∷ []) n (omega arith) in
    λ i. record { steps = steps; at = last.at; marks = ms; standing = last.standing; undone = front i }
