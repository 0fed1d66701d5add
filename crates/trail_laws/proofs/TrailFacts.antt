-- What holds of every trail holds after each call.
use Rattle.std.proofs.Common.{ℕ, ◌≡◌, ◌≢◌, ◌+◌, ◌≤◌, ◌<◌, List, [], ◌∷◌, ◌++◌, length, get_or, take, drop, map, ◌-◌, Some, true, All, AllPairs, refl, sym, ap, subst, ◌∙◌, arith, inl, inr}
use Rattle.std.proofs.lemmas.Bool.{cases_lt}
use Rattle.std.proofs.lemmas.List.{length-take-le, length-append, length_push, get_or-take, get_or-map, get_or_push, get_or_append_left, length-map, take_at, take-map, drop-take}
use Rattle.std.proofs.lemmas.List.Elements.{All-take, All-weaker, All-push, All-nil}
use Rattle.std.proofs.lemmas.List.Quantifiers.{all_pairs_push}
use Rattle.std.proofs.lemmas.Option.{slice_get-get_or, slice_get_within, get_or_from_slice_get}
use Rattle.machine_defs.specs.Script.{is_name}
use Rattle.machine_defs.specs.Difference.{Difference}
use Rattle.trail_laws.specs.Trails.{Placed, Ahead, Trail, standing_marks, mark_names, IsMark, HasMark, place_of, noted, marked, undo_at, back, forth, IsAhead, IsOrdered}

-- what holds of each pair holds of each pair of a front
pairs-take : {X : Type 0} (R : X → X → Type 0) (n : ℕ) (xs : List X) → n ≤ length xs → AllPairs R xs → AllPairs R (take n xs)
pairs-take R n xs small all i j d l h =
    let within : j < n = omega (arith, length-take-le n xs small) in
    rw (get_or-take n xs i d (omega arith), get_or-take n xs j d within) (all i j d l (omega arith))

-- of no elements all pairs are so
pairs-none : {X : Type 0} (R : X → X → Type 0) → AllPairs R []
pairs-none R i j d l h = absurd (omega arith)

-- how many marks stand
pub standing_length : (t : Trail) → IsOrdered t → length (standing_marks t) ≡ t.standing
standing_length t o = length-take-le t.standing t.marks o.standing

-- a standing mark's number
pub mark_within : (t : Trail) (name : List ℕ) (k : ℕ) → IsOrdered t → IsMark t name k → k < t.standing
mark_within t name k o h =
    omega (arith, slice_get_within (mark_names t) k name h, length-map (standing_marks t) (λ (m : Placed). m.name), standing_length t o)

-- the name of a standing mark
pub name_is_mark : (t : Trail) (k : ℕ) (d : Placed) → IsOrdered t → k < t.standing → IsMark t (get_or t.marks k d).name k
name_is_mark t k d o h =
    let names = λ (m : Placed). m.name in
    let short = standing_length t o in
    let long = length-map (standing_marks t) names in
    let read : get_or (mark_names t) k [] ≡ (get_or (standing_marks t) k d).name = get_or-map names (standing_marks t) k d [] (omega arith) in
    let front : get_or (standing_marks t) k d ≡ get_or t.marks k d = get_or-take t.standing t.marks k d h in
    slice_get-get_or (mark_names t) k [] (omega arith) ∙ ap Some (read ∙ ap names front)

-- the name of a mark, which is read among all marks
pub name_read : (t : Trail) (name : List ℕ) (k : ℕ) → IsOrdered t → IsMark t name k → get_or (map (λ (m : Placed). m.name) t.marks) k [] ≡ name
name_read t name k o h =
    let names = λ (m : Placed). m.name in
    let stands = mark_within t name k o h in
    sym (get_or-take t.standing (map names t.marks) k [] stands)
    ∙ ap (λ (ns : List (List ℕ)). get_or ns k []) (take-map names t.standing t.marks)
    ∙ get_or_from_slice_get (mark_names t) k name [] h

-- a standing mark's name is one of the grammar of lines
pub mark_is_named : (t : Trail) (name : List ℕ) (k : ℕ) → IsOrdered t → IsMark t name k → is_name name ≡ true
mark_is_named t name k o h =
    let none : Placed = record { name = []; place = 0 } in
    let within : k < length (standing_marks t) = omega (arith, mark_within t name k o h, standing_length t o) in
    let good = All-take (λ m. is_name m.name ≡ true) t.standing t.marks o.named k none within in
    let read : get_or (mark_names t) k [] ≡ (get_or (standing_marks t) k none).name = get_or-map (λ (m : Placed). m.name) (standing_marks t) k none [] within in
    subst (λ n. is_name n ≡ true) (sym read ∙ get_or_from_slice_get (mark_names t) k name [] h) good

-- the place of a mark
pub place_read : (t : Trail) (k : ℕ) (d : Placed) → k < length t.marks → place_of t k ≡ (get_or t.marks k d).place
place_read t k d h = get_or-map (λ (m : Placed). m.place) t.marks k d 0 h

-- a standing mark has no place after the steps that stand
pub place_within : (t : Trail) (k : ℕ) → IsOrdered t → k < t.standing → place_of t k ≤ t.at
place_within t k o h =
    let none : Placed = record { name = []; place = 0 } in
    let placed = o.placed k none (omega (arith, standing_length t o)) in
    let read : (get_or t.marks k none).place ≤ t.at = rw (get_or-take t.standing t.marks k none h) at placed in
    let within = o.standing in
    rw (place_read t k none (omega arith)) read

pub ordered-noted : (t : Trail) (s : Difference) → IsOrdered t → IsOrdered (noted t s)
ordered-noted t s o = record {
  at = omega (arith, long);
  standing = omega (arith, short);
  named = All-take (λ m. is_name m.name ≡ true) t.standing t.marks o.named;
  names_differ = pairs-take (λ m n. m.name ≢ n.name) t.standing t.marks o.standing o.names_differ;
  ascending = pairs-take (λ m n. m.place ≤ n.place) t.standing t.marks o.standing o.ascending;
  placed = All-take (λ m. m.place ≤ t.at + 1) t.standing (standing_marks t) (All-weaker (λ m. m.place ≤ t.at) (λ m. m.place ≤ t.at + 1) (λ m h. omega arith) (standing_marks t) o.placed);
  within = All-weaker (λ m. m.place ≤ t.at) (λ m. m.place ≤ length (take t.at t.steps ++ s ∷ [])) (λ m h. omega (arith, long)) (standing_marks t) o.placed;
  ahead = All-nil (IsAhead (take t.at t.steps ++ s ∷ []) (t.at + 1) (standing_marks t));
  descending = pairs-none (λ (u v : Ahead). v.at ≤ u.at);
  begun = λ none. refl;
}
  where
    short : length (standing_marks t) ≡ t.standing
    short = standing_length t o

    long : length (take t.at t.steps ++ s ∷ []) ≡ t.at + 1
    long = omega (arith, length-append (take t.at t.steps) (s ∷ []), length-take-le t.at t.steps o.at)

pub ordered-marked : (t : Trail) (name : List ℕ) → IsOrdered t → is_name name ≡ true → (HasMark t name → ⊥) → IsOrdered (marked t name)
ordered-marked t name o good new = record {
  at = omega (arith, long);
  standing = omega (arith, further);
  named = All-push (λ m. is_name m.name ≡ true) (standing_marks t) mark (All-take (λ m. is_name m.name ≡ true) t.standing t.marks o.named) good;
  names_differ = all_pairs_push (λ m n. m.name ≢ n.name) (standing_marks t) mark (pairs-take (λ m n. m.name ≢ n.name) t.standing t.marks o.standing o.names_differ) other;
  ascending = all_pairs_push (λ m n. m.place ≤ n.place) (standing_marks t) mark (pairs-take (λ m n. m.place ≤ n.place) t.standing t.marks o.standing o.ascending) o.placed;
  placed = All-take (λ m. m.place ≤ t.at) (t.standing + 1) (standing_marks t ++ mark ∷ []) all;
  within = All-weaker (λ m. m.place ≤ t.at) (λ m. m.place ≤ length (take t.at t.steps)) (λ m h. omega (arith, long)) (standing_marks t ++ mark ∷ []) all;
  ahead = All-nil (IsAhead (take t.at t.steps) t.at (standing_marks t ++ mark ∷ []));
  descending = pairs-none (λ (u v : Ahead). v.at ≤ u.at);
  begun = λ none. refl;
}
  where
    mark : Placed
    mark = record { name = name; place = t.at }

    short : length (standing_marks t) ≡ t.standing
    short = standing_length t o

    long : length (take t.at t.steps) ≡ t.at
    long = length-take-le t.at t.steps o.at

    further : length (standing_marks t ++ mark ∷ []) ≡ t.standing + 1
    further = omega (arith, length-append (standing_marks t) (mark ∷ []), short)

    other : (k : ℕ) (d : Placed) → k < length (standing_marks t) → (get_or (standing_marks t) k d).name ≢ name
    other k d h e =
        let within : k < t.standing = omega (arith, short) in
        let same : (get_or t.marks k d).name ≡ name = rw (get_or-take t.standing t.marks k d within) at e in
        new (k, subst (λ n. IsMark t n k) same (name_is_mark t k d o within))

    all : All (λ m. m.place ≤ t.at) (standing_marks t ++ mark ∷ [])
    all = All-push (λ m. m.place ≤ t.at) (standing_marks t) mark o.placed (omega arith)

pub ordered-back : (t : Trail) (k : ℕ) → IsOrdered t → k < t.standing → IsOrdered (back t k)
ordered-back t k o h = record {
  at = rw (place_read t k none listed) (o.within k none listed);
  standing = omega arith;
  named = o.named;
  names_differ = o.names_differ;
  ascending = o.ascending;
  placed = placed;
  within = o.within;
  ahead = All-push (IsAhead t.steps (place_of t k) t.marks) t.undone (undo_at t k) earlier here;
  descending = all_pairs_push (λ (u v : Ahead). v.at ≤ u.at) t.undone (undo_at t k) o.descending (λ j d l. (o.ahead j d l).more);
  begun = λ none. absurd (omega arith);
}
  where
    none : Placed
    none = record { name = []; place = 0 }

    less : (u : Ahead) → IsAhead t.steps t.at t.marks u → IsAhead t.steps (place_of t k) t.marks u
    less u is = let low = place_within t k o h in let high = is.more in record { mark = is.mark; standing = is.standing; more = omega arith; within = is.within; placed = is.placed }

    earlier : All (IsAhead t.steps (place_of t k) t.marks) t.undone
    earlier = All-weaker (IsAhead t.steps t.at t.marks) (IsAhead t.steps (place_of t k) t.marks) less t.undone o.ahead

    here : IsAhead t.steps (place_of t k) t.marks (undo_at t k)
    here = record { mark = h; standing = o.standing; more = place_within t k o h; within = o.at; placed = o.placed }

    listed : k < length t.marks
    listed = omega (arith, o.standing)

    lesser : (j : ℕ) (d : Placed) → j < k + 1 → (get_or t.marks j d).place ≤ place_of t k
    lesser j d l = elim (cases_lt j k) [
      | inl m ↦ rw (place_read t k d listed) (o.ascending j k d m listed)
      | inr n ↦ let same : j ≡ k = omega arith in rw (place_read t k d listed, same) (let r : (get_or t.marks k d).place ≤ (get_or t.marks k d).place = omega arith in r)
    ]

    placed : All (λ m. m.place ≤ place_of t k) (take (k + 1) t.marks)
    placed j d l =
        let within : j < k + 1 = omega (arith, length-take-le (k + 1) t.marks (omega arith)) in
        rw (get_or-take (k + 1) t.marks j d within) (lesser j d within)

-- the trail of another undo's cursors, where these undos can then be taken back
pub ordered-at : (t : Trail) (others : List Ahead) (u : Ahead) → IsOrdered t → IsAhead t.steps t.at t.marks u → All (IsAhead t.steps u.at t.marks) others
    → AllPairs (λ u v. v.at ≤ u.at) others → IsOrdered (forth t others u)
ordered-at t others u o is ahead descending = record {
  at = is.within;
  standing = is.standing;
  named = o.named;
  names_differ = o.names_differ;
  ascending = o.ascending;
  placed = is.placed;
  within = o.within;
  ahead = ahead;
  descending = descending;
  begun = λ none. let some = is.mark in absurd (omega arith);
}

-- the trail as it stood before an undo, of which alone is asked
pub ordered-alone : (t : Trail) (u : Ahead) → IsOrdered t → IsAhead t.steps t.at t.marks u → IsOrdered (forth t [] u)
ordered-alone t u o is = ordered-at t [] u o is (All-nil (IsAhead t.steps u.at t.marks)) (pairs-none (λ (u v : Ahead). v.at ≤ u.at))

-- the last undo that can be taken back, and those before it
module _ (t : Trail) (others : List Ahead) (last : Ahead) (o : IsOrdered t) (there : t.undone ≡ others ++ last ∷ []) where
  all-ahead : All (IsAhead t.steps t.at t.marks) (others ++ last ∷ [])
  all-ahead = subst (All (IsAhead t.steps t.at t.marks)) there o.ahead

  pub last-ahead : IsAhead t.steps t.at t.marks last
  last-ahead =
      subst (IsAhead t.steps t.at t.marks) (get_or_push others last last (length others) refl)
      (all-ahead (length others) last (omega (arith, length_push others last)))

  pub others-ahead : All (IsAhead t.steps last.at t.marks) others
  others-ahead i d h =
      let long = length_push others last in
      let one : IsAhead t.steps t.at t.marks (get_or others i d) =
      subst (IsAhead t.steps t.at t.marks) (get_or_append_left others (last ∷ []) d i h) (all-ahead i d (omega arith)) in
      let pairs : AllPairs (λ (u v : Ahead). v.at ≤ u.at) (others ++ last ∷ []) = subst (AllPairs (λ (u v : Ahead). v.at ≤ u.at)) there o.descending in
      let fewer : (get_or (others ++ last ∷ []) (length others) d).at ≤ (get_or (others ++ last ∷ []) i d).at = pairs i (length others) d h (omega arith) in
      let more : last.at ≤ (get_or others i d).at =
      rw (get_or_push others last d (length others) refl, get_or_append_left others (last ∷ []) d i h) at fewer in
      record { mark = one.mark; standing = one.standing; more = more; within = one.within; placed = one.placed }

  pub ordered-forth : IsOrdered (forth t others last)
  ordered-forth = ordered-at t others last o last-ahead others-ahead others-descending
    where
      others-descending : AllPairs (λ (u v : Ahead). v.at ≤ u.at) others
      others-descending =
          subst (AllPairs (λ (u v : Ahead). v.at ≤ u.at)) (take_at others (last ∷ []) (length others) refl)
          (pairs-take (λ (u v : Ahead). v.at ≤ u.at) (length others) (others ++ last ∷ []) (omega (arith, length_push others last))
          (subst (AllPairs (λ (u v : Ahead). v.at ≤ u.at)) there o.descending))

-- the steps from a place on
pub taken_since : (steps : List Difference) (place at : ℕ) → place ≤ at → take (at - place) (drop place steps) ≡ drop place (take at steps)
taken_since steps place at within =
    let all : place + (at - place) ≡ at = omega arith in
    sym (drop-take place (at - place) steps) ∙ ap (λ n. drop place (take n steps)) all
