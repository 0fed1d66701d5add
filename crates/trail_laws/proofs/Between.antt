-- The contents in between, while steps are taken back one after another.
use Rattle.std.proofs.Common.{◌≡◌, ℕ, suc, ◌+◌, ◌<◌, ◌≤◌, List, [], ◌∷◌, ◌++◌, length, get_or, drop, Some, slice_get, sym, ap, ◌∙◌, subst, arith}
use Rattle.std.proofs.lemmas.List.{get_or-take, get_or-drop, drop-drop, drop_more, length-drop, length-take-le, length-append}
use Rattle.std.proofs.lemmas.Option.{slice_get-get_or}
use Rattle.map_defs.specs.Edits.{IsLed}
use Rattle.machine_defs.specs.State.{Content}
use Rattle.machine_defs.specs.Difference.{Difference, IsDifference, taken_back}
use Rattle.machine_defs.specs.Kept.{IsLawfulContent}
use Rattle.journal_laws.specs.Following.{Follows, all_taken_back}
use Rattle.journal_laws.proofs.Leading.{difference-led}
use Rattle.trail_laws.specs.Trails.{Trail, standing_steps, steps_since, place_of, IsOrdered}
use Rattle.trail_laws.proofs.TrailFacts.{place_within}
use Rattle.trail_laws.specs.Told.{contents_of, past_of, told, IsTraced}
use Rattle.trail_laws.proofs.Along.{follow-at, differ-at}
use Rattle.trail_laws.proofs.Reading.{within, past-and-now, past-long, taken-to}

module _ (now : Content) (t : Trail) (k : ℕ) (h : IsTraced now t) (o : IsOrdered t) (stands : k < t.standing) where
  -- how many steps there are since the mark
  pub since-long : place_of t k + length (steps_since t k) ≡ t.at
  since-long =
      let long = length-drop (place_of t k) (standing_steps t) in
      let short = length-take-le t.at t.steps o.at in
      let low = place_within t k o stands in
      omega arith

  module _ (j : ℕ) (d : Content) (small : j ≤ length (steps_since t k)) where
    low : place_of t k + j ≤ t.at
    low = let all = since-long in omega arith

    -- the steps from number j on taken back give the content at its place
    pub between-is : all_taken_back (drop j (steps_since t k)) now ≡ get_or (contents_of now t) (place_of t k + j) d
    between-is = ap (λ (ss : List Difference). all_taken_back ss now) (drop-drop j (place_of t k) (standing_steps t)) ∙ taken-to now t h o (place_of t k + j) d low

    pub between-kept : IsLawfulContent (all_taken_back (drop j (steps_since t k)) now)
    between-kept = subst (λ (c : Content). IsLawfulContent c) (sym between-is) (h.kept (place_of t k + j) d (within now t h o (place_of t k + j) low))

    pub between-there : slice_get ((told now t).past ++ now ∷ []) (place_of t k + j) ≡ Some (all_taken_back (drop j (steps_since t k)) now)
    between-there =
        let long = past-long now t h o in
        let more = length-append (past_of now t) (now ∷ []) in
        let inside = low in
        let front : get_or (past_of now t ++ now ∷ []) (place_of t k + j) d ≡ get_or (contents_of now t) (place_of t k + j) d =
        ap (λ (cs : List Content). get_or cs (place_of t k + j) d) (sym (past-and-now now t h o))
        ∙ get_or-take (suc t.at) (contents_of now t) (place_of t k + j) d (omega arith) in
        slice_get-get_or (past_of now t ++ now ∷ []) (place_of t k + j) d (omega arith) ∙ ap (λ (c : Content). Some c) (front ∙ sym between-is)

  -- neighbours, with the step between them
  module _ (j : ℕ) (inside : j < length (steps_since t k)) where
    before-now : place_of t k + j < t.at
    before-now = let all = since-long in omega arith

    next-is : all_taken_back (drop (j + 1) (steps_since t k)) now ≡ get_or (contents_of now t) (suc (place_of t k + j)) now
    next-is =
        between-is (j + 1) now (omega arith)
        ∙ ap (λ (n : ℕ). get_or (contents_of now t) n now) (let same : place_of t k + (j + 1) ≡ suc (place_of t k + j) = omega arith in same)

    further : suc (place_of t k + j) < length (contents_of now t)
    further = let before = before-now in within now t h o (suc (place_of t k + j)) (omega arith)

    pub between-follows : Follows (all_taken_back (drop j (steps_since t k)) now) (all_taken_back (drop (j + 1) (steps_since t k)) now)
    between-follows =
        let one = follow-at (contents_of now t) (place_of t k + j) now h.follow further in
        let left = subst (λ (c : Content). Follows c (get_or (contents_of now t) (suc (place_of t k + j)) now)) (sym (between-is j now (omega arith))) one in
        subst (λ (c : Content). Follows (all_taken_back (drop j (steps_since t k)) now) c) (sym next-is) left

  module _ (j : ℕ) (e : Difference) (inside : j < length (steps_since t k)) where
    step-is : get_or (steps_since t k) j e ≡ get_or t.steps (place_of t k + j) e
    step-is = get_or-drop (place_of t k) (standing_steps t) j e ∙ get_or-take t.at t.steps (place_of t k + j) e (before-now j inside)

    pub between-differ : IsDifference (all_taken_back (drop j (steps_since t k)) now) (all_taken_back (drop (j + 1) (steps_since t k)) now) (get_or (steps_since t k) j e)
    between-differ =
        let one = differ-at (contents_of now t) t.steps (place_of t k + j) now e h.steps (further j inside) in
        let left = subst (λ (c : Content). IsDifference c (get_or (contents_of now t) (suc (place_of t k + j)) now) (get_or t.steps (place_of t k + j) e)) (sym (between-is j now (omega arith))) one in
        let right = subst (λ (c : Content). IsDifference (all_taken_back (drop j (steps_since t k)) now) c (get_or t.steps (place_of t k + j) e)) (sym (next-is j inside)) left in
        subst (λ (s : Difference). IsDifference (all_taken_back (drop j (steps_since t k)) now) (all_taken_back (drop (j + 1) (steps_since t k)) now) s) (sym step-is) right

    pub between-led : IsLed (all_taken_back (drop j (steps_since t k)) now).kind (all_taken_back (drop j (steps_since t k)) now).dim (get_or (steps_since t k) j e).edit
        (all_taken_back (drop j (steps_since t k)) now).rows (all_taken_back (drop (j + 1) (steps_since t k)) now).rows
    between-led =
        difference-led (all_taken_back (drop j (steps_since t k)) now) (all_taken_back (drop (j + 1) (steps_since t k)) now) (get_or (steps_since t k) j e)
        (between-follows j inside) between-differ

    -- one more step taken back
    pub between-back : all_taken_back (drop j (steps_since t k)) now ≡ taken_back (get_or (steps_since t k) j e) (all_taken_back (drop (j + 1) (steps_since t k)) now)
    between-back = ap (λ (ss : List Difference). all_taken_back ss now) (drop_more (steps_since t k) j e inside)
