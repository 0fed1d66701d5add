-- The contents in between, while steps are put forward one after another.
use Rattle.std.proofs.Common.{◌≡◌, ℕ, suc, ◌+◌, ◌<◌, ◌≤◌, List, length, get_or, take, drop, sym, ap, ◌∙◌, subst, arith}
use Rattle.std.proofs.lemmas.List.{take-take, drop-take, get_or-take, get_or-drop, length-drop, length-take-le}
use Rattle.machine_defs.specs.State.{Content}
use Rattle.machine_defs.specs.Difference.{Difference, IsDifference}
use Rattle.machine_defs.specs.Kept.{IsLawfulContent}
use Rattle.journal_laws.specs.Following.{Follows, all_put_forward}
use Rattle.journal_laws.proofs.Chains.{on-between}
use Rattle.trail_laws.specs.Trails.{Ahead, Trail, steps_ahead, IsAhead, IsOrdered}
use Rattle.trail_laws.specs.Told.{origin, contents_of, IsTraced}
use Rattle.trail_laws.proofs.Along.{along-long, follow-at, differ-at}
use Rattle.trail_laws.proofs.Reading.{now-read}

module _ (now : Content) (t : Trail) (u : Ahead) (h : IsTraced now t) (o : IsOrdered t) (is : IsAhead t.steps t.at t.marks u) where
  -- how many steps there are ahead
  pub ahead-long : t.at + length (steps_ahead t u) ≡ u.at
  ahead-long =
      let long = length-drop t.at (take u.at t.steps) in
      let short = length-take-le u.at t.steps is.within in
      let low = is.more in
      omega arith

  -- each content has its place
  onward-within : (i : ℕ) → i ≤ u.at → i < length (contents_of now t)
  onward-within i low = let long = along-long t.steps (origin now t) in let at = is.within in omega arith

  module _ (j : ℕ) (d : Content) (small : j ≤ length (steps_ahead t u)) where
    onward-low : t.at + j ≤ u.at
    onward-low = let all = ahead-long in omega arith

    front-ahead : take j (steps_ahead t u) ≡ drop t.at (take (t.at + j) t.steps)
    front-ahead = sym (drop-take t.at j (take u.at t.steps)) ∙ ap (λ (ss : List Difference). drop t.at ss) (take-take (t.at + j) u.at t.steps onward-low)

    -- the first j steps put forward give the content at their end
    pub onward-is : all_put_forward (take j (steps_ahead t u)) now ≡ get_or (contents_of now t) (t.at + j) d
    onward-is =
        ap (λ (ss : List Difference). all_put_forward ss now) front-ahead
        ∙ ap (λ (c : Content). all_put_forward (drop t.at (take (t.at + j) t.steps)) c) (sym (now-read now t h o d))
        ∙ on-between (contents_of now t) t.steps d t.at (t.at + j) h.follow h.steps (omega arith) (onward-within (t.at + j) onward-low)

    pub onward-kept : IsLawfulContent (all_put_forward (take j (steps_ahead t u)) now)
    onward-kept = subst (λ (c : Content). IsLawfulContent c) (sym onward-is) (h.kept (t.at + j) d (onward-within (t.at + j) onward-low))

  -- neighbours, with the step between them
  module _ (j : ℕ) (inside : j < length (steps_ahead t u)) where
    next-is : all_put_forward (take (j + 1) (steps_ahead t u)) now ≡ get_or (contents_of now t) (suc (t.at + j)) now
    next-is =
        onward-is (j + 1) now (omega arith)
        ∙ ap (λ (n : ℕ). get_or (contents_of now t) n now) (let same : t.at + (j + 1) ≡ suc (t.at + j) = omega arith in same)

    further : suc (t.at + j) < length (contents_of now t)
    further = let all = ahead-long in onward-within (suc (t.at + j)) (omega arith)

    pub onward-follows : Follows (all_put_forward (take j (steps_ahead t u)) now) (all_put_forward (take (j + 1) (steps_ahead t u)) now)
    onward-follows =
        let one = follow-at (contents_of now t) (t.at + j) now h.follow further in
        let left = subst (λ (c : Content). Follows c (get_or (contents_of now t) (suc (t.at + j)) now)) (sym (onward-is j now (omega arith))) one in
        subst (λ (c : Content). Follows (all_put_forward (take j (steps_ahead t u)) now) c) (sym next-is) left

  module _ (j : ℕ) (e : Difference) (inside : j < length (steps_ahead t u)) where
    step-is : get_or (steps_ahead t u) j e ≡ get_or t.steps (t.at + j) e
    step-is = get_or-drop t.at (take u.at t.steps) j e ∙ get_or-take u.at t.steps (t.at + j) e (let all = ahead-long in omega arith)

    pub onward-differ : IsDifference (all_put_forward (take j (steps_ahead t u)) now) (all_put_forward (take (j + 1) (steps_ahead t u)) now) (get_or (steps_ahead t u) j e)
    onward-differ =
        let one = differ-at (contents_of now t) t.steps (t.at + j) now e h.steps (further j inside) in
        let left = subst (λ (c : Content). IsDifference c (get_or (contents_of now t) (suc (t.at + j)) now) (get_or t.steps (t.at + j) e)) (sym (onward-is j now (omega arith))) one in
        let right = subst (λ (c : Content). IsDifference (all_put_forward (take j (steps_ahead t u)) now) c (get_or t.steps (t.at + j) e)) (sym (next-is j inside)) left in
        subst (λ (s : Difference). IsDifference (all_put_forward (take j (steps_ahead t u)) now) (all_put_forward (take (j + 1) (steps_ahead t u)) now) s) (sym step-is) right
