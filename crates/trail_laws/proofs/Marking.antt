-- A mark that was set.
use Rattle.std.proofs.Common.{◌≡◌, ℕ, ◌+◌, ◌≤◌, List, [], ◌∷◌, ◌++◌, length, take, map, All, sym, ap, ap₂, ◌∙◌, subst, arith}
use Rattle.std.proofs.lemmas.List.{take_all, take_at, take-take, length-append, map_push}
use Rattle.std.proofs.lemmas.List.Elements.{All-push, All-weaker}
use Rattle.machine_defs.specs.State.{Content, Mark}
use Rattle.machine_defs.specs.Marking.{with_mark}
use Rattle.machine_defs.specs.Difference.{Difference, AreDifferences}
use Rattle.machine_defs.specs.Kept.{IsLawfulContent}
use Rattle.journal_laws.specs.Following.{AllFollow, all_put_forward, all_taken_back}
use Rattle.trail_laws.specs.Trails.{Placed, Trail, standing_steps, standing_marks, marked, IsOrdered}
use Rattle.trail_laws.proofs.TrailFacts.{standing_length}
use Rattle.trail_laws.specs.Told.{origin, contents_along, contents_of, past_of, mark_of, told, IsTraced}
use Rattle.trail_laws.proofs.Reading.{along-standing, past-long, past-kept, past-follow, past-differ, now-kept}
use Rattle.trail_laws.proofs.Noting.{map-same}

module _ (now : Content) (t : Trail) (name : List ℕ) (h : IsTraced now t) (o : IsOrdered t) where
  standing-marked : standing_steps (marked t name) ≡ standing_steps t
  standing-marked = take-take t.at t.at t.steps (omega arith)

  -- the first content stays
  pub origin-marked : origin now (marked t name) ≡ origin now t
  origin-marked = ap (λ (ss : List Difference). all_taken_back ss now) standing-marked

  contents-marked : contents_of now (marked t name) ≡ past_of now t ++ now ∷ []
  contents-marked = ap (λ (c : Content). contents_along (standing_steps t) c) origin-marked ∙ along-standing now t h o

  past-marked : past_of now (marked t name) ≡ past_of now t
  past-marked =
      ap (λ (cs : List Content). take t.at cs) contents-marked
      ∙ take_at (past_of now t) (now ∷ []) t.at (past-long now t h o)

  mark-marked : (m : Placed) → m.place ≤ t.at → mark_of now (marked t name) m ≡ mark_of now t m
  mark-marked m low =
      let steps : take m.place (standing_steps t) ≡ take m.place t.steps = take-take m.place t.at t.steps low in
      λ i. record { name = m.name; content = all_put_forward (steps i) (origin-marked i); place = m.place }

  mark-new : mark_of now (marked t name) (record { name = name; place = t.at }) ≡ record { name = name; content = now; place = length (past_of now t) }
  mark-new =
      let content : all_put_forward (standing_steps (marked t name)) (origin now (marked t name)) ≡ now =
      ap₂ (λ (ss : List Difference) (c : Content). all_put_forward ss c) standing-marked origin-marked ∙ h.here in
      let place : t.at ≡ length (past_of now t) = sym (past-long now t h o) in
      λ i. record { name = name; content = content i; place = place i }

  standing-marks : standing_marks (marked t name) ≡ standing_marks t ++ record { name = name; place = t.at } ∷ []
  standing-marks =
      take_all (t.standing + 1) (standing_marks t ++ record { name = name; place = t.at } ∷ [])
      (let short = standing_length t o in let long = length-append (standing_marks t) (record { name = name; place = t.at } ∷ []) in omega arith)

  marks-marked : map (mark_of now (marked t name)) (standing_marks (marked t name))
      ≡ map (mark_of now t) (standing_marks t) ++ record { name = name; content = now; place = length (past_of now t) } ∷ []
  marks-marked =
      ap (λ (ms : List Placed). map (mark_of now (marked t name)) ms) standing-marks
      ∙ map_push (mark_of now (marked t name)) (standing_marks t) (record { name = name; place = t.at })
      ∙ ap₂ (λ (ms : List Mark) (m : Mark). ms ++ m ∷ [])
      (map-same (mark_of now (marked t name)) (mark_of now t) (standing_marks t)
      (All-weaker (λ (m : Placed). m.place ≤ t.at) (λ (m : Placed). mark_of now (marked t name) m ≡ mark_of now t m) mark-marked (standing_marks t) o.placed))
      mark-new

  pub told-marked : told now (marked t name) ≡ with_mark (told now t) name
  told-marked = λ i. record { present = now; past = past-marked i; marks = marks-marked i; undone = [] }

  pub traced-marked : IsTraced now (marked t name)
  traced-marked = record {
    here = ap₂ (λ (ss : List Difference) (c : Content). all_put_forward ss c) standing-marked origin-marked ∙ h.here;
    kept =
        subst (λ (cs : List Content). All IsLawfulContent cs) (sym contents-marked)
        (All-push IsLawfulContent (past_of now t) now (past-kept now t h o) (now-kept now t h o));
    follow = subst (λ (cs : List Content). AllFollow cs) (sym contents-marked) (past-follow now t h o);
    steps = subst (λ (cs : List Content). AreDifferences cs (standing_steps t)) (sym contents-marked) (past-differ now t h o);
    unmarked = λ none. absurd (omega arith);
  }
