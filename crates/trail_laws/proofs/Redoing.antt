-- Taking back what an undo did.
use Rattle.std.proofs.Common.{◌≡◌, ℕ, ◌<◌, List, [], length, get_or, take, map, All, sym, ap, ◌∙◌, subst, arith}
use Rattle.machine_defs.specs.State.{Content, Mark, Undone}
use Rattle.machine_defs.specs.Marking.{forth_to}
use Rattle.machine_defs.specs.Difference.{Difference, AreDifferences}
use Rattle.machine_defs.specs.Kept.{IsLawfulContent}
use Rattle.journal_laws.specs.Following.{AllFollow, all_put_forward, all_taken_back}
use Rattle.journal_laws.proofs.Chains.{on-between, back-to}
use Rattle.trail_laws.specs.Trails.{Placed, Ahead, Trail, steps_since, steps_ahead, place_of, undo_at, back, forth, IsAhead, IsOrdered}
use Rattle.trail_laws.specs.Told.{origin, contents_along, contents_of, past_of, content_at, mark_of, undone_of, told, before_steps, after_steps, IsTraced}
use Rattle.trail_laws.proofs.TrailFacts.{place_within}
use Rattle.trail_laws.proofs.Along.{along-long, along-at}
use Rattle.trail_laws.proofs.Reading.{within, now-read, taken-to}

-- what is told of a mark and of an undo, by the first content
abbrev pub mark_from : Content → List Difference → Placed → Mark
mark_from first steps m = record { name = m.name; content = content_at first steps m.place; place = m.place }

abbrev pub undone_from : Content → Trail → Ahead → Undone
undone_from first t u = record {
  name = get_or (map (λ (m : Placed). m.name) t.marks) u.mark [];
  present = content_at first t.steps u.at;
  past = take u.at (contents_along t.steps first);
  marks = map (mark_from first t.steps) (take u.standing t.marks);
}

module _ (now : Content) (t : Trail) (others : List Ahead) (u : Ahead) (h : IsTraced now t) (o : IsOrdered t) (is : IsAhead t.steps t.at t.marks u) where
  inside : u.at < length (contents_of now t)
  inside = let long = along-long t.steps (origin now t) in let at = is.within in omega arith

  -- the content that a redo gives stands among the others
  pub after-read : (d : Content) → after_steps now t u ≡ get_or (contents_of now t) u.at d
  after-read d =
      ap (λ (c : Content). all_put_forward (steps_ahead t u) c) (sym (now-read now t h o d))
      ∙ on-between (contents_of now t) t.steps d t.at u.at h.follow h.steps is.more inside

  pub after-is : after_steps now t u ≡ content_at (origin now t) t.steps u.at
  after-is = after-read now ∙ along-at t.steps (origin now t) u.at now is.within

  -- the first content stays
  pub origin-forth : origin (after_steps now t u) (forth t others u) ≡ origin now t
  origin-forth =
      ap (λ (c : Content). all_taken_back (take u.at t.steps) c) (after-read now)
      ∙ back-to (contents_of now t) t.steps now u.at h.follow h.steps inside
      ∙ along-at t.steps (origin now t) 0 now (omega arith)

  -- and with it all contents that the steps lead through
  pub contents-forth : contents_of (after_steps now t u) (forth t others u) ≡ contents_of now t
  contents-forth = ap (λ (c : Content). contents_along t.steps c) origin-forth

  pub past-forth : past_of (after_steps now t u) (forth t others u) ≡ take u.at (contents_of now t)
  past-forth = ap (λ (cs : List Content). take u.at cs) contents-forth

  pub marks-forth : map (mark_of (after_steps now t u) (forth t others u)) (take u.standing t.marks) ≡ map (mark_of now t) (take u.standing t.marks)
  marks-forth = ap (λ (c : Content). map (mark_from c t.steps) (take u.standing t.marks)) origin-forth

  undone-forth : map (undone_of (after_steps now t u) (forth t others u)) others ≡ map (undone_of now t) others
  undone-forth = ap (λ (c : Content). map (undone_from c t) others) origin-forth

  pub traced-forth : IsTraced (after_steps now t u) (forth t others u)
  traced-forth = record {
    here = ap (λ (c : Content). all_put_forward (take u.at t.steps) c) origin-forth ∙ sym after-is;
    kept = subst (λ (cs : List Content). All IsLawfulContent cs) (sym contents-forth) h.kept;
    follow = subst (λ (cs : List Content). AllFollow cs) (sym contents-forth) h.follow;
    steps = subst (λ (cs : List Content). AreDifferences cs t.steps) (sym contents-forth) h.steps;
    unmarked = λ none. let some = is.mark in absurd (omega arith);
  }

  pub told-forth : told (after_steps now t u) (forth t others u) ≡ forth_to (map (undone_of now t) others) (undone_of now t u)
  told-forth = λ i. record { present = after-is i; past = past-forth i; marks = marks-forth i; undone = undone-forth i }

-- the steps that an undo took back lead to the content that it went back from
pub forth-again : (now : Content) (t : Trail) (k : ℕ) → IsTraced now t → IsOrdered t → k < t.standing
    → after_steps (before_steps now t k) (back t k) (undo_at t k) ≡ now
forth-again now t k h o stands =
    let low = place_within t k o stands in
    ap (λ (c : Content). all_put_forward (steps_since t k) c) (taken-to now t h o (place_of t k) now low)
    ∙ on-between (contents_of now t) t.steps now (place_of t k) t.at h.follow h.steps low (within now t h o t.at (omega arith))
    ∙ now-read now t h o now
