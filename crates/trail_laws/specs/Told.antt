-- The state that a present content and a trail tell: whole copies of the past and of the marks, all told from the steps.
use Rattle.std.specs.Prelude.{ℕ, ◌≡◌, List, [], ◌∷◌, take, map, All, slice_index_or}
use Rattle.machine_defs.specs.Difference.{Difference, put_forward, AreDifferences}
use Rattle.machine_defs.specs.State.{Content, Mark, Undone, State}
use Rattle.machine_defs.specs.Kept.{IsLawfulContent}
use Rattle.journal_laws.specs.Following.{AllFollow, all_put_forward, all_taken_back}
use Rattle.trail_laws.specs.Trails.{Placed, Ahead, Trail, standing_steps, standing_marks, steps_since, steps_ahead}

-- the content before all standing steps
abbrev pub origin : Content → Trail → Content
origin now t = all_taken_back (standing_steps t) now

-- the contents that these steps lead through, the first of which is c
abbrev pub contents_along : List Difference → Content → List Content
contents_along [] c = c ∷ []
contents_along (s ∷ steps) c = c ∷ contents_along steps (put_forward s c)

-- the contents that all steps lead through, those ahead too, which were taken back
abbrev pub contents_of : Content → Trail → List Content
contents_of now t = contents_along t.steps (origin now t)

-- the contents before each of the standing steps
abbrev pub past_of : Content → Trail → List Content
past_of now t = take t.at (contents_of now t)

-- the content that so many of these steps lead to
abbrev pub content_at : Content → List Difference → ℕ → Content
content_at first steps j = all_put_forward (take j steps) first

-- a mark, with the content that the steps before it lead to
abbrev pub mark_of : Content → Trail → Placed → Mark
mark_of now t m = record { name = m.name; content = content_at (origin now t) t.steps m.place; place = m.place }

-- what an undo took back: the content that the steps before it lead to, and the past and the marks of then
abbrev pub undone_of : Content → Trail → Ahead → Undone
undone_of now t u = record {
  name = slice_index_or (map (λ (m : Placed). m.name) t.marks) u.mark [];
  present = content_at (origin now t) t.steps u.at;
  past = take u.at (contents_of now t);
  marks = map (mark_of now t) (take u.standing t.marks);
}

-- the state of a present content and a trail
abbrev pub told : Content → Trail → State
told now t = record {
  present = now;
  past = past_of now t;
  marks = map (mark_of now t) (standing_marks t);
  undone = map (undone_of now t) t.undone;
}

-- the content with all steps since mark k taken back
abbrev pub before_steps : Content → Trail → ℕ → Content
before_steps now t k = all_taken_back (steps_since t k) now

-- the content with all steps that an undo took back put forward
abbrev pub after_steps : Content → Trail → Ahead → Content
after_steps now t last = all_put_forward (steps_ahead t last) now

-- What a present content and its trail keep.
pub record IsTraced (now : Content) (t : Trail) : Type 0 where
  -- the standing steps lead to the present content
  pub here : all_put_forward (standing_steps t) (origin now t) ≡ now
  -- each content is lawful, and each follows the one before it, those ahead too
  pub kept : All IsLawfulContent (contents_of now t)
  pub follow : AllFollow (contents_of now t)
  -- the steps are what these differ by
  pub steps : AreDifferences (contents_of now t) t.steps
  -- until a mark is set there is no step
  pub unmarked : t.standing ≡ 0 → t.steps ≡ []
