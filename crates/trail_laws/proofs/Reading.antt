-- What a trail and its present content tell of the past.
use Rattle.std.proofs.Common.{◌≡◌, ℕ, suc, ◌<◌, ◌≤◌, List, [], ◌∷◌, ◌++◌, length, get_or, take, drop, All, sym, ap, ◌∙◌, subst, arith, add-one}
use Rattle.std.proofs.lemmas.List.{take_more, length-take-le}
use Rattle.std.proofs.lemmas.List.Elements.{All-take}
use Rattle.machine_defs.specs.State.{Content}
use Rattle.machine_defs.specs.Difference.{AreDifferences}
use Rattle.machine_defs.specs.Kept.{IsLawfulContent}
use Rattle.journal_laws.specs.Following.{AllFollow, all_put_forward, all_taken_back}
use Rattle.journal_laws.proofs.Chains.{back-between, follow-front, differences-front}
use Rattle.trail_laws.specs.Trails.{Trail, standing_steps, IsOrdered}
use Rattle.trail_laws.specs.Told.{origin, contents_along, contents_of, past_of, IsTraced}
use Rattle.trail_laws.proofs.Along.{along-long, along-at, along-front}

module _ (now : Content) (t : Trail) (h : IsTraced now t) (o : IsOrdered t) where
  -- the places of contents
  pub within : (i : ℕ) → i ≤ t.at → i < length (contents_of now t)
  within i low = let long = along-long t.steps (origin now t) in let at = o.at in omega arith

  -- the present content has its place among them
  pub now-read : (d : Content) → get_or (contents_of now t) t.at d ≡ now
  now-read d = along-at t.steps (origin now t) t.at d o.at ∙ h.here

  pub past-and-now : take (suc t.at) (contents_of now t) ≡ past_of now t ++ now ∷ []
  past-and-now =
      ap (λ (n : ℕ). take n (contents_of now t)) (sym (add-one t.at))
      ∙ take_more (contents_of now t) t.at now (within t.at (omega arith))
      ∙ ap (λ (c : Content). past_of now t ++ c ∷ []) (now-read now)

  pub along-standing : contents_along (standing_steps t) (origin now t) ≡ past_of now t ++ now ∷ []
  along-standing = along-front t.at t.steps (origin now t) ∙ past-and-now

  pub past-long : length (past_of now t) ≡ t.at
  past-long = length-take-le t.at (contents_of now t) (let inside = within t.at (omega arith) in omega arith)

  -- lawful, and in a row
  pub now-kept : IsLawfulContent now
  now-kept = subst (λ (c : Content). IsLawfulContent c) (now-read now) (h.kept t.at now (within t.at (omega arith)))

  pub past-kept : All IsLawfulContent (past_of now t)
  past-kept = All-take IsLawfulContent t.at (contents_of now t) h.kept

  pub past-follow : AllFollow (past_of now t ++ now ∷ [])
  past-follow = subst (λ (cs : List Content). AllFollow cs) past-and-now (follow-front (suc t.at) (contents_of now t) h.follow)

  pub past-differ : AreDifferences (past_of now t ++ now ∷ []) (standing_steps t)
  past-differ =
      subst (λ (cs : List Content). AreDifferences cs (standing_steps t)) past-and-now
      (differences-front t.at (contents_of now t) t.steps h.steps)

  -- the steps after a place, taken back from the present, give the content at that place
  pub taken-to : (i : ℕ) (d : Content) → i ≤ t.at → all_taken_back (drop i (standing_steps t)) now ≡ get_or (contents_of now t) i d
  taken-to i d low =
      ap (λ (c : Content). all_taken_back (drop i (standing_steps t)) c) (sym (now-read d))
      ∙ back-between (contents_of now t) t.steps d i t.at h.follow h.steps low (within t.at (omega arith))

  -- which the steps before that place lead to
  pub taken-is : (i : ℕ) → i ≤ t.at → all_taken_back (drop i (standing_steps t)) now ≡ all_put_forward (take i t.steps) (origin now t)
  taken-is i low = taken-to i now low ∙ along-at t.steps (origin now t) i now (let at = o.at in omega arith)
