-- After an accepted dual a second one has no refusal, and gives the content back.
use Rattle.std.proofs.Common.{ℕ, ◌≡◌, ◌-◌, ◌≤◌, List, Option, reverse, sym, ap, ◌∙◌, subst, arith}
use Rattle.std.proofs.lemmas.List.{reverse-reverse}
use Rattle.map_defs.specs.Kind.{Kind, alpha, beta}
use Rattle.map_defs.specs.Links.{Links}
use Rattle.map_defs.specs.Rows.{IsLive, AreWide}
use Rattle.map_defs.specs.Dual.{IsDual, IsDualable}
use Rattle.map_defs.specs.Refusal.{Refusal}
use Rattle.map_defs.specs.Values.{Hook, Rule}
use Rattle.machine_defs.specs.State.{Content, State, value_at, steps_to}
use Rattle.machine_defs.specs.Dualling.{IsDualOf}
use Rattle.machine_defs.specs.Kept.{IsLawfulContent}
use Rattle.machine_defs.specs.Script.{Dual}
use Rattle.machine_defs.specs.Text.{Done, Refused}
use Rattle.machine_defs.specs.Machine.{Step, links_in}
use Rattle.link_laws.proofs.SameRows.{same_rows}
use Rattle.dual_laws.proofs.DualLaws.{dual_back, dual_can, dual_one}
use Rattle.journal_laws.proofs.ContentFacts.{values-one, same-content}
use Rattle.machine_laws.proofs.Keeping.{laws-of}
use Rattle.map_laws.proofs.Steps.{obeyed, not-refused}

-- it matters only which darts live
dualable-live : (k : Kind) (n : ℕ) (L : Links) (Live Other : ℕ → Type 0) → ((d : ℕ) → Other d → Live d) → IsDualable k n L Live → IsDualable k n L Other
dualable-live alpha n L Live Other to can = record { closed = λ i d live within. can.closed i d (to d live) within; apart = tt }
dualable-live beta n L Live Other to can = record {
  closed = λ i d live within. can.closed i d (to d live) within;
  apart = λ i d live low high. can.apart i d (to d live) low high;
}

module _ (c : Content) (kept : IsLawfulContent c) (can : IsDualable c.kind c.dim (links_in c) (IsLive c.rows)) (next : Content) (one : IsDualOf c next) where
  again : IsDualable next.kind next.dim (links_in next) (IsLive next.rows)
  again = subst (λ (k : Kind). IsDualable k next.dim (links_in next) (IsLive next.rows)) (sym one.kind)
      (subst (λ (n : ℕ). IsDualable c.kind n (links_in next) (IsLive next.rows)) (sym one.dim)
      (dualable-live c.kind c.dim (links_in next) (IsLive c.rows) (IsLive next.rows) (λ d live. (one.live d).0 live)
      (dual_can c.dim c.rows kept.flat c.kind (links_in next) kept.sound.wide (laws-of c kept) can one.links)))

  module _ (last : Content) (two : IsDualOf next last) where
    dims : last.dim ≡ c.dim
    dims = two.dim ∙ one.dim

    links : IsDual c.kind c.dim (links_in next) (links_in last)
    links = subst (λ (k : Kind). IsDual k c.dim (links_in next) (links_in last)) one.kind
        (subst (λ (n : ℕ). IsDual next.kind n (links_in next) (links_in last)) one.dim two.links)

    rows : last.rows ≡ c.rows
    rows = same_rows c.dim last.rows c.rows (subst (λ (n : ℕ). AreWide n last.rows) one.dim two.wide) kept.sound.wide (two.long ∙ one.long)
        (λ d. ((λ h. (one.live d).0 ((two.live d).0 h)), (λ h. (two.live d).1 ((one.live d).1 h))))
        (λ i d within. dual_one c.kind c.dim (links_in next) (links_in last) (links_in c) links
        (dual_back c.dim c.rows kept.flat c.kind (links_in next) kept.sound.wide (laws-of c kept) can one.links) i d)

    rules : last.rules ≡ c.rules
    rules = two.rules ∙ ap (λ (rs : List (Option Rule)). reverse rs) one.rules ∙ reverse-reverse c.rules

    -- what lies as far from the other end as that lies from this one is itself
    values-at : (i d : ℕ) → i ≤ last.dim → value_at last i d ≡ value_at c i d
    values-at i d within =
        let near : i ≤ next.dim = subst (λ (n : ℕ). i ≤ n) two.dim within in
        let far : next.dim - i ≤ c.dim = (let e = one.dim in omega arith) in
        let place : c.dim - (next.dim - i) ≡ i = (let e = one.dim in omega arith) in
        two.values i d near ∙ one.values (next.dim - i) d far ∙ ap (λ (j : ℕ). value_at c j d) place

    same : last ≡ c
    same = same-content last c (two.kind ∙ one.kind) dims rows
        (values-one last c two.places kept.places dims rows (λ i d within live. values-at i d within)) rules

module _ (hook : Hook) (s mid : State) (kept : IsLawfulContent s.present) (first count : ℕ) (turning : Step hook s Dual (Done first count) mid) where
  -- the dual has a dual in its turn
  pub dual-accepted : (r : Refusal) (new : State) → Step hook mid Dual (Refused r) new → ⊥
  dual-accepted r new step =
      let (passes, (next, one, reply, is)) = obeyed hook s Dual first count mid turning in
      not-refused hook (steps_to s next) Dual (again s.present kept passes.0 next one, tt) r new
      (subst (λ (m : State). Step hook m Dual (Refused r) new) is step)

  -- and that is the map
  pub dual-back : (two more : ℕ) (new : State) → Step hook mid Dual (Done two more) new → new.present ≡ s.present
  dual-back two more new step =
      let (passes, (next, one, reply, is)) = obeyed hook s Dual first count mid turning in
      let (once, (last, other, done, end)) = obeyed hook (steps_to s next) Dual two more new
      (subst (λ (m : State). Step hook m Dual (Done two more) new) is step) in
      subst (λ (m : State). m.present ≡ s.present) (sym end) (same s.present kept passes.0 next one last other)
