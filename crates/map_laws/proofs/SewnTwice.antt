-- After an accepted sewing unsewing has no refusal, and gives the rows back.
use Rattle.std.proofs.Common.{ℕ, ◌≡◌, ◌≢◌, ◌↔◌, ◌<◌, ◌⊎◌, sym, subst, inl, inr, arith}
use Rattle.map_defs.specs.Kind.{Kind, beta}
use Rattle.map_defs.specs.Links.{Links}
use Rattle.map_defs.specs.Laws.{Laws}
use Rattle.map_defs.specs.Rows.{IsLive, AreWide}
use Rattle.map_defs.specs.Sewing.{IsSewable, IsSewn, IsUnsewn}
use Rattle.map_defs.specs.Refusal.{Refusal}
use Rattle.map_defs.specs.Values.{Hook}
use Rattle.machine_defs.specs.State.{Content, State, steps_to}
use Rattle.machine_defs.specs.Relinking.{IsRelinked, NoDart}
use Rattle.machine_defs.specs.Kept.{IsLawfulContent}
use Rattle.machine_defs.specs.Script.{Sew, Unsew}
use Rattle.machine_defs.specs.Text.{Done, Refused}
use Rattle.machine_defs.specs.Machine.{Step, checks, links_in}
use Rattle.link_laws.proofs.SameRows.{same_rows}
use Rattle.link_laws.proofs.SewnBack.{sewn_linked, unsewing_undoes}
use Rattle.machine_laws.proofs.Judging.{AllPass}
use Rattle.machine_laws.proofs.Keeping.{laws-of, dead-at}
use Rattle.map_laws.proofs.Steps.{obeyed, not-refused}

-- a live dart is not 0
pub dart-some : (c : Content) → IsLawfulContent c → (d : ℕ) → IsLive c.rows d → d ≢ 0
dart-some c kept d live none = dead-at c.rows kept.sound.nothing (subst (IsLive c.rows) none live)

-- where none is born and none ends, the same darts live
same-live : (hook : Hook) (c next : Content) (Becomes : Links → Type 0) → IsRelinked hook c 0 NoDart Becomes next → (d : ℕ) → IsLive next.rows d ↔ IsLive c.rows d
same-live hook c next Becomes r d = (
  (λ h. elim ((r.live d).0 h).0 [ inl live ↦ live | inr born ↦ absurd (let low = born.0 in let high = born.1 in omega arith) ]),
  (λ h. (r.live d).1 (inl h, (λ ends. ends))),
)

module _ (hook : Hook) (s : State) (kept : IsLawfulContent s.present) (i d e : ℕ) (passes : AllPass (checks hook s (Sew i d e)))
    (next : Content) (sewn : IsRelinked hook s.present 0 NoDart (IsSewn s.present.kind i d e (links_in s.present)) next) where
  w : Laws s.present.kind (links_in s.present)
  w = laws-of s.present kept

  can : IsSewable s.present.kind (links_in s.present) i d e
  can = record { near = passes.1.1.1.0.0; far = passes.1.1.1.0.1; good = passes.1.1.1.1.0 }

  hd : d ≢ 0
  hd = dart-some s.present kept d passes.1.0

  he : e ≢ 0
  he = dart-some s.present kept e passes.1.1.0

  -- unsewing passes its checks
  unsews : AllPass (checks hook (steps_to s next) (Unsew i d))
  unsews = (
    subst (λ (k : Kind). ((next.dim < i) ⊎ ((k ≡ beta) × (i ≡ 0))) → ⊥) (sym sewn.kind)
        (subst (λ (n : ℕ). ((n < i) ⊎ ((s.present.kind ≡ beta) × (i ≡ 0))) → ⊥) (sym sewn.dim) passes.0),
    ((same-live hook s.present next _ sewn d).1 passes.1.0, (sewn_linked s.present.kind i d e (links_in s.present) (links_in next) w hd he can sewn.links, tt)),
  )

  unsewn-rows : (last : Content) → IsRelinked hook next 0 NoDart (IsUnsewn next.kind i d (links_in next)) last → last.rows ≡ s.present.rows
  unsewn-rows last unsewn = same_rows s.present.dim last.rows s.present.rows
      (subst (λ (n : ℕ). AreWide n last.rows) sewn.dim unsewn.wide) kept.sound.wide
      (let a = unsewn.long in let b = sewn.long in omega arith)
      (λ x.
      let one = same-live hook s.present next _ sewn x in
      let two = same-live hook next last _ unsewn x in
      ((λ h. one.0 (two.0 h)), (λ h. two.1 (one.1 h))))
      (λ t x within. unsewing_undoes s.present.kind i d e (links_in s.present) (links_in next) w hd he can sewn.links (links_in last)
      (subst (λ (k : Kind). IsUnsewn k i d (links_in next) (links_in last)) sewn.kind unsewn.links) t x)

module _ (hook : Hook) (s mid : State) (kept : IsLawfulContent s.present) (i d e first count : ℕ) (sewing : Step hook s (Sew i d e) (Done first count) mid) where
  -- what was just sewn can be unsewn
  pub unsewing-accepted : (r : Refusal) (new : State) → Step hook mid (Unsew i d) (Refused r) new → ⊥
  unsewing-accepted r new step =
      let (passes, (next, sewn, reply, is)) = obeyed hook s (Sew i d e) first count mid sewing in
      not-refused hook (steps_to s next) (Unsew i d) (unsews hook s kept i d e passes next sewn) r new
      (subst (λ (m : State). Step hook m (Unsew i d) (Refused r) new) is step)

  -- and all rows are back
  pub unsewing-back : (two more : ℕ) (new : State) → Step hook mid (Unsew i d) (Done two more) new → new.present.rows ≡ s.present.rows
  unsewing-back two more new step =
      let (passes, (next, sewn, reply, is)) = obeyed hook s (Sew i d e) first count mid sewing in
      let (again, (last, unsewn, done, end)) = obeyed hook (steps_to s next) (Unsew i d) two more new
      (subst (λ (m : State). Step hook m (Unsew i d) (Done two more) new) is step) in
      subst (λ (m : State). m.present.rows ≡ s.present.rows) (sym end) (unsewn-rows hook s kept i d e passes next sewn last unsewn)
