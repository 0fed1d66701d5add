-- The present content, by the parts that the calls of a map see of it.
use Rattle.std.proofs.Common.{◌≡◌, ℕ, ◌+◌, ◌<◌, ◌≤◌, ◌⊎◌, ◌↔◌, length, Contains, sym, ap, subst, ◌∙◌, arith}
use Rattle.map_defs.specs.Kind.{Kind}
use Rattle.map_defs.specs.Links.{Links}
use Rattle.map_defs.specs.Rows.{Rows, links_of, made, IsLive, IsSound, AreWide}
use Rattle.map_defs.specs.Values.{Hook}
use Rattle.map_defs.specs.Edits.{Edit, after_edit, Fits}
use Rattle.machine_defs.specs.State.{Content}
use Rattle.machine_defs.specs.Kept.{IsLawfulContent}
use Rattle.machine_defs.specs.Relinking.{IsRelinked}
use Rattle.edit_laws.proofs.EditSound.{length-after}
use Rattle.label_laws.specs.Contents.{IsCarriedOn}
use Rattle.label_laws.proofs.Remaking.{live-after, wide-after}

-- the content with this kind, dimension and these rows
abbrev pub seen_as : Kind → ℕ → Rows → Content → Content
seen_as k n rows c = record { kind = k; dim = n; rows = rows; values = c.values; rules = c.rules }

pub seen-is : (k : Kind) (n : ℕ) (rows : Rows) (c : Content) → c.kind ≡ k → c.dim ≡ n → rows ≡ c.rows → seen_as k n rows c ≡ c
seen-is k n rows c kind dim same =
    ap (λ (x : Kind). seen_as x n rows c) (sym kind) ∙ ap (λ (m : ℕ). seen_as c.kind m rows c) (sym dim) ∙ ap (λ (r : Rows). seen_as c.kind c.dim r c) same

pub seen-sound : (k : Kind) (n : ℕ) (rows : Rows) (c : Content) → c.kind ≡ k → c.dim ≡ n → rows ≡ c.rows → IsLawfulContent c → IsSound k n rows
seen-sound k n rows c kind dim same kept = subst (λ (x : Content). IsSound x.kind x.dim x.rows) (sym (seen-is k n rows c kind dim same)) kept.sound

pub seen-begun : (rows : Rows) (c : Content) → rows ≡ c.rows → IsLawfulContent c → 0 < length rows
seen-begun rows c same kept = let long : length rows ≡ length c.rows = ap (λ (r : Rows). length r) same in omega (arith, long, kept.begun)

-- where the values are carried too, it is the content after a change of links
pub relinked : (k : Kind) (n : ℕ) (rows : Rows) (e : Edit) → IsSound k n rows → 0 < length rows → Fits k n rows e
    → (Ended : ℕ → Type 0) → ((d : ℕ) → Ended d ↔ Contains e.deaths d) → (hook : Hook) (c next : Content) → IsCarriedOn hook (seen_as k n rows c) (after_edit n e rows) next
    → (Becomes : Links → Type 0) → Becomes (links_of (after_edit n e rows)) → IsRelinked hook (seen_as k n rows c) e.births Ended Becomes next
relinked k n rows e sound begun fits Ended ended hook c next on Becomes becomes = record {
  kind = on.kind;
  dim = on.dim;
  long = ap (λ (r : Rows). length r) on.rows_are ∙ length-after n e rows;
  live = λ d. subst (λ (r : Rows). IsLive r d ↔ ((IsLive rows d ⊎ ((made rows < d) × (d ≤ made rows + e.births))) × (Ended d → ⊥))) (sym on.rows_are)
      (live-after k n rows e sound begun fits Ended ended d);
  wide = subst (λ (r : Rows). AreWide n r) (sym on.rows_are) (wide-after k n rows e sound begun fits Ended ended);
  links = subst (λ (r : Rows). Becomes (links_of r)) (sym on.rows_are) becomes;
  rules = on.rules;
  places = on.places;
  values = on.values;
}
