-- An edit that bears darts and writes entries: each entry is the link after it, all other links are as before, and it fits
-- where the links after it obey the laws.
use Rattle.std.proofs.Common.{ℕ, ◌≡◌, ◌≤◌, List, [], get_or, Contains, refl, sym, ◌∙◌, arith}
use Rattle.std.specs.Prelude.{All}
use Rattle.std.proofs.lemmas.List.Elements.{All-contains, Contains-get_or}
use Rattle.map_defs.specs.Kind.{Kind}
use Rattle.map_defs.specs.Laws.{Laws}
use Rattle.map_defs.specs.Rows.{Rows, links_of, IsLive, IsSound}
use Rattle.map_defs.specs.Edits.{Change, Edit, with_births, after_edit, Fits}
use Rattle.edit_laws.proofs.RowWrites.{births-links, births-wide}
use Rattle.edit_laws.proofs.EditLinks.{touched, untouched}
use Rattle.cell_edit.specs.Writing.{WritesEntries}

-- births of darts, and changes
abbrev pub growing : ℕ → List Change → Edit
growing births cs = record { births = births; deaths = []; changes = cs }

module _ (k : Kind) (n : ℕ) (rows : Rows) (sound : IsSound k n rows) (births : ℕ) (Entry : ℕ → ℕ → ℕ → Type 0)
    (lives : (d t y : ℕ) → Entry d t y → IsLive (with_births n births rows) d) (inside : (d t y : ℕ) → Entry d t y → t ≤ n)
    (cs : List Change) (writes : WritesEntries (links_of rows) Entry cs) where
  each : (P : Change → Type 0) → ((c : Change) → Entry c.dart c.link c.new → c.old ≡ links_of rows c.link c.dart → P c) → All P cs
  each P f p z h = let e = (writes.same (get_or cs p z)).0 (Contains-get_or cs p z h) in f (get_or cs p z) e.0 e.1

  pub written : (d t y : ℕ) → Entry d t y → links_of (after_edit n (growing births cs) rows) t d ≡ y
  written d t y e =
      let c : Change = record { dart = d; link = t; old = links_of rows t d; new = y } in
      let has : Contains cs c = (writes.same c).1 (e, refl) in
      All-contains (λ (b : Change). links_of (after_edit n (growing births cs) rows) b.link b.dart ≡ b.new) cs c
      (touched n cs (with_births n births rows) (births-wide n births rows sound.wide)
      (each (λ b. IsLive (with_births n births rows) b.dart) (λ b f o. lives b.dart b.link b.new f)) (each (λ b. b.link ≤ n) (λ b f o. inside b.dart b.link b.new f)) writes.once) has

  pub left : (d t : ℕ) → ((y : ℕ) → Entry d t y → ⊥) → links_of (after_edit n (growing births cs) rows) t d ≡ links_of rows t d
  left d t none =
      untouched cs (with_births n births rows) t d (each (λ b. d ≡ b.dart → t ≡ b.link → ⊥) (λ b f o dart link. none b.new (rw (dart, link) f)))
      ∙ births-links n births rows t d

  pub entries-fit : Laws k (links_of (after_edit n (growing births cs) rows)) → Fits k n rows (growing births cs)
  entries-fit laws = record {
    darts = each (λ b. IsLive (with_births n births rows) b.dart) (λ b f o. lives b.dart b.link b.new f);
    links = each (λ b. b.link ≤ n) (λ b f o. inside b.dart b.link b.new f);
    stands = each (λ b. links_of rows b.link b.dart ≡ b.old) (λ b f o. sym o);
    once = writes.once;
    back = laws.back;
    living = λ p z h. absurd (omega arith);
    ends = λ a b z h l. absurd (omega arith);
    free = λ p z h. absurd (omega arith);
  }
