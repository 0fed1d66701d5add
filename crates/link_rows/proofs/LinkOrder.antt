-- Changes of which no two touch the same link of a dart lead to the same rows in either order.
use Rattle.std.proofs.Common.{◌≡◌, ◌≢◌, ℕ, suc, ◌+◌, List, [], ◌∷◌, ◌++◌, length, set, Option, None, Some, refl, sym, ap, subst, ◌∙◌, inl, inr, arith, length-append}
use Rattle.std.specs.Prelude.{All, option_map, slice_set}
use Rattle.std.specs.List.{AllPairs}
use Rattle.std.proofs.lemmas.Bool.{cases_eq}
use Rattle.std.proofs.lemmas.List.{append-nil, get_or-append-add, get_or-set_other, set-set, set_comm}
use Rattle.map_defs.specs.Rows.{Rows, row_at}
use Rattle.map_defs.specs.Edits.{Change, linked, with_entry}
use Rattle.edit_laws.proofs.EditSteps.{linked-append}
use Rattle.edit_laws.proofs.RowWrites.{row-same, row-other}
use Rattle.dart_arena.specs.RowChanges.{row_changes, with_links}
use Rattle.dart_arena.proofs.RowLinks.{linked-row}

-- two changes do not touch the same link of a dart
abbrev pub AreApart : Change → Change → Type 0
AreApart b c = b.dart ≡ c.dart → b.link ≡ c.link → ⊥

-- an entry changed in a row that may be there
abbrev put : ℕ → ℕ → Option (List ℕ) → Option (List ℕ)
put link to o = option_map (λ (row : List ℕ). slice_set row link to) o

put-either : (o : Option (List ℕ)) (i x j y : ℕ) → i ≢ j → put j y (put i x o) ≡ put i x (put j y o)
put-either None i x j y other = refl
put-either (Some row) i x j y other = ap (λ (r : List ℕ). Some r) (set_comm row i j x y other)

-- two entries of one dart, and of two
both-same : (rows : Rows) (d i x j y : ℕ) → with_entry (with_entry rows d i x) d j y ≡ set rows d (put j y (put i x (row_at rows d)))
both-same rows d i x j y =
    ap (λ o. set (with_entry rows d i x) d (put j y o)) (row-same rows d i x)
    ∙ set-set rows d (put i x (row_at rows d)) (put j y (put i x (row_at rows d)))

both-other : (rows : Rows) (d i x e j y : ℕ) → e ≢ d → with_entry (with_entry rows d i x) e j y ≡ set (set rows d (put i x (row_at rows d))) e (put j y (row_at rows e))
both-other rows d i x e j y other = ap (λ o. set (with_entry rows d i x) e (put j y o)) (row-other rows d i x e other)

either-first : (rows : Rows) (b c : Change) → AreApart b c
    → with_entry (with_entry rows b.dart b.link b.new) c.dart c.link c.new ≡ with_entry (with_entry rows c.dart c.link c.new) b.dart b.link b.new
either-first rows b c apart = elim (cases_eq b.dart c.dart) [
  | inl same ↦
      ap (λ (d : ℕ). with_entry (with_entry rows b.dart b.link b.new) d c.link c.new) (sym same)
      ∙ both-same rows b.dart b.link b.new c.link c.new
      ∙ ap (set rows b.dart) (put-either (row_at rows b.dart) b.link b.new c.link c.new (apart same))
      ∙ sym (both-same rows b.dart c.link c.new b.link b.new)
      ∙ ap (λ (d : ℕ). with_entry (with_entry rows d c.link c.new) b.dart b.link b.new) same
  | inr other ↦
      both-other rows b.dart b.link b.new c.dart c.link c.new (λ same. other (sym same))
      ∙ set_comm rows b.dart c.dart (put b.link b.new (row_at rows b.dart)) (put c.link c.new (row_at rows c.dart)) other
      ∙ sym (both-other rows c.dart c.link c.new b.dart b.link b.new other)
]

-- a change made before others may be made after them
put-last : (b : Change) (cs : List Change) (rows : Rows) → All (AreApart b) cs
    → linked cs (with_entry rows b.dart b.link b.new) ≡ with_entry (linked cs rows) b.dart b.link b.new
put-last b [] rows apart = refl
put-last b (c ∷ cs) rows apart =
    let rest : All (AreApart b) cs = λ k z h. apart (suc k) z (omega arith) in
    ap (linked cs) (either-first rows b c (apart 0 c (omega arith))) ∙ put-last b cs (with_entry rows c.dart c.link c.new) rest

pub in-either-order : (bs cs : List Change) (rows : Rows) → AllPairs AreApart (bs ++ cs) → linked (bs ++ cs) rows ≡ linked (cs ++ bs) rows
in-either-order [] cs rows once = ap (λ (xs : List Change). linked xs rows) (sym (append-nil cs))
in-either-order (b ∷ bs) cs rows once =
    let next : Rows = with_entry rows b.dart b.link b.new in
    let rest : AllPairs AreApart (bs ++ cs) = λ i j z h l. once (suc i) (suc j) z (omega arith) (omega arith) in
    let apart : All (AreApart b) cs = λ k z h.
    subst (AreApart b) (get_or-append-add bs cs k z) (once 0 (suc (length bs + k)) z (omega arith) (omega (arith, length-append bs cs))) in
    in-either-order bs cs next rest
    ∙ linked-append cs bs next
    ∙ ap (linked bs) (put-last b cs rows apart)
    ∙ sym (linked-append cs (b ∷ bs) rows)

-- the links of one dart leave the rows of others
pub row-stays : (d i : ℕ) (ys : List ℕ) (rows : Rows) (e : ℕ) → e ≢ d → row_at (linked (row_changes d i ys) rows) e ≡ row_at rows e
row-stays d i ys rows e other =
    ap (λ (r : Rows). row_at r e) (linked-row d i ys rows) ∙ get_or-set_other rows d e (option_map (with_links i ys) (row_at rows d)) None other
