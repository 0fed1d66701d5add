-- How many darts live after an edit.
use Rattle.std.proofs.Common.{ℕ, zero, suc, ◌≡◌, ◌≢◌, ◌+◌, refl, sym, ap, subst, ◌∙◌, List, [], ◌∷◌, length, get_or, set, replicate, Option, Some, None, is_some, IsSome, arith}
use Rattle.std.specs.Prelude.{filter, All, AllPairs, option_map}
use Rattle.std.proofs.lemmas.List.{length-append, get_or-set_other, set-get_or}
use Rattle.std.proofs.lemmas.List.Elements.{filter-append}
use Rattle.map_defs.specs.Kind.{Kind}
use Rattle.map_defs.specs.Rows.{Rows, row_at, IsLive, live_count}
use Rattle.map_defs.specs.Edits.{Change, Edit, IsLed, free_row, with_births, with_entry, linked, buried, with_changes}
use Rattle.dart_arena.proofs.RowLemmas.{count-buried, count-replaced}
use Rattle.edit_laws.proofs.RowWrites.{live-within, births-old}
use Rattle.edit_laws.proofs.EditSteps.{linked-live}

all-live : (m : ℕ) (row : List ℕ) → length (filter is_some (replicate m (Some row))) ≡ m
all-live zero row = refl
all-live (suc m) row = let e = all-live m row in omega arith

count-born : (n births : ℕ) (rows : Rows) → live_count (with_births n births rows) ≡ live_count rows + births
count-born n births rows =
    ap (λ (r : Rows). length r) (filter-append is_some rows (replicate births (Some (free_row n))))
    ∙ length-append (filter is_some rows) (filter is_some (replicate births (Some (free_row n))))
    ∙ ap (λ (m : ℕ). live_count rows + m) (all-live births (free_row n))

-- a write of an entry leaves the same darts live
count-entry : (rows : Rows) (d link to : ℕ) → live_count (with_entry rows d link to) ≡ live_count rows
count-entry rows d link to = go (row_at rows d) refl
  where
    go : (o : Option (List ℕ)) → row_at rows d ≡ o → live_count (with_entry rows d link to) ≡ live_count rows
    go None is =
        ap (λ (o : Option (List ℕ)). live_count (set rows d (option_map (λ (row : List ℕ). set row link to) o))) is
        ∙ ap live_count (ap (set rows d) (sym is) ∙ set-get_or rows d None)
    go (Some row) is =
        ap (λ (o : Option (List ℕ)). live_count (set rows d (option_map (λ (r : List ℕ). set r link to) o))) is
        ∙ count-replaced rows d (set row link to) (subst (λ (o : Option (List ℕ)). IsSome o) (sym is) refl)

count-linked : (cs : List Change) (rows : Rows) → live_count (linked cs rows) ≡ live_count rows
count-linked [] rows = refl
count-linked (c ∷ cs) rows = count-linked cs (with_entry rows c.dart c.link c.new) ∙ count-entry rows c.dart c.link c.new

count-ended : (ds : List ℕ) (rows : Rows) → All (IsLive rows) ds → AllPairs (λ (c d : ℕ). c ≢ d) ds → live_count (buried ds rows) + length ds ≡ live_count rows
count-ended [] rows live apart = omega arith
count-ended (d ∷ ds) rows live apart =
    let one : live_count (set rows d None) + 1 ≡ live_count rows = count-buried rows d (live 0 d (omega arith)) in
    let rest : live_count (buried ds (set rows d None)) + length ds ≡ live_count (set rows d None) =
    count-ended ds (set rows d None)
    (λ j z h. subst (λ (o : Option (List ℕ)). IsSome o)
    (sym (get_or-set_other rows d (get_or ds j z) None None (λ same. apart 0 (suc j) z (omega arith) (omega arith) (sym same)))) (live (suc j) z (omega arith)))
    (λ i j z h m. apart (suc i) (suc j) z (omega arith) (omega arith)) in
    omega arith

-- so many darts live after an edit: those that lived and those that were born, less those that ended
pub count-after : (k : Kind) (n : ℕ) (e : Edit) (old new : Rows) → IsLed k n e old new → live_count new + length e.deaths ≡ live_count old + e.births
count-after k n e old new led =
    ap (λ (r : Rows). live_count r + length e.deaths) (sym led.after)
    ∙ count-ended e.deaths (with_changes n e old)
    (λ j z h. linked-live e.changes (with_births n e.births old) (get_or e.deaths j z)
    ∙ ap is_some (births-old n e.births old (get_or e.deaths j z) (live-within old (get_or e.deaths j z) (led.fits.living j z h)))
    ∙ led.fits.living j z h)
    led.fits.ends
    ∙ count-linked e.changes (with_births n e.births old) ∙ count-born n e.births old
