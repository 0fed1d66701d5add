-- Which numbers name live darts, and which links a live dart has.
use Rattle.std.proofs.Common.{◌≡◌, ℕ, ◌+◌, ◌<◌, ◌≤◌, List, [], ◌∷◌, ◌++◌, length, get_or, take, All, is_some, Option, Some, None, ap, sym, subst, ◌∙◌, arith}
use Rattle.std.proofs.lemmas.List.{take_more}
use Rattle.std.proofs.lemmas.List.Elements.{All-push}
use Rattle.std.proofs.lemmas.Bool.{false≢true}
use Rattle.map_defs.specs.Kind.{Kind}
use Rattle.map_defs.specs.LinkWords.{through_second, IsCellWord}
use Rattle.map_defs.specs.Cells.{InOrbit, here, onward, Leads}
use Rattle.map_defs.specs.Rows.{Rows, row_at, links_of, IsLive, IsSound, made}
use Rattle.edit_laws.proofs.RowWrites.{live-within}

pub live-made : (rows : Rows) (x : ℕ) → IsLive rows x → x ≤ made rows
live-made rows x live = let within = live-within rows x live in omega arith

pub zero-dead : (k : Kind) (n : ℕ) (rows : Rows) (x : ℕ) → IsSound k n rows → x ≡ 0 → IsLive rows x → ⊥
zero-dead k n rows x sound zero live = false≢true (sym (ap is_some (ap (row_at rows) zero ∙ sound.nothing)) ∙ live)

-- one more number that names a live dart
pub live-more : (rows : Rows) (numbers : List ℕ) (i : ℕ) (darts next : List ℕ) (x : ℕ) → i < length numbers → x ≡ get_or numbers i 0 → IsLive rows (get_or numbers i 0) → next ≡ darts ++ x ∷ []
    → darts ≡ take i numbers → All (IsLive rows) (take i numbers) → (next ≡ take (i + 1) numbers) × All (IsLive rows) (take (i + 1) numbers)
live-more rows numbers i darts next x within is live pushed so all =
    let more = take_more numbers i 0 within in (
      pushed ∙ (ap (λ (xs : List ℕ). xs ++ x ∷ []) so ∙ ap (λ (y : ℕ). take i numbers ++ y ∷ []) is) ∙ sym more,
      subst (All (IsLive rows)) (sym more) (All-push (IsLive rows) (take i numbers) (get_or numbers i 0) all live),
    )

-- the darts of a live dart's cell were made
pub cell-made : (k : Kind) (n : ℕ) (rows : Rows) → IsSound k n rows → (i d : ℕ) → IsLive rows d → {x : ℕ} → InOrbit (Leads (links_of rows) (IsCellWord k i)) d x → x ≤ made rows
cell-made k n rows sound i d live here = live-made rows d live
cell-made k n rows sound i d live (onward {x = x} {y = y} o st) = live-made rows y (go st.0.first st.0.second st.2)
  where
    linked : (t z : ℕ) → links_of rows t z ≡ y → IsLive rows y
    linked t z e = subst (IsLive rows) e (sound.live t z (λ none. st.3 (sym e ∙ none)))

    go : (f : ℕ) (s : Option ℕ) → through_second (links_of rows) s (links_of rows f x) ≡ y → IsLive rows y
    go f None e = linked f x e
    go f (Some j) e = linked j (links_of rows f x) e
