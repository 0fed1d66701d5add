-- An edit that makes darts and gives them links 0 and 1.
use Rattle.std.proofs.Common.{◌≡◌, ℕ, zero, suc, ◌+◌, ◌-◌, ◌<◌, ◌≤◌, List, [], ◌∷◌, ◌++◌, length, get_or, map, replicate, Option, Some, None, is_some, refl, sym, ap, ◌∙◌, arith, append_assoc}
use Rattle.std.specs.Prelude.{All, slice_index}
use Rattle.std.specs.List.{AllPairs}
use Rattle.std.proofs.Math.ListN.{set}
use Rattle.std.proofs.Math.Seq.{set-append_seam, get_or-append_seam}
use Rattle.std.proofs.lemmas.List.{get_or_past, length-append}
use Rattle.map_defs.specs.Kind.{Kind}
use Rattle.map_defs.specs.Rows.{Rows, entry_of, IsSound}
use Rattle.map_defs.specs.Edits.{Change, Edit, free_row, with_births, with_entry, linked, after_edit, Fits}
use Rattle.map_defs.specs.Polygon.{row_of}
use Rattle.edit_laws.specs.BirthChanges.{birth_changes}
use Rattle.edit_laws.proofs.RowWrites.{births-new}

-- the edit that makes darts with these rows behind those that were made
abbrev pub birth_edit : ℕ → List (List ℕ) → Edit
birth_edit first ys = record { births = length ys; deaths = []; changes = birth_changes first ys }

-- a row with no links but 0 and 1
abbrev pub IsFlat : ℕ → List ℕ → Type 0
IsFlat n row = row ≡ row_of n (slice_index row 0) (slice_index row 1)

free-flat : (n : ℕ) → 1 ≤ n → free_row n ≡ row_of n 0 0
free-flat n h = let e : n + 1 ≡ suc (suc (n - 1)) = omega arith in rw e refl

-- one entry of the row behind others, written
entry-seam : (rows : Rows) (row : List ℕ) (more : Rows) (link to : ℕ)
    → with_entry (rows ++ Some row ∷ more) (length rows) link to ≡ rows ++ Some (set row link to) ∷ more
entry-seam rows row more link to =
    ap (λ (o : Option (List ℕ)). set (rows ++ Some row ∷ more) (length rows) (Rattle.std.specs.Prelude.option_map (λ (r : List ℕ). set r link to) o))
    (get_or-append_seam rows (Some row) more None)
    ∙ set-append_seam rows (Some row) more (Some (set row link to))

-- the rows that the changes lead to
pub linked-births : (n : ℕ) → 1 ≤ n → (rows : Rows) (ys : List (List ℕ)) → All (IsFlat n) ys
    → linked (birth_changes (length rows) ys) (with_births n (length ys) rows) ≡ rows ++ map (λ (row : List ℕ). Some row) ys
linked-births n h rows [] flat = refl
linked-births n h rows (y ∷ ys) flat =
    let rest : Rows = replicate (length ys) (Some (free_row n)) in
    let a : ℕ = slice_index y 0 in
    let b : ℕ = slice_index y 1 in
    let zeroth : with_entry (rows ++ Some (free_row n) ∷ rest) (length rows) 0 a ≡ rows ++ Some (row_of n a 0) ∷ rest =
    entry-seam rows (free_row n) rest 0 a ∙ ap (λ (r : List ℕ). rows ++ Some (set r 0 a) ∷ rest) (free-flat n h) in
    let first : with_entry (with_entry (rows ++ Some (free_row n) ∷ rest) (length rows) 0 a) (length rows) 1 b ≡ rows ++ Some y ∷ rest =
    ap (λ (rs : Rows). with_entry rs (length rows) 1 b) zeroth ∙ entry-seam rows (row_of n a 0) rest 1 b
    ∙ ap (λ (r : List ℕ). rows ++ Some r ∷ rest) (sym (flat 0 [] (omega arith))) in
    let behind : Rows = rows ++ Some y ∷ [] in
    let long : length rows + 1 ≡ length behind = omega (arith, length-append rows (Some y ∷ [])) in
    ap (linked (birth_changes (length rows + 1) ys)) first
    ∙ ap (λ (m : ℕ). linked (birth_changes m ys) (rows ++ Some y ∷ rest)) long
    ∙ ap (linked (birth_changes (length behind) ys)) (sym (append_assoc rows (Some y ∷ []) rest))
    ∙ linked-births n h behind ys (λ p z l. flat (suc p) z (omega arith))
    ∙ append_assoc rows (Some y ∷ []) (map (λ (row : List ℕ). Some row) ys)

-- a change of link 0 or 1 of a new dart, which was free
record IsBirthChange (first count : ℕ) (c : Change) : Type 0 where
  from : first ≤ c.dart
  to : c.dart < first + count
  link : c.link ≤ 1
  old : c.old ≡ 0

birth_changes-are : (first : ℕ) (ys : List (List ℕ)) → All (IsBirthChange first (length ys)) (birth_changes first ys)
birth_changes-are first [] p z h = absurd (omega arith)
birth_changes-are first (y ∷ ys) zero z h = record { from = omega arith; to = omega arith; link = omega arith; old = refl }
birth_changes-are first (y ∷ ys) (suc zero) z h = record { from = omega arith; to = omega arith; link = omega arith; old = refl }
birth_changes-are first (y ∷ ys) (suc (suc p)) z h =
    let rest = birth_changes-are (first + 1) ys p z (omega arith) in
    record { from = omega (arith, rest.from); to = omega (arith, rest.to); link = rest.link; old = rest.old }

birth_changes-once : (first : ℕ) (ys : List (List ℕ)) → AllPairs (λ (b c : Change). b.dart ≡ c.dart → b.link ≡ c.link → ⊥) (birth_changes first ys)
birth_changes-once first [] i j z below within dart link = omega arith
birth_changes-once first (y ∷ ys) i zero z below within dart link = omega arith
birth_changes-once first (y ∷ ys) zero (suc zero) z below within dart link = omega arith
birth_changes-once first (y ∷ ys) (suc i) (suc zero) z below within dart link = omega arith
birth_changes-once first (y ∷ ys) zero (suc (suc j)) z below within dart link =
    let other = birth_changes-are (first + 1) ys j z (omega arith) in omega (arith, other.from)
birth_changes-once first (y ∷ ys) (suc zero) (suc (suc j)) z below within dart link =
    let other = birth_changes-are (first + 1) ys j z (omega arith) in omega (arith, other.from)
birth_changes-once first (y ∷ ys) (suc (suc i)) (suc (suc j)) z below within dart link =
    birth_changes-once (first + 1) ys i j z (omega arith) (omega arith) dart link

module _ (k : Kind) (n : ℕ) (wide : 1 ≤ n) (rows : Rows) (ys : List (List ℕ)) (flat : All (IsFlat n) ys) where
  -- the rows after the edit
  pub births-after : after_edit n (birth_edit (length rows) ys) rows ≡ rows ++ map (λ (row : List ℕ). Some row) ys
  births-after = linked-births n wide rows ys flat

  -- the edit fits where its rows are sound behind those that were made
  pub births-fit-rows : IsSound k n (rows ++ map (λ (row : List ℕ). Some row) ys) → Fits k n rows (birth_edit (length rows) ys)
  births-fit-rows sound = record {
    darts = λ p z h.
        let change = birth_changes-are (length rows) ys p z h in
        ap is_some (births-new n (length ys) rows (get_or (birth_changes (length rows) ys) p z).dart change.from change.to);
    links = λ p z h. let change = birth_changes-are (length rows) ys p z h in omega (arith, change.link);
    stands = λ p z h.
        let change = birth_changes-are (length rows) ys p z h in
        let c : Change = get_or (birth_changes (length rows) ys) p z in
        ap (λ (o : Option (List ℕ)). entry_of o c.link) (get_or_past rows c.dart None change.from) ∙ sym change.old;
    once = birth_changes-once (length rows) ys;
    back = rw births-after sound.back;
    living = λ p z h. absurd (omega arith);
    ends = λ i j z h l. absurd (omega arith);
    free = λ p z h. absurd (omega arith);
  }
