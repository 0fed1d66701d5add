-- Links taken back and put forward through steps.
use Rattle.std.proofs.Common.{ℕ, zero, suc, ◌≡◌, ◌+◌, ◌-◌, ◌<◌, ◌≤◌, sym, ap, ◌∙◌, List, [], ◌∷◌, length, drop, arith}
use lib.ListN.{length-drop}
use Rattle.map_defs.specs.Kind.{Kind}
use Rattle.map_defs.specs.Rows.{Rows, made, live_count}
use Rattle.map_defs.specs.Edits.{Edit, IsLed}
use Rattle.machine_defs.specs.Difference.{Difference}
use Rattle.dart_arena.specs.Stock.{Stock}
use Rattle.dart_arena.proofs.RowLemmas.{same-stock}
use Rattle.edit_laws.proofs.EditSound.{length-after}
use Rattle.valued_map.specs.Undoing.{AreEditsTo, step_at, rows_before}
use Rattle.valued_map.proofs.RowCounts.{count-after}

-- how many darts were made after an edit
pub made-after : (k : Kind) (n : ℕ) (e : Edit) (old new : Rows) → IsLed k n e old new → made new ≡ made old + e.births
made-after k n e old new led =
    let long : length new ≡ length old + e.births = ap (λ (r : Rows). length r) (sym led.after) ∙ length-after n e old in
    let begun = led.begun in
    omega arith

module _ (k : Kind) (n : ℕ) (now : Rows) (steps : List Difference) (places : ℕ) (are : AreEditsTo k n now steps places) (j : ℕ) (low : j < length steps) where
  abbrev Before : Rows
  Before = rows_before n (drop j steps) now

  abbrev After : Rows
  After = rows_before n (drop (j + 1) steps) now

  abbrev Done : Edit
  Done = (step_at steps j).edit

  pub led-at : IsLed k n Done Before After
  led-at = are.led j low

  counts : live_count After + length Done.deaths ≡ live_count Before + Done.births
  counts = count-after k n Done Before After led-at

  -- there is room for the darts that live again
  pub room-back : (room : ℕ) → live_count After + room ≡ places → length Done.deaths ≤ room + Done.births
  room-back room sum = let most = are.room j low in let c = counts in omega arith

  -- and for those that are born again
  pub room-on : (room : ℕ) → live_count Before + room ≡ places → Done.births ≤ room
  room-on room sum = let most = are.room j low in omega arith

  -- the sums stay
  pub live-back : (room : ℕ) → live_count After + room ≡ places → live_count Before + (room + Done.births - length Done.deaths) ≡ places
  live-back room sum = let most = are.room j low in let c = counts in omega arith

  pub live-on : (room : ℕ) → live_count Before + room ≡ places → live_count After + (room - Done.births + length Done.deaths) ≡ places
  live-on room sum = let most = are.room j low in let c = counts in omega arith

  pub made-on : made After ≡ made Before + Done.births
  made-on = made-after k n Done Before After led-at

-- no fewer darts are made later
pub made-grows : (k : Kind) (n : ℕ) (now : Rows) (steps : List Difference) (places : ℕ) → AreEditsTo k n now steps places → (m j : ℕ) → j + m ≡ length steps
    → made (rows_before n (drop j steps) now) ≤ made now
made-grows k n now steps places are zero j e = none (drop j steps) (let long : length (drop j steps) ≡ length steps - j = length-drop j steps in omega arith)
  where
    none : (ss : List Difference) → length ss ≡ 0 → made (rows_before n ss now) ≤ made now
    none [] h = omega arith
    none (s ∷ ss) h = absurd (omega arith)
made-grows k n now steps places are (suc m) j e =
    let next = made-grows k n now steps places are m (j + 1) (omega arith) in
    let more = made-on k n now steps places are j (omega arith) in
    omega arith

-- the same stock, by its rows and two sums
pub stock-is : (s t : Stock (List ℕ)) → s.rows ≡ t.rows → live_count s.rows + s.room ≡ live_count t.rows + t.room → made s.rows + s.spare ≡ made t.rows + t.spare → s ≡ t
stock-is s t rows live many =
    let lives : live_count s.rows ≡ live_count t.rows = ap live_count rows in
    let more : made s.rows ≡ made t.rows = ap made rows in
    let room : s.room ≡ t.room = omega arith in
    let spare : s.spare ≡ t.spare = omega arith in
    same-stock s.rows t.rows s.spare t.spare s.room t.room rows spare room
