-- What was met in a cell, while its pieces are added one after the other.
use Rattle.std.proofs.Common.{◌≡◌, inl, inr, ℕ, ◌+◌, ◌<◌, ◌≤◌, List, [], ◌∷◌, ◌++◌, length, take, drop, Bool, true, false, ◌||◌, Option, Some, None, nat_eq, cond, IsTrue, ◌↔◌, refl, sym, ◌∙◌, ap, arith}
use Rattle.std.specs.List.{list_any}
use Rattle.std.proofs.lemmas.Bool.{false≢true}
use Rattle.std.proofs.lemmas.List.{take_all, drop_all, length-drop, take-append-le, drop-append-le}
use Rattle.std.proofs.lemmas.List.Folds.{list_any-append}
use Rattle.transport.specs.Tallies.{told_of}
use Rattle.transport.specs.Pieces.{no_piece}
use Rattle.transport.specs.Gathered.{shown, met_in, IsReady, IsMeeting}
use Rattle.transport.specs.declared.pieces.Piece.{Piece}
use Rattle.transport.specs.declared.tally.LastMet.{LastMet}
use Rattle.transport.proofs.Gathering.{told_eq}
use Rattle.transport.proofs.Lists.{one_more}

or_none : (b : Bool) → (b || false) ≡ b
or_none true = refl
or_none false = refl

-- what two tests tell, one after the other
told_both : (a b : Bool) (x t : Option ℕ) → cond (a || b) x t ≡ cond b x (cond a x t)
told_both true true x t = refl
told_both true false x t = refl
told_both false true x t = refl
told_both false false x t = refl

told_either : (a b : Bool) (x t : Option ℕ) → cond a x (cond b x t) ≡ cond b x (cond a x t)
told_either true true x t = refl
told_either true false x t = refl
told_either false true x t = refl
told_either false false x t = refl

-- the first few pieces of a cell, with one more of them
shown_more : (pieces : List Piece) (start : ℕ) (p : Piece) (id : ℕ) → start ≤ length pieces → length pieces < start + 16 → shown (pieces ++ p ∷ []) start id ≡ (shown pieces start id || nat_eq p.id id)
shown_more pieces start p id low few =
    let size = length-drop start pieces in
    let longer = one_more no_piece (drop start pieces) p in
    ap (λ (ps : List Piece). list_any (λ (q : Piece). nat_eq q.id id) (take 16 ps)) (drop-append-le start pieces (p ∷ []) low)
    ∙ (ap (list_any (λ (q : Piece). nat_eq q.id id)) (take_all 16 (drop start pieces ++ p ∷ []) (omega arith))
    ∙ (list_any-append (λ (q : Piece). nat_eq q.id id) (drop start pieces) (p ∷ [])
    ∙ (ap (λ b. list_any (λ (q : Piece). nat_eq q.id id) (drop start pieces) || b) (or_none (nat_eq p.id id))
    ∙ ap (λ (ps : List Piece). list_any (λ (q : Piece). nat_eq q.id id) ps || nat_eq p.id id) (sym (take_all 16 (drop start pieces) (omega arith))))))

-- the first few pieces of a cell that has as many
shown_still : (pieces : List Piece) (start : ℕ) (p : Piece) (id : ℕ) → start + 16 ≤ length pieces → shown (pieces ++ p ∷ []) start id ≡ shown pieces start id
shown_still pieces start p id many =
    let size = length-drop start pieces in
    ap (λ (ps : List Piece). list_any (λ (q : Piece). nat_eq q.id id) (take 16 ps)) (drop-append-le start pieces (p ∷ []) (omega arith))
    ∙ ap (list_any (λ (q : Piece). nat_eq q.id id)) (take-append-le 16 (drop start pieces) (p ∷ []) (omega arith))

-- nothing is met where a cell begins
pub forgotten : (met : LastMet) (pieces : List Piece) (n : ℕ) → met.start ≡ length pieces → ((id : ℕ) → told_of met.cells id ≡ None) → (id : ℕ) → met_in met pieces n id ≡ None
forgotten met pieces n at none id =
    ap (λ (ps : List Piece). cond (list_any (λ (q : Piece). nat_eq q.id id) (take 16 ps)) (Some n) (told_of met.cells id)) (drop_all met.start pieces (omega arith)) ∙ none id

module _ (pieces : List Piece) (n id : ℕ) (before : LastMet) (ready : IsReady before pieces) where
  pub met_shown : shown pieces before.start id ≡ true → IsMeeting before before pieces n id true
  met_shown shows = (ap (λ b. cond b (Some n) (told_of before.cells id)) shows, record { is = is }, ready)
    where
      is : (other : ℕ) → met_in before pieces n other ≡ cond (nat_eq id other) (Some n) (met_in before pieces n other)
      is other = elim (told_eq id other) [
        | inl e ↦ rw e.1 (ap (λ b. cond b (Some n) (told_of before.cells other)) (ap (shown pieces before.start) (sym e.0) ∙ shows))
        | inr e ↦ rw e.1 refl
      ]

  pub met_few : shown pieces before.start id ≡ false → length pieces < before.start + 16 → IsMeeting before before pieces n id false
  met_few lacks few = (
    λ e. absurd (let f : met_in before pieces n id ≡ None = ap (λ b. cond b (Some n) (told_of before.cells id)) lacks ∙ ready.none few id in cc),
    λ dart. (record { is = is dart }, record { start = start dart; none = λ h. ready.none few }),
  )
    where
      is : (dart other : ℕ) → met_in before (pieces ++ (record { dart = dart; id = id; cell = n }) ∷ []) n other ≡ cond (nat_eq id other) (Some n) (met_in before pieces n other)
      is dart other =
          ap (λ b. cond b (Some n) (told_of before.cells other)) (shown_more pieces before.start (record { dart = dart; id = id; cell = n }) other ready.start few)
          ∙ told_both (shown pieces before.start other) (nat_eq id other) (Some n) (told_of before.cells other)

      start : (dart : ℕ) → before.start ≤ length (pieces ++ (record { dart = dart; id = id; cell = n }) ∷ [])
      start dart = omega (arith, one_more no_piece pieces (record { dart = dart; id = id; cell = n }), ready.start)

  pub met_many : (after : LastMet) (again : Bool) → shown pieces before.start id ≡ false → before.start + 16 ≤ length pieces → after.start ≡ before.start
      → ((other : ℕ) → told_of after.cells other ≡ cond (nat_eq id other) (Some n) (told_of before.cells other)) → (IsTrue again ↔ (told_of before.cells id ≡ Some n)) → IsMeeting before after pieces n id again
  met_many after again lacks many same tells asked = go again asked
    where
      still : (other : ℕ) → met_in after pieces n other ≡ cond (nat_eq id other) (Some n) (met_in before pieces n other)
      still other =
          ap (λ s. cond (shown pieces s other) (Some n) (told_of after.cells other)) same
          ∙ (ap (cond (shown pieces before.start other) (Some n)) (tells other)
          ∙ told_either (shown pieces before.start other) (nat_eq id other) (Some n) (told_of before.cells other))

      before_is : met_in before pieces n id ≡ told_of before.cells id
      before_is = ap (λ b. cond b (Some n) (told_of before.cells id)) lacks

      grown : (dart other : ℕ) → met_in after (pieces ++ (record { dart = dart; id = id; cell = n }) ∷ []) n other ≡ cond (nat_eq id other) (Some n) (met_in before pieces n other)
      grown dart other =
          ap (λ b. cond b (Some n) (told_of after.cells other)) (shown_still pieces after.start (record { dart = dart; id = id; cell = n }) other (omega arith)) ∙ still other

      size : (dart : ℕ) → length (pieces ++ (record { dart = dart; id = id; cell = n }) ∷ []) ≡ length pieces + 1
      size dart = one_more no_piece pieces (record { dart = dart; id = id; cell = n })

      go : (r : Bool) → (IsTrue r ↔ (told_of before.cells id ≡ Some n)) → IsMeeting before after pieces n id r
      go true iff = (before_is ∙ iff.0 refl, record { is = still }, record { start = omega arith; none = λ h. absurd (omega arith) })
      go false iff = (
        λ e. absurd (false≢true (iff.1 (sym before_is ∙ e))),
        λ dart. (record { is = grown dart }, record { start = omega (arith, size dart); none = λ h. absurd (omega (arith, size dart, h)) }),
      )
