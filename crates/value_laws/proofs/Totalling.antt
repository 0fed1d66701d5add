-- Under `sum share` the values of the new cells add up to what those of the old cells add up to, where no dart dies and
-- no sum leaves 64 bits: both are the sum over all pieces of what each piece gets.
use Rattle.std.proofs.Common.{ℕ, ◌≡◌, ◌↔◌, ◌<◌, ◌≤◌, ◌+ℤ◌, refl, sym, ap, subst, ◌∙◌, ℤ, List, [], ◌∷◌, length, Contains, slice_index, slice_index_or, Option, Some, None, IsSome, arith}
use Rattle.std.proofs.lemmas.List.{get_or_default}
use Rattle.std.proofs.lemmas.List.Elements.{Contains-get_or}
use Rattle.map_defs.specs.Kind.{Kind}
use Rattle.map_defs.specs.Links.{Links}
use Rattle.map_defs.specs.Laws.{Laws}
use Rattle.map_defs.specs.Cells.{here, InCell, NamesCell}
use Rattle.map_defs.specs.Values.{Value, Hook, Meaning, dealt, dealt_value, total}
use Rattle.map_defs.specs.Carry.{NamesPiece, ArePieces, Gets, IsCarried, AreCarried, IsValuedWith, AreEqualOnCells, known}
use Rattle.map_defs.specs.Totals.{sum_share, ListsValuedCells, total_value, NoSumLeaves}
use Rattle.link_laws.proofs.CellFacts.{cell_back}
use Rattle.value_laws.proofs.Rising.{has_least, rising_place}
use Rattle.value_laws.proofs.Carrying.{pieces_one, gets_one}
use Rattle.value_laws.proofs.MapValues.{cell_trans, one_value}
use Rattle.value_laws.proofs.Rules.{same_value}
use Rattle.value_laws.proofs.Dealing.{parts_add_up}
use Rattle.value_laws.proofs.Adding.{added, added_alike, added_by_places, joined}
use Rattle.value_laws.proofs.Grouping.{AreGroups, group_held, group_holds, grouped_twice, piece_groups, chosen, chosen_is}
use Rattle.value_laws.proofs.Summing.{merged_has_value, IsNumber, first_number, second_number, third_number, merged_adds_up}

-- a dart that lies in two cells lies in one
names_one : (k : Kind) (L : Links) → Laws k L → (i c e m : ℕ) → NamesCell k L i c → NamesCell k L i e → InCell k L i c m → InCell k L i e m → c ≡ e
names_one k L w i c e m nc ne p q =
    let a : c ≤ e = nc e (cell_trans k L i c m e p (cell_back k L w i e m q)) in
    let b : e ≤ c = ne c (cell_trans k L i e m c q (cell_back k L w i c m p)) in
    omega arith

-- a valued cell is listed, or rather, it is not so that it is not
listed : (k : Kind) (i : ℕ) (L : Links) → Laws k L → (Live : ℕ → Type 0) → ((x y : ℕ) → Live x → InCell k L i x y → Live y) → (values : ℕ → Option Value) → ((x y : ℕ) → Live x → InCell k L i x y → IsSome (values x) → IsSome (values y))
    → (cells : List ℕ) → ListsValuedCells k i L Live values cells → (m : ℕ) → Live m → IsSome (values m) → ((c : ℕ) → Contains cells c → InCell k L i c m → ⊥) → ⊥
listed k i L w Live stays values same cells lists m l s none = has_least (InCell k L i m) m here found
  where
    found : (c : ℕ) → InCell k L i m c → ((y : ℕ) → InCell k L i m y → c ≤ y) → ⊥
    found c h least = none c ((lists.members c).1 (stays m c l h, same m c l h s, λ e g. least e (cell_trans k L i m c e h g))) (cell_back k L w i m c h)

total_number : (number : Value → ℤ) → IsNumber number → (values : ℕ → Option Value) (cells : List ℕ) → number (total_value values cells) ≡ added (λ c. number (known (values c))) cells
total_number number is values [] = is.nothing
total_number number is values (c ∷ cells) = is.summed (known (values c)) (total_value values cells) ∙ ap (λ s. number (known (values c)) +ℤ s) (total_number number is values cells)

module _ (k : Kind) (i : ℕ) (hook : Hook) (L N : Links) (Live LiveAfter : ℕ → Type 0) (w : Laws k L) (wn : Laws k N)
    (live_cell : (x y : ℕ) → Live x → InCell k L i x y → Live y) (live_after : (x y : ℕ) → LiveAfter x → InCell k N i x y → LiveAfter y) (stay : (x : ℕ) → Live x → LiveAfter x)
    (values after : ℕ → Option Value) (equal : AreEqualOnCells k i L Live values) (carried : AreCarried k i (sum_share hook) L Live values N LiveAfter after)
    (within : NoSumLeaves k i (sum_share hook) L Live values N LiveAfter)
    (old_cells new_cells : List ℕ) (old_lists : ListsValuedCells k i L Live values old_cells) (new_lists : ListsValuedCells k i N LiveAfter after new_cells) where
  abbrev Lives : ℕ → Type 0
  Lives x = Live x × LiveAfter x

  abbrev Old : ℕ → ℕ → Type 0
  Old = IsValuedWith k i L values

  abbrev New : ℕ → ℕ → Type 0
  New = InCell k N i

  abbrev worth : ℕ → Value
  worth x = known (values x)

  abbrev Rule : Meaning
  Rule = sum_share hook

  abbrev Named : ℕ → Type 0
  Named = NamesPiece Lives Old New

  -- what a piece gets, as its new cell tells it
  gets_in : (m : ℕ) → Named m → (part : Option Value) × Gets Rule worth Lives Old New m part
  gets_in m n = found ((c.are.members m).1 (n, here))
    where
      c : IsCarried Rule worth Lives Old New m (after m)
      c = carried m n.live.1

      found : Contains c.pieces m → (part : Option Value) × Gets Rule worth Lives Old New m part
      found h =
          let at : slice_index c.pieces h.0 ≡ m = get_or_default c.pieces h.0 0 m h.1 ∙ h.2 in
          (slice_index_or c.parts h.0 None, subst (λ z. Gets Rule worth Lives Old New z (slice_index_or c.parts h.0 None)) at (c.each h.0 h.1))

  same_old : (c m : ℕ) → Old c m → Old m m → (x : ℕ) → Old m x ↔ Old c x
  same_old c m o v x = ((λ p. (cell_trans k L i c m x o.0 p.0, o.1)), λ p. (cell_trans k L i m c x (cell_back k L w i c m o.0) p.0, v.1))

  -- the old cells: each is a piece's, since its least dart lives on
  names_old : (c : ℕ) → Contains old_cells c → Named c
  names_old c h =
      let l = (old_lists.members c).0 h in
      record { live = (l.0, stay c l.0); valued = (here, l.1); least = λ x lives old new. l.2 x old.0 }

  abbrev old_pieces : ℕ → List ℕ
  old_pieces = chosen old_cells [] (λ c h. let g = gets_in c (names_old c h) in g.1.pieces)

  old_are : (c : ℕ) → Contains old_cells c → ArePieces Lives Old New (Old c) (old_pieces c)
  old_are c h = chosen_is old_cells [] (λ c h. let g = gets_in c (names_old c h) in g.1.pieces) (λ p. ArePieces Lives Old New (Old c) p) c h (λ h. let g = gets_in c (names_old c h) in g.1.are)

  has_value : (m : ℕ) → Named m → IsSome (values m)
  has_value m n = n.valued.1

  old_groups : AreGroups Named old_cells old_pieces
  old_groups = piece_groups Lives Old New Old old_cells old_pieces old_lists.ascending old_are
      (λ c e m h g p q. names_one k L w i c e m ((old_lists.members c).0 h).2 ((old_lists.members e).0 g).2 p.0 q.0)
      (λ m n none. listed k i L w Live live_cell values (λ x y l h s. subst IsSome (equal x y l h) s) old_cells old_lists m n.live.0 (has_value m n) (λ c h p. none c h (p, ((old_lists.members c).0 h).1)))

  -- the new cells
  some_after : (m : ℕ) → Named m → IsSome (after m)
  some_after m n = subst IsSome (sym c.is) (merged_has_value Rule.merged c.parts (first_in (held n)) (first_some (held n)))
    where
      c : IsCarried Rule worth Lives Old New m (after m)
      c = carried m n.live.1

      held : Named m → Contains c.pieces m
      held n = (c.are.members m).1 (n, here)

      first_in : Contains c.pieces m → 0 < length c.parts
      first_in h = let l = h.1 in let e = c.even in omega arith

      gets_some : (p : ℕ) (part : Option Value) → Gets Rule worth Lives Old New p part → IsSome part
      gets_some p part g = subst IsSome (sym g.is) refl

      first_some : Contains c.pieces m → IsSome (slice_index_or c.parts 0 None)
      first_some h = let l = h.1 in gets_some (slice_index c.pieces 0) (slice_index_or c.parts 0 None) (c.each 0 (omega arith))

  new_live : (d : ℕ) → Contains new_cells d → LiveAfter d
  new_live d h = ((new_lists.members d).0 h).0

  abbrev new_pieces : ℕ → List ℕ
  new_pieces = chosen new_cells [] (λ d h. let c = carried d (new_live d h) in c.pieces)

  new_are : (d : ℕ) → Contains new_cells d → ArePieces Lives Old New (New d) (new_pieces d)
  new_are d h = chosen_is new_cells [] (λ d h. let c = carried d (new_live d h) in c.pieces) (λ p. ArePieces Lives Old New (New d) p) d h (λ h. let c = carried d (new_live d h) in c.are)

  new_groups : AreGroups Named new_cells new_pieces
  new_groups = piece_groups Lives Old New New new_cells new_pieces new_lists.ascending new_are
      (λ c e m h g p q. names_one k N wn i c e m ((new_lists.members c).0 h).2 ((new_lists.members e).0 g).2 p q)
      (λ m n none. listed k i N wn LiveAfter live_after after (λ x y l h s. subst IsSome (one_value k i Rule L N Live LiveAfter w wn values after carried x y l (live_after x y l h) h) s) new_cells new_lists m n.live.1 (some_after m n) none)

  -- what each piece gets
  abbrev parts_of : ℕ → Option Value
  parts_of = chosen (joined new_pieces new_cells) None (λ m h. (gets_in m (group_held Named new_cells new_pieces new_groups m h)).0)

  gets : (m : ℕ) → Named m → Gets Rule worth Lives Old New m (parts_of m)
  gets m n = chosen_is (joined new_pieces new_cells) None (λ m h. (gets_in m (group_held Named new_cells new_pieces new_groups m h)).0) (λ part. Gets Rule worth Lives Old New m part) m
      (group_holds Named new_cells new_pieces new_groups m n) (λ h. (gets_in m (group_held Named new_cells new_pieces new_groups m h)).1)

  module _ (number : Value → ℤ) (is : IsNumber number) where
    abbrev share : ℕ → ℤ
    share m = number (known (parts_of m))

    -- the parts of an old cell add up to its value
    dealt_part : (c p : ℕ) → Contains old_cells c → p < length (old_pieces c) → share (slice_index (old_pieces c) p) ≡ dealt (length (old_pieces c)) p (number (worth c))
    dealt_part c p h l = ap (λ o. number (known o)) (g.is ∙ ap Some shares) ∙ is.dealt_out (length (old_pieces c)) p (worth c)
      where
        m : ℕ
        m = slice_index (old_pieces c) p

        member : Named m × Old c m
        member = let a = old_are c h in (a.members m).0 (Contains-get_or (old_pieces c) p 0 l)

        g : Gets Rule worth Lives Old New m (parts_of m)
        g = gets m member.0

        same : g.pieces ≡ old_pieces c
        same = let n : Named m = member.0 in pieces_one Lives Old New (Old m) (Old c) g.pieces (old_pieces c) g.are (old_are c h) (λ x q. same_old c m member.1 n.valued x)

        place : g.at ≡ p
        place = let a = old_are c h in rising_place (old_pieces c) a.ascending g.at p (subst (λ q. g.at < length q) same g.within) l (ap (λ q. slice_index q g.at) (sym same) ∙ g.named)

        shares : dealt_value (length g.pieces) g.at (worth m) ≡ dealt_value (length (old_pieces c)) p (worth c)
        shares = ap (λ q. dealt_value (length q) g.at (worth m)) same ∙ (ap (λ q. dealt_value (length (old_pieces c)) q (worth m)) place ∙ ap (λ v. dealt_value (length (old_pieces c)) p (known v)) (sym (equal c m ((old_lists.members c).0 h).0 member.1.0)))

    old_adds_up : (c : ℕ) → Contains old_cells c → added share (old_pieces c) ≡ number (worth c)
    old_adds_up c h =
        added_by_places share (λ p. dealt (length (old_pieces c)) p (number (worth c))) (old_pieces c) (λ p l. dealt_part c p h l)
        ∙ parts_add_up (length (old_pieces c)) (number (worth c)) some
      where
        some : 0 < length (old_pieces c)
        some = let a = old_are c h in let q : Contains (old_pieces c) c = (a.members c).1 (names_old c h, (here, ((old_lists.members c).0 h).1)) in let l = q.1 in omega arith

    -- and those of a new cell to its value
    new_adds_up : (d : ℕ) → Contains new_cells d → added share (new_pieces d) ≡ number (known (after d))
    new_adds_up d h = chosen_is new_cells [] (λ d h. let c = carried d (new_live d h) in c.pieces) (λ p. added share p ≡ number (known (after d))) d h (λ h. on (carried d (new_live d h)) (new_live d h))
      where
        on : (c : IsCarried Rule worth Lives Old New d (after d)) → LiveAfter d → added share c.pieces ≡ number (known (after d))
        on c l =
            added_by_places share (λ p. number (known (slice_index_or c.parts p None))) c.pieces
            (λ p b. let a = (c.are.members (slice_index c.pieces p)).0 (Contains-get_or c.pieces p 0 b) in
            ap (λ o. number (known o)) (gets_one Rule worth Lives Old New (slice_index c.pieces p) (parts_of (slice_index c.pieces p)) (slice_index_or c.parts p None) (gets (slice_index c.pieces p) a.0) (c.each p b)))
            ∙ (ap (λ n. total n (λ p. number (known (slice_index_or c.parts p None)))) (sym c.even)
            ∙ (sym (merged_adds_up number is c.parts (within d l (after d) c)) ∙ ap (λ o. number (known o)) (sym c.is)))

    number_stays : number (total_value values old_cells) ≡ number (total_value after new_cells)
    number_stays =
        total_number number is values old_cells
        ∙ (added_alike (λ c. number (worth c)) (λ c. added share (old_pieces c)) old_cells (λ c h. sym (old_adds_up c h))
        ∙ (grouped_twice Named old_cells new_cells old_pieces new_pieces old_groups new_groups share
        ∙ (added_alike (λ d. added share (new_pieces d)) (λ d. number (known (after d))) new_cells new_adds_up
        ∙ sym (total_number number is after new_cells))))

  -- the total stays
  pub total_stays : total_value values old_cells ≡ total_value after new_cells
  total_stays = same_value (total_value values old_cells) (total_value after new_cells) (number_stays (λ v. v.a) first_number) (number_stays (λ v. v.b) second_number) (number_stays (λ v. v.c) third_number)
