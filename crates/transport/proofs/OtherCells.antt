-- The cells without a touched dart keep the value of their one id; and which darts live before a change.
use Rattle.std.proofs.Common.{◌≡◌, ◌⊎◌, ◌↔◌, inl, inr, ℕ, suc, ◌<◌, ◌≤◌, List, slice_index, Option, Some, None, IsSome, Contains, refl, sym, ◌∙◌, ap, subst, arith}
use Rattle.map_defs.specs.Kind.{Kind}
use Rattle.map_defs.specs.Rows.{Rows, links_of, IsLive, IsSound}
use Rattle.map_defs.specs.Cells.{InCell}
use Rattle.map_defs.specs.Values.{Value, Meaning, KeepsWhole, IsRepresentable}
use Rattle.map_defs.specs.Touched.{IsAlike, IsWhole, Covers}
use Rattle.map_defs.specs.Carry.{known, NamesPiece, ArePieces, IsCarried}
use Rattle.value_laws.proofs.Rising.{find_least}
use Rattle.value_laws.proofs.Keeping.{IsKeptCell, without_is_carried, with_is_carried}
use Rattle.value_laws.proofs.OfRows.{told_live}
use Rattle.store_defs.specs.Stores.{Store, value_of, IsHeld, HasRepresentable}
use Rattle.store_defs.specs.Groups.{labelled_value, known_value}
use Rattle.transport.proofs.Finding.{AreClasses, sound_classes}
use Rattle.transport.proofs.Gathering.{told_eq}
use Rattle.transport.proofs.CarryFacts.{cell_live}

told_label : (o : Option ℕ) (c : ℕ) → (o ≡ Some c) ⊎ (o ≡ Some c → ⊥)
told_label None c = inr (λ e. cc (e))
told_label (Some a) c = elim (told_eq a c) [ inl p ↦ inl (ap Some p.0) | inr p ↦ inr (λ e. p.0 (cc (e))) ]

module _ (Cell : ℕ → ℕ → Type 0) (classes : AreClasses Cell) (Live : ℕ → Type 0) (told : (x : ℕ) → Live x ⊎ (Live x → ⊥)) (stays : (d x : ℕ) → Live d → Cell d x → Live x) (label : ℕ → Option ℕ)
    (pool : Store) (rule : Meaning) (whole : KeepsWhole rule) (small : HasRepresentable pool) (held : (d id : ℕ) → Live d → label d ≡ Some id → IsHeld pool id) (d : ℕ) (live : Live d) where
  kept : IsKeptCell Live Cell d
  kept = record {
    own = classes.own d;
    live = λ x s. stays d x live s;
    among = λ m x s. ((λ t. classes.join d m x s t), (λ t. classes.join m d x (classes.turn d m s) t));
  }

  no_value : ((x : ℕ) → Cell d x → label x ≡ None) → (o : Option ℕ) → label d ≡ o → IsCarried rule (known_value pool label) Live (IsAlike label) Cell d (labelled_value pool o)
  no_value none (Some id) e = absurd (let f = none d (classes.own d) in cc (e, f))
  no_value none None e = without_is_carried rule (known_value pool label) Live (IsAlike label) Cell d kept (λ x s a. let f = none x s in let g = a.1 in cc (f, g))

  module _ (c : ℕ) (w : IsWhole Live (Cell d) label c) where
    -- the darts of the cell are the live ones with its id
    inside_told : (x : ℕ) → Cell d x ⊎ (Cell d x → ⊥)
    inside_told x = elim (told x) [
      | inl l ↦ elim (told_label (label x) c) [ inl e ↦ inl (w.outside x l e) | inr n ↦ inr (λ s. n (w.inside x s)) ]
      | inr n ↦ inr (λ s. n (stays d x live s))
    ]

    valued : (m x : ℕ) → Cell d m → Live x → IsAlike label m x ↔ Cell d x
    valued m x s l = (
      λ (a, e, f). w.outside x l (f ∙ (let g = w.inside m s in let same : Some a ≡ Some c = sym e ∙ g in same)),
      λ t. (c, w.inside m s, w.inside x t),
    )

    constant : (m : ℕ) → Cell d m → known_value pool label m ≡ known_value pool label d
    constant m s = ap (λ o. known (labelled_value pool o)) (w.inside m s ∙ sym (w.inside d (classes.own d)))

    some_known : (o : Option Value) → IsSome o → Some (known o) ≡ o
    some_known (Some v) h = refl
    some_known None h = absurd (cc (h))

    the_value : (o : Option ℕ) → label d ≡ o → Some (known_value pool label d) ≡ labelled_value pool o
    the_value None e = absurd (let f = w.inside d (classes.own d) in cc (e, f))
    the_value (Some id) e = ap (λ o. Some (known (labelled_value pool o))) e ∙ some_known (value_of pool id) (held d id live e)

    known_small : (id : ℕ) (r : Option Value) → value_of pool id ≡ r → IsSome r → IsRepresentable (known r)
    known_small id (Some v) is h = small id v is
    known_small id None is h = absurd (cc (h))

    whole_value : (o : Option ℕ) → label d ≡ o → rule.share (known_value pool label d) 1 0 ≡ Some (known_value pool label d)
    whole_value None e = absurd (let f = w.inside d (classes.own d) in cc (e, f))
    whole_value (Some id) e = whole (known_value pool label d) (subst (λ o. IsRepresentable (known (labelled_value pool o))) (sym e) (known_small id (value_of pool id) refl (held d id live e)))

    one_value : (o : Option ℕ) → label d ≡ o → IsCarried rule (known_value pool label) Live (IsAlike label) Cell d (labelled_value pool o)
    one_value o e = go (find_least (Cell d) inside_told (suc d))
      where
        go : ((m : ℕ) × Cell d m × ((y : ℕ) → Cell d y → m ≤ y)) ⊎ ((y : ℕ) → y < suc d → Cell d y → ⊥) → IsCarried rule (known_value pool label) Live (IsAlike label) Cell d (labelled_value pool o)
        go (inr none) = absurd (none d (omega arith) (classes.own d))
        go (inl (m, s, least)) =
            subst (λ v. IsCarried rule (known_value pool label) Live (IsAlike label) Cell d v) (the_value o e)
            (with_is_carried rule (known_value pool label) Live (IsAlike label) Cell d kept valued (whole_value o e) constant m s least)

  pub other_carried : ((x : ℕ) → Cell d x → label x ≡ None) ⊎ ((c : ℕ) × IsWhole Live (Cell d) label c) → IsCarried rule (known_value pool label) Live (IsAlike label) Cell d (labelled_value pool (label d))
  other_carried (inl none) = no_value none (label d) refl
  other_carried (inr (c, w)) = one_value c w (label d) refl

-- the cells of rows without a touched dart
pub other_cells : (k : Kind) (n : ℕ) (rows : Rows) → IsSound k n rows → (i : ℕ) (label : ℕ → Option ℕ) (pool : Store) (touched : List ℕ) (rule : Meaning) → KeepsWhole rule → HasRepresentable pool
    → ((d id : ℕ) → IsLive rows d → label d ≡ Some id → IsHeld pool id) → Covers k i (links_of rows) (IsLive rows) label (Contains touched) → (d : ℕ) → IsLive rows d
    → ((x : ℕ) → InCell k (links_of rows) i d x → Contains touched x → ⊥) → IsCarried rule (known_value pool label) (IsLive rows) (IsAlike label) (InCell k (links_of rows) i) d (labelled_value pool (label d))
other_cells k n rows sound i label pool touched rule whole small held covers d live untouched =
    other_carried (InCell k (links_of rows) i) (sound_classes k n i rows sound) (IsLive rows) (told_live rows) (λ e x. cell_live k n rows sound i e x) label pool rule whole small held d live (covers d live untouched)

-- Where each dart with a label lived before, pieces are of darts that live before and after.
module _ (rule : Meaning) (value : ℕ → Value) (Live After : ℕ → Type 0) (Old New : ℕ → ℕ → Type 0) (lived : (m x : ℕ) → After x → Old m x → Live x) where
  to_both : (m : ℕ) → NamesPiece After Old New m → NamesPiece (λ x. Live x × After x) Old New m
  to_both m p = record { live = (lived m m p.live p.valued, p.live); valued = p.valued; least = λ x l o n. p.least x l.1 o n }

  from_both : (m : ℕ) → NamesPiece (λ x. Live x × After x) Old New m → NamesPiece After Old New m
  from_both m p = let l = p.live in record { live = l.1; valued = p.valued; least = λ x a o n. p.least x (lived m x a o, a) o n }

  both_pieces : (Cell : ℕ → Type 0) (pieces : List ℕ) → ArePieces After Old New Cell pieces → ArePieces (λ x. Live x × After x) Old New Cell pieces
  both_pieces Cell pieces a = record {
    ascending = a.ascending;
    members = λ m. ((λ h. let q = (a.members m).0 h in (to_both m q.0, q.1)), (λ (p, s). (a.members m).1 (from_both m p, s)));
  }

  pub carried_lived : (d : ℕ) (r : Option Value) → IsCarried rule value After Old New d r → IsCarried rule value (λ x. Live x × After x) Old New d r
  carried_lived d r a = record {
    pieces = a.pieces;
    are = both_pieces (New d) a.pieces a.are;
    parts = a.parts;
    even = a.even;
    each = λ at h. let q = a.each at h in record { pieces = q.pieces; are = both_pieces (Old (slice_index a.pieces at)) q.pieces q.are; at = q.at; within = q.within; named = q.named; is = q.is };
    is = a.is;
  }
