-- Marks of darts that stand side by side, and the cells that are found by them.
use Rattle.std.proofs.Common.{◌≡◌, ◌≢◌, ◌⊎◌, inl, inr, ℕ, zero, suc, ◌+◌, ◌-◌, ◌<◌, ◌≤◌, List, [], ◌∷◌, ◌++◌, length, get_or, slice_index, Bool, true, false, cond, nat_eq, Contains, IsPermutation, refl, sym, ◌∙◌, ap, subst, arith}
use Rattle.std.proofs.lemmas.Bool.{false≢true}
use Rattle.std.proofs.lemmas.List.Folds.{list_any_at}
use Rattle.std.specs.List.Sorted.{IsNonDecreasingBy}
use Rattle.store_defs.specs.Groups.{Group, no_group, group_at, least_of}
use Rattle.transport.specs.Pieces.{IsBareCell, AreBareCells}
use Rattle.transport.specs.Marks.{Marks, mark_at, IsMarkedAt, is_among}
use Rattle.transport.specs.Found.{IsInSome, AreHeld, AreMarkedFound, IsCellAddedAt}
use Rattle.transport.proofs.Lists.{at_front, at_back, back_or_front, each_pushed, held_at}
use Rattle.transport.proofs.Gathering.{told_eq}
use Rattle.transport.proofs.Finding.{AreClasses, least_in, some_in_front, some_in_back, new_whole, held_sorted}

pub among_has : (darts : List ℕ) (x : ℕ) → is_among darts x ≡ true → Contains darts x
among_has [] x h = absurd (false≢true h)
among_has (d ∷ darts) x h = elim (told_eq x d) [
  | inl t ↦ (0, omega arith, sym t.0)
  | inr t ↦ (let p = among_has darts x (rw t.1 at h) in (suc p.0, (let l = p.1 in omega arith), p.2))
]

pub has_among : (darts : List ℕ) (x : ℕ) → Contains darts x → is_among darts x ≡ true
has_among darts x (i, h, e) = list_any_at (nat_eq x) darts i x h (ap (nat_eq x) e ∙ same (told_eq x x))
  where
    same : ((x ≡ x) × (nat_eq x x ≡ true)) ⊎ ((x ≢ x) × (nat_eq x x ≡ false)) → nat_eq x x ≡ true
    same (inl t) = t.1
    same (inr t) = absurd (t.0 refl)

-- what is marked stands in the list
pub marked_within : (marks : List Bool) (p : ℕ) → get_or marks p false ≡ true → p < length marks
marked_within [] p h = absurd (false≢true h)
marked_within (m ∷ marks) zero h = omega arith
marked_within (m ∷ marks) (suc p) h = let l = marked_within marks p h in omega arith

-- the ends of a list of numbers, as one more is looked at
pub record AreEnds (darts : List ℕ) (looked first last : ℕ) : Type 0 where
  pub some : 0 < first
  pub within : (j : ℕ) → j < looked → (first ≤ slice_index darts j) × (slice_index darts j ≤ last)

module _ (Cell : ℕ → ℕ → Type 0) (classes : AreClasses Cell) (i : ℕ) where
  -- all touched darts are marked at first
  pub near_none : (touched : List ℕ) (before after : Marks) (last : ℕ) → ((p : ℕ) → mark_at before p ≡ false) → last < before.first + length before.marks
      → ((d : ℕ) → Contains touched d → (before.first ≤ d) × (d ≤ last)) → after.first ≡ before.first → length after.marks ≡ length before.marks
      → ((p : ℕ) → p < length before.marks → mark_at after p ≡ cond (is_among touched (p + before.first)) true (mark_at before p))
      → AreMarkedFound Cell i 0 touched after []
  near_none touched before after last bare long within first size marks = record {
    each = λ n h. absurd (omega arith);
    apart = λ m n l h. absurd (omega arith);
    marked = λ p m. (subst (λ f. Contains touched (p + f)) (sym first) (has p m (told p m)), (λ s. absurd (let l = s.1 in omega arith)), omega arith);
    all = λ d h. inr (there d h);
  }
    where
      told : (p : ℕ) → IsMarkedAt after p → cond (is_among touched (p + before.first)) true false ≡ true
      told p m =
          let l : p < length before.marks = (let s = marked_within after.marks p m in omega arith) in
          sym (marks p l ∙ ap (cond (is_among touched (p + before.first)) true) (bare p)) ∙ m

      case : (b : Bool) → cond b true false ≡ true → b ≡ true
      case true h = refl
      case false h = h

      has : (p : ℕ) → IsMarkedAt after p → cond (is_among touched (p + before.first)) true false ≡ true → Contains touched (p + before.first)
      has p m h = among_has touched (p + before.first) (case (is_among touched (p + before.first)) h)

      there : (d : ℕ) → Contains touched d → (p : ℕ) × IsMarkedAt after p × (p + after.first ≡ d)
      there d h =
          let w = within d h in
          let low = w.0 in
          let high = w.1 in
          let is : (d - before.first) + before.first ≡ d = omega arith in
          let among : is_among touched ((d - before.first) + before.first) ≡ true = ap (is_among touched) is ∙ has_among touched d h in
          (d - before.first, marks (d - before.first) (omega arith) ∙ ap (λ b. cond b true (mark_at before (d - before.first))) among, omega arith)

  pub near_more : (place : ℕ) (touched : List ℕ) (before after : Marks) (old new : List Group) → AreMarkedFound Cell i place touched before old → IsCellAddedAt Cell i place before after old new → AreMarkedFound Cell i (place + 1) touched after new
  near_more place touched before after old new f (inl (unmarked, same, kept)) =
      subst (λ m. AreMarkedFound Cell i (place + 1) touched m new) (sym same) (subst (AreMarkedFound Cell i (place + 1) touched before) (sym kept) (record {
        each = f.each;
        apart = f.apart;
        marked = λ p m. (let q = f.marked p m in (q.0, q.1, further p m q.2));
        all = f.all;
      }))
    where
      case : (a b : ℕ) → a ≤ b → (a ≡ b) ⊎ (a + 1 ≤ b)
      case a b h = grind arith

      further : (p : ℕ) → IsMarkedAt before p → place ≤ p → place + 1 ≤ p
      further p m h = elim (case place p h) [ inl e ↦ absurd (unmarked (subst (IsMarkedAt before) (sym e) m)) | inr l ↦ l ]
  near_more place touched before after old new f (inr (g, pushed, fresh)) =
      subst (AreMarkedFound Cell i (place + 1) touched after) (sym pushed) (record {
        each = each_pushed no_group (IsBareCell Cell i touched) old g f.each bare;
        apart = apart;
        marked = marked;
        all = all;
      })
    where
      d : ℕ
      d = place + before.first

      longer : List Group
      longer = old ++ g ∷ []

      own : Contains g.darts d
      own = (fresh.cell.darts d).1 (classes.own d)

      here : Contains touched d × (IsInSome old d → ⊥) × (place ≤ place)
      here = f.marked place fresh.marked

      bare : IsBareCell Cell i touched g
      bare = record {
        dim = fresh.cell.dim;
        bare = fresh.cell.bare;
        ascending = fresh.cell.ascending;
        whole = new_whole Cell classes i g d fresh.cell.darts;
        reached = (d, here.0, own);
      }

      -- no dart of the new cell lies in another
      outside : (n x : ℕ) → n < length old → Contains (group_at old n).darts x → Contains g.darts x → ⊥
      outside n x h a b = here.1 (n, h, ((f.each n h).whole x d a).1 (classes.turn d x ((fresh.cell.darts x).0 b)))

      least_apart : (n : ℕ) → n < length old → least_of (group_at old n) ≢ least_of g
      least_apart n h e =
          let r = (f.each n h).reached in
          outside n (least_of g) h (subst (Contains (group_at old n).darts) e (least_in (group_at old n) r.0 r.2)) (least_in g d own)

      apart : (m n : ℕ) → m < n → n < length longer → least_of (group_at longer m) ≢ least_of (group_at longer n)
      apart m n l h = elim (back_or_front no_group old g n h) [
        | inl s ↦ (let m' : m < length old = omega arith in rw (at_front no_group old g m m', at_front no_group old g n s) (f.apart m n l s))
        | inr s ↦ (let m' : m < length old = omega arith in rw (s, at_front no_group old g m m', at_back no_group old g) (least_apart m m'))
      ]

      from : (x : ℕ) → IsInSome longer x → IsInSome old x ⊎ Contains g.darts x
      from x (n, h, c) = elim (back_or_front no_group old g n h) [
        | inl s ↦ inl (n, s, rw (at_front no_group old g n s) at c)
        | inr s ↦ inr (rw (s, at_back no_group old g) at c)
      ]

      -- the mark of a place, if it is still there
      kept : (p : ℕ) (b : Bool) → is_among g.darts (p + before.first) ≡ b → cond b false (mark_at before p) ≡ true → IsMarkedAt before p × (Contains g.darts (p + before.first) → ⊥)
      kept p true is h = absurd (false≢true h)
      kept p false is h = (h, λ has. false≢true (sym is ∙ has_among g.darts (p + before.first) has))

      still : (p : ℕ) → IsMarkedAt after p → IsMarkedAt before p × (Contains g.darts (p + before.first) → ⊥)
      still p m =
          let l : p < length before.marks = (let s = marked_within after.marks p m in let e = fresh.size in omega arith) in
          kept p (is_among g.darts (p + before.first)) refl (sym (fresh.marks p l) ∙ m)

      case : (a b : ℕ) → a ≤ b → (a ≡ b) ⊎ (a + 1 ≤ b)
      case a b h = grind arith

      marked : (p : ℕ) → IsMarkedAt after p → Contains touched (p + after.first) × (IsInSome longer (p + after.first) → ⊥) × (place + 1 ≤ p)
      marked p m =
          let s = still p m in
          let q = f.marked p s.0 in
          let past : place + 1 ≤ p = elim (case place p q.2) [ inl e ↦ absurd (s.1 (subst (λ x. Contains g.darts (x + before.first)) e own)) | inr l ↦ l ] in
          subst (λ x. Contains touched (p + x) × (IsInSome longer (p + x) → ⊥) × (place + 1 ≤ p)) (sym fresh.first)
          (q.0, (λ t. elim (from (p + before.first) t) [ inl o ↦ q.1 o | inr c ↦ s.1 c ]), past)

      -- a marked dart is in the new cell, or it is marked still
      sorted_out : (x p : ℕ) (b : Bool) → IsMarkedAt before p → p + before.first ≡ x → is_among g.darts (p + before.first) ≡ b → IsInSome longer x ⊎ ((q : ℕ) × IsMarkedAt after q × (q + after.first ≡ x))
      sorted_out x p true m e is = inl (some_in_back old g x (subst (Contains g.darts) e (among_has g.darts (p + before.first) is)))
      sorted_out x p false m e is = inr (p, fresh.marks p (marked_within before.marks p m) ∙ (ap (λ b. cond b false (mark_at before p)) is ∙ m), ap (λ y. p + y) fresh.first ∙ e)

      all : (x : ℕ) → Contains touched x → IsInSome longer x ⊎ ((q : ℕ) × IsMarkedAt after q × (q + after.first ≡ x))
      all x h = elim (f.all x h) [ inl s ↦ inl (some_in_front old g x s) | inr q ↦ sorted_out x q.0 (is_among g.darts (q.0 + before.first)) q.1 q.2 refl ]

  -- when all places are looked at
  pub near_sorted : (touched : List ℕ) (looked : ℕ) (marks : Marks) (cells sorted : List Group) → AreMarkedFound Cell i looked touched marks cells → length marks.marks ≤ looked
      → IsPermutation cells sorted → IsNonDecreasingBy least_of sorted → AreBareCells Cell i touched sorted
  near_sorted touched looked marks cells sorted f past moved up =
      held_sorted Cell classes i touched (length touched) touched cells sorted (λ d. (λ h. h, λ h. h)) held (omega arith) moved up
    where
      found : (x : ℕ) → IsInSome cells x ⊎ ((p : ℕ) × IsMarkedAt marks p × (p + marks.first ≡ x)) → IsInSome cells x
      found x (inl s) = s
      found x (inr (p, m, e)) = absurd (let l = marked_within marks.marks p m in let q = (f.marked p m).2 in omega arith)

      held : AreHeld Cell i (length touched) touched cells
      held = record { each = f.each; all = λ place h. found (slice_index touched place) (f.all (slice_index touched place) (held_at touched place h)); apart = f.apart }

-- the same places have marks
pub added_size : (Cell : ℕ → ℕ → Type 0) (i place : ℕ) (before after : Marks) (old new : List Group) → IsCellAddedAt Cell i place before after old new → length after.marks ≡ length before.marks
added_size Cell i place before after old new (inl (unmarked, same, kept)) = ap (λ m. length m.marks) same
added_size Cell i place before after old new (inr (g, pushed, fresh)) = fresh.size
