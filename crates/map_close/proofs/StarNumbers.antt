-- The numbers of the new darts of a closing, put into a table one after the other.
use Rattle.std.proofs.Common.{ℕ, zero, suc, ◌≡◌, ◌≢◌, ◌+◌, ◌<◌, ◌≤◌, ◌⊎◌, List, [], ◌∷◌, ◌++◌, length, slice_index, get_or, Contains, refl, sym, ap, ◌∙◌, subst, inl, inr, eq-eqb, arith}
use Rattle.std.proofs.lemmas.Bool.{cases_lt, cases_eq, ne_eqb}
use Rattle.std.proofs.lemmas.List.{get_or_append_left, get_or_at, get_or_past, length_push}
use Rattle.std.proofs.lemmas.List.Elements.{Contains-get_or}
use Rattle.map_defs.specs.Kind.{Kind, inverse}
use Rattle.map_defs.specs.Laws.{Laws}
use Rattle.map_defs.specs.Rows.{Rows, links_of, made, IsLive, IsSound}
use Rattle.map_defs.specs.Closing.{IsOpen}
use Rattle.insert_laws.proofs.Paths.{held_at}
use Rattle.cell_edit.specs.Stars.{Stars, number_from, star_of}
use Rattle.cell_edit.proofs.Premises.{all-made}
use Rattle.cell_edit.proofs.StarNumbers.{few_keys, star-found}
use Rattle.cell_edit.proofs.WalkTurns.{listed-told}
use Rattle.map_close.specs.Boundary.{keys_from, ListsOpen, IsToldBelow}
use Rattle.map_close.specs.NewLinks.{CanClose}
use Rattle.map_close.proofs.OpenList.{lists-none, lists-skip, lists-push, lists-all}

-- a dart that is no key has no new dart
number-missing : (next : ℕ) (keys : List ℕ) (x : ℕ) → ((k : ℕ) → k < length keys → slice_index keys k ≢ x) → number_from next keys x ≡ 0
unfolding number_from
number-missing next [] x none = refl
number-missing next (key ∷ keys) x none =
    rw (ne_eqb key x (none 0 (omega arith))) (number-missing (next + 1) keys x (λ k low. none (suc k) (omega arith)))

-- another key behind changes no number but its own
number-kept : (next : ℕ) (keys : List ℕ) (y x : ℕ) → x ≢ y → number_from next (keys ++ y ∷ []) x ≡ number_from next keys x
unfolding number_from
number-kept next [] y x other = rw (ne_eqb y x (λ e. other (sym e))) refl
number-kept next (key ∷ keys) y x other = elim (cases_eq key x) [
  | inl same ↦ rw (eq-eqb key x same) refl
  | inr differs ↦ rw (ne_eqb key x differs) (number-kept (next + 1) keys y x other)
]

-- ---- the keys of a table: one more number behind
keys-skip : (d : ℕ) (ys : List ℕ) → keys_from d (ys ++ 0 ∷ []) ≡ keys_from d ys
keys-skip d [] = refl
keys-skip d (y ∷ ys) = rw (keys-skip (d + 1) ys) refl

keys-more : (d : ℕ) (ys : List ℕ) (y : ℕ) → y ≢ 0 → keys_from d (ys ++ y ∷ []) ≡ keys_from d ys ++ (d + length ys) ∷ []
keys-more d [] y some = rw (ne_eqb y 0 some) (ap (λ (e : ℕ). e ∷ []) (let e : d ≡ d + 0 = omega arith in e))
keys-more d (z ∷ zs) y some =
    let at : keys_from (d + 1) (zs ++ y ∷ []) ≡ keys_from (d + 1) zs ++ (d + length (z ∷ zs)) ∷ [] =
    keys-more (d + 1) zs y some ∙ ap (λ (e : ℕ). keys_from (d + 1) zs ++ e ∷ []) (let e : d + 1 + length zs ≡ d + suc (length zs) = omega arith in e) in
    elim (cases_eq z 0) [
      | inl none ↦ rw (eq-eqb z 0 none) at
      | inr other ↦ rw (ne_eqb z 0 other) (ap (λ (es : List ℕ). d ∷ es) at)
    ]

-- a dart that has a new dart is a key
pub star-key : (stars : Stars) (x : ℕ) → star_of stars x ≢ 0 → Contains stars.keys x
star-key stars x some = elim (listed-told stars.keys x) [
  | inl has ↦ has
  | inr none ↦ absurd (some (number-missing (stars.made + 1) stars.keys x (λ k low same. none (subst (Contains stars.keys) same (held_at stars.keys k low)))))
]

module _ (rows : Rows) (i : ℕ) where
  abbrev Open : ℕ → Type 0
  Open = IsOpen (IsLive rows) i (links_of rows)

  -- 0 is no dart
  pub told-begins : ((x : ℕ) → Open x → x ≢ 0) → IsToldBelow rows i 1 (made rows + 1) (0 ∷ [])
  told-begins darts = record {
    long = refl;
    lists = lists-none rows i 1 (λ x low is. darts x is (omega arith));
    count = omega arith;
    told = λ x. at x ∙ sym (number-missing (made rows + 1) [] x (λ k low. absurd (omega arith)));
  }
    where
      at : (x : ℕ) → slice_index (0 ∷ []) x ≡ 0
      at zero = refl
      at (suc x) = refl

  pub told-skip : (d next : ℕ) (numbers : List ℕ) → (Open d → ⊥) → IsToldBelow rows i d next numbers → IsToldBelow rows i (d + 1) next (numbers ++ 0 ∷ [])
  told-skip d next numbers not table = record {
    long = length_push numbers 0 ∙ ap (λ (n : ℕ). n + 1) table.long;
    lists = subst (ListsOpen rows i (d + 1)) (sym same) (lists-skip rows i d (keys_from 0 numbers) not table.lists);
    count = rw same table.count;
    told = λ x. rw same (free x ∙ table.told x);
  }
    where
      same : keys_from 0 (numbers ++ 0 ∷ []) ≡ keys_from 0 numbers
      same = keys-skip 0 numbers

      free : (x : ℕ) → slice_index (numbers ++ 0 ∷ []) x ≡ slice_index numbers x
      free x = elim (cases_lt x (length numbers)) [
        | inl within ↦ get_or_append_left numbers (0 ∷ []) 0 x within
        | inr past ↦ elim (cases_eq x (length numbers)) [
          | inl end ↦ get_or_at numbers 0 [] 0 x (sym end) ∙ sym (get_or_past numbers x 0 (omega (arith, end)))
          | inr beyond ↦ get_or_past (numbers ++ 0 ∷ []) x 0 (omega (arith, length_push numbers 0)) ∙ sym (get_or_past numbers x 0 past)
        ]
      ]

  pub told-push : (d next : ℕ) (numbers : List ℕ) → Open d → IsToldBelow rows i d next numbers → IsToldBelow rows i (d + 1) (next + 1) (numbers ++ next ∷ [])
  told-push d next numbers is table = record {
    long = length_push numbers next ∙ ap (λ (n : ℕ). n + 1) table.long;
    lists = subst (ListsOpen rows i (d + 1)) (sym grown) lists;
    count = rw grown (omega (arith, table.count, length_push keys d));
    told = λ x. rw grown (told x (cases_eq x d));
  }
    where
      keys : List ℕ
      keys = keys_from 0 numbers

      grown : keys_from 0 (numbers ++ next ∷ []) ≡ keys ++ d ∷ []
      grown =
          keys-more 0 numbers next (λ none. omega (arith, table.count))
          ∙ ap (λ (e : ℕ). keys_from 0 numbers ++ e ∷ []) (let e : 0 + length numbers ≡ d = omega (arith, table.long) in e)

      lists : ListsOpen rows i (d + 1) (keys ++ d ∷ [])
      lists = lists-push rows i d keys is table.lists

      told : (x : ℕ) → (x ≡ d) ⊎ (x ≢ d) → slice_index (numbers ++ next ∷ []) x ≡ number_from (made rows + 1) (keys ++ d ∷ []) x
      told x (inl end) =
          get_or_at numbers next [] 0 x (table.long ∙ sym end) ∙ table.count
          ∙ sym (star-found (record { keys = keys ++ d ∷ []; made = made rows }) x (length keys) lists.ascending (omega (arith, length_push keys d)) (get_or_at keys d [] 0 (length keys) refl ∙ sym end))
      told x (inr other) = elim (cases_lt x (length numbers)) [
        | inl within ↦ get_or_append_left numbers (next ∷ []) 0 x within ∙ table.told x ∙ sym (number-kept (made rows + 1) keys d x other)
        | inr past ↦
            get_or_past (numbers ++ next ∷ []) x 0 (omega (arith, length_push numbers next, table.long, other)) ∙ sym (get_or_past numbers x 0 past)
            ∙ table.told x ∙ sym (number-kept (made rows + 1) keys d x other)
      ]

  -- no more darts are told to get a new dart than were made
  pub told-few : (k : Kind) (n d next : ℕ) (numbers : List ℕ) → IsSound k n rows → IsToldBelow rows i d next numbers → length (keys_from 0 numbers) ≤ made rows
  told-few k n d next numbers sound table =
      few_keys (keys_from 0 numbers) (made rows) table.lists.ascending
      (all-made k n rows sound (keys_from 0 numbers)
      (λ p z h. let at = (table.lists.members (get_or (keys_from 0 numbers) p z)).0 (Contains-get_or (keys_from 0 numbers) p z h) in at.1.0))

  -- the table of all darts that were made
  pub told-all : (k : Kind) (d next : ℕ) (numbers : List ℕ) → made rows < d → inverse k i ≡ i → Laws k (links_of rows) → IsToldBelow rows i d next numbers
      → CanClose k rows i (record { keys = keys_from 0 numbers; made = made rows })
  told-all k d next numbers past own laws table = record {
    made = refl;
    members = lists-all rows i d (keys_from 0 numbers) past table.lists;
    ascending = table.lists.ascending;
    own = own;
    laws = laws;
  }
