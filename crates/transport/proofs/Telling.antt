-- What a list tells of ids, beside what is told elsewhere.
use Rattle.std.proofs.Common.{◌≡◌, ◌≢◌, ◌⊎◌, inl, inr, ℕ, zero, suc, ◌<◌, List, [], ◌∷◌, ◌++◌, length, get_or, set, true, false, Option, Some, None, nat_eq, nat_lt, cond, refl, sym, ◌∙◌, ap, subst, arith}
use Rattle.std.specs.List.{position, position_or_len}
use Rattle.std.proofs.lemmas.Bool.{lt-ltb}
use Rattle.std.proofs.lemmas.List.Quantifiers.{position-Some}
use Rattle.transport.specs.Tallies.{told_in}
use Rattle.transport.specs.declared.by_id.Entry.{Entry}
use Rattle.transport.proofs.Gathering.{told_eq}

pub none_if_no_some : (o : Option ℕ) → ((n : ℕ) → o ≡ Some n → ⊥) → o ≡ None
none_if_no_some None h = refl
none_if_no_some (Some n) h = absurd (h n refl)

-- two ids are asked for one after the other
swapped : {V : Type 0} (a b id : ℕ) (x y z : Option V) → a ≢ b → cond (nat_eq a id) x (cond (nat_eq b id) y z) ≡ cond (nat_eq b id) y (cond (nat_eq a id) x z)
swapped a b id x y z apart = elim (told_eq a id) [
  | inl e ↦ elim (told_eq b id) [ inl f ↦ absurd (apart (e.0 ∙ sym f.0)) | inr f ↦ rw (e.1, f.1) refl ]
  | inr e ↦ elim (told_eq b id) [ inl f ↦ rw (e.1, f.1) refl | inr f ↦ rw (e.1, f.1) refl ]
]

module _ {V : Type 0} (d : Entry V) where
  -- the first entry of an id stands at a place
  pub record IsPlaceOf (entries : List (Entry V)) (id place : ℕ) : Type 0 where
    pub within : place < length entries
    pub here : (get_or entries place d).id ≡ id
    pub first : (k : ℕ) → k < place → (get_or entries k d).id ≢ id

  pub place_some : (entries : List (Entry V)) (id place : ℕ) → position (λ e. nat_eq e.id id) entries ≡ Some place → IsPlaceOf entries id place
  place_some entries id place is =
      let p = position-Some (λ (e : Entry V). nat_eq e.id id) entries place d is in record {
        within = p.0;
        here = elim (told_eq (get_or entries place d).id id) [ inl e ↦ e.0 | inr e ↦ absurd (let f = p.1 in let g = e.1 in cc) ];
        first = λ k l e. elim (told_eq (get_or entries k d).id id) [ inl t ↦ absurd (let f = p.2 k l in let g = t.1 in cc) | inr t ↦ t.0 e ];
      }

  later : (e : Entry V) (entries : List (Entry V)) (id place : ℕ) → IsPlaceOf (e ∷ entries) id (suc place) → IsPlaceOf entries id place
  later e entries id place p = record { within = (let w = p.within in omega arith); here = p.here; first = λ k l. p.first (suc k) (omega arith) }

  pub told_at : (entries : List (Entry V)) (other : Option V) (id place : ℕ) → IsPlaceOf entries id place → told_in entries other id ≡ Some (get_or entries place d).told
  told_at [] other id place p = absurd (let w = p.within in omega arith)
  told_at (e ∷ entries) other id zero p = elim (told_eq e.id id) [ inl t ↦ rw t.1 refl | inr t ↦ absurd (t.0 p.here) ]
  told_at (e ∷ entries) other id (suc place) p = elim (told_eq e.id id) [
    | inl t ↦ absurd (p.first 0 (omega arith) t.0)
    | inr t ↦ rw t.1 (told_at entries other id place (later e entries id place p))
  ]

  pub told_set : (entries : List (Entry V)) (other : Option V) (id place : ℕ) (told : V) → IsPlaceOf entries id place → (asked : ℕ)
      → told_in (set entries place (record { id = id; told = told })) other asked ≡ cond (nat_eq id asked) (Some told) (told_in entries other asked)
  told_set [] other id place told p asked = absurd (let w = p.within in omega arith)
  told_set (e ∷ entries) other id zero told p asked = first (told_eq id asked)
    where
      first : ((id ≡ asked) × (nat_eq id asked ≡ true)) ⊎ ((id ≢ asked) × (nat_eq id asked ≡ false))
          → cond (nat_eq id asked) (Some told) (told_in entries other asked) ≡ cond (nat_eq id asked) (Some told) (cond (nat_eq e.id asked) (Some e.told) (told_in entries other asked))
      first (inl t) = rw t.1 refl
      first (inr t) = elim (told_eq e.id asked) [ inl f ↦ absurd (t.0 (sym p.here ∙ f.0)) | inr f ↦ rw (t.1, f.1) refl ]
  told_set (e ∷ entries) other id (suc place) told p asked =
      ap (cond (nat_eq e.id asked) (Some e.told)) (told_set entries other id place told (later e entries id place p) asked)
      ∙ swapped e.id id asked (Some e.told) (Some told) (told_in entries other asked) (p.first 0 (omega arith))

module _ {V : Type 0} (id : ℕ) where
  -- the list tells nothing of the id
  pub place_none : (entries : List (Entry V)) → position (λ e. nat_eq e.id id) entries ≡ None → (other : Option V) → told_in entries other id ≡ other
  place_none entries is other = go (there_or_not entries)
    where
      there_or_not : (es : List (Entry V)) → (position_or_len (λ e. nat_eq e.id id) es < length es) ⊎ (told_in es other id ≡ other)
      there_or_not [] = inr refl
      there_or_not (e ∷ es) = elim (told_eq e.id id) [
        | inl t ↦ inl (rw t.1 (omega arith))
        | inr t ↦ elim (there_or_not es) [ inl l ↦ inl (rw t.1 (omega arith)) | inr none ↦ inr (rw t.1 none) ]
      ]

      go : (position_or_len (λ e. nat_eq e.id id) entries < length entries) ⊎ (told_in entries other id ≡ other) → told_in entries other id ≡ other
      go (inr none) = none
      go (inl l) =
          let test : nat_lt (position_or_len (λ e. nat_eq e.id id) entries) (length entries) ≡ true = lt-ltb _ _ l in
          let there : Some (position_or_len (λ e. nat_eq e.id id) entries) ≡ None = sym (ap (λ t. cond t (Some (position_or_len (λ e. nat_eq e.id id) entries)) None) test) ∙ is in
          absurd (cc (there))

  pub told_pushed : (entries : List (Entry V)) (other : Option V) (told : V) → ((o : Option V) → told_in entries o id ≡ o) → (asked : ℕ)
      → told_in (entries ++ (record { id = id; told = told }) ∷ []) other asked ≡ cond (nat_eq id asked) (Some told) (told_in entries other asked)
  told_pushed [] other told none asked = refl
  told_pushed (e ∷ entries) other told none asked = elim (told_eq e.id id) [
    | inl t ↦ absurd (let f : Some e.told ≡ None = rw t.1 at (none None) in cc)
    | inr t ↦
        ap (cond (nat_eq e.id asked) (Some e.told)) (told_pushed entries other told (λ o. rw t.1 at (none o)) asked)
        ∙ swapped e.id id asked (Some e.told) (Some told) (told_in entries other asked) t.0
  ]

  -- the id is told of elsewhere
  pub told_elsewhere : (entries : List (Entry V)) (before after : Option V) (told : V) (asked : ℕ) → ((o : Option V) → told_in entries o id ≡ o) → after ≡ cond (nat_eq id asked) (Some told) before
      → told_in entries after asked ≡ cond (nat_eq id asked) (Some told) (told_in entries before asked)
  told_elsewhere entries before after told asked none is = elim (told_eq id asked) [
    | inl t ↦ (let gone : told_in entries after asked ≡ after = subst (λ a. told_in entries after a ≡ after) t.0 (none after) in rw (gone, is, t.1) refl)
    | inr t ↦ rw (is, t.1) refl
  ]
