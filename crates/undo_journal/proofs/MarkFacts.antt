-- The numbers of marks by their names, after the last mark went and after one came.
use Rattle.std.proofs.Common.{ℕ, zero, suc, true, false, ◌≡◌, ◌≢◌, ◌≤◌, ◌<◌, ◌⊎◌, List, [], ◌∷◌, ◌++◌, length, map, cond, not, Bool, Option, Some, None, IfSome, slice_get, bytes_eq, string_bytes, String, Bor, take, ◌-◌, refl, sym, ap, subst, ◌∙◌, arith, inl, inr}
use Rattle.std.specs.Option.{option_eq}
use Rattle.std.proofs.lemmas.Bool.{cases_Bool, false≢true, false_from_ne_true}
use Rattle.std.specs.declared.alloc.Global.{Global}
use Rattle.std.proofs.lemmas.List.{length-map, length-take-le, map_push, take_all, take-map, take-take}
use Rattle.std.proofs.lemmas.Option.{slice_get_within, none-some, same_Some}
use Rattle.std.proofs.lemmas.Slice.Eq.{bytes_eq-Decides}
use Rattle.trail_laws.specs.Trails.{Placed, IsMarkOf}
use Rattle.undo_journal.specs.Entries.{placed_marks, IsNumbered, IsNumberedBut}

-- a mark of a front is one of the list
further : (ms : List Placed) (m : Placed) (name : List ℕ) (k : ℕ) → IsMarkOf ms name k → IsMarkOf (ms ++ m ∷ []) name k
further [] m name k h = absurd (none-some name h)
further (n ∷ ms) m name zero h = h
further (n ∷ ms) m name (suc k) h = further ms m name k h

-- a mark of the list is one of the front, or the last
front_or_last : (ms : List Placed) (m : Placed) (name : List ℕ) (k : ℕ) → IsMarkOf (ms ++ m ∷ []) name k → IsMarkOf ms name k ⊎ ((k ≡ length ms) × (m.name ≡ name))
front_or_last [] m name zero h = inr (refl, same_Some m.name name h)
front_or_last [] m name (suc k) h = absurd (none-some name h)
front_or_last (n ∷ ms) m name zero h = inl h
front_or_last (n ∷ ms) m name (suc k) h = elim (front_or_last ms m name k h) [
  | inl front ↦ inl front
  | inr last ↦ inr (ap suc last.0, last.1)
]

at_end : (ms : List Placed) (m : Placed) → IsMarkOf (ms ++ m ∷ []) m.name (length ms)
at_end [] m = refl
at_end (n ∷ ms) m = at_end ms m

mark_within : (ms : List Placed) (name : List ℕ) (k : ℕ) → IsMarkOf ms name k → k < length ms
mark_within ms name k h = omega (arith, slice_get_within (map (λ (m : Placed). m.name) ms) k name h, length-map ms (λ (m : Placed). m.name))

same_number : (o : Option ℕ) (j k : ℕ) → o ≡ Some j → o ≡ Some k → j ≡ k
same_number o j k f g = same_Some j k (sym f ∙ g)

differs : (n q : List ℕ) → bytes_eq n q ≡ false → n ≢ q
differs n q apart same = false≢true (sym apart ∙ (bytes_eq-Decides n q).1 same)

-- the last mark goes, and its name with it
pub numbered-dropped : (spared : Option (Bor (List ℕ))) (number after : List ℕ → Option ℕ) (ms : List Placed) (m : Placed) → IsNumberedBut spared number (ms ++ m ∷ [])
    → ((q : List ℕ) → IfSome spared (λ s. s.now ≢ q) → after q ≡ cond (bytes_eq m.name q) None (number q)) → IsNumberedBut spared after ms
numbered-dropped spared number after ms m all gone q other k = elim (cases_Bool (bytes_eq m.name q)) [
  | inl alike ↦
      let same : m.name ≡ q = (bytes_eq-Decides m.name q).0 alike in
      let none : after q ≡ None = gone q other ∙ ap (λ b. cond b None (number q)) alike in
      let last : number q ≡ Some (length ms) = (all q other (length ms)).1 (subst (λ (n : List ℕ). IsMarkOf (ms ++ m ∷ []) n (length ms)) same (at_end ms m)) in (
        λ h. absurd (none-some k (sym none ∙ h)),
        λ h. absurd (omega (arith, mark_within ms q k h, same_number (number q) k (length ms) ((all q other k).1 (further ms m q k h)) last)),
      )
  | inr apart ↦
      let as_before : after q ≡ number q = gone q other ∙ ap (λ b. cond b None (number q)) apart in (
        λ h. elim (front_or_last ms m q k ((all q other k).0 (sym as_before ∙ h))) [
          | inl front ↦ front
          | inr last ↦ absurd (differs m.name q apart last.1)
        ],
        λ h. as_before ∙ (all q other k).1 (further ms m q k h),
      )
]

-- a mark of a new name comes, whose number was told before
pub numbered-added : (name : Bor (List ℕ)) (number : List ℕ → Option ℕ) (ms : List Placed) (place : ℕ) → IsNumberedBut (Some name) number ms
    → number name.now ≡ Some (length ms) → ((k : ℕ) → IsMarkOf ms name.now k → ⊥) → IsNumbered number (ms ++ record { name = name.now; place = place } ∷ [])
numbered-added name number ms place all told new q k =
    let m : Placed = record { name = name.now; place = place } in
    elim (cases_Bool (bytes_eq name.now q)) [
      | inl alike ↦
          let same : name.now ≡ q = (bytes_eq-Decides name.now q).0 alike in
          let here : number q ≡ Some (length ms) = subst (λ (n : List ℕ). number n ≡ Some (length ms)) same told in (
            λ h. subst (λ (j : ℕ). IsMarkOf (ms ++ m ∷ []) q j) (same_number (number q) (length ms) k here h)
                (subst (λ (n : List ℕ). IsMarkOf (ms ++ m ∷ []) n (length ms)) same (at_end ms m)),
            λ h. elim (front_or_last ms m q k h) [
              | inl front ↦ absurd (new k (subst (λ (n : List ℕ). IsMarkOf ms n k) (sym same) front))
              | inr last ↦ here ∙ ap Some (sym last.0)
            ],
          )
      | inr apart ↦
          let other = differs name.now q apart in (
            λ h. further ms m q k ((all q other k).0 h),
            λ h. elim (front_or_last ms m q k h) [
              | inl front ↦ (all q other k).1 front
              | inr last ↦ absurd (other last.1)
            ],
          )
    ]

-- a number is told for a name, whatever number it had
pub numbered-told : (name : Bor (List ℕ)) (number after : List ℕ → Option ℕ) (ms : List Placed) (n : ℕ) → IsNumbered number ms
    → ((q : List ℕ) → after q ≡ cond (bytes_eq name.now q) (Some n) (number q)) → IsNumberedBut (Some name) after ms
numbered-told name number after ms n all told q other k = elim (cases_Bool (bytes_eq name.now q)) [
  | inl alike ↦ absurd (other ((bytes_eq-Decides name.now q).0 alike))
  | inr apart ↦
      let as_before : after q ≡ number q = told q ∙ ap (λ b. cond b (Some n) (number q)) apart in
      (λ h. (all q k).0 (sym as_before ∙ h), λ h. as_before ∙ (all q k).1 h)
]

-- the same of entries
pub numbered-popped : (spared : Option (Bor (List ℕ))) (number after : List ℕ → Option ℕ) (es now : List (String Global × ℕ)) (name : String Global) (place : ℕ) → es ≡ now ++ (name, place) ∷ []
    → IsNumberedBut spared number (placed_marks es) → ((q : List ℕ) → IfSome spared (λ s. s.now ≢ q) → after q ≡ cond (bytes_eq (string_bytes name) q) None (number q))
    → IsNumberedBut spared after (placed_marks now)
numbered-popped spared number after es now name place whole all gone =
    let shown = λ (e : String Global × ℕ). (let m : Placed = record { name = string_bytes e.0; place = e.1 } in m) in
    let split : placed_marks es ≡ placed_marks now ++ record { name = string_bytes name; place = place } ∷ [] = ap placed_marks whole ∙ map_push shown now (name, place) in
    numbered-dropped spared number after (placed_marks now) (record { name = string_bytes name; place = place }) (subst (IsNumberedBut spared number) split all) gone

-- whether the spared name is this one
abbrev pub is_spared : Option (Bor (List ℕ)) → Bor (List ℕ) → Bool
is_spared spared name = option_eq (λ (x y : Bor (List ℕ)). bytes_eq x.now y.now) spared (Some name)

pub true_not : (b : Bool) → true ≡ not b → b ≡ false
true_not true h = absurd (false≢true (sym h))
true_not false h = refl

pub false_not : (b : Bool) → false ≡ not b → b ≡ true
false_not true h = refl
false_not false h = absurd (false≢true h)

-- where a name that is not spared goes, the number of the spared name stays
pub other_stays : (spared : Option (Bor (List ℕ))) (name : Bor (List ℕ)) (number after : List ℕ → Option ℕ) → is_spared spared name ≡ false
    → ((q : List ℕ) → after q ≡ cond (bytes_eq name.now q) None (number q)) → IfSome spared (λ s. after s.now ≡ number s.now)
other_stays None name number after other gone = tt
other_stays (Some s) name number after other gone =
    let apart : bytes_eq name.now s.now ≡ false =
    false_from_ne_true (bytes_eq name.now s.now) (λ alike. differs s.now name.now other (sym ((bytes_eq-Decides name.now s.now).0 alike))) in
    gone s.now ∙ ap (λ b. cond b None (number s.now)) apart

-- where a name is spared, no other name goes
pub spared_stays : (spared : Option (Bor (List ℕ))) (name : Bor (List ℕ)) → is_spared spared name ≡ true
    → (q : List ℕ) → IfSome spared (λ s. s.now ≢ q) → (o : Option ℕ) → o ≡ cond (bytes_eq name.now q) None o
spared_stays None name is q other o = absurd (false≢true is)
spared_stays (Some s) name is q other o =
    let apart : bytes_eq name.now q ≡ false =
    false_from_ne_true (bytes_eq name.now q) (λ alike. other ((bytes_eq-Decides s.now name.now).0 is ∙ (bytes_eq-Decides name.now q).0 alike)) in
    ap (λ b. cond b None o) (sym apart)

-- some of the last entries went, with their names but for the one that is spared, and none of the first that are kept
pub record IsCut (spared : Option (Bor (List ℕ))) (kept : ℕ) (es : List (String Global × ℕ)) (number : List ℕ → Option ℕ) (now : List (String Global × ℕ)) (after : List ℕ → Option ℕ) : Type 0 where
  pub front : take kept now ≡ take kept es
  pub numbered : IsNumberedBut spared after (placed_marks now)
  pub stays : IfSome spared (λ s. after s.now ≡ number s.now)

same_stays : (spared : Option (Bor (List ℕ))) (number : List ℕ → Option ℕ) → IfSome spared (λ s. number s.now ≡ number s.now)
same_stays None number = tt
same_stays (Some s) number = refl

then_stays : (spared : Option (Bor (List ℕ))) (number after last : List ℕ → Option ℕ) → IfSome spared (λ s. after s.now ≡ number s.now)
    → IfSome spared (λ s. last s.now ≡ after s.now) → IfSome spared (λ s. last s.now ≡ number s.now)
then_stays None number after last f g = tt
then_stays (Some s) number after last f g = g ∙ f

pub cut-none : (spared : Option (Bor (List ℕ))) (kept : ℕ) (es : List (String Global × ℕ)) (number : List ℕ → Option ℕ) → IsNumberedBut spared number (placed_marks es)
    → IsCut spared kept es number es number
cut-none spared kept es number all = record { front = refl; numbered = all; stays = same_stays spared number }

pub cut-more : (spared : Option (Bor (List ℕ))) (kept : ℕ) (es now next : List (String Global × ℕ)) (number after last : List ℕ → Option ℕ) → IsCut spared kept es number now after
    → kept < length now → next ≡ take (length now - 1) now → IsNumberedBut spared last (placed_marks next) → IfSome spared (λ s. last s.now ≡ after s.now)
    → IsCut spared kept es number next last
cut-more spared kept es now next number after last cut more front all stays = record {
  front = ap (take kept) front ∙ take-take kept (length now - 1) now (omega arith) ∙ cut.front;
  numbered = all;
  stays = then_stays spared number after last cut.stays stays;
}

pub cut-all : (spared : Option (Bor (List ℕ))) (kept : ℕ) (es now : List (String Global × ℕ)) (number after : List ℕ → Option ℕ) → IsCut spared kept es number now after
    → length now ≤ kept → now ≡ take kept es
cut-all spared kept es now number after cut all = sym (take_all kept now all) ∙ cut.front

-- the marks of a front
pub front_marks : (es : List (String Global × ℕ)) (kept : ℕ) → placed_marks (take kept es) ≡ take kept (placed_marks es)
front_marks es kept = sym (take-map (λ (e : String Global × ℕ). (let m : Placed = record { name = string_bytes e.0; place = e.1 } in m)) kept es)

-- the entries that are kept, with an entry of a new name behind them
module _ (name : Bor (List ℕ)) (es cut now : List (String Global × ℕ)) (kept : ℕ) (key : String Global) (place : ℕ) (named : string_bytes key ≡ name.now) (front : cut ≡ take kept es)
    (more : now ≡ cut ++ (key, place) ∷ []) where
  kept_marks : placed_marks cut ≡ take kept (placed_marks es)
  kept_marks = ap placed_marks front ∙ front_marks es kept

  with_new : placed_marks now ≡ placed_marks cut ++ record { name = name.now; place = place } ∷ []
  with_new =
      let shown = λ (e : String Global × ℕ). (let m : Placed = record { name = string_bytes e.0; place = e.1 } in m) in
      ap placed_marks more ∙ map_push shown cut (key, place) ∙ ap (λ n. placed_marks cut ++ record { name = n; place = place } ∷ []) named

  pub marks_replaced : placed_marks now ≡ take kept (placed_marks es) ++ record { name = name.now; place = place } ∷ []
  marks_replaced = with_new ∙ ap (λ ms. ms ++ record { name = name.now; place = place } ∷ []) kept_marks

  pub numbered-replaced : (after : List ℕ → Option ℕ) → kept ≤ length (placed_marks es) → ((k : ℕ) → IsMarkOf (take kept (placed_marks es)) name.now k → ⊥)
      → IsNumberedBut (Some name) after (placed_marks cut) → after name.now ≡ Some kept → IsNumbered after (placed_marks now)
  numbered-replaced after within new all told =
      let long : kept ≡ length (placed_marks cut) = sym (ap length kept_marks ∙ length-take-le kept (placed_marks es) within) in
      let fresh : (k : ℕ) → IsMarkOf (placed_marks cut) name.now k → ⊥ = subst (λ (ms : List Placed). (k : ℕ) → IsMarkOf ms name.now k → ⊥) (sym kept_marks) new in
      subst (IsNumbered after) (sym with_new) (numbered-added name after (placed_marks cut) place all (told ∙ ap Some long) fresh)

-- what a name's number is after it was told
pub told_number : (name : List ℕ) (n : ℕ) (number after : List ℕ → Option ℕ) → ((q : List ℕ) → after q ≡ cond (bytes_eq name q) (Some n) (number q)) → after name ≡ Some n
told_number name n number after told = told name ∙ ap (λ b. cond b (Some n) (number name)) ((bytes_eq-Decides name name).1 refl)

-- what an entry says of its mark
pub entry_name : (es : List (String Global × ℕ)) (k : ℕ) (e : String Global × ℕ) → slice_get es k ≡ Some e → IsMarkOf (placed_marks es) (string_bytes e.0) k
entry_name [] k e h = absurd (none-some e h)
entry_name (x ∷ es) zero e h = ap (λ (y : String Global × ℕ). Some (string_bytes y.0)) (same_Some x e h)
entry_name (x ∷ es) (suc k) e h = entry_name es k e h

pub entry_place : (es : List (String Global × ℕ)) (k : ℕ) (e : String Global × ℕ) → slice_get es k ≡ Some e → slice_get (map (λ (m : Placed). m.place) (placed_marks es)) k ≡ Some e.1
entry_place [] k e h = absurd (none-some e h)
entry_place (x ∷ es) zero e h = ap (λ (y : String Global × ℕ). Some y.1) (same_Some x e h)
entry_place (x ∷ es) (suc k) e h = entry_place es k e h

pub as_many : (es : List (String Global × ℕ)) → length (placed_marks es) ≡ length es
as_many es = length-map es (λ (e : String Global × ℕ). (let m : Placed = record { name = string_bytes e.0; place = e.1 } in m))
