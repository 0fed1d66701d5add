-- Lists of changes by the entries that they write, put together.
use Rattle.std.proofs.Common.{ℕ, zero, suc, ◌≡◌, ◌⊎◌, ◌↔◌, List, [], ◌∷◌, ◌++◌, get_or, Contains, refl, sym, ap, inl, inr, arith}
use Rattle.std.specs.List.{AllPairs}
use Rattle.std.proofs.lemmas.List.Kept.{AllPairs-cons}
use Rattle.std.proofs.lemmas.List.Elements.{All-append, Contains-get_or, Contains-append_left, Contains-append_right, Contains-append_cases}
use Rattle.map_defs.specs.Links.{Links}
use Rattle.map_defs.specs.Edits.{Change}
use Rattle.cell_edit.specs.Writing.{WritesEntries}

-- two changes with the same fields are one
pub change_one : (b c : Change) → b.dart ≡ c.dart → b.link ≡ c.link → b.old ≡ c.old → b.new ≡ c.new → b ≡ c
change_one b c dart link old new =
    let f : ℕ → ℕ → ℕ → ℕ → Change = λ d t o y. record { dart = d; link = t; old = o; new = y } in
    let e : f b.dart b.link b.old b.new ≡ f c.dart c.link c.old c.new = cc in e

-- each of the former and each of the latter
pub all_pairs_append : {X : Type 0} (R : X → X → Type 0) (xs ys : List X) → AllPairs R xs → AllPairs R ys → ((x y : X) → Contains xs x → Contains ys y → R x y) → AllPairs R (xs ++ ys)
all_pairs_append R [] ys first then across = then
all_pairs_append R (x ∷ xs) ys first then across =
    AllPairs-cons R x (xs ++ ys)
    (All-append (R x) xs ys (λ k d h. first 0 (suc k) d (omega arith) (omega arith)) (λ k d h. across x (get_or ys k d) (0, omega arith, refl) (Contains-get_or ys k d h)))
    (all_pairs_append R xs ys (λ i j d a b. first (suc i) (suc j) d (omega arith) (omega arith)) then (λ u v has had. across u v (later u has) had))
  where
    later : (u : _) → Contains xs u → Contains (x ∷ xs) u
    later u has = (suc has.0, omega (arith, has.1), has.2)

pub writes-none : (L : Links) (Entry : ℕ → ℕ → ℕ → Type 0) → ((d t y : ℕ) → Entry d t y → ⊥) → WritesEntries L Entry []
writes-none L Entry none = record {
  same = λ c. (λ has. absurd (omega (arith, has.1)), λ entry. absurd (none c.dart c.link c.new entry.0));
  once = λ i j d low within. absurd (omega arith);
}

pub writes-one : (L : Links) (c : Change) → c.old ≡ L c.link c.dart → WritesEntries L (λ d t y. (d ≡ c.dart) × (t ≡ c.link) × (y ≡ c.new)) (c ∷ [])
writes-one L c old = record {
  same = λ b. (to b, λ entry. from b entry.0.0 entry.0.1 entry.0.2 entry.1);
  once = λ i j d low within. absurd (omega arith);
}
  where
    to : (b : Change) → Contains (c ∷ []) b → ((b.dart ≡ c.dart) × (b.link ≡ c.link) × (b.new ≡ c.new)) × (b.old ≡ L b.link b.dart)
    to b (zero, low, is) = ((ap (λ (a : Change). a.dart) (sym is), ap (λ (a : Change). a.link) (sym is), ap (λ (a : Change). a.new) (sym is)), rw is at old)
    to b (suc p, low, is) = absurd (omega arith)

    from : (b : Change) → b.dart ≡ c.dart → b.link ≡ c.link → b.new ≡ c.new → b.old ≡ L b.link b.dart → Contains (c ∷ []) b
    from b dart link new stands =
        let same_old : b.old ≡ c.old = cc in
        (0, omega arith, sym (change_one b c dart link same_old new))

pub writes-append : (L : Links) (E F : ℕ → ℕ → ℕ → Type 0) (a b : List Change) → ((d t y z : ℕ) → E d t y → F d t z → ⊥) → WritesEntries L E a → WritesEntries L F b
    → WritesEntries L (λ d t y. E d t y ⊎ F d t y) (a ++ b)
writes-append L E F a b apart first then = record {
  same = λ c. (λ has. to c (Contains-append_cases a b c has), λ entry. from c entry.0 entry.1);
  once = all_pairs_append (λ (c d : Change). c.dart ≡ d.dart → c.link ≡ d.link → ⊥) a b first.once then.once across;
}
  where
    to : (c : Change) → Contains a c ⊎ Contains b c → (E c.dart c.link c.new ⊎ F c.dart c.link c.new) × (c.old ≡ L c.link c.dart)
    to c (inl has) = let e = (first.same c).0 has in (inl e.0, e.1)
    to c (inr has) = let e = (then.same c).0 has in (inr e.0, e.1)

    from : (c : Change) → E c.dart c.link c.new ⊎ F c.dart c.link c.new → c.old ≡ L c.link c.dart → Contains (a ++ b) c
    from c (inl e) old = Contains-append_left a b c ((first.same c).1 (e, old))
    from c (inr e) old = Contains-append_right a b c ((then.same c).1 (e, old))

    across : (c d : Change) → Contains a c → Contains b d → c.dart ≡ d.dart → c.link ≡ d.link → ⊥
    across c d has had dart link =
        let e = ((first.same c).0 has).0 in
        apart d.dart d.link c.new d.new (rw (dart, link) at e) ((then.same d).0 had).0

pub writes-same : (L : Links) (E F : ℕ → ℕ → ℕ → Type 0) (cs : List Change) → ((d t y : ℕ) → E d t y ↔ F d t y) → WritesEntries L E cs → WritesEntries L F cs
writes-same L E F cs same writes = record {
  same = λ c. (
    λ has. let e = (writes.same c).0 has in ((same c.dart c.link c.new).0 e.0, e.1),
    λ entry. (writes.same c).1 ((same c.dart c.link c.new).1 entry.0, entry.1),
  );
  once = writes.once;
}
