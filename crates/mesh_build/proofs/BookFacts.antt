-- What the book keeps when a side is added.
use Rattle.std.proofs.Common.{◌≡◌, ◌≢◌, ℕ, ◌+◌, ◌<◌, min, max, Bool, true, false, cond, ◌&&◌, ◌==◌, List, [], ◌∷◌, ◌++◌, length, set, filter, Option, Some, None, is_some, refl, sym, ap, subst, ◌∙◌, ◌⊎◌, inl, inr, eq-eqb, Result, Ok, Err, arith}
use Rattle.std.specs.HashMap as hash
use Rattle.std.proofs.lemmas.Bool.{cases_Bool, false≢true}
use Rattle.std.specs.Prelude.{OnOk, IfErr}
use Rattle.mesh_build.specs.declared.fault.MeshFault.{MeshFault}
use Rattle.mesh_build.specs.declared.fault.MeshFault.TheVariants as told
use Rattle.std.proofs.lemmas.List.{get_or_append_left, get_or_push, length_push, length-set, get_or-set_same, get_or-set_other}
use Rattle.map_defs.specs.Kind.{Kind}
use Rattle.map_defs.specs.MeshMap.{Side, MapFault, ThreeSides, Turned, is_between, has_ends, side_fault}
use Rattle.mesh_build.specs.Sides.{Fails}
use Rattle.mesh_laws.specs.Sides.{side_of, partner_of, kind_of}
use Rattle.mesh_laws.proofs.Filtered.{found_at, not-true, oriented-is, between-ends, numbered-on, filter-more, filter-same, ends-of}
use Rattle.mesh_build.specs.Books.{Last, pair_eq, last_at, KeepsEdge, Keeps}

module _ (o : Bool) where
  -- the faults, by what the book has

  pub fault-none : (k : Kind) (face : ℕ) (s : Side) (partners : List (Option ℕ)) (last : Option ℕ) (met : List Side) → KeepsEdge o partners last met → last ≡ None → side_fault k face s met ≡ None
  fault-none k face s partners last [] h e = refl
  fault-none k face s partners last (a ∷ []) h e = let first = h.0 in absurd (cc)
  fault-none k face s partners last (a ∷ b ∷ []) h e = let first = h.0 in absurd (cc)
  fault-none k face s partners last (a ∷ b ∷ c ∷ more) h e = absurd h

  pub met-none : (partners : List (Option ℕ)) (last : Option ℕ) (met : List Side) → KeepsEdge o partners last met → last ≡ None → met ≡ []
  met-none partners last [] h e = refl
  met-none partners last (a ∷ []) h e = let first = h.0 in absurd (cc)
  met-none partners last (a ∷ b ∷ []) h e = let first = h.0 in absurd (cc)
  met-none partners last (a ∷ b ∷ c ∷ more) h e = absurd h

  some-is : (m n : ℕ) → Some m ≡ Some n → m ≡ n
  some-is m n e = cc

  pub fault-three : (k : Kind) (face : ℕ) (s : Side) (partners : List (Option ℕ)) (n : ℕ) (met : List Side) → KeepsEdge o partners (Some n) met → is_some (partner_of partners n) ≡ true
      → side_fault k face s met ≡ Some (ThreeSides face)
  fault-three k face s partners n [] h e = absurd (cc)
  fault-three k face s partners n (a ∷ []) h e =
      let same : n ≡ a.number = some-is n a.number h.0 in
      let none : partner_of partners n ≡ None = ap (partner_of partners) same ∙ h.1 in
      absurd (false≢true (sym (ap is_some none) ∙ e))
  fault-three k face s partners n (a ∷ b ∷ []) h e = refl
  fault-three k face s partners n (a ∷ b ∷ c ∷ more) h e = absurd h

  -- the one side that stands between two points
  pub the-one : (partners : List (Option ℕ)) (n : ℕ) (met : List Side) → KeepsEdge o partners (Some n) met → is_some (partner_of partners n) ≡ false → (a : Side) × (met ≡ a ∷ []) × (a.number ≡ n)
  the-one partners n [] h e = absurd (cc)
  the-one partners n (a ∷ []) h e = (a, refl, sym (some-is n a.number h.0))
  the-one partners n (a ∷ b ∷ []) h e =
      let same : n ≡ b.number = some-is n b.number h.0 in
      let some : partner_of partners n ≡ Some a.number = ap (partner_of partners) same ∙ h.2 in
      absurd (false≢true (sym e ∙ ap is_some some))
  the-one partners n (a ∷ b ∷ c ∷ more) h e = absurd h

  -- what is kept between two points, where the partners of these sides stay
  KeepsEdge-same : (partners others : List (Option ℕ)) (last : Option ℕ) (met : List Side) → ((i : ℕ) → i < length met → partner_of others (side_of met i).number ≡ partner_of partners (side_of met i).number)
      → KeepsEdge o partners last met → KeepsEdge o others last met
  KeepsEdge-same partners others last [] same h = h
  KeepsEdge-same partners others last (a ∷ []) same h = (h.0, same 0 (omega arith) ∙ h.1)
  KeepsEdge-same partners others last (a ∷ b ∷ []) same h = (h.0, same 0 (omega arith) ∙ h.1, same 1 (omega arith) ∙ h.2, h.3, h.4)
  KeepsEdge-same partners others last (a ∷ b ∷ c ∷ more) same h = h

-- A side is added, and what is kept between its two points is known.
pub added : (o : Bool) (last next : Last) (partners others : List (Option ℕ)) (sides : List Side) (s : Side) → Keeps o last partners sides → s.number ≡ length sides
    → length others ≡ length partners + 1
    → ((q : ℕ × ℕ) → pair_eq (min s.from s.to, max s.from s.to) q ≡ false → hash.get pair_eq next q ≡ hash.get pair_eq last q)
    → KeepsEdge o others (last_at next (min s.from s.to) (max s.from s.to)) (filter (has_ends s) sides ++ s ∷ [])
    → ((i : ℕ) → i < length sides → has_ends s (side_of sides i) ≡ false → partner_of others i ≡ partner_of partners i)
    → Keeps o next others (sides ++ s ∷ [])
added o last next partners others sides s kept number long apart here there = record {
  long = omega (arith, kept.long, length_push sides s);
  numbers = numbered-on sides s kept.numbers number;
  edges = λ low high. edge low high (cases_Bool (is_between low high s));
}
  where
    edge : (low high : ℕ) → (is_between low high s ≡ true) ⊎ (is_between low high s ≡ false) → KeepsEdge o others (last_at next low high) (filter (is_between low high) (sides ++ s ∷ []))
    edge low high (inl e) =
        let ends = ends-of low high s e in
        let P : ℕ → ℕ → Type 0 = λ m n. KeepsEdge o others (last_at next m n) (filter (is_between m n) sides ++ s ∷ []) in
        let there_l : P low (max s.from s.to) = subst (λ (m : ℕ). P m (max s.from s.to)) ends.0 here in
        rw (filter-more (is_between low high) sides s e) (subst (λ (n : ℕ). P low n) ends.1 there_l)
    edge low high (inr e) =
        let met : List Side = filter (is_between low high) sides in
        let same : (i : ℕ) → i < length met → partner_of others (side_of met i).number ≡ partner_of partners (side_of met i).number = λ i h.
        let f = found_at (is_between low high) sides i h in
        let at : (side_of met i).number ≡ f.0 = ap (λ (x : Side). x.number) (sym f.2) ∙ kept.numbers f.0 f.1 in
        let between : is_between low high (side_of sides f.0) ≡ true = ap (is_between low high) f.2 ∙ f.3 in
        let other : has_ends s (side_of sides f.0) ≡ false = not-true (has_ends s (side_of sides f.0)) (λ t. false≢true (sym e ∙ between-ends low high s (side_of sides f.0) between t)) in
        ap (partner_of others) at ∙ (there f.0 f.1 other ∙ sym (ap (partner_of partners) at)) in
        rw (filter-same (is_between low high) sides s e, apart (low, high) e) (KeepsEdge-same o partners others (last_at last low high) met same (kept.edges low high))

-- the last side between two points is one of the sides
last-stands : (o : Bool) (partners : List (Option ℕ)) (n : ℕ) (met : List Side) → KeepsEdge o partners (Some n) met → (i : ℕ) × (i < length met) × ((side_of met i).number ≡ n)
last-stands o partners n [] h = absurd (cc)
last-stands o partners n (a ∷ []) h = (0, omega arith, sym (some-is o n a.number h.0))
last-stands o partners n (a ∷ b ∷ []) h = (1, omega arith, sym (some-is o n b.number h.0))
last-stands o partners n (a ∷ b ∷ c ∷ more) h = absurd h

abbrev pub met_by : Side → List Side → List Side
met_by s sides = filter (has_ends s) sides

abbrev pub last_of : Last → Side → Option ℕ
last_of last s = last_at last (min s.from s.to) (max s.from s.to)

module _ (o : Bool) (last : Last) (partners : List (Option ℕ)) (sides : List Side) (kept : Keeps o last partners sides) (s : Side) where
  pub at-edge : (l : Option ℕ) → last_of last s ≡ l → KeepsEdge o partners l (met_by s sides)
  at-edge l e = subst (λ (l : Option ℕ). KeepsEdge o partners l (met_by s sides)) e (kept.edges (min s.from s.to) (max s.from s.to))

  pub stands : (n : ℕ) → last_of last s ≡ Some n → n < length sides
  stands n e =
      let at = last-stands o partners n (met_by s sides) (at-edge (Some n) e) in
      let f = found_at (has_ends s) sides at.0 at.1 in
      let number : f.0 ≡ n = sym (kept.numbers f.0 f.1) ∙ (ap (λ (x : Side). x.number) f.2 ∙ at.2) in
      subst (λ (m : ℕ). m < length sides) number f.1

  -- the one side that stands there is that of its number
  pub one-stands : (n : ℕ) → last_of last s ≡ Some n → is_some (partner_of partners n) ≡ false → met_by s sides ≡ side_of sides n ∷ []
  one-stands n e none =
      let one = the-one o partners n (met_by s sides) (at-edge (Some n) e) none in
      let within : 0 < length (met_by s sides) = rw one.1 (omega arith) in
      let f = found_at (has_ends s) sides 0 within in
      let first : side_of (met_by s sides) 0 ≡ one.0 = ap (λ (xs : List Side). side_of xs 0) one.1 in
      let number : f.0 ≡ n = sym (kept.numbers f.0 f.1) ∙ (ap (λ (x : Side). x.number) (f.2 ∙ first) ∙ one.2) in
      one.1 ∙ ap (λ (x : Side). x ∷ []) (sym (f.2 ∙ first) ∙ ap (side_of sides) number)

  pub fault-turned : (face n : ℕ) (b : Bool) → last_of last s ≡ Some n → is_some (partner_of partners n) ≡ false → (o && ((side_of sides n).from == s.from)) ≡ b
      → side_fault (kind_of o) face s (met_by s sides) ≡ cond b (Some (Turned face)) None
  fault-turned face n b e none test =
      ap (side_fault (kind_of o) face s) (one-stands n e none) ∙ (ap (λ (t : Bool). cond (t && ((side_of sides n).from == s.from)) (Some (Turned face)) None) (oriented-is o) ∙ ap (λ (t : Bool). cond t (Some (Turned face)) None) test)

  -- a first side between its two points
  pub added-alone : (next : Last) → s.number ≡ length sides → last_of last s ≡ None → last_of next s ≡ Some s.number
      → ((q : ℕ × ℕ) → pair_eq (min s.from s.to, max s.from s.to) q ≡ false → hash.get pair_eq next q ≡ hash.get pair_eq last q)
      → Keeps o next (partners ++ None ∷ []) (sides ++ s ∷ [])
  added-alone next number none now apart =
      let alone : met_by s sides ≡ [] = met-none o partners None (met_by s sides) (at-edge None none) refl in
      added o last next partners (partners ++ None ∷ []) sides s kept number (length_push partners None) apart
      (rw alone (now, get_or_push partners None None s.number (omega (arith, kept.long))))
      (λ i h e. get_or_append_left partners (None ∷ []) None i (omega (arith, kept.long)))

  -- a second side, which is sewn to the first
  pub added-sewn : (next : Last) (n : ℕ) → s.number ≡ length sides → last_of last s ≡ Some n → is_some (partner_of partners n) ≡ false → (o && ((side_of sides n).from == s.from)) ≡ false
      → last_of next s ≡ Some s.number → ((q : ℕ × ℕ) → pair_eq (min s.from s.to, max s.from s.to) q ≡ false → hash.get pair_eq next q ≡ hash.get pair_eq last q)
      → Keeps o next (set partners n (Some s.number) ++ Some n ∷ []) (sides ++ s ∷ [])
  added-sewn next n number old none test now apart =
      let met : met_by s sides ≡ side_of sides n ∷ [] = one-stands n old none in
      let within : n < length sides = stands n old in
      let long : length (set partners n (Some s.number)) ≡ length partners = length-set partners n (Some s.number) in
      let other : n ≢ s.number = λ e. absurd (omega arith) in
      let its : (side_of sides n).number ≡ n = kept.numbers n within in
      let first : partner_of (set partners n (Some s.number) ++ Some n ∷ []) n ≡ Some s.number =
      get_or_append_left (set partners n (Some s.number)) (Some n ∷ []) None n (omega (arith, kept.long, long)) ∙ get_or-set_same partners n (Some s.number) None (omega (arith, kept.long)) in
      let second : partner_of (set partners n (Some s.number) ++ Some n ∷ []) s.number ≡ Some n = get_or_push (set partners n (Some s.number)) (Some n) None s.number (omega (arith, kept.long, long)) in
      added o last next partners (set partners n (Some s.number) ++ Some n ∷ []) sides s kept number (omega (arith, length_push (set partners n (Some s.number)) (Some n), long)) apart
      (rw met (
        now,
        ap (partner_of (set partners n (Some s.number) ++ Some n ∷ [])) its ∙ first,
        second ∙ ap (λ (m : ℕ). Some m) (sym its),
        omega arith,
        λ turned same. false≢true (sym test ∙ rw (turned, eq-eqb (side_of sides n).from s.from same) refl),
      ))
      (λ i h e.
      let apart_i : i ≢ n = λ same. false≢true (sym e ∙ (ap (λ (m : ℕ). has_ends s (side_of sides m)) same ∙ ends-met n old none)) in
      get_or_append_left (set partners n (Some s.number)) (Some n ∷ []) None i (omega (arith, kept.long, long)) ∙ get_or-set_other partners n i (Some s.number) None apart_i)
    where
      ends-met : (n : ℕ) → last_of last s ≡ Some n → is_some (partner_of partners n) ≡ false → has_ends s (side_of sides n) ≡ true
      ends-met n old none =
          let met : met_by s sides ≡ side_of sides n ∷ [] = one-stands n old none in
          let f = found_at (has_ends s) sides 0 (rw met (omega arith)) in
          ap (has_ends s) (sym (ap (λ (xs : List Side). side_of xs 0) met)) ∙ f.3

pub on_ok : {A E P Q R : Type 0} (r : Result A E) → OnOk r P → OnOk r Q → (P → Q → R) → OnOk r R
on_ok (Ok x) p q f = f p q
on_ok (Err e) p q f = tt

-- what the map of edges has after an insert, by the points of the side
pub now-of : (next : Last) (key edge : ℕ × ℕ) (n : ℕ) → key ≡ edge → hash.get pair_eq next key ≡ Some n → hash.get pair_eq next edge ≡ Some n
now-of next key edge n same h = subst (λ (k : ℕ × ℕ). hash.get pair_eq next k ≡ Some n) same h

pub apart-of : (last next : Last) (key edge : ℕ × ℕ) → key ≡ edge → ((q : ℕ × ℕ) → pair_eq key q ≡ false → hash.get pair_eq next q ≡ hash.get pair_eq last q)
    → (q : ℕ × ℕ) → pair_eq edge q ≡ false → hash.get pair_eq next q ≡ hash.get pair_eq last q
apart-of last next key edge same h q e = h q (ap (λ (k : ℕ × ℕ). pair_eq k q) same ∙ e)

-- want of memory is free
pub fails-none : {A : Type 0} (r : Result A MeshFault) (fault : Option MapFault) → IfErr r (λ f. f ≡ told.NoMemory) → fault ≡ None → Fails r fault
fails-none (Ok x) fault h none = none
fails-none {A = A} (Err f) fault h none = subst (λ (g : MeshFault). Fails {A = A} (Err g) fault) (sym h) tt
