-- A line that words tell fits its call: a face has a path of 1 to 4096 numbers, and a mark has a name.
use Rattle.std.proofs.Common.{◌≡◌, ℕ, suc, ◌≤◌, List, [], ◌∷◌, length, Option, Some, None, Bool, true, false, cond, option_map, refl, sym, ap, ◌∙◌, subst, ◌&&◌, nat_le, arith}
use Rattle.std.specs.Prelude.{codes}
use Rattle.std.specs.List.{list_all}
use Rattle.std.specs.Str.{bytes_eq}
use Rattle.std.proofs.lemmas.Bool.{and_parts, leb-true}
use Rattle.std.proofs.lemmas.Option.{option_and_then_some}
use Rattle.machine_defs.specs.Script.{Line, Rule, Set, Face, Mark, Undo, Redo, Log, is_name, numeral, numerals, name, value, found, alone, with_one, with_two, with_three, numbers_line, face_line, rule_line, set_line, only_name, line_with, line_of}
use Rattle.map_defs.specs.TextWords.{is_text}

abbrev IsFit : Line → Type 0
IsFit (Face path) = (1 ≤ length path) × (length path ≤ 4096)
IsFit (Mark word) = is_name word ≡ true
IsFit line = Unit {0}

-- each row of a table has it
abbrev AllRows : {A : Type 0} → (A → Type 0) → List (List ℕ × A) → Type 0
AllRows P [] = Unit {0}
AllRows P (row ∷ rows) = P row.1 × AllRows P rows

some-is : {A : Type 0} (x y : A) → Some x ≡ Some y → x ≡ y
some-is x y e = cc

found-all : {A : Type 0} (P : A → Type 0) (word : List ℕ) (rows : List (List ℕ × A)) → AllRows P rows → (x : A) → found word rows ≡ Some x → P x
found-all P word [] all x e = absurd (cc (e))
found-all P word (row ∷ rows) all x e = go (bytes_eq word row.0) (found-all P word rows all.1 x) e
  where
    go : (b : Bool) → (found word rows ≡ Some x → P x) → cond b (Some row.1) (found word rows) ≡ Some x → P x
    go true later is = subst P (some-is row.1 x is) all.0
    go false later is = later is

-- a line made of what an option holds
mapped : {A : Type 0} (f : A → Line) (o : Option A) (line : Line) → ((x : A) → o ≡ Some x → IsFit (f x)) → option_map f o ≡ Some line → IsFit line
mapped f None line fit e = absurd (cc (e))
mapped f (Some x) line fit e = subst IsFit (some-is (f x) line e) (fit x refl)

alone-fit : AllRows IsFit alone
alone-fit = (tt, (tt, (tt, (tt, (tt, tt)))))

abbrev IsFitOne : (ℕ → Line) → Type 0
IsFitOne f = (a : ℕ) → IsFit (f a)

abbrev IsFitTwo : (ℕ → ℕ → Line) → Type 0
IsFitTwo f = (a b : ℕ) → IsFit (f a b)

abbrev IsFitThree : (ℕ → ℕ → ℕ → Line) → Type 0
IsFitThree f = (a b c : ℕ) → IsFit (f a b c)

one-fit : AllRows IsFitOne with_one
one-fit = (λ a. tt, (λ a. tt, (λ a. tt, (λ a. tt, (λ a. tt, (λ a. tt, tt))))))

two-fit : AllRows IsFitTwo with_two
two-fit = (λ a b. tt, (λ a b. tt, (λ a b. tt, (λ a b. tt, (λ a b. tt, (λ a b. tt, (λ a b. tt, (λ a b. tt, (λ a b. tt, (λ a b. tt, tt))))))))))

three-fit : AllRows IsFitThree with_three
three-fit = (λ a b c. tt, (λ a b c. tt, (λ a b c. tt, tt)))

numbers-fit : (first numbers : List ℕ) (line : Line) → numbers_line first numbers ≡ Some line → IsFit line
numbers-fit first [] line e = found-all IsFit first alone alone-fit line e
numbers-fit first (a ∷ []) line e = mapped (λ make. make a) (found first with_one) line (λ f is. found-all IsFitOne first with_one one-fit f is a) e
numbers-fit first (a ∷ b ∷ []) line e = mapped (λ make. make a b) (found first with_two) line (λ f is. found-all IsFitTwo first with_two two-fit f is a b) e
numbers-fit first (a ∷ b ∷ c ∷ []) line e = mapped (λ make. make a b c) (found first with_three) line (λ f is. found-all IsFitThree first with_three three-fit f is a b c) e
numbers-fit first (a ∷ b ∷ c ∷ d ∷ more) line e = absurd (cc (e))

rule-fit : (words : List (List ℕ)) (line : Line) → rule_line words ≡ Some line → IsFit line
rule-fit [] line e = absurd (cc (e))
rule-fit (a ∷ []) line e = absurd (cc (e))
rule-fit (a ∷ b ∷ []) line e = absurd (cc (e))
rule-fit (a ∷ b ∷ c ∷ []) line e =
    option_and_then_some _ (numeral a) _ e (λ x ex f. option_and_then_some _ (name b) _ f (λ y ey g. option_and_then_some _ (name c) _ g (λ z ez h. subst IsFit (some-is (Rule x y z) line h) tt)))
rule-fit (a ∷ b ∷ c ∷ d ∷ more) line e = absurd (cc (e))

set-fit : (words : List (List ℕ)) (line : Line) → set_line words ≡ Some line → IsFit line
set-fit [] line e = absurd (cc (e))
set-fit (a ∷ []) line e = absurd (cc (e))
set-fit (a ∷ b ∷ words) line e =
    option_and_then_some _ (numeral a) _ e (λ x ex f. option_and_then_some _ (numeral b) _ f (λ y ey g. option_and_then_some _ (value words) _ g (λ z ez h. subst IsFit (some-is (Set x y z) line h) tt)))

numerals-long : (words : List (List ℕ)) (path : List ℕ) → numerals words ≡ Some path → length path ≡ length words
numerals-long [] path e = ap (λ (xs : List ℕ). length xs) (sym (some-is [] path e))
numerals-long (word ∷ words) path e =
    option_and_then_some _ (numeral word) _ e (λ n en f. option_and_then_some _ (numerals words) _ f
    (λ ns ens g. ap (λ (xs : List ℕ). length xs) (sym (some-is (n ∷ ns) path g)) ∙ ap suc (numerals-long words ns ens)))

face-fit : (words : List (List ℕ)) (line : Line) → face_line words ≡ Some line → IsFit line
face-fit words line e = go (nat_le 1 (length words) && nat_le (length words) 4096) refl e
  where
    go : (b : Bool) → (nat_le 1 (length words) && nat_le (length words) 4096) ≡ b → cond b (option_map Face (numerals words)) None ≡ Some line → IsFit line
    go true test is =
        let parts = and_parts (nat_le 1 (length words)) (nat_le (length words) 4096) test in
        let low = leb-true 1 (length words) parts.0 in
        let high = leb-true (length words) 4096 parts.1 in
        mapped Face (numerals words) line (λ path are. (omega (arith, numerals-long words path are, low), omega (arith, numerals-long words path are, high))) is
    go false test is = absurd (cc (is))

-- the name of words that are one
only-named : (words : List (List ℕ)) (word : List ℕ) → only_name words ≡ Some word → is_name word ≡ true
only-named [] word e = absurd (cc (e))
only-named (first ∷ []) word e = go (is_name first) refl e
  where
    go : (b : Bool) → is_name first ≡ b → cond b (Some first) None ≡ Some word → is_name word ≡ true
    go true good is = subst (λ (w : List ℕ). is_name w ≡ true) (some-is first word is) good
    go false good is = absurd (cc (is))
only-named (first ∷ second ∷ more) word e = absurd (cc (e))

-- one of two ways
branch : (b : Bool) (x y : Option Line) (line : Line) (P : Type 0) → (x ≡ Some line → P) → (y ≡ Some line → P) → cond b x y ≡ Some line → P
branch true x y line P f g e = f e
branch false x y line P f g e = g e

with-fit : (first : List ℕ) (words : List (List ℕ)) (line : Line) → line_with first words ≡ Some line → IsFit line
with-fit first words line =
    branch (bytes_eq first (codes "face")) _ _ _ _ (face-fit words line)
    (branch (bytes_eq first (codes "rule")) _ _ _ _ (rule-fit words line)
    (branch (bytes_eq first (codes "set")) _ _ _ _ (set-fit words line)
    (branch (bytes_eq first (codes "mark")) _ _ _ _ (mapped Mark (only_name words) line (only-named words))
    (branch (bytes_eq first (codes "undo")) _ _ _ _ (mapped Undo (only_name words) line (λ n is. tt))
    (branch (bytes_eq first (codes "redo")) _ _ _ _ (mapped Redo (only_name words) line (λ n is. tt))
    (branch (bytes_eq first (codes "log")) _ _ _ _ (mapped Log (only_name words) line (λ n is. tt))
    (λ e. option_and_then_some (numbers_line first) (numerals words) _ e (λ ns is f. numbers-fit first ns line f))))))))

line-fit : (words : List (List ℕ)) (line : Line) → line_of words ≡ Some line → IsFit line
line-fit [] line e = absurd (cc (e))
line-fit (first ∷ words) line e = branch (list_all is_text (first ∷ words)) _ _ _ _ (with-fit first words line) (λ f. absurd (cc (f))) e

-- a path has 1 to 4096 numbers
pub path-short : (words : List (List ℕ)) (path : List ℕ) → line_of words ≡ Some (Face path) → (1 ≤ length path) × (length path ≤ 4096)
path-short words path e = line-fit words (Face path) e

-- a mark has a name
pub mark-named : (words : List (List ℕ)) (word : List ℕ) → line_of words ≡ Some (Mark word) → is_name word ≡ true
mark-named words word e = line-fit words (Mark word) e
