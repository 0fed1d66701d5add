-- Texts that are appended one after another.
use Rattle.std.proofs.Common.{◌≡◌, ℕ, List, [], ◌∷◌, ◌++◌, Option, Some, None, Result, Ok, Err, refl, sym, ap, ◌∙◌, subst, append_assoc, inl, inr}
use Rattle.std.proofs.lemmas.List.{append-nil}
use Rattle.map_io.specs.declared.sink.PutFault.{PutFault}
use Rattle.map_io.specs.declared.sink.PutFault.TheVariants.{Failed, NoMemory}
use Rattle.machine_defs.specs.Outside.{Appended, IsFront}
use Rattle.machine_defs.specs.Program.{EndsLine}
use Rattle.text_lines.specs.Writing.{WritesText, IsWritten}

pub Appended-nothing : (o : Option (List ℕ)) → Appended o o []
Appended-nothing None = tt
Appended-nothing (Some text) = ap (λ (t : List ℕ). Some t) (sym (append-nil text))

pub Appended-then : (before middle after : Option (List ℕ)) (one other : List ℕ)
    → Appended before middle one → Appended middle after other → Appended before after (one ++ other)
Appended-then None middle after one other p q = tt
Appended-then (Some text) None after one other p q = absurd (cc)
Appended-then (Some text) (Some more) after one other p q =
    let same : more ≡ text ++ one = cc in
    q ∙ ap (λ (t : List ℕ). Some t) (ap (λ (t : List ℕ). t ++ other) same ∙ append_assoc text one other)

pub EndsLine-then : (one other : List ℕ) → EndsLine one → EndsLine other → EndsLine (one ++ other)
EndsLine-then one other p (inl none) = subst EndsLine (sym (ap (λ (t : List ℕ). one ++ t) none ∙ append-nil one)) p
EndsLine-then one other p (inr line) =
    inr (one ++ line.0, ap (λ (t : List ℕ). one ++ t) line.1 ∙ sym (append_assoc one line.0 (10 ∷ [])))

pub IsFront-nothing : (text : List ℕ) → IsFront [] text
IsFront-nothing text = (text, refl)

pub IsFront-all : (text : List ℕ) → IsFront text text
IsFront-all text = ([], sym (append-nil text))

pub IsFront-then : (one front text : List ℕ) → IsFront front text → IsFront (one ++ front) (one ++ text)
IsFront-then one front text p = (p.0, ap (λ (t : List ℕ). one ++ t) p.1 ∙ sym (append_assoc one front p.0))

pub IsFront-longer : (front text more : List ℕ) → IsFront front text → IsFront front (text ++ more)
IsFront-longer front text more p = (p.0 ++ more, ap (λ (t : List ℕ). t ++ more) p.1 ∙ append_assoc front p.0 more)

then-is : (result : Result (Unit {0}) PutFault) (one other piece : List ℕ) → EndsLine one → IsWritten other result piece → IsWritten (one ++ other) result (one ++ piece)
then-is (Ok done) one other piece ends p = (EndsLine-then one piece ends p.0, ap (λ (t : List ℕ). one ++ t) p.1)
then-is (Err Failed) one other piece ends p = IsFront-then one piece other p
then-is (Err NoMemory) one other piece ends p = (EndsLine-then one piece ends p.0, IsFront-then one piece other p.1)

-- one text after another
pub Writes-then : (before middle after : Option (List ℕ)) (result : Result (Unit {0}) PutFault) (done : Unit {0}) (one other : List ℕ)
    → WritesText before middle (Ok done) one → WritesText middle after result other → WritesText before after result (one ++ other)
Writes-then before middle after result done one other p q =
    let appended = subst (Appended before middle) p.is.1 p.appended in
    let ends = subst EndsLine p.is.1 p.is.0 in
    record {
      piece = one ++ q.piece;
      appended = Appended-then before middle after one q.piece appended q.appended;
      is = then-is result one other q.piece ends q.is;
    }

-- what was cut is the same where more would have come
pub Writes-cut : (before after : Option (List ℕ)) (fault : PutFault) (text more : List ℕ)
    → WritesText before after (Err fault) text → WritesText before after (Err fault) (text ++ more)
Writes-cut before after Failed text more p = record { piece = p.piece; appended = p.appended; is = IsFront-longer p.piece text more p.is }
Writes-cut before after NoMemory text more p = record { piece = p.piece; appended = p.appended; is = (p.is.0, IsFront-longer p.piece text more p.is.1) }

pub Writes-nothing : (o : Option (List ℕ)) (done : Unit {0}) → WritesText o o (Ok done) []
Writes-nothing o done = record { piece = []; appended = Appended-nothing o; is = (inl refl, refl) }
