use Rattle.std.proofs.Common.{rules, ◌≡◌, ℕ, List, [], ◌∷◌, ◌++◌, Vec, length, map, codes, refl, ap, ap₂, sym, ◌∙◌, subst}
use Rattle.std.specs.List.{concat, flat_map}
use Rattle.std.specs.declared.alloc.Global.{Global}
use Rattle.std.proofs.lemmas.List.{append-nil, length-map}
use Rattle.std.proofs.lemmas.Iterator.{YieldsList-from_slice, YieldsList-from_map_by}
use Rattle.std.proofs.lemmas.Iterator.Consumers.{YieldsList-from_chain, YieldsList-at}
use Rattle.std.proofs.lemmas.Iterator.Adapters.{YieldsList-from_once}
use Rattle.map_defs.specs.Values.{Value}
use Rattle.machine_defs.specs.TextLines.{ended}
use Rattle.machine_defs.specs.OffText.{off_counts_text, off_point_text, off_face_text, off_text}
use Rattle.text_lines.specs.Writing.{WritesText}
use Rattle.text_lines.proofs.LineTexts.{YieldsList-seen, concat-append, concat-map}
use Rattle.off_text.specs.Meanings.{items_of, lists_of}
use Rattle.off_text.specs.OffLines.{line_text}
use Rattle.off_text.proofs.write.put_off.Goals as goal

face_text : Vec ℕ Global → List ℕ
face_text face = off_face_text face.items

faces-joined : (faces : List (Vec ℕ Global)) → concat (map face_text faces) ≡ flat_map off_face_text (lists_of faces)
unfolding face_text
faces-joined [] = refl
faces-joined (face ∷ faces) = ap (λ (t : List ℕ). off_face_text face.items ++ t) (faces-joined faces)

-- the text, from its lines
joined : (points : List Value) (faces : List (Vec ℕ Global)) (edges : ℕ)
    → concat ((((ended (codes "OFF") ∷ []) ++ off_counts_text (length points) (length faces) edges ∷ []) ++ map off_point_text points) ++ map face_text faces)
    ≡ off_text (record { points = points; faces = lists_of faces; edges = edges })
joined points faces edges =
    let first : List (List ℕ) = ended (codes "OFF") ∷ [] in
    let counts : List (List ℕ) = off_counts_text (length points) (length faces) edges ∷ [] in
    concat-append ((first ++ counts) ++ map off_point_text points) (map face_text faces)
    ∙ ap₂ ◌++◌
    (concat-append (first ++ counts) (map off_point_text points)
    ∙ ap₂ ◌++◌
    (concat-append first counts ∙ ap₂ ◌++◌ (append-nil (ended (codes "OFF"))) (append-nil (off_counts_text (length points) (length faces) edges) ∙ ap (λ n. off_counts_text (length points) n edges) (sym (length-map faces items_of))))
    (concat-map off_point_text points))
    (faces-joined faces)

pub returns-clause-written : goal.returns-clause-written
unfolding face_text
returns-clause-written g c =
    let w = c.put_lines.ensures.written _ (YieldsList-from_chain
    (YieldsList-at c.chain-lines.ensures.first (YieldsList-from_chain
    (YieldsList-at c.chain-2.ensures.first (YieldsList-from_chain
    (YieldsList-at c.chain.ensures.first (YieldsList-seen line_text (YieldsList-from_once _ c.once.ensures.item)))
    (YieldsList-at c.chain.ensures.second (YieldsList-seen line_text (YieldsList-from_once _ c.once-2.ensures.item)))
    c.chain.ensures.first_done c.chain.ensures.second_done))
    (YieldsList-at c.chain-2.ensures.second (YieldsList-from_map_by _ line_text off_point_text (YieldsList-at c.map.ensures.source (YieldsList-from_slice _ c.iter.ensures.rest)) c.map.ensures.closure (λ x r q k. search rules)))
    c.chain-2.ensures.first_done c.chain-2.ensures.second_done))
    (YieldsList-at c.chain-lines.ensures.second (YieldsList-from_map_by _ line_text face_text (YieldsList-at c.map-2.ensures.source (YieldsList-from_slice _ c.iter-2.ensures.rest)) c.map-2.ensures.closure (λ x r q k. search rules)))
    c.chain-lines.ensures.first_done c.chain-lines.ensures.second_done) in
    subst (WritesText (g.S.Sink.written c.args.out.now) (g.S.Sink.written c.put_lines.new.out) c.put_lines.result) (joined c.args.rows.now.points.items c.args.rows.now.faces.items c.args.rows.now.edges)
    (rw (c.deref.ensures.value, c.deref-2.ensures.value, c.len.ensures, c.len-2.ensures, c.args.rows.now.points.ok.0, c.args.rows.now.faces.ok.0) at w)
