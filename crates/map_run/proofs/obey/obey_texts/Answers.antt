use Rattle.std.proofs.Common.{inl, inr}
use Rattle.map_run.specs.Texts.{refused, starved, obeyed}
use Rattle.map_run.proofs.obey.obey_texts.Goals as goal

pub returns-in-Ok-clause-ends : goal.returns-in-Ok-clause-ends
returns-in-Ok-clause-ends g c =
    let o = rw (c.in-Ok.ensures.hook, c.deref.ensures.value) at c.obey_script.ensures.obeyed in
    record {
      piece = o.piece;
      appended = o.appended;
      end = obeyed c.in-Ok.map.state c.obey_script.result c.in-Ok.ensures.first c.script_status.ensures o.is c.obey_script.ensures.cause.rose;
    }

pub returns-in-Err-clause-ends : goal.returns-in-Err-clause-ends
returns-in-Err-clause-ends g c =
    let w = c.refuse_mesh.ensures.written in
    let r = c.in-Err.ensures.refused in
    record {
      piece = w.piece;
      appended = w.appended;
      end = elim w.is [
        | inl none ↦ starved none.0 none.1
        | inr last ↦ refused r.0 last.0 r.1 (r.2 last.0 last.1) last.2
      ];
    }
