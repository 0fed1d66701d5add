-- What a sink over a writer shows of itself. This project's own.
use Rattle.std.specs.Prelude.{ℕ, ◌≡◌, ◌+◌, ◌-◌, ◌^◌, min, List, Option}
use Rattle.std.specs.Io.KnownBytes.{append_known}
use Rattle.map_io.specs.declared.writer_sink.WriterSink.{WriterSink}
use Rattle.map_io.specs.declared.sink.PutFault.{PutFault}
use Rattle.map_io.specs.declared.sink.PutFault.TheVariants.{Failed}

-- the writer, which has what was handed on
abbrev pub writer_of : {W : Type 0} → WriterSink W → W
writer_of sink = sink.writer

-- the text that a sink took and did not hand on yet
abbrev pub kept_of : {W : Type 0} → WriterSink W → List ℕ
kept_of sink = sink.kept.items

-- the text that a sink took, where its writer tells what it holds: that, and then what is kept back
abbrev pub written_of : {W : Type 0} → (W → Option (List ℕ)) → WriterSink W → Option (List ℕ)
written_of contents sink = append_known (contents sink.writer) sink.kept.items

-- the call failed, and that was counted
abbrev pub Fails : {W : Type 0} → WriterSink W → WriterSink W → PutFault → Type 0
Fails before now fault = (fault ≡ Failed) × (now.faults ≡ min (before.faults + 1) (2 ^ 64 - 1))
