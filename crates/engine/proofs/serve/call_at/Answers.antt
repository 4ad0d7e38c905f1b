-- `serve::call_at` meets its contract: the inputs, the record and the entry, then the call.
use mathlib.Core.Path.{◌≡◌, ap, ◌∙◌}
use native.Mathlib.Omega.{arith}
use Rattle.block.specs.PackedEntry.{entry_of}
use Rattle.block.specs.Call.{call_of}
use Rattle.block.specs.Entry.{Entry}
use Rattle.layout.specs.RecordLayout.{decode_record}
use Rattle.layout.specs.EntryLayout.{decode_entry}
use Rattle.layout.proofs.RecordLaws.{sound_record}
use Rattle.engine.specs.Serve.{record_in, entry_in, call_in}
use Rattle.engine.proofs.serve.call_at.Goals as goal

pub call-requires : goal.call-requires
call-requires c =
    let a = c.args in
    let r : c.decode_record-r.result ≡ record_in a.state.now a.i = c.decode_record-r.ensures ∙ ap decode_record c.part_at.ensures in
    let e : entry_of c.decode_entry-e.result ≡ entry_in a.frame.now a.i = c.decode_entry-e.ensures ∙ ap decode_entry c.part_at-2.ensures in
    (omega (arith, ap (λ (x : Entry). x.count) e, c.requires.callable.0.pieces), rw (r, c.kind-kind.ensures) (sound_record _ _ c.requires.callable.0.is_sound))

pub returns : goal.returns
unfolding call_in
returns c =
    let a = c.args in
    let r : c.decode_record-r.result ≡ record_in a.state.now a.i = c.decode_record-r.ensures ∙ ap decode_record c.part_at.ensures in
    let e : entry_of c.decode_entry-e.result ≡ entry_in a.frame.now a.i = c.decode_entry-e.ensures ∙ ap decode_entry c.part_at-2.ensures in
    c.call.ensures.equal ∙ (λ j. call_of (c.kind-kind.ensures j) (c.inputs_at-inputs.ensures j) (e j) (r j))
