-- One block's step: step, flags and inputs by their bytes, the events of a call appended, and a block served. For the proofs of
-- `input_of`, `idle_at`, `inputs_at`, `append_events` and `serve`.
use Prim.Native.Nat.{ℕ, ◌+◌, ◌*◌, ◌≤◌}
use native.Mathlib.Omega.{arith}
use mathlib.Core.List.{List, ◌++◌}
use mathlib.Core.Path.{◌≡◌, refl, ap, ◌∙◌}
use lib.Dec.{lit<}
use lib.ListN.{length}
use Rattle.layout.specs.Buffer.{record_length, entry_length, event_length, byte_at, put}
use Rattle.layout.specs.RecordLayout.{record_offset, decode_flags, decode_record}
use Rattle.layout.specs.EntryLayout.{entry_offset, decode_entry, decode_inputs}
use Rattle.layout.specs.EventLayout.{encode_event}
use Rattle.layout.proofs.BufferLaws.{put_next, part_byte}
use Rattle.layout.proofs.EventLaws.{event_length_lem}
use Rattle.block.specs.Call.{Outcome}
use Rattle.block.specs.CallResult.{outcome_of}
use Rattle.block.specs.declared.call.CallResult.{CallResult}
use Rattle.block.specs.declared.event.Event.{Event}
use Rattle.std.specs.Prelude.{Option, None, Some, is_none, true, ◌&&◌}
use Rattle.table.specs.Blocks.{Block, BlockConfig, is_unwired}
use Rattle.table.specs.declared.blocks.Wire.{Wire}
use Rattle.block.specs.declared.record.Flags.{Flags}
use Rattle.block.specs.declared.entry.Inputs.{Inputs}
use Rattle.engine.specs.Inputs.{flags_in, wired, inputs_of}
use Rattle.engine.specs.Serve.{Buffers, record_in, entry_in, call_in, written, served}

-- the step and the flags of a block's record and the inputs of its entry, each by its byte
pub step_at : (state : List ℕ) (i : ℕ) → byte_at state (record_length * i + record_offset.step) ≡ (record_in state i).step
unfolding decode_record
step_at state i = part_byte record_length i record_offset.step state (lit< tt)

pub flags_at : (state : List ℕ) (i : ℕ) → decode_flags (byte_at state (record_length * i + record_offset.flags)) ≡ flags_in state i
unfolding decode_record
flags_at state i = ap decode_flags (part_byte record_length i record_offset.flags state (lit< tt))

pub bits_at : (frame : List ℕ) (i : ℕ) → decode_inputs (byte_at frame (entry_length * i + entry_offset.inputs)) ≡ (entry_in frame i).inputs
unfolding decode_entry
bits_at frame i = ap decode_inputs (part_byte entry_length i entry_offset.inputs frame (lit< tt))

-- without a wire the inputs are the frame's bits
pub unwired : (b : Block) (flags : ℕ → Flags) (bits : Inputs) → is_unwired b ≡ true → inputs_of (record { kind = b.kind; start = b.start; abort = b.abort }) flags bits ≡ bits
unfolding inputs_of
unwired b flags bits h = go b.start b.abort h
  where
    go : (start abort : Option Wire) → (is_none start && is_none abort) ≡ true → wired start abort flags bits ≡ bits
    go None None e = refl
    go None (Some w) e = cc
    go (Some w) abort e = cc

-- two events appended to a journal of n, one after the other
pub append_two : (n position : ℕ) (first second : Event) (journal middle after : List ℕ) → event_length * n + 2 * event_length ≤ length journal
    → middle ≡ put (event_length * n) (encode_event position first) journal → after ≡ put (event_length * n + event_length) (encode_event position second) middle
    → after ≡ put (event_length * n) (encode_event position first ++ encode_event position second) journal
append_two n position first second journal middle after room h g =
    let x = encode_event position first in
    let y = encode_event position second in
    let lx : length x ≡ event_length = event_length_lem position first in
    let ly : length y ≡ event_length = event_length_lem position second in
    g ∙ ap (put (event_length * n + event_length) y) h ∙ put_next (event_length * n) event_length x y journal lx (omega arith)

-- the call of a block, by the frame as the code has it
pub called_by : (b : BlockConfig) {frame told : List ℕ} (i : ℕ) (state : List ℕ) {o : Outcome} → o ≡ call_in b i frame state → frame ≡ told → o ≡ call_in b i told state
called_by b i state e y = e ∙ (λ j. call_in b i (y j) state)

-- a block served: its call, and what the call leaves
pub served_is : (b : BlockConfig) (i : ℕ) (frame : List ℕ) (before after : Buffers) (a : CallResult) → outcome_of a ≡ call_in b i frame before.state
    → after ≡ written i (outcome_of a) before → after ≡ served b i frame before
unfolding served
served_is b i frame before after a called w = w ∙ ap (λ (o : Outcome). written i o before) called
