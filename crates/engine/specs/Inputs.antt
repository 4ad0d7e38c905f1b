-- Document 01, "Table image": the inputs of a call, from the wires and the frame.
use Rattle.std.specs.Prelude.{ℕ, ◌-◌, Bool, not, cond, List, Option, None, Some, eqb}
use Rattle.table.specs.declared.blocks.Flag.{Flag}
use Rattle.table.specs.declared.blocks.Flag.TheVariants.{Busy, Done, Error, Aborted}
use Rattle.table.specs.declared.blocks.Wire.{Wire}
use Rattle.table.specs.Blocks.{BlockConfig, flag_of_number}
use Rattle.layout.specs.Buffer.{record_length, part}
use Rattle.layout.specs.RecordLayout.{decode_record}
use Rattle.block.specs.declared.record.Flags.{Flags}
use Rattle.block.specs.declared.entry.Inputs.{Inputs}

-- the flags of the block at an index, from 0, in a state buffer
abbrev pub flags_in : List ℕ → ℕ → Flags
flags_in state i = (decode_record (part record_length i state)).flags

-- "flag (0 busy, 1 done, 2 error, 3 aborted)"
abbrev pub flag_of : Flag → Flags → Bool
flag_of Busy f = f.busy
flag_of Done f = f.done
flag_of Error f = f.error
flag_of Aborted f = f.aborted

-- "Wire slot 0 takes the input bit from the frame"; otherwise the flag, perhaps inverted. `flags` gives the flags of a block by its index.
abbrev pub input_of : Option Wire → (ℕ → Flags) → Bool → Bool
input_of None flags bit = bit
input_of (Some w) flags bit = cond w.inverted (not (flag_of w.flag (flags (w.position - 1)))) (flag_of w.flag (flags (w.position - 1)))

-- the input by a wire's numbers: "Wire slot 0 takes the input bit from the frame", here position 0; otherwise the flag of that number, perhaps inverted
abbrev pub input_of_numbers : ℕ → ℕ → Bool → (ℕ → Flags) → Bool → Bool
input_of_numbers position flag inverted flags bit =
    cond (eqb position 0) bit
    (cond inverted (not (flag_of (flag_of_number flag) (flags (position - 1)))) (flag_of (flag_of_number flag) (flags (position - 1))))

-- both inputs from two wires; the frame's own bits where no wire is
abbrev pub wired : Option Wire → Option Wire → (ℕ → Flags) → Inputs → Inputs
wired start abort flags bits = record { start = input_of start flags bits.start; abort = input_of abort flags bits.abort }

-- the inputs of a block
unfoldable pub inputs_of : BlockConfig → (ℕ → Flags) → Inputs → Inputs
inputs_of b flags bits = wired b.start b.abort flags bits
