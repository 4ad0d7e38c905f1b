-- `inputs::input_of` meets its contract: the flag byte of the record at the position.
use Prim.Native.Nat.{◌-◌}
use mathlib.Core.Bool.{not}
use mathlib.Core.Path.{ap, ◌∙◌}
use Rattle.engine.specs.Inputs.{flag_of}
use Rattle.engine.proofs.ServeLaws.{flags_at}
use Rattle.engine.proofs.inputs.input_of.Goals as goal

pub returns-then-w : goal.returns-then-w
returns-then-w c =
    let w = c.in-Some.w in
    let flag = c.flag_of-flag.ensures ∙ ap (flag_of w.flag) (c.decode_flags-flags.ensures ∙ flags_at c.args.state.now (w.position - 1)) in
    rw (c.in-Some.is, c.if-w.true) (ap not flag)

pub returns : goal.returns
returns c =
    let w = c.in-Some.w in
    let flag = c.flag_of-flag.ensures ∙ ap (flag_of w.flag) (c.decode_flags-flags.ensures ∙ flags_at c.args.state.now (w.position - 1)) in
    rw (c.in-Some.is, c.if-w.false) flag
