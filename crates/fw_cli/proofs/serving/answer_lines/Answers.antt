use Rattle.std.proofs.Common.{◌≡◌, Ok, refl, arith}
use Rattle.std.specs.Prelude.{IsOk}
use Rattle.hex.specs.Hex.{decode_of}
use Rattle.fw_meter.specs.Handling.{reply_bytes}
use Rattle.fw_cli.specs.Session.{AnswersLineOver, line_for}
use Rattle.fw_cli.proofs.Turns.{goes_on, ends, stops, begins_well, on_err, on_true, on_false}
use Rattle.fw_cli.proofs.serving.answer_lines.Goals as goal

-- if there was no reply, and where there was one
pub loop-line-preserved-in_ok-append_line : goal.loop-line-preserved-in_ok-append_line
loop-line-preserved-in_ok-append_line g c =
    let reply = reply_bytes c.in_ok-handled.handled.reply in
    let turn : AnswersLineOver c.loop-line.meter c.in-Some.line.now (line_for reply) c.handle.new.self = record {
      datagram = c.put_bytes.new.out.items;
      reply = reply;
      activated = c.in_ok-handled.handled.activated;
      spelled = on_true _ _ c.in_ok-put_bytes.ensures.bytes c.if-not-branch.false;
      step = rw c.deref.ensures.value at c.in_ok-handled.ensures.step;
      follows = c.in_ok-handled.ensures.follows;
      told = refl;
    } in
    let more = goes_on c.args.meter c.loop-line.meter c.handle.new.self c.args.input.now c.loop-line.text.items c.in-Some.line.now (line_for reply) c.loop-line.rest.now c.in-Some.after.now c.loop-line.number
    c.loop-line.invariant.so_far c.in-Some.ensures.lines turn in
    record {
      counted = omega (arith, c.in-Some.ensures.shorter);
      so_far = rw c.in_ok-append_line.ensures more;
    }

pub loop-line-preserved : goal.loop-line-preserved
loop-line-preserved g c =
    let reply = reply_bytes c.in_ok-handled.handled.reply in
    let turn : AnswersLineOver c.loop-line.meter c.in-Some.line.now (line_for reply) c.handle.new.self = record {
      datagram = c.put_bytes.new.out.items;
      reply = reply;
      activated = c.in_ok-handled.handled.activated;
      spelled = on_true _ _ c.in_ok-put_bytes.ensures.bytes c.if-not-branch.false;
      step = rw c.deref.ensures.value at c.in_ok-handled.ensures.step;
      follows = c.in_ok-handled.ensures.follows;
      told = refl;
    } in
    let more = goes_on c.args.meter c.loop-line.meter c.handle.new.self c.args.input.now c.loop-line.text.items c.in-Some.line.now (line_for reply) c.loop-line.rest.now c.in-Some.after.now c.loop-line.number
    c.loop-line.invariant.so_far c.in-Some.ensures.lines turn in
    record {
      counted = omega (arith, c.in-Some.ensures.shorter);
      so_far = rw c.in_ok-append_line.ensures more;
    }

pub returns-clause-ok : goal.returns-clause-ok
returns-clause-ok g c = ends c.args.meter c.loop-line.meter c.args.input.now c.loop-line.text.items c.loop-line.rest.now c.loop-line.number c.loop-line.invariant.so_far c.in_default.ensures.lines

pub returns-then-not-branch-clause-ok : goal.returns-then-not-branch-clause-ok
returns-then-not-branch-clause-ok g c =
    stops c.args.meter c.loop-line.meter c.args.input.now c.loop-line.text.items c.in-Some.line.now c.loop-line.rest.now c.in-Some.after.now c.loop-line.number c.loop-line.invariant.so_far
    c.in-Some.ensures.lines (on_false _ _ c.in_ok-put_bytes.ensures.none c.if-not-branch.true)

pub returns-in_err-put_bytes-clause-memory : goal.returns-in_err-put_bytes-clause-memory
returns-in_err-put_bytes-clause-memory g c =
    on_err _ _
    (begins_well c.args.meter c.loop-line.meter c.args.input.now c.loop-line.text.items c.in-Some.line.now c.loop-line.rest.now c.in-Some.after.now c.loop-line.number
    c.loop-line.invariant.so_far c.in-Some.ensures.lines c.in_err-put_bytes.ensures.memory)

pub returns-in_err-handled-clause-memory : goal.returns-in_err-handled-clause-memory
returns-in_err-handled-clause-memory g c =
    let spelled : decode_of c.in-Some.line.now ≡ Ok c.put_bytes.new.out.items = on_true _ _ c.in_ok-put_bytes.ensures.bytes c.if-not-branch.false in
    let ok : IsOk (decode_of c.in-Some.line.now) = rw spelled refl in
    on_err _ _
    (begins_well c.args.meter c.loop-line.meter c.args.input.now c.loop-line.text.items c.in-Some.line.now c.loop-line.rest.now c.in-Some.after.now c.loop-line.number
    c.loop-line.invariant.so_far c.in-Some.ensures.lines ok)

pub returns-in_err-append_line-clause-memory : goal.returns-in_err-append_line-clause-memory
returns-in_err-append_line-clause-memory g c =
    let spelled : decode_of c.in-Some.line.now ≡ Ok c.put_bytes.new.out.items = on_true _ _ c.in_ok-put_bytes.ensures.bytes c.if-not-branch.false in
    let ok : IsOk (decode_of c.in-Some.line.now) = rw spelled refl in
    on_err _ _
    (begins_well c.args.meter c.loop-line.meter c.args.input.now c.loop-line.text.items c.in-Some.line.now c.loop-line.rest.now c.in-Some.after.now c.loop-line.number
    c.loop-line.invariant.so_far c.in-Some.ensures.lines ok)
