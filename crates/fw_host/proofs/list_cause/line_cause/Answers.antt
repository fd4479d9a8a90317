use Rattle.std.proofs.Common.{◌∙◌, [], inr, refl, sym}
use Rattle.csv.specs.Reading.{Reached, strip_bom}
use Rattle.csv.specs.Records.{fields_of}
use Rattle.fw_host.proofs.Causes.{cause_found}
use Rattle.fw_host.proofs.Listings.{record_read}
use Rattle.fw_host.proofs.list_cause.line_cause.Goals as goal

pub loop-init : goal.loop-init
unfolding Reached
loop-init g c =
    let from = c.from_reader-reader.ensures in
    let built = c.flexible.ensures in
    let headers = c.has_headers.ensures in
    record {
      trim = rw (built, headers) at from.trim ∙ c.new.ensures.trim;
      ready = inr (inr (rw (built, headers) at from.has_headers, from.headers));
      config = rw (built, headers) at from.config ∙ c.new.ensures.config;
      flexible = rw built at from.flexible;
      left = strip_bom c.args.text.now;
      source = from.source;
      records = [];
      reached = (sym from.state, refl);
      spells = rw c.none-meters.ensures tt;
      once = rw c.none-meters.ensures tt;
    }

pub loop-preserved : goal.loop-preserved
loop-preserved g c =
    let is = c.loop.invariant in
    let reads = c.in-Ok-true.ensures.reads is.trim is.ready in
    let read = rw c.in-Ok-true.field-0-test at reads in
    record_read _ _ c.loop.reader c.read_byte_record.new.self c.loop.meters c.note.new.meters (fields_of c.read_byte_record.new.row) is read
    (c.in-Ok-true.ensures.ready is.trim) c.in-Ok-true.ensures.flexible c.in-Ok.ensures.once c.in-Ok.ensures.taken

pub returns-in-Err : goal.returns-in-Err
returns-in-Err g c =
    let is = c.loop.invariant in
    let reads = c.in-Ok-true.ensures.reads is.trim is.ready in
    let read = rw c.in-Ok-true.field-0-test at reads in
    cause_found _ _ c.loop.reader c.read_byte_record.new.self c.loop.meters (fields_of c.read_byte_record.new.row) _ is read c.in-Err.ensures.why
