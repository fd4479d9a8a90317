use Rattle.std.proofs.Common.{◌≡◌, ◌∙◌, Err, [], inr, refl, rules, sym}
use Rattle.csv.specs.Reading.{Reached, strip_bom}
use Rattle.csv.specs.Records.{fields_of}
use Rattle.fw_host.specs.declared.error.ListError.TheVariants.{BadList}
use Rattle.fw_host.proofs.Listings.{list_read, no_list, read_stops, record_read}
use Rattle.fw_host.proofs.meter_list.read_list.Goals as goal

pub loop-init : goal.loop-init
unfolding Reached
loop-init g c =
    let from = c.from_reader-reader.ensures in
    let built = c.flexible.ensures in
    let headers = c.has_headers.ensures in
    record {
      trim = rw (built, headers) at from.trim ∙ c.new.ensures.trim;
      ready = inr (inr (rw (built, headers) at from.has_headers, from.headers));
      config = rw (built, headers) at from.config ∙ c.new.ensures.config;
      flexible = rw built at from.flexible;
      left = strip_bom c.args.text.now;
      source = from.source;
      records = [];
      reached = (sym from.state, refl);
      spells = rw c.none-meters.ensures tt;
      once = rw c.none-meters.ensures tt;
    }

pub loop-preserved : goal.loop-preserved
loop-preserved g c =
    let is = c.loop.invariant in
    let reads = c.in-Ok-true.ensures.reads is.trim is.ready in
    let read = rw c.in-Ok-true.field-0-test at reads in
    record_read _ _ c.loop.reader c.read_byte_record.new.self c.loop.meters c.take.new.meters (fields_of c.read_byte_record.new.row) is read
    (c.in-Ok-true.ensures.ready is.trim) c.in-Ok-true.ensures.flexible c.in_ok-take-in-Ok-true.ensures.once c.in_ok-take-in-Ok-true.ensures.taken

pub returns-in_err-take-in-Ok-true-clause-bad_list : goal.returns-in_err-take-in-Ok-true-clause-bad_list
returns-in_err-take-in-Ok-true-clause-bad_list g c = λ line e.
    let is = c.loop.invariant in
    let reads = c.in-Ok-true.ensures.reads is.trim is.ready in
    let read = rw c.in-Ok-true.field-0-test at reads in
    let bad : c.take.result ≡ Err (BadList line) = search rules in
    no_list _ _ c.loop.reader c.read_byte_record.new.self c.loop.meters (fields_of c.read_byte_record.new.row) is read (c.take.ensures.bad_list line bad)

pub returns-in-Ok-false-clause-ok : goal.returns-in-Ok-false-clause-ok
returns-in-Ok-false-clause-ok g c =
    let is = c.loop.invariant in
    let reads = c.in-Ok-false.ensures.reads is.trim is.ready in
    let read = rw c.in-Ok-false.field-0-test at reads in
    list_read _ _ c.loop.reader c.read_byte_record.new.self c.loop.meters (fields_of c.read_byte_record.new.row) is read

pub stopped-requires : goal.stopped-requires
stopped-requires g c =
    let is = c.loop.invariant in
    read_stops c.loop.reader c.read_byte_record.new.self _ (c.in-Err.ensures.why is.ready) is.flexible
