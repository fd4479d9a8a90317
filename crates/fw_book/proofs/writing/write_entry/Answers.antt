use Rattle.std.proofs.Common.{ℕ, List, ◌++◌, ap, ◌∙◌}
use Rattle.std.proofs.lemmas.Result.{on_ok_weaker}
use Rattle.fw_book.specs.declared.version.Version.TheVariants.{Second}
use Rattle.fw_book.specs.Format.{numbers_bytes, image_bytes}
use Rattle.fw_book.proofs.Parts.{entry_written}
use Rattle.fw_book.proofs.writing.write_entry.Goals as goal

pub returns-clause-ok : goal.returns-clause-ok
returns-clause-ok c =
    let before : List ℕ = c.args.bytes.now.items in
    let numbers : List ℕ = c.write_numbers.new.bytes.items in
    let image : List ℕ = c.write_image.new.bytes.items in
    on_ok_weaker c.write_counted.result
    (entry_written Second before numbers image c.write_counted.new.bytes.items c.args.serial c.args.offer.now
    (c.in_ok-write_numbers.ensures.ok ∙ ap (λ (release : ℕ). before ++ numbers_bytes Second c.args.serial release) c.release.ensures.value)
    (c.in_ok-write_image.ensures.ok ∙ ap (λ (bytes : List ℕ). numbers ++ image_bytes bytes) c.image.ensures))
    (rw (← c.rows.ensures) c.write_counted.ensures.ok)
