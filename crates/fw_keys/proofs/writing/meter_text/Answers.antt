use Rattle.std.proofs.Common.{◌≡◌, ◌++◌, ◌∷◌, [], List, ℕ, Ok, ap, subst, ◌∙◌, rules}
use Rattle.std.specs.Net.Grammar.{IsSocketText}
use Rattle.std.specs.Net.Socket.{socket_flowinfo}
use Rattle.std.specs.Net.Text.{socket_text}
use Rattle.hex.specs.Hex.{decode_sized, encode_lower}
use Rattle.fw_keys.specs.Writing.{links_text, title_line}
use Rattle.fw_keys.proofs.Written.{all_back, meter_read}
use Rattle.fw_keys.proofs.writing.meter_text.Goals as goal

pub returns-clause-spells : goal.returns-clause-spells
returns-clause-spells c = λ shown.
    let file = c.args.file.now in
    let links = c.in_ok-put_links.ensures in
    let own : decode_sized (encode_lower c.title-own.result) 8 ≡ Ok c.title-own.result = search rules in
    let lines : c.put_links.new.out.items ≡ title_line file.own ++ links_text socket_text file.entries = search rules in
    meter_read c.put_links.new.out.items file lines (subst (λ t. decode_sized (encode_lower t) 8 ≡ Ok t) c.title-own.ensures own)
    (all_back IsSocketText socket_text (λ a. socket_flowinfo a ≡ 0) file.entries links.written shown) links.links
