use Rattle.std.proofs.Common.{◌≡◌, take}
use Rattle.std.specs.List.{list_all}
use Rattle.std.specs.Char.{is_ascii_hexdigit}
use Rattle.fw_text.proofs.hexadecimal.are_digits.Given as goal

abbrev pub invariant-digits : goal.invariant-digits
invariant-digits l = l.all ≡ list_all is_ascii_hexdigit (take l.byte-index l.text)
