-- Key files as texts (own): a line feed ends each line, and the last may lack it.
use Rattle.std.specs.Prelude.{◌≡◌, ℕ, List, ◌∷◌, ◌++◌, Some, Ok}
use Rattle.std.specs.List.{AllZip}
use Rattle.std.specs.declared.net.socket_addr.SocketAddr.{SocketAddr}
use Rattle.std.specs.Net.Grammar.{IsSocketText}
use Rattle.hex.specs.Hex.{decode_sized}
use Rattle.fw_text.specs.Lines.{lines_of}
use Rattle.fw_text.specs.Words.{number_of}
use Rattle.fw_keys.specs.declared.entry.Entry.{Entry}
use Rattle.fw_keys.specs.declared.entry.LinkKeys.{LinkKeys}
use Rattle.fw_keys.specs.Links.{AreLinks, Links}
use Rattle.fw_keys.specs.Titles.{head_title}

-- The line of a link: the name of the other end, its system title of 8 bytes, and the two keys of 16. The bytes are in hexadecimal, and
-- commas (44) stand between.
pub record IsLink (line name : List ℕ) (keys : LinkKeys) : Type 0 where
  pub title : List ℕ
  pub encryption : List ℕ
  pub authentication : List ℕ
  pub parts : line ≡ name ++ 44 ∷ title ++ 44 ∷ encryption ++ 44 ∷ authentication
  pub is_title : decode_sized title 8 ≡ Ok keys.title
  pub is_encryption : decode_sized encryption 16 ≡ Ok keys.encryption
  pub is_authentication : decode_sized authentication 16 ≡ Ok keys.authentication

-- the number of a meter, of 1 to 10 decimal digits
abbrev pub NamesMeter : List ℕ → ℕ → Type 0
NamesMeter text meter = number_of text ≡ Some meter

-- the line of this link, where texts name ends so
pub record Spells {N : Type 0} (Names : List ℕ → N → Type 0) (line : List ℕ) (entry : Entry N) : Type 0 where
  pub name : List ℕ
  pub link : IsLink line name entry.keys
  pub named : Names name entry.end

-- the text is the key file of this head end, whose title is that of its number, with these links
pub record SpellsHeadKeys (text : List ℕ) (head : ℕ) (file : Links ℕ) : Type 0 where
  pub own : file.own ≡ head_title head
  pub spells : AllZip (λ line entry. Spells NamesMeter line entry) (lines_of text) file.entries
  pub links : AreLinks file.own file.entries

-- the text is the key file of a meter, with its title in the first line and these links
pub record SpellsMeterKeys (text : List ℕ) (file : Links SocketAddr) : Type 0 where
  pub first : List ℕ
  pub others : List (List ℕ)
  pub lines : lines_of text ≡ first ∷ others
  pub own : decode_sized first 8 ≡ Ok file.own
  pub spells : AllZip (λ line entry. Spells IsSocketText line entry) others file.entries
  pub links : AreLinks file.own file.entries
