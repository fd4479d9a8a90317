-- Files of keys that are made.
use Rattle.std.specs.Prelude.{◌≡◌, ℕ, List, [], ◌∷◌, ◌++◌, All, Contains, codes, decimal, map}
use Rattle.std.specs.Net.Socket.{socket_flowinfo}
use Rattle.std.specs.Net.Text.{socket_text}
use Rattle.std.specs.declared.net.socket_addr.SocketAddr.{SocketAddr}
use Rattle.fw_keys.specs.declared.entry.Entry.{Entry}
use Rattle.fw_keys.specs.KeyFiles.{SpellsHeadKeys, SpellsMeterKeys}
use Rattle.fw_keys.specs.Links.{Links}
use Rattle.fw_keys.specs.Making.{new_entry, other_file}
use Rattle.fw_keys.specs.Titles.{head_title}
use Rattle.fw_keys.specs.Writing.{links_text, title_line}
use Rattle.fw_key_files.specs.declared.making.MakingKeys.{MakingKeys}
use Rattle.fw_key_files.specs.declared.owner.Owner.{Owner}
use Rattle.fw_key_files.specs.declared.owner.Owner.TheVariants.{Head, Meter}

-- the name of an end's file
abbrev pub file_name : Owner → List ℕ
file_name Head = codes "head.keys"
file_name (Meter meter) = codes "meter." ++ (decimal meter ++ codes ".keys")

-- its path in a folder
abbrev pub path_in : List ℕ → Owner → List ℕ
path_in folder owner = folder ++ (codes "/" ++ file_name owner)

-- a file of keys: whose it is, its path and its text
pub record KeyText : Type 0 where
  pub owner : Owner
  pub path : List ℕ
  pub text : List ℕ

-- ---- new keys

-- the other ends of links, in order
abbrev pub ends_in : List (Entry ℕ) → List ℕ
ends_in entries = map (λ (entry : Entry ℕ). entry.end) entries

-- the links with one more, with this meter under the keys that these random bytes are
abbrev pub with_link : Links ℕ → ℕ → List ℕ → Links ℕ
with_link keys meter bytes = record keys { entries = keys.entries ++ new_entry meter bytes ∷ [] }

-- the keys of a link are random bytes that the source gave
abbrev pub IsNewLink : (List ℕ → Type 0) → Entry ℕ → Type 0
IsNewLink Gave entry = (bytes : List ℕ) × Gave bytes × (entry ≡ new_entry entry.end bytes)

-- a head end's links with these meters, in their order, under new keys
pub record AreNewKeys (Gave : List ℕ → Type 0) (head : ℕ) (meters : List ℕ) (keys : Links ℕ) : Type 0 where
  pub own : keys.own ≡ head_title head
  pub ends : ends_in keys.entries ≡ meters
  pub new : All (λ entry. IsNewLink Gave entry) keys.entries

-- ---- files

-- the text has all links of the head end
pub record IsHeadText (making : MakingKeys) (keys : Links ℕ) (text : List ℕ) : Type 0 where
  pub lines : text ≡ links_text decimal keys.entries
  pub spells : SpellsHeadKeys text making.head keys

-- The text has the link of this meter: the keys that the head end has for it, with the two titles exchanged.
pub record IsMeterText (making : MakingKeys) (keys : Links ℕ) (meter : ℕ) (text : List ℕ) : Type 0 where
  pub entry : Entry ℕ
  pub within : Contains keys.entries entry
  pub end : entry.end ≡ meter
  pub lines : text ≡ title_line entry.keys.title ++ links_text socket_text (other_file keys.own entry making.address).entries
  pub spells : socket_flowinfo making.address ≡ 0 → SpellsMeterKeys text (other_file keys.own entry making.address)

abbrev pub HasText : MakingKeys → Links ℕ → Owner → List ℕ → Type 0
HasText making keys Head text = IsHeadText making keys text
HasText making keys (Meter meter) text = IsMeterText making keys meter text

-- a file with the keys of its end
pub record IsFileOf (making : MakingKeys) (keys : Links ℕ) (file : KeyText) : Type 0 where
  pub path : file.path ≡ path_in making.folder.now file.owner
  pub text : HasText making keys file.owner file.text

-- whose files these are
abbrev pub owners_of : List KeyText → List Owner
owners_of files = map (λ (file : KeyText). file.owner) files

-- the head end's file, and one of each meter
abbrev pub all_owners : List ℕ → List Owner
all_owners meters = Head ∷ map (λ (meter : ℕ). Meter meter) meters

-- the files of these keys, the head end's first and then the meters' in order
pub record AreFiles (making : MakingKeys) (keys : Links ℕ) (files : List KeyText) : Type 0 where
  pub owners : owners_of files ≡ all_owners making.meters.now
  pub are : All (λ file. IsFileOf making keys file) files
