-- Why a text is no key file: the first line with which it is none, and what is wrong with that line.
use Rattle.std.specs.Prelude.{◌≡◌, ◌≢◌, ℕ, ◌+◌, List, ◌∷◌, ◌++◌, length, Ok}
use Rattle.std.specs.List.{AllZip}
use Rattle.std.specs.Net.Grammar.{IsSocketText}
use Rattle.hex.specs.Hex.{decode_sized}
use Rattle.fw_text.specs.Lines.{lines_of}
use Rattle.fw_keys.specs.declared.entry.Entry.{Entry}
use Rattle.fw_keys.specs.declared.entry.LinkKeys.{LinkKeys}
use Rattle.fw_keys.specs.declared.error.BadLine.{BadLine}
use Rattle.fw_keys.specs.declared.error.BadLine.TheVariants.{BadTitle, BadFields, BadName, TitlesEqual, KeyTwice, NameTwice}
use Rattle.fw_keys.specs.Links.{AreLinks, HasEnd, HasKey}
use Rattle.fw_keys.specs.KeyFiles.{IsLink, NamesMeter, Spells}
use Rattle.fw_keys.specs.Titles.{head_title}

-- what is wrong with a link behind these, of an end with this title
abbrev pub IsOld : {N : Type 0} → List ℕ → List (Entry N) → Entry N → BadLine → Type 0
IsOld {N} own before entry TitlesEqual = entry.keys.title ≡ own
IsOld {N} own before entry KeyTwice = HasKey before entry.keys.encryption
IsOld {N} own before entry NameTwice = HasEnd before entry.end
IsOld {N} own before entry BadTitle = ⊥
IsOld {N} own before entry BadFields = ⊥
IsOld {N} own before entry BadName = ⊥

-- the line of a link with which that is wrong
pub record SpellsOld {N : Type 0} (Names : List ℕ → N → Type 0) (own : List ℕ) (before : List (Entry N)) (line : List ℕ) (why : BadLine) : Type 0 where
  pub entry : Entry N
  pub spells : Spells Names line entry
  pub old : IsOld own before entry why

-- the line of a link whose name names no end
pub record NamesNone {N : Type 0} (Names : List ℕ → N → Type 0) (line : List ℕ) : Type 0 where
  pub name : List ℕ
  pub keys : LinkKeys
  pub link : IsLink line name keys
  pub none : (end : N) → ¬ Names name end

-- what is wrong with a line behind those of these links, of an end with this title
abbrev pub IsBad : {N : Type 0} → (List ℕ → N → Type 0) → List ℕ → List (Entry N) → List ℕ → BadLine → Type 0
IsBad {N} Names own before line BadFields = (name : List ℕ) (keys : LinkKeys) → ¬ IsLink line name keys
IsBad {N} Names own before line BadName = NamesNone Names line
IsBad {N} Names own before line BadTitle = ⊥
IsBad {N} Names own before line TitlesEqual = SpellsOld Names own before line TitlesEqual
IsBad {N} Names own before line KeyTwice = SpellsOld Names own before line KeyTwice
IsBad {N} Names own before line NameTwice = SpellsOld Names own before line NameTwice

-- The line of this number is the first of these lines that is the line of no link of an end with this title. The first of them has the
-- number `from`.
pub record AreNoLinks {N : Type 0} (Names : List ℕ → N → Type 0) (own : List ℕ) (from : ℕ) (lines : List (List ℕ)) (number : ℕ) (why : BadLine) : Type 0 where
  pub before : List (List ℕ)
  pub line : List ℕ
  pub behind : List (List ℕ)
  pub are : lines ≡ before ++ line ∷ behind
  pub counted : number ≡ from + length before
  pub entries : List (Entry N)
  pub spells : AllZip (λ line entry. Spells Names line entry) before entries
  pub links : AreLinks own entries
  pub bad : IsBad Names own entries line why

-- the text is no key file of this head end
abbrev pub NoHeadKeys : List ℕ → ℕ → ℕ → BadLine → Type 0
NoHeadKeys text head number why = AreNoLinks NamesMeter (head_title head) 1 (lines_of text) number why

-- its first line is no title, or there is none
abbrev pub HasNoTitle : List ℕ → Type 0
HasNoTitle text = (first own : List ℕ) (others : List (List ℕ)) → lines_of text ≡ first ∷ others → decode_sized first 8 ≢ Ok own

-- one of the lines behind the title is the first that is the line of no link
pub record HasNoLinks (text : List ℕ) (number : ℕ) (why : BadLine) : Type 0 where
  pub first : List ℕ
  pub others : List (List ℕ)
  pub own : List ℕ
  pub lines : lines_of text ≡ first ∷ others
  pub is_own : decode_sized first 8 ≡ Ok own
  pub none : AreNoLinks IsSocketText own 2 others number why

-- the text is no key file of a meter
abbrev pub NoMeterKeys : List ℕ → ℕ → BadLine → Type 0
NoMeterKeys text number BadTitle = (number ≡ 1) × HasNoTitle text
NoMeterKeys text number BadFields = HasNoLinks text number BadFields
NoMeterKeys text number BadName = HasNoLinks text number BadName
NoMeterKeys text number TitlesEqual = HasNoLinks text number TitlesEqual
NoMeterKeys text number KeyTwice = HasNoLinks text number KeyTwice
NoMeterKeys text number NameTwice = HasNoLinks text number NameTwice
