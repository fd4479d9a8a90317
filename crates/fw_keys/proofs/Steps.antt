-- The links of a text as far as they are read.
use Rattle.std.proofs.Common.{◌≡◌, ◌+◌, ℕ, List, [], ◌∷◌, ◌++◌, length, Ok, refl, sym, ap, ◌∙◌, arith, append_assoc, append-nil, length-append}
use Rattle.std.specs.List.{AllZip}
use Rattle.std.specs.Net.Grammar.{IsSocketText}
use Rattle.hex.specs.Hex.{decode_sized}
use Rattle.fw_text.specs.Lines.{lines_of}
use Rattle.fw_keys.specs.declared.entry.Entry.{Entry}
use Rattle.fw_keys.specs.declared.error.BadLine.{BadLine}
use Rattle.fw_keys.specs.declared.error.BadLine.TheVariants.{BadTitle, BadFields, BadName, TitlesEqual, KeyTwice, NameTwice}
use Rattle.fw_keys.specs.KeyFiles.{Spells}
use Rattle.fw_keys.specs.Links.{AreLinks, IsNew}
use Rattle.fw_keys.specs.Refusals.{AreNoLinks, HasNoLinks, IsBad, IsOld, NoMeterKeys, SpellsOld}
use Rattle.fw_keys.proofs.Listed.{links_more, no_links}

-- these are the links of the lines before the rest, of which the last has this number
pub record SoFar {N : Type 0} (Names : List ℕ → N → Type 0) (own : List ℕ) (from : ℕ) (text rest : List ℕ) (number : ℕ) (entries : List (Entry N)) : Type 0 where
  pub before : List (List ℕ)
  pub lines : lines_of text ≡ before ++ lines_of rest
  pub counted : number + 1 ≡ from + length before
  pub spells : AllZip (λ line entry. Spells Names line entry) before entries
  pub links : AreLinks own entries

-- one line more
zip_more : {N : Type 0} (Names : List ℕ → N → Type 0) (lines : List (List ℕ)) (entries : List (Entry N)) (line : List ℕ) (entry : Entry N)
    → AllZip (λ line entry. Spells Names line entry) lines entries → Spells Names line entry → AllZip (λ line entry. Spells Names line entry) (lines ++ line ∷ []) (entries ++ entry ∷ [])
zip_more Names [] [] line entry all one = (one, tt)
zip_more Names [] (e ∷ entries) line entry all one = absurd all
zip_more Names (l ∷ lines) [] line entry all one = absurd all
zip_more Names (l ∷ lines) (e ∷ entries) line entry all one = (all.0, zip_more Names lines entries line entry all.1 one)

pub begins : {N : Type 0} (Names : List ℕ → N → Type 0) (own text : List ℕ) (number : ℕ) → SoFar Names own (number + 1) text text number []
begins Names own text number = record { before = []; lines = refl; counted = omega arith; spells = tt; links = no_links own }

pub goes_on : {N : Type 0} (Names : List ℕ → N → Type 0) (own : List ℕ) (from : ℕ) (text rest line after : List ℕ) (number : ℕ) (entries : List (Entry N)) (entry : Entry N)
    → SoFar Names own from text rest number entries → lines_of rest ≡ line ∷ lines_of after → Spells Names line entry → IsNew own entries entry
    → SoFar Names own from text after (number + 1) (entries ++ entry ∷ [])
goes_on {N} Names own from text rest line after number entries entry so_far cut spells new = record {
  before = so_far.before ++ line ∷ [];
  lines = so_far.lines ∙ ap (λ (ls : List (List ℕ)). so_far.before ++ ls) cut ∙ sym (append_assoc so_far.before (line ∷ []) (lines_of after));
  counted = omega (arith, so_far.counted, length-append so_far.before (line ∷ []));
  spells = zip_more Names so_far.before entries line entry so_far.spells spells;
  links = links_more own entries entry so_far.links new;
}

-- no line is left
pub ends : {N : Type 0} (Names : List ℕ → N → Type 0) (own : List ℕ) (from : ℕ) (text rest : List ℕ) (number : ℕ) (entries : List (Entry N))
    → SoFar Names own from text rest number entries → lines_of rest ≡ [] → AllZip (λ line entry. Spells Names line entry) (lines_of text) entries
ends Names own from text rest number entries so_far none =
    let whole : lines_of text ≡ so_far.before = so_far.lines ∙ ap (λ (ls : List (List ℕ)). so_far.before ++ ls) none ∙ append-nil so_far.before in
    rw whole so_far.spells

-- a bad line is met
pub stops : {N : Type 0} (Names : List ℕ → N → Type 0) (own : List ℕ) (from : ℕ) (text rest line after : List ℕ) (number next : ℕ) (entries : List (Entry N)) (why : BadLine)
    → SoFar Names own from text rest number entries → lines_of rest ≡ line ∷ lines_of after → next ≡ number + 1 → IsBad Names own entries line why
    → AreNoLinks Names own from (lines_of text) next why
stops Names own from text rest line after number next entries why so_far cut is bad = record {
  before = so_far.before;
  line = line;
  behind = lines_of after;
  are = so_far.lines ∙ ap (λ (ls : List (List ℕ)). so_far.before ++ ls) cut;
  counted = is ∙ so_far.counted;
  entries = entries;
  spells = so_far.spells;
  links = so_far.links;
  bad = bad;
}

-- ---- refusals

spells_old : {N : Type 0} (Names : List ℕ → N → Type 0) (own : List ℕ) (before : List (Entry N)) (line : List ℕ) (entry : Entry N) (why : BadLine) → Spells Names line entry
    → IsOld own before entry why → SpellsOld Names own before line why
spells_old Names own before line entry why spells old = record { entry = entry; spells = spells; old = old }

-- the line of a link that can't stand there
pub old_is_bad : {N : Type 0} (Names : List ℕ → N → Type 0) (own : List ℕ) (before : List (Entry N)) (line : List ℕ) (entry : Entry N) (why : BadLine) → Spells Names line entry
    → IsOld own before entry why → IsBad Names own before line why
old_is_bad Names own before line entry BadTitle spells old = absurd old
old_is_bad Names own before line entry BadFields spells old = absurd old
old_is_bad Names own before line entry BadName spells old = absurd old
old_is_bad Names own before line entry TitlesEqual spells old = spells_old Names own before line entry TitlesEqual spells old
old_is_bad Names own before line entry KeyTwice spells old = spells_old Names own before line entry KeyTwice spells old
old_is_bad Names own before line entry NameTwice spells old = spells_old Names own before line entry NameTwice spells old

has_no_links : (text first own : List ℕ) (others : List (List ℕ)) (number : ℕ) (why : BadLine) → lines_of text ≡ first ∷ others → decode_sized first 8 ≡ Ok own
    → AreNoLinks IsSocketText own 2 others number why → HasNoLinks text number why
has_no_links text first own others number why lines title none = record { first = first; others = others; own = own; lines = lines; is_own = title; none = none }

-- the lines behind the title of a meter
pub meter_refused : (text first own : List ℕ) (others : List (List ℕ)) (number : ℕ) (why : BadLine) → lines_of text ≡ first ∷ others → decode_sized first 8 ≡ Ok own
    → AreNoLinks IsSocketText own 2 others number why → NoMeterKeys text number why
meter_refused text first own others number BadTitle lines title none = absurd none.bad
meter_refused text first own others number BadFields lines title none = has_no_links text first own others number BadFields lines title none
meter_refused text first own others number BadName lines title none = has_no_links text first own others number BadName lines title none
meter_refused text first own others number TitlesEqual lines title none = has_no_links text first own others number TitlesEqual lines title none
meter_refused text first own others number KeyTwice lines title none = has_no_links text first own others number KeyTwice lines title none
meter_refused text first own others number NameTwice lines title none = has_no_links text first own others number NameTwice lines title none
