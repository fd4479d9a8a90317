-- A text is at most one key file, and none if a line refuses it.
use Rattle.std.proofs.Common.{◌≡◌, ◌+◌, ◌<◌, ℕ, List, [], ◌∷◌, ◌++◌, length, Option, Some, Ok, refl, sym, ap, subst, ◌∙◌, arith}
use Rattle.std.specs.Prelude.{◌≢◌}
use Rattle.std.specs.List.{AllZip}
use Rattle.std.specs.declared.net.socket_addr.SocketAddr.{SocketAddr}
use Rattle.std.specs.Net.Grammar.{IsSocketText}
use Rattle.std.proofs.NetLemmas.Theorems.{IsSocketText_unique}
use Rattle.hex.specs.Hex.{decode_sized}
use Rattle.fw_text.specs.Lines.{lines_of}
use Rattle.fw_text.specs.Words.{number_of}
use Rattle.fw_keys.specs.declared.entry.Entry.{Entry}
use Rattle.fw_keys.specs.declared.entry.LinkKeys.{LinkKeys}
use Rattle.fw_keys.specs.declared.error.BadLine.{BadLine}
use Rattle.fw_keys.specs.declared.error.BadLine.TheVariants.{BadTitle, BadFields, BadName, TitlesEqual, KeyTwice, NameTwice}
use Rattle.fw_keys.specs.KeyFiles.{NamesMeter, Spells, SpellsHeadKeys, SpellsMeterKeys}
use Rattle.fw_keys.specs.Laws.{OneHeadFile, OneMeterFile}
use Rattle.fw_keys.specs.Links.{AreLinks, Links}
use Rattle.fw_keys.specs.Refusals.{AreNoLinks, HasNoLinks, IsBad, IsOld, NamesNone, NoMeterKeys, SpellsOld}
use Rattle.fw_keys.specs.Titles.{head_title}
use Rattle.fw_keys.proofs.Fields.{one_link, same_bytes}
use Rattle.fw_keys.proofs.Listed.{apart_from, titled_behind}

-- texts name one end each
abbrev NameOne : {N : Type 0} → (List ℕ → N → Type 0) → Type 0
NameOne {N} Names = (text : List ℕ) (a b : N) → Names text a → Names text b → a ≡ b

one_meter : NameOne NamesMeter
one_meter text a b x y = let same : Some a ≡ Some b = sym x ∙ y in cc same

one_head : NameOne IsSocketText
one_head text a b x y = IsSocketText_unique text a b x y

-- ---- a line is that of one link

abbrev entry_of : {N : Type 0} → N → LinkKeys → Entry N
entry_of end keys = record { end = end; keys = keys }

same_entries : {N : Type 0} (a b : Entry N) → a.end ≡ b.end → a.keys ≡ b.keys → a ≡ b
same_entries a b end keys = ap (λ x. entry_of x a.keys) end ∙ ap (λ x. entry_of b.end x) keys

one_entry : {N : Type 0} (Names : List ℕ → N → Type 0) → NameOne Names → (line : List ℕ) (a b : Entry N) → Spells Names line a → Spells Names line b → a ≡ b
one_entry Names one line a b x y =
    let same = one_link line x.name y.name a.keys b.keys x.link y.link in
    same_entries a b (one y.name a.end b.end (subst (λ n. Names n a.end) same.0 x.named) y.named) same.1

same_rest : {N : Type 0} (a b : Entry N) (xs ys : List (Entry N)) → a ≡ b → xs ≡ ys → a ∷ xs ≡ b ∷ ys
same_rest a b xs ys first others = cc (first, others)

one_list : {N : Type 0} (Names : List ℕ → N → Type 0) → NameOne Names → (lines : List (List ℕ)) (xs ys : List (Entry N)) → AllZip (λ line entry. Spells Names line entry) lines xs
    → AllZip (λ line entry. Spells Names line entry) lines ys → xs ≡ ys
one_list Names one [] [] [] x y = refl
one_list Names one [] [] (b ∷ ys) x y = absurd y
one_list Names one [] (a ∷ xs) ys x y = absurd x
one_list Names one (line ∷ lines) [] ys x y = absurd x
one_list Names one (line ∷ lines) (a ∷ xs) [] x y = absurd y
one_list Names one (line ∷ lines) (a ∷ xs) (b ∷ ys) x y = same_rest a b xs ys (one_entry Names one line a b x.0 y.0) (one_list Names one lines xs ys x.1 y.1)

-- ---- a line that refuses a text

-- the link of a line behind others
record Behind {N : Type 0} (Names : List ℕ → N → Type 0) (mine all : List (Entry N)) (line : List ℕ) : Type 0 where
  entry : Entry N
  rest : List (Entry N)
  are : all ≡ mine ++ entry ∷ rest
  spells : Spells Names line entry

behind : {N : Type 0} (Names : List ℕ → N → Type 0) → NameOne Names → (before : List (List ℕ)) (line : List ℕ) (more : List (List ℕ)) (mine all : List (Entry N))
    → AllZip (λ line entry. Spells Names line entry) before mine → AllZip (λ line entry. Spells Names line entry) (before ++ line ∷ more) all → Behind Names mine all line
behind Names one [] line more [] [] x y = absurd y
behind Names one [] line more [] (a ∷ all) x y = record { entry = a; rest = all; are = refl; spells = y.0 }
behind Names one [] line more (m ∷ mine) all x y = absurd x
behind Names one (l ∷ before) line more [] all x y = absurd x
behind Names one (l ∷ before) line more (m ∷ mine) [] x y = absurd y
behind Names one (l ∷ before) line more (m ∷ mine) (a ∷ all) x y =
    let later = behind Names one before line more mine all x.1 y.1 in
    record {
      entry = later.entry;
      rest = later.rest;
      are = same_rest a m all (mine ++ later.entry ∷ later.rest) (one_entry Names one l a m y.0 x.0) later.are;
      spells = later.spells;
    }

never_old : {N : Type 0} (own : List ℕ) (mine rest : List (Entry N)) (entry : Entry N) (why : BadLine) → AreLinks own (mine ++ entry ∷ rest) → IsOld own mine entry why → ⊥
never_old own mine rest entry TitlesEqual are old = titled_behind own mine rest entry are old
never_old own mine rest entry KeyTwice are old =
    let (k, other, within, is, same) = old in
    (apart_from own mine rest entry are k other within is).keys same
never_old own mine rest entry NameTwice are old =
    let (k, other, within, is, same) = old in
    (apart_from own mine rest entry are k other within is).ends same
never_old own mine rest entry BadTitle are old = old
never_old own mine rest entry BadFields are old = old
never_old own mine rest entry BadName are old = old

old_entry : {N : Type 0} (Names : List ℕ → N → Type 0) → NameOne Names → (own : List ℕ) (mine rest : List (Entry N)) (line : List ℕ) (entry : Entry N) (why : BadLine)
    → AreLinks own (mine ++ entry ∷ rest) → Spells Names line entry → SpellsOld Names own mine line why → ⊥
old_entry Names one own mine rest line entry why are spells bad =
    never_old own mine rest entry why are (subst (λ e. IsOld own mine e why) (one_entry Names one line bad.entry entry bad.spells spells) bad.old)

no_name : {N : Type 0} (Names : List ℕ → N → Type 0) (line : List ℕ) (entry : Entry N) → Spells Names line entry → NamesNone Names line → ⊥
no_name Names line entry spells bad =
    let same = one_link line spells.name bad.name entry.keys bad.keys spells.link bad.link in
    bad.none entry.end (subst (λ n. Names n entry.end) same.0 spells.named)

never_bad : {N : Type 0} (Names : List ℕ → N → Type 0) → NameOne Names → (own : List ℕ) (mine rest : List (Entry N)) (line : List ℕ) (entry : Entry N) (why : BadLine)
    → AreLinks own (mine ++ entry ∷ rest) → Spells Names line entry → IsBad Names own mine line why → ⊥
never_bad Names one own mine rest line entry BadFields are spells bad = bad spells.name entry.keys spells.link
never_bad Names one own mine rest line entry BadName are spells bad = no_name Names line entry spells bad
never_bad Names one own mine rest line entry BadTitle are spells bad = bad
never_bad Names one own mine rest line entry TitlesEqual are spells bad = old_entry Names one own mine rest line entry TitlesEqual are spells bad
never_bad Names one own mine rest line entry KeyTwice are spells bad = old_entry Names one own mine rest line entry KeyTwice are spells bad
never_bad Names one own mine rest line entry NameTwice are spells bad = old_entry Names one own mine rest line entry NameTwice are spells bad

none_spelled : {N : Type 0} (Names : List ℕ → N → Type 0) → NameOne Names → (own : List ℕ) (from : ℕ) (lines : List (List ℕ)) (number : ℕ) (why : BadLine) (entries : List (Entry N))
    → AreNoLinks Names own from lines number why → AllZip (λ line entry. Spells Names line entry) lines entries → AreLinks own entries → ⊥
none_spelled Names one own from lines number why entries refused spells are =
    let found = behind Names one refused.before refused.line refused.behind refused.entries entries refused.spells (subst (λ ls. AllZip (λ line entry. Spells Names line entry) ls entries) refused.are spells) in
    never_bad Names one own refused.entries found.rest refused.line found.entry why (subst (λ es. AreLinks own es) found.are are) found.spells refused.bad

-- ---- files

abbrev links_of : {N : Type 0} → List ℕ → List (Entry N) → Links N
links_of own entries = record { own = own; entries = entries }

same_links : {N : Type 0} (a b : Links N) → a.own ≡ b.own → a.entries ≡ b.entries → a ≡ b
same_links a b own entries = ap (λ x. links_of x a.entries) own ∙ ap (λ x. links_of b.own x) entries

pub one_head_file : OneHeadFile
one_head_file = record {
  one = λ text head a b x y. same_links a b (x.own ∙ sym y.own) (one_list NamesMeter one_meter (lines_of text) a.entries b.entries x.spells y.spells);
  never_both = λ text head number why file refused x.
      none_spelled NamesMeter one_meter (head_title head) 1 (lines_of text) number why file.entries refused x.spells (subst (λ own. AreLinks own file.entries) x.own x.links);
}

same_first : (a b : List ℕ) (xs ys : List (List ℕ)) → a ∷ xs ≡ b ∷ ys → a ≡ b
same_first a b xs ys e = cc e

same_others : (a b : List ℕ) (xs ys : List (List ℕ)) → a ∷ xs ≡ b ∷ ys → xs ≡ ys
same_others a b xs ys e = cc e

one_meter_links : (text : List ℕ) (a b : Links SocketAddr) → SpellsMeterKeys text a → SpellsMeterKeys text b → a ≡ b
one_meter_links text a b x y =
    let same : x.first ∷ x.others ≡ y.first ∷ y.others = sym x.lines ∙ y.lines in
    let first = same_first x.first y.first x.others y.others same in
    let others = same_others x.first y.first x.others y.others same in
    same_links a b (same_bytes (decode_sized y.first 8) a.own b.own (subst (λ l. decode_sized l 8 ≡ Ok a.own) first x.own) y.own)
    (one_list IsSocketText one_head y.others a.entries b.entries (subst (λ ls. AllZip (λ line entry. Spells IsSocketText line entry) ls a.entries) others x.spells) y.spells)

no_meter_links : (text : List ℕ) (number : ℕ) (why : BadLine) (file : Links SocketAddr) → HasNoLinks text number why → SpellsMeterKeys text file → ⊥
no_meter_links text number why file refused x =
    let same : x.first ∷ x.others ≡ refused.first ∷ refused.others = sym x.lines ∙ refused.lines in
    let first = same_first x.first refused.first x.others refused.others same in
    let others = same_others x.first refused.first x.others refused.others same in
    let own : file.own ≡ refused.own = same_bytes (decode_sized refused.first 8) file.own refused.own (subst (λ l. decode_sized l 8 ≡ Ok file.own) first x.own) refused.is_own in
    none_spelled IsSocketText one_head refused.own 2 refused.others number why file.entries refused.none
    (subst (λ ls. AllZip (λ line entry. Spells IsSocketText line entry) ls file.entries) others x.spells) (subst (λ t. AreLinks t file.entries) own x.links)

no_meter_file : (text : List ℕ) (number : ℕ) (why : BadLine) (file : Links SocketAddr) → NoMeterKeys text number why → SpellsMeterKeys text file → ⊥
no_meter_file text number BadTitle file refused x = refused.1 x.first file.own x.others x.lines x.own
no_meter_file text number BadFields file refused x = no_meter_links text number BadFields file refused x
no_meter_file text number BadName file refused x = no_meter_links text number BadName file refused x
no_meter_file text number TitlesEqual file refused x = no_meter_links text number TitlesEqual file refused x
no_meter_file text number KeyTwice file refused x = no_meter_links text number KeyTwice file refused x
no_meter_file text number NameTwice file refused x = no_meter_links text number NameTwice file refused x

pub one_meter_file : OneMeterFile
one_meter_file = record { one = one_meter_links; never_both = no_meter_file }
